-- What a stage leaves, that was opened on images that start.
use Rattle.std.proofs.Common.{◌≡◌, ℕ, ◌+◌, ◌^◌, ◌<◌, ◌≤◌, ◌||◌, ◌⊎◌, inl, inr, true, false, List, ◌++◌, length, Option, Some, None, refl, ap, sym, subst, ◌∙◌, arith, ◌*◌, zero, suc}
use Rattle.std.specs.Prelude.{IfSome, nat_lt, nat_le}
use Rattle.std.specs.List.{list_all}
use Rattle.std.proofs.lemmas.Bool.{leb-true, ltb-true, or_cases}
use Rattle.units.specs.declared.disk.Sector.{Sector}
use Rattle.device_log.specs.Log.{Call, OnlyReads}
use Rattle.member_bank.specs.Told.{Keeps}
use Rattle.array_model.specs.Kept.{ScriptState, asked_by}
use Rattle.array_model.specs.Rests.{HasComeToRest}
use Rattle.array_model.specs.FailureLaw.{EndsAtFailure}
use Rattle.array_model.specs.Room.{BeginsWithRoom}
use Rattle.member_bank.specs.Faults.{Rose}
use Rattle.member_bank.specs.declared.Bank as bank_of
use Rattle.stage_machine.specs.Machine.{Action}
use Rattle.control_state.specs.Still.{is_still}
use Rattle.control_state.specs.Book.{laid_at}
use Rattle.control_state.specs.Seen.{numbers}
use Rattle.stage_machine.specs.Machine.{Control}
use Rattle.first_opening.specs.Opened.{Opened, targets_of, members_of, is_first_op}
use Rattle.stage.specs.declared.open.Opening.{Opening}
use Rattle.stage.specs.declared.ends.DriveEnd.{DriveEnd}
use Rattle.stage.specs.declared.ends.DriveEnd.TheVariants.{Over, Full, Member}
use Rattle.stage.specs.Stages.{Given, Seen, setting_of}
use Rattle.stage.specs.Runs as stage
use Rattle.stage.specs.Opens.{given_by, IsOpened}
use Rattle.stage.specs.Drives.{Follows, EndsBy, AllStill}
use Rattle.stage.specs.Causes.{KeepsBank}
use Rattle.stage_law.specs.Runs.{IsRunOn, AsksRows, given_on, shape_on, start_of}
use Rattle.stage_law.specs.Laws.{KeepsForm, KeepsLaws, IsSince, IsLeftClean}
use Rattle.image_outside.specs.Told.{bank_told}
use Rattle.image_verdict.specs.declared.images.ImageRead.{ImageRead}
use Rattle.image_verdict.specs.Images.{anchor_reads, sizes_of_all, HasReadAnchors, IsFoundOn, StandIn}
use Rattle.image_verdict.proofs.Reading.{anchors_only_read, found_later}
use Rattle.image_start.specs.Starts.{Starts}
use Rattle.image_start.specs.Openings.{Opens, opened_on}
use Rattle.image_start.proofs.Contents.{is-opening}
use Rattle.image_start.proofs.Images.{length-serials}
use Rattle.image_replay.specs.Runs.{HasEnded, LeavesRun, failed_disk}
use Rattle.stage_law.proofs.Laws.{same_behind}
use Rattle.member_bank.proofs.Faults.{rose_later}

-- what a stage takes as given is what the laws take
given_same : (o : Opening) (opened : Opened) (script : ScriptState) (sizes : List ℕ) → Opens o opened → sizes ≡ opened.sizes → given_by o script sizes ≡ given_on opened script.ops
given_same o opened script sizes opens sized =
    let by : (t : List ℕ) (m : List ℕ) (p s : ℕ) (a : Sector) (x : List ℕ) → Given = λ t m p s a x. record { ops = script.ops; targets = t; members = m; pba = p; size = s; newest = laid_at a; sizes = x } in
    ap (λ t. by t (numbers o.members.items) o.pba o.size o.newest sizes) opens.targets
    ∙ ap (λ m. by (targets_of opened) m o.pba o.size o.newest sizes) opens.members
    ∙ ap (λ p. by (targets_of opened) (members_of opened) p o.size o.newest sizes) opens.pba
    ∙ ap (λ s. by (targets_of opened) (members_of opened) (shape_on opened).pba s o.newest sizes) opens.size
    ∙ ap (λ a. by (targets_of opened) (members_of opened) (shape_on opened).pba (shape_on opened).size a sizes) opens.newest
    ∙ ap (λ x. by (targets_of opened) (members_of opened) (shape_on opened).pba (shape_on opened).size opened.anchor x) sized

-- what is so of all that may be told is so where it is told
if_told : {T : Type 0} (P : T → Type 0) (told : Option T) → ((t : T) → told ≡ Some t → P t) → IfSome told P
if_told P None each = tt
if_told P (Some t) each = each t refl

mul_le : (a c n : ℕ) → a ≤ c → a * n ≤ c * n
mul_le a c zero le = omega arith
mul_le a c (suc n) le = let more = mul_le a c n le in omega (arith, le, more)

-- Where too many calls were made, or the journal has too little room left, it has too little room left: a run of so few
-- entries, on at most 16 disks, doesn't make so many calls.
pub no_room : (limit entries calls disks : ℕ) → limit ≤ 2 ^ 20 → disks ≤ 16 → calls ≤ (2 * disks + 4) * entries
    → (nat_lt limit (entries + 4) || nat_le (2 ^ 48) calls) ≡ true → limit < entries + 4
no_room limit entries calls disks small few made full = at (or_cases (nat_lt limit (entries + 4)) (nat_le (2 ^ 48) calls) full) where
  at : (nat_lt limit (entries + 4) ≡ true) ⊎ (nat_le (2 ^ 48) calls ≡ true) → limit < entries + 4
  at (inl little) = ltb-true limit (entries + 4) little
  at (inr many) =
      let calls_many = leb-true (2 ^ 48) calls many in
      let most = mul_le (2 * disks + 4) 36 entries (omega (arith, few)) in
      omega (arith, small, made, calls_many, most)

read_before : (log : Option (List Call)) (reads : List Call) → IfSome log (λ l. l ≡ reads) → (before : List Call) → log ≡ Some before → before ≡ reads
read_before log reads made before is = subst (λ (l : Option (List Call)). IfSome l (λ x. x ≡ reads)) is made

pub only_anchors : (log : Option (List Call)) (images : List ImageRead) → IfSome log (λ l. l ≡ anchor_reads images) → stage.TellsOnlyReads log
only_anchors log images made all known =
    let same : all ≡ anchor_reads images = read_before log (anchor_reads images) made all known in
    subst OnlyReads (sym same) (anchors_only_read images)

module _ {B : Type 0} (ghosts : bank_of.Ghosts B) (bank : B) (op : Opening) (images : List ImageRead) (script : ScriptState) (limit : ℕ)
    (first last : Seen B) (end : DriveEnd) (reads : HasReadAnchors (bank_told ghosts bank) images)
    (is : IsOpened first bank (given_by op script (ghosts.sizes bank)) limit) (follows : Follows first last)
    (kept : KeepsBank ghosts.serials ghosts.sizes ghosts.log ghosts.faults_of first last) (keeps : Keeps (ghosts.opening first.bank) (ghosts.opening last.bank))
    (ends : EndsBy last end) (over : end ≡ Over → AllStill last) where
  -- the run's calls stand behind those that were told when it began
  behind : (all : List Call) → ghosts.log last.bank ≡ Some all → (run : List Call) → IsSince last.calls all run → all ≡ anchor_reads images ++ run
  behind all known run since =
      let grown = kept.grows.by all known in
      let count = grown.4 in
      let none = is.no_calls in
      let counted = since.counted in
      let same : run ≡ grown.1 = same_behind since.before run grown.0 grown.1 (sym since.joined ∙ grown.3) (omega (arith, count, none, counted)) in
      let made : grown.0 ≡ anchor_reads images = read_before (ghosts.log bank) (anchor_reads images) reads grown.0 (ap ghosts.log (sym is.bank_kept) ∙ grown.2) in
      grown.3 ∙ ap (λ xs. xs ++ grown.1) made ∙ ap (λ xs. anchor_reads images ++ xs) (sym same)

  -- the bank is still that of the images
  pub found_still : IsFoundOn (bank_told ghosts bank) images → IsFoundOn (bank_told ghosts last.bank) images
  found_still found =
      let same : first.bank ≡ bank = is.bank_kept in
      found_later (bank_told ghosts bank) (bank_told ghosts last.bank) images
      (kept.serials_kept ∙ ap ghosts.serials same) (kept.sizes_kept ∙ ap ghosts.sizes same) (subst (λ (b : B). (d : ℕ) → ghosts.faults_of b d ≤ ghosts.faults_of last.bank d) same kept.later)
      (subst (λ (b : B). Keeps (ghosts.opening b) (ghosts.opening last.bank)) same keeps)
      (λ all known. let grown = kept.grows.by all known in (grown.0, ap ghosts.log (sym same) ∙ grown.2)) found

  failed_on : last.control.failed ≡ failed_disk end
  failed_on = at end ends over where
    at : (e : DriveEnd) → EndsBy last e → (e ≡ Over → AllStill last) → last.control.failed ≡ failed_disk e
    at Over by still = (still refl).live
    at Full by still = by.live
    at (Member d) by still = by

  module _ (contents : List (List Sector)) (starts : Starts images) (stands : StandIn images contents) (sized : ghosts.sizes bank ≡ sizes_of_all images)
      (rows : AsksRows script.ops) (low : list_all is_first_op script.ops ≡ true) (opens : Opens op (opened_on images contents)) where
    abbrev pub o : Opened
    o = opened_on images contents

    pub run_on : IsRunOn o (asked_by script) last.given
    run_on = record {
      opens = is-opening images contents starts stands;
      found = follows.given ∙ is.takes ∙ given_same op o script (ghosts.sizes bank) opens sized;
      asks = low;
    }

    ended : limit ≤ 2 ^ 20 → KeepsForm (start_of o) (asked_by script) last.calls last.journal → (AllStill last → HasComeToRest (start_of o) script.ops last.journal)
        → ((actor : Action) → is_still (setting_of last.given) last.control actor ≡ false → HasComeToRest (start_of o) script.ops last.journal → ⊥)
        → HasEnded (start_of o) script.ops limit (ghosts.faults_of last.bank) last.journal end
    ended small form rests works = at end ends over where
      few : length o.serials ≤ 16
      few = let same : length o.serials ≡ length images = length-serials images in let most = starts.few in omega (arith, same, most)

      live : first.control.failed ≡ None
      live = ap (λ (c : Control). c.failed) is.begins

      at : (e : DriveEnd) → EndsBy last e → (e ≡ Over → AllStill last) → HasEnded (start_of o) script.ops limit (ghosts.faults_of last.bank) last.journal e
      at Over by still = rests (still refl)
      at Full by still = (
        works by.actor by.waits,
        no_room limit (length last.journal) last.calls (length o.serials) small few form.few
            (subst (λ room. (nat_lt room (length last.journal + 4) || nat_le (2 ^ 48) last.calls) ≡ true) (follows.room ∙ is.room) by.full),
      )
      at (Member d) by still = rose_later 0 (ghosts.faults_of first.bank d.0) (ghosts.faults_of last.bank d.0) (omega arith) (kept.cause live d.0 by)

    pub leaves : KeepsForm (start_of o) (asked_by script) last.calls last.journal
        → ((all : List Call) → ghosts.log last.bank ≡ Some all → (run : List Call) × IsSince last.calls all run × KeepsLaws o (asked_by script) (ghosts.opening last.bank) run last.journal
        × (AsksRows script.ops → AllStill last → IsLeftClean (start_of o) run last.journal))
        → (AsksRows script.ops → AllStill last → HasComeToRest (start_of o) script.ops last.journal)
        → ((actor : Action) → is_still (setting_of last.given) last.control actor ≡ false → HasComeToRest (start_of o) script.ops last.journal → ⊥)
        → ((all run : List Call) → ghosts.log last.bank ≡ Some all → IsSince last.calls all run → EndsAtFailure run last.journal last.control.failed)
        → BeginsWithRoom last.room last.journal → limit ≤ 2 ^ 20
        → LeavesRun o (asked_by script) limit (anchor_reads images) (bank_told ghosts last.bank) last.journal end
    leaves form laws rests works fails room small = record {
      calls = last.calls;
      form = form;
      room = subst (λ most. BeginsWithRoom most last.journal) (follows.room ∙ is.room) room;
      cause = ended small form (rests rows) works;
      told = if_told _ (ghosts.log last.bank) (λ all known.
          let it = laws all known in
          record {
            run = it.0;
            joined = behind all known it.0 it.1;
            counted = it.1.counted;
            laws = it.2;
            failed = subst (EndsAtFailure it.0 last.journal) failed_on (fails all it.0 known it.1);
            clean = λ all_done. it.3 rows (over all_done);
          });
    }
