-- What all targets hold, from turn to turn.
use Rattle.std.proofs.Common.{◌≡◌, ℕ, ◌+◌, ◌-◌, ◌==◌, Bool, true, false, List, [], ◌∷◌, ◌++◌, refl, ap, sym, ◌∙◌, subst, arith, inl, Option}
use Rattle.std.specs.Prelude.{⊤}
use Rattle.std.proofs.lemmas.Bool.Decides.{nat_tests}
use Rattle.units.specs.declared.disk.Sector.{Sector}
use Rattle.units.specs.Places.{anchor_place}
use Rattle.device_log.specs.Log.{Call, What, Write, Sync}
use Rattle.device_log.specs.Cells.{resting}
use Rattle.array_model.specs.declared.journal.Event.{Event}
use Rattle.array_model.specs.Blocks.{Laid}
use Rattle.array_model.specs.Candidates.{Disk, standing, standing_from, disk_after, opened, opened_with}
use Rattle.array_model.specs.Renewal.{FitsGeneration}
use Rattle.stage_machine.specs.Setting.{Setting, Renews, has_disk}
use Rattle.stage_machine.specs.Opens.{SaysAll, StandsOnAll, IsFirstVolume}
use Rattle.stage_machine.specs.Rounds.{Step, AtAnchor, AtSync, Phase, Rest, Going, Round}
use Rattle.stage_machine.specs.Jobs.{JobStep, Busy, Writes, the_shape, row_at, value_at}
use Rattle.stage_machine.specs.Machine.{Control, need_now, World, Reached, opens, goes, got_of, log_after}
use Rattle.stage_machine.proofs.Turns.{Turns, turns_of, Has, AsksFor, anchor, settle, put, sync, get, nothing, fails, anchors, settles, ends, begins, readies, actives, cleans, rests, pasts, asks_read, asks_write, puts, syncs, gets, acks}
use Rattle.stage_machine.proofs.Clients.{Mine, mine_reached, of_job, NeedIn, need_in, row_below}
use Rattle.stage_machine.proofs.Blocks.{disk-snoc, IsAlone, IsRow}
use Rattle.stage_machine.proofs.Stands.{GoodRound, going_good, good_reached, fitted, Settled, StandsAs, Mixed, RowCall, row_write, row_read, row_sync, after, mixed_of, mixed_last, synced_settled, settled_row, mixed_row, row_stands, mixed_anchor, anchored}
use Rattle.stage_machine.proofs.Marks.{metadata_fits}

abbrev pub IsFirst : ℕ → List ℕ → Type 0
IsFirst d [] = ⊥
IsFirst d (e ∷ es) = e ≡ d

-- a target in a round: it has the round's block alone once it isn't among those left
pub record Under (S : Setting) (last m : Laid) (d : ℕ) (k : Disk) (left : List ℕ) : Type 0 where
  pub mixed : Mixed S d last m k
  pub done : has_disk d left ≡ false → Settled S d m k

abbrev pub GoingIn : Setting → Laid → Laid → ℕ → Disk → List ℕ → Step → Type 0
GoingIn S last m d k left AtAnchor = Under S last m d k left
GoingIn S last m d k left AtSync = Under S last m d k left × (IsFirst d left → StandsAs S d m k)

abbrev pub StandsIn : Setting → Laid → ℕ → Disk → Phase → Type 0
StandsIn S last d k Rest = Settled S d last k
StandsIn S last d k (Going m step left) = GoingIn S last m d k left step

abbrev pub disk : Setting → List Call → ℕ → Disk
disk S log d = disk_after S.start.words S.start.disks log d

-- a disk holds what the place of the round says, with a block of its own for that of the last finished round: before the
-- first round these may differ behind their ends
pub record Held (S : Setting) (last : Laid) (d : ℕ) (k : Disk) (phase : Phase) : Type 0 where
  pub block : Laid
  pub says : SaysAll S.start.words block last
  pub alone : IsAlone S.start.words block
  pub stands : StandsIn S block d k phase

-- each target does
abbrev pub Stand : Setting → List Call → Round → Type 0
Stand S log r = (d : ℕ) → has_disk d S.targets ≡ true → Held S r.last d (disk S log d) r.phase

says_itself : (S : Setting) (m : Laid) → SaysAll S.start.words m m
says_itself S m = record {
  extra = refl;
  generation = refl;
  dirty = λ v. refl;
  same = record { container = refl; expects = λ serial. refl; is_supported = λ v. refl; pass = λ v. refl; slots = λ v. refl };
  whole = λ serial sectors. refl;
}

-- the block of a round that has ended
held_alone : (S : Setting) (m : Laid) (d : ℕ) (k : Disk) → IsAlone S.start.words m → Settled S d m k → Held S m d k Rest
held_alone S m d k alone settled = record { block = m; says = says_itself S m; alone = alone; stands = settled }

-- the same block at another place of the round
held_by : (S : Setting) (last : Laid) (d : ℕ) (k l : Disk) (p q : Phase) (h : Held S last d k p) → StandsIn S h.block d l q → Held S last d l q
held_by S last d k l p q h stands = record { block = h.block; says = h.says; alone = h.alone; stands = stands }

-- A CALL ON ONE DISK

abbrev pub call : ℕ → What → Bool → Call
call e what went = record { disk = e; what = what; went = went }

pub on_disk : (S : Setting) (log : List Call) (e d : ℕ) (what : What) (went : Bool) → (e == d) ≡ true
    → disk S (log ++ call e what went ∷ []) d ≡ after S d (disk S log d) what went
on_disk S log e d what went is = disk-snoc S.start.words S.start.disks d (opened S.start.words S.start.disks d) log (call e what went) ∙ rw is refl

pub off_disk : (S : Setting) (log : List Call) (e d : ℕ) (what : What) (went : Bool) → (e == d) ≡ false
    → disk S (log ++ call e what went ∷ []) d ≡ disk S log d
off_disk S log e d what went is = disk-snoc S.start.words S.start.disks d (opened S.start.words S.start.disks d) log (call e what went) ∙ rw is refl

-- a fact of a disk, carried over a call: once for the disk that is called, once for another
pub lift : (S : Setting) (P Q : Disk → Type 0) (log : List Call) (e d : ℕ) (what : What) (went : Bool)
    → P (disk S log d) → ((e ≡ d) → (k : Disk) → P k → Q (after S d k what went)) → ((e == d) ≡ false → (k : Disk) → P k → Q k)
    → Q (disk S (log ++ call e what went ∷ []) d)
lift S P Q log e d what went p here other = at (e == d) refl
  where
    at : (b : Bool) → (e == d) ≡ b → Q (disk S (log ++ call e what went ∷ []) d)
    at true is = let equal : e ≡ d = grind (arith, nat_tests, is) in subst Q (sym (on_disk S log e d what went is)) (here equal (disk S log d) p)
    at false is = subst Q (sym (off_disk S log e d what went is)) (other is (disk S log d) p)

-- CALLS AT ROWS

pub row_inside : (S : Setting) → IsFirstVolume S → (c : Control) (k i : ℕ) (left : List ℕ) (step : JobStep) (d : ℕ) → Mine S c → Has c k left (Busy i step) → has_disk d S.members ≡ true
    → IsRow (S.start.disks.sectors d) ((the_shape S).pba + row_at S i)
row_inside S volume c k i left step d mine has_disk member =
    let job = of_job S c k i left step mine has_disk in
    let below = row_below S volume.level i job.place job.placed in
    let room = volume.room d (volume.members d member).target in
    omega (arith, below, room, volume.rows)

-- a call at a row leaves what stands by any place of the round
row_stays : (S : Setting) (last : Laid) (d : ℕ) (k : Disk) (phase : Phase) (what : What) (went : Bool) → IsAlone S.start.words last → ((m : Laid) (step : Step) (left : List ℕ) → phase ≡ Going m step left → IsAlone S.start.words m)
    → RowCall S d what → StandsIn S last d k phase → StandsIn S last d (after S d k what went) phase
row_stays S last d k Rest what went lone alone row h = settled_row S d last k what went lone row h
row_stays S last d k (Going m AtAnchor left) what went lone alone row h =
    let one = alone m AtAnchor left refl in
    record { mixed = mixed_row S d last m k what went lone one row h.mixed; done = λ out. settled_row S d m k what went one row (h.done out) }
row_stays S last d k (Going m AtSync left) what went lone alone row h =
    let one = alone m AtSync left refl in (
      record { mixed = mixed_row S d last m k what went lone one row h.0.mixed; done = λ out. settled_row S d m k what went one row (h.0.done out) },
      λ first. row_stands S d m k what went row (h.1 first),
    )

module _ (S : Setting) (volume : IsFirstVolume S) (log : List Call) (c : Control) (mine : Mine S c) (good : GoodRound S c.round) (stand : Stand S log c.round) where
  alone_of : (m : Laid) (step : Step) (left : List ℕ) → c.round.phase ≡ Going m step left → IsAlone S.start.words m
  alone_of m step left is = (going_good S c.round m step left good is).alone

  -- a call at a row of disk e
  stand_row : (e : ℕ) (what : What) (went : Bool) → RowCall S e what → Stand S (log ++ call e what went ∷ []) c.round
  stand_row e what went row d target =
      lift S (λ k. Held S c.round.last d k c.round.phase) (λ k. Held S c.round.last d k c.round.phase) log e d what went (stand d target)
      (λ here k h. held_by S c.round.last d k _ c.round.phase c.round.phase h (row_stays S h.block d k c.round.phase what went h.alone alone_of (subst (λ z. RowCall S z what) here row) h.stands))
      (λ other k h. h)

  stand_put : (k i : ℕ) (left : List ℕ) (step : JobStep) (e : ℕ) (ds : List ℕ) (stored : ℕ) (went : Bool) → Has c k left (Busy i step) → need_now S c k i step ≡ Writes e ds
      → Stand S (log ++ call e (Write ((the_shape S).pba + row_at S i) (value_at S i ∷ []) stored) went ∷ []) c.round
  stand_put k i left step e ds stored went has_disk need =
      let job = of_job S c k i left step mine has_disk in
      let member = (subst (NeedIn S.members) need (need_in S c k i step job.inside)).0 in
      stand_row e _ went (row_write _ stored _ (row_inside S volume c k i left step e mine has_disk member))

  -- what a target holds while a round is going on
  held_going : (m : Laid) (step : Step) (left : List ℕ) → c.round.phase ≡ Going m step left → (d : ℕ) → has_disk d S.targets ≡ true → Held S c.round.last d (disk S log d) (Going m step left)
  held_going m step left is d target = subst (Held S c.round.last d (disk S log d)) is (stand d target)

  -- an anchor is written, gone through or not
  stand_anchor : (m : Laid) (e : ℕ) (ds : List ℕ) (stored : ℕ) (went : Bool) → c.round.phase ≡ Going m AtAnchor (e ∷ ds)
      → (d : ℕ) → has_disk d S.targets ≡ true
      → Held S c.round.last d (disk S (log ++ call e (Write (anchor_place (S.start.disks.sectors e)) (m.anchor ∷ []) stored) went ∷ []) d) (Going m AtAnchor (e ∷ ds))
  stand_anchor m e ds stored went is d target = held_by S c.round.last d (disk S log d) _ (Going m AtAnchor (e ∷ ds)) (Going m AtAnchor (e ∷ ds)) held (
      lift S (λ k. Under S held.block m d k (e ∷ ds)) (λ k. Under S held.block m d k (e ∷ ds)) log e d _ went held.stands
      (λ here k h. subst (λ z. Under S held.block m d (after S d k (Write (anchor_place (S.start.disks.sectors z)) (m.anchor ∷ []) stored) went) (e ∷ ds)) (sym here) (record {
        mixed = mixed_anchor S d held.block m k stored went (metadata_fits S volume d target) (alone_of m AtAnchor (e ∷ ds) is) h.mixed;
        done = λ out. absurd (first_in e d ds here out);
      }))
      (λ other k h. h))
    where
      held : Held S c.round.last d (disk S log d) (Going m AtAnchor (e ∷ ds))
      held = held_going m AtAnchor (e ∷ ds) is d target

      first_in : (e d : ℕ) (ds : List ℕ) → e ≡ d → has_disk d (e ∷ ds) ≡ false → ⊥
      first_in e d ds here out = let is : (e == d) ≡ true = grind (arith, nat_tests, here) in absurd (let yes_in : has_disk d (e ∷ ds) ≡ true = rw is refl in cc (yes_in, out))

  stand_anchored : (m : Laid) (e : ℕ) (ds : List ℕ) → c.round.phase ≡ Going m AtAnchor (e ∷ ds)
      → (d : ℕ) → has_disk d S.targets ≡ true → IsFirst d (e ∷ ds)
      → StandsAs S d m (disk S (log ++ call e (Write (anchor_place (S.start.disks.sectors e)) (m.anchor ∷ []) 1) true ∷ []) d)
  stand_anchored m e ds is d target first =
      lift S (λ k. ⊤) (λ k. StandsAs S d m k) log e d _ true tt
      (λ here k h. subst (λ z. StandsAs S d m (after S d k (Write (anchor_place (S.start.disks.sectors z)) (m.anchor ∷ []) 1) true)) (sym here) (anchored S d m k (metadata_fits S volume d target) (alone_of m AtAnchor (e ∷ ds) is)))
      (λ other k h. absurd (let is_here : (e == d) ≡ true = grind (arith, nat_tests, first) in cc (is_here, other)))

  -- the sync of the first target that is left
  stand_synced : (m : Laid) (e : ℕ) (ds : List ℕ) → c.round.phase ≡ Going m AtSync (e ∷ ds)
      → (d : ℕ) → has_disk d S.targets ≡ true → Held S c.round.last d (disk S (log ++ call e Sync true ∷ []) d) (Going m AtAnchor ds)
  stand_synced m e ds is d target =
      let it = going_good S c.round m AtSync (e ∷ ds) good is in
      let held = held_going m AtSync (e ∷ ds) is d target in
      held_by S c.round.last d (disk S log d) _ (Going m AtSync (e ∷ ds)) (Going m AtAnchor ds) held (
      lift S (λ k. GoingIn S held.block m d k (e ∷ ds) AtSync) (λ k. Under S held.block m d k ds) log e d Sync true held.stands
      (λ here k h. let settled = synced_settled S d m k it.alone (it.whole d target) (h.1 here) in record { mixed = mixed_of S d held.block m (after S d k Sync true) settled; done = λ out. settled })
      (λ other k h. record { mixed = h.0.mixed; done = λ out. h.0.done (rw other out) }))

  stand_fails : (e : ℕ) (what : What) → AsksFor S c e what → Stand S (log ++ call e what false ∷ []) c.round
  stand_fails _ _ (anchor m d ds stored is) = λ x target. subst (Held S c.round.last x _) (sym is) (stand_anchor m d ds stored false is x target)
  stand_fails _ _ (settle m d ds is) = stand_row d Sync false row_sync
  stand_fails _ _ (put k i left step d ds stored has_disk need) = stand_put k i left step d ds stored false has_disk need
  stand_fails _ _ (sync k i left step d ds has_disk need) = stand_row d Sync false row_sync
  stand_fails _ _ (get k i left step d has_disk need) = stand_row d _ false (row_read _)

  -- each turn
  pub stand_turns : (got : Sector) {call : Option Call} {es : List Event} {next : Control} → Turns S c got call es next → Stand S (log_after log call) next.round
  stand_turns got nothing = stand
  stand_turns got (fails d what asked) = stand_fails d what asked
  stand_turns got (anchors m d ds is) = λ x target.
      let held = stand_anchor m d ds 1 true is x target in
      held_by S c.round.last x _ _ (Going m AtAnchor (d ∷ ds)) (Going m AtSync (d ∷ ds)) held (held.stands, stand_anchored m d ds is x target)
  stand_turns got (settles m d e ds is) = stand_synced m d (e ∷ ds) is
  stand_turns got (ends m d is) = λ x target.
      held_alone S m x _ (alone_of m AtSync (d ∷ []) is) ((stand_synced m d [] is x target).stands.done refl)
  stand_turns got (begins d ds is some why) = λ x target.
      let held = subst (Held S c.round.last x (disk S log x)) is (stand x target) in
      let inside : has_disk x (d ∷ ds) ≡ true = subst (λ z. has_disk x z ≡ true) some (subst (λ z. has_disk x z ≡ true) (sym good.working) target) in
      held_by S c.round.last x (disk S log x) (disk S log x) Rest (Going _ AtAnchor (d ∷ ds)) held (record { mixed = mixed_last S x held.block _ (disk S log x) held.stands; done = λ out. absurd (cc (inside, out)) })
  stand_turns got (readies is s t) = stand
  stand_turns got (actives is s t r) = stand
  stand_turns got (cleans is s t) = stand
  stand_turns got (rests t calm) = stand
  stand_turns got (pasts k i rest has_disk none) = stand
  stand_turns got (asks_read k i rest place has_disk is w live) = stand
  stand_turns got (asks_write k i rest place has_disk is w live) = stand
  stand_turns got (puts k i left step d ds has_disk need) = stand_put k i left step d ds 1 true has_disk need
  stand_turns got (syncs k i left step d ds has_disk need) = stand_row d Sync true row_sync
  stand_turns got (gets k i left step d has_disk need) = stand_row d _ true (row_read _)
  stand_turns got (acks k i left step answer has_disk need) = stand

-- what stood on a disk at opening
abbrev first_block : Setting → ℕ → Laid
first_block S d = standing S.start.words (S.start.disks.sectors d) (λ p. resting (S.start.disks.opening d p))

first_alone : (S : Setting) → StandsOnAll S → (d : ℕ) → has_disk d S.targets ≡ true → IsAlone S.start.words (first_block S d)
first_alone S on d target =
    let none = (on.stands d target).extra ∙ on.alone in
    record {
      extra = none;
      short = ap (λ n. standing_from (λ p. resting (S.start.disks.opening d p)) (anchor_place (S.start.disks.sectors d) - n) n) none;
    }

opened_held : (S : Setting) → StandsOnAll S → (d : ℕ) → has_disk d S.targets ≡ true → Held S S.start.newest d (opened S.start.words S.start.disks d) Rest
opened_held S on d target = record {
  block = first_block S d;
  says = on.stands d target;
  alone = first_alone S on d target;
  stands = subst (Settled S d (first_block S d)) (sym known) (record { candidates = refl; stands = refl; known = inl refl });
}
  where
    known : opened S.start.words S.start.disks d ≡ opened_with S.start.words (λ p. resting (S.start.disks.opening d p)) (first_block S d) true
    known = ap (opened_with S.start.words (λ p. resting (S.start.disks.opening d p)) (first_block S d)) (
        (on.stands d target).whole (S.start.disks.serial d) (S.start.disks.sectors d) ∙ on.whole d target
        )

pub stand_reached : (S : Setting) → Renews S → StandsOnAll S → IsFirstVolume S → (w : World) → FitsGeneration w.control.round.note → Reached S w → Stand S w.log w.control.round
stand_reached S renews on volume w fits opens = opened_held S on
stand_reached S renews on volume w fits (goes {w = v} r a) =
    let before = fitted S v a fits in
    stand_turns S volume v.log v.control (mine_reached S v r) (good_reached S renews on v before r) (stand_reached S renews on volume v before r) (got_of a) (turns_of S v.control a)
