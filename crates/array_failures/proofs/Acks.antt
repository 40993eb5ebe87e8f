-- A write that is answered as done: no slot that it goes to has a blocked disk, so each disk that it was meant for, and
-- that failed, is durably called failed.
use Rattle.std.proofs.Common.{◌≡◌, ℕ, zero, suc, ◌+◌, ◌<◌, ◌≤◌, nat_lt, Bool, true, false, cond, List, [], ◌∷◌, refl, ap, sym, ◌∙◌, subst, arith, Option, Some, None, ◌⊎◌, inl, inr, slice_get}
use Rattle.std.specs.Prelude.{filter}
use Rattle.std.specs.List.{AllByRecursion, range_with_len}
use Rattle.std.specs.Option.{option_map_or}
use Rattle.std.specs.Str.{bytes_eq}
use Rattle.std.proofs.lemmas.Slice.Eq.{bytes_eq-Decides}
use Rattle.device_log.specs.Log.{Call}
use Rattle.array_model.specs.declared.journal.Entry.{Entry}
use Rattle.array_model.specs.declared.journal.Answer.{Answer}
use Rattle.array_model.specs.Blocks.{Laid, SlotWords}
use Rattle.array_model.specs.Placement.{Placement}
use Rattle.array_model.specs.Rounds.{DurableOnWorking}
use Rattle.array_model.specs.FailureLaw.{ExpectsInSlot}
use Rattle.array_disks.proofs.Members.{durable}
use Rattle.array_machine.specs.Setting.{Setting}
use Rattle.array_machine.specs.Numbers.{has, first_of}
use Rattle.array_machine.specs.Volumes.{Slot, disk_in, same_disk, Member, member_at, member_of, members_of, volume_at}
use Rattle.array_machine.specs.Clients.{Row}
use Rattle.array_machine.specs.RowJobs.{seen_as, members_since, members_for, pair_of, any_blocked, Answers, read_or, write_or, sync_or, answer_if}
use Rattle.array_machine.specs.Rounds.{expects, works}
use Rattle.array_machine.specs.RoundEnds.{disk_by, seat_of}
use Rattle.array_machine.specs.Control.{Control}
use Rattle.array_paths.specs.Ready.{Ready}
use Rattle.array_base.specs.Premises.{IsToldOf, Premises}
use Rattle.array_base.specs.Base.{ledger, disks_by, IsTrusted, Core}
use Rattle.array_base.proofs.Targets.{or_neither}
use Rattle.array_told.specs.Told.{Tells}
use Rattle.array_gate.proofs.Dirty.{works_trusted}
use Rattle.array_failures.specs.Recorded.{HasSeat, AreSeated, FailuresAreKept, IsGone, HasStill, WasFinished}
use Rattle.array_failures.proofs.Kept.{zip_at, finished_last}

-- BLOCKED SLOTS

-- the disk of a slot is blocked
abbrev pub is_blocked_in : List ℕ → List Slot → ℕ → Bool
is_blocked_in blocked slots s = option_map_or (λ d. has d blocked) (disk_in slots s) false

sees_blocked : (faults blocked : List ℕ) (slots : List Slot) (s : ℕ)
    → (member_at (members_of faults blocked slots) s).blocked ≡ is_blocked_in blocked slots s
sees_blocked faults blocked [] s = refl
sees_blocked faults blocked (x ∷ xs) zero = refl
sees_blocked faults blocked (x ∷ xs) (suc s) = sees_blocked faults blocked xs s

-- also a job that began before the slot got its disk
since_blocked : (ds : List (Option ℕ)) (faults blocked : List ℕ) (slots : List Slot) (s : ℕ)
    → (member_at (members_since ds faults blocked slots) s).blocked ≡ is_blocked_in blocked slots s
since_blocked [] faults blocked slots s = sees_blocked faults blocked slots s
since_blocked (d ∷ ds) faults blocked [] s = refl
since_blocked (d ∷ ds) faults blocked (x ∷ xs) zero = at (same_disk d x.disk)
  where
    at : (b : Bool) → (seen_as b (member_of faults blocked x)).blocked
        ≡ option_map_or (λ e. has e blocked) x.disk false
    at true = refl
    at false = refl
since_blocked (d ∷ ds) faults blocked (x ∷ xs) (suc s) = since_blocked ds faults blocked xs s

-- so a job sees a slot as blocked by the disk that is in it now
pub job_blocked : (r : Row) (faults blocked : List ℕ) (slots : List Slot) (s : ℕ)
    → (member_at (members_for r faults blocked slots) s).blocked ≡ is_blocked_in blocked slots s
job_blocked r faults blocked slots s = at r.begun
  where
    at : (b : Bool)
        → (member_at (cond b (members_since r.disks faults blocked slots) (members_of faults blocked slots)) s).blocked
        ≡ is_blocked_in blocked slots s
    at true = since_blocked r.disks faults blocked slots s
    at false = sees_blocked faults blocked slots s

-- both slots of a placement are unblocked where its pair is
pub pair_unblocked : (members : List Member) (p : Placement) → any_blocked members (pair_of p) ≡ false
    → ((member_at members p.main).blocked ≡ false) × ((member_at members p.other).blocked ≡ false)
pair_unblocked members p none = at (nat_lt p.main p.other) none
  where
    at : (b : Bool) → any_blocked members (cond b (p.main ∷ p.other ∷ []) (p.other ∷ p.main ∷ [])) ≡ false
        → ((member_at members p.main).blocked ≡ false) × ((member_at members p.other).blocked ≡ false)
    at true h =
        let first = or_neither (member_at members p.main).blocked _ h in
        let second = or_neither (member_at members p.other).blocked false first.1 in
        (first.0, second.0)
    at false h =
        let first = or_neither (member_at members p.other).blocked _ h in
        let second = or_neither (member_at members p.main).blocked false first.1 in
        (second.0, first.0)

-- a write is answered only where no slot of its pair is blocked
pub answered_free : (xs ys zs : List ℕ) (held : Bool) (answer given : Answer)
    → read_or xs (write_or ys (sync_or zs (answer_if held answer))) ≡ Answers given → held ≡ false
answered_free (x ∷ xs) ys zs held answer given is = absurd (cc is)
answered_free [] (y ∷ ys) zs held answer given is = absurd (cc is)
answered_free [] [] (z ∷ zs) held answer given is = absurd (cc is)
answered_free [] [] [] true answer given is = absurd (cc is)
answered_free [] [] [] false answer given is = refl

-- SEATS

-- the first of some numbers that passes a test
first_found : (p : ℕ → Bool) (a n d : ℕ) → a ≤ d → d < a + n → p d ≡ true
    → (e : ℕ) × (first_of (filter p (range_with_len a n)) ≡ Some e) × (p e ≡ true) × (e < a + n)
first_found p a zero d from below is = absurd (omega (arith, from, below))
first_found p a (suc n) d from below is =
    at (p a) refl (λ none. first_found p (a + 1) n d (later none) (omega (arith, below)) is)
  where
    later : p a ≡ false → a + 1 ≤ d
    later none = elim (apart a d from) [
      | inl same ↦ absurd (let here = ap p same ∙ is in cc (none, here))
      | inr more ↦ more
    ]
      where
        apart : (a d : ℕ) → a ≤ d → (a ≡ d) ⊎ (a + 1 ≤ d)
        apart a d le = grind (arith, le)

    at : (b : Bool) → p a ≡ b
        → (p a ≡ false → (e : ℕ) × (first_of (filter p (range_with_len (a + 1) n)) ≡ Some e) × (p e ≡ true)
        × (e < a + 1 + n))
        → (e : ℕ) × (first_of (cond b (a ∷ filter p (range_with_len (a + 1) n)) (filter p (range_with_len (a + 1) n)))
        ≡ Some e) × (p e ≡ true) × (e < a + suc n)
    at true here rest = (a, refl, here, omega arith)
    at false none rest =
        let found = rest none in let under = found.3 in (found.0, found.1, found.2, omega (arith, under))

module _ (S : Setting) (P : Premises S) where
  -- the words of a disk of the bank give the slot to it
  seat_of_own : (w : SlotWords) (d : ℕ) → d < S.start.disks.count → w.is_expected ≡ true
      → w.serial ≡ S.start.disks.serial d → seat_of S w ≡ Some d
  seat_of_own w d below expected same =
      subst (λ b. cond b (disk_by S w.serial) None ≡ Some d) (sym expected) by_serial
    where
      by_serial : disk_by S w.serial ≡ Some d
      by_serial =
          let found = first_found (λ e. bytes_eq (S.start.disks.serial e) w.serial) 0 S.start.disks.count d
          (omega arith) (omega (arith, below))
          ((bytes_eq-Decides (S.start.disks.serial d) w.serial).1 (sym same)) in
          let under : found.0 < S.start.disks.count = let u = found.3 in omega (arith, u) in
          let serial = (bytes_eq-Decides (S.start.disks.serial found.0) w.serial).0 found.2 in
          found.1 ∙ ap Some (P.serials found.0 d under below (serial ∙ same))

  all_at : {X : Type 0} (Q : X → Type 0) (xs : List X) → AllByRecursion Q xs → (i : ℕ) (x : X)
      → slice_get xs i ≡ Some x → Q x
  all_at Q [] all i x is = absurd cc
  all_at Q (y ∷ ys) all zero x is = let same : y ≡ x = cc is in subst Q same all.0
  all_at Q (y ∷ ys) all (suc i) x is = all_at Q ys all.1 i x is

  slot_there : (xs : List Slot) (i : ℕ) (x : Slot) → slice_get xs i ≡ Some x → disk_in xs i ≡ x.disk
  slot_there [] i x is = absurd cc
  slot_there (y ∷ ys) zero x is = let same : y ≡ x = cc is in ap (λ (z : Slot). z.disk) same
  slot_there (y ∷ ys) (suc i) x is = slot_there ys i x is

  -- WHAT THE DISKS SAY

  module _ (log : List Call) (c : Control) (journal : List Entry) (core : Core S P (disks_by S log) (ledger c.round))
      (told : Tells S c journal) where
    -- what is gone, each working member durably calls failed
    gone_durably : c.round.first ≡ false → (d : ℕ) (serial : List ℕ) → serial ≡ S.start.disks.serial d
        → IsGone S (disks_by S log) c d
        → DurableOnWorking S.start log journal (λ m. S.start.words.expects m serial ≡ false)
    gone_durably later d serial same gone m finished e working =
        let is = finished_last S P log journal c core told m finished in
        let expected : expects S c.round.last e ≡ true = ap (λ x. expects S x e) (sym is) ∙ working.expected in
        let sound : has e c.round.faults ≡ false = sym (told.faults e) ∙ working.sound in
        let works_now : works S c.round e ≡ true = rw (expected, sound) refl in
        let trusted : IsTrusted S (ledger c.round) e = works_trusted S c.round e later works_now in
        let holds = core.working e trusted in
        durable (λ a. S.start.words.expects a serial ≡ false) (disks_by S log e) holds.some (λ a i.
        let current = holds.candidates a i in
        ap (S.start.words.expects a) same
        ∙ gone.blocks.of_known e a ((core.known.account e).known a i) current.container current.young)

    -- A WRITE

    module _ (ready : Ready S c) (kept : FailuresAreKept S c) (seated : AreSeated S c) (v : ℕ)
        (started : (volume_at c.volumes v).started ≡ true) (later : c.round.first ≡ false) where
      -- a slot that expects a disk which failed is blocked by it, or the disk is gone
      pub slot_recorded : (b : Laid) → WasFinished S (disks_by S log) c b → (s d : ℕ)
          → is_blocked_in c.round.blocked (volume_at c.volumes v).slots s ≡ false → has d c.round.faults ≡ true
          → ExpectsInSlot S.start b v s d
          → DurableOnWorking S.start log journal (λ m. S.start.words.expects m (S.start.disks.serial d) ≡ false)
      slot_recorded b was s d free failed slot =
          elim (was.slots v s slot.words (ready.started v started) slot.there slot.expected) [
            | inl still ↦ absurd (serves still)
            | inr gone ↦
                gone_durably later gone.disk (S.start.disks.serial d) (sym slot.same ∙ gone.same) gone.gone
          ]
        where
          serves : HasStill S c.round.last v s slot.words → ⊥
          serves still =
              let own : still.words.serial ≡ S.start.disks.serial d = still.same ∙ slot.same in
              let seat = seat_of_own still.words d (kept.there d failed) still.expected own in
              let found = zip_at (HasSeat S) (S.start.words.slots c.round.last v) (volume_at c.volumes v).slots
              (seated v started) s still.words still.there in
              let disk : disk_in (volume_at c.volumes v).slots s ≡ Some d =
              slot_there (volume_at c.volumes v).slots s found.0 found.1 ∙ found.2 d seat in
              let unblocked : has d c.round.blocked ≡ false =
              ap (λ o. option_map_or (λ e. has e c.round.blocked) o false) (sym disk) ∙ free in
              let none : expects S c.round.last d ≡ false = kept.last d failed unblocked in
              let form = core.hand.last.form in
              let says = all_at (IsToldOf S c.round.last) (S.start.words.slots c.round.last v)
              (P.told c.round.last v form (P.edits.served c.round.last v form (ready.started v started))) s still.words
              still.there in
              let there : expects S c.round.last d ≡ true =
              ap (S.start.words.expects c.round.last) (sym own) ∙ says.expected still.expected in
              cc (none, there)
