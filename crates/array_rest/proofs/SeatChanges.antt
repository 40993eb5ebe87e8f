-- What holds of seats and of volumes that can run, behind each change that a turn may make.
use Rattle.std.proofs.Common.{◌≡◌, ℕ, ◌+◌, ◌==◌, ◌||◌, ◌&&◌, not, Bool, true, false, List, [], ◌∷◌, length, refl, ap, sym, ◌∙◌, subst, arith, ◌⊎◌, inl, inr, cond}
use Rattle.std.specs.Prelude.{slice_set}
use Rattle.units.specs.Levels.{suffices}
use Rattle.array_model.specs.Blocks.{Laid}
use Rattle.array_machine.specs.Setting.{Setting}
use Rattle.array_machine.specs.Numbers.{has, without}
use Rattle.array_machine.specs.Volumes.{slot_at, disk_in, has_disk, members_of, can_run, Volume, volume_at}
use Rattle.array_machine.specs.Operations.{shape_of}
use Rattle.array_machine.specs.Rounds.{Step, AtExtended, AtAnchor, AtSync, Aim, OfRound, OfSpare, Phase, Rest, Going, Round, on_with, stepped, dropped, given_if, gives}
use Rattle.array_machine.specs.Faults.{round_without, breaks, is_torn, volume_lost, volume_without}
use Rattle.array_machine.specs.Control.{Control}
use Rattle.array_machine.specs.Changes.{DiskFails}
use Rattle.array_machine.specs.Puts.{put}
use Rattle.array_base.specs.Premises.{generation_of}
use Rattle.array_base.proofs.Slots.{volume_set}
use Rattle.array_base.proofs.Targets.{or_neither}
use Rattle.array_rest.specs.Seats.{SeatsAll, BookGoes, BlocksSeat, RunsOn, VolumesRun}
use Rattle.array_rest.proofs.Parts.{members_kept, volume_failed}
use Rattle.array_rest.proofs.Runnable.{usable_same}

-- a volume with the start and the slots of another, broken where that is
pub record HasFrame (x y : Volume) : Type 0 where
  pub started : y.started ≡ x.started
  pub slots : y.slots ≡ x.slots
  pub sound : y.broken ≡ false → x.broken ≡ false

abbrev pub HaveFrames : (old new : List Volume) → Type 0
HaveFrames old new = (v : ℕ) → HasFrame (volume_at old v) (volume_at new v)

pub same_frame : (x : Volume) → HasFrame x x
same_frame x = record { started = refl; slots = refl; sound = λ is. is }

-- one volume is set, which keeps them
pub set_frame : (xs : List Volume) (v : ℕ) (y : Volume) → HasFrame (volume_at xs v) y → HaveFrames xs (slice_set xs v y)
set_frame xs v y frame w = elim (volume_set xs v y w) [
  | inl here ↦
      subst (HasFrame (volume_at xs w)) (sym here.1) (subst (λ u. HasFrame (volume_at xs u) y) here.0 frame)
  | inr other ↦ subst (HasFrame (volume_at xs w)) (sym other) (same_frame (volume_at xs w))
]

module _ (S : Setting) where
  -- SEATS

  pub seats_framed : (m : Laid) (faults faults' : List ℕ) (old new : List Volume)
      → ((d : ℕ) → has d faults' ≡ false → has d faults ≡ false)
      → ((v : ℕ) → (volume_at new v).started ≡ (volume_at old v).started)
      → ((v s : ℕ) → disk_in (volume_at new v).slots s ≡ disk_in (volume_at old v).slots s)
      → SeatsAll S m faults old → SeatsAll S m faults' new
  seats_framed m faults faults' old new fewer started slots h v s d is has_it sound =
      h v s d (sym (started v) ∙ is) (sym (slots v s) ∙ has_it) (fewer d sound)

  pub blocks_framed : (formed : Laid → Bool) (r : Round) (old new : List Volume) → HaveFrames old new
      → BlocksSeat S formed r old → BlocksSeat S formed r new
  blocks_framed formed r old new frames h = record {
    may_book = h.may_book;
    may_given = h.may_given;
    low = h.low;
    goes = h.goes;
    last = move r.last h.last;
    book = move r.book h.book;
    given = λ e young. move (r.given e) (h.given e young);
  }
    where
      move : (m : Laid) → SeatsAll S m r.faults old → SeatsAll S m r.faults new
      move m seats =
          seats_framed m r.faults r.faults old new (λ d is. is) (λ v. (frames v).started)
          (λ v s. ap (λ xs. disk_in xs s) (frames v).slots) seats

  pub runs_framed : (r : Round) (old new : List Volume) → HaveFrames old new → VolumesRun S r old → VolumesRun S r new
  runs_framed r old new frames h = record {
    able = λ v started sound.
        ap (λ xs. can_run (shape_of S v).level (members_of r.faults [] xs)) (frames v).slots
        ∙ h.able v (sym (frames v).started ∙ started) ((frames v).sound sound);
    slots = λ v started.
        let had = h.slots v (sym (frames v).started ∙ started) in
        let same = ap length (frames v).slots in
        record { count = same ∙ had.count; some = let le = had.some in omega (arith, le, same) };
    certain = λ v s d first started synced has_it.
        h.certain v s d first (sym (frames v).started ∙ started)
        (sym (ap (λ xs. (slot_at xs s).in_sync) (frames v).slots) ∙ synced)
        (sym (ap (λ xs. disk_in xs s) (frames v).slots) ∙ has_it);
  }

  -- PHASES

  pub book_on : (r : Round) (aim : Aim) (m : Laid) (left late : List ℕ) (done : Bool)
      → ((step : Step) → BookGoes S r (Going aim m step left late done))
      → BookGoes S r (on_with aim m left late done)
  book_on r (OfSpare x) m [] late true h = tt
  book_on r (OfSpare x) m [] late false h = tt
  book_on r (OfSpare x) m (d ∷ ds) late done h = tt
  book_on r OfRound m [] late true h = h AtSync
  book_on r OfRound m [] late false h = h AtSync
  book_on r OfRound m (d ∷ ds) late done h = h AtSync

  -- the part of a round that it speaks of
  pub record SameBook (r q : Round) : Type 0 where
    pub book : q.book ≡ r.book
    pub note : q.note ≡ r.note
    pub given : (e : ℕ) → q.given e ≡ r.given e

  pub same_goes : (r q : Round) → SameBook r q → (phase : Phase) → BookGoes S r phase → BookGoes S q phase
  same_goes r q same Rest h = tt
  same_goes r q same (Going (OfSpare x) m step left late done) h = tt
  same_goes r q same (Going OfRound m step left late done) h = (
    same.book ∙ h.0,
    h.1 ∙ sym same.note,
    λ e is. same.given e ∙ h.2 e (sym (ap (generation_of S) (same.given e)) ∙ is ∙ same.note),
  )

  any_step : (r : Round) (aim : Aim) (m : Laid) (step : Step) (left late left' late' : List ℕ) (done done' : Bool)
      → BookGoes S r (Going aim m step left late done) → (other : Step)
      → BookGoes S r (Going aim m other left' late' done')
  any_step r OfRound m step left late left' late' done done' h other = h
  any_step r (OfSpare x) m step left late left' late' done done' h other = tt

  pub dropped_goes : (d : ℕ) (r : Round) (phase : Phase) → BookGoes S r phase → BookGoes S r (dropped d phase)
  dropped_goes d r Rest h = tt
  dropped_goes d r (Going aim m step [] late done) h = any_step r aim m step [] late [] (without d late) done done h step
  dropped_goes d r (Going aim m step (e ∷ es) late done) h = at (e == d)
    where
      at : (b : Bool)
          → BookGoes S r
          (cond b (on_with aim m (without d es) (without d late) done)
          (Going aim m step (e ∷ without d es) (without d late) done))
      at true =
          book_on r aim m (without d es) (without d late) done
          (any_step r aim m step (e ∷ es) late (without d es) (without d late) done done h)
      at false = any_step r aim m step (e ∷ es) late (e ∷ without d es) (without d late) done done h step

  pub stepped_goes : (r : Round) (phase : Phase) → BookGoes S r phase → BookGoes S r (stepped phase)
  stepped_goes r Rest h = tt
  stepped_goes r (Going aim m step [] late done) h = any_step r aim m step [] late [] late done done h step
  stepped_goes r (Going aim m AtExtended (d ∷ ds) late done) h =
      any_step r aim m AtExtended (d ∷ ds) late (d ∷ ds) late done done h AtAnchor
  stepped_goes r (Going aim m AtAnchor (d ∷ ds) late done) h =
      any_step r aim m AtAnchor (d ∷ ds) late (d ∷ ds) late done done h AtSync
  stepped_goes r (Going aim m AtSync (d ∷ ds) late done) h =
      book_on r aim m ds late true (any_step r aim m AtSync (d ∷ ds) late ds late done true h)

  -- what a disk was given last is what it was given, or the book
  pub given_by : (r : Round) (phase : Phase) → BookGoes S r phase → (e : ℕ)
      → (gives phase r.given e ≡ r.given e) ⊎ (gives phase r.given e ≡ r.book)
  given_by r Rest h e = inl refl
  given_by r (Going (OfSpare x) m step left late done) h e = inl refl
  given_by r (Going OfRound m AtExtended left late done) h e = inl refl
  given_by r (Going OfRound m AtSync left late done) h e = inl refl
  given_by r (Going OfRound m AtAnchor [] late done) h e = inl refl
  given_by r (Going OfRound m AtAnchor (d ∷ ds) late done) h e = at (d == e)
    where
      at : (b : Bool) → (given_if b m (r.given e) ≡ r.given e) ⊎ (given_if b m (r.given e) ≡ r.book)
      at true = inr (sym h.0)
      at false = inl refl

  -- and while a round goes on, the book has the highest generation begun
  pub given_goes : (r : Round) (phase : Phase) → BookGoes S r phase
      → BookGoes S (record r { given = gives phase r.given }) phase
  given_goes r Rest h = tt
  given_goes r (Going (OfSpare x) m step left late done) h = tt
  given_goes r (Going OfRound m AtExtended left late done) h = h
  given_goes r (Going OfRound m AtSync left late done) h = h
  given_goes r (Going OfRound m AtAnchor [] late done) h = h
  given_goes r (Going OfRound m AtAnchor (d ∷ ds) late done) h = (h.0, h.1, λ e is. at (d == e) e is)
    where
      at : (b : Bool) (e : ℕ) → generation_of S (given_if b m (r.given e)) ≡ r.note → given_if b m (r.given e) ≡ m
      at true e is = refl
      at false e is = h.2 e is

  -- A DISK FAILS

  pub fault_frame : (c : Control) (d v : ℕ)
      → HasFrame (volume_at c.volumes v) (volume_at (put S (DiskFails d) c).volumes v)
  fault_frame c d v =
      let x = volume_at c.volumes v in
      let r = round_without S d c.round in
      let same : 0 + v ≡ v = omega arith in
      subst (HasFrame x)
      (sym (volume_failed S d r 0 c.volumes v ∙ ap (λ n. volume_without S d r n x) same))
      (at (x.started && has_disk d x.slots))
    where
      at : (b : Bool)
          → HasFrame (volume_at c.volumes v)
          (cond b (volume_lost S d v ((volume_at c.volumes v).broken
          || breaks S (round_without S d c.round) v (volume_at c.volumes v).slots) (volume_at c.volumes v))
          (volume_at c.volumes v))
      at true = record {
        started = refl;
        slots = refl;
        sound = λ is. (or_neither (volume_at c.volumes v).broken
            (breaks S (round_without S d c.round) v (volume_at c.volumes v).slots) is).0;
      }
      at false = same_frame (volume_at c.volumes v)

  pub fault_able : (c : Control) (d v : ℕ) → VolumesRun S c.round c.volumes
      → (volume_at c.volumes v).started ≡ true → (volume_at (put S (DiskFails d) c).volumes v).broken ≡ false
      → RunsOn S (d ∷ c.round.faults) v (volume_at c.volumes v)
  fault_able c d v h started sound =
      at (has_disk d x.slots) refl
      (sym (ap (λ (y : Volume). y.broken)
      (volume_failed S d r 0 c.volumes v ∙ ap (λ n. volume_without S d r n x) same
      ∙ ap (λ b. cond (b && has_disk d x.slots) (volume_lost S d v (x.broken || breaks S r v x.slots) x) x) started))
      ∙ sound)
    where
      x : Volume
      x = volume_at c.volumes v

      r : Round
      r = round_without S d c.round

      same : 0 + v ≡ v
      same = omega arith

      flips : (a t : Bool) → (not a || t) ≡ false → a ≡ true
      flips true t is = refl
      flips false t is = absurd (cc is)

      at : (b : Bool) → has_disk d x.slots ≡ b
          → (cond b (volume_lost S d v (x.broken || breaks S r v x.slots) x) x).broken ≡ false
          → RunsOn S (d ∷ c.round.faults) v x
      at true has_it is =
          let whole = (or_neither x.broken (breaks S r v x.slots) is).1 in
          ap (suffices (shape_of S v).level) (sym (usable_same r.faults r.blocked x.slots))
          ∙ flips (can_run (shape_of S v).level (members_of r.faults r.blocked x.slots))
          (is_torn S r v (shape_of S v).level) whole
      at false none is =
          ap (can_run (shape_of S v).level) (members_kept d c.round.faults [] x.slots none) ∙ h.able v started is
