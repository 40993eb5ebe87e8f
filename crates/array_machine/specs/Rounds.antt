-- Rounds of metadata writes: which disks a block goes to, in which order, and how far that has come. Source: the order
-- of writes of super-intel.c (store_imsm_mpb) and of mdadm's monitor.c; that a disk which isn't trusted yet comes last
-- is this project's own.
use Rattle.std.specs.Prelude.{ℕ, ◌-◌, ◌==◌, ◌||◌, ◌&&◌, not, Bool, true, false, List, [], ◌∷◌, filter, length, if◌then◌else◌}
use Rattle.std.specs.List.{range_with_len, list_any}
use Rattle.units.specs.declared.disk.Sector.{Sector}
use Rattle.units.specs.Places.{anchor_place}
use Rattle.device_log.specs.Log.{What, Write, Sync}
use Rattle.array_model.specs.Blocks.{Laid}
use Rattle.array_machine.specs.Setting.{Setting}
use Rattle.array_machine.specs.Numbers.{has, without, has_serial}

-- how a call ended: it went through, or it failed and so many sectors of a write were stored; and what a read gave
pub record Ended : Type 0 where
  pub went : Bool
  pub stored : ℕ
  pub got : Sector

-- of a write of n sectors
abbrev pub stored_of : Ended → ℕ → ℕ
stored_of x n = if x.went then n else x.stored

-- what is written next on a target: the extended sectors, the anchor, and then its sync
pub data Step : Type 0 where
  AtExtended : Step
  AtAnchor : Step
  AtSync : Step

-- a round, or the write of the block of a disk that becomes a spare
pub data Aim : Type 0 where
  OfRound : Aim
  OfSpare : (disk : ℕ) → Aim

-- nothing goes on, or: what for, the block, the step on the first target left, the targets left, those that come last,
-- and whether a target finished
pub data Phase : Type 0 where
  Rest : Phase
  Going : (aim : Aim) → (m : Laid) → (step : Step) → (left late : List ℕ) → (done : Bool) → Phase

-- The monitor lives; it was killed; after a kill it reads the working members (those left, the sectors read of the
-- first of them, the disks on which it found what they were given last); it found no metadata.
pub data Life : Type 0 where
  Lives : Life
  Killed : Life
  Takes : (left : List ℕ) → (seen : List Sector) → (found : List ℕ) → Life
  Dead : Life

-- The book, of which each round is an edit; the block of the last finished round, before the first the newest at
-- opening; the highest generation begun; whether no round finished yet; whether one ended since the opening or the last
-- takeover; whether a round is due because of either; the disks that failed; the blocked ones; the block that each disk
-- was given last; the monitor's life; and what goes on.
pub record Round : Type 0 where
  pub book : Laid
  pub last : Laid
  pub note : ℕ
  pub first : Bool
  pub ended : Bool
  pub fresh : Bool
  pub faults : List ℕ
  pub blocked : List ℕ
  pub given : ℕ → Laid
  pub life : Life
  pub phase : Phase

abbrev pub expects : Setting → Laid → ℕ → Bool
expects S m d = S.start.words.expects m (S.start.disks.serial d)

-- a disk works: the last finished round expects it, and it has no fault
abbrev pub works : Setting → Round → ℕ → Bool
works S r d = expects S r.last d && not (has d r.faults)

abbrev pub all_disks : Setting → List ℕ
all_disks S = range_with_len 0 S.start.disks.count

abbrev pub working_disks : Setting → Round → List ℕ
working_disks S r = filter (works S r) (all_disks S)

abbrev pub lives : Life → Bool
lives Lives = true
lives _ = false

-- TARGETS

-- a disk that comes last: the last finished round doesn't expect it, or before the first it counts out
abbrev pub is_late : Setting → Round → ℕ → Bool
is_late S r d = not (expects S r.last d) || (r.first && has_serial (S.start.disks.serial d) S.start.counts_out)

abbrev pub is_target : Setting → Round → Laid → ℕ → Bool
is_target S r m d = expects S m d && not (has d r.faults)

abbrev pub targets : Setting → Round → Laid → List ℕ
targets S r m = filter (λ d. is_target S r m d && not (is_late S r d)) (all_disks S)

abbrev pub late_targets : Setting → Round → Laid → List ℕ
late_targets S r m = filter (λ d. is_target S r m d && is_late S r d) (all_disks S)

-- A round begins only where a disk that works and isn't late is expected by the book: with late targets alone no target
-- could finish.
abbrev pub has_target : Setting → Round → Bool
has_target S r = list_any (λ d. expects S r.book d && not (is_late S r d)) (working_disks S r)

-- STEPS

abbrev pub first_step : Laid → Step
first_step m = if_extended m.extended
  where
    if_extended : List Sector → Step
    if_extended [] = AtAnchor
    if_extended (s ∷ ss) = AtExtended

-- on with these targets: the last ones only where one finished
abbrev pub on_with : Aim → Laid → (left late : List ℕ) → (done : Bool) → Phase
on_with aim m [] late true = Going aim m (first_step m) late [] true
on_with aim m [] late false = Going aim m (first_step m) [] late false
on_with aim m (d ∷ ds) late done = Going aim m (first_step m) (d ∷ ds) late done

-- the call on the first target went through
abbrev pub stepped : Phase → Phase
stepped Rest = Rest
stepped (Going aim m step [] late done) = Going aim m step [] late done
stepped (Going aim m AtExtended (d ∷ ds) late done) = Going aim m AtAnchor (d ∷ ds) late done
stepped (Going aim m AtAnchor (d ∷ ds) late done) = Going aim m AtSync (d ∷ ds) late done
stepped (Going aim m AtSync (d ∷ ds) late done) = on_with aim m ds late true

-- a disk drops out
abbrev pub dropped : ℕ → Phase → Phase
dropped d Rest = Rest
dropped d (Going aim m step [] late done) = Going aim m step [] (without d late) done
dropped d (Going aim m step (e ∷ es) late done) =
    if e == d then on_with aim m (without d es) (without d late) done
    else Going aim m step (e ∷ without d es) (without d late) done

abbrev pub what_of : Setting → Ended → Laid → Step → ℕ → What
what_of S x m AtExtended d =
    Write (anchor_place (S.start.disks.sectors d) - length m.extended) m.extended (stored_of x (length m.extended))
what_of S x m AtAnchor d = Write (anchor_place (S.start.disks.sectors d)) (m.anchor ∷ []) (stored_of x 1)
what_of S x m AtSync d = Sync

-- the block that disk e was given last, where the call of a phase went through
abbrev pub given_if : Bool → Laid → Laid → Laid
given_if true m old = m
given_if false m old = old

abbrev pub gives : Phase → (ℕ → Laid) → ℕ → Laid
gives (Going OfRound m AtAnchor (d ∷ ds) late done) given e = given_if (d == e) m (given e)
gives _ given e = given e

-- HOW IT ENDS

-- where no target is left: with its entry where one finished, else without
pub data Ending : Type 0 where
  GoesOn : Ending
  Finishes : (m : Laid) → Ending
  MakesSpare : (disk : ℕ) → Ending
  Lapses : Ending

abbrev pub finish : Aim → Laid → Ending
finish OfRound m = Finishes m
finish (OfSpare d) m = MakesSpare d

abbrev pub ending : Phase → Ending
ending (Going aim m step [] [] true) = finish aim m
ending (Going aim m step [] late false) = Lapses
ending _ = GoesOn
