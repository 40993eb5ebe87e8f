-- Which edits a round or an update makes of the book, each with what it rests on. Source: this project's own.
use Rattle.std.specs.Prelude.{◌≡◌, ℕ, ◌+◌, ◌<◌, ◌≤◌, nat_lt, true, false, List, [], ◌∷◌, ◌++◌, filter, Some, ⊤, ◌⊎◌}
use Rattle.std.specs.List.{AllByRecursion}
use Rattle.array_model.specs.Blocks.{Laid}
use Rattle.array_machine.specs.Numbers.{has, has_serial}
use Rattle.array_machine.specs.Setting.{Setting, Edit, TakesGeneration, FailsDisk, CountsOut, MakesDirty, MakesClean, RecordsUnit, ClosesPass, StartsVolume, ActivatesDisk, RemovesDisk, NamesVolume, edited}
use Rattle.array_machine.specs.EditWords.{AreApt}
use Rattle.array_machine.specs.States.{IsPending, is_resting}
use Rattle.array_machine.specs.Volumes.{Pass, volume_at}
use Rattle.array_machine.specs.Control.{Control}
use Rattle.array_machine.specs.Managers.{Update}
use Rattle.array_machine.specs.EditFacts.{facts_of}
use Rattle.array_machine.specs.MonitorTurns.{due_edits, is_due, failure_edits, still_fits, first_edits}
use Rattle.array_machine.specs.Updates.{is_free, need_for}
use Rattle.array_paths.specs.InTurn.{InTurn, state_of, is_broken}

-- a disk of the bank that failed
pub record IsFailed (S : Setting) (c : Control) (serial : List ℕ) : Type 0 where
  pub disk : ℕ
  pub is : serial ≡ S.start.disks.serial disk
  pub failed : has disk c.round.faults ≡ true
  pub below : disk < S.start.disks.count

-- a free spare of the bank with room for what the index needs
pub record IsFreeSpare (S : Setting) (c : Control) (serial : List ℕ) (index : ℕ) : Type 0 where
  pub disk : ℕ
  pub is : serial ≡ S.start.disks.serial disk
  pub below : disk < S.start.disks.count
  pub free : is_free S c disk ≡ true
  pub large : need_for S c.round.book index 0 c.volumes ≤ S.start.disks.sectors disk
  pub room : S.start.words.has_room c.round.book ≡ true

-- a volume that was started and isn't broken
pub record Runs (c : Control) (v : ℕ) : Type 0 where
  pub started : (volume_at c.volumes v).started ≡ true
  pub sound : is_broken c v ≡ false

-- its pass has come to a unit above the recorded one, or to its end
pub record HasReached (S : Setting) (c : Control) (v unit : ℕ) : Type 0 where
  pub runs : Runs c v
  pub pass : Pass
  pub is : (volume_at c.volumes v).pass ≡ Some pass
  pub at : pass.ready ≡ unit
  pub goes_on : pass.over ≡ false
  pub above : S.start.words.unit c.round.book v < unit

pub record IsOver (c : Control) (v : ℕ) : Type 0 where
  pub runs : Runs c v
  pub pass : Pass
  pub is : (volume_at c.volumes v).pass ≡ Some pass
  pub over : pass.over ≡ true

-- all edits but that of the generation, which comes last in each round
abbrev pub MayEdit : Setting → Control → Edit → Type 0
MayEdit S c (TakesGeneration g) = ⊥
MayEdit S c (FailsDisk s) = IsFailed S c s
MayEdit S c (CountsOut s) = (c.round.first ≡ true) × (has_serial s S.start.counts_out ≡ true)
MayEdit S c (MakesDirty v) = Runs c v × (state_of c v ≡ IsPending)
MayEdit S c (MakesClean v) = Runs c v × (is_resting (state_of c v) ≡ true)
MayEdit S c (RecordsUnit v unit) = HasReached S c v unit
MayEdit S c (ClosesPass v) = IsOver c v
MayEdit S c (StartsVolume v) = (c.round.first ≡ true) × ((volume_at c.volumes v).started ≡ true)
MayEdit S c (ActivatesDisk s i) = IsFreeSpare S c s i
MayEdit S c (RemovesDisk s) =
    (S.start.words.has_record c.round.book s ≡ true) × (S.start.words.expects c.round.book s ≡ false)
MayEdit S c (NamesVolume v name) = nat_lt v (S.start.words.volumes c.round.book) ≡ true

-- IN WHICH ORDER

-- the edits of a round: failures, then what the book owes to the volumes, and in the first rounds those that count disks
-- out and start the volumes
abbrev pub round_order : Setting → Control → List Edit
round_order S c =
    failure_edits S c.round
    ++ filter (still_fits S (edited S (facts_of S c) c.round.book (failure_edits S c.round))) (due_edits S c)
    ++ first_edits S c c.round.first

-- an update's edit
abbrev pub IsOfUpdate : Edit → Type 0
IsOfUpdate (ActivatesDisk s i) = ⊤
IsOfUpdate (RemovesDisk s) = ⊤
IsOfUpdate (NamesVolume v name) = ⊤
IsOfUpdate _ = ⊥

-- alone
abbrev pub IsUpdate : List Edit → Type 0
IsUpdate (e ∷ []) = IsOfUpdate e
IsUpdate _ = ⊥

-- those of a round in their order, or that of an update, where nothing is due
abbrev pub AreInOrder : Setting → Control → List Edit → Type 0
AreInOrder S c edits = (edits ≡ round_order S c) ⊎ (IsUpdate edits × (is_due S c ≡ false))

-- Why a round begins: something is due, or the first update in the queue was taken in this turn.
abbrev pub IsAsked : Setting → InTurn → Control → Type 0
IsAsked S t c = (is_due S c ≡ true) ⊎ ((u : Update) × (t.before.manager.queue ≡ u ∷ c.manager.queue))

-- an edit is one of these
abbrev pub IsOneOf : Edit → List Edit → Type 0
IsOneOf e [] = ⊥
IsOneOf e (x ∷ xs) = (e ≡ x) ⊎ IsOneOf e xs

-- a block that may be begun: the book with such edits, in their order, which fit it, and with the next generation
pub record IsNext (S : Setting) (t : InTurn) (c : Control) (m : Laid) : Type 0 where
  pub edits : List Edit
  pub order : AreInOrder S c edits
  pub may : AllByRecursion (MayEdit S c) edits
  pub apt : AreApt S (facts_of S c) c.round.book (edits ++ TakesGeneration (c.round.note + 1) ∷ [])
  pub is : m ≡ edited S (facts_of S c) c.round.book (edits ++ TakesGeneration (c.round.note + 1) ∷ [])
  pub asked : IsAsked S t c
