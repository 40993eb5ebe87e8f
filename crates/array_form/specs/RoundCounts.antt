-- How often disks fail and are let go, monitors are taken over, and rounds end. Source: this project's own, over the
-- states faulty and blocked of the kernel's md.rst and --takeover of mdmon(8).
use Rattle.std.specs.Prelude.{ℕ, ◌+◌, ◌≤◌, not, Bool, true, false, List, Option, Some}
use Rattle.array_model.specs.declared.journal.Entry.{Entry}
use Rattle.array_model.specs.Events.{count, is_begin, is_end, is_spare, is_applied, is_posted, is_settled, is_fault, is_unblock, is_kill, is_takeover}
use Rattle.array_model.specs.Counts.{KeepsDiskCounts}
use Rattle.array_machine.specs.Numbers.{has}
use Rattle.array_machine.specs.Rounds.{Aim, OfRound, OfSpare, Phase, Rest, Going, Life, Lives, Killed, Takes, Dead, Round}
use Rattle.array_machine.specs.Changes.{Change, ManagerMoves, Applies}
use Rattle.array_form.specs.StateCounts.{one_if}

-- THE LAW

-- each disk fails once at most, and is let go once at most; a monitor is taken over at most as often as one is killed
pub record KeepsFailureCounts (journal : List Entry) : Type 0 where
  pub disks : (d : ℕ) → KeepsDiskCounts d journal
  pub takeovers : count is_takeover journal ≤ count is_kill journal

-- each round that ended began; each disk that became a spare did so by an update that was applied; each update that was
-- applied or declined was posted
pub record KeepsRoundCounts (journal : List Entry) : Type 0 where
  pub ends : count is_end journal ≤ count is_begin journal
  pub spares : count is_spare journal ≤ count is_applied journal
  pub settled : count is_settled journal ≤ count is_posted journal

-- WHAT A RUN KEEPS

abbrev pub is_killed : Life → Bool
is_killed Lives = false
is_killed Killed = true
is_killed (Takes left seen found) = false
is_killed Dead = false

abbrev pub is_round : Aim → Bool
is_round OfRound = true
is_round (OfSpare d) = false

-- a round goes on
abbrev pub in_round : Phase → Bool
in_round Rest = false
in_round (Going aim m step left late done) = is_round aim

-- a disk may fail that hasn't; it may be let go once it is blocked, which it is with its failure
pub record DiskCounts (d : ℕ) (faults blocked : List ℕ) (journal : List Entry) : Type 0 where
  pub fault : count (is_fault d) journal + one_if (not (has d faults)) ≤ 1
  pub unblock : count (is_unblock d) journal + one_if (has d blocked) + one_if (not (has d faults)) ≤ 1

-- a takeover is owed to a kill, and an end to a begin
abbrev pub LifeCounts : Life → List Entry → Type 0
LifeCounts life journal = count is_takeover journal + one_if (is_killed life) ≤ count is_kill journal

abbrev pub PhaseCounts : Phase → List Entry → Type 0
PhaseCounts phase journal = count is_end journal + one_if (in_round phase) ≤ count is_begin journal

-- the write of a spare's block goes on
abbrev pub in_spare : Phase → Bool
in_spare Rest = false
in_spare (Going aim m step left late done) = not (is_round aim)

-- an update was applied by the last change of this turn
abbrev pub just_applied : Option Change → Bool
just_applied (Some (ManagerMoves new (Applies n))) = true
just_applied _ = false

-- the write of a spare's block is owed to an update that was applied, and so is the spare
abbrev pub SpareCounts : Option Change → Phase → List Entry → Type 0
SpareCounts prev phase journal =
    count is_spare journal + one_if (in_spare phase) + one_if (just_applied prev) ≤ count is_applied journal

pub record RoundCounts (r : Round) (journal : List Entry) : Type 0 where
  pub disks : (d : ℕ) → DiskCounts d r.faults r.blocked journal
  pub life : LifeCounts r.life journal
  pub phase : PhaseCounts r.phase journal
