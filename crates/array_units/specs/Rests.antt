-- What a change of a turn may rest on by the change right before it: that a round has ended and none goes on, or that
-- an update was just applied. Source: this project's own.
use Rattle.std.specs.Prelude.{⊤, ◌≡◌, ℕ, Bool, true, false, List, is_some, Option, Some, None, ◌⊎◌}
use Rattle.array_model.specs.declared.journal.Entry.{Entry}
use Rattle.array_model.specs.FailureLaw.{pass_from}
use Rattle.array_machine.specs.States.{ToReady}
use Rattle.array_machine.specs.Rounds.{Rest}
use Rattle.array_machine.specs.Control.{Control}
use Rattle.array_machine.specs.Changes.{Change, RoundEnds, StateGoes, PassMoves, ManagerMoves, Applies}
use Rattle.array_paths.specs.InTurn.{InTurn}
use Rattle.array_form.specs.Behind.{is_loud}

-- a round just ended, what it made of a pass was just told, or a volume was just made ready
abbrev pub rests_behind : Option Change → Bool
rests_behind (Some (RoundEnds m)) = true
rests_behind (Some (StateGoes v ToReady)) = true
rests_behind (Some (PassMoves v slots pass word)) = is_loud word
rests_behind _ = false

-- behind such a change a round has ended, and nothing goes on
abbrev pub AtRest : Option Change → Control → Type 0
AtRest prev c = rests_behind prev ≡ true → (c.round.ended ≡ true) × (c.round.phase ≡ Rest)

-- behind an update that was applied no pass counts
abbrev pub NoneCount : Option Change → List Entry → Type 0
NoneCount (Some (ManagerMoves manager (Applies n))) journal = (v : ℕ) → pass_from v None journal ≡ None
NoneCount _ journal = ⊤

-- no disk failed in this turn, or each pass that counts began behind its call
abbrev pub FaultsStay : InTurn → Option Change → Control → (calls : ℕ) → List Entry → Type 0
FaultsStay t prev c calls journal =
    (c.round.faults ≡ t.before.round.faults)
    ⊎ ((is_some prev ≡ true) × ((v n : ℕ) → pass_from v None journal ≡ Some n → n ≡ calls))
