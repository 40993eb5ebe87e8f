-- What the journal of a run tells of its control state, and how its entries are stamped. Source: this project's own.
use Rattle.std.specs.Prelude.{⊤, ◌≡◌, ℕ, Bool, true, false, List, length, Option, Some, None}
use Rattle.array_model.specs.declared.journal.Entry.{Entry}
use Rattle.array_model.specs.Events.{is_faulty, is_live}
use Rattle.array_model.specs.Form.{RisesFrom}
use Rattle.array_model.specs.Moments.{AllBelow}
use Rattle.array_model.specs.Rounds.{ended}
use Rattle.array_machine.specs.Setting.{Setting}
use Rattle.array_machine.specs.Numbers.{has}
use Rattle.array_machine.specs.States.{State, IsPending, IsActive, IsIdle, StateWord, ToActive, ToActiveAgain, ToIdle, is_live as is_live_state}
use Rattle.array_machine.specs.Volumes.{volume_at}
use Rattle.array_machine.specs.Rounds.{Round}
use Rattle.array_machine.specs.Control.{Control}
use Rattle.array_machine.specs.Changes.{Change, StateGoes}
use Rattle.array_machine.specs.Machine.{World}

-- the generation of the last finished round, if one finished
abbrev pub finished_generation : Setting → (first : Bool) → Round → Option ℕ
finished_generation S true r = None
finished_generation S false r = Some (S.start.words.generation r.last.anchor)

-- its last end, its faults, and which volumes are live
pub record Tells (S : Setting) (c : Control) (journal : List Entry) : Type 0 where
  pub ends : ended journal ≡ finished_generation S c.round.first c.round
  pub faults : (d : ℕ) → is_faulty d journal ≡ has d c.round.faults
  pub lives : (v : ℕ) → is_live v journal ≡ is_live_state (volume_at c.volumes v).state

-- the calls are counted, and stamps rise, none above the count
pub record Stamps (w : World) : Type 0 where
  pub calls : w.calls ≡ length w.log
  pub below : AllBelow w.calls w.journal
  pub rises : RisesFrom 0 w.journal

-- a word that leads to a live state or from one comes where it may
abbrev pub MayFollow : State → StateWord → Type 0
MayFollow state ToActive = state ≡ IsPending
MayFollow state ToActiveAgain = state ≡ IsIdle
MayFollow state ToIdle = state ≡ IsActive
MayFollow state _ = ⊤

abbrev pub StateFollows : Control → Change → Type 0
StateFollows c (StateGoes v word) = MayFollow (volume_at c.volumes v).state word
StateFollows c _ = ⊤
