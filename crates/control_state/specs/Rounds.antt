-- A round as the machine has it, seen in the code's types. Source: this project's own.
use Rattle.std.specs.Prelude.{ℕ, List, [], ◌∷◌, drop, Option, Some, None}
use Rattle.array_model.specs.declared.journal.Event.{Event}
use Rattle.array_model.specs.declared.journal.Event.TheVariants.{Begin, End}
use Rattle.array_model.specs.Blocks.{Laid}
use Rattle.stage_machine.specs.Setting.{Setting}
use Rattle.stage_machine.specs.Rounds as machine
use Rattle.control_state.specs.declared.plan.Plan.{Plan}
use Rattle.control_state.specs.declared.round.Step.{Step}
use Rattle.control_state.specs.declared.round.Step.TheVariants.{Anchor, Sync}
use Rattle.control_state.specs.declared.round.Phase.{Phase}
use Rattle.control_state.specs.declared.round.Phase.TheVariants.{Rest, Going}
use Rattle.control_state.specs.declared.round.Ask.{Ask}
use Rattle.control_state.specs.declared.round.Round.{Round}
use Rattle.control_state.specs.Book.{laid_at}
use Rattle.control_state.specs.Seen.{numbers}

abbrev pub step_of : Step → machine.Step
step_of Anchor = machine.AtAnchor
step_of Sync = machine.AtSync

abbrev pub phase_of : List ℕ → Laid → Phase → machine.Phase
phase_of targets m Rest = machine.Rest
phase_of targets m (Going step at) = machine.Going m (step_of step) (drop at targets)

abbrev pub round_of : Plan → Round → machine.Round
round_of p r = record {
  book = laid_at r.book.anchor;
  last = laid_at r.book.anchor;
  note = r.note;
  started = r.started;
  working = numbers p.targets.items;
  phase = phase_of (numbers p.targets.items) (laid_at r.next.anchor) r.phase;
}

-- the disk that a round calls next, and what it asks of it
abbrev pub ask_of : Option Ask → Option (ℕ × machine.Step)
ask_of None = None
ask_of (Some a) = Some (a.disk.0, step_of a.step)

abbrev pub next_ask : machine.Phase → Option (ℕ × machine.Step)
next_ask machine.Rest = None
next_ask (machine.Going m step []) = None
next_ask (machine.Going m step (d ∷ ds)) = Some (d, step)

-- the round's next call went through
abbrev pub gone : Setting → machine.Round → machine.Phase → machine.Rounded
gone S r machine.Rest = record { round = r; events = [] }
gone S r (machine.Going m step []) = record { round = r; events = [] }
gone S r (machine.Going m step (d ∷ ds)) = machine.step_on S r m step d ds

abbrev pub begins : Option ℕ → List Event
begins None = []
begins (Some g) = Begin g ∷ []

abbrev pub ends : Option ℕ → List Event
ends None = []
ends (Some g) = End g ∷ []

abbrev pub begun : Plan → Round → Option ℕ → machine.Rounded
begun p r g = record { round = round_of p r; events = begins g }

abbrev pub ended : Plan → Round → Option ℕ → machine.Rounded
ended p r g = record { round = round_of p r; events = ends g }
