-- Whose turn it is, and what the control state was when it began. Source: this project's own.
use Rattle.std.specs.Prelude.{ℕ, Bool, List}
use Rattle.array_machine.specs.States.{State}
use Rattle.array_machine.specs.Volumes.{volume_at}
use Rattle.array_machine.specs.Clients.{Job, client_at}
use Rattle.array_machine.specs.Control.{Control}
use Rattle.array_machine.specs.Machine.{Actor}

pub record InTurn : Type 0 where
  pub who : Actor
  pub before : Control

-- the parts of a control state, for short
abbrev pub state_of : Control → ℕ → State
state_of c v = (volume_at c.volumes v).state

abbrev pub is_broken : Control → ℕ → Bool
is_broken c v = (volume_at c.volumes v).broken

abbrev pub job_of : Control → ℕ → Job
job_of c k = (client_at c.clients k).job

abbrev pub left_of : Control → ℕ → List ℕ
left_of c k = (client_at c.clients k).left
