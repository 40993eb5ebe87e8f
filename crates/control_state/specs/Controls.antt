-- The whole control state as the machine has it, seen in the code's types. Source: this project's own.
use Rattle.std.specs.Prelude.{ℕ, Option, Some, None}
use Rattle.units.specs.declared.disk.DiskNo.{DiskNo}
use Rattle.stage_machine.specs.Machine as machine
use Rattle.control_state.specs.declared.plan.Plan.{Plan}
use Rattle.control_state.specs.declared.event.Events.{Events}
use Rattle.control_state.specs.declared.control.Control.{Control}
use Rattle.control_state.specs.Events.{listed}
use Rattle.control_state.specs.Seen.{state_of, clients_of}
use Rattle.control_state.specs.Rounds.{round_of}

abbrev pub failed_of : Option DiskNo → Option ℕ
failed_of None = None
failed_of (Some d) = Some d.0

abbrev pub control_of : Plan → Control → machine.Control
control_of p c = record {
  round = round_of p c.round;
  state = state_of c.state;
  clients = clients_of p c.clients;
  failed = failed_of c.failed;
}

abbrev pub out_of : Plan → Control → Events → machine.Out
out_of p c es = record { next = control_of p c; events = listed c.clients es }
