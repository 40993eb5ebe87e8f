use Rattle.std.proofs.Common.{◌≡◌, drop}
use Rattle.stage_machine.specs.Jobs.{any_writing}
use Rattle.control_state.specs.Seen.{plan_setting, clients_of}
use Rattle.control_state.proofs.client.has_write.Given as goal

abbrev pub invariant-loop-client : goal.invariant-loop-client
invariant-loop-client l =
    any_writing (plan_setting l.plan) (clients_of l.plan l.clients)
    ≡ any_writing (plan_setting l.plan) (clients_of l.plan (drop l.client-index l.clients))
