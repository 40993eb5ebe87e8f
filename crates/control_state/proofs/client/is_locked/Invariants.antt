use Rattle.std.proofs.Common.{◌≡◌, drop}
use Rattle.stage_machine.specs.Jobs.{is_locked, locked_from}
use Rattle.control_state.specs.Seen.{plan_setting, clients_of}
use Rattle.control_state.proofs.client.is_locked.Given as goal

abbrev pub invariant-loop-j : goal.invariant-loop-j
invariant-loop-j l =
    is_locked (plan_setting l.plan) l.row l.but (clients_of l.plan l.clients)
    ≡ locked_from (plan_setting l.plan) l.row l.but l.j (clients_of l.plan (drop l.j l.clients))
