use Rattle.array_base.proofs.Runs.{each_world_has}
use Rattle.array_rest.proofs.Reach.{each_leaves}
use Rattle.array_rest.proofs.RoundRuns.{each_round_stands}
use Rattle.array_rest.proofs.Resting.{nothing_is_due}
use Rattle.array_rest.proofs.nothing_is_due_at_rest.Goals as goal

pub returns : goal.returns
returns c S P volumes spares o w run ends rest some =
    let leaves = each_leaves S P volumes spares o w run in
    nothing_is_due S w.control ends rest P w.log (each_world_has S P volumes spares o w run).base leaves.kept leaves.over
    (each_round_stands S P volumes spares o w run) some.disk some.is
