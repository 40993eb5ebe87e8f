use Rattle.array_rest.proofs.Reach.{each_leaves}
use Rattle.array_rest.proofs.asks_are_queued_and_slots_are_seated.Goals as goal

pub returns : goal.returns
returns c = record {
  queued = λ S P volumes spares o w run. (each_leaves S P volumes spares o w run).kept.queued;
  seated = λ S P volumes spares o w run. (each_leaves S P volumes spares o w run).kept.seated;
}
