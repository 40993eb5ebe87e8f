use Rattle.array_rest.proofs.Reach.{each_leaves}
use Rattle.array_rest.proofs.passes_stand.Goals as goal

pub returns : goal.returns
returns c = record {
  started = λ S P volumes spares o w run. (each_leaves S P volumes spares o w run).kept.started;
  stand = λ S P volumes spares o w run. (each_leaves S P volumes spares o w run).kept.passes;
}
