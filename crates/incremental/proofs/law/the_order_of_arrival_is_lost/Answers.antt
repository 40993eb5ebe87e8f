use Rattle.std.proofs.Common.{List, subst, sym}
use Rattle.container.specs.declared.seen.Seen.{Seen}
use Rattle.container.specs.Verdicts.{IsVerdict}
use Rattle.incremental.proofs.Orders.{arrived_all, arrived_rising, arrived_same}
use Rattle.incremental.proofs.law.the_order_of_arrival_is_lost.Goals as goal

pub returns-clause-same : goal.returns-clause-same
returns-clause-same c = arrived_same

pub returns-clause-verdict : goal.returns-clause-verdict
returns-clause-verdict c = λ xs ys run verdict distinct moved.
    let same = arrived_same xs ys distinct moved in
    (subst (λ (l : List Seen). IsVerdict l run verdict) same, subst (λ (l : List Seen). IsVerdict l run verdict) (sym same))

pub returns-clause-all : goal.returns-clause-all
returns-clause-all c = arrived_all

pub returns-clause-order : goal.returns-clause-order
returns-clause-order c = arrived_rising
