use Rattle.keep_law.proofs.Law.{keeps, opens_newest, held_there, opens_in_any_order}
use Rattle.keep_law.proofs.keep_law.Goals as goal

pub returns-clause-keeps : goal.returns-clause-keeps
returns-clause-keeps c W bytes images present content unsure mark m agree sound among opens = keeps W bytes images present content unsure mark m agree sound among opens

pub returns-clause-starts : goal.returns-clause-starts
returns-clause-starts c W bytes images present content unsure mark m sound among newest held complete large =
    opens_newest W bytes images present content unsure mark m sound among newest held complete large

pub returns-clause-order : goal.returns-clause-order
returns-clause-order c W bytes present other m there back opens = opens_in_any_order W bytes present other m there back opens

pub returns-clause-stands : goal.returns-clause-stands
returns-clause-stands c W bytes images present content unsure mark m serial sound among complete expected on = held_there W bytes images present content unsure mark m serial sound among complete expected on
