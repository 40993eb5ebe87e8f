use Rattle.refused_verdicts.proofs.Ended.{ends_as_assembled}
use Rattle.refused_verdicts.proofs.Reordered.{reordered}
use Rattle.refused_verdicts.proofs.order.the_order_of_words_is_lost.Goals as goal

pub returns-clause-assembled : goal.returns-clause-assembled
returns-clause-assembled c opening others log logs bank other run lines more status another tells says same does makes differs =
    reordered opening others log logs bank other tells says same run lines more status another does makes differs

pub returns-clause-arrived : goal.returns-clause-arrived
returns-clause-arrived c opening others log logs bank other run lines more status another tells says same does makes none never differs =
    let one = ends_as_assembled run bank lines status does none in
    let two = ends_as_assembled run other more another makes never in
    (reordered opening others log logs bank other tells says same run one.1 two.1 status another one.3 two.3 differs).0
