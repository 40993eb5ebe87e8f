use Rattle.imsm_view.proofs.Words.{words_from}
use Rattle.imsm_view.proofs.law.views_have_words.Goals as goal

pub returns : goal.returns
returns c = words_from
