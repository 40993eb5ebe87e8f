use Rattle.image_words.proofs.Grammar.{first_apart}
use Rattle.image_words.proofs.words.is_first_apart.Goals as goal

pub returns-in-Some : goal.returns-in-Some
returns-in-Some c = first_apart c.args.images.now c.in-Some.image.now c.in-Some.others.now c.is_apart_from_all.result c.in-Some.ensures.cases.0 c.is_apart_from_all.ensures
