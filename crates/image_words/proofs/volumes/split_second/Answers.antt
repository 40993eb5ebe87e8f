use Rattle.image_words.specs.Words.{texts}
use Rattle.image_words.proofs.Made.{second_found}
use Rattle.image_words.proofs.volumes.split_second.Goals as goal

pub returns-in-Some-clause-only : goal.returns-in-Some-clause-only
returns-in-Some-clause-only c =
    second_found (texts c.args.words.now) (texts c.in-Some.named.now) c.in-Some.volume c.in-Some.ensures.some c.in-Some.ensures.only
