use Rattle.image_words.specs.Words.{texts}
use Rattle.image_words.proofs.Asked.{run_given, run_not_given}
use Rattle.image_words.proofs.verbs.split_run.Goals as goal

pub returns-in-Some-clause-only : goal.returns-in-Some-clause-only
returns-in-Some-clause-only c = λ run images same.
    run_given (texts c.args.words.now) (texts c.in-Some.named.now) run images c.in-Some.ensures.some same

pub returns-in-None-clause-only : goal.returns-in-None-clause-only
returns-in-None-clause-only c = λ run images same.
    run_not_given (texts c.args.words.now) run images c.in-None.ensures.none same
