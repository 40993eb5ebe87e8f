use Rattle.std.proofs.Common.{◌∙◌, ap, sym}
use Rattle.image_words.specs.Words.{texts}
use Rattle.image_words.specs.declared.verbs.Verb.TheVariants.{Assemble, Create, Incremental, Replay}
use Rattle.image_words.proofs.Asked.{assemble_asked, create_asked, examine_asked, incremental_asked, nothing_asked, replay_asked}
use Rattle.image_words.proofs.verbs.split_verb.Goals as goal

pub returns-in-Some-clause-only : goal.returns-in-Some-clause-only
returns-in-Some-clause-only c = λ verb images asks.
    let asked = assemble_asked (texts c.args.words.now) (texts c.in-Some.given.now) verb images c.in-Some.ensures.some asks in
    let found = c.split_run-run.ensures.only asked.0 images asked.2 in
    (ap Assemble found.0 ∙ sym asked.1, found.1)

pub returns-in-Some-behind-clause-only : goal.returns-in-Some-behind-clause-only
returns-in-Some-behind-clause-only c = λ verb images asks.
    let asked = incremental_asked (texts c.args.words.now) (texts c.in-Some-behind.given.now) verb images c.in-Some-behind.ensures.some asks in
    let found = c.split_run-run-in-Some-behind.ensures.only asked.0 images asked.2 in
    (ap Incremental found.0 ∙ sym asked.1, found.1)

pub returns-in-Some-behind-2-clause-only : goal.returns-in-Some-behind-2-clause-only
returns-in-Some-behind-2-clause-only c = λ verb images asks.
    let asked = examine_asked (texts c.args.words.now) (texts c.in-Some-behind-2.named.now) verb images c.in-Some-behind-2.ensures.some asks in
    (sym asked.0, asked.1)

pub returns-in_err-made-clause-only : goal.returns-in_err-made-clause-only
returns-in_err-made-clause-only c = λ verb images asks.
    let asked = create_asked (texts c.args.words.now) (texts c.in-Some-behind-3.given.now) verb images c.in-Some-behind-3.ensures.some asks in
    absurd (c.in_err-made.ensures.only asked.0 images asked.2 asked.3)

pub returns-in-Some-behind-3-clause-only : goal.returns-in-Some-behind-3-clause-only
returns-in-Some-behind-3-clause-only c = λ verb images asks.
    let asked = create_asked (texts c.args.words.now) (texts c.in-Some-behind-3.given.now) verb images c.in-Some-behind-3.ensures.some asks in
    let found = c.in_ok-made.ensures.only asked.0 images asked.2 asked.3 in
    (ap Create found.0 ∙ sym asked.1, found.1)

pub returns-in_err-given-clause-only : goal.returns-in_err-given-clause-only
returns-in_err-given-clause-only c = λ verb images asks.
    absurd (nothing_asked (texts c.args.words.now) verb images c.in_default.ensures.none c.in_default-behind.ensures.none c.in_default-behind-2.ensures.none c.in_default-behind-3.ensures.none c.in_err-given.ensures.none asks)

pub returns-in_err-limit-clause-only : goal.returns-in_err-limit-clause-only
returns-in_err-limit-clause-only c = λ verb images asks.
    let asked = replay_asked (texts c.args.words.now) (texts c.in_ok-given.given.now) verb images c.in_ok-given.ensures.some asks in
    absurd (c.in_err-limit.ensures.only asked.0 asked.1 images asked.3 asked.4.each asked.5)

pub returns-clause-only : goal.returns-clause-only
returns-clause-only c = λ verb images asks.
    let asked = replay_asked (texts c.args.words.now) (texts c.in_ok-given.given.now) verb images c.in_ok-given.ensures.some asks in
    let found = c.in_ok-limit.ensures.only asked.0 asked.1 images asked.3 asked.4.each asked.5 in
    (ap Replay found.0 ∙ sym asked.2, found.1)
