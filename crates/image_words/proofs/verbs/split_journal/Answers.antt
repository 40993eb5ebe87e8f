use Rattle.std.proofs.Common.{◌∙◌, ◌∷◌, [], List, ℕ, ap, inr, refl}
use Rattle.image_words.specs.Words.{journal_word, texts}
use Rattle.image_words.proofs.Asked.{journal_rest}
use Rattle.image_words.proofs.Limits.{if_some}
use Rattle.image_words.proofs.verbs.split_journal.Goals as goal

pub returns-in-Some-clause-some : goal.returns-in-Some-clause-some
returns-in-Some-clause-some c =
    if_some c.split_limit.result _ _ (λ found is. (journal_word ∷ is.0 ∷ [], inr (is.0, refl, is.1), c.in-Some.ensures.some ∙ ap (λ (l : List (List ℕ)). journal_word ∷ l) is.2)) c.split_limit.ensures.some

pub returns-in-Some-clause-only : goal.returns-in-Some-clause-only
returns-in-Some-clause-only c = λ limit option images given each same.
    let rest = journal_rest (texts c.args.words.now) (texts c.in-Some.given.now) option limit images c.in-Some.ensures.some given same in
    c.split_limit.ensures.only limit rest.0 _ rest.1 rest.2
