use Rattle.std.proofs.Common.{None, Some, lit<}
use Rattle.std.proofs.lemmas.Str.Pattern.{split_after}
use Rattle.image_words.proofs.Names.{no_equals, same_word}
use Rattle.image_words.proofs.words.parts.Goals as goal

pub returns-in_err-name-clause-only : goal.returns-in_err-name-clause-only
returns-in_err-name-clause-only c = λ w is at.
    absurd (split_after 0x3d c.args.word.now w.name w.file None c.in_err-name.ensures.cases (lit< tt) at (no_equals w.name is.named))

pub returns-clause-only : goal.returns-clause-only
returns-clause-only c = λ w is at.
    let same = split_after 0x3d c.args.word.now w.name w.file (Some (c.in_ok-name.name, c.in_ok-name.file)) c.in_ok-name.ensures.cases (lit< tt) at (no_equals w.name is.named) in
    same_word c.in_ok-name.name.now c.in_ok-name.file.now w same.0 same.1
