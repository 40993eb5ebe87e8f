use Rattle.std.proofs.Common.{arith}
use Rattle.image_words.proofs.Limits.{narrowed}
use Rattle.image_words.proofs.volumes.split_strip.Goals as goal

pub returns-in_err-strip-clause-only : goal.returns-in_err-strip-clause-only
returns-in_err-strip-clause-only c = λ n rest low high same.
    let found = c.in_ok-number.ensures.only n rest low (omega (arith, high)) same in
    absurd (narrowed c.try_from.result 65536 c.in_ok-number.number c.try_from.ensures c.in_err-strip.ensures.value (omega (arith, found.0, high)))
