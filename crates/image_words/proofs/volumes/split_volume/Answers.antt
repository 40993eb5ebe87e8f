use Rattle.image_words.proofs.Numerals.{numbers_of}
use Rattle.image_words.proofs.Made.{same_volume}
use Rattle.image_words.proofs.volumes.split_volume.Goals as goal

pub returns-in_err-size-clause-only : goal.returns-in_err-size-clause-only
returns-in_err-size-clause-only c = λ v rest range same.
    let n = numbers_of v range in
    let levelled = c.in_ok-level.ensures.only v.level _ same in
    let stripped = c.in_ok-strip.ensures.only v.strip _ n.0 n.1 levelled.1 in
    absurd (c.in_err-size.ensures.only v.size rest n.2 n.3 stripped.1)

pub returns-clause-only : goal.returns-clause-only
returns-clause-only c = λ v rest range same.
    let n = numbers_of v range in
    let levelled = c.in_ok-level.ensures.only v.level _ same in
    let stripped = c.in_ok-strip.ensures.only v.strip _ n.0 n.1 levelled.1 in
    let sized = c.in_ok-size.ensures.only v.size rest n.2 n.3 stripped.1 in
    (same_volume c.in_ok-level.level c.in_ok-strip.strip c.in_ok-size.size v levelled.0 stripped.0 sized.0, sized.1)
