use Rattle.std.proofs.lemmas.Bool.{false≢true}
use Rattle.image_verdict.proofs.Held.{first_other_at}
use Rattle.image_verdict.proofs.verdict.first_other.Goals as goal

pub returns-then-not-holds : goal.returns-then-not-holds
returns-then-not-holds c = first_other_at c.args.block.now c.args.images.now c.loop-image.image-index _ c.loop-image-test.true c.loop-image.invariant (λ held. false≢true (c.if-not-holds.ensures.1 held))
