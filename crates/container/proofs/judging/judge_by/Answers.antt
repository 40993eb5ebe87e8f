use Rattle.std.proofs.Common.{refl, arith}
use Rattle.imsm_codec.specs.Mpb.{block_of}
use Rattle.container.specs.Steps.{missing_of}
use Rattle.container.proofs.Lacking.{missing_is}
use Rattle.container.proofs.judging.judge_by.Goals as goal

pub returns-then-from-gt-MAX_BLOCK_BYTES : goal.returns-then-from-gt-MAX_BLOCK_BYTES
returns-then-from-gt-MAX_BLOCK_BYTES c =
    let disks = (block_of c.args.mpb.now).disks in
    (missing_of disks c.args.seen.now, missing_is c.args.seen.now disks, (refl, refl, c.full_size-size.ensures, omega (arith, c.if-from-gt-MAX_BLOCK_BYTES.true, c.from.ensures)))

pub returns-then-generation-ge-FIRST_GENERATION_REFUSED : goal.returns-then-generation-ge-FIRST_GENERATION_REFUSED
returns-then-generation-ge-FIRST_GENERATION_REFUSED c =
    let disks = (block_of c.args.mpb.now).disks in
    (missing_of disks c.args.seen.now, missing_is c.args.seen.now disks, (refl, refl, omega (arith, c.if-from-gt-MAX_BLOCK_BYTES.false, c.from.ensures, c.full_size-size.ensures), c.if-generation-ge-FIRST_GENERATION_REFUSED.true))
