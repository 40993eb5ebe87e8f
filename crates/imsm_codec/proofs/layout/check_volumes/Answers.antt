use Rattle.std.proofs.Common.{ℕ, drop, ◌∙◌, ap, arith}
use Rattle.imsm_base.specs.Parts.{behind_disks}
use Rattle.imsm_codec.proofs.Places.{ends, left, next}
use Rattle.imsm_codec.proofs.layout.check_volumes.Goals as goal

pub returns-then-rest-len : goal.returns-then-rest-len
returns-then-rest-len c =
    let at = c.loop-i.invariant.rest in
    let start = behind_disks c.args.bytes.now in
    let end = ends c.loop-i.i c.loop-i.rest.now start at in
    let some = left c.loop-i.i c.loop-i.rest.now start at in
    (c.requires.distinct, omega arith, c.loop-i.invariant.inside, λ h. omega arith)

pub loop-i-preserved : goal.loop-i-preserved
loop-i-preserved c =
    let at = c.loop-i.invariant.rest in
    let start = behind_disks c.args.bytes.now in
    let end = ends c.loop-i.i c.loop-i.rest.now start at in
    let some = left c.loop-i.i c.loop-i.rest.now start at in
    record {
      inside = omega arith;
      rest = c.behind-rest.ensures ∙ ap (λ (n : ℕ). drop n c.loop-i.rest.now) c.volume_len-len.ensures.room ∙ next c.loop-i.i c.loop-i.rest.now start at;
    }
