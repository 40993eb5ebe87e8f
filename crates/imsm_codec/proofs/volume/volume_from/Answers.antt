use Rattle.std.proofs.Common.{◌≡◌, ℕ, List, drop, ◌∙◌, ap, arith}
use Rattle.imsm_base.specs.Parts.{behind_disks}
use Rattle.imsm_base.proofs.At.{place_of}
use Rattle.imsm_codec.proofs.Places.{next, volume_found, volume_inside}
use Rattle.imsm_codec.proofs.volume.volume_from.Goals as goal

pub loop-number-preserved : goal.loop-number-preserved
loop-number-preserved c =
    c.behind-rest.ensures ∙ ap (λ (n : ℕ). drop n c.loop-number.rest.now) c.volume_len.ensures.room
    ∙ next c.loop-number._number c.loop-number.rest.now (behind_disks c.args.bytes.now) c.loop-number.invariant

-- the place at the loop's end is that of the volume
there : (i v : ℕ) (rest start : List ℕ) → i ≡ v → rest ≡ drop (place_of i start) start → rest ≡ drop (place_of v start) start
there i v rest start e at = at ∙ ap (λ (n : ℕ). drop (place_of n start) start) e

pub returns-clause-volume : goal.returns-clause-volume
returns-clause-volume c =
    volume_found c.args.bytes.now c.loop-number.rest.now c.args.v c.requires.below
    (there c.loop-number._number c.args.v _ _ (omega arith) c.loop-number.invariant)

pub returns-clause-room : goal.returns-clause-room
returns-clause-room c =
    volume_inside c.args.bytes.now c.loop-number.rest.now c.args.v c.requires.laid c.requires.below
    (there c.loop-number._number c.args.v _ _ (omega arith) c.loop-number.invariant)
