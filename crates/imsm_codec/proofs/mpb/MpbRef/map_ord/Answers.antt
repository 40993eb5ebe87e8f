use Rattle.std.proofs.Common.{ℕ, ◌+◌, ◌*◌, ◌∙◌, ap}
use Rattle.imsm_base.specs.Fields.{number_at}
use Rattle.imsm_codec.proofs.Places.{order_found}
use Rattle.imsm_codec.proofs.mpb.MpbRef.map_ord.Goals as goal

pub returns : goal.returns
returns c =
    let rest = c.map_bytes.result.now in
    c.get_u32.ensures ∙ ap (λ (n : ℕ). number_at 4 (48 + 4 * n) rest) c.from.ensures
    ∙ order_found rest _ c.args.slot.0 c.map_bytes.ensures.map c.requires.slot
