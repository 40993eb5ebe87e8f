use Rattle.std.proofs.Common.{◌==◌, ◌∙◌, ap}
use Rattle.std.specs.List.{list_any}
use Rattle.imsm_base.specs.Layout.{Volume}
use Rattle.imsm_codec.specs.Mpb.{block_of, volume_at}
use Rattle.imsm_view.proofs.Members.{all_taken}
use Rattle.imsm_view.proofs.slot.has_index.Goals as goal

pub returns : goal.returns
returns c =
    let v : Volume = volume_at c.args.v.0 (block_of c.args.mpb.now) in
    c.is_taken.ensures ∙ ap (list_any (λ m. m.index == c.args.index)) (all_taken v c.slot_count.result c.slot_count.ensures)
