use Rattle.std.proofs.Common.{◌==◌, ℕ, take, refl, sym, ap, ◌∙◌}
use Rattle.std.specs.List.{list_any}
use Rattle.imsm_base.specs.Layout.{Block, Volume, disk_count_of}
use Rattle.imsm_base.specs.Volumes.{member, members}
use Rattle.imsm_codec.specs.Mpb.{block_of, volume_at}
use Rattle.imsm_view.proofs.Members.{bad_by, not_below, is_below}
use Rattle.imsm_view.proofs.slot.is_bad_slot.Goals as goal

pub returns-in-None : goal.returns-in-None
returns-in-None c =
    let b : Block = block_of c.args.mpb.now in
    let v : Volume = volume_at c.args.v.0 b in
    let index : ℕ = (member v c.args.slot.0).index in
    sym (not_below index (disk_count_of b) (list_any (λ m. m.index == index) (take c.args.slot.0 (members v))) c.in-None.ensures)
    ∙ bad_by b v c.args.slot.0 index (disk_count_of b) (list_any (λ m. m.index == index) (take c.args.slot.0 (members v))) c.requires.slot refl refl refl

pub returns-in-Some : goal.returns-in-Some
returns-in-Some c =
    let b : Block = block_of c.args.mpb.now in
    let v : Volume = volume_at c.args.v.0 b in
    let index : ℕ = c.in-Some.index in
    sym (is_below index (disk_count_of b) c.is_taken.result c.in-Some.ensures.1)
    ∙ bad_by b v c.args.slot.0 index (disk_count_of b) c.is_taken.result c.requires.slot c.in-Some.ensures.0 refl
    (c.is_taken.ensures ∙ ap (λ (n : ℕ). list_any (λ m. m.index == n) (take c.args.slot.0 (members v))) c.from.ensures)
