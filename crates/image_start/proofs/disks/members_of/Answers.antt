use Rattle.std.proofs.Common.{List, [], ◌∷◌, ◌++◌, sym, ◌∙◌, ap}
use Rattle.units.specs.declared.disk.DiskNo.{DiskNo}
use Rattle.imsm_codec.specs.Mpb.{block_bytes}
use Rattle.control_state.specs.Seen.{numbers}
use Rattle.image_start.proofs.Found.{both-members}
use Rattle.image_start.proofs.disks.members_of.Goals as goal

pub returns : goal.returns
returns c contents =
    let first : DiskNo = c.member_of.result in
    let second : DiskNo = c.member_of-2.result in
    ap numbers (c.push-2.ensures.items ∙ ap (λ (xs : List DiskNo). xs ++ second ∷ []) (c.push.ensures.items ∙ ap (λ (xs : List DiskNo). xs ++ first ∷ []) c.new-members.ensures))
    ∙ sym (both-members c.args.images.now contents (block_bytes c.args.mpb.now) first.0 second.0 c.requires.starts c.requires.block c.member_of.ensures c.member_of-2.ensures)
