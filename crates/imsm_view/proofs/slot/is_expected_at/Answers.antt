use Rattle.std.proofs.Common.{◌==◌, ◌&&◌, ℕ, ◌∙◌, ap, arith}
use Rattle.std.specs.Int.{bit_at}
use Rattle.imsm_base.specs.Layout.{Block}
use Rattle.imsm_base.specs.Whole.{is_expected}
use Rattle.imsm_codec.specs.Mpb.{block_bytes, block_of}
use Rattle.imsm_codec.proofs.Found.{disks_counted}
use Rattle.imsm_view.proofs.Members.{of_record}
use Rattle.imsm_view.proofs.slot.is_expected_at.Goals as goal

pub returns : goal.returns
returns c =
    let b : Block = block_of c.args.mpb.now in
    let count = disks_counted (block_bytes c.args.mpb.now) in
    c.is_expected.ensures ∙ ap (λ (n : ℕ). bit_at n 1 == 1 && bit_at n 2 == 0) c.disk_status.ensures
    ∙ of_record is_expected b c.args.index (omega arith)
