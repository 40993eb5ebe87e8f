use Rattle.std.proofs.Common.{ℕ, ◌+◌, ◌*◌, drop, sym, ◌∙◌, ap}
use Rattle.imsm_base.specs.Layout.{disk_lengths}
use Rattle.imsm_base.specs.Parts.{cut_at}
use Rattle.imsm_base.proofs.At.{disk_in-block}
use Rattle.imsm_codec.proofs.disk.record_at.Goals as goal

pub returns-clause-disk : goal.returns-clause-disk
returns-clause-disk c =
    let bytes = c.args.bytes.now in
    ap (cut_at 0 disk_lengths) c.behind.ensures
    ∙ ap (λ (n : ℕ). cut_at 0 disk_lengths (drop (216 + 48 * n) bytes)) c.from.ensures
    ∙ sym (disk_in-block bytes c.args.i c.requires.below)
