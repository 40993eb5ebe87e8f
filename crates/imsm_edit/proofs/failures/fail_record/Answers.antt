use Rattle.std.proofs.Common.{◌≡◌, ◌+◌, ◌*◌, ℕ, List, length, drop, ◌∙◌, ap, arith}
use Rattle.imsm_base.specs.Fields.{Part}
use Rattle.imsm_base.specs.Layout.{Block, disk_lengths, status_of}
use Rattle.imsm_base.specs.Volumes.{is_expected_at}
use Rattle.imsm_base.specs.EditsOfTables.{block_with_status}
use Rattle.imsm_base.proofs.Apart.{length-disks}
use Rattle.imsm_base.proofs.At.{disk_in-block, length-cut_at}
use Rattle.imsm_codec.specs.Mpb.{disk_at}
use Rattle.imsm_codec.proofs.Found.{disks_counted}
use Rattle.imsm_buffer.specs.Buffer.{parts_of}
use Rattle.imsm_edit.specs.Failures.{with_failed_bit}
use Rattle.imsm_edit.proofs.Lost.{not_expected}
use Rattle.imsm_edit.proofs.failures.fail_record.Goals as goal

pub returns-clause-failed : goal.returns-clause-failed
returns-clause-failed c =
    let b : Block = parts_of c.args.book.now in
    let bytes : List ℕ = c.args.book.now.bytes in
    let i : ℕ = c.args.i in
    let count = disks_counted bytes in
    let status : c.disk_status-status.result ≡ status_of (disk_at i b) = c.disk_status-status.ensures ∙ ap (λ (x : Block). status_of (disk_at i x)) c.parts.ensures.parts in
    let fields : length (disk_at i b) ≡ 7 = ap (λ (part : Part). length part) (disk_in-block bytes i (omega (arith, length-disks bytes))) ∙ length-cut_at 0 disk_lengths (drop (216 + 48 * i) bytes) in
    ap (λ (x : Block). is_expected_at x i) (c.set_status.ensures.block ∙ ap (λ (n : ℕ). block_with_status b i (with_failed_bit n)) status)
    ∙ not_expected b i (omega arith) fields
