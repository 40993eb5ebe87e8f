use Rattle.std.proofs.Common.{◌≡◌, ℕ, [], false, length, slice_index_or, sym, ◌∙◌, arith}
use borrow.Author.Count.{below_more}
use Rattle.imsm_base.specs.Layout.{disk_count_of}
use Rattle.imsm_codec.specs.Mpb.{block_bytes, block_of}
use Rattle.imsm_codec.proofs.Found.{disks_counted}
use Rattle.container.specs.Steps.{is_named}
use Rattle.container.proofs.Records.{named_here, not_here, none_at}
use Rattle.container.proofs.record.index_of.Goals as goal

pub loop-i-preserved : goal.loop-i-preserved
loop-i-preserved c =
    below_more (λ (k : ℕ). is_named c.args.only_expected c.args.serial.now.0 (slice_index_or (block_of c.args.mpb.now).disks k []) ≡ false) c.loop-i.i c.loop-i.invariant
    (sym c.is_named.ensures ∙ c.if-is_named.false)

pub returns-then-is_named : goal.returns-then-is_named
returns-then-is_named c =
    let b = block_of c.args.mpb.now in
    let count : length b.disks ≡ disk_count_of b = disks_counted (block_bytes c.args.mpb.now) in
    record {
      here = named_here c.args.only_expected c.args.serial.now.0 b.disks c.loop-i.i (omega (arith, c.disks-i-end.ensures, count)) (sym c.is_named.ensures ∙ c.if-is_named.true);
      before = λ k below. not_here c.args.only_expected c.args.serial.now.0 b.disks k (c.loop-i.invariant k below);
    }

pub returns : goal.returns
returns c =
    let b = block_of c.args.mpb.now in
    let count : length b.disks ≡ disk_count_of b = disks_counted (block_bytes c.args.mpb.now) in
    none_at c.args.only_expected c.args.serial.now.0 b.disks (λ k below. c.loop-i.invariant k (omega (arith, c.disks-i-end.ensures, count, below)))
