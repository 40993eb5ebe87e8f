use Rattle.std.proofs.Common.{List, ℕ, ap, ◌∙◌, arith}
use Rattle.std.proofs.lemmas.Grind.{common_steps}
use Rattle.mpb_store.specs.Sectors.{block_sectors, bytes_in, filled}
use Rattle.mpb_store.proofs.Filling.{sectors-more, sectors-all, bytes_in-block_sectors}
use Rattle.mpb_store.proofs.sectors.sectors_of.Goals as goal

pub loop-number-preserved : goal.loop-number-preserved
loop-number-preserved c =
    let number : ℕ = c.loop-number.number in
    record {
      count = grind (arith, common_steps);
      front = sectors-more number c.loop-number.into c.sector_from.result c.bytes-bytes.result.now c.loop-number-test.true c.loop-number.invariant.count c.sector_from.ensures
          c.loop-number.invariant.front;
    }

pub returns-clause-sectors : goal.returns-clause-sectors
returns-clause-sectors c =
    sectors-all c.loop-number.number c.loop-number.into c.bytes-bytes.result.now (omega arith) c.loop-number.invariant.count c.loop-number.invariant.front
    ∙ ap block_sectors c.bytes-bytes.ensures.bytes

pub returns-clause-bytes : goal.returns-clause-bytes
returns-clause-bytes c =
    let bytes : List ℕ = c.bytes-bytes.result.now in
    ap bytes_in (sectors-all c.loop-number.number c.loop-number.into bytes (omega arith) c.loop-number.invariant.count c.loop-number.invariant.front)
    ∙ bytes_in-block_sectors bytes (omega arith)
    ∙ ap filled c.bytes-bytes.ensures.bytes
