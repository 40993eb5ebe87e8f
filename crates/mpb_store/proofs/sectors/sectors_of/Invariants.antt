use Rattle.std.proofs.Common.{◌≡◌, length, map, take}
use Rattle.std.specs.List.{range_with_len}
use Rattle.mpb_store.specs.Sectors.{block_sector}
use Rattle.mpb_store.proofs.sectors.sectors_of.Given as goal

abbrev pub invariant-loop-number : goal.invariant-loop-number
invariant-loop-number l = record {
  count : length l.into ≡ 16;
  front : take l.number l.into ≡ map (block_sector l.bytes) (range_with_len 0 l.number);
}
