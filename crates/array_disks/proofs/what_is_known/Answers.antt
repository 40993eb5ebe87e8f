use Rattle.array_disks.proofs.Brought.{known_is, writes_call}
use Rattle.array_disks.proofs.Known.{known_grows, writes_since}
use Rattle.array_disks.proofs.Sizes.{known_sized}
use Rattle.array_disks.proofs.Blocks.{anchor_completes_none}
use Rattle.array_disks.proofs.what_is_known.Goals as goal

pub returns : goal.returns
returns c = record {
  parts = λ W disks log d. known_is W disks d log;
  grows = λ W disks log more d m. known_grows W disks d log more m;
  longer = λ W disks log call d. writes_call W disks d log call;
  sized = λ W disks log d m. known_sized W disks d log m;
  none = anchor_completes_none;
  since = λ W disks log stamp d m. writes_since W disks d stamp log m;
}
