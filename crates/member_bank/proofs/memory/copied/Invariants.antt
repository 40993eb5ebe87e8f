use Rattle.std.proofs.Common.{◌≡◌, take}
use Rattle.member_bank.specs.Contents.{contents_of, sectors_of}
use Rattle.member_bank.proofs.memory.copied.Given as goal

abbrev pub invariant-loop-disk : goal.invariant-loop-disk
invariant-loop-disk l = sectors_of l.copies.items ≡ (contents_of (take l.disk-index l.disks)).sectors
