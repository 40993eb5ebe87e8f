use Rattle.std.proofs.Common.{◌≡◌, take}
use Rattle.image_create.specs.Creates.{new_disks_of}
use Rattle.image_create.proofs.creating.disks_of.Given as goal

abbrev pub invariant-loop-d : goal.invariant-loop-d
invariant-loop-d g l = record {
  listed : l.disks.items ≡ new_disks_of (take l.d (g.B.Bank.serials l.bank)) (take l.d (g.B.Bank.sizes l.bank));
}
