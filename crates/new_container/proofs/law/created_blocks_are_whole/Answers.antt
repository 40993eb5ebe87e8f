use Rattle.std.proofs.lemmas.List.Elements.{recursion_from_All}
use Rattle.new_container.specs.Created.{IsDisk}
use Rattle.new_container.proofs.Whole.{created_whole}
use Rattle.new_container.proofs.Started.{created_disk, created_generation, given_family}
use Rattle.new_container.proofs.law.created_blocks_are_whole.Goals as goal

pub returns : goal.returns
returns c = record {
  whole = λ made disks can typed. created_whole made disks can (recursion_from_All IsDisk disks typed);
  generation = created_generation;
  family = given_family;
  disks = created_disk;
}
