use Rattle.std.proofs.Common.{refl}
use Rattle.new_container.specs.Created.{block_with, created_block, created_bytes, created_family}
use Rattle.new_container.proofs.law.example_of_a_new_mirror.Goals as goal

pub returns-clause-bytes : goal.returns-clause-bytes
unfolding created_bytes created_block created_family block_with
returns-clause-bytes c = refl
