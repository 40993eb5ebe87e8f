use Rattle.std.proofs.Common.{refl}
use Rattle.imsm_base.specs.Parts.{block_in}
use Rattle.new_container.specs.Created.{block_with, created_block, created_bytes, created_family}
use Rattle.array_edits.proofs.examples.example_of_a_rebuild_of_another_system.Goals as goal

pub returns-clause-formed : goal.returns-clause-formed
unfolding block_in created_bytes created_block created_family block_with
returns-clause-formed c = refl

pub returns-clause-before : goal.returns-clause-before
unfolding block_in created_bytes created_block created_family block_with
returns-clause-before c = refl

pub returns-clause-after : goal.returns-clause-after
unfolding block_in created_bytes created_block created_family block_with
returns-clause-after c = refl
