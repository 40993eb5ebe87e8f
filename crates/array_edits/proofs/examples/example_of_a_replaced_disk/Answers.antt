use Rattle.std.proofs.Common.{refl}
use Rattle.imsm_base.specs.Parts.{block_in}
use Rattle.new_container.specs.Created.{block_with, created_block, created_bytes, created_family}
use Rattle.array_edits.proofs.examples.example_of_a_replaced_disk.Goals as goal

pub returns-clause-taken : goal.returns-clause-taken
unfolding block_in created_bytes created_block created_family block_with
returns-clause-taken c = refl

pub returns-clause-rebuilt : goal.returns-clause-rebuilt
unfolding block_in created_bytes created_block created_family block_with
returns-clause-rebuilt c = refl

pub returns-clause-formed : goal.returns-clause-formed
unfolding block_in created_bytes created_block created_family block_with
returns-clause-formed c = refl
