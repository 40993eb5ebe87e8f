use Rattle.std.proofs.Common.{refl}
use Rattle.imsm_base.specs.Parts.{block_in}
use Rattle.new_container.specs.Created.{block_with, created_block, created_bytes, created_family}
use Rattle.array_edits.proofs.examples.example_of_a_degraded_container.Goals as goal

pub returns-clause-sectors : goal.returns-clause-sectors
unfolding block_in created_bytes created_block created_family block_with
returns-clause-sectors c = refl

pub returns-clause-formed : goal.returns-clause-formed
unfolding block_in created_bytes created_block created_family block_with
returns-clause-formed c = refl

pub returns-clause-slots : goal.returns-clause-slots
unfolding block_in created_bytes created_block created_family block_with
returns-clause-slots c = refl

pub returns-clause-generation : goal.returns-clause-generation
unfolding block_in created_bytes created_block created_family block_with
returns-clause-generation c = refl
