use Rattle.std.proofs.Common.{refl}
use Rattle.imsm_base.specs.Parts.{block_in}
use Rattle.new_container.specs.Created.{block_with, created_block, created_bytes, created_family}
use Rattle.array_edits.proofs.examples.example_of_an_unfinished_container.Goals as goal

pub returns-clause-dirty : goal.returns-clause-dirty
unfolding block_in created_bytes created_block created_family block_with
returns-clause-dirty c = refl

pub returns-clause-started : goal.returns-clause-started
unfolding block_in created_bytes created_block created_family block_with
returns-clause-started c = refl

pub returns-clause-unfinished : goal.returns-clause-unfinished
unfolding block_in created_bytes created_block created_family block_with
returns-clause-unfinished c = refl

pub returns-clause-formed : goal.returns-clause-formed
unfolding block_in created_bytes created_block created_family block_with
returns-clause-formed c = refl

pub returns-clause-other : goal.returns-clause-other
unfolding block_in created_bytes created_block created_family block_with
returns-clause-other c = refl

pub returns-clause-both : goal.returns-clause-both
unfolding block_in created_bytes created_block created_family block_with
returns-clause-both c = refl
