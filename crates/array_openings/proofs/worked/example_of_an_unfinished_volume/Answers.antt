use Rattle.std.proofs.Common.{refl}
use Rattle.imsm_base.specs.Parts.{block_in}
use Rattle.new_container.specs.Created.{block_with, created_block, created_bytes, created_family}
use Rattle.array_openings.specs.Worked.{with_a_pass}
use Rattle.array_openings.proofs.Rests.{rest_opens}
use Rattle.array_openings.proofs.WorkedBanks.{unfinished_rests, unfinished_sound}
use Rattle.array_openings.proofs.worked.example_of_an_unfinished_volume.Goals as goal

pub returns-clause-opens : goal.returns-clause-opens
returns-clause-opens c = rest_opens with_a_pass unfinished_rests

pub returns-clause-sound : goal.returns-clause-sound
returns-clause-sound c = unfinished_sound

pub returns-clause-clean : goal.returns-clause-clean
unfolding block_in created_bytes created_block created_family block_with
returns-clause-clean c = refl

pub returns-clause-pass : goal.returns-clause-pass
unfolding block_in created_bytes created_block created_family block_with
returns-clause-pass c = refl

pub returns-clause-generation : goal.returns-clause-generation
unfolding block_in created_bytes created_block created_family block_with
returns-clause-generation c = refl
