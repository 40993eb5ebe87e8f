use Rattle.std.proofs.Common.{refl}
use Rattle.imsm_base.specs.Parts.{block_in}
use Rattle.new_container.specs.Created.{block_with, created_block, created_bytes, created_family}
use Rattle.array_openings.specs.Worked.{of_two_sectors}
use Rattle.array_openings.proofs.Rests.{rest_opens}
use Rattle.array_openings.proofs.WorkedBanks.{two_sectors_rest, two_sectors_sound}
use Rattle.array_openings.proofs.worked.example_of_an_extended_block.Goals as goal

pub returns-clause-opens : goal.returns-clause-opens
returns-clause-opens c = rest_opens of_two_sectors two_sectors_rest

pub returns-clause-sound : goal.returns-clause-sound
returns-clause-sound c = two_sectors_sound

pub returns-clause-extended : goal.returns-clause-extended
unfolding block_in created_bytes created_block created_family block_with
returns-clause-extended c = refl
