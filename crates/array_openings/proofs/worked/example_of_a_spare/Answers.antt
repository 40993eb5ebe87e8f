use Rattle.std.proofs.Common.{refl}
use Rattle.imsm_base.specs.Parts.{block_in}
use Rattle.new_container.specs.Created.{block_with, created_block, created_bytes, created_family}
use Rattle.array_openings.specs.Worked.{with_a_spare}
use Rattle.array_openings.proofs.Rests.{rest_opens}
use Rattle.array_openings.proofs.WorkedBanks.{spare_rests, spare_sound}
use Rattle.array_openings.proofs.worked.example_of_a_spare.Goals as goal

pub returns-clause-opens : goal.returns-clause-opens
returns-clause-opens c = rest_opens with_a_spare spare_rests

pub returns-clause-sound : goal.returns-clause-sound
returns-clause-sound c = spare_sound

pub returns-clause-spare : goal.returns-clause-spare
unfolding block_in created_bytes created_block created_family block_with
returns-clause-spare c = refl
