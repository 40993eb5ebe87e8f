use Rattle.std.proofs.Common.{refl}
use Rattle.imsm_base.specs.Parts.{block_in}
use Rattle.new_container.specs.Created.{block_with, created_block, created_bytes, created_family}
use Rattle.array_openings.specs.Worked.{without_a_disk}
use Rattle.array_openings.proofs.Rests.{rest_opens}
use Rattle.array_openings.proofs.WorkedBanks.{degraded_rests, degraded_sound}
use Rattle.array_openings.proofs.worked.example_of_a_degraded_mirror.Goals as goal

pub returns-clause-opens : goal.returns-clause-opens
returns-clause-opens c = rest_opens without_a_disk degraded_rests

pub returns-clause-sound : goal.returns-clause-sound
returns-clause-sound c = degraded_sound

pub returns-clause-slots : goal.returns-clause-slots
unfolding block_in created_bytes created_block created_family block_with
returns-clause-slots c = refl
