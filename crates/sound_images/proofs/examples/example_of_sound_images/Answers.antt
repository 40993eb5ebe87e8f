use Rattle.sound_images.proofs.Stopped.{are_sound, degraded_is_sound}
use Rattle.sound_images.proofs.examples.example_of_sound_images.Goals as goal

pub returns-clause-stopped : goal.returns-clause-stopped
returns-clause-stopped c level = are_sound level

pub returns-clause-degraded : goal.returns-clause-degraded
returns-clause-degraded c = degraded_is_sound
