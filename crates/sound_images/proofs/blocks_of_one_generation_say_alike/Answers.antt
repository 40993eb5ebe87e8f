use Rattle.sound_images.proofs.Alike.{of_one_generation}
use Rattle.sound_images.proofs.blocks_of_one_generation_say_alike.Goals as goal

pub returns-clause-container : goal.returns-clause-container
returns-clause-container c W images a b reads one first second generation = of_one_generation W images a b reads one first second generation

pub returns-clause-sound : goal.returns-clause-sound
returns-clause-sound c W images content unsure mark a b reads sound first second generation =
    of_one_generation W images a b reads sound.one_container first second generation
