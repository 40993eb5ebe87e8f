use Rattle.std.proofs.Common.{◌≡◌, List, refl, inl, inr}
use Rattle.units.specs.declared.disk.Sector.{Sector}
use Rattle.units.specs.declared.volume.Level.TheVariants.{One}
use Rattle.sound_images.specs.Images.{Image, block_on}
use Rattle.sound_images.specs.Small.{small_words, clean, dirty, strange, disk, two_disks}
use Rattle.sound_images.proofs.Disks.{held_at}
use Rattle.sound_images.proofs.examples.example_of_one_container.Goals as goal

abbrev first : Image
first = disk 1 (clean 1) 1 2

abbrev second : Sector → Image
second anchor = disk 2 anchor 1 2

pub returns-clause-families : goal.returns-clause-families
returns-clause-families c sound =
    let images : List Image = two_disks (clean 1) (strange 2) 1 2 in
    let same : 7 ≡ 8 =
    sound.one_container.family (block_on (small_words One) first) (block_on (small_words One) (second (strange 2)))
    (held_at (small_words One) images first (inl refl) refl refl) (held_at (small_words One) images (second (strange 2)) (inr (inl refl)) refl refl) in
    cc same

pub returns-clause-twins : goal.returns-clause-twins
returns-clause-twins c sound =
    let images : List Image = two_disks (clean 1) (dirty 1) 1 2 in
    let same : (clean 1).0 ≡ (dirty 1).0 =
    sound.one_container.same (block_on (small_words One) first) (block_on (small_words One) (second (dirty 1)))
    (held_at (small_words One) images first (inl refl) refl refl) (held_at (small_words One) images (second (dirty 1)) (inr (inl refl)) refl refl) refl in
    cc same
