use Rattle.std.proofs.Common.{ℕ, ◌<◌, List, refl, arith, inl, inr}
use Rattle.units.specs.declared.volume.Level.TheVariants.{One}
use Rattle.array_model.specs.Blocks.{Laid}
use Rattle.sound_images.specs.Images.{Image, IsHeldOn, block_on}
use Rattle.sound_images.specs.Small.{small_words, small_expected, clean, failed_first, disk, two_disks}
use Rattle.sound_images.proofs.Disks.{held_at, each_serial}
use Rattle.sound_images.proofs.examples.example_of_old_blocks.Goals as goal

-- no disk of this serial holds a block, or each is higher
abbrev IsLeft : List Image → ℕ → List ℕ → Type 0
IsLeft images generation serial = (a : Laid) → IsHeldOn (small_words One) images serial a → generation < (small_words One).generation a.anchor

-- a block of that generation hasn't left its own disk
stays : (images : List Image) (serial : List ℕ) (m : Laid) → IsHeldOn (small_words One) images serial m → IsLeft images ((small_words One).generation m.anchor) serial → ⊥
stays images serial m held left = let higher = left m held in omega (arith, higher)

pub returns-clause-below_another : goal.returns-clause-below_another
returns-clause-below_another c sound =
    let images : List Image = two_disks (clean 2) (failed_first 1) 1 2 in
    let first : Image = disk 1 (clean 2) 1 2 in
    let second : Image = disk 2 (failed_first 1) 1 2 in
    let one = held_at (small_words One) images first (inl refl) refl refl in
    let other = held_at (small_words One) images second (inr (inl refl)) refl refl in
    let old = sound.old (block_on (small_words One) second) other (inr (block_on (small_words One) first, one, omega arith)) in
    each_serial (λ serial. IsLeft images 1 serial → ⊥) (small_expected One (block_on (small_words One) second)) (stays images second.serial (block_on (small_words One) second) (record { held = other; same = refl }), tt) old.0 old.1 old.2

pub returns-clause-below_the_mark : goal.returns-clause-below_the_mark
returns-clause-below_the_mark c sound =
    let images : List Image = two_disks (clean 1) (clean 1) 1 2 in
    let first : Image = disk 1 (clean 1) 1 2 in
    let second : Image = disk 2 (clean 1) 1 2 in
    let one = held_at (small_words One) images first (inl refl) refl refl in
    let other = held_at (small_words One) images second (inr (inl refl)) refl refl in
    let old = sound.old (block_on (small_words One) first) one (inl (omega arith)) in
    each_serial (λ serial. IsLeft images 1 serial → ⊥) (small_expected One (block_on (small_words One) first)) (stays images first.serial (block_on (small_words One) first) (record { held = one; same = refl }), (stays images second.serial (block_on (small_words One) second) (record { held = other; same = refl }), tt)) old.0 old.1 old.2
