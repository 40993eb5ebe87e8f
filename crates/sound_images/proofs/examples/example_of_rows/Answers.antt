use Rattle.std.proofs.Common.{◌≡◌, ℕ, ◌≤◌, ◌==◌, true, List, [], ◌∷◌, length, Option, Some, None, refl, ap, arith, inl, inr}
use Rattle.units.specs.declared.disk.Sector.{Sector}
use Rattle.units.specs.declared.volume.Level.TheVariants.{One, Five}
use Rattle.array_model.specs.Blocks.{Laid}
use Rattle.sound_images.specs.Images.{Image, IsHeld, IsHeldOn}
use Rattle.sound_images.specs.Volumes.{StartsFrom}
use Rattle.sound_images.specs.Sound.{SoundRows, SoundImages}
use Rattle.sound_images.specs.Small.{small_words, small_expected, bytes_of, content, unsure, clean, dirty, failed_first, passing, laid, disk, two_disks, without_first}
use Rattle.sound_images.proofs.Disks.{held_at, each_held, each_serial}
use Rattle.sound_images.proofs.examples.example_of_rows.Goals as goal

-- the rows of sound disks with one block
two_alike : (anchor : Sector) (first second : ℕ) (pass : Option ℕ) → (length anchor.0 == 5) ≡ true → small_expected One (laid anchor) ≡ (1 ∷ []) ∷ (2 ∷ []) ∷ [] → StartsFrom (small_words One) (laid anchor) 0 pass
    → SoundImages (small_words One) bytes_of (two_disks anchor anchor first second) content unsure 1 → SoundRows (small_words One) (two_disks anchor anchor first second) content unsure (laid anchor) 0
two_alike anchor first second pass whole expected starts sound =
    let images : List Image = two_disks anchor anchor first second in
    let one : IsHeld (small_words One) images (laid anchor) = held_at (small_words One) images (disk 1 anchor 1 2) (inl refl) whole refl in
    let other : IsHeld (small_words One) images (laid anchor) = held_at (small_words One) images (disk 2 anchor first second) (inr (inl refl)) whole refl in
    sound.rows (laid anchor)
    (record { held = one; highest = each_held (small_words One) (λ a. (small_words One).generation a.anchor ≤ (small_words One).generation anchor) images (omega arith, (omega arith, tt)) })
    (λ serial is.
    each_serial (λ serial. (a : Laid) × IsHeldOn (small_words One) images serial a) ((1 ∷ []) ∷ (2 ∷ []) ∷ [])
    ((laid anchor, record { held = one; same = refl }), ((laid anchor, record { held = other; same = refl }), tt)) serial (rw expected at is))
    0 (pass, starts)

pub returns-clause-copy : goal.returns-clause-copy
returns-clause-copy c sound =
    let rows = two_alike (dirty 1) 1 9 (Some 0) refl refl (record { supported = refl; verdict = inl refl }) sound in
    let same : 9 ∷ [] ≡ 2 ∷ [] = ap (λ (x : Sector). x.0) (rows.copies 1 (record { main = 0; other = 1; row = 1 }) refl refl 1 refl refl) in
    cc same

pub returns-clause-finished : goal.returns-clause-finished
returns-clause-finished c sound =
    let rows = two_alike (clean 1) 9 2 None refl refl (record { supported = refl; verdict = inl refl }) sound in
    let same : 9 ∷ [] ≡ 1 ∷ [] = rows.finished refl refl 0 1 (omega arith) refl in
    cc same

pub returns-clause-behind_pass : goal.returns-clause-behind_pass
returns-clause-behind_pass c sound =
    let rows = two_alike (passing 1) 9 2 (Some 1) refl refl (record { supported = refl; verdict = inl refl }) sound in
    let same : 9 ∷ [] ≡ 1 ∷ [] = rows.behind_pass refl 0 1 (omega arith) refl in
    cc same

pub returns-clause-gives : goal.returns-clause-gives
returns-clause-gives c sound =
    let block : Laid = laid (failed_first 1) in
    let second : IsHeld (small_words Five) (without_first 9) block = held_at (small_words Five) (without_first 9) (disk 2 (failed_first 1) 2 9) (inl refl) refl refl in
    let third : IsHeld (small_words Five) (without_first 9) block = held_at (small_words Five) (without_first 9) (disk 3 (failed_first 1) 3 4) (inr (inl refl)) refl refl in
    let rows : SoundRows (small_words Five) (without_first 9) content unsure block 0 =
    sound.rows block
    (record { held = second; highest = each_held (small_words Five) (λ a. (small_words Five).generation a.anchor ≤ 1) (without_first 9) (omega arith, (omega arith, tt)) })
    (λ serial is.
    each_serial (λ serial. (a : Laid) × IsHeldOn (small_words Five) (without_first 9) serial a) (small_expected Five block)
    ((block, record { held = second; same = refl }), ((block, record { held = third; same = refl }), tt)) serial is)
    0 (None, record { supported = refl; verdict = inr refl }) in
    let same : 13 ∷ [] ≡ 3 ∷ [] = rows.gives 2 (record { main = 0; other = 1; row = 1 }) refl refl in
    cc same
