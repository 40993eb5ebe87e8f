-- The words of volumes tell them in one way.
use Rattle.std.proofs.Common.{◌≡◌, ◌∙◌, ℕ, List, ◌∷◌, ◌++◌, true, map, Option, Some, None, IfSome, refl, sym, ap}
use Rattle.std.specs.List.{list_all}
use Rattle.std.specs.Fmt.{decimal}
use Rattle.units.specs.declared.volume.Level.{Level}
use Rattle.units.specs.declared.volume.Level.TheVariants.{One, Five, Ten}
use Rattle.new_container.specs.declared.volume.NewVolume.{NewVolume}
use Rattle.new_container.specs.Fits.{is_in_range}
use Rattle.image_words.specs.Words.{ImageWord, level_word, second_words, spelled, volume_words}
use Rattle.image_words.proofs.Asked.{is_other, no_image_word}

pub same_volume : (level : Level) (strip size : ℕ) (v : NewVolume) → level ≡ v.level → strip ≡ v.strip → size ≡ v.size → (record { level = level; strip = strip; size = size }) ≡ v
same_volume level strip size v levels strips sizes = rw (levels, strips, sizes) refl

-- the word of a level has no `=`, so it names no image
level_is_other : (level : Level) → list_all is_other (level_word level) ≡ true
level_is_other One = refl
level_is_other Five = refl
level_is_other Ten = refl

pub no_level : (images : List ImageWord) (level : Level) (rest : List (List ℕ)) → map spelled images ≡ level_word level ∷ rest → ⊥
no_level images level rest same = no_image_word images (level_word level) rest (level_is_other level) same

-- where words begin with a volume's, this is the second one
pub second_found : (words rest : List (List ℕ)) (volume : NewVolume) → words ≡ volume_words volume ++ rest
    → ((v : NewVolume) (behind : List (List ℕ)) → is_in_range v ≡ true → words ≡ volume_words v ++ behind → (volume ≡ v) × (rest ≡ behind))
    → (second : Option NewVolume) (images : List ImageWord) → IfSome second (λ v. is_in_range v ≡ true) → words ≡ second_words second ++ map spelled images
    → (Some volume ≡ second) × (rest ≡ map spelled images)
second_found words rest volume begins only None images range same =
    absurd (no_level images volume.level (decimal volume.strip ∷ decimal volume.size ∷ rest) (sym same ∙ begins))
second_found words rest volume begins only (Some v) images range same =
    let found = only v (map spelled images) range same in
    (ap Some found.0, found.1)
