-- Volumes whose slots hold copies: mirrors, and stripes over mirrored pairs. Which operations name a sector of one, and
-- where its copies lie. Source: raid1.c and the near-2 layout of raid10.c of the kernel.
use Rattle.std.specs.Prelude.{◌≡◌, ℕ, Bool, true, false, Option, Some, None, ◌⊎◌}
use Rattle.units.specs.declared.volume.Level.{Level}
use Rattle.units.specs.declared.volume.Level.TheVariants.{One, Five, Ten}
use Rattle.array_model.specs.Script.{kind_at}
use Rattle.array_model.specs.Placement.{Placement}
use Rattle.array_machine.specs.Setting.{Setting}
use Rattle.array_machine.specs.Operations.{volume_of, shape_of, sector_in, place_at, the_place}

-- each sector of the level lies whole on both slots of its placement
abbrev pub has_copies : Option Level → Bool
has_copies None = false
has_copies (Some One) = true
has_copies (Some Five) = false
has_copies (Some Ten) = true

abbrev pub HasCopies : Setting → ℕ → Type 0
HasCopies S v = has_copies (shape_of S v).level ≡ true

-- the sector that operation i names, and its row
abbrev pub sector_at : Setting → ℕ → ℕ
sector_at S i = sector_in (kind_at S.asked.ops i)

abbrev pub row_at : Setting → ℕ → ℕ
row_at S i = (the_place S i).row

-- operation i names a sector that has copies
pub record IsCopied (S : Setting) (i : ℕ) : Type 0 where
  pub placed : place_at S i ≡ Some (the_place S i)
  pub copies : HasCopies S (volume_of S i)

-- a slot of the placement
abbrev pub InPair : Placement → ℕ → Type 0
InPair p s = (s ≡ p.main) ⊎ (s ≡ p.other)
