-- Which volumes a container's newest block starts, in the words of blocks. Source: the verdict of container, which
-- names its own; that a slot is in sync only on an expected disk is this project's own.
use Rattle.std.specs.Prelude.{◌≡◌, ℕ, ◌≤◌, ◌&&◌, ◌||◌, not, Bool, true, false, List, [], map, length, slice_index_or, Option, Some, None, ◌⊎◌}
use Rattle.std.specs.List.{list_any}
use Rattle.units.specs.declared.volume.Level.{Level}
use Rattle.units.specs.declared.volume.Level.TheVariants.{One, Five, Ten}
use Rattle.units.specs.Levels.{suffices}
use Rattle.array_model.specs.Blocks.{Laid, Words, SlotWords}
use Rattle.container.specs.Volumes.{pass_from, verdict_by}
use Rattle.container.specs.declared.volume.VolumeVerdict.{VolumeVerdict}
use Rattle.container.specs.declared.volume.VolumeVerdict.TheVariants.{Degraded, Started}

-- what a block says of a slot; of one that isn't there, that it is neither expected nor in sync
abbrev pub slot_at : Words → Laid → ℕ → ℕ → SlotWords
slot_at W m v slot =
    slice_index_or (W.slots m v) slot (record { index = 0; serial = []; is_expected = false; is_in_sync = false })

-- some slot isn't in sync; some slot's disk isn't expected; an expected one's slot isn't in sync
abbrev pub is_degraded : Words → Laid → ℕ → Bool
is_degraded W m v = list_any (λ slot. not slot.is_in_sync) (W.slots m v)

abbrev pub has_failed_disk : Words → Laid → ℕ → Bool
has_failed_disk W m v = list_any (λ slot. not slot.is_expected) (W.slots m v)

abbrev pub has_slot_to_fill : Words → Laid → ℕ → Bool
has_slot_to_fill W m v = list_any (λ slot. slot.is_expected && not slot.is_in_sync) (W.slots m v)

-- the verdict on a supported volume
abbrev pub verdict_in_words : Words → Laid → ℕ → VolumeVerdict
verdict_in_words W m v =
    verdict_by (W.can_run m v) (W.is_unfinished m v) (is_degraded W m v) (W.shape m v).level
    (pass_from (W.is_unfinished m v || has_slot_to_fill W m v) (W.pass_start m v))

-- the volume is started, with all its slots or degraded, and with a pass from this row, if any
pub record StartsFrom (W : Words) (m : Laid) (v : ℕ) (pass : Option ℕ) : Type 0 where
  pub supported : W.is_supported m v ≡ true
  pub verdict : (verdict_in_words W m v ≡ Started pass) ⊎ (verdict_in_words W m v ≡ Degraded pass)

abbrev pub Starts : Words → Laid → ℕ → Type 0
Starts W m v = (pass : Option ℕ) × StartsFrom W m v pass

-- WORDS THAT AGREE

-- so many members are those of a level
abbrev pub HasMembers : Option Level → ℕ → Type 0
HasMembers None n = ⊥
HasMembers (Some One) n = n ≡ 2
HasMembers (Some Five) n = 2 ≤ n
HasMembers (Some Ten) n = n ≡ 4

-- The words of a block agree on its volumes: a slot in sync stands on an expected disk; a supported volume has as many
-- slots as members, and so many as its level needs; where it can run, the slots in sync suffice.
pub record AgreesOnVolumes (W : Words) (m : Laid) : Type 0 where
  pub expected : (v slot : ℕ) → (slot_at W m v slot).is_in_sync ≡ true
      → W.expects m (slot_at W m v slot).serial ≡ true
  pub count : (v : ℕ) → W.is_supported m v ≡ true → length (W.slots m v) ≡ (W.shape m v).members
  pub members : (v : ℕ) → W.is_supported m v ≡ true → HasMembers (W.shape m v).level (W.shape m v).members
  pub redundant : (v : ℕ) → W.is_supported m v ≡ true → W.can_run m v ≡ true
      → suffices (W.shape m v).level (map (λ slot. slot.is_in_sync) (W.slots m v)) ≡ true

-- those of each block that is whole on some disk do
abbrev pub WordsAgree : Words → Type 0
WordsAgree W = (serial : List ℕ) (sectors : ℕ) (m : Laid) → W.is_whole serial sectors m ≡ true → AgreesOnVolumes W m
