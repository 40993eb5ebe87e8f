-- A metadata block as it lies on a disk, and the words of it that the laws use. The laws take any words; what they
-- mean on the bytes of a block stands in Meaning. Source: imsm_super and what it holds, of super-intel.c; which words
-- the laws ask for is this project's own.
use Rattle.std.specs.Prelude.{◌≡◌, ℕ, ◌==◌, ◌&&◌, Bool, true, false, List, [], ◌∷◌, length, Option, Some, None, if◌then◌else◌}
use Rattle.std.specs.Str.{bytes_eq}
use Rattle.units.specs.declared.disk.Sector.{Sector}
use Rattle.array_model.specs.Placement.{Shape}

-- the anchor sector, and the extended sectors that stand before it on the disk
pub record Laid : Type 0 where
  pub anchor : Sector
  pub extended : List Sector

-- a slot of a volume: the index of its disk's record, the record's serial, whether the record is expected, and
-- whether the slot is in sync
pub record SlotWords : Type 0 where
  pub index : ℕ
  pub serial : List ℕ
  pub is_expected : Bool
  pub is_in_sync : Bool

-- what blocks say. A disk is known by its serial, a volume by its number.
pub record Words : Type 0 where
  -- by the anchor alone: how many extended sectors belong to it, and the generation
  pub extra : Sector → ℕ
  pub generation : Sector → ℕ
  -- on a disk of this serial and so many sectors the block is whole
  pub is_whole : List ℕ → ℕ → Laid → Bool
  -- how many volumes it has: with one at least it is a container's block, else a spare's
  pub volumes : Laid → ℕ
  pub family : Laid → ℕ
  -- a record has the serial; an expected record has it
  pub has_record : Laid → List ℕ → Bool
  pub expects : Laid → List ℕ → Bool
  -- one record more fits into the table and into the block
  pub has_room : Laid → Bool
  -- of a volume: no fault, dirty, unfinished, able to run
  pub is_supported : Laid → ℕ → Bool
  pub is_dirty : Laid → ℕ → Bool
  pub is_unfinished : Laid → ℕ → Bool
  pub can_run : Laid → ℕ → Bool
  -- the type of the pass that is open, the unit that is recorded, the row that a pass starts at
  pub pass : Laid → ℕ → Option ℕ
  pub unit : Laid → ℕ → ℕ
  pub pass_start : Laid → ℕ → ℕ
  pub shape : Laid → ℕ → Shape
  pub slots : Laid → ℕ → List SlotWords

-- EQUAL BLOCKS

abbrev pub sector_eq : Sector → Sector → Bool
sector_eq a b = bytes_eq a.0 b.0

abbrev pub sectors_eq : List Sector → List Sector → Bool
sectors_eq [] [] = true
sectors_eq [] (b ∷ bs) = false
sectors_eq (a ∷ more) [] = false
sectors_eq (a ∷ more) (b ∷ bs) = sector_eq a b && sectors_eq more bs

abbrev pub laid_eq : Laid → Laid → Bool
laid_eq a b = sector_eq a.anchor b.anchor && sectors_eq a.extended b.extended

abbrev pub is_container : Words → Laid → Bool
is_container W m = if W.volumes m == 0 then false else true

-- an anchor with the extended sectors that were written right before it: a block, where they are as many as belong
-- to the anchor
abbrev pub block_of : Words → List Sector → Sector → Option Laid
block_of W before anchor =
    if W.extra anchor == 0 then Some (record { anchor = anchor; extended = [] })
    else (if length before == W.extra anchor then Some (record { anchor = anchor; extended = before }) else None)

-- ALIKE

-- Two blocks say the same: of their generation, their family and their volumes, of each disk by its serial, and of each
-- volume. Their bytes may differ behind the block's end; whether there is room isn't compared.
pub record SaysAlike (W : Words) (a b : Laid) : Type 0 where
  pub generation : W.generation a.anchor ≡ W.generation b.anchor
  pub family : W.family a ≡ W.family b
  pub volumes : W.volumes a ≡ W.volumes b
  pub has_record : (serial : List ℕ) → W.has_record a serial ≡ W.has_record b serial
  pub expects : (serial : List ℕ) → W.expects a serial ≡ W.expects b serial
  pub is_supported : (v : ℕ) → W.is_supported a v ≡ W.is_supported b v
  pub is_dirty : (v : ℕ) → W.is_dirty a v ≡ W.is_dirty b v
  pub is_unfinished : (v : ℕ) → W.is_unfinished a v ≡ W.is_unfinished b v
  pub can_run : (v : ℕ) → W.can_run a v ≡ W.can_run b v
  pub pass : (v : ℕ) → W.pass a v ≡ W.pass b v
  pub unit : (v : ℕ) → W.unit a v ≡ W.unit b v
  pub pass_start : (v : ℕ) → W.pass_start a v ≡ W.pass_start b v
  pub shape : (v : ℕ) → W.shape a v ≡ W.shape b v
  pub slots : (v : ℕ) → W.slots a v ≡ W.slots b v
