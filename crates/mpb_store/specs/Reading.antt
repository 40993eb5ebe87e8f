-- How a metadata block is read off a disk: its anchor, and then, where the anchor tells how many there are, the
-- extended sectors in order. Source: load_imsm_mpb of super-intel.c; the bounds on sizes are this project's own.
use Rattle.std.specs.Prelude.{◌≡◌, ℕ, ◌-◌, ◌/◌, ◌%◌, ◌<◌, ◌&&◌, ◌||◌, nat_lt, Bool, if◌then◌else◌, List, [], ◌∷◌, take, drop, length, Option, Some, None}
use Rattle.std.specs.List.{range_with_len, flat_map}
use Rattle.std.specs.Str.{bytes_eq}
use Rattle.units.specs.declared.bounds.TheConstants.{METADATA_SECTORS, SECTOR_BYTES}
use Rattle.units.specs.declared.disk.Sector.{Sector}
use Rattle.imsm_base.specs.Whole.{the_signature, is_size}
use Rattle.units.specs.Places.{anchor_place, extended_count}
use Rattle.imsm_codec.specs.Given.{size_in, IsSized}
use Rattle.imsm_codec.specs.declared.fault.MpbFault.{MpbFault}
use Rattle.imsm_codec.specs.declared.fault.MpbFault.TheVariants.{Cut}
use Rattle.mpb_store.specs.declared.reading.ReadStep.{ReadStep}
use Rattle.mpb_store.specs.declared.reading.ReadStep.TheVariants.{Read, Over}

-- the reading of a disk of so many sectors: the bytes of what was read so far, the anchor's first, and whether a read
-- failed
pub record Reading : Type 0 where
  pub sectors : ℕ
  pub bytes : List ℕ
  pub failed : Bool

-- an anchor is signed, and its size is in the bounds
abbrev pub is_sized : List ℕ → Bool
is_sized bytes = bytes_eq (take 24 bytes) the_signature && is_size (size_in bytes)

-- how many extended sectors an anchor speaks of
abbrev pub extended_by : List ℕ → ℕ
extended_by bytes = if is_sized bytes then extended_count (size_in bytes) else 0

-- where a block with this anchor stands on a disk of n sectors, in the order of its bytes
abbrev pub places_of : ℕ → List ℕ → List ℕ
places_of n bytes = anchor_place n ∷ range_with_len (anchor_place n - extended_by bytes) (extended_by bytes)

-- the places that are still to be read: none of a disk without room for metadata, nor behind a read that failed
abbrev pub places_left : Reading → List ℕ
places_left r =
    if r.failed || nat_lt r.sectors METADATA_SECTORS then []
    else drop (length r.bytes / SECTOR_BYTES) (places_of r.sectors r.bytes)

-- a block begins here, and goes on behind the bytes
pub record IsCut (bytes : List ℕ) : Type 0 where
  pub sized : IsSized bytes
  pub more : length bytes < size_in bytes

-- the size that a block tells which goes on behind its bytes, by what is wrong with these
abbrev pub cut_size_of : MpbFault → Option ℕ
cut_size_of (Cut n given) = Some n
cut_size_of _ = None

-- whole sectors were read, and none of a disk without room for metadata
pub record IsReading (sectors : ℕ) (bytes : List ℕ) : Type 0 where
  pub whole : length bytes % SECTOR_BYTES ≡ 0
  pub none : sectors < METADATA_SECTORS → bytes ≡ []

abbrev pub first_read : List ℕ → ReadStep
first_read [] = Over
first_read (p ∷ ps) = Read p

-- the bytes of the sectors at these places, where `at` gives the sector at each place
abbrev pub bytes_at : (ℕ → Sector) → List ℕ → List ℕ
bytes_at at places = flat_map (λ p. (at p).0) places
