-- A whole metadata block, and a whole disk.
-- Source: load_imsm_mpb and parse_raid_devices of super-intel.c. The bounds on sizes and counts, the accepted tails
-- and the rule on serials are this project's own.
use Rattle.std.specs.Prelude.{◌≡◌, ◌≢◌, ℕ, zero, suc, ◌+◌, ◌-◌, ◌*◌, ◌/◌, ◌%◌, ◌^◌, ◌≤◌, ◌==◌, ◌&&◌, nat_le, ◌⊎◌, Bool, if◌then◌else◌, List, [], ◌∷◌, ◌++◌, length, map, filter, take, find, Option, Some, None, ⊤}
use Rattle.std.specs.List.{AllByRecursion}
use Rattle.std.specs.Option.{IsSomeAnd}
use Rattle.std.specs.Int.{bit_at}
use Rattle.std.specs.Str.{bytes_eq}
use Rattle.units.specs.declared.disk.Sector.{Sector}
use Rattle.units.specs.declared.bounds.TheConstants.{HEADER_BYTES, MAX_BLOCK_BYTES, MAX_DISKS, MAX_VOLUMES, METADATA_SECTORS}
use Rattle.units.specs.Places.{anchor_place, extended_count}
use Rattle.imsm_base.specs.declared.values.TheConstants.{LOG_SIGNATURE}
use Rattle.imsm_base.specs.Fields.{Part, number_at}
use Rattle.imsm_base.specs.Layout.{Block, Spells, signature_of, checksum_of, size_of, disk_count_of, volume_count_of, serial_of, status_of, total_blocks_of}

-- "Intel Raid ISM Cfg Sig. " (MPB_SIGNATURE)
abbrev pub the_signature : List ℕ
the_signature =
    0x49 ∷ 0x6e ∷ 0x74 ∷ 0x65 ∷ 0x6c ∷ 0x20 ∷ 0x52 ∷ 0x61 ∷ 0x69 ∷ 0x64 ∷ 0x20 ∷ 0x49 ∷ 0x53 ∷ 0x4d ∷ 0x20 ∷ 0x43
    ∷ 0x66 ∷ 0x67 ∷ 0x20 ∷ 0x53 ∷ 0x69 ∷ 0x67 ∷ 0x2e ∷ 0x20 ∷ []

-- the sum of the first n words of four bytes, but for the word at 0x20, the checksum (__gen_imsm_checksum)
abbrev pub words_sum : List ℕ → ℕ → ℕ
words_sum bytes zero = 0
words_sum bytes (suc n) = words_sum bytes n + (if n == 8 then 0 else number_at 4 (4 * n) bytes)

abbrev pub block_sum : List ℕ → ℕ
block_sum bytes = words_sum bytes (length bytes / 4) % 2 ^ 32

pub record IsSize (n : ℕ) : Type 0 where
  pub least : HEADER_BYTES ≤ n
  pub most : n ≤ MAX_BLOCK_BYTES
  pub words : n % 4 ≡ 0

-- the same as a test
abbrev pub is_size : ℕ → Bool
is_size n = nat_le HEADER_BYTES n && nat_le n MAX_BLOCK_BYTES && (n % 4 == 0)

pub record AreCounts (disks volumes : ℕ) : Type 0 where
  pub some_disk : 1 ≤ disks
  pub few_disks : disks ≤ MAX_DISKS
  pub few_volumes : volumes ≤ MAX_VOLUMES

-- a record is expected where it is configured (bit 1, CONFIGURED_DISK) and hasn't failed (bit 2, FAILED_DISK)
abbrev pub is_expected : Part → Bool
is_expected disk = (bit_at (status_of disk) 1 == 1) && (bit_at (status_of disk) 2 == 0)

abbrev pub expected_serials : Block → List (List ℕ)
expected_serials b = map serial_of (filter is_expected b.disks)

-- no two of these are the same
abbrev pub AreApart : List (List ℕ) → Type 0
AreApart [] = ⊤
AreApart (x ∷ xs) = AllByRecursion (λ y. x ≢ y) xs × AreApart xs

-- a tail is empty, or begins with the mark of an empty bad-block log (BBM_LOG_SIGNATURE, no entries)
abbrev pub IsAcceptedTail : List ℕ → Type 0
IsAcceptedTail bytes =
    (bytes ≡ []) ⊎ ((8 ≤ length bytes) × (number_at 4 0 bytes ≡ LOG_SIGNATURE) × (number_at 4 4 bytes ≡ 0))

-- the block whose parts spell the bytes is whole; a fault is the first of these that fails
pub record IsWholeBlock (bytes : List ℕ) (b : Block) : Type 0 where
  pub signed : signature_of b ≡ the_signature
  pub sized : IsSize (size_of b)
  pub given : size_of b ≡ length bytes
  pub summed : checksum_of b ≡ block_sum bytes
  pub counted : AreCounts (disk_count_of b) (volume_count_of b)
  pub apart : AreApart (expected_serials b)
  pub spells : Spells bytes b
  pub tail : IsAcceptedTail b.tail

-- bytes are a whole block
abbrev pub IsWhole : List ℕ → Type 0
IsWhole bytes = (b : Block) × IsWholeBlock bytes b

-- The block that stands at the end of a disk of n sectors: its first sector, the anchor, is the second to last, and
-- its other sectors stand in order just before the anchor. `at` gives the sector at each place.
abbrev pub sectors_from : (ℕ → Sector) → ℕ → ℕ → List ℕ
sectors_from at place zero = []
sectors_from at place (suc k) = (at place).0 ++ sectors_from at (place + 1) k

abbrev pub standing : ℕ → (ℕ → Sector) → List ℕ
standing n at =
    let first = (at (anchor_place n)).0 in
    let size = number_at 4 0x24 first in
    take size (first ++ sectors_from at (anchor_place n - extended_count size) (extended_count size))

-- the record that speaks for a serial: the expected one that has it, else the first that has it
abbrev pub first_of : Option Part → Option Part → Option Part
first_of (Some disk) other = Some disk
first_of None other = other

abbrev pub own_record : List ℕ → Block → Option Part
own_record own b =
    first_of (find (λ d. is_expected d && bytes_eq (serial_of d) own) b.disks)
    (find (λ d. bytes_eq (serial_of d) own) b.disks)

-- A disk with this serial and so many sectors is whole, by this block: its table holds the serial, and the record
-- asks for no more sectors than there are.
pub record IsWholeDisk (own : List ℕ) (n : ℕ) (bytes : List ℕ) (b : Block) : Type 0 where
  pub enough : METADATA_SECTORS ≤ n
  pub whole : IsWholeBlock bytes b
  pub own_fits : IsSomeAnd (own_record own b) (λ d. total_blocks_of d ≤ n)
