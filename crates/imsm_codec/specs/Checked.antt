-- What the steps of the check find, in their order, of the parts as they are taken apart. `HasFault` says the same of
-- any parts that are laid there.
-- Source: load_imsm_mpb and parse_raid_devices of super-intel.c; the bounds are this project's own.
use Rattle.std.specs.Prelude.{◌≡◌, ◌≢◌, ℕ, ◌+◌, ◌<◌, ◌≤◌, List, length, take}
use Rattle.units.specs.declared.bounds.TheConstants.{HEADER_BYTES}
use Rattle.imsm_base.specs.Fields.{number_at}
use Rattle.imsm_base.specs.Whole.{the_signature, block_sum, IsSize, IsAcceptedTail}
use Rattle.imsm_base.specs.Parts.{volumes_in, volumes_room, behind_disks, behind_volumes, block_in}
use Rattle.imsm_codec.specs.Given.{size_in, IsSigned, IsSized}
use Rattle.imsm_codec.specs.Table.{IsSummed, HasTable, IsTabled, HasNoTwins, AreFirstTwins}
use Rattle.imsm_codec.specs.declared.fault.MpbFault.{MpbFault}
use Rattle.imsm_codec.specs.declared.fault.MpbFault.TheVariants.{Short, Signature, Size, Cut, Checksum, Counts, Serials, Volume, BadBlocks}

-- so many volumes end inside
abbrev pub HasRoomFor : ℕ → List ℕ → Type 0
HasRoomFor count bytes = volumes_room (volumes_in count (behind_disks bytes)) ≤ length (behind_disks bytes)

-- the tail lies behind the volumes, and is of an accepted form
pub record HasTail (bytes : List ℕ) : Type 0 where
  pub room : number_at 4 0x48 bytes ≤ length (behind_volumes bytes)
  pub accepted : IsAcceptedTail (block_in bytes).tail

-- behind the counts the serials are right, then the volumes, and at last the tail
pub record IsDistinct (bytes : List ℕ) : Type 0 where
  pub tabled : IsTabled bytes
  pub apart : HasNoTwins (block_in bytes).disks

pub record IsFilled (bytes : List ℕ) : Type 0 where
  pub distinct : IsDistinct bytes
  pub room : HasRoomFor (number_at 1 0x39 bytes) bytes

pub record IsChecked (bytes : List ℕ) : Type 0 where
  pub filled : IsFilled bytes
  pub tail : HasTail bytes

-- what is wrong with the front of the bytes, where all before is right
abbrev pub HasFrontFault : List ℕ → MpbFault → Type 0
HasFrontFault bytes (Short given) = (given ≡ length bytes) × (given < HEADER_BYTES)
HasFrontFault bytes Signature = (HEADER_BYTES ≤ length bytes) × (take 24 bytes ≢ the_signature)
HasFrontFault bytes (Size n) = IsSigned bytes × (n ≡ size_in bytes) × ¬ IsSize n
HasFrontFault bytes (Cut n given) = IsSized bytes × (n ≡ size_in bytes) × (given ≡ length bytes) × (given < n)
HasFrontFault bytes _ = ⊥

-- what is wrong with a block of which the front is right
abbrev pub HasBlockFault : List ℕ → MpbFault → Type 0
HasBlockFault bytes (Checksum kept summed) =
    (kept ≡ number_at 4 0x20 bytes) × (summed ≡ block_sum bytes) × (kept ≢ summed)
HasBlockFault bytes (Counts disks volumes) =
    IsSummed bytes × (disks ≡ number_at 1 0x38 bytes) × (volumes ≡ number_at 1 0x39 bytes) × ¬ HasTable bytes
HasBlockFault bytes (Serials i j) = IsTabled bytes × AreFirstTwins (block_in bytes).disks i j
HasBlockFault bytes (Volume i) =
    IsDistinct bytes × (i < number_at 1 0x39 bytes) × HasRoomFor i bytes × ¬ HasRoomFor (i + 1) bytes
HasBlockFault bytes (BadBlocks n) = IsFilled bytes × (n ≡ number_at 4 0x48 bytes) × ¬ HasTail bytes
HasBlockFault bytes _ = ⊥
