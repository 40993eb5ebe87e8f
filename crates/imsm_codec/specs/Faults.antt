-- What is wrong with bytes that don't begin with a whole block: the first of these conditions that fails.
-- Source: load_imsm_mpb and parse_raid_devices of super-intel.c; their order and the bounds are this project's own.
use Rattle.std.specs.Prelude.{◌≡◌, ◌≢◌, ℕ, ◌<◌, ◌≤◌, List, [], ◌++◌, length, take}
use Rattle.std.specs.List.{concat, flat_map, AllByRecursion}
use Rattle.units.specs.declared.bounds.TheConstants.{HEADER_BYTES}
use Rattle.imsm_base.specs.Fields.{Part, number_at}
use Rattle.imsm_base.specs.Layout.{Volume, IsVolume, HasLengths, header_lengths, disk_lengths, volume_bytes}
use Rattle.imsm_base.specs.Whole.{the_signature, block_sum, IsSize, IsAcceptedTail}
use Rattle.imsm_codec.specs.Given.{size_in, given_block, IsSigned, IsSized, IsGiven}
use Rattle.imsm_codec.specs.Table.{IsSummed, HasTable, IsTabled, HasNoTwins, AreFirstTwins}
use Rattle.imsm_codec.specs.declared.fault.MpbFault.{MpbFault}
use Rattle.imsm_codec.specs.declared.fault.MpbFault.TheVariants.{Short, Signature, Size, Cut, Checksum, Counts, Serials, Volume as VolumeFault, BadBlocks}

-- bytes begin with a header, as many disk records as it says, and these volumes, and go on so
pub record Begins (bytes : List ℕ) (disks : List Part) (volumes : List Volume) (rest : List ℕ) : Type 0 where
  pub header : Part
  pub fields : HasLengths header_lengths header
  pub records : AllByRecursion (HasLengths disk_lengths) disks
  pub counted : length disks ≡ number_at 1 0x38 bytes
  pub each : AllByRecursion IsVolume volumes
  pub laid : bytes ≡ concat header ++ (flat_map concat disks ++ (flat_map volume_bytes volumes ++ rest))

-- two records are the first that are expected and have one serial
pub record HasTwins (bytes : List ℕ) (i j : ℕ) : Type 0 where
  pub tabled : IsTabled bytes
  pub disks : List Part
  pub rest : List ℕ
  pub begins : Begins bytes disks [] rest
  pub twins : AreFirstTwins disks i j

-- so many volumes are laid inside, and no other one behind them
pub record EndsPast (bytes : List ℕ) (i : ℕ) : Type 0 where
  pub tabled : IsTabled bytes
  pub disks : List Part
  pub volumes : List Volume
  pub rest : List ℕ
  pub begins : Begins bytes disks volumes rest
  pub apart : HasNoTwins disks
  pub count : length volumes ≡ i
  pub more : i < number_at 1 0x39 bytes
  pub past : (v : Volume) (behind : List ℕ) → IsVolume v → rest ≡ volume_bytes v ++ behind → ⊥

-- all volumes are laid inside, and behind them no accepted tail of the size that the header says
pub record HasBadTail (bytes : List ℕ) (n : ℕ) : Type 0 where
  pub tabled : IsTabled bytes
  pub disks : List Part
  pub volumes : List Volume
  pub rest : List ℕ
  pub begins : Begins bytes disks volumes rest
  pub apart : HasNoTwins disks
  pub count : length volumes ≡ number_at 1 0x39 bytes
  pub size : n ≡ number_at 4 0x48 bytes
  pub bad : (gap tail : List ℕ) → length tail ≡ n → rest ≡ gap ++ tail → IsAcceptedTail tail → ⊥

abbrev pub HasFault : List ℕ → MpbFault → Type 0
HasFault bytes (Short given) = (given ≡ length bytes) × (given < HEADER_BYTES)
HasFault bytes Signature = (HEADER_BYTES ≤ length bytes) × (take 24 bytes ≢ the_signature)
HasFault bytes (Size n) = IsSigned bytes × (n ≡ size_in bytes) × ¬ IsSize n
HasFault bytes (Cut n given) = IsSized bytes × (n ≡ size_in bytes) × (given ≡ length bytes) × (given < n)
HasFault bytes (Checksum kept summed) =
    let block = given_block bytes in
    IsGiven bytes × ((kept ≡ number_at 4 0x20 block) × (summed ≡ block_sum block) × (kept ≢ summed))
HasFault bytes (Counts disks volumes) =
    let block = given_block bytes in
    IsGiven bytes
    × (IsSummed block × (disks ≡ number_at 1 0x38 block) × (volumes ≡ number_at 1 0x39 block) × ¬ HasTable block)
HasFault bytes (Serials i j) = IsGiven bytes × HasTwins (given_block bytes) i j
HasFault bytes (VolumeFault i) = IsGiven bytes × EndsPast (given_block bytes) i
HasFault bytes (BadBlocks n) = IsGiven bytes × HasBadTail (given_block bytes) n
