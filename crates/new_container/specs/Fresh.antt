-- What a created block says of its volumes: they are as they were asked for, and start as they are. Source: `Volumes`
-- of imsm_base.
use Rattle.std.specs.Prelude.{◌≡◌, ℕ, true, false, length, slice_get, Some, None}
use Rattle.std.specs.List.{list_all}
use Rattle.imsm_base.specs.Layout.{Block, Volume, volume_size_of, map_state_of, member_count_of, pba_of, strip_of}
use Rattle.imsm_base.specs.Volumes.{first_map, has_pass, is_dirty, is_in_sync, members, volume_fault, volume_level, volume_rows}
use Rattle.new_container.specs.declared.container.NewContainer.{NewContainer}
use Rattle.new_container.specs.declared.volume.NewVolume.{NewVolume}
use Rattle.new_container.specs.Fits.{rows_over}
use Rattle.new_container.specs.Created.{volume_count}

-- the volume of this number is supported, clean, without a pass and normal, and each of its slots is in sync
pub record IsFresh (b : Block) (number : ℕ) (v : Volume) : Type 0 where
  pub supported : volume_fault b number v ≡ None
  pub clean : is_dirty v ≡ false
  pub idle : has_pass v ≡ false
  pub normal : map_state_of (first_map v) ≡ 0
  pub in_sync : list_all (is_in_sync b) (members v) ≡ true

-- the volume is the one that was asked for, over so many disks, from a sector on
pub record IsAsked (asked : NewVolume) (count sector : ℕ) (v : Volume) : Type 0 where
  pub level : volume_level v ≡ Some asked.level
  pub members : member_count_of (first_map v) ≡ count
  pub strip : strip_of (first_map v) ≡ asked.strip
  pub size : volume_size_of v ≡ asked.size
  pub pba : pba_of (first_map v) ≡ sector
  pub rows : volume_rows v ≡ rows_over asked count

-- the block has the volumes that were asked for, one behind the other, and each starts as it is
pub record HasVolumes (b : Block) (made : NewContainer) (count : ℕ) : Type 0 where
  pub number : length b.volumes ≡ volume_count made
  pub first : (v : Volume) × (slice_get b.volumes 0 ≡ Some v) × IsAsked made.first count 0 v × IsFresh b 0 v
  pub second : (asked : NewVolume) → made.second ≡ Some asked →
      (v : Volume) × (slice_get b.volumes 1 ≡ Some v) × IsAsked asked count (rows_over made.first count) v
      × IsFresh b 1 v
