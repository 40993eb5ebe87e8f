-- The first form of a container: two disks and one clean volume of two copies, in a block of one sector. It is what
-- this project starts today. Source: this project's own.
use Rattle.std.specs.Prelude.{◌≡◌, ◌≤◌, ◌<◌, false, [], ◌∷◌, Some, None, true}
use Rattle.std.specs.List.{list_all, list_any}
use Rattle.units.specs.declared.volume.Level.TheVariants.{One}
use Rattle.units.specs.declared.bounds.TheConstants.{SECTOR_BYTES, FIRST_GENERATION_REFUSED}
use Rattle.imsm_base.specs.Layout.{Block, Volume, size_of, generation_of, tail_size_of, disk_count_of, map_state_of}
use Rattle.imsm_base.specs.Whole.{is_expected}
use Rattle.imsm_base.specs.Volumes.{volume_level, volume_fault, first_map, members, has_pass, is_dirty}

-- the volume is of two copies, clean, with no pass, and in sync
pub record IsCleanMirror (b : Block) (v : Volume) : Type 0 where
  pub supported : volume_fault b 0 v ≡ None
  pub level : volume_level v ≡ Some One
  pub idle : has_pass v ≡ false
  pub clean : is_dirty v ≡ false
  pub normal : map_state_of (first_map v) ≡ 0
  pub in_sync : list_any (λ m. m.is_out) (members v) ≡ false

-- the block is a container of the first form
pub record IsFirstForm (b : Block) : Type 0 where
  pub one_sector : size_of b ≤ SECTOR_BYTES
  pub no_tail : tail_size_of b ≡ 0
  pub startable : generation_of b < FIRST_GENERATION_REFUSED
  pub two_disks : disk_count_of b ≡ 2
  pub expected : list_all is_expected b.disks ≡ true
  pub one_volume : (v : Volume) × (b.volumes ≡ v ∷ []) × IsCleanMirror b v
