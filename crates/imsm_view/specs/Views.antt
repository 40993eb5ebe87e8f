-- What a view says of its volume: each field is that of the metadata block, or a word of it.
-- Source: `Volumes` of imsm_base, over imsm_vol and imsm_map of super-intel.c.
use Rattle.std.specs.Prelude.{◌≡◌, ℕ, ◌+◌, ◌&&◌, nat_le, Bool, length, find, map, Option, Some}
use Rattle.std.specs.List.{list_all, range_with_len}
use Rattle.units.specs.declared.bounds.TheConstants.{METADATA_SECTORS}
use Rattle.units.specs.declared.volume.Geometry.{Geometry}
use Rattle.imsm_base.specs.Layout.{Block, Volume, volume_size_of, unit_of, checkpoint_of, pba_of, blocks_per_member_of, strip_of, map_state_of, member_count_of}
use Rattle.imsm_base.specs.Volumes.{Member, first_map, members, is_expected_at, is_dirty, volume_level, volume_rows, has_sectors, is_like, overlaps, pass_of}
use Rattle.imsm_view.specs.declared.volume.Volume.{Volume as View}
use Rattle.imsm_view.specs.declared.volume.SlotView.{SlotView}

-- how the volume lies on its members
pub record IsGeometry (v : Volume) (g : Geometry) : Type 0 where
  pub level : volume_level v ≡ Some g.level
  pub members : g.members ≡ member_count_of (first_map v)
  pub strip : g.strip ≡ strip_of (first_map v)
  pub size : g.size ≡ volume_size_of v
  pub pba : g.pba ≡ pba_of (first_map v)
  pub rows : g.rows ≡ volume_rows v

-- what else makes a volume's geometry good: the rows have room in each member's range and on its disk, and the maps are
-- alike
abbrev pub has_room : Block → Volume → Bool
has_room b v =
    nat_le (volume_rows v) (blocks_per_member_of (first_map v))
    && list_all (has_sectors b (pba_of (first_map v) + volume_rows v + METADATA_SECTORS)) (members v)
    && list_all (is_like (first_map v)) v.maps

-- the first volume that overlaps with this one, of number k
abbrev pub overlap_of : Block → ℕ → Volume → Option ℕ
overlap_of b k v = find (overlaps b k v) (range_with_len 0 (length b.volumes))

abbrev pub slot_view : Block → Member → SlotView
slot_view b m = record { index = m.index; out = m.is_out; expected = is_expected_at b m.index }

-- the view is of this volume of the block
pub record IsVolume (b : Block) (v : Volume) (view : View) : Type 0 where
  pub geometry : IsGeometry v view.geometry
  pub state : view.state ≡ map_state_of (first_map v)
  pub dirty : view.dirty ≡ is_dirty v
  pub pass : view.pass ≡ pass_of v
  pub unit : view.unit ≡ unit_of v
  pub checkpoint : view.checkpoint ≡ checkpoint_of v
  pub slots : view.slots.items ≡ map (slot_view b) (members v)
