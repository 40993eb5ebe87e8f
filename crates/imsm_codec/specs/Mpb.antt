-- The bytes of a view of a metadata block, and its parts: the one block that the bytes spell. Source: this project's
-- own, over the parts that imsm_base takes from super-intel.c.
use Rattle.std.specs.Prelude.{ℕ, List, [], slice_index_or}
use Rattle.imsm_base.specs.Fields.{Part}
use Rattle.imsm_base.specs.Layout.{Block, Volume, Map}
use Rattle.imsm_base.specs.Volumes.{blank_map}
use Rattle.imsm_base.specs.Parts.{block_in}
use Rattle.imsm_codec.specs.declared.mpb.MpbRef.{MpbRef}

abbrev pub block_bytes : MpbRef → List ℕ
block_bytes mpb = mpb.bytes.now

abbrev pub block_of : MpbRef → Block
block_of mpb = block_in (block_bytes mpb)

-- the record of an index, the volume of a number, and a volume's map of a number
abbrev pub disk_at : ℕ → Block → Part
disk_at i b = slice_index_or b.disks i []

abbrev pub blank_volume : Volume
blank_volume = record { device = []; state = []; maps = [] }

abbrev pub volume_at : ℕ → Block → Volume
volume_at k b = slice_index_or b.volumes k blank_volume

abbrev pub map_at : ℕ → Volume → Map
map_at m v = slice_index_or v.maps m blank_map
