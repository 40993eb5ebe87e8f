use Rattle.std.proofs.Common.{◌≡◌, ◌+◌, take, true}
use Rattle.std.specs.List.{list_all}
use Rattle.units.specs.declared.bounds.TheConstants.{METADATA_SECTORS}
use Rattle.imsm_base.specs.Volumes.{members, has_sectors}
use Rattle.imsm_codec.specs.Mpb.{block_of, volume_at}
use Rattle.imsm_view.proofs.geometry.have_sectors.Given as goal

abbrev pub invariant-loop-slot : goal.invariant-loop-slot
invariant-loop-slot l =
    list_all (has_sectors (block_of l.mpb) (l.pba + l.rows + METADATA_SECTORS)) (take l.slot (members (volume_at l.v.0 (block_of l.mpb)))) ≡ true
