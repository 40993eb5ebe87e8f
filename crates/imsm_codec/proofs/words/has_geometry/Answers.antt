use Rattle.std.proofs.Common.{◌≡◌, ℕ, ◌+◌, ◌&&◌, ◌^◌, Bool, sym, ◌∙◌, ap}
use Rattle.std.specs.Prelude.{nat_le}
use Rattle.units.specs.declared.bounds.TheConstants.{METADATA_SECTORS}
use Rattle.imsm_base.specs.Layout.{Block, Volume, Map, volume_size_of, pba_of}
use Rattle.imsm_base.specs.Volumes.{member, first_map, has_sectors}
use Rattle.imsm_codec.specs.Mpb.{block_bytes, block_of, volume_at}
use Rattle.imsm_codec.proofs.Found.{maps_counted}
use Rattle.imsm_codec.proofs.Mirror.{one_map, geometry_decided, bad_size}
use Rattle.imsm_codec.proofs.words.has_geometry.Goals as goal

-- a size in its bounds, by what was read of it
bounded : (r : Bool) (read size : ℕ) → r ≡ (nat_le 1 read && nat_le read (2 ^ 40)) → read ≡ size → r ≡ (nat_le 1 size && nat_le size (2 ^ 40))
bounded r read size is same = is ∙ ap (λ (n : ℕ). nat_le 1 n && nat_le n (2 ^ 40)) same

pub returns-then-not-is_volume_size : goal.returns-then-not-is_volume_size
returns-then-not-is_volume_size c =
    let b : Block = block_of c.args.mpb.now in
    let v : Volume = volume_at c.args.v.0 b in
    let one = one_map v (maps_counted (block_bytes c.args.mpb.now) c.args.v.0 c.requires.volume) c.requires.idle in
    bad_size b v c.requires.level one
    (sym (bounded c.is_volume_size.result c.vol_size-rows.result (volume_size_of v) c.is_volume_size.ensures c.vol_size-rows.ensures) ∙ c.if-not-is_volume_size.true)

pub returns : goal.returns
returns c =
    let b : Block = block_of c.args.mpb.now in
    let v : Volume = volume_at c.args.v.0 b in
    let m : Map = first_map v in
    let one = one_map v (maps_counted (block_bytes c.args.mpb.now) c.args.v.0 c.requires.volume) c.requires.idle in
    let rows : c.vol_size-rows.result ≡ volume_size_of v = c.vol_size-rows.ensures in
    let pba : c.map_pba-pba.result ≡ pba_of m = c.map_pba-pba.ensures in
    let needed : c.map_pba-pba.result + c.vol_size-rows.result + METADATA_SECTORS ≡ pba_of m + volume_size_of v + METADATA_SECTORS =
    ap (λ (n : ℕ). n + c.vol_size-rows.result + METADATA_SECTORS) pba ∙ ap (λ (n : ℕ). pba_of m + n + METADATA_SECTORS) rows in
    c.all_hold.ensures
    ∙ geometry_decided b v c.is_volume_size.result (nat_le c.vol_size-rows.result c.map_blocks.result) c.has_sectors-first.result c.has_sectors-second.result
    c.requires.level one c.if-not-is_volume_size.false
    (bounded c.is_volume_size.result c.vol_size-rows.result (volume_size_of v) c.is_volume_size.ensures rows)
    (ap (λ (n : ℕ). nat_le n c.map_blocks.result) rows ∙ ap (nat_le (volume_size_of v)) c.map_blocks.ensures)
    (c.has_sectors-first.ensures (member v 0) (sym c.member_index.ensures) ∙ ap (λ (n : ℕ). has_sectors b n (member v 0)) needed)
    (c.has_sectors-second.ensures (member v 1) (sym c.member_index-2.ensures) ∙ ap (λ (n : ℕ). has_sectors b n (member v 1)) needed)
