-- What the absence of a fault tells of a volume.
use Rattle.std.proofs.Common.{◌≡◌, ℕ, ◌+◌, ◌^◌, ◌&&◌, ◌||◌, ◌==◌, not, Bool, true, if◌then◌else◌, Option, Some, None, refl, sym, ◌∙◌}
use Rattle.std.specs.Prelude.{is_none, nat_le}
use Rattle.std.specs.Option.{option_map}
use Rattle.std.specs.List.{list_all}
use Rattle.std.proofs.lemmas.Bool.{and_parts, not-false}
use Rattle.units.specs.declared.bounds.TheConstants.{METADATA_SECTORS}
use Rattle.imsm_base.specs.Layout.{Block, Volume, volume_size_of, pba_of, blocks_per_member_of, strip_of}
use Rattle.imsm_base.specs.Volumes.{Fault, first_map, members, volume_level, volume_rows, has_policy, has_migration, bad_slot, has_geometry, has_sectors, is_level_one, is_like, geometry_fault, volume_fault}
use Rattle.imsm_base.specs.Volumes.Fault.{BadIndex, BadGeometry, Overlaps}
use Rattle.imsm_view.specs.Views.{overlap_of}
use Rattle.imsm_codec.proofs.Mirror.{test_none}

-- the tests behind the first three, each as a value
abbrev behind : Option ℕ → Bool → Option ℕ → Option Fault
behind (Some slot) geometry over = Some (BadIndex slot)
behind None geometry over = if not geometry then Some BadGeometry else option_map (λ o. Overlaps o) over

behind_is : (b : Block) (k : ℕ) (v : Volume) (slot : Option ℕ) → geometry_fault b k v slot ≡ behind slot (has_geometry b v) (overlap_of b k v)
behind_is b k v (Some slot) = refl
behind_is b k v None = refl

no_slot : (slot : Option ℕ) (geometry : Bool) (over : Option ℕ) → behind slot geometry over ≡ None → (slot ≡ None) × (geometry ≡ true)
no_slot (Some slot) geometry over e = cc
no_slot None geometry over e = (refl, not-false geometry (test_none (not geometry) BadGeometry _ e).0)

-- no slot is bad, and the geometry is good
pub supported_by : (b : Block) (k : ℕ) (v : Volume) → volume_fault b k v ≡ None → (bad_slot b v ≡ None) × (has_geometry b v ≡ true)
supported_by b k v none =
    let behind_level = test_none (is_none (volume_level v)) _ _ none in
    let behind_policy = test_none (not (has_policy v)) _ _ behind_level.1 in
    let behind_migration = test_none (not (has_migration v)) _ _ behind_policy.1 in
    no_slot (bad_slot b v) (has_geometry b v) (overlap_of b k v) (sym (behind_is b k v (bad_slot b v)) ∙ behind_migration.1)

-- the maps are alike where the geometry is good
pub alike : (b : Block) (v : Volume) → has_geometry b v ≡ true → list_all (is_like (first_map v)) v.maps ≡ true
alike b v good =
    let m = first_map v in
    let others : Bool =
    nat_le 1 (volume_size_of v) && nat_le (volume_size_of v) (2 ^ 40) && (is_level_one v || not (strip_of m == 0))
    && nat_le (volume_rows v) (blocks_per_member_of m) && list_all (has_sectors b (pba_of m + volume_rows v + METADATA_SECTORS)) (members v) in
    (and_parts others (list_all (is_like m) v.maps) good).1
