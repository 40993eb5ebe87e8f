-- The first record that passes a test, and the counts of a view.
use Rattle.std.proofs.Common.{◌≡◌, ℕ, ◌+◌, ◌<◌, ◌≤◌, Bool, true, List, [], ◌∷◌, length, drop, get_or, Some, None, cond, sym, ◌∙◌, ap, subst, arith}
use Rattle.std.specs.Prelude.{find}
use Rattle.std.specs.List.{list_all}
use Rattle.std.proofs.lemmas.List.{drop_more, drop_all, nil_from_length}
use Rattle.imsm_base.specs.Layout.{Volume, disk_count_of, volume_count_of, map_count_of}
use Rattle.imsm_base.specs.Parts.{block_in, volume_in}
use Rattle.imsm_base.proofs.Apart.{length-disks, length-volumes, length-maps_in}
use Rattle.imsm_base.proofs.At.{volume_in-block}
use Rattle.imsm_codec.specs.Mpb.{volume_at, blank_volume}

pub find_here : {X : Type 0} (p : X → Bool) (xs : List X) (i : ℕ) (d : X) → i < length xs → p (get_or xs i d) ≡ true → find p (drop i xs) ≡ Some (get_or xs i d)
find_here p xs i d below passes =
    ap (find p) (drop_more xs i d below) ∙ ap (λ (b : Bool). cond b (Some (get_or xs i d)) (find p (drop (i + 1) xs))) passes

pub find_past : {X : Type 0} (p : X → Bool) (xs : List X) (i : ℕ) → length xs ≤ i → find p (drop i xs) ≡ None
find_past p xs i past = ap (find p) (drop_all i xs past)

pub disks_counted : (bytes : List ℕ) → length (block_in bytes).disks ≡ disk_count_of (block_in bytes)
unfolding block_in
disks_counted bytes = length-disks bytes

pub volumes_counted : (bytes : List ℕ) → length (block_in bytes).volumes ≡ volume_count_of (block_in bytes)
unfolding block_in
volumes_counted bytes = length-volumes bytes

pub list_all_past : {X : Type 0} (p : X → Bool) (xs : List X) (i : ℕ) → length xs ≤ i → list_all p (drop i xs) ≡ true
list_all_past p xs i past = ap (list_all p) (drop_all i xs past)

counted_at : (v : Volume) (rest : List ℕ) → v ≡ volume_in rest → length v.maps ≡ map_count_of v
counted_at v rest e = subst (λ (x : Volume). length x.maps ≡ map_count_of x) (sym e) (length-maps_in (map_count_of (volume_in rest)) (drop 112 rest))

-- a volume has as many maps as its state says
pub maps_counted : (bytes : List ℕ) (k : ℕ) → k < volume_count_of (block_in bytes) → length (volume_at k (block_in bytes)).maps ≡ map_count_of (volume_at k (block_in bytes))
maps_counted bytes k below =
    counted_at _ _ (volume_in-block bytes k blank_volume (omega (arith, volumes_counted bytes, length-volumes bytes)))

-- a list of one volume
pub one_volume : (vs : List Volume) → length vs ≡ 1 → vs ≡ get_or vs 0 blank_volume ∷ []
one_volume [] len = cc
one_volume (v ∷ vs) len = ap (λ (x : List Volume). v ∷ x) (nil_from_length vs (omega arith))
