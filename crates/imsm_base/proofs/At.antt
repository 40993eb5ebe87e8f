-- Where each record, volume, map and entry stands.
use Rattle.std.proofs.Common.{◌≡◌, ℕ, zero, suc, ◌+◌, ◌-◌, ◌*◌, ◌≤◌, ◌<◌, List, [], ◌∷◌, length, map, take, drop, get_or, replicate, refl, ◌∙◌, ap, arith, add-one}
use Rattle.std.proofs.lemmas.List.{drop-drop, get_or-map, length-replicate}
use Rattle.imsm_base.specs.Fields.{number, number_at}
use Rattle.imsm_base.specs.Layout.{Volume, Map, disk_lengths}
use Rattle.imsm_base.specs.Parts.{cut_at, disks_in, map_in, maps_in, volume_in, volumes_in, map_room, maps_room, volume_room, volumes_room, behind_disks, block_in}

-- a record stands at its index times its bytes
pub disks_in-at : (k i : ℕ) (bytes : List ℕ) → i < k → get_or (disks_in k bytes) i [] ≡ cut_at 0 disk_lengths (drop (48 * i) bytes)
disks_in-at zero i bytes below = absurd (omega arith)
disks_in-at (suc k) zero bytes below = refl
disks_in-at (suc k) (suc i) bytes below =
    disks_in-at k i (drop 48 bytes) (omega arith)
    ∙ ap (cut_at 0 disk_lengths) (drop-drop (48 * i) 48 bytes ∙ ap (λ (n : ℕ). drop n bytes) (omega arith))

pub disk_in-block : (bytes : List ℕ) (i : ℕ) → i < number_at 1 56 bytes → get_or (block_in bytes).disks i [] ≡ cut_at 0 disk_lengths (drop (216 + 48 * i) bytes)
unfolding block_in
disk_in-block bytes i below =
    disks_in-at (number_at 1 56 bytes) i (drop 216 bytes) below ∙ ap (cut_at 0 disk_lengths) (drop-drop (48 * i) 216 bytes)

-- the place of volume i behind the disk table
abbrev pub place_of : ℕ → List ℕ → ℕ
place_of i bytes = volumes_room (volumes_in i bytes)

shifted : (n m : ℕ) (bytes : List ℕ) → volume_in (drop m (drop n bytes)) ≡ volume_in (drop (n + m) bytes)
shifted n m bytes = ap volume_in (drop-drop m n bytes)

pub volumes_in-at : (k i : ℕ) (bytes : List ℕ) (d : Volume) → i < k → get_or (volumes_in k bytes) i d ≡ volume_in (drop (place_of i bytes) bytes)
volumes_in-at zero i bytes d below = absurd (omega arith)
volumes_in-at (suc k) zero bytes d below = refl
volumes_in-at (suc k) (suc i) bytes d below =
    let n : ℕ = volume_room (volume_in bytes) in
    volumes_in-at k i (drop n bytes) d (omega arith) ∙ shifted n (place_of i (drop n bytes)) bytes

pub place_of-suc : (i : ℕ) (bytes : List ℕ) → place_of (suc i) bytes ≡ place_of i bytes + volume_room (volume_in (drop (place_of i bytes) bytes))
place_of-suc zero bytes = omega arith
place_of-suc (suc i) bytes =
    let n : ℕ = volume_room (volume_in bytes) in
    let m : ℕ = place_of i (drop n bytes) in
    let more : place_of (suc i) (drop n bytes) ≡ m + volume_room (volume_in (drop m (drop n bytes))) = place_of-suc i (drop n bytes) in
    let there : volume_room (volume_in (drop m (drop n bytes))) ≡ volume_room (volume_in (drop (n + m) bytes)) = ap volume_room (shifted n m bytes) in
    omega arith

pub place_of-more : (i : ℕ) (bytes : List ℕ) → place_of (i + 1) bytes ≡ place_of i bytes + volume_room (volume_in (drop (place_of i bytes) bytes))
place_of-more i bytes = ap (λ (n : ℕ). place_of n bytes) (add-one i) ∙ place_of-suc i bytes

pub place_of-le : (i d : ℕ) (bytes : List ℕ) → place_of i bytes ≤ place_of (i + d) bytes
place_of-le i zero bytes =
    let same : i + 0 ≡ i = omega arith in
    let e : place_of (i + 0) bytes ≡ place_of i bytes = ap (λ (n : ℕ). place_of n bytes) same in
    omega arith
place_of-le i (suc d) bytes =
    let same : i + suc d ≡ suc (i + d) = omega arith in
    let e : place_of (i + suc d) bytes ≡ place_of (suc (i + d)) bytes = ap (λ (n : ℕ). place_of n bytes) same in
    omega (arith, place_of-le i d bytes, place_of-suc (i + d) bytes)

pub place_of-below : (i k : ℕ) (bytes : List ℕ) → i ≤ k → place_of i bytes ≤ place_of k bytes
place_of-below i k bytes below =
    let same : i + (k - i) ≡ k = omega arith in
    let e : place_of (i + (k - i)) bytes ≡ place_of k bytes = ap (λ (n : ℕ). place_of n bytes) same in
    omega (arith, place_of-le i (k - i) bytes)

-- a volume stands behind those before it, and ends inside where they all do
pub volume_in-block : (bytes : List ℕ) (i : ℕ) (d : Volume) → i < number_at 1 57 bytes →
    get_or (block_in bytes).volumes i d ≡ volume_in (drop (place_of i (behind_disks bytes)) (behind_disks bytes))
unfolding block_in
volume_in-block bytes i d below = volumes_in-at (number_at 1 57 bytes) i (behind_disks bytes) d below

-- the place of map m behind a volume's state
abbrev pub map_place : ℕ → List ℕ → ℕ
map_place m bytes = maps_room (maps_in m bytes)

pub maps_in-at : (k m : ℕ) (bytes : List ℕ) (d : Map) → m < k → get_or (maps_in k bytes) m d ≡ map_in (drop (map_place m bytes) bytes)
maps_in-at zero m bytes d below = absurd (omega arith)
maps_in-at (suc k) zero bytes d below = refl
maps_in-at (suc k) (suc m) bytes d below =
    let n : ℕ = map_room (map_in bytes) in
    maps_in-at k m (drop n bytes) d (omega arith) ∙ ap map_in (drop-drop (map_place m (drop n bytes)) n bytes)

-- a slot's entry
pub entry_at : (n slot at : ℕ) (bytes : List ℕ) → slot < n → get_or (cut_at at (replicate n 4) bytes) slot [] ≡ take 4 (drop (at + 4 * slot) bytes)
entry_at zero slot at bytes below = absurd (omega arith)
entry_at (suc n) zero at bytes below = ap (λ (i : ℕ). take 4 (drop i bytes)) (omega arith)
entry_at (suc n) (suc slot) at bytes below =
    entry_at n slot (at + 4) bytes (omega arith) ∙ ap (λ (i : ℕ). take 4 (drop i bytes)) (omega arith)

-- each volume ends where all do, or before
pub volumes_fit : (k i : ℕ) (bytes : List ℕ) → i < k → place_of i bytes + volume_room (volume_in (drop (place_of i bytes) bytes)) ≤ place_of k bytes
volumes_fit k i bytes below = omega (arith, place_of-suc i bytes, place_of-below (suc i) k bytes (omega arith))

-- each map ends where all do, or before
pub maps_fit : (k m : ℕ) (bytes : List ℕ) → m < k → map_place m bytes + map_room (map_in (drop (map_place m bytes) bytes)) ≤ map_place k bytes
maps_fit zero m bytes below = absurd (omega arith)
maps_fit (suc k) zero bytes below = omega arith
maps_fit (suc k) (suc m) bytes below =
    let n : ℕ = map_room (map_in bytes) in
    let at : ℕ = map_place m (drop n bytes) in
    let more : at + map_room (map_in (drop at (drop n bytes))) ≤ map_place k (drop n bytes) = maps_fit k m (drop n bytes) (omega arith) in
    let same : map_room (map_in (drop at (drop n bytes))) ≡ map_room (map_in (drop (n + at) bytes)) = ap (λ (x : List ℕ). map_room (map_in x)) (drop-drop at n bytes) in
    omega arith

pub length-cut_at : (at : ℕ) (ns bytes : List ℕ) → length (cut_at at ns bytes) ≡ length ns
length-cut_at at [] bytes = refl
length-cut_at at (n ∷ ns) bytes = ap suc (length-cut_at (at + n) ns bytes)

-- the number in a slot's entry
pub order_in-map : (bytes : List ℕ) (slot : ℕ) → slot < number_at 1 16 bytes → get_or (map number (map_in bytes).entries) slot 0 ≡ number_at 4 (48 + 4 * slot) bytes
order_in-map bytes slot below =
    let n : ℕ = number_at 1 16 bytes in
    let entries : List (List ℕ) = cut_at 48 (replicate n 4) bytes in
    let len : length entries ≡ n = length-cut_at 48 (replicate n 4) bytes ∙ length-replicate n 4 in
    get_or-map number entries slot [] 0 (omega arith) ∙ ap number (entry_at n slot 48 bytes below)
