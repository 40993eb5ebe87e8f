-- Where the readers find a volume and a map.
use Rattle.std.proofs.Common.{◌≡◌, ℕ, ◌+◌, ◌-◌, ◌*◌, ◌<◌, ◌≤◌, ◌==◌, if◌then◌else◌, Bool, true, false, List, length, drop, sym, ◌∙◌, ap, subst, arith}
use Rattle.std.proofs.lemmas.List.{drop-drop, length-drop}
use Rattle.imsm_base.specs.Fields.{number_at}
use Rattle.imsm_base.specs.Layout.{Volume, Map, map_count_of, member_count_of, migration_state_of}
use Rattle.imsm_base.specs.Volumes.{blank_map, order_at}
use Rattle.imsm_base.specs.Parts.{block_in, room_of, volume_in, volume_room, map_in, map_room, behind_disks}
use Rattle.imsm_base.proofs.At.{place_of, place_of-more, volume_in-block, volumes_fit, map_place, maps_in-at, maps_fit, order_in-map}
use Rattle.imsm_codec.specs.Laid.{IsLaid}
use Rattle.imsm_codec.specs.Mpb.{volume_at, blank_volume, map_at}

-- the volume that stands at a place, and where it ends
pub ends : (i : ℕ) (rest start : List ℕ) → rest ≡ drop (place_of i start) start → place_of (i + 1) start ≡ place_of i start + volume_room (volume_in rest)
ends i rest start at = place_of-more i start ∙ ap (λ (x : List ℕ). place_of i start + volume_room (volume_in x)) (sym at)

pub left : (i : ℕ) (rest start : List ℕ) → rest ≡ drop (place_of i start) start → length rest ≡ length start - place_of i start
left i rest start at = ap (λ (x : List ℕ). length x) at ∙ length-drop (place_of i start) start

pub next : (i : ℕ) (rest start : List ℕ) → rest ≡ drop (place_of i start) start → drop (volume_room (volume_in rest)) rest ≡ drop (place_of (i + 1) start) start
next i rest start at =
    ap (drop (volume_room (volume_in rest))) at ∙ drop-drop (volume_room (volume_in rest)) (place_of i start) start
    ∙ ap (λ (n : ℕ). drop n start) (sym (ends i rest start at))

-- the volumes end inside
pub room_behind_disks : (bytes : List ℕ) → room_of (block_in bytes) ≤ length bytes → place_of (number_at 1 57 bytes) (behind_disks bytes) ≤ length (behind_disks bytes)
unfolding block_in
room_behind_disks bytes room =
    let n : ℕ = number_at 1 56 bytes in
    let behind : length (behind_disks bytes) ≡ length bytes - (216 + 48 * n) = length-drop (216 + 48 * n) bytes in
    omega arith

pub volume_found : (bytes rest : List ℕ) (v : ℕ) → v < number_at 1 57 bytes → rest ≡ drop (place_of v (behind_disks bytes)) (behind_disks bytes) → volume_in rest ≡ volume_at v (block_in bytes)
volume_found bytes rest v below at = ap volume_in at ∙ sym (volume_in-block bytes v blank_volume below)

pub volume_inside : (bytes rest : List ℕ) (v : ℕ) → IsLaid bytes → v < number_at 1 57 bytes → rest ≡ drop (place_of v (behind_disks bytes)) (behind_disks bytes) → volume_room (volume_in rest) ≤ length rest
volume_inside bytes rest v laid below at =
    let start : List ℕ = behind_disks bytes in
    let fits : place_of v start + volume_room (volume_in (drop (place_of v start) start)) ≤ place_of (number_at 1 57 bytes) start = volumes_fit (number_at 1 57 bytes) v start below in
    let len : length rest ≡ length start - place_of v start = ap (λ (x : List ℕ). length x) at ∙ length-drop (place_of v start) start in
    let same : volume_room (volume_in rest) ≡ volume_room (volume_in (drop (place_of v start) start)) = ap (λ (x : List ℕ). volume_room (volume_in x)) at in
    omega (arith, room_behind_disks bytes laid.room)

-- a map of the volume that stands in these bytes
map_found_in : (rest : List ℕ) (m : ℕ) → m < map_count_of (volume_in rest) → map_in (drop (map_place m (drop 112 rest)) (drop 112 rest)) ≡ map_at m (volume_in rest)
map_found_in rest m below = sym (maps_in-at (map_count_of (volume_in rest)) m (drop 112 rest) blank_map below)

pub map_found : (rest maps : List ℕ) (v : Volume) (m place : ℕ) → volume_in rest ≡ v → maps ≡ drop 112 rest → m < map_count_of v → place ≡ map_place m (drop 112 rest) → map_in (drop place maps) ≡ map_at m v
map_found rest maps v m place is at below there =
    let here : m < map_count_of (volume_in rest) = subst (λ (x : Volume). m < map_count_of x) (sym is) below in
    ap (λ (x : List ℕ). map_in (drop place x)) at ∙ ap (λ (n : ℕ). map_in (drop n (drop 112 rest))) there ∙ map_found_in rest m here ∙ ap (map_at m) is

pub map_inside : (rest maps : List ℕ) (v : Volume) (m place : ℕ) → volume_in rest ≡ v → maps ≡ drop 112 rest → m < map_count_of v → place ≡ map_place m (drop 112 rest) → volume_room (volume_in rest) ≤ length rest → map_room (map_in (drop place maps)) ≤ length (drop place maps)
map_inside rest maps v m place is at below there room =
    let M : List ℕ = drop 112 rest in
    let k : ℕ = map_count_of (volume_in rest) in
    let here : m < k = subst (λ (x : Volume). m < map_count_of x) (sym is) below in
    let fits : map_place m M + map_room (map_in (drop (map_place m M) M)) ≤ map_place k M = maps_fit k m M here in
    let all : 112 + map_place k M ≤ length rest = room in
    let len : length (drop (map_place m M) M) ≡ length M - map_place m M = length-drop (map_place m M) M in
    let behind : length M ≡ length rest - 112 = length-drop 112 rest in
    let inside : map_room (map_in (drop (map_place m M) M)) ≤ length (drop (map_place m M) M) = omega arith in
    subst (λ (n : ℕ). map_room (map_in (drop n maps)) ≤ length (drop n maps)) (sym there)
    (subst (λ (x : List ℕ). map_room (map_in (drop (map_place m M) x)) ≤ length (drop (map_place m M) x)) (sym at) inside)

-- there are two maps at most
below_two : (b : Bool) (m : ℕ) → m < (if b then 1 else 2) → (m ≡ 0 → ⊥) → m ≡ 1
below_two true m below first = absurd (first (omega arith))
below_two false m below first = omega arith

pub last_map : (v : Volume) (m : ℕ) → m < map_count_of v → (m ≡ 0 → ⊥) → m ≡ 1
last_map v m below first = below_two (migration_state_of v == 0) m below first

pub order_found : (rest : List ℕ) (m : Map) (slot : ℕ) → map_in rest ≡ m → slot < member_count_of m → number_at 4 (48 + 4 * slot) rest ≡ order_at slot m
order_found rest m slot is below =
    let here : slot < member_count_of (map_in rest) = subst (λ (x : Map). slot < member_count_of x) (sym is) below in
    sym (order_in-map rest slot here) ∙ ap (order_at slot) is

-- there is a first map
some_of_two : (b : Bool) → 0 < (if b then 1 else 2)
some_of_two true = omega arith
some_of_two false = omega arith

pub some_map : (v : Volume) → 0 < map_count_of v
some_map v = some_of_two (migration_state_of v == 0)
