-- The code's places are those of the block's tables.
use Rattle.std.proofs.Common.{◌≡◌, ℕ, zero, suc, ◌+◌, ◌-◌, ◌*◌, ◌≤◌, ◌<◌, ◌==◌, if◌then◌else◌, Bool, true, false, List, [], ◌∷◌, ◌++◌, length, take, drop, get_or, ◌∙◌, ap, arith}
use Rattle.std.proofs.lemmas.List.{drop_at, length-append, length-drop}
use Rattle.imsm_base.specs.Fields.{number_at}
use Rattle.imsm_base.specs.Layout.{Block, Volume, Map, IsMap, IsVolume, IsBlock, volume_count_of, map_count_of, migration_state_of, map_bytes}
use Rattle.imsm_base.specs.Volumes.{blank_map}
use Rattle.imsm_base.specs.Parts.{map_in, map_room, maps_room, volumes_in, volume_room, volumes_room, behind_disks, block_in}
use Rattle.imsm_base.specs.Edits.{dirty_place}
use Rattle.imsm_base.proofs.Apart.{parts_apart, laid_apart, length-disks}
use Rattle.imsm_base.proofs.Joined.{map_in-joined}
use Rattle.imsm_base.proofs.Edited.{taken_from}
use Rattle.imsm_codec.specs.Laid.{IsLaid}
use Rattle.imsm_codec.specs.Mpb.{volume_at, map_at, blank_volume}
use Rattle.imsm_buffer.specs.Places.{volume_place, map_place}
use Rattle.imsm_buffer.proofs.Replaced.{all-at}
use Rattle.imsm_buffer.proofs.Around.{before_volume, behind_volume, volume_around, volume_placed, before_map, behind_map, map_around, map_placed, fields_in, regrouped}

-- what is laid is a block
pub block_is : (bytes : List ℕ) → IsLaid bytes → IsBlock (block_in bytes)
block_is bytes laid = parts_apart bytes laid.room

pub volume_is : (bytes : List ℕ) (v : ℕ) → IsLaid bytes → v < volume_count_of (block_in bytes) → IsVolume (volume_at v (block_in bytes))
volume_is bytes v laid below =
    let is : IsBlock (block_in bytes) = block_is bytes laid in
    all-at IsVolume v (block_in bytes).volumes blank_volume is.volumes (omega (arith, is.volume_count))

pub volume_there : (bytes rest : List ℕ) (v : ℕ) → v < number_at 1 57 bytes → rest ≡ drop (volumes_room (volumes_in v (behind_disks bytes))) (behind_disks bytes) → 0 < length rest →
    length bytes - length rest ≡ volume_place v (block_in bytes)
volume_there bytes rest v below at left =
    let before : volumes_room (volumes_in v (behind_disks bytes)) ≡ volumes_room (take v (block_in bytes).volumes) = ap volumes_room (taken_from bytes v (omega arith)) in
    let len : length rest ≡ length (drop (volumes_room (volumes_in v (behind_disks bytes))) (behind_disks bytes)) = ap (λ (x : List ℕ). length x) at in
    omega (arith, length-drop (volumes_room (volumes_in v (behind_disks bytes))) (behind_disks bytes), length-drop (216 + 48 * number_at 1 56 bytes) bytes, length-disks bytes)

-- a volume's dirty byte
pub dirty_there : (bytes : List ℕ) (v at : ℕ) → v < number_at 1 57 bytes → at ≡ volume_place v (block_in bytes) → at + 90 ≡ dirty_place bytes v
dirty_there bytes v at below place =
    let before : volumes_room (volumes_in v (behind_disks bytes)) ≡ volumes_room (take v (block_in bytes).volumes) = ap volumes_room (taken_from bytes v (omega arith)) in
    omega (arith, length-disks bytes)

-- each map ends where all do, or before
pub maps_inside : (m : ℕ) (ms : List Map) (d : Map) → m < length ms → maps_room (take m ms) + map_room (get_or ms m d) ≤ maps_room ms
maps_inside m [] d below = absurd (omega arith)
maps_inside zero (x ∷ ms) d below = omega arith
maps_inside (suc m) (x ∷ ms) d below = omega (arith, maps_inside m ms d (omega arith))

pub map_inside : (bytes : List ℕ) (v m : ℕ) → IsLaid bytes → v < volume_count_of (block_in bytes) → m < map_count_of (volume_at v (block_in bytes)) →
    volume_place v (block_in bytes) + volume_room (volume_at v (block_in bytes)) ≤ length bytes → map_place v m (block_in bytes) + map_room (map_at m (volume_at v (block_in bytes))) ≤ length bytes
map_inside bytes v m laid volume map inside =
    let is : IsVolume (volume_at v (block_in bytes)) = volume_is bytes v laid volume in
    omega (arith, maps_inside m (volume_at v (block_in bytes)).maps blank_map (omega (arith, is.count)))

-- what stands at a map's place begins with the map
pub map_found : (bytes : List ℕ) (v m : ℕ) → IsLaid bytes → v < volume_count_of (block_in bytes) → m < map_count_of (volume_at v (block_in bytes)) →
    map_in (drop (map_place v m (block_in bytes)) bytes) ≡ map_at m (volume_at v (block_in bytes))
map_found bytes v m laid volume map =
    let b : Block = block_in bytes in
    let is : IsBlock b = block_is bytes laid in
    let x : Volume = volume_at v b in
    let isv : IsVolume x = volume_is bytes v laid volume in
    let below : v < length b.volumes = omega (arith, is.volume_count) in
    let there : m < length x.maps = omega (arith, isv.count) in
    let front : List ℕ = before_volume v b ++ before_map m x in
    let rest : List ℕ = behind_map m x ++ behind_volume v b in
    let whole : bytes ≡ front ++ (map_bytes (map_at m x) ++ rest) =
    laid_apart bytes ∙ volume_around v b blank_volume below ∙ ap (λ (y : List ℕ). before_volume v b ++ (y ++ behind_volume v b)) (map_around m x blank_map there)
    ∙ regrouped (before_volume v b) (before_map m x) (map_bytes (map_at m x)) (behind_map m x) (behind_volume v b) in
    let place : length front ≡ map_place v m b = omega (arith, length-append (before_volume v b) (before_map m x), volume_placed v b is, map_placed m x (fields_in x isv)) in
    ap (λ (y : List ℕ). map_in (drop (map_place v m b) y)) whole
    ∙ ap map_in (drop_at front (map_bytes (map_at m x) ++ rest) (map_place v m b) place)
    ∙ map_in-joined (map_at m x) rest (all-at IsMap m x.maps blank_map isv.maps there)

pub two_at_most : (v : Volume) → map_count_of v ≤ 2
two_at_most v = one_or_two (migration_state_of v == 0)
  where
    one_or_two : (none : Bool) → (if none then 1 else 2) ≤ 2
    one_or_two true = omega arith
    one_or_two false = omega arith

-- the second map stands behind the first
pub second_place : (bytes : List ℕ) (v m first len : ℕ) → IsLaid bytes → v < volume_count_of (block_in bytes) → m < map_count_of (volume_at v (block_in bytes)) → 0 < m →
    first ≡ volume_place v (block_in bytes) + 112 → len ≡ map_room (map_in (drop first bytes)) → first + len ≡ map_place v m (block_in bytes)
second_place bytes v m first len laid volume map later at is =
    let x : Volume = volume_at v (block_in bytes) in
    let one : m ≡ 1 = omega (arith, two_at_most x) in
    let isv : IsVolume x = volume_is bytes v laid volume in
    let here : first ≡ map_place v 0 (block_in bytes) = omega arith in
    let found : map_in (drop first bytes) ≡ map_at 0 x = ap (λ (n : ℕ). map_in (drop n bytes)) here ∙ map_found bytes v 0 laid volume (omega arith) in
    let room : len ≡ map_room (map_at 0 x) = is ∙ ap map_room found in
    let taken : maps_room (take m x.maps) ≡ map_room (map_at 0 x) = ap (λ (n : ℕ). maps_room (take n x.maps)) one ∙ first_room x.maps (omega (arith, isv.count)) in
    omega arith
  where
    first_room : (ms : List Map) → 0 < length ms → maps_room (take 1 ms) ≡ map_room (get_or ms 0 blank_map)
    first_room [] some = absurd (omega arith)
    first_room (y ∷ ms) some = omega arith
