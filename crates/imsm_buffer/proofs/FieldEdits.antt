-- Bytes that are put into a field make the bytes of the block with that field changed.
use Rattle.std.proofs.Common.{◌≡◌, ◌≢◌, ℕ, zero, suc, ◌+◌, ◌*◌, ◌/◌, ◌%◌, ◌^◌, ◌≤◌, ◌<◌, ◌==◌, if◌then◌else◌, List, [], ◌++◌, length, take, get_or, replicate, refl, sym, ◌∙◌, ap, subst, arith}
use Rattle.std.specs.List.{concat, flat_map}
use Rattle.std.proofs.lemmas.List.{get_or-replicate, get_or-set_other, length-replicate, length-append}
use Rattle.byteorder.specs.Endian.{little_bytes}
use Rattle.imsm_base.specs.Fields.{Part, number, with_number_at}
use Rattle.imsm_base.specs.Layout.{Block, Volume, Map, HasLengths, IsMap, IsVolume, IsBlock, disk_lengths, device_lengths, state_lengths, map_lengths, member_count_of, map_bytes, volume_bytes, bytes_of}
use Rattle.imsm_base.specs.Parts.{volume_room, maps_room, map_room}
use Rattle.imsm_base.specs.Edits.{with_field}
use Rattle.imsm_base.specs.EditsOfTables.{with_disk, with_volume, with_map, with_wide, map_with_order, map_with_state, volume_with_name}
use Rattle.imsm_base.proofs.Cut.{total, length-part}
use Rattle.imsm_base.proofs.Joined.{length-map_bytes, length-volume_bytes}
use Rattle.imsm_base.proofs.Spliced.{set-lengths}
use Rattle.imsm_base.proofs.Edited.{fields_of}
use Rattle.imsm_buffer.specs.Places.{disk_place, volume_place, with_pass_at}
use Rattle.imsm_buffer.proofs.Replaced.{replaced, replaced-front, replaced-behind, replaced-between, replaced-field, length-changed_at, all-changed_at, all-at}
use Rattle.imsm_buffer.proofs.Around.{before_disk, behind_disk, disk_laid, disk_around, disk_placed, before_volume, behind_volume, volume_laid, volume_around, volume_placed, before_map, behind_map, map_laid, map_around, map_placed, HasFields}

-- A RECORD'S FIELD

pub disk_field_laid : (b : Block) (i k : ℕ) (w : List ℕ) (place : ℕ) → IsBlock b → i < length b.disks → k < 7 →
    total (take k disk_lengths) + get_or disk_lengths k 0 ≤ 48 → place ≡ disk_place i + total (take k disk_lengths) →
    replaced place (get_or disk_lengths k 0) w (bytes_of b) ≡ bytes_of (with_disk i (with_field k w) b)
disk_field_laid b i k w place is below there inside at =
    let disk : Part = get_or b.disks i [] in
    let lengths : HasLengths disk_lengths disk = all-at (HasLengths disk_lengths) i b.disks [] is.disks below in
    ap (replaced place (get_or disk_lengths k 0) w) (disk_around i b below)
    ∙ replaced-between (before_disk i b) (concat disk) (behind_disk i b) w place (total (take k disk_lengths)) (get_or disk_lengths k 0)
    (omega (arith, disk_placed i b is below)) (omega (arith, length-part disk_lengths disk lengths))
    ∙ ap (λ (x : List ℕ). before_disk i b ++ (x ++ behind_disk i b)) (replaced-field disk_lengths disk k w lengths (omega (arith, fields_of disk_lengths disk lengths)))
    ∙ sym (disk_laid i (with_field k w) b below)

-- IN A VOLUME

-- what is put into a volume's bytes is put into the block's
pub in_volume : (b : Block) (k : ℕ) (f : Volume → Volume) (d : Volume) (w : List ℕ) (place at n : ℕ) → IsBlock b → k < length b.volumes → place ≡ volume_place k b + at →
    at + n ≤ volume_room (get_or b.volumes k d) → replaced at n w (volume_bytes (get_or b.volumes k d)) ≡ volume_bytes (f (get_or b.volumes k d)) →
    replaced place n w (bytes_of b) ≡ bytes_of (with_volume k f b)
in_volume b k f d w place at n is below there inside made =
    let v : Volume = get_or b.volumes k d in
    ap (replaced place n w) (volume_around k b d below)
    ∙ replaced-between (before_volume k b) (volume_bytes v) (behind_volume k b) w place at n (omega (arith, volume_placed k b is))
    (omega (arith, length-volume_bytes v (all-at IsVolume k b.volumes d is.volumes below)))
    ∙ ap (λ (x : List ℕ). before_volume k b ++ (x ++ behind_volume k b)) made
    ∙ sym (volume_laid k f b d below)

pub device_put : (v : Volume) (k : ℕ) (w : List ℕ) → HasFields v → k < 7 → total (take k device_lengths) + get_or device_lengths k 0 ≤ 80 →
    replaced (total (take k device_lengths)) (get_or device_lengths k 0) w (volume_bytes v) ≡ volume_bytes (record v { device = with_field k w v.device })
device_put v k w is there inside =
    let rest : List ℕ = concat v.state ++ flat_map map_bytes v.maps in
    replaced-front (total (take k device_lengths)) (get_or device_lengths k 0) w (concat v.device) rest (omega (arith, length-part device_lengths v.device is.device))
    ∙ ap (λ (x : List ℕ). x ++ rest) (replaced-field device_lengths v.device k w is.device (omega (arith, fields_of device_lengths v.device is.device)))

pub state_put : (v : Volume) (k : ℕ) (w : List ℕ) → HasFields v → k < 10 → total (take k state_lengths) + get_or state_lengths k 0 ≤ 32 →
    replaced (80 + total (take k state_lengths)) (get_or state_lengths k 0) w (volume_bytes v) ≡ volume_bytes (record v { state = with_field k w v.state })
state_put v k w is there inside =
    replaced-between (concat v.device) (concat v.state) (flat_map map_bytes v.maps) w (80 + total (take k state_lengths)) (total (take k state_lengths)) (get_or state_lengths k 0)
    (omega (arith, length-part device_lengths v.device is.device)) (omega (arith, length-part state_lengths v.state is.state))
    ∙ ap (λ (x : List ℕ). concat v.device ++ (x ++ flat_map map_bytes v.maps)) (replaced-field state_lengths v.state k w is.state (omega (arith, fields_of state_lengths v.state is.state)))

-- a state with another field of its length
pub state_kept : (v : Volume) (k : ℕ) (w : List ℕ) → HasFields v → length w ≡ get_or state_lengths k 0 → HasFields (record v { state = with_field k w v.state })
state_kept v k w is len = record { device = is.device; state = set-lengths state_lengths v.state k w is.state len; maps = is.maps }

-- bytes around a volume stay where a field of its state is put
pub state_step : (before behind y w : List ℕ) (v : Volume) (k place : ℕ) → HasFields v → k < 10 → total (take k state_lengths) + get_or state_lengths k 0 ≤ 32 →
    112 ≤ length (volume_bytes v) → place ≡ length before + (80 + total (take k state_lengths)) → y ≡ before ++ (volume_bytes v ++ behind) →
    replaced place (get_or state_lengths k 0) w y ≡ before ++ (volume_bytes (record v { state = with_field k w v.state }) ++ behind)
state_step before behind y w v k place is there inside long at laid =
    ap (replaced place (get_or state_lengths k 0) w) laid
    ∙ replaced-between before (volume_bytes v) behind w place (80 + total (take k state_lengths)) (get_or state_lengths k 0) at (omega arith)
    ∙ ap (λ (x : List ℕ). before ++ (x ++ behind)) (state_put v k w is there inside)

pub volume_long : (v : Volume) → HasFields v → 112 ≤ length (volume_bytes v)
volume_long v is =
    omega (
      arith,
      length-append (concat v.device) (concat v.state ++ flat_map map_bytes v.maps),
      length-append (concat v.state) (flat_map map_bytes v.maps),
      length-part device_lengths v.device is.device,
      length-part state_lengths v.state is.state,
    )

-- the four fields of a pass
abbrev pub state_as : ℕ → ℕ → ℕ → Volume → Volume
state_as kind unit mark v =
    record v { state = with_wide 0 8 unit (with_field 1 (little_bytes 4 mark) (with_field 3 (little_bytes 1 kind) v.state)) }

pub pass_put : (before behind y : List ℕ) (v : Volume) (at kind unit mark : ℕ) → HasFields v → at ≡ length before → y ≡ before ++ (volume_bytes v ++ behind) →
    with_pass_at at kind unit mark y ≡ before ++ (volume_bytes (state_as kind unit mark v) ++ behind)
pass_put before behind y v at kind unit mark is place laid =
    let one : Volume = record v { state = with_field 3 (little_bytes 1 kind) v.state } in
    let two : Volume = record v { state = with_field 1 (little_bytes 4 mark) one.state } in
    let three : Volume = record v { state = with_field 0 (little_bytes 4 (unit % 2 ^ 32)) two.state } in
    let kept1 : HasFields one = state_kept v 3 (little_bytes 1 kind) is refl in
    let kept2 : HasFields two = state_kept one 1 (little_bytes 4 mark) kept1 refl in
    let kept3 : HasFields three = state_kept two 0 (little_bytes 4 (unit % 2 ^ 32)) kept2 refl in
    let y1 : List ℕ = with_number_at 1 (at + 89) kind y in
    let y2 : List ℕ = with_number_at 4 (at + 84) mark y1 in
    let y3 : List ℕ = with_number_at 4 (at + 80) (unit % 2 ^ 32) y2 in
    let laid1 : y1 ≡ before ++ (volume_bytes one ++ behind) =
    state_step before behind y (little_bytes 1 kind) v 3 (at + 89) is (omega arith) (omega arith) (volume_long v is) (omega arith) laid in
    let laid2 : y2 ≡ before ++ (volume_bytes two ++ behind) =
    state_step before behind y1 (little_bytes 4 mark) one 1 (at + 84) kept1 (omega arith) (omega arith) (volume_long one kept1) (omega arith) laid1 in
    let laid3 : y3 ≡ before ++ (volume_bytes three ++ behind) =
    state_step before behind y2 (little_bytes 4 (unit % 2 ^ 32)) two 0 (at + 80) kept2 (omega arith) (omega arith) (volume_long two kept2) (omega arith) laid2 in
    state_step before behind y3 (little_bytes 4 (unit / 2 ^ 32)) three 8 (at + 96) kept3 (omega arith) (omega arith) (volume_long three kept3) (omega arith) laid3

-- IN A MAP

pub in_map : (v : Volume) (m : ℕ) (f : Map → Map) (d : Map) (w : List ℕ) (at n : ℕ) → HasFields v → m < length v.maps → at + n ≤ map_room (get_or v.maps m d) →
    replaced at n w (map_bytes (get_or v.maps m d)) ≡ map_bytes (f (get_or v.maps m d)) → replaced ((112 + maps_room (take m v.maps)) + at) n w (volume_bytes v) ≡ volume_bytes (with_map m f v)
in_map v m f d w at n is below inside made =
    let x : Map = get_or v.maps m d in
    ap (replaced ((112 + maps_room (take m v.maps)) + at) n w) (map_around m v d below)
    ∙ replaced-between (before_map m v) (map_bytes x) (behind_map m v) w ((112 + maps_room (take m v.maps)) + at) at n (omega (arith, map_placed m v is))
    (omega (arith, length-map_bytes x (all-at IsMap m v.maps d is.maps below)))
    ∙ ap (λ (y : List ℕ). before_map m v ++ (y ++ behind_map m v)) made
    ∙ sym (map_laid m f v d below)

pub map_field_put : (m : Map) (k : ℕ) (w : List ℕ) → IsMap m → k < 14 → total (take k map_lengths) + get_or map_lengths k 0 ≤ 48 →
    replaced (total (take k map_lengths)) (get_or map_lengths k 0) w (map_bytes m) ≡ map_bytes (record m { fields = with_field k w m.fields })
map_field_put m k w is there inside =
    replaced-front (total (take k map_lengths)) (get_or map_lengths k 0) w (concat m.fields) (concat m.entries) (omega (arith, length-part map_lengths m.fields is.fields))
    ∙ ap (λ (x : List ℕ). x ++ concat m.entries) (replaced-field map_lengths m.fields k w is.fields (omega (arith, fields_of map_lengths m.fields is.fields)))

fours_before : (n slot : ℕ) → slot ≤ n → total (take slot (replicate n 4)) ≡ 4 * slot
fours_before n zero below = refl
fours_before zero (suc slot) below = absurd (omega arith)
fours_before (suc n) (suc slot) below = omega (arith, fours_before n slot (omega arith))

pub entry_put : (m : Map) (slot : ℕ) (w : List ℕ) → IsMap m → slot < member_count_of m → replaced (48 + 4 * slot) 4 w (map_bytes m) ≡ map_bytes (record m { entries = with_field slot w m.entries })
entry_put m slot w is below =
    let ns : List ℕ = replicate (member_count_of m) 4 in
    let four : get_or ns slot 0 ≡ 4 = get_or-replicate (member_count_of m) slot 4 0 below in
    let at : total (take slot ns) ≡ 4 * slot = fours_before (member_count_of m) slot (omega arith) in
    let count : length ns ≡ member_count_of m = length-replicate (member_count_of m) 4 in
    replaced-behind (concat m.fields) (concat m.entries) w (48 + 4 * slot) (4 * slot) 4 (omega (arith, length-part map_lengths m.fields is.fields))
    ∙ ap (λ (n : ℕ). concat m.fields ++ replaced (4 * slot) n w (concat m.entries)) (sym four)
    ∙ ap (λ (n : ℕ). concat m.fields ++ replaced n (get_or ns slot 0) w (concat m.entries)) (sym at)
    ∙ ap (λ (x : List ℕ). concat m.fields ++ x) (replaced-field ns m.entries slot w is.entries (omega (arith, fields_of ns m.entries is.entries)))

-- WHAT IS EDITED IS WHAT IT WAS

pub with_map-is : (v : Volume) (m : ℕ) (f : Map → Map) (d : Map) → IsVolume v → IsMap (f (get_or v.maps m d)) → IsVolume (with_map m f v)
with_map-is v m f d is new = record {
  device = is.device;
  state = is.state;
  count = length-changed_at m f v.maps ∙ is.count;
  maps = all-changed_at IsMap m f v.maps d is.maps new;
}

pub state_field-is : (v : Volume) (k : ℕ) (w : List ℕ) → IsVolume v → length w ≡ get_or state_lengths k 0 → 2 ≢ k → IsVolume (record v { state = with_field k w v.state })
state_field-is v k w is len other = record {
  device = is.device;
  state = set-lengths state_lengths v.state k w is.state len;
  count = is.count ∙ sym (ap (λ (f : List ℕ). if number f == 0 then 1 else 2) (get_or-set_other v.state k 2 w [] other));
  maps = is.maps;
}

pub pass-is : (v : Volume) (kind unit mark : ℕ) → IsVolume v → IsVolume (state_as kind unit mark v)
pass-is v kind unit mark is =
    let one : Volume = record v { state = with_field 3 (little_bytes 1 kind) v.state } in
    let two : Volume = record v { state = with_field 1 (little_bytes 4 mark) one.state } in
    let three : Volume = record v { state = with_field 0 (little_bytes 4 (unit % 2 ^ 32)) two.state } in
    let is1 : IsVolume one = state_field-is v 3 (little_bytes 1 kind) is refl (λ e. omega arith) in
    let is2 : IsVolume two = state_field-is one 1 (little_bytes 4 mark) is1 refl (λ e. omega arith) in
    let is3 : IsVolume three = state_field-is two 0 (little_bytes 4 (unit % 2 ^ 32)) is2 refl (λ e. omega arith) in
    state_field-is three 8 (little_bytes 4 (unit / 2 ^ 32)) is3 refl (λ e. omega arith)

pub order-is : (m : Map) (slot order : ℕ) → IsMap m → slot < member_count_of m → IsMap (map_with_order slot order m)
order-is m slot order is below = record {
  fields = is.fields;
  entries = set-lengths (replicate (member_count_of m) 4) m.entries slot (little_bytes 4 order) is.entries (sym (get_or-replicate (member_count_of m) slot 4 0 below));
}

pub map_state-is : (m : Map) (state : ℕ) → IsMap m → IsMap (map_with_state state m)
map_state-is m state is = record {
  fields = set-lengths map_lengths m.fields 4 (little_bytes 1 state) is.fields refl;
  entries = subst (λ (n : ℕ). HasLengths (replicate n 4) m.entries) (sym (ap number (get_or-set_other m.fields 4 6 (little_bytes 1 state) [] (λ e. omega arith)))) is.entries;
}

pub name-is : (v : Volume) (name : List ℕ) → IsVolume v → length name ≡ 16 → IsVolume (volume_with_name name v)
name-is v name is len = record {
  device = set-lengths device_lengths v.device 0 name is.device len;
  state = is.state;
  count = is.count;
  maps = is.maps;
}
