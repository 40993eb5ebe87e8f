-- What an edit of the owned bytes leaves is the edited block, laid end to end.
use Rattle.std.proofs.Common.{◌≡◌, ◌≢◌, ℕ, ◌+◌, ◌*◌, ◌/◌, ◌%◌, ◌^◌, ◌≤◌, ◌<◌, List, [], ◌++◌, length, take, drop, get_or, refl, sym, ◌∙◌, ap, subst, arith, ◌-◌}
use Rattle.std.specs.List.{concat}
use Rattle.std.specs.Global.{Vec}
use Rattle.std.specs.Vec.{with_items}
use Rattle.std.proofs.lemmas.List.{with_items_is, length-append}
use Rattle.byteorder.specs.Endian.{little_bytes}
use Rattle.units.specs.declared.bounds.TheConstants.{MAX_BLOCK_BYTES, MAX_DISKS}
use Rattle.imsm_base.specs.Fields.{Part, number_at, with_number_at}
use Rattle.imsm_base.specs.Layout.{Block, Volume, Map, Spells, HasLengths, IsMap, IsVolume, IsBlock, disk_lengths, size_of, disk_count_of, volume_count_of, map_count_of, member_count_of, map_bytes, volume_bytes, bytes_of, migration_state_of}
use Rattle.imsm_base.specs.Volumes.{blank_map, first_map}
use Rattle.imsm_base.specs.Parts.{block_in, maps_room, map_room, volume_room}
use Rattle.imsm_base.specs.Edits.{with_field}
use Rattle.imsm_base.specs.EditsOfTables.{with_volume, with_map, block_with_status, map_with_order, block_with_order, map_with_state, block_with_state, volume_with_name, block_with_name, volume_with_pass, block_with_pass, block_with_disk, volume_with_migration, block_with_migration, volume_without_migration, block_without_migration, block_without_record}
use Rattle.imsm_base.proofs.Apart.{laid_apart, length-disks}
use Rattle.imsm_base.proofs.Joined.{block_in-spelled, length-volume_bytes}
use Rattle.imsm_base.proofs.Spliced.{set-lengths}
use Rattle.imsm_base.proofs.Edited.{other_field}
use Rattle.imsm_codec.specs.Mpb.{volume_at, map_at, blank_volume}
use Rattle.imsm_buffer.specs.Buffer.{Buffer, IsKept, parts_of}
use Rattle.imsm_buffer.specs.Places.{disk_place, volume_place, map_place, with_pass_at}
use Rattle.imsm_buffer.proofs.Kept.{laid_as}
use Rattle.imsm_buffer.proofs.Replaced.{replaced, length-replaced, all-at}
use Rattle.imsm_buffer.proofs.Around.{with_disk-is, with_volume-is, before_volume, behind_volume, volume_laid, volume_around, volume_placed, fields_in}
use Rattle.imsm_buffer.proofs.FieldEdits.{disk_field_laid, in_volume, device_put, pass_put, pass-is, in_map, map_field_put, entry_put, with_map-is, order-is, map_state-is, name-is}
use Rattle.imsm_buffer.proofs.TableEdits.{with_disk_more-is, disk_laid_more, length-disk_more, with_disk_less-is, disk_laid_less, length-disk_less, opened_laid, closed_laid, opened-is, closed-is, opened-room, closed-room, closed_maps, opened_maps}
use Rattle.imsm_buffer.proofs.Placed.{block_is, volume_is, maps_inside}

-- the bytes after an edit, as the buffer's clauses say it
pub record IsMade (after : List ℕ) (capacity room : ℕ) (s : Buffer) (edit : Block → Block) : Type 0 where
  pub kept : IsKept after room capacity
  pub bytes : record { bytes = after; room = room } ≡ record s { bytes = bytes_of (edit (parts_of s)) }
  pub block : block_in after ≡ edit (parts_of s)

abbrev pub seen_as : List ℕ → ℕ → Buffer
seen_as bytes room = record { bytes = bytes; room = room }

pub made : (old after : List ℕ) (capacity more room : ℕ) (s : Buffer) (edit : Block → Block) → seen_as old room ≡ s → IsKept old room capacity → capacity ≤ more →
    after ≡ bytes_of (edit (block_in old)) → length after ≤ room → length after % 4 ≡ 0 → IsBlock (edit (block_in old)) → size_of (edit (block_in old)) ≤ MAX_BLOCK_BYTES → IsMade after more room s edit
made old after capacity more room s edit view k grows is fits words block small =
    let new : Block = edit (block_in old) in
    let spells : Spells after new = record { parts = block; laid = is } in
    let taken = k.taken in
    record {
      kept = record { laid = laid_as after new spells small words; fits = fits; most = k.most; taken = omega arith };
      bytes = ap (λ (x : List ℕ). seen_as x room) is ∙ ap (λ (x : Buffer). edited_as x) view;
      block = block_in-spelled after new spells ∙ ap (λ (x : Buffer). edit (parts_of x)) view;
    }
  where
    edited_as : Buffer → Buffer
    edited_as x = record x { bytes = bytes_of (edit (parts_of x)) }

-- the same where a write of as many bytes leaves them
abbrev pub IsDone : Vec ℕ → List ℕ → ℕ → Buffer → (Block → Block) → Type 0
IsDone v ws room s edit = IsMade (with_items v ws).items v.cap room s edit

abbrev pub seen : Vec ℕ → ℕ → Buffer
seen v room = seen_as v.items room

pub done : (v : Vec ℕ) (ws : List ℕ) (room : ℕ) (s : Buffer) (edit : Block → Block) → seen v room ≡ s → IsKept v.items room v.cap → ws ≡ bytes_of (edit (block_in v.items)) →
    length ws ≡ length v.items → IsBlock (edit (block_in v.items)) → size_of (edit (block_in v.items)) ≤ MAX_BLOCK_BYTES → IsDone v ws room s edit
done v ws room s edit view k is same block small =
    let after : (with_items v ws).items ≡ ws = with_items_is v ws (same ∙ sym v.ok.0) in
    let fits = k.fits in
    let len : length (with_items v ws).items ≡ length v.items = ap (λ (x : List ℕ). length x) after ∙ same in
    made v.items (with_items v ws).items v.cap v.cap room s edit view k (omega arith) (after ∙ is) (omega arith) (ap (λ (n : ℕ). n % 4) len ∙ k.laid.words) block small

-- the same where as many bytes are put at a place
pub put_done : (v : Vec ℕ) (ws now w : List ℕ) (room place n : ℕ) (s : Buffer) (edit : Block → Block) → seen v room ≡ s → IsKept v.items room v.cap →
    ws ≡ replaced place n w now → now ≡ v.items → length w ≡ n → place + n ≤ length v.items →
    replaced place n w (bytes_of (block_in v.items)) ≡ bytes_of (edit (block_in v.items)) → IsBlock (edit (block_in v.items)) → size_of (edit (block_in v.items)) ≤ MAX_BLOCK_BYTES → IsDone v ws room s edit
put_done v ws now w room place n s edit view k put is len inside made block small =
    let there : ws ≡ replaced place n w v.items = put ∙ ap (replaced place n w) is in
    let same : length ws ≡ length v.items = ap (λ (x : List ℕ). length x) there ∙ omega (arith, length-replaced place n w v.items inside) in
    done v ws room s edit view k (there ∙ ap (replaced place n w) (laid_apart v.items) ∙ made) same block small

-- where the code found a volume, and a map, in the bytes that it read
pub record IsVolumePlace (at k : ℕ) (bytes : List ℕ) : Type 0 where
  pub place : at ≡ volume_place k (block_in bytes)
  pub inside : at + volume_room (volume_at k (block_in bytes)) ≤ length bytes

pub record IsMapPlace (at k m : ℕ) (bytes : List ℕ) : Type 0 where
  pub place : at ≡ map_place k m (block_in bytes)
  pub inside : at + map_room (map_at m (volume_at k (block_in bytes))) ≤ length bytes

-- THE FIELDS

pub status_done : (v : Vec ℕ) (ws now : List ℕ) (room at i status : ℕ) (s : Buffer) → seen v room ≡ s → IsKept v.items room v.cap → i < disk_count_of (parts_of s) →
    at ≡ disk_place i + 24 → ws ≡ with_number_at 4 at status now → now ≡ v.items → IsDone v ws room s (λ b. block_with_status b i status)
status_done v ws now room at i status s view k there place put is =
    let b : Block = block_in v.items in
    let block : IsBlock b = block_is v.items k.laid in
    let below : i < disk_count_of b = subst (λ (x : Buffer). i < disk_count_of (parts_of x)) (sym view) there in
    let inside : i < length b.disks = omega (arith, block.disk_count) in
    let room_is = k.laid.room in
    put_done v ws now (little_bytes 4 status) room at 4 s (λ x. block_with_status x i status) view k put is refl (omega arith)
    (disk_field_laid b i 3 (little_bytes 4 status) at block inside (omega arith) (omega arith) place)
    (with_disk-is i (with_field 3 (little_bytes 4 status)) b block (set-lengths disk_lengths (get_or b.disks i []) 3 (little_bytes 4 status) (all-at (HasLengths disk_lengths) i b.disks [] block.disks inside) refl))
    k.laid.size

volume_of : (v : Vec ℕ) (room k : ℕ) (s : Buffer) → seen v room ≡ s → k < volume_count_of (parts_of s) → k < volume_count_of (block_in v.items)
volume_of v room k s view there = subst (λ (x : Buffer). k < volume_count_of (parts_of x)) (sym view) there

map_of : (v : Vec ℕ) (room k m : ℕ) (s : Buffer) → seen v room ≡ s → m < map_count_of (volume_at k (parts_of s)) → m < map_count_of (volume_at k (block_in v.items))
map_of v room k m s view there = subst (λ (x : Buffer). m < map_count_of (volume_at k (parts_of x))) (sym view) there

-- what is put into the bytes of one volume
volume_done : (v : Vec ℕ) (ws now w : List ℕ) (room k place at n : ℕ) (s : Buffer) (f : Volume → Volume) → seen v room ≡ s → IsKept v.items room v.cap → k < volume_count_of (block_in v.items) →
    ws ≡ replaced place n w now → now ≡ v.items → length w ≡ n → place + n ≤ length v.items → place ≡ volume_place k (block_in v.items) + at →
    at + n ≤ volume_room (volume_at k (block_in v.items)) → replaced at n w (volume_bytes (volume_at k (block_in v.items))) ≡ volume_bytes (f (volume_at k (block_in v.items))) →
    IsVolume (f (volume_at k (block_in v.items))) → IsDone v ws room s (with_volume k f)
volume_done v ws now w room k place at n s f view kept there put is len inside placed within made new =
    let b : Block = block_in v.items in
    let block : IsBlock b = block_is v.items kept.laid in
    put_done v ws now w room place n s (with_volume k f) view kept put is len inside
    (in_volume b k f blank_volume w place at n block (omega (arith, block.volume_count)) placed within made) (with_volume-is k f b blank_volume block new) kept.laid.size

pub name_done : (v : Vec ℕ) (ws now read name : List ℕ) (room at k : ℕ) (s : Buffer) → seen v room ≡ s → IsKept v.items room v.cap → k < volume_count_of (parts_of s) →
    read ≡ v.items → IsVolumePlace at k read → ws ≡ replaced at 16 name now → now ≡ v.items → length name ≡ 16 →
    IsDone v ws room s (λ b. block_with_name b k name)
name_done v ws now read name room at k s view kept there same placed put is len =
    let here : IsVolumePlace at k v.items = subst (IsVolumePlace at k) same placed in
    let place = here.place in
    let inside = here.inside in
    let below = volume_of v room k s view there in
    let volume : IsVolume (volume_at k (block_in v.items)) = volume_is v.items k kept.laid below in
    volume_done v ws now name room k at 0 16 s (volume_with_name name) view kept below put is len (omega arith) (omega arith) (omega arith)
    (device_put (volume_at k (block_in v.items)) 0 name (fields_in (volume_at k (block_in v.items)) volume) (omega arith) (omega arith)) (name-is (volume_at k (block_in v.items)) name volume len)

-- what is put into the bytes of one map
map_done : (v : Vec ℕ) (ws now w : List ℕ) (room k m place at n : ℕ) (s : Buffer) (f : Map → Map) → seen v room ≡ s → IsKept v.items room v.cap → k < volume_count_of (block_in v.items) →
    m < map_count_of (volume_at k (block_in v.items)) → ws ≡ replaced place n w now → now ≡ v.items → length w ≡ n → place + n ≤ length v.items → place ≡ map_place k m (block_in v.items) + at →
    at + n ≤ map_room (map_at m (volume_at k (block_in v.items))) → replaced at n w (map_bytes (map_at m (volume_at k (block_in v.items)))) ≡ map_bytes (f (map_at m (volume_at k (block_in v.items)))) →
    IsMap (f (map_at m (volume_at k (block_in v.items)))) → IsDone v ws room s (with_volume k (with_map m f))
map_done v ws now w room k m place at n s f view kept there map put is len inside placed within made new =
    let x : Volume = volume_at k (block_in v.items) in
    let volume : IsVolume x = volume_is v.items k kept.laid there in
    let below : m < length x.maps = omega (arith, volume.count) in
    let ends = maps_inside m x.maps blank_map below in
    volume_done v ws now w room k place ((112 + maps_room (take m x.maps)) + at) n s (with_map m f) view kept there put is len inside (omega arith) (omega arith)
    (in_map x m f blank_map w at n (fields_in x volume) below within made) (with_map-is x m f blank_map volume new)

pub map_state_done : (v : Vec ℕ) (ws now read : List ℕ) (room at k m state : ℕ) (s : Buffer) → seen v room ≡ s → IsKept v.items room v.cap → k < volume_count_of (parts_of s) →
    m < map_count_of (volume_at k (parts_of s)) → read ≡ v.items → IsMapPlace at k m read →
    ws ≡ with_number_at 1 (at + 14) state now → now ≡ v.items → IsDone v ws room s (λ b. block_with_state b k m state)
map_state_done v ws now read room at k m state s view kept there map same placed put is =
    let at_place : IsMapPlace at k m v.items = subst (IsMapPlace at k m) same placed in
    let place = at_place.place in
    let inside = at_place.inside in
    let below = volume_of v room k s view there in
    let within = map_of v room k m s view map in
    let volume : IsVolume (volume_at k (block_in v.items)) = volume_is v.items k kept.laid below in
    let here : IsMap (map_at m (volume_at k (block_in v.items))) = all-at IsMap m (volume_at k (block_in v.items)).maps blank_map volume.maps (omega (arith, volume.count)) in
    map_done v ws now (little_bytes 1 state) room k m (at + 14) 14 1 s (map_with_state state) view kept below within put is refl (omega arith) (omega arith) (omega arith)
    (map_field_put (map_at m (volume_at k (block_in v.items))) 4 (little_bytes 1 state) here (omega arith) (omega arith)) (map_state-is (map_at m (volume_at k (block_in v.items))) state here)

pub order_done : (v : Vec ℕ) (ws now read : List ℕ) (room at place k m slot order : ℕ) (s : Buffer) → seen v room ≡ s → IsKept v.items room v.cap → k < volume_count_of (parts_of s) →
    m < map_count_of (volume_at k (parts_of s)) → slot < member_count_of (map_at m (volume_at k (parts_of s))) → read ≡ v.items → IsMapPlace at k m read →
    place ≡ at + (48 + 4 * slot) → ws ≡ with_number_at 4 place order now → now ≡ v.items →
    IsDone v ws room s (λ b. block_with_order b k m slot order)
order_done v ws now read room at place k m slot order s view kept there map member same placed behind put is =
    let at_place : IsMapPlace at k m v.items = subst (IsMapPlace at k m) same placed in
    let start = at_place.place in
    let inside = at_place.inside in
    let below = volume_of v room k s view there in
    let within = map_of v room k m s view map in
    let few : slot < member_count_of (map_at m (volume_at k (block_in v.items))) = subst (λ (x : Buffer). slot < member_count_of (map_at m (volume_at k (parts_of x)))) (sym view) member in
    let volume : IsVolume (volume_at k (block_in v.items)) = volume_is v.items k kept.laid below in
    let here : IsMap (map_at m (volume_at k (block_in v.items))) = all-at IsMap m (volume_at k (block_in v.items)).maps blank_map volume.maps (omega (arith, volume.count)) in
    map_done v ws now (little_bytes 4 order) room k m place (48 + 4 * slot) 4 s (map_with_order slot order) view kept below within put is refl (omega arith) (omega arith) (omega arith)
    (entry_put (map_at m (volume_at k (block_in v.items))) slot (little_bytes 4 order) here few) (order-is (map_at m (volume_at k (block_in v.items))) slot order here few)

-- A PASS

length-pass_at : (at kind unit mark : ℕ) (bytes : List ℕ) → at + 112 ≤ length bytes → length (with_pass_at at kind unit mark bytes) ≡ length bytes
length-pass_at at kind unit mark bytes inside =
    let one : List ℕ = with_number_at 1 (at + 89) kind bytes in
    let two : List ℕ = with_number_at 4 (at + 84) mark one in
    let three : List ℕ = with_number_at 4 (at + 80) (unit % 2 ^ 32) two in
    let len1 : length one + 1 ≡ length bytes + 1 = length-replaced (at + 89) 1 (little_bytes 1 kind) bytes (omega arith) in
    let len2 : length two + 4 ≡ length one + 4 = length-replaced (at + 84) 4 (little_bytes 4 mark) one (omega arith) in
    let len3 : length three + 4 ≡ length two + 4 = length-replaced (at + 80) 4 (little_bytes 4 (unit % 2 ^ 32)) two (omega arith) in
    let len4 : length (with_pass_at at kind unit mark bytes) + 4 ≡ length three + 4 = length-replaced (at + 96) 4 (little_bytes 4 (unit / 2 ^ 32)) three (omega arith) in
    omega arith

pub pass_done : (v : Vec ℕ) (ws now read : List ℕ) (room at k kind unit : ℕ) (s : Buffer) → seen v room ≡ s → IsKept v.items room v.cap → k < volume_count_of (parts_of s) →
    read ≡ v.items → IsVolumePlace at k read → ws ≡ with_pass_at at kind unit 0x494d0001 now → now ≡ v.items →
    IsDone v ws room s (λ b. block_with_pass b k kind unit)
pass_done v ws now read room at k kind unit s view kept there same placed put is =
    let here : IsVolumePlace at k v.items = subst (IsVolumePlace at k) same placed in
    let place = here.place in
    let inside = here.inside in
    let b : Block = block_in v.items in
    let x : Volume = volume_at k b in
    let block : IsBlock b = block_is v.items kept.laid in
    let below = volume_of v room k s view there in
    let volume : IsVolume x = volume_is v.items k kept.laid below in
    let within : k < length b.volumes = omega (arith, block.volume_count) in
    let made : ws ≡ with_pass_at at kind unit 0x494d0001 v.items = put ∙ ap (with_pass_at at kind unit 0x494d0001) is in
    done v ws room s (λ y. block_with_pass y k kind unit) view kept
    (
    made
    ∙ pass_put (before_volume k b) (behind_volume k b) v.items x at kind unit 0x494d0001 (fields_in x volume) (omega (arith, volume_placed k b block)) (laid_apart v.items ∙ volume_around k b blank_volume within)
    ∙ sym (volume_laid k (volume_with_pass kind unit) b blank_volume within)
    )
    (ap (λ (y : List ℕ). length y) made ∙ length-pass_at at kind unit 0x494d0001 v.items (omega arith))
    (with_volume-is k (volume_with_pass kind unit) b blank_volume block (pass-is x kind unit 0x494d0001 volume)) kept.laid.size

-- A RECORD MORE

pub add_done : (old after added read : List ℕ) (capacity more room count : ℕ) (s : Buffer) (disk : Part) → seen_as old room ≡ s → IsKept old room capacity → capacity ≤ more →
    disk_count_of (parts_of s) < MAX_DISKS → length old + 48 ≤ room → HasLengths disk_lengths disk → count ≡ number_at 1 56 read → read ≡ old → added ≡ concat disk →
    after ≡ with_number_at 1 56 (count + 1) (take (disk_place count) old ++ (added ++ drop (disk_place count) old)) → IsMade after more room s (λ b. block_with_disk b disk)
add_done old after added read capacity more room count s disk view kept grows few fits lengths counted same is put =
    let b : Block = block_in old in
    let block : IsBlock b = block_is old kept.laid in
    let below : disk_count_of b < MAX_DISKS = subst (λ (x : Buffer). disk_count_of (parts_of x) < MAX_DISKS) (sym view) few in
    let number : count ≡ length b.disks = counted ∙ ap (number_at 1 56) same ∙ sym (length-disks old) in
    let there : after ≡ with_number_at 1 56 (length b.disks + 1) (take (disk_place (length b.disks)) old ++ (concat disk ++ drop (disk_place (length b.disks)) old)) =
    put ∙ ap (λ (x : List ℕ). with_number_at 1 56 (count + 1) (take (disk_place count) old ++ (x ++ drop (disk_place count) old))) is
    ∙ ap (λ (n : ℕ). with_number_at 1 56 (n + 1) (take (disk_place n) old ++ (concat disk ++ drop (disk_place n) old))) number in
    let new : IsBlock (block_with_disk b disk) = with_disk_more-is b disk block lengths (omega (arith, block.disk_count)) in
    let laid : after ≡ bytes_of (block_with_disk b disk) = there ∙ disk_laid_more b disk old block (laid_apart old) in
    let longer : length after ≡ length old + 48 =
    omega (arith, ap (λ (x : List ℕ). length x) laid, ap (λ (x : List ℕ). length x) (laid_apart old), length-disk_more b disk block new) in
    made old after capacity more room s (λ x. block_with_disk x disk) view kept grows laid (omega arith) (omega (arith, kept.laid.words)) new
    (subst (λ (n : ℕ). n ≤ MAX_BLOCK_BYTES) (sym (other_field b 8 3 (little_bytes 1 (length b.disks + 1)) (λ e. omega arith))) kept.laid.size)

-- the count that is read
pub disks_read : (old read : List ℕ) (count : ℕ) → count ≡ number_at 1 56 read → read ≡ old → count ≡ disk_count_of (block_in old)
unfolding block_in
disks_read old read count counted same = counted ∙ ap (number_at 1 56) same

-- A MIGRATION

-- where the bytes around a volume are left
around_done : (old after : List ℕ) (capacity more room k : ℕ) (s : Buffer) (f : Volume → Volume) → seen_as old room ≡ s → IsKept old room capacity → capacity ≤ more → k < volume_count_of (block_in old) →
    after ≡ before_volume k (block_in old) ++ (volume_bytes (f (volume_at k (block_in old))) ++ behind_volume k (block_in old)) → IsVolume (f (volume_at k (block_in old))) →
    length old + volume_room (f (volume_at k (block_in old))) ≤ room + volume_room (volume_at k (block_in old)) →
    volume_room (f (volume_at k (block_in old))) % 4 ≡ volume_room (volume_at k (block_in old)) % 4 → IsMade after more room s (with_volume k f)
around_done old after capacity more room k s f view kept grows below is new fits words =
    let b : Block = block_in old in
    let x : Volume = volume_at k b in
    let block : IsBlock b = block_is old kept.laid in
    let volume : IsVolume x = volume_is old k kept.laid below in
    let within : k < length b.volumes = omega (arith, block.volume_count) in
    let before : List ℕ = before_volume k b in
    let behind : List ℕ = behind_volume k b in
    let old_length : length old ≡ length (before ++ (volume_bytes x ++ behind)) = ap (λ (y : List ℕ). length y) (laid_apart old ∙ volume_around k b blank_volume within) in
    let new_length : length after ≡ length (before ++ (volume_bytes (f x) ++ behind)) = ap (λ (y : List ℕ). length y) is in
    let moved : length after + volume_room x ≡ length old + volume_room (f x) =
    omega (
      arith,
      length-append before (volume_bytes x ++ behind),
      length-append (volume_bytes x) behind,
      length-append before (volume_bytes (f x) ++ behind),
      length-append (volume_bytes (f x)) behind,
      length-volume_bytes x volume,
      length-volume_bytes (f x) new,
    ) in
    made old after capacity more room s (with_volume k f) view kept grows (is ∙ sym (volume_laid k f b blank_volume within)) (omega arith) (omega (arith, kept.laid.words))
    (with_volume-is k f b blank_volume block new) kept.laid.size

state_of : (old : List ℕ) (room k : ℕ) (s : Buffer) (P : ℕ → Type 0) → seen_as old room ≡ s → P (migration_state_of (volume_at k (parts_of s))) → P (migration_state_of (volume_at k (block_in old)))
state_of old room k s P view there = subst (λ (x : Buffer). P (migration_state_of (volume_at k (parts_of x)))) (sym view) there

-- what the code read of a map's size
map_size_of : (old read : List ℕ) (k m len : ℕ) → read ≡ old → len ≡ map_room (map_at m (volume_at k (block_in read))) → len ≡ map_room (map_at m (volume_at k (block_in old)))
map_size_of old read k m len same size = size ∙ ap (λ (x : List ℕ). map_room (map_at m (volume_at k (block_in x)))) same

pub open_done : (old after read second : List ℕ) (capacity more room k volume len : ℕ) (s : Buffer) → seen_as old room ≡ s → IsKept old room capacity → capacity ≤ more → k < volume_count_of (parts_of s) →
    migration_state_of (volume_at k (parts_of s)) ≡ 0 → length old + len ≤ room → read ≡ old → IsVolumePlace volume k read → second ≡ old → len ≡ map_room (map_at 0 (volume_at k (block_in second))) →
    after ≡ with_number_at 1 (volume + 88) 1 (take (volume + 112 + len) old ++ drop (volume + 112) old) → IsMade after more room s (λ b. block_with_migration b k)
open_done old after read second capacity more room k volume len s view kept grows there closed fits same placed again size put =
    let b : Block = block_in old in
    let x : Volume = volume_at k b in
    let block : IsBlock b = block_is old kept.laid in
    let below : k < volume_count_of b = subst (λ (y : Buffer). k < volume_count_of (parts_of y)) (sym view) there in
    let idle : migration_state_of x ≡ 0 = state_of old room k s (λ n. n ≡ 0) view closed in
    let here : IsVolumePlace volume k old = subst (IsVolumePlace volume k) same placed in
    let is : IsVolume x = volume_is old k kept.laid below in
    let room_of_map : len ≡ map_room (first_map x) = map_size_of old second k 0 len again size in
    let laid : after ≡ before_volume k b ++ (volume_bytes (volume_with_migration x) ++ behind_volume k b) =
    put ∙ opened_laid (before_volume k b) (behind_volume k b) old x volume len is idle (volume_placed k b block ∙ sym here.place) room_of_map
    (laid_apart old ∙ volume_around k b blank_volume (omega (arith, block.volume_count))) in
    around_done old after capacity more room k s volume_with_migration view kept grows below laid (opened-is x is) (omega (arith, opened-room x is idle)) (omega (arith, opened-room x is idle))

pub close_done : (old after read third : List ℕ) (fourth : List ℕ) (capacity more room k volume second len : ℕ) (s : Buffer) → seen_as old room ≡ s → IsKept old room capacity → capacity ≤ more → k < volume_count_of (parts_of s) →
    migration_state_of (volume_at k (parts_of s)) ≢ 0 → read ≡ old → IsVolumePlace volume k read → third ≡ old → IsMapPlace second k 1 third → fourth ≡ old → len ≡ map_room (map_at 1 (volume_at k (block_in fourth))) →
    after ≡ with_pass_at volume 0 0 0 (with_number_at 1 (volume + 88) 0 (take second old ++ drop (second + len) old)) → IsMade after more room s (λ b. block_without_migration b k)
close_done old after read third fourth capacity more room k volume second len s view kept grows there opened same placed again map last size put =
    let b : Block = block_in old in
    let x : Volume = volume_at k b in
    let block : IsBlock b = block_is old kept.laid in
    let below : k < volume_count_of b = subst (λ (y : Buffer). k < volume_count_of (parts_of y)) (sym view) there in
    let busy : migration_state_of x ≢ 0 = state_of old room k s (λ n. n ≢ 0) view opened in
    let here : IsVolumePlace volume k old = subst (IsVolumePlace volume k) same placed in
    let behind : IsMapPlace second k 1 old = subst (IsMapPlace second k 1) again map in
    let place = here.place in
    let at = behind.place in
    let is : IsVolume x = volume_is old k kept.laid below in
    let fits = kept.fits in
    let taken : maps_room (take 1 x.maps) ≡ map_room (first_map x) = ap (λ (ms : List Map). maps_room (take 1 ms)) (opened_maps x is busy) ∙ omega arith in
    let laid : after ≡ before_volume k b ++ (volume_bytes (volume_without_migration x) ++ behind_volume k b) =
    put ∙ closed_laid (before_volume k b) (behind_volume k b) old x volume second len is busy (volume_placed k b block ∙ sym here.place) (omega arith) (map_size_of old fourth k 1 len last size)
    (laid_apart old ∙ volume_around k b blank_volume (omega (arith, block.volume_count))) in
    around_done old after capacity more room k s volume_without_migration view kept grows below laid (closed-is x is) (omega (arith, closed-room x is busy)) (omega (arith, closed-room x is busy))

-- the one map ends inside
pub open_inside : (old read second : List ℕ) (capacity room k volume len : ℕ) (s : Buffer) → seen_as old room ≡ s → IsKept old room capacity → k < volume_count_of (parts_of s) →
    migration_state_of (volume_at k (parts_of s)) ≡ 0 → read ≡ old → IsVolumePlace volume k read → second ≡ old → len ≡ map_room (map_at 0 (volume_at k (block_in second))) →
    volume + 112 + len ≤ length old
open_inside old read second capacity room k volume len s view kept there closed same placed again size =
    let x : Volume = volume_at k (block_in old) in
    let below : k < volume_count_of (block_in old) = subst (λ (y : Buffer). k < volume_count_of (parts_of y)) (sym view) there in
    let idle : migration_state_of x ≡ 0 = state_of old room k s (λ n. n ≡ 0) view closed in
    let here : IsVolumePlace volume k old = subst (IsVolumePlace volume k) same placed in
    let inside = here.inside in
    let room_of_map : len ≡ map_room (first_map x) = map_size_of old second k 0 len again size in
    omega (arith, opened-room x (volume_is old k kept.laid below) idle, ap maps_room (closed_maps x (volume_is old k kept.laid below) idle))

-- A RECORD LESS

pub drop_done : (old after read : List ℕ) (capacity more room count others place i : ℕ) (s : Buffer) → seen_as old room ≡ s → IsKept old room capacity → capacity ≤ more → count < 256 →
    i < disk_count_of (parts_of s) → count ≡ number_at 1 56 read → read ≡ old → others ≡ count - 1 → place ≡ disk_place i →
    after ≡ with_number_at 1 56 others (take place old ++ drop (place + 48) old) → IsMade after more room s (λ b. block_without_record b i)
drop_done old after read capacity more room count others place i s view kept grows few there counted same less at put =
    let b : Block = block_in old in
    let block : IsBlock b = block_is old kept.laid in
    let below : i < disk_count_of b = subst (λ (x : Buffer). i < disk_count_of (parts_of x)) (sym view) there in
    let inside : i < length b.disks = omega (arith, block.disk_count) in
    let number : count ≡ length b.disks = counted ∙ ap (number_at 1 56) same ∙ sym (length-disks old) in
    let left : others ≡ length b.disks - 1 = less ∙ ap (λ (n : ℕ). n - 1) number in
    let new : IsBlock (block_without_record b i) = with_disk_less-is b i block inside (omega arith) in
    let laid : after ≡ bytes_of (block_without_record b i) =
    put ∙ ap (λ (n : ℕ). with_number_at 1 56 others (take n old ++ drop (n + 48) old)) at ∙ ap (λ (n : ℕ). with_number_at 1 56 n (take (disk_place i) old ++ drop (disk_place i + 48) old)) left ∙ disk_laid_less b i old block inside (laid_apart old) in
    let fits = kept.fits in
    let shorter : length after + 48 ≡ length old =
    omega (arith, ap (λ (x : List ℕ). length x) laid, ap (λ (x : List ℕ). length x) (laid_apart old), length-disk_less b i block inside new) in
    made old after capacity more room s (λ x. block_without_record x i) view kept grows laid (omega arith) (omega (arith, kept.laid.words)) new
    (subst (λ (n : ℕ). n ≤ MAX_BLOCK_BYTES) (sym (other_field b 8 3 (little_bytes 1 (length b.disks - 1)) (λ e. omega arith))) kept.laid.size)
