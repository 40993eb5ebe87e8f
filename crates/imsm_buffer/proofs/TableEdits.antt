-- Runs of bytes that are put in or taken out at the place of a part make the bytes of the block with that part put in or
-- taken out.
use Rattle.std.proofs.Common.{◌≡◌, ◌≢◌, ℕ, zero, suc, ◌+◌, ◌<◌, ◌==◌, if◌then◌else◌, Bool, true, false, List, [], ◌∷◌, ◌++◌, length, take, drop, get_or, refl, sym, ◌∙◌, ap, arith, ◌-◌}
use Rattle.std.specs.List.{concat, flat_map, remove, AllByRecursion}
use Rattle.std.proofs.lemmas.List.{append_assoc, append-nil, take_at, drop_at, length-append, get_or-set_same}
use Rattle.std.proofs.Math.Dec.{eqb-suc-zero}
use Rattle.std.proofs.lemmas.Grind.{flat_map-append}
use Rattle.byteorder.specs.Endian.{little_bytes}
use Rattle.byteorder.specs.Numbers.{little_number-reads_back}
use Rattle.imsm_base.specs.Fields.{Part, number, with_number_at}
use Rattle.imsm_base.specs.Layout.{Block, Volume, Map, HasLengths, IsMap, IsVolume, IsBlock, header_lengths, disk_lengths, device_lengths, state_lengths, migration_state_of, map_bytes, volume_bytes, bytes_of}
use Rattle.imsm_base.specs.Parts.{volume_room, maps_room, map_room}
use Rattle.imsm_base.specs.Volumes.{blank_map, first_map}
use Rattle.imsm_base.specs.Edits.{with_field}
use Rattle.imsm_base.specs.EditsOfTables.{counting_disks, block_with_disk, block_without_record, volume_with_migration, volume_without_migration}
use Rattle.imsm_base.proofs.Cut.{length-part}
use Rattle.imsm_base.proofs.Joined.{length-disks_bytes, length-bytes_of, length-map_bytes}
use Rattle.imsm_base.proofs.Spliced.{set-lengths}
use Rattle.imsm_base.proofs.Edited.{fields_of, other_field}
use Rattle.imsm_buffer.specs.Places.{disk_place, with_pass_at}
use Rattle.imsm_buffer.proofs.Replaced.{replaced, replaced-front, replaced-field, all-at}
use Rattle.imsm_buffer.proofs.Around.{HasFields, fields_in, before_disk, behind_disk, disk_around, disk_placed}
use Rattle.imsm_buffer.proofs.FieldEdits.{state_step, pass_put, pass-is, state_kept, volume_long}
use Rattle.imsm_codec.proofs.Mirror.{list_of_one, list_of_two}

-- A RUN OF BYTES

-- put in between two others
pub put_between : (before behind w y : List ℕ) (at : ℕ) → length before ≡ at → y ≡ before ++ behind → take at y ++ (w ++ drop at y) ≡ before ++ (w ++ behind)
put_between before behind w y at len is =
    ap (λ (x : List ℕ). take at x ++ (w ++ drop at x)) is
    ∙ ap (λ (x : List ℕ). x ++ (w ++ drop at (before ++ behind))) (take_at before behind at len)
    ∙ ap (λ (x : List ℕ). before ++ (w ++ x)) (drop_at before behind at len)

-- there twice
pub put_again : (before x behind y : List ℕ) (at n : ℕ) → length before ≡ at → length x ≡ n → y ≡ before ++ (x ++ behind) → take (at + n) y ++ drop at y ≡ before ++ (x ++ (x ++ behind))
put_again before x behind y at n len size is =
    let joined : before ++ (x ++ behind) ≡ (before ++ x) ++ behind = sym (append_assoc before x behind) in
    ap (λ (z : List ℕ). take (at + n) z ++ drop at z) is
    ∙ ap (λ (z : List ℕ). take (at + n) (before ++ (x ++ behind)) ++ z) (drop_at before (x ++ behind) at len)
    ∙ ap (λ (z : List ℕ). take (at + n) z ++ (x ++ behind)) joined
    ∙ ap (λ (z : List ℕ). z ++ (x ++ behind)) (take_at (before ++ x) behind (at + n) (omega (arith, length-append before x)))
    ∙ append_assoc before x (x ++ behind)

-- taken out
pub taken_between : (before x behind y : List ℕ) (at n : ℕ) → length before ≡ at → length x ≡ n → y ≡ before ++ (x ++ behind) → take at y ++ drop (at + n) y ≡ before ++ behind
taken_between before x behind y at n len size is =
    let joined : before ++ (x ++ behind) ≡ (before ++ x) ++ behind = sym (append_assoc before x behind) in
    ap (λ (z : List ℕ). take at z ++ drop (at + n) z) is
    ∙ ap (λ (z : List ℕ). z ++ drop (at + n) (before ++ (x ++ behind))) (take_at before (x ++ behind) at len)
    ∙ ap (λ (z : List ℕ). before ++ drop (at + n) z) joined
    ∙ ap (λ (z : List ℕ). before ++ z) (drop_at (before ++ x) behind (at + n) (omega (arith, length-append before x)))

-- A RECORD MORE

all-append : {A : Type 0} (P : A → Type 0) (xs : List A) (x : A) → AllByRecursion P xs → P x → AllByRecursion P (xs ++ x ∷ [])
all-append P [] x all last = (last, tt)
all-append P (y ∷ xs) x all last = (all.0, all-append P xs x all.1 last)

pub number-one : (n : ℕ) → n < 256 → number (little_bytes 1 n) ≡ n
number-one n below = little_number-reads_back 1 n [] below

pub counted : (b : Block) (n : ℕ) → IsBlock b → n < 256 → number (get_or (counting_disks n b.header) 8 []) ≡ n
counted b n is below =
    ap number (get_or-set_same b.header 8 (little_bytes 1 n) [] (omega (arith, fields_of header_lengths b.header is.header))) ∙ number-one n below

pub with_disk_more-is : (b : Block) (disk : Part) → IsBlock b → HasLengths disk_lengths disk → length b.disks + 1 < 256 → IsBlock (block_with_disk b disk)
with_disk_more-is b disk is lengths few = record {
  header = set-lengths header_lengths b.header 8 (little_bytes 1 (length b.disks + 1)) is.header refl;
  disks = all-append (HasLengths disk_lengths) b.disks disk is.disks lengths;
  disk_count = length-append b.disks (disk ∷ []) ∙ sym (counted b (length b.disks + 1) is few);
  volumes = is.volumes;
  volume_count = is.volume_count ∙ sym (other_field b 8 9 (little_bytes 1 (length b.disks + 1)) (λ e. omega arith));
  tail = is.tail ∙ sym (other_field b 8 13 (little_bytes 1 (length b.disks + 1)) (λ e. omega arith));
}

pub disk_laid_more : (b : Block) (disk : Part) (y : List ℕ) → IsBlock b → y ≡ bytes_of b →
    with_number_at 1 56 (length b.disks + 1) (take (disk_place (length b.disks)) y ++ (concat disk ++ drop (disk_place (length b.disks)) y)) ≡ bytes_of (block_with_disk b disk)
disk_laid_more b disk y is laid =
    let H : List ℕ = concat b.header in
    let D : List ℕ = flat_map concat b.disks in
    let R : List ℕ = flat_map volume_bytes b.volumes ++ (b.gap ++ b.tail) in
    let n : ℕ = length b.disks + 1 in
    let w : List ℕ = little_bytes 1 n in
    let header : length H ≡ 216 = length-part header_lengths b.header is.header in
    let place : length (H ++ D) ≡ disk_place (length b.disks) = omega (arith, length-append H D, length-disks_bytes b.disks is.disks) in
    let put = put_between (H ++ D) R (concat disk) y (disk_place (length b.disks)) place (laid ∙ sym (append_assoc H D R)) in
    ap (replaced 56 1 w) (put ∙ regrouped H D (concat disk) R)
    ∙ replaced-front 56 1 w H ((D ++ concat disk) ++ R) (omega arith)
    ∙ ap (λ (x : List ℕ). x ++ ((D ++ concat disk) ++ R)) (replaced-field header_lengths b.header 8 w is.header (omega (arith, fields_of header_lengths b.header is.header)))
    ∙ ap (λ (x : List ℕ). concat (counting_disks n b.header) ++ (x ++ R)) (ap (λ (x : List ℕ). D ++ x) (sym (append-nil (concat disk))) ∙ sym (flat_map-append concat b.disks (disk ∷ [])))
  where
    regrouped : (h d w r : List ℕ) → (h ++ d) ++ (w ++ r) ≡ h ++ ((d ++ w) ++ r)
    regrouped h d w r = simp append_assoc

pub length-disk_more : (b : Block) (disk : Part) → IsBlock b → IsBlock (block_with_disk b disk) → length (bytes_of (block_with_disk b disk)) ≡ length (bytes_of b) + 48
length-disk_more b disk is new =
    omega (
      arith,
      length-bytes_of b is,
      length-bytes_of (block_with_disk b disk) new,
      is.disk_count,
      new.disk_count,
      length-append b.disks (disk ∷ []),
      other_field b 8 13 (little_bytes 1 (length b.disks + 1)) (λ e. omega arith),
    )

-- A RECORD LESS

all-remove : {A : Type 0} (P : A → Type 0) (i : ℕ) (xs : List A) → AllByRecursion P xs → AllByRecursion P (remove xs i)
all-remove P zero [] all = tt
all-remove P (suc i) [] all = tt
all-remove P zero (x ∷ xs) all = all.1
all-remove P (suc i) (x ∷ xs) all = (all.0, all-remove P i xs all.1)

length-remove : {A : Type 0} (i : ℕ) (xs : List A) → i < length xs → length (remove xs i) + 1 ≡ length xs
length-remove i [] below = absurd (omega arith)
length-remove zero (x ∷ xs) below = omega arith
length-remove (suc i) (x ∷ xs) below = omega (arith, length-remove i xs (omega arith))

pub with_disk_less-is : (b : Block) (i : ℕ) → IsBlock b → i < length b.disks → length b.disks < 256 → IsBlock (block_without_record b i)
with_disk_less-is b i is below few = record {
  header = set-lengths header_lengths b.header 8 (little_bytes 1 (length b.disks - 1)) is.header refl;
  disks = all-remove (HasLengths disk_lengths) i b.disks is.disks;
  disk_count = omega (arith, length-remove i b.disks below) ∙ sym (counted b (length b.disks - 1) is (omega arith));
  volumes = is.volumes;
  volume_count = is.volume_count ∙ sym (other_field b 8 9 (little_bytes 1 (length b.disks - 1)) (λ e. omega arith));
  tail = is.tail ∙ sym (other_field b 8 13 (little_bytes 1 (length b.disks - 1)) (λ e. omega arith));
}

pub disk_laid_less : (b : Block) (i : ℕ) (y : List ℕ) → IsBlock b → i < length b.disks → y ≡ bytes_of b →
    with_number_at 1 56 (length b.disks - 1) (take (disk_place i) y ++ drop (disk_place i + 48) y) ≡ bytes_of (block_without_record b i)
disk_laid_less b i y is below laid =
    let H : List ℕ = concat b.header in
    let A : List ℕ = flat_map concat (take i b.disks) in
    let B : List ℕ = flat_map concat (drop (suc i) b.disks) in
    let R : List ℕ = flat_map volume_bytes b.volumes ++ (b.gap ++ b.tail) in
    let disk : Part = get_or b.disks i [] in
    let n : ℕ = length b.disks - 1 in
    let w : List ℕ = little_bytes 1 n in
    let header : length H ≡ 216 = length-part header_lengths b.header is.header in
    let lengths : HasLengths disk_lengths disk = all-at (HasLengths disk_lengths) i b.disks [] is.disks below in
    let out = taken_between (before_disk i b) (concat disk) (behind_disk i b) y (disk_place i) 48 (disk_placed i b is below) (length-part disk_lengths disk lengths) (laid ∙ disk_around i b below) in
    ap (replaced 56 1 w) (out ∙ regrouped H A B R)
    ∙ replaced-front 56 1 w H ((A ++ B) ++ R) (omega arith)
    ∙ ap (λ (x : List ℕ). x ++ ((A ++ B) ++ R)) (replaced-field header_lengths b.header 8 w is.header (omega (arith, fields_of header_lengths b.header is.header)))
    ∙ ap (λ (x : List ℕ). concat (counting_disks n b.header) ++ (x ++ R)) (sym (flat_map-append concat (take i b.disks) (drop (suc i) b.disks)))
  where
    regrouped : (h a b r : List ℕ) → (h ++ a) ++ (b ++ r) ≡ h ++ ((a ++ b) ++ r)
    regrouped h a b r = simp append_assoc

pub length-disk_less : (b : Block) (i : ℕ) → IsBlock b → i < length b.disks → IsBlock (block_without_record b i) → length (bytes_of (block_without_record b i)) + 48 ≡ length (bytes_of b)
length-disk_less b i is below new =
    omega (
      arith,
      length-bytes_of b is,
      length-bytes_of (block_without_record b i) new,
      is.disk_count,
      new.disk_count,
      length-remove i b.disks below,
      other_field b 8 13 (little_bytes 1 (length b.disks - 1)) (λ e. omega arith),
    )

-- A MIGRATION

pub closed_maps : (v : Volume) → IsVolume v → migration_state_of v ≡ 0 → v.maps ≡ first_map v ∷ []
closed_maps v is closed = list_of_one v.maps (is.count ∙ ap (λ (n : ℕ). if n == 0 then 1 else 2) closed)

abbrev maps_for : Bool → ℕ
maps_for idle = if idle then 1 else 2

count_open : (n : ℕ) → n ≢ 0 → maps_for (n == 0) ≡ 2
count_open zero busy = absurd (busy refl)
count_open (suc n) busy = ap maps_for (eqb-suc-zero n)

pub opened_maps : (v : Volume) → IsVolume v → migration_state_of v ≢ 0 → v.maps ≡ first_map v ∷ get_or v.maps 1 blank_map ∷ []
opened_maps v is opened = list_of_two v.maps (is.count ∙ count_open (migration_state_of v) opened)

-- a volume with these maps
abbrev with_maps : List Map → Volume → Volume
with_maps ms v = record v { maps = ms }

maps_kept : (v : Volume) (ms : List Map) → HasFields v → AllByRecursion IsMap ms → HasFields (with_maps ms v)
maps_kept v ms is all = record { device = is.device; state = is.state; maps = all }

-- bytes around a volume, where its one map is put in again
map_again : (before behind y : List ℕ) (v : Volume) (at n : ℕ) → HasFields v → v.maps ≡ first_map v ∷ [] → length before + 112 ≡ at → length (map_bytes (first_map v)) ≡ n →
    y ≡ before ++ (volume_bytes v ++ behind) → take (at + n) y ++ drop at y ≡ before ++ (volume_bytes (with_maps (first_map v ∷ first_map v ∷ []) v) ++ behind)
map_again before behind y v at n is one place size laid =
    let D : List ℕ = concat v.device in
    let S : List ℕ = concat v.state in
    let M : List ℕ = map_bytes (first_map v) in
    let apart : y ≡ (before ++ (D ++ S)) ++ (M ++ behind) =
    laid ∙ ap (λ (ms : List Map). before ++ ((D ++ (S ++ flat_map map_bytes ms)) ++ behind)) one ∙ regrouped before D S M behind in
    put_again (before ++ (D ++ S)) M behind y at n
    (omega (arith, length-append before (D ++ S), length-append D S, length-part device_lengths v.device is.device, length-part state_lengths v.state is.state)) size apart
    ∙ joined before D S M behind
  where
    regrouped : (b d s m r : List ℕ) → b ++ ((d ++ (s ++ (m ++ []))) ++ r) ≡ (b ++ (d ++ s)) ++ (m ++ r)
    regrouped b d s m r = simp (append_assoc, append-nil)

    joined : (b d s m r : List ℕ) → (b ++ (d ++ s)) ++ (m ++ (m ++ r)) ≡ b ++ ((d ++ (s ++ (m ++ (m ++ [])))) ++ r)
    joined b d s m r = simp (append_assoc, append-nil)

-- and where the second of two is taken out
map_out : (before behind y : List ℕ) (v : Volume) (m : Map) (at n : ℕ) → HasFields v → v.maps ≡ first_map v ∷ m ∷ [] → (length before + 112) + length (map_bytes (first_map v)) ≡ at → length (map_bytes m) ≡ n →
    y ≡ before ++ (volume_bytes v ++ behind) → take at y ++ drop (at + n) y ≡ before ++ (volume_bytes (with_maps (first_map v ∷ []) v) ++ behind)
map_out before behind y v m at n is two place size laid =
    let D : List ℕ = concat v.device in
    let S : List ℕ = concat v.state in
    let M : List ℕ = map_bytes (first_map v) in
    let N : List ℕ = map_bytes m in
    let apart : y ≡ (before ++ (D ++ (S ++ M))) ++ (N ++ behind) =
    laid ∙ ap (λ (ms : List Map). before ++ ((D ++ (S ++ flat_map map_bytes ms)) ++ behind)) two ∙ regrouped before D S M N behind in
    taken_between (before ++ (D ++ (S ++ M))) N behind y at n
    (omega (arith, length-append before (D ++ (S ++ M)), length-append D (S ++ M), length-append S M, length-part device_lengths v.device is.device, length-part state_lengths v.state is.state)) size apart
    ∙ joined before D S M behind
  where
    regrouped : (b d s m n r : List ℕ) → b ++ ((d ++ (s ++ (m ++ (n ++ [])))) ++ r) ≡ (b ++ (d ++ (s ++ m))) ++ (n ++ r)
    regrouped b d s m n r = simp (append_assoc, append-nil)

    joined : (b d s m r : List ℕ) → (b ++ (d ++ (s ++ m))) ++ r ≡ b ++ ((d ++ (s ++ (m ++ []))) ++ r)
    joined b d s m r = simp (append_assoc, append-nil)

first_is : (v : Volume) → IsVolume v → 0 < length v.maps → IsMap (first_map v)
first_is v is some = all-at IsMap 0 v.maps blank_map is.maps some

some_map : (v : Volume) → IsVolume v → 0 < length v.maps
some_map v is = omega (arith, is.count, counted_maps (migration_state_of v == 0))
  where
    counted_maps : (idle : Bool) → 0 < maps_for idle
    counted_maps true = omega arith
    counted_maps false = omega arith

pub opened_laid : (before behind y : List ℕ) (v : Volume) (volume n : ℕ) → IsVolume v → migration_state_of v ≡ 0 → length before ≡ volume → n ≡ map_room (first_map v) →
    y ≡ before ++ (volume_bytes v ++ behind) →
    with_number_at 1 (volume + 88) 1 (take (volume + 112 + n) y ++ drop (volume + 112) y) ≡ before ++ (volume_bytes (volume_with_migration v) ++ behind)
opened_laid before behind y v volume n is closed place size laid =
    let m : Map = first_map v in
    let ism : IsMap m = first_is v is (some_map v is) in
    let kept : HasFields (with_maps (m ∷ m ∷ []) v) = maps_kept v (m ∷ m ∷ []) (fields_in v is) (ism, (ism, tt)) in
    state_step before behind _ (little_bytes 1 1) (with_maps (m ∷ m ∷ []) v) 2 (volume + 88) kept (omega arith) (omega arith) (volume_long (with_maps (m ∷ m ∷ []) v) kept) (omega arith)
    (map_again before behind y v (volume + 112) n (fields_in v is) (closed_maps v is closed) (omega arith) (length-map_bytes m ism ∙ sym size) laid)

pub closed_laid : (before behind y : List ℕ) (v : Volume) (volume second n : ℕ) → IsVolume v → migration_state_of v ≢ 0 → length before ≡ volume → second ≡ volume + (112 + map_room (first_map v)) →
    n ≡ map_room (get_or v.maps 1 blank_map) → y ≡ before ++ (volume_bytes v ++ behind) →
    with_pass_at volume 0 0 0 (with_number_at 1 (volume + 88) 0 (take second y ++ drop (second + n) y)) ≡ before ++ (volume_bytes (volume_without_migration v) ++ behind)
closed_laid before behind y v volume second n is opened place at size laid =
    let m : Map = first_map v in
    let two = opened_maps v is opened in
    let len : length v.maps ≡ 2 = ap (λ (ms : List Map). length ms) two in
    let ism : IsMap m = first_is v is (omega arith) in
    let isn : IsMap (get_or v.maps 1 blank_map) = all-at IsMap 1 v.maps blank_map is.maps (omega arith) in
    let w : Volume = with_maps (m ∷ []) v in
    let kept : HasFields w = maps_kept v (m ∷ []) (fields_in v is) (ism, tt) in
    let idle : Volume = record w { state = with_field 2 (little_bytes 1 0) w.state } in
    pass_put before behind _ idle volume 0 0 0 (state_kept w 2 (little_bytes 1 0) kept refl) (sym place)
    (
    state_step before behind _ (little_bytes 1 0) w 2 (volume + 88) kept (omega arith) (omega arith) (volume_long w kept) (omega arith)
    (map_out before behind y v (get_or v.maps 1 blank_map) second n (fields_in v is) two (omega (arith, length-map_bytes m ism)) (length-map_bytes (get_or v.maps 1 blank_map) isn ∙ sym size) laid)
    )

-- the state says how many maps there are
state_two : (v : Volume) (n : ℕ) → IsVolume v → n < 256 → number (get_or (with_field 2 (little_bytes 1 n) v.state) 2 []) ≡ n
state_two v n is below =
    ap number (get_or-set_same v.state 2 (little_bytes 1 n) [] (omega (arith, fields_of state_lengths v.state is.state))) ∙ number-one n below

pub opened-is : (v : Volume) → IsVolume v → IsVolume (volume_with_migration v)
opened-is v is =
    let ism : IsMap (first_map v) = first_is v is (some_map v is) in
    record {
      device = is.device;
      state = set-lengths state_lengths v.state 2 (little_bytes 1 1) is.state refl;
      count = sym (ap (λ (n : ℕ). if n == 0 then 1 else 2) (state_two v 1 is (omega arith)));
      maps = (ism, (ism, tt));
    }

pub closed-is : (v : Volume) → IsVolume v → IsVolume (volume_without_migration v)
closed-is v is =
    let m : Map = first_map v in
    let ism : IsMap m = first_is v is (some_map v is) in
    let w : Volume = with_maps (m ∷ []) v in
    let idle : Volume = record w { state = with_field 2 (little_bytes 1 0) w.state } in
    let one : IsVolume idle = record {
      device = is.device;
      state = set-lengths state_lengths v.state 2 (little_bytes 1 0) is.state refl;
      count = sym (ap (λ (n : ℕ). if n == 0 then 1 else 2) (state_two v 0 is (omega arith)));
      maps = (ism, tt);
    } in
    pass-is idle 0 0 0 one

-- how much room each takes
pub opened-room : (v : Volume) → IsVolume v → migration_state_of v ≡ 0 → volume_room (volume_with_migration v) ≡ volume_room v + map_room (first_map v)
opened-room v is closed = omega (arith, ap maps_room (closed_maps v is closed))

pub closed-room : (v : Volume) → IsVolume v → migration_state_of v ≢ 0 → volume_room (volume_without_migration v) + map_room (get_or v.maps 1 blank_map) ≡ volume_room v
closed-room v is opened = omega (arith, ap maps_room (opened_maps v is opened))
