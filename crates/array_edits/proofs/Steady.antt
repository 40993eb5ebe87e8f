-- A volume that is edited: it lies where it lay, its geometry is the same, and with a second map it takes as many bytes.
use Rattle.std.proofs.Common.{◌≡◌, ℕ, ◌+◌, ◌*◌, ◌≤◌, ◌<◌, ◌==◌, ◌&&◌, if◌then◌else◌, Bool, true, false, List, [], ◌∷◌, length, map, get_or, refl, sym, ◌∙◌, ap, arith}
use Rattle.std.specs.List.{list_all, AllByRecursion, AllZip}
use Rattle.std.proofs.lemmas.Bool.{and_parts, and_from}
use Rattle.std.proofs.lemmas.List.Elements.{length_all_zip}
use Rattle.imsm_base.specs.Fields.{Part, number}
use Rattle.imsm_base.specs.Layout.{Volume, Map, HasLengths, IsMap, IsVolume, state_lengths, map_count_of, migration_state_of, volume_size_of, policy_of, pba_of, blocks_per_member_of, strip_of, level_byte_of, member_count_of}
use Rattle.imsm_base.specs.Parts.{maps_room, volume_room}
use Rattle.imsm_base.specs.Volumes.{blank_map, first_map, second_map_bytes, is_like}
use Rattle.imsm_base.specs.EditsOfTables.{volume_with_migration, volume_without_migration}
use Rattle.imsm_buffer.proofs.TableEdits.{opened-is, closed-is}
use Rattle.imsm_codec.proofs.Mirror.{like_itself}
use Rattle.imsm_view.proofs.Members.{same_count}

-- A MAP

-- two maps of one geometry at one place
pub record SameMap (m n : Map) : Type 0 where
  pub pba : pba_of n ≡ pba_of m
  pub blocks : blocks_per_member_of n ≡ blocks_per_member_of m
  pub strip : strip_of n ≡ strip_of m
  pub level : level_byte_of n ≡ level_byte_of m
  pub count : member_count_of n ≡ member_count_of m

pub same_map : (m : Map) → SameMap m m
same_map m = record { pba = refl; blocks = refl; strip = refl; level = refl; count = refl }

same_then : (m n o : Map) → SameMap m n → SameMap n o → SameMap m o
same_then m n o a b = record {
  pba = b.pba ∙ a.pba;
  blocks = b.blocks ∙ a.blocks;
  strip = b.strip ∙ a.strip;
  level = b.level ∙ a.level;
  count = b.count ∙ a.count;
}

abbrev five : (p b s l c q d t k e : ℕ) → Bool
five p b s l c q d t k e = q == p && d == b && t == s && k == l && e == c

like_same : (m n o p : Map) → SameMap m n → SameMap o p → is_like n p ≡ is_like m o
like_same m n o p a b =
    ap (λ (x : ℕ). five x (blocks_per_member_of n) (strip_of n) (level_byte_of n) (member_count_of n) (pba_of p) (blocks_per_member_of p) (strip_of p) (level_byte_of p) (member_count_of p)) a.pba
    ∙ ap (λ (x : ℕ). five (pba_of m) x (strip_of n) (level_byte_of n) (member_count_of n) (pba_of p) (blocks_per_member_of p) (strip_of p) (level_byte_of p) (member_count_of p)) a.blocks
    ∙ ap (λ (x : ℕ). five (pba_of m) (blocks_per_member_of m) x (level_byte_of n) (member_count_of n) (pba_of p) (blocks_per_member_of p) (strip_of p) (level_byte_of p) (member_count_of p)) a.strip
    ∙ ap (λ (x : ℕ). five (pba_of m) (blocks_per_member_of m) (strip_of m) x (member_count_of n) (pba_of p) (blocks_per_member_of p) (strip_of p) (level_byte_of p) (member_count_of p)) a.level
    ∙ ap (λ (x : ℕ). five (pba_of m) (blocks_per_member_of m) (strip_of m) (level_byte_of m) x (pba_of p) (blocks_per_member_of p) (strip_of p) (level_byte_of p) (member_count_of p)) a.count
    ∙ ap (λ (x : ℕ). five (pba_of m) (blocks_per_member_of m) (strip_of m) (level_byte_of m) (member_count_of m) x (blocks_per_member_of p) (strip_of p) (level_byte_of p) (member_count_of p)) b.pba
    ∙ ap (λ (x : ℕ). five (pba_of m) (blocks_per_member_of m) (strip_of m) (level_byte_of m) (member_count_of m) (pba_of o) x (strip_of p) (level_byte_of p) (member_count_of p)) b.blocks
    ∙ ap (λ (x : ℕ). five (pba_of m) (blocks_per_member_of m) (strip_of m) (level_byte_of m) (member_count_of m) (pba_of o) (blocks_per_member_of o) x (level_byte_of p) (member_count_of p)) b.strip
    ∙ ap (λ (x : ℕ). five (pba_of m) (blocks_per_member_of m) (strip_of m) (level_byte_of m) (member_count_of m) (pba_of o) (blocks_per_member_of o) (strip_of o) x (member_count_of p)) b.level
    ∙ ap (λ (x : ℕ). five (pba_of m) (blocks_per_member_of m) (strip_of m) (level_byte_of m) (member_count_of m) (pba_of o) (blocks_per_member_of o) (strip_of o) (level_byte_of o) x) b.count

-- A VOLUME

-- all maps of a volume are like its first
abbrev pub IsAlike : Volume → Type 0
IsAlike v = list_all (is_like (first_map v)) v.maps ≡ true

-- what an edit of a volume leaves of it
pub record Steady (v x : Volume) : Type 0 where
  pub is : IsVolume x
  pub room : volume_room x + second_map_bytes x ≡ volume_room v + second_map_bytes v
  pub size : volume_size_of x ≡ volume_size_of v
  pub policy : policy_of x ≡ policy_of v
  pub first : SameMap (first_map v) (first_map x)
  pub alike : IsAlike v → IsAlike x

pub steady_itself : (v : Volume) → IsVolume v → Steady v v
steady_itself v is = record { is = is; room = refl; size = refl; policy = refl; first = same_map (first_map v); alike = λ a. a }

pub steady_then : (v x y : Volume) → Steady v x → Steady x y → Steady v y
steady_then v x y a b = record {
  is = b.is;
  room = b.room ∙ a.room;
  size = b.size ∙ a.size;
  policy = b.policy ∙ a.policy;
  first = same_then (first_map v) (first_map x) (first_map y) a.first b.first;
  alike = λ like. b.alike (a.alike like);
}

-- OTHER MAPS

-- a map that is edited keeps its fields but for its state, and has an entry for each member
pub record KeepsMap (m n : Map) : Type 0 where
  pub is : IsMap n
  pub same : SameMap m n

maps_all : (ms ns : List Map) → AllZip KeepsMap ms ns → AllByRecursion IsMap ns
maps_all [] [] zip = tt
maps_all [] (n ∷ ns) zip = absurd zip
maps_all (m ∷ ms) [] zip = absurd zip
maps_all (m ∷ ms) (n ∷ ns) zip = (zip.0.is, maps_all ms ns zip.1)

maps_room_same : (ms ns : List Map) → AllZip KeepsMap ms ns → maps_room ns ≡ maps_room ms
maps_room_same [] [] zip = refl
maps_room_same [] (n ∷ ns) zip = absurd zip
maps_room_same (m ∷ ms) [] zip = absurd zip
maps_room_same (m ∷ ms) (n ∷ ns) zip = let same = zip.0.same in omega (arith, same.count, maps_room_same ms ns zip.1)

maps_first : (ms ns : List Map) → AllZip KeepsMap ms ns → SameMap (get_or ms 0 blank_map) (get_or ns 0 blank_map)
maps_first [] [] zip = same_map blank_map
maps_first [] (n ∷ ns) zip = absurd zip
maps_first (m ∷ ms) [] zip = absurd zip
maps_first (m ∷ ms) (n ∷ ns) zip = zip.0.same

maps_like : (f g : Map) (ms ns : List Map) → SameMap f g → AllZip KeepsMap ms ns → list_all (is_like g) ns ≡ list_all (is_like f) ms
maps_like f g [] [] same zip = refl
maps_like f g [] (n ∷ ns) same zip = absurd zip
maps_like f g (m ∷ ms) [] same zip = absurd zip
maps_like f g (m ∷ ms) (n ∷ ns) same zip =
    ap (λ (t : Bool). t && list_all (is_like g) ns) (like_same f g m n same zip.0.same)
    ∙ ap (λ (t : Bool). is_like f m && t) (maps_like f g ms ns same zip.1)

abbrev pub with_maps : List Map → Volume → Volume
with_maps ms v = record v { maps = ms }

pub maps_steady : (v : Volume) (ms : List Map) → IsVolume v → AllZip KeepsMap v.maps ms → Steady v (with_maps ms v)
maps_steady v ms is zip =
    let first : SameMap (first_map v) (get_or ms 0 blank_map) = maps_first v.maps ms zip in
    let room : maps_room ms ≡ maps_room v.maps = maps_room_same v.maps ms zip in
    let bytes : second_map_bytes (with_maps ms v) ≡ second_map_bytes v = ap (λ (n : ℕ). if map_count_of v == 1 then 48 + 4 * n else 0) first.count in
    record {
      is = record {
        device = is.device;
        state = is.state;
        count = sym (length_all_zip KeepsMap v.maps ms zip) ∙ is.count;
        maps = maps_all v.maps ms zip;
      };
      room = omega (arith, room, bytes);
      size = refl;
      policy = refl;
      first = first;
      alike = λ like. maps_like (first_map v) (get_or ms 0 blank_map) v.maps ms first zip ∙ like;
    }

-- each map is edited
pub each_kept : (g : Map → Map) (ms : List Map) → ((m : Map) → IsMap m → KeepsMap m (g m)) → AllByRecursion IsMap ms → AllZip KeepsMap ms (map g ms)
each_kept g [] keeps all = tt
each_kept g (m ∷ ms) keeps all = (keeps m all.0, each_kept g ms keeps all.1)

-- ANOTHER STATE

abbrev pub with_state : Part → Volume → Volume
with_state s v = record v { state = s }

-- the pass stays open or closed
pub state_steady : (v : Volume) (s : Part) → IsVolume v → HasLengths state_lengths s → number (get_or s 2 []) ≡ migration_state_of v → Steady v (with_state s v)
state_steady v s is lengths same =
    let count : map_count_of (with_state s v) ≡ map_count_of v = ap (λ (n : ℕ). if n == 0 then 1 else 2) same in
    let bytes : second_map_bytes (with_state s v) ≡ second_map_bytes v = ap (λ (n : ℕ). if n == 1 then 48 + 4 * member_count_of (first_map v) else 0) count in
    record {
      is = record { device = is.device; state = lengths; count = is.count ∙ sym count; maps = is.maps };
      room = omega (arith, bytes);
      size = refl;
      policy = refl;
      first = same_map (first_map v);
      alike = λ like. like;
    }

-- A SECOND MAP

some_maps : (t : Bool) (n : ℕ) → n ≡ (if t then 1 else 2) → (0 < n) × (n ≤ 2)
some_maps true n e = (omega arith, omega arith)
some_maps false n e = (omega arith, omega arith)

pub has_maps : (v : Volume) → IsVolume v → (0 < length v.maps) × (length v.maps ≤ 2)
has_maps v is = some_maps (migration_state_of v == 0) (length v.maps) is.count

full_maps : (ms : List Map) (n : ℕ) → length ms ≡ n → 0 < n → n ≤ 2 → list_all (is_like (get_or ms 0 blank_map)) ms ≡ true →
    maps_room ms + (if n == 1 then 48 + 4 * member_count_of (get_or ms 0 blank_map) else 0) ≡ 96 + 8 * member_count_of (get_or ms 0 blank_map)
full_maps [] n len some few like = absurd (omega arith)
full_maps (m ∷ []) n len some few like =
    let bytes : (if n == 1 then 48 + 4 * member_count_of m else 0) ≡ 48 + 4 * member_count_of m = ap (λ (k : ℕ). if k == 1 then 48 + 4 * member_count_of m else 0) (sym len) in
    omega (arith, bytes)
full_maps (m ∷ (o ∷ [])) n len some few like =
    let bytes : (if n == 1 then 48 + 4 * member_count_of m else 0) ≡ 0 = ap (λ (k : ℕ). if k == 1 then 48 + 4 * member_count_of m else 0) (sym len) in
    let other : is_like m o ≡ true = (and_parts (is_like m o) true (and_parts (is_like m m) (is_like m o && true) like).1).0 in
    omega (arith, bytes, same_count m o other)
full_maps (m ∷ (o ∷ (p ∷ ms))) n len some few like = absurd (omega arith)

-- with a second map a volume whose maps are alike takes what its members take
pub full_room : (v : Volume) → IsVolume v → IsAlike v → volume_room v + second_map_bytes v ≡ 208 + 8 * member_count_of (first_map v)
full_room v is like =
    let some = has_maps v is in
    omega (arith, full_maps v.maps (map_count_of v) is.count (omega (arith, is.count)) (omega (arith, is.count)) like)

-- with these maps, the first of which is the first of the volume, and this state
maps_replaced : (v x : Volume) → IsVolume v → IsAlike v → IsVolume x → IsAlike x → x.device ≡ v.device → first_map x ≡ first_map v → Steady v x
maps_replaced v x is like isx likex device first =
    let count : member_count_of (first_map x) ≡ member_count_of (first_map v) = ap member_count_of first in
    record {
      is = isx;
      room = omega (arith, full_room v is like, full_room x isx likex);
      size = ap (λ (d : Part). volume_size_of (record v { device = d })) device;
      policy = ap (λ (d : Part). policy_of (record v { device = d })) device;
      first = record { pba = ap pba_of first; blocks = ap blocks_per_member_of first; strip = ap strip_of first; level = ap level_byte_of first; count = count };
      alike = λ _. likex;
    }

alike_one : (v : Volume) → IsAlike (volume_without_migration v)
alike_one v = and_from _ true (like_itself (first_map v)) refl

alike_two : (v : Volume) → IsAlike (volume_with_migration v)
alike_two v = and_from _ _ (like_itself (first_map v)) (and_from _ true (like_itself (first_map v)) refl)

pub closed_steady : (v : Volume) → IsVolume v → IsAlike v → Steady v (volume_without_migration v)
closed_steady v is like = maps_replaced v (volume_without_migration v) is like (closed-is v is) (alike_one v) refl refl

pub opened_steady : (v : Volume) → IsVolume v → IsAlike v → Steady v (volume_with_migration v)
opened_steady v is like = maps_replaced v (volume_with_migration v) is like (opened-is v is) (alike_two v) refl refl
