-- Entries that are lowered one by one are all lowered.
use Rattle.std.proofs.Common.{◌≡◌, ◌≢◌, ℕ, zero, suc, ◌+◌, ◌≤◌, ◌<◌, List, [], ◌∷◌, length, map, get_or, set, replicate, refl, sym, ◌∙◌, ap, subst, arith, add-one}
use Rattle.std.proofs.lemmas.List.{get_or-map, length-replicate}
use Rattle.byteorder.specs.Endian.{little_bytes}
use Rattle.imsm_base.specs.Fields.{Part, number}
use Rattle.imsm_base.specs.Layout.{Block, Volume, Map, IsMap, IsVolume, IsBlock, volume_count_of, map_count_of, member_count_of, bytes_of}
use Rattle.imsm_base.proofs.Apart.{laid_apart}
use Rattle.imsm_base.proofs.Edited.{fields_of}
use Rattle.imsm_codec.specs.Laid.{IsLaid}
use Rattle.imsm_buffer.proofs.Replaced.{all-at}
use Rattle.imsm_buffer.proofs.Placed.{block_is, volume_is, two_at_most}
use Rattle.imsm_base.specs.Volumes.{blank_map, order_at}
use Rattle.imsm_base.specs.EditsOfTables.{changed_at, with_volume, with_map, lowered, map_without_disk, volume_without_disk, block_with_order, map_with_order}
use Rattle.imsm_codec.specs.Mpb.{volume_at, map_at, blank_volume}
use Rattle.imsm_buffer.specs.Buffer.{Buffer, parts_of}
use Rattle.imsm_codec.proofs.Places.{some_map}

-- the first k elements are changed
abbrev pub changed_to : {A : Type 0} → ℕ → (A → A) → List A → List A
changed_to zero f xs = xs
changed_to (suc k) f [] = []
changed_to (suc k) f (x ∷ xs) = f x ∷ changed_to k f xs

pub changed_next : {A : Type 0} (k : ℕ) (f : A → A) (xs : List A) → changed_at k f (changed_to k f xs) ≡ changed_to (suc k) f xs
changed_next zero f [] = refl
changed_next zero f (x ∷ xs) = refl
changed_next (suc k) f [] = refl
changed_next {A} (suc k) f (x ∷ xs) = ap (λ (ys : List A). f x ∷ ys) (changed_next k f xs)

pub changed_whole : {A : Type 0} (f : A → A) (xs : List A) → changed_to (length xs) f xs ≡ map f xs
changed_whole f [] = refl
changed_whole {A} f (x ∷ xs) = ap (λ (ys : List A). f x ∷ ys) (changed_whole f xs)

set_next : {A : Type 0} (k : ℕ) (f : A → A) (xs : List A) (d : A) → k < length xs → set (changed_to k f xs) k (f (get_or (changed_to k f xs) k d)) ≡ changed_to (suc k) f xs
set_next k f [] d below = absurd (omega arith)
set_next zero f (x ∷ xs) d below = refl
set_next {A} (suc k) f (x ∷ xs) d below = ap (λ (ys : List A). f x ∷ ys) (set_next k f xs d (omega arith))

pub length-changed_to : {A : Type 0} (k : ℕ) (f : A → A) (xs : List A) → length (changed_to k f xs) ≡ length xs
length-changed_to zero f xs = refl
length-changed_to (suc k) f [] = refl
length-changed_to (suc k) f (x ∷ xs) = ap suc (length-changed_to k f xs)

pub at_changed : {A : Type 0} (k : ℕ) (f : A → A) (xs : List A) (d : A) → k < length xs → get_or (changed_at k f xs) k d ≡ f (get_or xs k d)
at_changed k f [] d below = absurd (omega arith)
at_changed zero f (x ∷ xs) d below = refl
at_changed (suc k) f (x ∷ xs) d below = at_changed k f xs d (omega arith)

pub changed_twice : {A : Type 0} (k : ℕ) (f g : A → A) (xs : List A) → changed_at k f (changed_at k g xs) ≡ changed_at k (λ x. f (g x)) xs
changed_twice k f g [] = refl
changed_twice zero f g (x ∷ xs) = refl
changed_twice {A} (suc k) f g (x ∷ xs) = ap (λ (ys : List A). x ∷ ys) (changed_twice k f g xs)

pub changed_same : {A : Type 0} (k : ℕ) (f g : A → A) (xs : List A) (d : A) → f (get_or xs k d) ≡ g (get_or xs k d) → changed_at k f xs ≡ changed_at k g xs
changed_same k f g [] d same = refl
changed_same {A} zero f g (x ∷ xs) d same = ap (λ (y : A). y ∷ xs) same
changed_same {A} (suc k) f g (x ∷ xs) d same = ap (λ (ys : List A). x ∷ ys) (changed_same k f g xs d same)

pub changed_none : {A : Type 0} (k : ℕ) (f : A → A) (xs : List A) → ((x : A) → f x ≡ x) → changed_at k f xs ≡ xs
changed_none k f [] same = refl
changed_none {A} zero f (x ∷ xs) same = ap (λ (y : A). y ∷ xs) (same x)
changed_none {A} (suc k) f (x ∷ xs) same = ap (λ (ys : List A). x ∷ ys) (changed_none k f xs same)

-- AN ENTRY

abbrev pub entry_lowered : ℕ → List ℕ → List ℕ
entry_lowered i e = little_bytes 4 (lowered i (number e))

abbrev pub map_lowered_to : ℕ → ℕ → Map → Map
map_lowered_to k i m = record m { entries = changed_to k (entry_lowered i) m.entries }

abbrev pub block_lowered_to : ℕ → ℕ → ℕ → ℕ → Block → Block
block_lowered_to v m k i b = with_volume v (with_map m (map_lowered_to k i)) b

abbrev with_entries : Map → Part → Map
with_entries m es = record m { entries = es }

abbrev with_all_maps : Volume → List Map → Volume
with_all_maps v ms = record v { maps = ms }

abbrev pub with_all_volumes : Block → List Volume → Block
with_all_volumes b vs = record b { volumes = vs }

pub lowered_none : (v m i : ℕ) (b : Block) → b ≡ block_lowered_to v m 0 i b
lowered_none v m i b =
    ap (with_all_volumes b) (sym (changed_none v (with_map m (map_lowered_to 0 i)) b.volumes (λ x. ap (with_all_maps x) (changed_none m (map_lowered_to 0 i) x.maps (λ y. refl)))))

-- a volume's map under the entries that are lowered by now
found_volume : (v m k i : ℕ) (b : Block) → v < length b.volumes → volume_at v (block_lowered_to v m k i b) ≡ with_map m (map_lowered_to k i) (volume_at v b)
found_volume v m k i b below = at_changed v (with_map m (map_lowered_to k i)) b.volumes blank_volume below

found_map : (v m k i : ℕ) (b : Block) → v < length b.volumes → m < length (volume_at v b).maps → map_at m (volume_at v (block_lowered_to v m k i b)) ≡ map_lowered_to k i (map_at m (volume_at v b))
found_map v m k i b below there =
    ap (map_at m) (found_volume v m k i b below) ∙ at_changed m (map_lowered_to k i) (volume_at v b).maps blank_map there

entry_step : (k i order : ℕ) (y : Map) → k < length y.entries → order ≡ order_at k (map_lowered_to k i y) → map_with_order k (lowered i order) (map_lowered_to k i y) ≡ map_lowered_to (suc k) i y
entry_step k i order y below is =
    let es : Part = changed_to k (entry_lowered i) y.entries in
    let read : order ≡ number (get_or es k []) = is ∙ get_or-map number es k [] 0 (omega (arith, length-changed_to k (entry_lowered i) y.entries)) in
    ap (λ (n : ℕ). with_entries y (set es k (little_bytes 4 (lowered i n)))) read
    ∙ ap (with_entries y) (set_next k (entry_lowered i) y.entries [] below)

pub lower_step : (v m k i order : ℕ) (b now new : Block) → v < length b.volumes → m < length (volume_at v b).maps → k < length (map_at m (volume_at v b)).entries →
    now ≡ block_lowered_to v m k i b → order ≡ order_at k (map_at m (volume_at v now)) → new ≡ block_with_order now v m k (lowered i order) → new ≡ block_lowered_to v m (suc k) i b
lower_step v m k i order b now new below there inside is read made =
    let x : Volume = volume_at v b in
    let y : Map = map_at m x in
    let F : Volume → Volume = with_map m (map_lowered_to k i) in
    let G : Map → Map = map_with_order k (lowered i order) in
    let L : Map → Map = map_lowered_to k i in
    let order_is : order ≡ order_at k (L y) = read ∙ ap (λ (c : Block). order_at k (map_at m (volume_at v c))) is ∙ ap (order_at k) (found_map v m k i b below there) in
    let one : changed_at m G (changed_at m L x.maps) ≡ changed_at m (map_lowered_to (suc k) i) x.maps =
    changed_twice m G L x.maps ∙ changed_same m (λ z. G (L z)) (map_lowered_to (suc k) i) x.maps blank_map (entry_step k i order y inside order_is) in
    let all : changed_at v (with_map m G) (changed_at v F b.volumes) ≡ changed_at v (with_map m (map_lowered_to (suc k) i)) b.volumes =
    changed_twice v (with_map m G) F b.volumes ∙ changed_same v (λ z. with_map m G (F z)) (with_map m (map_lowered_to (suc k) i)) b.volumes blank_volume (ap (with_all_maps x) one) in
    made ∙ ap (λ (c : Block). block_with_order c v m k (lowered i order)) is ∙ ap (with_all_volumes b) all

pub lower_end : (v m k i : ℕ) (b now : Block) → k ≡ length (map_at m (volume_at v b)).entries → now ≡ block_lowered_to v m k i b → now ≡ with_volume v (with_map m (map_without_disk i)) b
lower_end v m k i b now whole is =
    let x : Volume = volume_at v b in
    let y : Map = map_at m x in
    let entries : changed_to k (entry_lowered i) y.entries ≡ map (entry_lowered i) y.entries =
    ap (λ (n : ℕ). changed_to n (entry_lowered i) y.entries) whole ∙ changed_whole (entry_lowered i) y.entries in
    let maps : changed_at m (map_lowered_to k i) x.maps ≡ changed_at m (map_without_disk i) x.maps =
    changed_same m (map_lowered_to k i) (map_without_disk i) x.maps blank_map (ap (with_entries y) entries) in
    is ∙ ap (with_all_volumes b) (changed_same v (with_map m (map_lowered_to k i)) (with_map m (map_without_disk i)) b.volumes blank_volume (ap (with_all_maps x) maps))

-- WHAT THE LOOPS KEEP

-- the first k entries of a map are lowered
pub record IsLowered (v m k i : ℕ) (old now : Buffer) : Type 0 where
  pub room : now.room ≡ old.room
  pub block : parts_of now ≡ block_lowered_to v m k i (parts_of old)

-- the entries of the first k volumes are
pub record AreLowered (k i : ℕ) (old now : Buffer) : Type 0 where
  pub room : now.room ≡ old.room
  pub block : parts_of now ≡ with_all_volumes (parts_of old) (changed_to k (volume_without_disk i) (parts_of old).volumes)

-- a volume's map that is there, with an entry for each of its members
pub record IsThere (v m : ℕ) (old : Buffer) : Type 0 where
  pub volume : v < length (parts_of old).volumes
  pub map : m < length (volume_at v (parts_of old)).maps
  pub entries : length (map_at m (volume_at v (parts_of old))).entries ≡ member_count_of (map_at m (volume_at v (parts_of old)))

pub there_of : (v m : ℕ) (old : Buffer) (read : List ℕ) → IsLaid read → read ≡ old.bytes → v < volume_count_of (parts_of old) → m < map_count_of (volume_at v (parts_of old)) → IsThere v m old
there_of v m old read laid same volume map =
    let here : IsLaid old.bytes = subst IsLaid same laid in
    let block : IsBlock (parts_of old) = block_is old.bytes here in
    let is : IsVolume (volume_at v (parts_of old)) = volume_is old.bytes v here volume in
    let inside : m < length (volume_at v (parts_of old)).maps = omega (arith, is.count) in
    let one : IsMap (map_at m (volume_at v (parts_of old))) = all-at IsMap m (volume_at v (parts_of old)).maps blank_map is.maps inside in
    let n : ℕ = member_count_of (map_at m (volume_at v (parts_of old))) in
    record {
      volume = omega (arith, block.volume_count);
      map = inside;
      entries = fields_of (replicate n 4) (map_at m (volume_at v (parts_of old))).entries one.entries ∙ length-replicate n 4;
    }

pub map_still : (v m k i : ℕ) (old now : Buffer) (b : Block) → IsThere v m old → IsLowered v m k i old now → b ≡ parts_of now → m < map_count_of (volume_at v (parts_of old)) → m < map_count_of (volume_at v b)
map_still v m k i old now b there is same below =
    let count : map_count_of (volume_at v b) ≡ map_count_of (volume_at v (parts_of old)) =
    ap (λ (c : Block). map_count_of (volume_at v c)) (same ∙ is.block) ∙ ap map_count_of (found_volume v m k i (parts_of old) there.volume) in
    omega arith

pub slot_still : (v m k i n : ℕ) (old now : Buffer) (b first : Block) → IsThere v m old → IsLowered v m k i old now → b ≡ parts_of now → first ≡ parts_of old → n ≡ member_count_of (map_at m (volume_at v first)) →
    k < n → k < member_count_of (map_at m (volume_at v b))
slot_still v m k i n old now b first there is same start members below =
    let count : member_count_of (map_at m (volume_at v b)) ≡ member_count_of (map_at m (volume_at v (parts_of old))) =
    ap (λ (c : Block). member_count_of (map_at m (volume_at v c))) (same ∙ is.block) ∙ ap member_count_of (found_map v m k i (parts_of old) there.volume there.map) in
    let all : n ≡ member_count_of (map_at m (volume_at v (parts_of old))) = members ∙ ap (λ (c : Block). member_count_of (map_at m (volume_at v c))) start in
    omega arith

pub slot_next : (v m k i n order low : ℕ) (old now new : Buffer) (b first : Block) → IsThere v m old → IsLowered v m k i old now → b ≡ parts_of now → first ≡ parts_of old → n ≡ member_count_of (map_at m (volume_at v first)) → k < n →
    order ≡ order_at k (map_at m (volume_at v b)) → low ≡ lowered i order → new ≡ record now { bytes = bytes_of (block_with_order (parts_of now) v m k low) } → parts_of new ≡ block_with_order (parts_of now) v m k low → IsLowered v m (k + 1) i old new
slot_next v m k i n order low old now new b first there is same start members below read lower bytes block =
    let all : n ≡ member_count_of (map_at m (volume_at v (parts_of old))) = members ∙ ap (λ (c : Block). member_count_of (map_at m (volume_at v c))) start in
    let inside : k < length (map_at m (volume_at v (parts_of old))).entries = omega (arith, there.entries) in
    let step : parts_of new ≡ block_lowered_to v m (suc k) i (parts_of old) =
    lower_step v m k i order (parts_of old) (parts_of now) (parts_of new) there.volume there.map inside is.block (read ∙ ap (λ (c : Block). order_at k (map_at m (volume_at v c))) same)
    (block ∙ ap (λ (x : ℕ). block_with_order (parts_of now) v m k x) lower) in
    record {
      room = ap (λ (x : Buffer). x.room) bytes ∙ is.room;
      block = step ∙ ap (λ (x : ℕ). block_lowered_to v m x i (parts_of old)) (sym (add-one k));
    }

pub slots_done : (v m k i n : ℕ) (old now : Buffer) (first : Block) → IsThere v m old → IsLowered v m k i old now → first ≡ parts_of old → n ≡ member_count_of (map_at m (volume_at v first)) → k ≡ n →
    parts_of now ≡ with_volume v (with_map m (map_without_disk i)) (parts_of old)
slots_done v m k i n old now first there is start members end =
    let all : n ≡ member_count_of (map_at m (volume_at v (parts_of old))) = members ∙ ap (λ (c : Block). member_count_of (map_at m (volume_at v c))) start in
    lower_end v m k i (parts_of old) (parts_of now) (omega (arith, there.entries)) is.block

-- A VOLUME'S MAPS

second_there : (v m i : ℕ) (b : Block) → v < length b.volumes → map_count_of (volume_at v (with_volume v (with_map m (map_without_disk i)) b)) ≡ map_count_of (volume_at v b)
second_there v m i b below = ap map_count_of (at_changed v (with_map m (map_without_disk i)) b.volumes blank_volume below)

pub second_still : (v i : ℕ) (old mid : Buffer) (first : Block) → v < length (parts_of old).volumes → first ≡ parts_of old → 2 ≡ map_count_of (volume_at v first) → parts_of mid ≡ with_volume v (with_map 0 (map_without_disk i)) (parts_of old) →
    1 < map_count_of (volume_at v (parts_of mid))
second_still v i old mid first below start two is =
    let count : map_count_of (volume_at v (parts_of mid)) ≡ map_count_of (volume_at v (parts_of old)) = ap (λ (c : Block). map_count_of (volume_at v c)) is ∙ second_there v 0 i (parts_of old) below in
    let all : 2 ≡ map_count_of (volume_at v (parts_of old)) = two ∙ ap (λ (c : Block). map_count_of (volume_at v c)) start in
    omega arith

one_of_one : (f : Map → Map) (ms : List Map) → length ms ≡ 1 → changed_at 0 f ms ≡ map f ms
one_of_one f [] len = refl
one_of_one f (m ∷ []) len = refl
one_of_one f (m ∷ (n ∷ ms)) len = absurd (omega arith)

two_of_two : (f : Map → Map) (ms : List Map) → length ms ≡ 2 → changed_at 1 f (changed_at 0 f ms) ≡ map f ms
two_of_two f [] len = refl
two_of_two f (m ∷ []) len = absurd (omega arith)
two_of_two f (m ∷ (n ∷ [])) len = refl
two_of_two f (m ∷ (n ∷ (o ∷ ms))) len = absurd (omega arith)

pub one_lowered : (v i : ℕ) (b : Block) → length (volume_at v b).maps ≡ 1 → with_volume v (with_map 0 (map_without_disk i)) b ≡ with_volume v (volume_without_disk i) b
one_lowered v i b one =
    ap (with_all_volumes b) (changed_same v (with_map 0 (map_without_disk i)) (volume_without_disk i) b.volumes blank_volume (ap (with_all_maps (volume_at v b)) (one_of_one (map_without_disk i) (volume_at v b).maps one)))

pub two_lowered : (v i : ℕ) (b : Block) → length (volume_at v b).maps ≡ 2 → with_volume v (with_map 1 (map_without_disk i)) (with_volume v (with_map 0 (map_without_disk i)) b) ≡ with_volume v (volume_without_disk i) b
two_lowered v i b two =
    ap (with_all_volumes b)
    (
    changed_twice v (with_map 1 (map_without_disk i)) (with_map 0 (map_without_disk i)) b.volumes
    ∙ changed_same v (λ x. with_map 1 (map_without_disk i) (with_map 0 (map_without_disk i) x)) (volume_without_disk i) b.volumes blank_volume
    (ap (with_all_maps (volume_at v b)) (two_of_two (map_without_disk i) (volume_at v b).maps two))
    )

volume_below : (v : ℕ) (old : Buffer) (read : List ℕ) → IsLaid read → read ≡ old.bytes → v < volume_count_of (parts_of old) → v < length (parts_of old).volumes
volume_below v old read laid same volume =
    let block : IsBlock (parts_of old) = block_is old.bytes (subst IsLaid same laid) in
    omega (arith, block.volume_count)

maps_there : (v n : ℕ) (old : Buffer) (read : List ℕ) (first : Block) → IsLaid read → read ≡ old.bytes → v < volume_count_of (parts_of old) → first ≡ parts_of old → n ≡ map_count_of (volume_at v first) →
    length (volume_at v (parts_of old)).maps ≡ n
maps_there v n old read first laid same volume start count =
    let is : IsVolume (volume_at v (parts_of old)) = volume_is old.bytes v (subst IsLaid same laid) volume in
    is.count ∙ sym (count ∙ ap (λ (c : Block). map_count_of (volume_at v c)) start)

pub second_asked : (v i n : ℕ) (old mid : Buffer) (read : List ℕ) (first : Block) → IsLaid read → read ≡ old.bytes → v < volume_count_of (parts_of old) → first ≡ parts_of old → n ≡ map_count_of (volume_at v first) → n ≡ 2 →
    parts_of mid ≡ with_volume v (with_map 0 (map_without_disk i)) (parts_of old) → 1 < map_count_of (volume_at v (parts_of mid))
second_asked v i n old mid read first laid same volume start count two is =
    second_still v i old mid first (volume_below v old read laid same volume) start (sym two ∙ count) is

pub both_done : (v i n : ℕ) (old mid new : Buffer) (read : List ℕ) (first : Block) → IsLaid read → read ≡ old.bytes → v < volume_count_of (parts_of old) → first ≡ parts_of old → n ≡ map_count_of (volume_at v first) → n ≡ 2 →
    parts_of mid ≡ with_volume v (with_map 0 (map_without_disk i)) (parts_of old) → parts_of new ≡ with_volume v (with_map 1 (map_without_disk i)) (parts_of mid) → parts_of new ≡ with_volume v (volume_without_disk i) (parts_of old)
both_done v i n old mid new read first laid same volume start count two is block =
    block ∙ ap (with_volume v (with_map 1 (map_without_disk i))) is ∙ two_lowered v i (parts_of old) (maps_there v n old read first laid same volume start count ∙ two)

pub one_done : (v i n : ℕ) (old new : Buffer) (read : List ℕ) (first : Block) → IsLaid read → read ≡ old.bytes → v < volume_count_of (parts_of old) → first ≡ parts_of old → n ≡ map_count_of (volume_at v first) → n ≢ 2 →
    parts_of new ≡ with_volume v (with_map 0 (map_without_disk i)) (parts_of old) → parts_of new ≡ with_volume v (volume_without_disk i) (parts_of old)
one_done v i n old new read first laid same volume start count other block =
    let few : n ≤ 2 = omega (arith, two_at_most (volume_at v first)) in
    let some : 0 < n = omega (arith, some_map (volume_at v first)) in
    let one : n ≡ 1 = not_two n few some other in
    block ∙ one_lowered v i (parts_of old) (maps_there v n old read first laid same volume start count ∙ one)
  where
    not_two : (n : ℕ) → n ≤ 2 → 0 < n → n ≢ 2 → n ≡ 1
    not_two n few some other = omega arith

-- THE VOLUMES

pub volume_next : (k i : ℕ) (old now new : Buffer) → AreLowered k i old now → new.room ≡ now.room → parts_of new ≡ with_volume k (volume_without_disk i) (parts_of now) → AreLowered (k + 1) i old new
volume_next k i old now new is room block = record {
  room = room ∙ is.room;
  block = block ∙ ap (with_volume k (volume_without_disk i)) is.block
      ∙ ap (with_all_volumes (parts_of old)) (changed_next k (volume_without_disk i) (parts_of old).volumes ∙ ap (λ (n : ℕ). changed_to n (volume_without_disk i) (parts_of old).volumes) (sym (add-one k)));
}

pub volumes_done : (k i n : ℕ) (old now : Buffer) (read : List ℕ) (first : Block) → IsLaid read → read ≡ old.bytes → AreLowered k i old now → first ≡ parts_of old → n ≡ volume_count_of first → k ≡ n →
    parts_of now ≡ with_all_volumes (parts_of old) (map (volume_without_disk i) (parts_of old).volumes)
volumes_done k i n old now read first laid same is start count end =
    let block : IsBlock (parts_of old) = block_is old.bytes (subst IsLaid same laid) in
    let all : n ≡ volume_count_of (parts_of old) = count ∙ ap volume_count_of start in
    let whole : k ≡ length (parts_of old).volumes = omega (arith, block.volume_count) in
    is.block ∙ ap (with_all_volumes (parts_of old)) (ap (λ (x : ℕ). changed_to x (volume_without_disk i) (parts_of old).volumes) whole ∙ changed_whole (volume_without_disk i) (parts_of old).volumes)

-- what the parts are, the bytes are, laid end to end
pub removed_bytes : (old now : Buffer) (new : Block) → now.room ≡ old.room → parts_of now ≡ new → now ≡ record old { bytes = bytes_of new }
removed_bytes old now new room block =
    ap (λ (xs : List ℕ). made_of xs now.room) (laid_apart now.bytes ∙ ap bytes_of block) ∙ ap (made_of (bytes_of new)) room
  where
    made_of : List ℕ → ℕ → Buffer
    made_of xs n = record { bytes = xs; room = n }
