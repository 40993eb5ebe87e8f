-- Slots that are marked one by one are all marked.
use Rattle.std.proofs.Common.{◌≡◌, ◌≢◌, ℕ, zero, suc, ◌+◌, ◌<◌, Bool, true, false, List, [], ◌∷◌, length, map, get_or, set, refl, sym, ◌∙◌, ap, subst, arith, add-one}
use Rattle.std.proofs.lemmas.List.{get_or-map}
use Rattle.byteorder.specs.Endian.{little_bytes}
use Rattle.imsm_base.specs.Fields.{Part, number}
use Rattle.imsm_base.specs.Layout.{Block, Volume, Map, map_count_of, member_count_of}
use Rattle.imsm_base.specs.Volumes.{blank_map, first_map, order_at}
use Rattle.imsm_base.specs.EditsOfTables.{changed_at, with_volume, with_map, map_with_order, block_with_order}
use Rattle.imsm_codec.specs.Mpb.{volume_at, map_at}
use Rattle.imsm_buffer.specs.Buffer.{Buffer, parts_of}
use Rattle.imsm_buffer.proofs.Lowered.{IsThere, at_changed, changed_twice, changed_same, changed_none}
use Rattle.imsm_view.proofs.Members.{maps_one, maps_two, not_two}
use Rattle.imsm_edit.specs.Meanings.{is_told}
use Rattle.imsm_edit.specs.Slots.{with_rebuild_bit, entry_marked, changed_each, slot_marked, map_marked, maps_marked}
use Rattle.imsm_edit.proofs.Changes.{volume_changed, block_twice, block_as}

abbrev with_entries : Map → Part → Map
with_entries m es = record m { entries = es }

abbrev with_all_maps : Volume → List Map → Volume
with_all_maps v ms = record v { maps = ms }

abbrev with_all_volumes : Block → List Volume → Block
with_all_volumes b vs = record b { volumes = vs }

-- an element that is set is changed
pub set_is : {A : Type 0} (k : ℕ) (g : A → A) (xs : List A) (d : A) → set xs k (g (get_or xs k d)) ≡ changed_at k g xs
set_is k g [] d = refl
set_is zero g (x ∷ xs) d = refl
set_is {A} (suc k) g (x ∷ xs) d = ap (λ (ys : List A). x ∷ ys) (set_is k g xs d)

-- the first k elements are changed, each by its number
abbrev pub each_to : {A : Type 0} → ℕ → (ℕ → A → A) → List A → List A
each_to zero f xs = xs
each_to (suc k) f [] = []
each_to (suc k) f (x ∷ xs) = f 0 x ∷ each_to k (λ j. f (suc j)) xs

each_next : {A : Type 0} (k : ℕ) (f : ℕ → A → A) (xs : List A) → changed_at k (f k) (each_to k f xs) ≡ each_to (suc k) f xs
each_next zero f [] = refl
each_next zero f (x ∷ xs) = refl
each_next (suc k) f [] = refl
each_next {A} (suc k) f (x ∷ xs) = ap (λ (ys : List A). f 0 x ∷ ys) (each_next k (λ j. f (suc j)) xs)

each_whole : {A : Type 0} (f : ℕ → A → A) (xs : List A) → each_to (length xs) f xs ≡ changed_each f xs
each_whole f [] = refl
each_whole {A} f (x ∷ xs) = ap (λ (ys : List A). f 0 x ∷ ys) (each_whole (λ j. f (suc j)) xs)

-- maps that are changed twice, or alike
map_edit_as : (v : Volume) (m : ℕ) (f g : Map → Map) → f (map_at m v) ≡ g (map_at m v) → with_map m f v ≡ with_map m g v
map_edit_as v m f g same = ap (with_all_maps v) (changed_same m f g v.maps blank_map same)

map_edit_twice : (v : Volume) (m : ℕ) (g f h : Map → Map) → g (f (map_at m v)) ≡ h (map_at m v) → with_map m g (with_map m f v) ≡ with_map m h v
map_edit_twice v m g f h same = ap (with_all_maps v) (changed_twice m g f v.maps ∙ changed_same m (λ x. g (f x)) h v.maps blank_map same)

left_alone : (v m : ℕ) (f : Part → Part) (b : Block) → ((es : Part) → f es ≡ es) → b ≡ with_volume v (with_map m (λ y. with_entries y (f y.entries))) b
left_alone v m f b same =
    sym (ap (with_all_volumes b) (changed_none v (with_map m (λ y. with_entries y (f y.entries))) b.volumes
    (λ x. ap (with_all_maps x) (changed_none m (λ y. with_entries y (f y.entries)) x.maps (λ y. ap (with_entries y) (same y.entries))))))

-- ONE SLOT

pub slot_named : (b new : Block) (v m slot order put : ℕ) (on : Bool) → slot < length (map_at m (volume_at v b)).entries → order ≡ order_at slot (map_at m (volume_at v b)) → put ≡ with_rebuild_bit on order →
    new ≡ block_with_order b v m slot put → new ≡ with_volume v (with_map m (slot_marked on slot true)) b
slot_named b new v m slot order put on inside read is made =
    let y : Map = map_at m (volume_at v b) in
    let whole : put ≡ with_rebuild_bit on (number (get_or y.entries slot [])) = is ∙ ap (with_rebuild_bit on) (read ∙ get_or-map number y.entries slot [] 0 inside) in
    made ∙ block_as b v (with_map m (map_with_order slot put)) (with_map m (slot_marked on slot true))
    (map_edit_as (volume_at v b) m (map_with_order slot put) (slot_marked on slot true)
    (ap (λ (n : ℕ). with_entries y (set y.entries slot (little_bytes 4 n))) whole ∙ ap (with_entries y) (set_is slot (entry_marked on true) y.entries [])))

pub slot_left : (b : Block) (v m slot : ℕ) (on : Bool) → b ≡ with_volume v (with_map m (slot_marked on slot false)) b
slot_left b v m slot on = left_alone v m (changed_at slot (entry_marked on false)) b (λ es. changed_none slot (entry_marked on false) es (λ e. refl))

-- THE SLOTS OF A MAP

abbrev pub map_to : Bool → List Bool → ℕ → Map → Map
map_to on named k m = record m { entries = each_to k (λ slot. entry_marked on (is_told named slot)) m.entries }

pub record AreMarked (v m k : ℕ) (on : Bool) (named : List Bool) (old now : Buffer) : Type 0 where
  pub room : now.room ≡ old.room
  pub block : parts_of now ≡ with_volume v (with_map m (map_to on named k)) (parts_of old)

pub none_marked : (v m : ℕ) (on : Bool) (named : List Bool) (old : Buffer) → AreMarked v m 0 on named old old
none_marked v m on named old = record { room = refl; block = left_alone v m (λ es. es) (parts_of old) (λ es. refl) }

found_volume : (v m k : ℕ) (on : Bool) (named : List Bool) (old now : Buffer) → IsThere v m old → AreMarked v m k on named old now → volume_at v (parts_of now) ≡ with_map m (map_to on named k) (volume_at v (parts_of old))
found_volume v m k on named old now there is = ap (volume_at v) is.block ∙ volume_changed (parts_of old) v (with_map m (map_to on named k)) there.volume

pub map_still : (v m k : ℕ) (on : Bool) (named : List Bool) (old now : Buffer) → IsThere v m old → AreMarked v m k on named old now → m < map_count_of (volume_at v (parts_of old)) → m < map_count_of (volume_at v (parts_of now))
map_still v m k on named old now there is below = subst (λ (n : ℕ). m < n) (sym (ap map_count_of (found_volume v m k on named old now there is))) below

pub slot_still : (v m k n : ℕ) (on : Bool) (named : List Bool) (old now : Buffer) → IsThere v m old → AreMarked v m k on named old now → n ≡ member_count_of (map_at m (volume_at v (parts_of old))) → k < n →
    k < member_count_of (map_at m (volume_at v (parts_of now)))
slot_still v m k n on named old now there is count below =
    let here : map_at m (volume_at v (parts_of now)) ≡ map_to on named k (map_at m (volume_at v (parts_of old))) =
    ap (map_at m) (found_volume v m k on named old now there is) ∙ at_changed m (map_to on named k) (volume_at v (parts_of old)).maps blank_map there.map in
    subst (λ (x : ℕ). k < x) (count ∙ sym (ap member_count_of here)) below

pub slot_next : (v m k : ℕ) (on named_here : Bool) (named : List Bool) (old now new : Buffer) → AreMarked v m k on named old now → named_here ≡ is_told named k → new.room ≡ now.room →
    parts_of new ≡ with_volume v (with_map m (slot_marked on k named_here)) (parts_of now) → AreMarked v m (k + 1) on named old new
slot_next v m k on named_here named old now new is told room block =
    let y : Map = map_at m (volume_at v (parts_of old)) in
    let F : ℕ → List ℕ → List ℕ = λ slot. entry_marked on (is_told named slot) in
    let one : slot_marked on k named_here (map_to on named k y) ≡ map_to on named (suc k) y =
    ap (λ (t : Bool). with_entries y (changed_at k (entry_marked on t) (each_to k F y.entries))) told ∙ ap (with_entries y) (each_next k F y.entries) in
    record {
      room = room ∙ is.room;
      block = block ∙ ap (with_volume v (with_map m (slot_marked on k named_here))) is.block
          ∙ block_twice (parts_of old) v (with_map m (slot_marked on k named_here)) (with_map m (map_to on named k)) (with_map m (map_to on named (suc k)))
          (map_edit_twice (volume_at v (parts_of old)) m (slot_marked on k named_here) (map_to on named k) (map_to on named (suc k)) one)
          ∙ ap (λ (j : ℕ). with_volume v (with_map m (map_to on named j)) (parts_of old)) (sym (add-one k));
    }

pub slots_done : (v m k n : ℕ) (on : Bool) (named : List Bool) (old now : Buffer) → IsThere v m old → AreMarked v m k on named old now → n ≡ member_count_of (map_at m (volume_at v (parts_of old))) → k ≡ n →
    parts_of now ≡ with_volume v (with_map m (map_marked on named)) (parts_of old)
slots_done v m k n on named old now there is count end =
    let y : Map = map_at m (volume_at v (parts_of old)) in
    let F : ℕ → List ℕ → List ℕ = λ slot. entry_marked on (is_told named slot) in
    let whole : k ≡ length y.entries = end ∙ count ∙ sym there.entries in
    is.block ∙ block_as (parts_of old) v (with_map m (map_to on named k)) (with_map m (map_marked on named))
    (map_edit_as (volume_at v (parts_of old)) m (map_to on named k) (map_marked on named)
    (ap (λ (j : ℕ). with_entries y (each_to j F y.entries)) whole ∙ ap (with_entries y) (each_whole F y.entries)))

-- THE MAPS OF A VOLUME

pub one_done : (b new : Block) (v n : ℕ) (on : Bool) (named : List Bool) → length (volume_at v b).maps ≡ map_count_of (volume_at v b) → n ≡ map_count_of (volume_at v b) → n ≢ 2 →
    new ≡ with_volume v (with_map 0 (map_marked on named)) b → new ≡ with_volume v (maps_marked on named) b
one_done b new v n on named counted count other made =
    let x : Volume = volume_at v b in
    let one : x.maps ≡ first_map x ∷ [] = maps_one x counted (not_two x n count other) in
    made ∙ block_as b v (with_map 0 (map_marked on named)) (maps_marked on named)
    (ap (with_all_maps x) (ap (changed_at 0 (map_marked on named)) one ∙ ap (map (map_marked on named)) (sym one)))

pub both_done : (b mid new : Block) (v n : ℕ) (on : Bool) (named : List Bool) → length (volume_at v b).maps ≡ map_count_of (volume_at v b) → n ≡ map_count_of (volume_at v b) → n ≡ 2 →
    mid ≡ with_volume v (with_map 0 (map_marked on named)) b → new ≡ with_volume v (with_map 1 (map_marked on named)) mid → new ≡ with_volume v (maps_marked on named) b
both_done b mid new v n on named counted count two first second =
    let x : Volume = volume_at v b in
    let both : x.maps ≡ first_map x ∷ map_at 1 x ∷ [] = maps_two x counted (sym count ∙ two) in
    second ∙ ap (with_volume v (with_map 1 (map_marked on named))) first
    ∙ block_twice b v (with_map 1 (map_marked on named)) (with_map 0 (map_marked on named)) (maps_marked on named)
    (ap (with_all_maps x) (ap (λ (ms : List Map). changed_at 1 (map_marked on named) (changed_at 0 (map_marked on named) ms)) both ∙ ap (map (map_marked on named)) (sym both)))

pub second_asked : (b mid : Block) (v n : ℕ) (f : Map → Map) → v < length b.volumes → n ≡ map_count_of (volume_at v b) → n ≡ 2 → mid ≡ with_volume v (with_map 0 f) b → 1 < map_count_of (volume_at v mid)
second_asked b mid v n f below count two made =
    let same : map_count_of (volume_at v mid) ≡ map_count_of (volume_at v b) = ap (λ (x : Block). map_count_of (volume_at v x)) made ∙ ap map_count_of (volume_changed b v (with_map 0 f) below) in
    omega arith
