-- Each step of an edit leaves the volume where it lay.
use Rattle.std.proofs.Common.{◌≡◌, ◌≢◌, ℕ, zero, suc, ◌+◌, ◌*◌, ◌/◌, ◌%◌, ◌^◌, ◌==◌, if◌then◌else◌, Bool, true, false, List, [], ◌∷◌, length, map, get_or, set, replicate, refl, ◌∙◌, ap, subst, arith}
use Rattle.std.specs.List.{AllByRecursion, AllZip}
use Rattle.std.proofs.lemmas.List.{get_or-set_other}
use Rattle.byteorder.specs.Endian.{little_bytes}
use Rattle.imsm_base.specs.declared.values.TheConstants.{CHECKPOINT_SIGNATURE}
use Rattle.imsm_base.specs.Fields.{Part, number}
use Rattle.imsm_base.specs.Layout.{Block, Volume, Map, HasLengths, IsMap, IsVolume, state_lengths, dirty_byte_of, member_count_of}
use Rattle.imsm_base.specs.Volumes.{first_map, has_pass}
use Rattle.imsm_base.specs.Edits.{with_field, with_lowest_bit, volume_with_dirty}
use Rattle.imsm_base.specs.EditsOfTables.{with_wide, changed_at, with_map, map_with_state, lowered, volume_with_name, volume_with_pass, volume_with_migration, map_without_disk, volume_without_disk}
use Rattle.imsm_base.proofs.Spliced.{set-lengths}
use Rattle.imsm_buffer.proofs.FieldEdits.{map_state-is, name-is, pass-is}
use Rattle.imsm_edit.specs.Meanings.{is_told, state_now, state_before, with_states}
use Rattle.imsm_edit.specs.Passes.{with_migration, with_pass}
use Rattle.imsm_edit.specs.Slots.{entry_marked, changed_each, maps_marked, slots_with}
use Rattle.imsm_edit.proofs.Marked.{map_as}
use Rattle.array_edits.specs.Records.{entry_given, volume_given}
use Rattle.array_edits.proofs.Steady.{same_map, IsAlike, Steady, steady_itself, steady_then, KeepsMap, maps_steady, each_kept, state_steady, opened_steady}

-- one edit or another
pub if_either : (P : Volume → Type 0) (t : Bool) (x y : Volume) → (t ≡ true → P x) → (t ≡ false → P y) → P (if t then x else y)
if_either P true x y first second = first refl
if_either P false x y first second = second refl

pub steady_if : (t : Bool) (v x y : Volume) → (t ≡ true → Steady v x) → (t ≡ false → Steady v y) → Steady v (if t then x else y)
steady_if true v x y first second = first refl
steady_if false v x y first second = second refl

-- STATES OF MAPS

other_of : (m : Map) (state k : ℕ) → k ≢ 4 → number (get_or (map_with_state state m).fields k []) ≡ number (get_or m.fields k [])
other_of m state k other = ap number (get_or-set_other m.fields 4 k (little_bytes 1 state) [] other)

two_of : (a b c d : ℕ) → a ≡ c → b ≡ d → a + 2 ^ 32 * b ≡ c + 2 ^ 32 * d
two_of a b c d e f = ap (λ (x : ℕ). x + 2 ^ 32 * b) e ∙ ap (λ (x : ℕ). c + 2 ^ 32 * x) f

state_keeps : (state : ℕ) (m : Map) → IsMap m → KeepsMap m (map_with_state state m)
state_keeps state m is = record {
  is = map_state-is m state is;
  same = record {
    pba = two_of _ _ _ _ (other_of m state 0 (λ e. omega arith)) (other_of m state 10 (λ e. omega arith));
    blocks = two_of _ _ _ _ (other_of m state 1 (λ e. omega arith)) (other_of m state 11 (λ e. omega arith));
    strip = other_of m state 3 (λ e. omega arith);
    level = other_of m state 5 (λ e. omega arith);
    count = other_of m state 6 (λ e. omega arith);
  };
}

kept_at : (k : ℕ) (f : Map → Map) (ms : List Map) → ((m : Map) → IsMap m → KeepsMap m (f m)) → AllByRecursion IsMap ms → AllZip KeepsMap ms (changed_at k f ms)
kept_at k f [] keeps all = tt
kept_at zero f (m ∷ ms) keeps all = (keeps m all.0, rest ms all.1)
  where
    rest : (ns : List Map) → AllByRecursion IsMap ns → AllZip KeepsMap ns ns
    rest [] each = tt
    rest (n ∷ ns) each = (record { is = each.0; same = same_map n }, rest ns each.1)
kept_at (suc k) f (m ∷ ms) keeps all = (record { is = all.0; same = same_map m }, kept_at k f ms keeps all.1)

map_state_steady : (k state : ℕ) (v : Volume) → IsVolume v → Steady v (with_map k (map_with_state state) v)
map_state_steady k state v is = maps_steady v (changed_at k (map_with_state state) v.maps) is (kept_at k (map_with_state state) v.maps (state_keeps state) is.maps)

pub states_steady : (b : Block) (broken : Bool) (v : Volume) → IsVolume v → Steady v (with_states b broken v)
states_steady b broken v is =
    let first : ℕ → Volume = λ state. with_map 0 (map_with_state state) v in
    let now : ℕ = state_now broken v in
    let before : ℕ = state_before b broken v in
    let one : Steady v (first before) = map_state_steady 0 before v is in
    steady_if (has_pass v) v (with_map 1 (map_with_state now) (first before)) (first now)
    (λ e. steady_then v (first before) (with_map 1 (map_with_state now) (first before)) one (map_state_steady 1 now (first before) one.is))
    (λ e. map_state_steady 0 now v is)

-- ENTRIES

-- entries of four bytes that are changed, each to four bytes
entries_kept : (f : ℕ → List ℕ → List ℕ) (n : ℕ) (es : Part) → ((k : ℕ) (e : List ℕ) → length e ≡ 4 → length (f k e) ≡ 4) → HasLengths (replicate n 4) es → HasLengths (replicate n 4) (changed_each f es)
entries_kept f zero [] keeps lengths = refl
entries_kept f zero (e ∷ es) keeps lengths = absurd (cc lengths)
entries_kept f (suc n) [] keeps lengths = absurd (cc lengths)
entries_kept f (suc n) (e ∷ es) keeps lengths =
    let here : length (f 0 e) ≡ 4 = keeps 0 e (cc lengths) in
    let more : HasLengths (replicate n 4) (changed_each (λ k. f (suc k)) es) = entries_kept (λ k. f (suc k)) n es (λ k. keeps (suc k)) (cc lengths) in
    ap (λ (x : ℕ). x ∷ map (λ (g : List ℕ). length g) (changed_each (λ k. f (suc k)) es)) here ∙ ap (λ (xs : List ℕ). 4 ∷ xs) more

-- a map, and each map of a volume, with the entry of each slot changed
abbrev pub map_slotwise : (ℕ → List ℕ → List ℕ) → Map → Map
map_slotwise f m = record m { entries = changed_each f m.entries }

abbrev pub slotwise : (ℕ → List ℕ → List ℕ) → Volume → Volume
slotwise f v = record v { maps = map (map_slotwise f) v.maps }

-- a change of entries leaves them four bytes
abbrev pub KeepsFour : (ℕ → List ℕ → List ℕ) → Type 0
KeepsFour f = (k : ℕ) (e : List ℕ) → length e ≡ 4 → length (f k e) ≡ 4

pub slotwise_steady : (f : ℕ → List ℕ → List ℕ) (v : Volume) → KeepsFour f → IsVolume v → Steady v (slotwise f v)
slotwise_steady f v keeps is =
    maps_steady v (map (map_slotwise f) v.maps) is
    (each_kept (map_slotwise f) v.maps
    (λ m map_is. record { is = record { fields = map_is.fields; entries = entries_kept f (member_count_of m) m.entries keeps map_is.entries }; same = record { pba = refl; blocks = refl; strip = refl; level = refl; count = refl } }) is.maps)

marked_four : (on : Bool) (t : Bool) (e : List ℕ) → length e ≡ 4 → length (entry_marked on t e) ≡ 4
marked_four on true e len = refl
marked_four on false e len = len

pub marked_steady : (on : Bool) (named : List Bool) (v : Volume) → IsVolume v → Steady v (maps_marked on named v)
marked_steady on named v is = slotwise_steady (λ slot. entry_marked on (is_told named slot)) v (λ k e len. marked_four on (is_told named k) e len) is

given_four : (index : ℕ) (t : Bool) (e : List ℕ) → length e ≡ 4 → length (if t then entry_given index e else e) ≡ 4
given_four index true e len = refl
given_four index false e len = len

pub given_steady : (i index : ℕ) (v : Volume) → IsVolume v → Steady v (volume_given i index v)
given_steady i index v is =
    let named : List Bool = slots_with (λ j. j == i) v in
    slotwise_steady (λ slot e. if is_told named slot then entry_given index e else e) v (λ k e len. given_four index (is_told named k) e len) is

-- entries that are lowered
abbrev pub entry_lowered : ℕ → List ℕ → List ℕ
entry_lowered i e = little_bytes 4 (lowered i (number e))

each_is_map : (f : List ℕ → List ℕ) (es : Part) → changed_each (λ k. f) es ≡ map f es
each_is_map f [] = refl
each_is_map f (e ∷ es) = ap (λ (xs : Part). f e ∷ xs) (each_is_map f es)

-- as one of a volume slot by slot
pub lowered_is : (i : ℕ) (v : Volume) → slotwise (λ k. entry_lowered i) v ≡ volume_without_disk i v
lowered_is i v =
    ap (λ (ms : List Map). record v { maps = ms })
    (map_as (map_slotwise (λ k. entry_lowered i)) (map_without_disk i) v.maps (λ m. ap (λ (es : Part). record m { entries = es }) (each_is_map (entry_lowered i) m.entries)))

pub lowered_steady : (i : ℕ) (v : Volume) → IsVolume v → Steady v (volume_without_disk i v)
lowered_steady i v is = subst (Steady v) (lowered_is i v) (slotwise_steady (λ k. entry_lowered i) v (λ k e len. refl) is)

-- STATE AND NAME

pub dirty_steady : (on : Bool) (v : Volume) → IsVolume v → Steady v (volume_with_dirty on v)
dirty_steady on v is =
    let bytes : List ℕ = little_bytes 1 (with_lowest_bit (dirty_byte_of v) on) in
    state_steady v (set v.state 4 bytes) is (set-lengths state_lengths v.state 4 bytes is.state refl) (ap number (get_or-set_other v.state 4 2 bytes [] (λ e. omega arith)))

-- the fields of a state that a pass doesn't set, whatever its mark
pub fields_left : (kind unit mark k : ℕ) (s : Part) → k ≢ 0 → k ≢ 1 → k ≢ 3 → k ≢ 8 →
    number (get_or (with_wide 0 8 unit (with_field 1 (little_bytes 4 mark) (with_field 3 (little_bytes 1 kind) s))) k []) ≡ number (get_or s k [])
fields_left kind unit mark k s zeroth first third eighth =
    let typed : Part = set s 3 (little_bytes 1 kind) in
    let marked : Part = set typed 1 (little_bytes 4 mark) in
    let half : Part = set marked 0 (little_bytes 4 (unit % 2 ^ 32)) in
    ap number (get_or-set_other half 8 k (little_bytes 4 (unit / 2 ^ 32)) [] eighth ∙ get_or-set_other marked 0 k (little_bytes 4 (unit % 2 ^ 32)) [] zeroth
    ∙ get_or-set_other typed 1 k (little_bytes 4 mark) [] first ∙ get_or-set_other s 3 k (little_bytes 1 kind) [] third)

pub pass_left : (kind unit k : ℕ) (v : Volume) → k ≢ 0 → k ≢ 1 → k ≢ 3 → k ≢ 8 → number (get_or (volume_with_pass kind unit v).state k []) ≡ number (get_or v.state k [])
pass_left kind unit k v zeroth first third eighth = fields_left kind unit CHECKPOINT_SIGNATURE k v.state zeroth first third eighth

pub pass_steady : (kind unit : ℕ) (v : Volume) → IsVolume v → Steady v (volume_with_pass kind unit v)
pass_steady kind unit v is =
    let made : IsVolume (volume_with_pass kind unit v) = pass-is v kind unit CHECKPOINT_SIGNATURE is in
    state_steady v (volume_with_pass kind unit v).state is made.state (pass_left kind unit 2 v (λ e. omega arith) (λ e. omega arith) (λ e. omega arith) (λ e. omega arith))

pub migration_steady : (v : Volume) → IsVolume v → IsAlike v → Steady v (with_migration v)
migration_steady v is like = steady_if (has_pass v) v v (volume_with_migration v) (λ e. steady_itself v is) (λ e. opened_steady v is like)

pub with_pass_steady : (kind unit : ℕ) (v : Volume) → IsVolume v → IsAlike v → Steady v (with_pass kind unit v)
with_pass_steady kind unit v is like =
    let one : Steady v (with_migration v) = migration_steady v is like in
    steady_then v (with_migration v) (with_pass kind unit v) one (pass_steady kind unit (with_migration v) one.is)

pub name_steady : (name : List ℕ) (v : Volume) → length name ≡ 16 → IsVolume v → Steady v (volume_with_name name v)
name_steady name v len is = record {
  is = name-is v name is len;
  room = refl;
  size = two_of _ _ _ _ (other_device 1 (λ e. omega arith)) (other_device 2 (λ e. omega arith));
  policy = other_device 5 (λ e. omega arith);
  first = same_map (first_map v);
  alike = λ like. like;
}
  where
    other_device : (k : ℕ) → k ≢ 0 → number (get_or (volume_with_name name v).device k []) ≡ number (get_or v.device k [])
    other_device k other = ap number (get_or-set_other v.device 0 k name [] other)
