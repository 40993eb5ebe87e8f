-- The slots of a volume that is edited: which of them keep their index, and which are called out of sync.
use Rattle.std.proofs.Common.{◌≡◌, ℕ, zero, suc, ◌+◌, ◌%◌, ◌^◌, ◌<◌, ◌||◌, if◌then◌else◌, Bool, true, false, List, [], ◌∷◌, length, map, get_or, refl, sym, ◌∙◌, ap, subst, arith}
use Rattle.std.specs.List.{list_any, range_with_len, AllZip}
use Rattle.imsm_base.specs.Layout.{Block, Volume, Map, IsVolume, member_count_of}
use Rattle.imsm_base.specs.Fields.{Part}
use Rattle.imsm_base.specs.Volumes.{Member, blank_map, first_map, member, members, order_at, has_pass}
use Rattle.imsm_base.specs.EditsOfTables.{changed_at, with_map, map_with_state, volume_with_migration, volume_without_migration}
use Rattle.imsm_edit.specs.Meanings.{state_now, state_before, with_states}
use Rattle.imsm_edit.specs.Passes.{with_migration}
use Rattle.imsm_edit.proofs.Opened.{slots_stay}
use Rattle.imsm_view.proofs.Members.{member_here, marks, blank}
use Rattle.array_model.specs.Blocks.{SlotWords}
use Rattle.block_meaning.specs.Meaning.{slot_words}
use Rattle.array_machine.specs.Setting.{Facts, Edit}
use Rattle.array_machine.specs.EditWords.{KeepsSlot, SlotAfter, SlotsAfter}
use Rattle.array_edits.proofs.Steady.{with_maps}

-- SLOT BY SLOT

from : (f : Facts) (e : Edit) (v a n : ℕ) (g h : ℕ → SlotWords) → ((s : ℕ) → s < a + n → SlotAfter f e v (g s) (h s)) → SlotsAfter f e v (map g (range_with_len a n)) (map h (range_with_len a n))
from f e v a zero g h each = tt
from f e v a (suc n) g h each = (each a (omega arith), from f e v (a + 1) n g h (λ s below. each s (omega arith)))

mapped_twice : {X Y Z : Type 0} (g : Y → Z) (f : X → Y) (xs : List X) → map g (map f xs) ≡ map (λ x. g (f x)) xs
mapped_twice g f [] = refl
mapped_twice g f (x ∷ xs) = ap (λ (ys : List _). g (f x) ∷ ys) (mapped_twice g f xs)

-- what an edit makes of each slot it makes of the slots
pub slots_by : (f : Facts) (e : Edit) (v : ℕ) (b c : Block) (x y : Volume) → member_count_of (first_map y) ≡ member_count_of (first_map x) →
    ((s : ℕ) → s < member_count_of (first_map x) → SlotAfter f e v (slot_words b (member x s)) (slot_words c (member y s))) →
    SlotsAfter f e v (map (slot_words b) (members x)) (map (slot_words c) (members y))
slots_by f e v b c x y count each =
    let n : ℕ = member_count_of (first_map x) in
    let old : map (slot_words b) (members x) ≡ map (λ s. slot_words b (member x s)) (range_with_len 0 n) = mapped_twice (slot_words b) (member x) (range_with_len 0 n) in
    let new : map (slot_words c) (members y) ≡ map (λ s. slot_words c (member y s)) (range_with_len 0 n) =
    mapped_twice (slot_words c) (member y) (range_with_len 0 (member_count_of (first_map y))) ∙ ap (λ (k : ℕ). map (λ s. slot_words c (member y s)) (range_with_len 0 k)) count in
    subst (λ (ws : List SlotWords). SlotsAfter f e v ws (map (slot_words c) (members y))) (sym old)
    (subst (SlotsAfter f e v (map (λ s. slot_words b (member x s)) (range_with_len 0 n))) (sym new)
    (from f e v 0 n (λ s. slot_words b (member x s)) (λ s. slot_words c (member y s)) (λ s below. each s (omega arith))))

pub keeps_itself : (w : SlotWords) → KeepsSlot w w
keeps_itself w = record { serial = refl; expected = refl; in_sync = refl }

-- a slot of the same words as one that stays
pub kept_as : (b : Block) (m n : Member) → n ≡ m → KeepsSlot (slot_words b m) (slot_words b n)
kept_as b m n same = subst (λ (x : Member). KeepsSlot (slot_words b m) (slot_words b x)) (sym same) (keeps_itself (slot_words b m))

-- MAPS WITH THE SAME ENTRIES

abbrev pub SameEntries : Map → Map → Type 0
SameEntries m n = n.entries ≡ m.entries

out_same : (s : ℕ) (ms ns : List Map) → AllZip SameEntries ms ns → list_any (marks s) ns ≡ list_any (marks s) ms
out_same s [] [] zip = refl
out_same s [] (n ∷ ns) zip = absurd zip
out_same s (m ∷ ms) [] zip = absurd zip
out_same s (m ∷ ms) (n ∷ ns) zip =
    ap (λ (es : Part). marks s (record m { entries = es }) || list_any (marks s) ns) zip.0 ∙ ap (λ (t : Bool). marks s m || t) (out_same s ms ns zip.1)

first_same : (ms ns : List Map) → AllZip SameEntries ms ns → (get_or ns 0 blank_map).entries ≡ (get_or ms 0 blank_map).entries
first_same [] [] zip = refl
first_same [] (n ∷ ns) zip = absurd zip
first_same (m ∷ ms) [] zip = absurd zip
first_same (m ∷ ms) (n ∷ ns) zip = zip.0

abbrev pub member_of : ℕ → Bool → Member
member_of order out = record { index = order % 2 ^ 24; is_out = out }

maps_member : (v : Volume) (ms : List Map) (s : ℕ) → AllZip SameEntries v.maps ms → member (with_maps ms v) s ≡ member v s
maps_member v ms s zip =
    ap (λ (es : Part). member_of (order_at s (record { fields = []; entries = es })) (list_any (marks s) ms)) (first_same v.maps ms zip)
    ∙ ap (member_of (order_at s (first_map v))) (out_same s v.maps ms zip)

entries_at : (k : ℕ) (f : Map → Map) (ms : List Map) → ((m : Map) → (f m).entries ≡ m.entries) → AllZip SameEntries ms (changed_at k f ms)
entries_at k f [] same = tt
entries_at zero f (m ∷ ms) same = (same m, all ms)
  where
    all : (ns : List Map) → AllZip SameEntries ns ns
    all [] = tt
    all (n ∷ ns) = (refl, all ns)
entries_at (suc k) f (m ∷ ms) same = (refl, entries_at k f ms same)

-- STATES

-- one volume or another, which say the same
pub if_same : {X : Type 0} (t : Bool) (word : Volume → X) (x y v : Volume) → word x ≡ word v → word y ≡ word v → word (if t then x else y) ≡ word v
if_same true word x y v first second = first
if_same false word x y v first second = second

map_state_member : (k state : ℕ) (v : Volume) (s : ℕ) → member (with_map k (map_with_state state) v) s ≡ member v s
map_state_member k state v s = maps_member v (changed_at k (map_with_state state) v.maps) s (entries_at k (map_with_state state) v.maps (λ m. refl))

pub states_member : (b : Block) (broken : Bool) (v : Volume) (s : ℕ) → member (with_states b broken v) s ≡ member v s
states_member b broken v s =
    let first : ℕ → Volume = λ state. with_map 0 (map_with_state state) v in
    let now : ℕ = state_now broken v in
    let before : ℕ = state_before b broken v in
    if_same (has_pass v) (λ x. member x s) (with_map 1 (map_with_state now) (first before)) (first now) v
    (map_state_member 1 now (first before) s ∙ map_state_member 0 before v s) (map_state_member 0 now v s)

pub states_state : (b : Block) (broken : Bool) (v : Volume) → (with_states b broken v).state ≡ v.state
states_state b broken v =
    if_same (has_pass v) (λ x. x.state) (with_map 1 (map_with_state (state_now broken v)) (with_map 0 (map_with_state (state_before b broken v)) v)) (with_map 0 (map_with_state (state_now broken v)) v) v
    refl refl

-- A SECOND MAP

pub opened_count : (v : Volume) → member_count_of (first_map (with_migration v)) ≡ member_count_of (first_map v)
opened_count v = if_same (has_pass v) (λ x. member_count_of (first_map x)) v (volume_with_migration v) v refl refl

pub opened_member : (v : Volume) (s : ℕ) → IsVolume v → s < member_count_of (first_map v) → member (with_migration v) s ≡ member v s
opened_member v s is below =
    sym (member_here (with_migration v) s blank (subst (λ (n : ℕ). s < n) (sym (opened_count v)) below))
    ∙ ap (λ (ms : List Member). get_or ms s blank) (slots_stay v is.count) ∙ member_here v s blank below

-- without the second map a slot is called out of sync only where it was
first_out : (p : Map → Bool) (ms : List Map) → 0 < length ms → list_any p ms ≡ false → (p (get_or ms 0 blank_map) || false) ≡ false
first_out p [] some e = absurd (omega arith)
first_out p (m ∷ ms) some e = first (p m) (list_any p ms) e
  where
    first : (t u : Bool) → (t || u) ≡ false → (t || false) ≡ false
    first true u bad = bad
    first false u good = refl

pub closed_in : (v : Volume) (s : ℕ) → 0 < length v.maps → (member v s).is_out ≡ false → (member (volume_without_migration v) s).is_out ≡ false
closed_in v s some e = first_out (marks s) v.maps some e
