-- The slots of a volume of which entries are changed: by what becomes of the index and of the bit of each entry.
use Rattle.std.proofs.Common.{◌≡◌, ℕ, zero, suc, ◌%◌, ◌^◌, ◌≤◌, ◌<◌, ◌==◌, ◌||◌, if◌then◌else◌, Bool, true, false, List, [], ◌∷◌, length, map, get_or, replicate, refl, sym, ◌∙◌, ap, inl, inr, arith}
use Rattle.std.specs.Prelude.{Option}
use Rattle.std.specs.Option.{option_map_or}
use Rattle.std.specs.List.{list_any}
use Rattle.std.specs.Int.{bit_at}
use Rattle.std.proofs.lemmas.Bool.{cases_lt, or_left, or_parts}
use Rattle.std.proofs.lemmas.List.{get_or-map, get_or_past, length-map, length-replicate}
use Rattle.std.proofs.lemmas.Option.{slice_get-get_or}
use Rattle.byteorder.specs.Endian.{little_bytes}
use Rattle.imsm_base.specs.Fields.{number}
use Rattle.imsm_base.specs.Layout.{Volume, Map, IsMap, IsVolume, member_count_of}
use Rattle.imsm_base.specs.Volumes.{Member, blank_map, first_map, member, members, order_at}
use Rattle.imsm_base.proofs.Edited.{fields_of}
use Rattle.imsm_buffer.proofs.Replaced.{all-at}
use Rattle.imsm_view.proofs.Members.{length_members, member_here, marks, blank}
use Rattle.imsm_view.proofs.Words.{list_any-map}
use Rattle.imsm_edit.specs.Meanings.{is_told}
use Rattle.imsm_edit.specs.Slots.{with_rebuild_bit, entry_marked, changed_each, maps_marked}
use Rattle.array_edits.proofs.Steady.{has_maps}
use Rattle.array_edits.proofs.Steps.{map_slotwise, slotwise}
use Rattle.array_edits.proofs.Supports.{any_none}

-- AN ENTRY

length-each : {A : Type 0} (f : ℕ → A → A) (xs : List A) → length (changed_each f xs) ≡ length xs
length-each f [] = refl
length-each f (x ∷ xs) = ap suc (length-each (λ k. f (suc k)) xs)

pub at_each : {A : Type 0} (f : ℕ → A → A) (xs : List A) (k : ℕ) (d : A) → k < length xs → get_or (changed_each f xs) k d ≡ f k (get_or xs k d)
at_each f [] k d below = absurd (omega arith)
at_each f (x ∷ xs) zero d below = refl
at_each f (x ∷ xs) (suc k) d below = at_each (λ j. f (suc j)) xs k d (omega arith)

abbrev pub entry_of : ℕ → Map → List ℕ
entry_of s m = get_or m.entries s []

pub order_is : (s : ℕ) (m : Map) → s < length m.entries → order_at s m ≡ number (entry_of s m)
order_is s m below = get_or-map number m.entries s [] 0 below

pub order_past : (s : ℕ) (m : Map) → length m.entries ≤ s → order_at s m ≡ 0
order_past s m past = get_or_past (map number m.entries) s 0 (omega (arith, length-map m.entries number))

-- the order of a slot that is changed
pub order_each : (f : ℕ → List ℕ → List ℕ) (s : ℕ) (m : Map) → s < length m.entries → order_at s (map_slotwise f m) ≡ number (f s (entry_of s m))
order_each f s m below =
    order_is s (map_slotwise f m) (omega (arith, length-each f m.entries)) ∙ ap number (at_each f m.entries s [] below)

order_none : (f : ℕ → List ℕ → List ℕ) (s : ℕ) (m : Map) → length m.entries ≤ s → order_at s (map_slotwise f m) ≡ 0
order_none f s m past = order_past s (map_slotwise f m) (omega (arith, length-each f m.entries))

-- the first map of a volume has an entry for each slot
pub first_entries : (v : Volume) → IsVolume v → length (first_map v).entries ≡ member_count_of (first_map v)
first_entries v is =
    let some = has_maps v is in
    let one : IsMap (first_map v) = all-at IsMap 0 v.maps blank_map is.maps some.0 in
    fields_of (replicate (member_count_of (first_map v)) 4) (first_map v).entries one.entries ∙ length-replicate (member_count_of (first_map v)) 4

pub first_each : (f : ℕ → List ℕ → List ℕ) (ms : List Map) → get_or (map (map_slotwise f) ms) 0 blank_map ≡ map_slotwise f (get_or ms 0 blank_map)
first_each f [] = refl
first_each f (m ∷ ms) = refl

-- THE INDEX

pub index_each : (f : ℕ → List ℕ → List ℕ) (v : Volume) (s : ℕ) → IsVolume v → s < member_count_of (first_map v) →
    (member (slotwise f v) s).index ≡ number (f s (entry_of s (first_map v))) % 2 ^ 24
index_each f v s is below =
    ap (λ (m : Map). order_at s m % 2 ^ 24) (first_each f v.maps) ∙ ap (λ (n : ℕ). n % 2 ^ 24) (order_each f s (first_map v) (omega (arith, first_entries v is)))

pub index_of_entry : (v : Volume) (s : ℕ) → IsVolume v → s < member_count_of (first_map v) → (member v s).index ≡ number (entry_of s (first_map v)) % 2 ^ 24
index_of_entry v s is below = ap (λ (n : ℕ). n % 2 ^ 24) (order_is s (first_map v) (omega (arith, first_entries v is)))

-- THE BIT

abbrev pub bit_of : ℕ → Bool
bit_of n = bit_at n 24 == 1

out_each : (f : ℕ → List ℕ → List ℕ) (v : Volume) (s : ℕ) → (member (slotwise f v) s).is_out ≡ list_any (λ m. marks s (map_slotwise f m)) v.maps
out_each f v s = list_any-map (marks s) (map_slotwise f) v.maps

any_same : {A : Type 0} (p q : A → Bool) (xs : List A) → ((x : A) → p x ≡ q x) → list_any p xs ≡ list_any q xs
any_same p q [] same = refl
any_same p q (x ∷ xs) same = ap (λ (t : Bool). t || list_any p xs) (same x) ∙ ap (λ (t : Bool). q x || t) (any_same p q xs same)

-- a slot of which no entry changes its bit
pub out_stays : (f : ℕ → List ℕ → List ℕ) (v : Volume) (s : ℕ) → ((e : List ℕ) → bit_of (number (f s e)) ≡ bit_of (number e)) → (member (slotwise f v) s).is_out ≡ (member v s).is_out
out_stays f v s same = out_each f v s ∙ any_same (λ m. marks s (map_slotwise f m)) (marks s) v.maps each
  where
    each : (m : Map) → marks s (map_slotwise f m) ≡ marks s m
    each m =
        elim (cases_lt s (length m.entries)) [
          | inl below ↦ ap bit_of (order_each f s m below) ∙ same (entry_of s m) ∙ ap bit_of (sym (order_is s m below))
          | inr past ↦ ap bit_of (order_none f s m past) ∙ ap bit_of (sym (order_past s m past))
        ]

-- one whose entries lose it
pub out_cleared : (f : ℕ → List ℕ → List ℕ) (v : Volume) (s : ℕ) → ((e : List ℕ) → bit_of (number (f s e)) ≡ false) → (member (slotwise f v) s).is_out ≡ false
out_cleared f v s clear = out_each f v s ∙ any_none (λ m. marks s (map_slotwise f m)) v.maps (λ k d below. each (get_or v.maps k d))
  where
    each : (m : Map) → marks s (map_slotwise f m) ≡ false
    each m =
        elim (cases_lt s (length m.entries)) [
          | inl below ↦ ap bit_of (order_each f s m below) ∙ clear (entry_of s m)
          | inr past ↦ ap bit_of (order_none f s m past)
        ]

-- one whose entry in the first map gets it
any_first : (p : Map → Bool) (ms : List Map) → 0 < length ms → p (get_or ms 0 blank_map) ≡ true → list_any p ms ≡ true
any_first p [] some here = absurd (omega arith)
any_first p (m ∷ ms) some here = or_left (p m) (list_any p ms) here

pub out_set : (f : ℕ → List ℕ → List ℕ) (v : Volume) (s : ℕ) → IsVolume v → s < member_count_of (first_map v) → ((e : List ℕ) → bit_of (number (f s e)) ≡ true) → (member (slotwise f v) s).is_out ≡ true
out_set f v s is below set_bit =
    out_each f v s
    ∙ any_first (λ m. marks s (map_slotwise f m)) v.maps (has_maps v is).0
    (ap bit_of (order_each f s (first_map v) (omega (arith, first_entries v is))) ∙ set_bit (entry_of s (first_map v)))

-- THE FIRST MAP ALONE

abbrev pub first_marks : ℕ → Volume → Bool
first_marks s v = marks s (first_map v)

pub first_marks_each : (f : ℕ → List ℕ → List ℕ) (v : Volume) (s : ℕ) → IsVolume v → s < member_count_of (first_map v) → first_marks s (slotwise f v) ≡ bit_of (number (f s (entry_of s (first_map v))))
first_marks_each f v s is below =
    ap (marks s) (first_each f v.maps) ∙ ap bit_of (order_each f s (first_map v) (omega (arith, first_entries v is)))

pub first_marks_entry : (v : Volume) (s : ℕ) → IsVolume v → s < member_count_of (first_map v) → first_marks s v ≡ bit_of (number (entry_of s (first_map v)))
first_marks_entry v s is below = ap bit_of (order_is s (first_map v) (omega (arith, first_entries v is)))

-- what no map calls out of sync the first doesn't
pub in_by_first : (v : Volume) (s : ℕ) → IsVolume v → (member v s).is_out ≡ false → first_marks s v ≡ false
in_by_first v s is e = first v.maps (has_maps v is).0 e
  where
    first : (ms : List Map) → 0 < length ms → list_any (marks s) ms ≡ false → marks s (get_or ms 0 blank_map) ≡ false
    first [] some out = absurd (omega arith)
    first (m ∷ ms) some out = (or_parts (marks s m) _ out).0

-- MARKED ENTRIES

abbrev pub marked_number : Bool → ℕ → ℕ
marked_number on n = number (little_bytes 4 (with_rebuild_bit on n))

pub index_marked : (on : Bool) (n : ℕ) → marked_number on n % 2 ^ 24 ≡ n % 2 ^ 24
index_marked true n = omega arith
index_marked false n = omega arith

bit_number : (on : Bool) (n : ℕ) → bit_at (marked_number on n) 24 ≡ (if on then 1 else 0)
bit_number true n = omega arith
bit_number false n = omega arith

pub bit_marked : (on : Bool) (n : ℕ) → bit_of (marked_number on n) ≡ on
bit_marked true n = ap (λ (k : ℕ). k == 1) (bit_number true n)
bit_marked false n = ap (λ (k : ℕ). k == 1) (bit_number false n)

pub entry_index : (on t : Bool) (e : List ℕ) → number (entry_marked on t e) % 2 ^ 24 ≡ number e % 2 ^ 24
entry_index on true e = index_marked on (number e)
entry_index on false e = refl

pub entry_bit : (on : Bool) (e : List ℕ) → bit_of (number (entry_marked on true e)) ≡ on
entry_bit on e = bit_marked on (number e)

-- a slot that is named, or not
pub marked_index : (on : Bool) (named : List Bool) (v : Volume) (s : ℕ) → IsVolume v → s < member_count_of (first_map v) → (member (maps_marked on named v) s).index ≡ (member v s).index
marked_index on named v s is below =
    index_each (λ slot. entry_marked on (is_told named slot)) v s is below ∙ entry_index on (is_told named s) (entry_of s (first_map v)) ∙ sym (index_of_entry v s is below)

-- whether a slot is named by a word of it
pub told_of : (word : Member → Bool) (v : Volume) (s : ℕ) → s < member_count_of (first_map v) → is_told (map word (members v)) s ≡ word (member v s)
told_of word v s below =
    let len = length_members v in
    let mapped : length (map word (members v)) ≡ length (members v) = length-map (members v) word in
    ap (λ (o : Option Bool). option_map_or (λ t. t) o false) (slice_get-get_or (map word (members v)) s false (omega arith))
    ∙ get_or-map word (members v) s blank false (omega arith) ∙ ap word (member_here v s blank below)

-- the bit in the first map behind a mark
pub first_marked : (on : Bool) (named : List Bool) (v : Volume) (s : ℕ) → IsVolume v → s < member_count_of (first_map v) → first_marks s (maps_marked on named v) ≡ (if is_told named s then on else first_marks s v)
first_marked on named v s is below =
    first_marks_each (λ slot. entry_marked on (is_told named slot)) v s is below ∙ by_named (is_told named s)
  where
    by_named : (t : Bool) → bit_of (number (entry_marked on t (entry_of s (first_map v)))) ≡ (if t then on else first_marks s v)
    by_named true = entry_bit on (entry_of s (first_map v))
    by_named false = sym (first_marks_entry v s is below)

-- a slot that is named is called out of sync, and the others as before
pub marked_out : (named : List Bool) (v : Volume) (s : ℕ) → IsVolume v → s < member_count_of (first_map v) → (member (maps_marked true named v) s).is_out ≡ (is_told named s || (member v s).is_out)
marked_out named v s is below = by_named (is_told named s) refl
  where
    by_named : (t : Bool) → is_told named s ≡ t → (member (maps_marked true named v) s).is_out ≡ (t || (member v s).is_out)
    by_named true e =
        out_set (λ slot. entry_marked true (is_told named slot)) v s is below (λ entry. ap (λ (t : Bool). bit_of (number (entry_marked true t entry))) e ∙ entry_bit true entry)
    by_named false e =
        out_stays (λ slot. entry_marked true (is_told named slot)) v s (λ entry. ap (λ (t : Bool). bit_of (number (entry_marked true t entry))) e)
