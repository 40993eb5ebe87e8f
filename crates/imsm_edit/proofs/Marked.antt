-- What marked slots say: each entry that is marked has its bit, and the others are as they were.
use Rattle.std.proofs.Common.{◌≡◌, ℕ, zero, suc, ◌+◌, ◌%◌, ◌^◌, ◌<◌, ◌==◌, ◌||◌, Bool, true, false, if◌then◌else◌, List, [], ◌∷◌, length, map, drop, get_or, replicate, Option, refl, sym, ◌∙◌, ap, subst, arith}
use Rattle.std.specs.Option.{option_map_or}
use Rattle.std.specs.List.{list_any, range_with_len}
use Rattle.std.specs.Int.{bit_at}
use Rattle.std.proofs.lemmas.List.{length-replicate, get_or-map, length-map}
use Rattle.std.proofs.lemmas.Option.{slice_get-get_or}
use Rattle.byteorder.specs.Endian.{little_bytes}
use Rattle.imsm_base.specs.Fields.{number, number_at}
use Rattle.imsm_base.specs.Layout.{Block, Volume, Map, volume_count_of, member_count_of, map_state_of}
use Rattle.imsm_base.specs.Volumes.{Member, blank_map, first_map, member, members, slots_of, order_at}
use Rattle.imsm_base.specs.EditsOfTables.{with_volume}
use Rattle.imsm_base.specs.Parts.{block_in, volume_in, map_in, maps_in}
use Rattle.imsm_base.proofs.Apart.{length-volumes}
use Rattle.imsm_base.proofs.At.{volume_in-block, length-cut_at}
use Rattle.imsm_codec.specs.Mpb.{volume_at, blank_volume}
use Rattle.imsm_codec.proofs.Found.{volumes_counted}
use Rattle.imsm_view.specs.declared.volume.Volume.{Volume as View}
use Rattle.imsm_view.specs.declared.volume.SlotView.{SlotView}
use Rattle.imsm_view.specs.Views.{IsVolume, slot_view}
use Rattle.imsm_view.proofs.Members.{length_members, member_here, marks, blank}
use Rattle.imsm_view.proofs.Words.{list_any-map}
use Rattle.imsm_edit.specs.Meanings.{is_told}
use Rattle.imsm_edit.specs.Slots.{with_rebuild_bit, entry_marked, changed_each, map_marked, maps_marked, slots_with, volume_marked, seen_with}
use Rattle.imsm_edit.proofs.Changes.{block_as}

-- LISTS

pub map_as : {X Y : Type 0} (f g : X → Y) (xs : List X) → ((x : X) → f x ≡ g x) → map f xs ≡ map g xs
map_as f g [] same = refl
map_as f g (x ∷ xs) same = ap (λ (y : _). y ∷ map f xs) (same x) ∙ ap (λ (ys : List _). g x ∷ ys) (map_as f g xs same)

pub map_map : {X Y Z : Type 0} (g : Y → Z) (f : X → Y) (xs : List X) → map g (map f xs) ≡ map (λ x. g (f x)) xs
map_map g f [] = refl
map_map g f (x ∷ xs) = ap (λ (ys : List _). g (f x) ∷ ys) (map_map g f xs)

pub range_as : {X : Type 0} (f g : ℕ → X) (a n : ℕ) → ((k : ℕ) → k < a + n → f k ≡ g k) → map f (range_with_len a n) ≡ map g (range_with_len a n)
range_as f g a zero same = refl
range_as f g a (suc n) same =
    ap (λ (y : _). y ∷ map f (range_with_len (a + 1) n)) (same a (omega arith))
    ∙ ap (λ (ys : List _). g a ∷ ys) (range_as f g (a + 1) n (λ k below. same k (omega arith)))

any_as : {X : Type 0} (p q : X → Bool) (xs : List X) → ((x : X) → p x ≡ q x) → list_any p xs ≡ list_any q xs
any_as p q [] same = refl
any_as p q (x ∷ xs) same = ap (λ (t : Bool). t || list_any p xs) (same x) ∙ ap (λ (t : Bool). q x || t) (any_as p q xs same)

-- AN ENTRY

order_here : (f : ℕ → List ℕ → List ℕ) (es : List (List ℕ)) (s : ℕ) → s < length es → get_or (map number (changed_each f es)) s 0 ≡ number (f s (get_or es s []))
order_here f [] s below = absurd (omega arith)
order_here f (e ∷ es) zero below = refl
order_here f (e ∷ es) (suc s) below = order_here (λ j. f (suc j)) es s (omega arith)

order_left : (f : ℕ → List ℕ → List ℕ) (es : List (List ℕ)) (s : ℕ) → ((e : List ℕ) → f s e ≡ e) → get_or (map number (changed_each f es)) s 0 ≡ get_or (map number es) s 0
order_left f [] s same = refl
order_left f (e ∷ es) zero same = ap number (same e)
order_left f (e ∷ es) (suc s) same = order_left (λ j. f (suc j)) es s same

set_bit : (n : ℕ) → bit_at (number (little_bytes 4 (with_rebuild_bit true n))) 24 ≡ 1
set_bit n = omega arith

same_index : (n : ℕ) → number (little_bytes 4 (with_rebuild_bit true n)) % 2 ^ 24 ≡ n % 2 ^ 24
same_index n = omega arith

-- A MAP

pub named_order : (named : List Bool) (s : ℕ) (m : Map) → is_told named s ≡ true → s < length m.entries → order_at s (map_marked true named m) ≡ number (little_bytes 4 (with_rebuild_bit true (order_at s m)))
named_order named s m told below =
    order_here (λ slot. entry_marked true (is_told named slot)) m.entries s below
    ∙ ap (λ (t : Bool). number (entry_marked true t (get_or m.entries s []))) told
    ∙ ap (λ (n : ℕ). number (little_bytes 4 (with_rebuild_bit true n))) (sym (get_or-map number m.entries s [] 0 below))

pub other_order : (on : Bool) (named : List Bool) (s : ℕ) (m : Map) → is_told named s ≡ false → order_at s (map_marked on named m) ≡ order_at s m
other_order on named s m told =
    order_left (λ slot. entry_marked on (is_told named slot)) m.entries s (λ e. ap (λ (t : Bool). entry_marked on t e) told)

-- A VOLUME

first_marked : (on : Bool) (named : List Bool) (ms : List Map) → get_or (map (map_marked on named) ms) 0 blank_map ≡ map_marked on named (get_or ms 0 blank_map)
first_marked on named [] = refl
first_marked on named (m ∷ ms) = refl

pub same_state : (on : Bool) (named : List Bool) (v : Volume) → map_state_of (first_map (maps_marked on named v)) ≡ map_state_of (first_map v)
same_state on named v = ap map_state_of (first_marked on named v.maps)

same_slots : (on : Bool) (named : List Bool) (v : Volume) → slots_of (maps_marked on named v) ≡ slots_of v
same_slots on named v = ap (λ (m : Map). range_with_len 0 (member_count_of m)) (first_marked on named v.maps)

-- whether a slot is named by a test of its disk's index
pub told_slot : (test : ℕ → Bool) (v : Volume) (s : ℕ) → s < member_count_of (first_map v) → is_told (slots_with test v) s ≡ test (member v s).index
told_slot test v s below =
    let len = length_members v in
    let mapped : length (slots_with test v) ≡ length (members v) = length-map (members v) (λ m. test m.index) in
    ap (λ (o : Option Bool). option_map_or (λ t. t) o false) (slice_get-get_or (slots_with test v) s false (omega arith))
    ∙ get_or-map (λ (m : Member). test m.index) (members v) s blank false (omega arith)
    ∙ ap (λ (m : Member). test m.index) (member_here v s blank below)

abbrev member_of : ℕ → Bool → Member
member_of index is_out = record { index = index; is_out = is_out }

any_first : (p : Map → Bool) (ms : List Map) → 0 < length ms → p (get_or ms 0 blank_map) ≡ true → list_any p ms ≡ true
any_first p [] some here = absurd (omega arith)
any_first p (m ∷ ms) some here = ap (λ (t : Bool). t || list_any p ms) here

pub named_member : (named : List Bool) (v : Volume) (s : ℕ) → is_told named s ≡ true → 0 < length v.maps → s < length (first_map v).entries → member (maps_marked true named v) s ≡ member_of (member v s).index true
named_member named v s told some below =
    let order : order_at s (first_map (maps_marked true named v)) ≡ number (little_bytes 4 (with_rebuild_bit true (order_at s (first_map v)))) =
    ap (order_at s) (first_marked true named v.maps) ∙ named_order named s (first_map v) told below in
    let mapped : length (map (map_marked true named) v.maps) ≡ length v.maps = length-map v.maps (map_marked true named) in
    let out : list_any (marks s) (map (map_marked true named) v.maps) ≡ true =
    any_first (marks s) (map (map_marked true named) v.maps) (omega arith)
    (ap (λ (n : ℕ). bit_at n 24 == 1) order ∙ ap (λ (n : ℕ). n == 1) (set_bit (order_at s (first_map v)))) in
    ap (λ (n : ℕ). member_of (n % 2 ^ 24) (list_any (marks s) (map (map_marked true named) v.maps))) order
    ∙ ap (λ (n : ℕ). member_of n (list_any (marks s) (map (map_marked true named) v.maps))) (same_index (order_at s (first_map v)))
    ∙ ap (member_of (member v s).index) out

pub other_member : (on : Bool) (named : List Bool) (v : Volume) (s : ℕ) → is_told named s ≡ false → member (maps_marked on named v) s ≡ member v s
other_member on named v s told =
    let order : order_at s (first_map (maps_marked on named v)) ≡ order_at s (first_map v) =
    ap (order_at s) (first_marked on named v.maps) ∙ other_order on named s (first_map v) told in
    let out : list_any (marks s) (map (map_marked on named) v.maps) ≡ (member v s).is_out =
    list_any-map (marks s) (map_marked on named) v.maps
    ∙ any_as (λ m. marks s (map_marked on named m)) (marks s) v.maps (λ m. ap (λ (n : ℕ). bit_at n 24 == 1) (other_order on named s m told)) in
    ap (λ (n : ℕ). member_of (n % 2 ^ 24) (list_any (marks s) (map (map_marked on named) v.maps))) order ∙ ap (member_of (member v s).index) out

pub members_marked : {X : Type 0} (f g : Member → X) (on : Bool) (named : List Bool) (v : Volume) →
    ((s : ℕ) → s < member_count_of (first_map v) → f (member v s) ≡ g (member (maps_marked on named v) s)) → map f (members v) ≡ map g (members (maps_marked on named v))
members_marked f g on named v same =
    map_map f (member v) (slots_of v)
    ∙ range_as (λ s. f (member v s)) (λ s. g (member (maps_marked on named v) s)) 0 (member_count_of (first_map v)) (λ s below. same s (omega arith))
    ∙ sym (map_map g (member (maps_marked on named v)) (slots_of (maps_marked on named v))
    ∙ ap (map (λ s. g (member (maps_marked on named v) s))) (same_slots on named v))

-- the slots by their views, and the volume with these marked
pub seen_is : (b : Block) (v : Volume) (view : View) (disks : List Bool) → IsVolume b v view → seen_with disks view.slots.items ≡ slots_with (is_told disks) v
seen_is b v view disks is = ap (seen_with disks) is.slots ∙ map_map (λ s. is_told disks s.index) (slot_view b) (members v)

pub marked_as : (b mid : Block) (k : ℕ) (on : Bool) (test : ℕ → Bool) (disks : List Bool) (slots : List SlotView) → seen_with disks slots ≡ slots_with test (volume_at k b) → mid ≡ with_volume k (maps_marked on (seen_with disks slots)) b →
    mid ≡ with_volume k (volume_marked on test) b
marked_as b mid k on test disks slots same made =
    made ∙ block_as b k (maps_marked on (seen_with disks slots)) (volume_marked on test) (ap (λ (named : List Bool). maps_marked on named (volume_at k b)) same)

-- A VOLUME OF BYTES

first_of_maps : (closed : Bool) (rest : List ℕ) → get_or (maps_in (if closed then 1 else 2) rest) 0 blank_map ≡ map_in rest
first_of_maps true rest = refl
first_of_maps false rest = refl

entries_in : (rest : List ℕ) → length (map_in rest).entries ≡ member_count_of (map_in rest)
entries_in rest = length-cut_at 48 (replicate (number_at 1 16 rest) 4) rest ∙ length-replicate (number_at 1 16 rest) 4

entries_of : (v : Volume) (rest : List ℕ) → v ≡ volume_in rest → length (first_map v).entries ≡ member_count_of (first_map v)
entries_of v rest e =
    subst (λ (m : Map). length m.entries ≡ member_count_of m)
    (sym (ap first_map e ∙ first_of_maps (number_at 1 88 rest == 0) (drop 112 rest))) (entries_in (drop 112 rest))

-- a volume's first map has an entry for each of its members
pub entries_counted : (bytes : List ℕ) (k : ℕ) → k < volume_count_of (block_in bytes) →
    length (first_map (volume_at k (block_in bytes))).entries ≡ member_count_of (first_map (volume_at k (block_in bytes)))
entries_counted bytes k below =
    entries_of _ _ (volume_in-block bytes k blank_volume (omega (arith, volumes_counted bytes, length-volumes bytes)))
