-- A volume's members by their slots, the first slot that passes a test, and a volume's maps.
use Rattle.std.proofs.Common.{◌≡◌, ℕ, zero, suc, ◌+◌, ◌<◌, ◌≤◌, ◌==◌, ◌&&◌, ◌||◌, not, Bool, true, false, cond, if◌then◌else◌, List, [], ◌∷◌, length, map, take, get_or, Option, Some, None, refl, sym, ◌∙◌, ap, subst, arith}
use Rattle.std.specs.Prelude.{find, nat_lt, nat_le, slice_get, slice_index}
use Rattle.std.specs.Option.{option_map_or}
use Rattle.std.specs.List.{list_any, list_all, range_with_len}
use Rattle.std.specs.Int.{bit_at}
use Rattle.std.proofs.lemmas.Bool.{and_parts, false≢true, eqb-true, ltb-true, lt-ltb, le-ltb, or_right}
use Rattle.std.proofs.lemmas.List.{take_all, get_or-map}
use Rattle.std.proofs.lemmas.List.FromFn.{length-map-range_with_len, get_or-map-range_with_len}
use Rattle.std.proofs.lemmas.List.Folds.{list_all_at, list_any_more, list_all_more}
use Rattle.std.proofs.lemmas.Option.{slice_get-get_or, slice_get_past}
use Rattle.std.proofs.Math.Bool.{and-true}
use Rattle.imsm_base.specs.Fields.{Part}
use Rattle.imsm_base.specs.Layout.{Block, Volume, Map, member_count_of, map_count_of, migration_state_of, disk_count_of, total_blocks_of}
use Rattle.imsm_base.specs.Volumes.{Member, first_map, member, members, order_at, is_bad_slot, bad_slot, is_like, has_sectors}
use Rattle.imsm_codec.specs.Mpb.{map_at, disk_at}
use Rattle.imsm_codec.proofs.Mirror.{like_itself, list_of_one, list_of_two}

pub length_members : (v : Volume) → length (members v) ≡ member_count_of (first_map v)
length_members v = length-map-range_with_len (member v) 0 (member_count_of (first_map v))

pub member_here : (v : Volume) (i : ℕ) (d : Member) → i < member_count_of (first_map v) → get_or (members v) i d ≡ member v i
member_here v i d below = get_or-map-range_with_len (member v) 0 (member_count_of (first_map v)) i i d below (omega arith)

pub blank : Member
blank = record { index = 0; is_out = false }

-- a test over the members, slot by slot
pub any_more : (p : Member → Bool) (v : Volume) (i : ℕ) → i < member_count_of (first_map v) → list_any p (take i (members v)) ≡ false → p (member v i) ≡ false → list_any p (take (i + 1) (members v)) ≡ false
any_more p v i below before here =
    let len = length_members v in
    list_any_more p (members v) i blank (omega arith)
    ∙ ap (λ (t : Bool). t || p (get_or (members v) i blank)) before ∙ ap p (member_here v i blank below) ∙ here

any_taken : (p : Member → Bool) (xs : List Member) (i n : ℕ) → i < n → n ≤ length xs → p (get_or xs i blank) ≡ true → list_any p (take n xs) ≡ true
any_taken p [] i n lt le here = absurd (omega arith)
any_taken p (x ∷ xs) i zero lt le here = absurd (omega arith)
any_taken p (x ∷ xs) zero (suc n) lt le here = ap (λ (t : Bool). t || list_any p (take n xs)) here
any_taken p (x ∷ xs) (suc i) (suc n) lt le here = or_right (p x) _ (any_taken p xs i n (omega arith) (omega arith) here)

pub any_here : (p : Member → Bool) (v : Volume) (i n : ℕ) → i < n → n ≤ member_count_of (first_map v) → p (member v i) ≡ true → list_any p (take n (members v)) ≡ true
any_here p v i n lt le here =
    let len = length_members v in
    any_taken p (members v) i n lt (omega arith) (ap p (member_here v i blank (omega arith)) ∙ here)

pub all_taken : (v : Volume) (n : ℕ) → n ≡ member_count_of (first_map v) → take n (members v) ≡ members v
all_taken v n e = take_all n (members v) (omega (arith, length_members v))

pub all_more : (p : Member → Bool) (v : Volume) (i : ℕ) → i < member_count_of (first_map v) → list_all p (take i (members v)) ≡ true → p (member v i) ≡ true → list_all p (take (i + 1) (members v)) ≡ true
all_more p v i below before here =
    let len = length_members v in
    list_all_more p (members v) i blank (omega arith)
    ∙ ap (λ (t : Bool). t && p (get_or (members v) i blank)) before ∙ ap p (member_here v i blank below) ∙ here

pub all_fails : (p : Member → Bool) (v : Volume) (i : ℕ) → i < member_count_of (first_map v) → p (member v i) ≡ false → list_all p (members v) ≡ false
all_fails p v i below here =
    let len = length_members v in
    list_all_at p (members v) i blank (omega arith) (ap p (member_here v i blank below) ∙ here)

-- the first number that passes a test
none_from : (p : ℕ → Bool) (a n : ℕ) → ((k : ℕ) → a ≤ k → k < a + n → p k ≡ false) → find p (range_with_len a n) ≡ None
none_from p a zero fails = refl
none_from p a (suc n) fails =
    ap (λ (t : Bool). cond t (Some a) (find p (range_with_len (a + 1) n))) (fails a (omega arith) (omega arith))
    ∙ none_from p (a + 1) n (λ k low high. fails k (omega arith) (omega arith))

pub find_none : (p : ℕ → Bool) (n : ℕ) → ((k : ℕ) → k < n → p k ≡ false) → find p (range_with_len 0 n) ≡ None
find_none p n fails = none_from p 0 n (λ k low high. fails k (omega arith))

least_from : (p : ℕ → Bool) (a n d i : ℕ) → i ≡ a + d → d < n → p i ≡ true → ((k : ℕ) → a ≤ k → k < i → p k ≡ false) → find p (range_with_len a n) ≡ Some i
least_from p a zero d i at lt here fails = absurd (omega arith)
least_from p a (suc n) zero i at lt here fails =
    let same : a ≡ i = omega arith in
    ap (λ (t : Bool). cond t (Some a) (find p (range_with_len (a + 1) n))) (ap p same ∙ here) ∙ ap (λ (k : ℕ). Some k) same
least_from p a (suc n) (suc d) i at lt here fails =
    ap (λ (t : Bool). cond t (Some a) (find p (range_with_len (a + 1) n))) (fails a (omega arith) (omega arith))
    ∙ least_from p (a + 1) n d i (omega arith) (omega arith) here (λ k low high. fails k (omega arith) high)

pub find_least : (p : ℕ → Bool) (n i : ℕ) → i < n → p i ≡ true → ((k : ℕ) → k < i → p k ≡ false) → find p (range_with_len 0 n) ≡ Some i
find_least p n i below here fails = least_from p 0 n i i (omega arith) below here (λ k low high. fails k high)

passes_not : (b : Bool) (x : ℕ) (r : Option ℕ) → cond b (Some x) r ≡ None → (b ≡ false) × (r ≡ None)
passes_not true x r e = cc
passes_not false x r e = (refl, e)

each_from : (p : ℕ → Bool) (a n d k : ℕ) → find p (range_with_len a n) ≡ None → k ≡ a + d → d < n → p k ≡ false
each_from p a zero d k e at lt = absurd (omega arith)
each_from p a (suc n) zero k e at lt =
    let same : k ≡ a = omega arith in ap p same ∙ (passes_not (p a) a _ e).0
each_from p a (suc n) (suc d) k e at lt = each_from p (a + 1) n d k (passes_not (p a) a _ e).1 (omega arith) (omega arith)

pub find_none_each : (p : ℕ → Bool) (n k : ℕ) → find p (range_with_len 0 n) ≡ None → k < n → p k ≡ false
find_none_each p n k e below = each_from p 0 n k k e (omega arith) below

-- the index of a slot, as the test of a bad slot reads it
pub index_here : (v : Volume) (i : ℕ) → i < member_count_of (first_map v) → slice_index (map (λ (m : Member). m.index) (members v)) i ≡ (member v i).index
index_here v i below =
    let len = length_members v in
    get_or-map (λ (m : Member). m.index) (members v) i blank 0 (omega arith) ∙ ap (λ (m : Member). m.index) (member_here v i blank below)

-- a slot is bad by what was read of it
pub bad_by : (b : Block) (v : Volume) (i index disks : ℕ) (taken : Bool) → i < member_count_of (first_map v) → index ≡ (member v i).index → disks ≡ disk_count_of b →
    taken ≡ list_any (λ m. m.index == index) (take i (members v)) → (not (nat_lt index disks) || taken) ≡ is_bad_slot b (members v) i
bad_by b v i index disks taken below is count t =
    let same : index ≡ slice_index (map (λ (m : Member). m.index) (members v)) i = is ∙ sym (index_here v i below) in
    ap (λ (x : Bool). not (nat_lt index disks) || x) t
    ∙ ap (λ (n : ℕ). not (nat_lt index n) || list_any (λ m. m.index == index) (take i (members v))) count
    ∙ ap (λ (x : ℕ). not (nat_lt x (disk_count_of b)) || list_any (λ m. m.index == x) (take i (members v))) same

or_false : (a c : Bool) → (not a || c) ≡ false → a ≡ true
or_false true c e = refl
or_false false c e = absurd (false≢true (sym e))

-- each slot of a volume without a bad one has an index of the table
pub index_below : (b : Block) (v : Volume) (i : ℕ) → bad_slot b v ≡ None → i < member_count_of (first_map v) → (member v i).index < disk_count_of b
index_below b v i good below =
    let fine = find_none_each (is_bad_slot b (members v)) (member_count_of (first_map v)) i good below in
    subst (λ (n : ℕ). n < disk_count_of b) (index_here v i below) (ltb-true _ _ (or_false _ _ fine))

-- a volume has one map or two
pub maps_one : (v : Volume) → length v.maps ≡ map_count_of v → map_count_of v ≡ 1 → v.maps ≡ first_map v ∷ []
maps_one v count one = list_of_one v.maps (count ∙ one)

pub maps_two : (v : Volume) → length v.maps ≡ map_count_of v → map_count_of v ≡ 2 → v.maps ≡ first_map v ∷ map_at 1 v ∷ []
maps_two v count two = list_of_two v.maps (count ∙ two)

one_or_two : (b : Bool) (n : ℕ) → n ≡ (if b then 1 else 2) → (n ≡ 2 → ⊥) → n ≡ 1
one_or_two true n e other = e
one_or_two false n e other = absurd (other e)

two_or_one : (b : Bool) (n : ℕ) → n ≡ (if b then 1 else 2) → (n ≡ 1 → ⊥) → n ≡ 2
two_or_one true n e other = absurd (other e)
two_or_one false n e other = e

pub not_two : (v : Volume) (n : ℕ) → n ≡ map_count_of v → (n ≡ 2 → ⊥) → map_count_of v ≡ 1
not_two v n e other = sym e ∙ one_or_two (migration_state_of v == 0) n e other

pub not_one : (v : Volume) (n : ℕ) → n ≡ map_count_of v → (n ≡ 1 → ⊥) → map_count_of v ≡ 2
not_one v n e other = sym e ∙ two_or_one (migration_state_of v == 0) n e other

abbrev pub marks : ℕ → Map → Bool
marks slot m = bit_at (order_at slot m) 24 == 1

pub out_by_two : (v : Volume) (slot : ℕ) → v.maps ≡ first_map v ∷ map_at 1 v ∷ [] → (member v slot).is_out ≡ (marks slot (first_map v) || (marks slot (map_at 1 v) || false))
out_by_two v slot two = ap (list_any (marks slot)) two

pub alike_one : (v : Volume) → v.maps ≡ first_map v ∷ [] → list_all (is_like (first_map v)) v.maps ≡ true
alike_one v one = ap (list_all (is_like (first_map v))) one ∙ ap (λ (t : Bool). t && true) (like_itself (first_map v))

pub alike_two : (v : Volume) → v.maps ≡ first_map v ∷ map_at 1 v ∷ [] → list_all (is_like (first_map v)) v.maps ≡ is_like (first_map v) (map_at 1 v)
alike_two v two =
    ap (list_all (is_like (first_map v))) two ∙ ap (λ (t : Bool). t && (is_like (first_map v) (map_at 1 v) && true)) (like_itself (first_map v))
    ∙ and-true _

pub same_count : (m other : Map) → is_like m other ≡ true → member_count_of other ≡ member_count_of m
same_count m other like = eqb-true _ _ (and_parts _ _ like).1

-- the records of indices
pub of_record : (f : Part → Bool) (b : Block) (i : ℕ) → i < length b.disks → f (disk_at i b) ≡ option_map_or f (slice_get b.disks i) false
of_record f b i below = ap (λ (o : Option Part). option_map_or f o false) (sym (slice_get-get_or b.disks i [] below))

pub of_no_record : (f : Part → Bool) (b : Block) (i : ℕ) → length b.disks ≤ i → false ≡ option_map_or f (slice_get b.disks i) false
of_no_record f b i past = ap (λ (o : Option Part). option_map_or f o false) (sym (slice_get_past b.disks i past))

pub sectors_at : (b : Block) (needed index : ℕ) (m : Member) → m.index ≡ index → option_map_or (λ d. nat_le needed (total_blocks_of d)) (slice_get b.disks index) false ≡ has_sectors b needed m
sectors_at b needed index m at = ap (λ (i : ℕ). option_map_or (λ d. nat_le needed (total_blocks_of d)) (slice_get b.disks i) false) (sym at)

pub not_below : (index disks : ℕ) (t : Bool) → disks ≤ index → (not (nat_lt index disks) || t) ≡ true
not_below index disks t past = ap (λ (x : Bool). not x || t) (le-ltb index disks past)

pub is_below : (index disks : ℕ) (t : Bool) → index < disks → (not (nat_lt index disks) || t) ≡ t
is_below index disks t below = ap (λ (x : Bool). not x || t) (lt-ltb index disks below)
