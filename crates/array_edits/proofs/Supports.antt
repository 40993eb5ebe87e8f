-- A volume without a fault, by its parts and by its slots.
use Rattle.std.proofs.Common.{◌≡◌, ℕ, zero, suc, ◌+◌, ◌<◌, ◌==◌, ◌&&◌, ◌||◌, not, if◌then◌else◌, Bool, true, false, List, [], ◌∷◌, length, map, take, get_or, Option, Some, None, refl, sym, ◌∙◌, ap, subst, arith}
use Rattle.std.specs.Prelude.{find, is_none, nat_le, nat_lt, slice_index}
use Rattle.std.specs.Option.{option_map}
use Rattle.std.specs.List.{list_any, list_all, range_with_len}
use Rattle.std.proofs.lemmas.Bool.{and_parts, and_from, or_parts, or_from, not-false, not_from_true, false≢true, lt-ltb, eq-eqb, ne_eqb}
use Rattle.std.proofs.lemmas.List.{length-take, get_or-take}
use Rattle.units.specs.declared.bounds.TheConstants.{MAX_VOLUME_SECTORS, METADATA_SECTORS}
use Rattle.units.specs.Levels.{rows_of}
use Rattle.imsm_base.specs.Layout.{Block, Volume, disk_count_of, volume_size_of, pba_of, blocks_per_member_of, strip_of, level_byte_of, member_count_of}
use Rattle.imsm_base.specs.Volumes.{Fault, Member, first_map, member, members, volume_level, level_of, volume_rows, has_policy, has_migration, is_bad_slot, bad_slot, has_sectors, is_like, has_geometry, overlaps, geometry_fault, volume_fault}
use Rattle.imsm_base.specs.Volumes.Fault.{BadIndex, BadGeometry, Overlaps}
use Rattle.imsm_codec.proofs.Mirror.{test_none}
use Rattle.imsm_view.proofs.Members.{length_members, member_here, index_here, any_here, find_none, find_none_each, index_below, blank}
use Rattle.array_edits.proofs.Steady.{IsAlike}

-- LISTS

-- no element passes a test, or some does
pub any_none : {A : Type 0} (p : A → Bool) (xs : List A) → ((k : ℕ) (d : A) → k < length xs → p (get_or xs k d) ≡ false) → list_any p xs ≡ false
any_none p [] fails = refl
any_none p (x ∷ xs) fails = or_from (p x) _ (fails 0 x (omega arith)) (any_none p xs (λ k d below. fails (suc k) d (omega arith)))

pub any_fails : {A : Type 0} (p : A → Bool) (xs : List A) (k : ℕ) (d : A) → list_any p xs ≡ false → k < length xs → p (get_or xs k d) ≡ false
any_fails p [] k d e below = absurd (omega arith)
any_fails p (x ∷ xs) zero d e below = (or_parts (p x) _ e).0
any_fails p (x ∷ xs) (suc k) d e below = any_fails p xs k d (or_parts (p x) _ e).1 (omega arith)

pub record Passes {A : Type 0} (p : A → Bool) (xs : List A) (d : A) : Type 0 where
  pub at : ℕ
  pub below : at < length xs
  pub passes : p (get_or xs at d) ≡ true

pub any_some : {A : Type 0} (p : A → Bool) (xs : List A) (d : A) → list_any p xs ≡ true → Passes p xs d
any_some p [] d e = absurd (false≢true e)
any_some {A} p (x ∷ xs) d e = first (p x) refl (any_some p xs d)
  where
    first : (t : Bool) → p x ≡ t → (list_any p xs ≡ true → Passes p xs d) → Passes p (x ∷ xs) d
    first true here rest = record { at = 0; below = omega arith; passes = here }
    first false here rest =
        let more : Passes p xs d = rest (sym (ap (λ (t : Bool). t || list_any p xs) here) ∙ e) in
        let within = more.below in
        record { at = suc more.at; below = omega arith; passes = more.passes }

-- each element passes a test
pub all_each : {A : Type 0} (p : A → Bool) (xs : List A) (k : ℕ) (d : A) → list_all p xs ≡ true → k < length xs → p (get_or xs k d) ≡ true
all_each p [] k d all below = absurd (omega arith)
all_each p (x ∷ xs) zero d all below = (and_parts (p x) _ all).0
all_each p (x ∷ xs) (suc k) d all below = all_each p xs k d (and_parts (p x) _ all).1 (omega arith)

pub all_from : {A : Type 0} (p : A → Bool) (xs : List A) → ((k : ℕ) (d : A) → k < length xs → p (get_or xs k d) ≡ true) → list_all p xs ≡ true
all_from p [] each = refl
all_from p (x ∷ xs) each = and_from (p x) _ (each 0 x (omega arith)) (all_from p xs (λ k d below. each (suc k) d (omega arith)))

-- PARTS

-- the tests that a volume of no fault passes
pub record Supports (b : Block) (k : ℕ) (v : Volume) : Type 0 where
  pub level : is_none (volume_level v) ≡ false
  pub policy : has_policy v ≡ true
  pub migration : has_migration v ≡ true
  pub slots : bad_slot b v ≡ None
  pub geometry : has_geometry b v ≡ true
  pub over : find (overlaps b k v) (range_with_len 0 (length b.volumes)) ≡ None

abbrev over_fault : Option ℕ → Option Fault
over_fault o = option_map (λ x. Overlaps x) o

no_over : (o : Option ℕ) → over_fault o ≡ None → o ≡ None
no_over None e = refl
no_over (Some x) e = absurd (cc e)

-- a fault that is looked for last
abbrev last_fault : Option ℕ → Bool → Option ℕ → Option Fault
last_fault (Some slot) geometry over = Some (BadIndex slot)
last_fault None geometry over = if not geometry then Some BadGeometry else over_fault over

last_is : (b : Block) (k : ℕ) (v : Volume) (slot : Option ℕ) → geometry_fault b k v slot ≡ last_fault slot (has_geometry b v) (find (overlaps b k v) (range_with_len 0 (length b.volumes)))
last_is b k v (Some slot) = refl
last_is b k v None = refl

last_none : (slot : Option ℕ) (geometry : Bool) (over : Option ℕ) → last_fault slot geometry over ≡ None → (slot ≡ None) × (geometry ≡ true) × (over ≡ None)
last_none (Some slot) geometry over e = absurd (cc e)
last_none None geometry over e =
    let parts = test_none (not geometry) BadGeometry (over_fault over) e in
    (refl, not-false geometry parts.0, no_over over parts.1)

pub supports : (b : Block) (k : ℕ) (v : Volume) → volume_fault b k v ≡ None → Supports b k v
supports b k v none =
    let one = test_none (is_none (volume_level v)) _ _ none in
    let two = test_none (not (has_policy v)) _ _ one.1 in
    let three = test_none (not (has_migration v)) _ _ two.1 in
    let last = last_none (bad_slot b v) (has_geometry b v) _ (sym (last_is b k v (bad_slot b v)) ∙ three.1) in
    record {
      level = one.0;
      policy = not-false _ two.0;
      migration = not-false _ three.0;
      slots = last.0;
      geometry = last.1;
      over = last.2;
    }

-- a test that fails leaves what is behind it
passed : (t : Bool) (x : Fault) (r : Option Fault) → t ≡ false → r ≡ None → (if t then Some x else r) ≡ None
passed true x r e none = absurd (cc e)
passed false x r e none = none

pub no_fault : (b : Block) (k : ℕ) (v : Volume) → Supports b k v → volume_fault b k v ≡ None
no_fault b k v s =
    passed (is_none (volume_level v)) _ _ s.level
    (passed (not (has_policy v)) _ _ (not_from_true _ s.policy)
    (passed (not (has_migration v)) _ _ (not_from_true _ s.migration)
    (last_is b k v (bad_slot b v)
    ∙ ap (λ (o : Option ℕ). last_fault o (has_geometry b v) (find (overlaps b k v) (range_with_len 0 (length b.volumes)))) s.slots
    ∙ ap (λ (t : Bool). last_fault None t (find (overlaps b k v) (range_with_len 0 (length b.volumes)))) s.geometry
    ∙ ap (λ (o : Option ℕ). last_fault None true o) s.over)))

-- SLOTS

-- the indices of the slots lie in the table and apart
pub record SlotsApart (b : Block) (v : Volume) : Type 0 where
  pub below : (s : ℕ) → s < member_count_of (first_map v) → (member v s).index < disk_count_of b
  pub apart : (s t : ℕ) → s < t → t < member_count_of (first_map v) → (member v s).index ≡ (member v t).index → ⊥

pub slots_apart : (b : Block) (v : Volume) → bad_slot b v ≡ None → SlotsApart b v
slots_apart b v none = record {
  below = λ s inside. index_below b v s none inside;
  apart = λ s t before inside same.
      let index : ℕ = slice_index (map (λ (m : Member). m.index) (members v)) t in
      let fine : is_bad_slot b (members v) t ≡ false = find_none_each (is_bad_slot b (members v)) (member_count_of (first_map v)) t none inside in
      let taken : list_any (λ (m : Member). m.index == index) (take t (members v)) ≡ false =
      (or_parts (not (nat_lt index (disk_count_of b))) (list_any (λ (m : Member). m.index == index) (take t (members v))) fine).1 in
      let here : list_any (λ (m : Member). m.index == index) (take t (members v)) ≡ true =
      any_here (λ m. m.index == index) v s t before (omega arith) (eq-eqb _ _ (same ∙ sym (index_here v t inside))) in
      false≢true (sym taken ∙ here);
}

pub no_bad_slot : (b : Block) (v : Volume) → SlotsApart b v → bad_slot b v ≡ None
no_bad_slot b v a = find_none (is_bad_slot b (members v)) (member_count_of (first_map v)) good
  where
    good : (t : ℕ) → t < member_count_of (first_map v) → is_bad_slot b (members v) t ≡ false
    good t inside =
        let index : ℕ = slice_index (map (λ (m : Member). m.index) (members v)) t in
        let is : index ≡ (member v t).index = index_here v t inside in
        let low : nat_lt index (disk_count_of b) ≡ true = lt-ltb index (disk_count_of b) (subst (λ (n : ℕ). n < disk_count_of b) (sym is) (a.below t inside)) in
        let none : list_any (λ (m : Member). m.index == index) (take t (members v)) ≡ false =
        any_none (λ m. m.index == index) (take t (members v)) (λ s d within.
        let early : s < t = omega (arith, length-take t (members v)) in
        let early_member : get_or (take t (members v)) s d ≡ member v s = get_or-take t (members v) s d early ∙ member_here v s d (omega arith) in
        ap (λ (m : Member). m.index == index) early_member ∙ ne_eqb _ _ (λ same. a.apart s t early inside (same ∙ is))) in
        or_from (not (nat_lt index (disk_count_of b))) _ (not_from_true _ low) none

-- GEOMETRY

-- what is asked of a geometry but for members and other maps
abbrev pub is_sized : (size level count strip blocks : ℕ) → Bool
is_sized size level count strip blocks =
    nat_le 1 size && nat_le size MAX_VOLUME_SECTORS && ((level == 1 && count == 2) || not (strip == 0))
    && nat_le (rows_of (level_of level count) count size strip) blocks

abbrev pub sized_volume : Volume → Bool
sized_volume v = is_sized (volume_size_of v) (level_byte_of (first_map v)) (member_count_of (first_map v)) (strip_of (first_map v)) (blocks_per_member_of (first_map v))

-- the sectors that a member of the volume needs
abbrev pub needed : Volume → ℕ
needed v = pba_of (first_map v) + volume_rows v + METADATA_SECTORS

pub record Fits (b : Block) (v : Volume) : Type 0 where
  pub sized : sized_volume v ≡ true
  pub sectors : (s : ℕ) → s < member_count_of (first_map v) → has_sectors b (needed v) (member v s) ≡ true
  pub alike : IsAlike v

pub fits : (b : Block) (v : Volume) → has_geometry b v ≡ true → Fits b v
fits b v good =
    let one = and_parts (sized_volume v && list_all (has_sectors b (needed v)) (members v)) (list_all (is_like (first_map v)) v.maps) good in
    let two = and_parts (sized_volume v) (list_all (has_sectors b (needed v)) (members v)) one.0 in
    record {
      sized = two.0;
      sectors = λ s inside.
          sym (ap (has_sectors b (needed v)) (member_here v s blank inside))
          ∙ all_each (has_sectors b (needed v)) (members v) s blank two.1 (omega (arith, length_members v));
      alike = one.1;
    }

pub good_geometry : (b : Block) (v : Volume) → Fits b v → has_geometry b v ≡ true
good_geometry b v f =
    and_from (sized_volume v && list_all (has_sectors b (needed v)) (members v)) (list_all (is_like (first_map v)) v.maps)
    (and_from (sized_volume v) (list_all (has_sectors b (needed v)) (members v)) f.sized
    (all_from (has_sectors b (needed v)) (members v) (λ s d within.
    let inside : s < member_count_of (first_map v) = omega (arith, length_members v) in
    ap (has_sectors b (needed v)) (member_here v s d inside) ∙ f.sectors s inside))) f.alike
