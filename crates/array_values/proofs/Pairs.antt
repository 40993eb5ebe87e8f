-- The two slots that hold a sector, and which sector a slot holds in a row. A volume that can run has a slot of each pair
-- that may be read.
use Rattle.std.proofs.Common.{◌≡◌, ℕ, zero, suc, ◌+◌, ◌≤◌, ◌==◌, ◌||◌, ◌&&◌, not, nat_lt, Bool, true, false, List, [], ◌∷◌, length, map, refl, ap, sym, ◌∙◌, subst, arith, Option, Some, None, ◌⊎◌, inl, inr, cond}
use Rattle.std.specs.Prelude.{slice_get, take, drop}
use Rattle.std.specs.List.{list_any}
use Rattle.std.specs.Option.{option_map_or}
use Rattle.std.proofs.lemmas.Bool.Decides.{nat_tests}
use Rattle.units.specs.declared.volume.Level.{Level}
use Rattle.units.specs.declared.volume.Level.TheVariants.{One, Five, Ten}
use Rattle.array_model.specs.Placement.{Placement, SlotPair, stripe_slots, placement_of}
use Rattle.array_machine.specs.Setting.{Setting}
use Rattle.array_machine.specs.Numbers.{has}
use Rattle.array_machine.specs.Volumes.{Slot, slot_at, disk_in, Member, member_at, is_usable, members_of, can_run}
use Rattle.array_machine.specs.Operations.{volume_of, shape_of, place_or, the_place, place_on}
use Rattle.array_machine.specs.RowJobs.{pair_of}
use Rattle.raid_map.specs.Layouts.{has_copy, IsPlacedIn}
use Rattle.raid_map.proofs.Stripes.{lies_at, one_sector}
use Rattle.array_values.specs.Copies.{has_copies, sector_at, row_at, IsCopied, InPair}

-- PAIRS

-- slots 0 and 1, or at level ten also 2 and 3
pub record PairIs (level : Option Level) (p : Placement) : Type 0 where
  pub base : ℕ
  pub main : p.main ≡ base
  pub other : p.other ≡ base + 1
  pub which : (base ≡ 0) ⊎ ((base ≡ 2) × (level ≡ Some Ten))

pair_by : (n t k : ℕ) (p : Placement) → slice_get (stripe_slots Ten n t) k ≡ Some (record { main = p.main; other = p.other })
    → PairIs (Some Ten) p
pair_by n t zero p is = record {
  base = 0;
  main = ap (λ (x : SlotPair). x.main) (sym (got _ _ is));
  other = ap (λ (x : SlotPair). x.other) (sym (got _ _ is));
  which = inl refl;
}
  where
    got : (a b : SlotPair) → Some a ≡ Some b → a ≡ b
    got a b e = cc e
pair_by n t (suc zero) p is = record {
  base = 2;
  main = ap (λ (x : SlotPair). x.main) (sym (got _ _ is));
  other = ap (λ (x : SlotPair). x.other) (sym (got _ _ is));
  which = inr (refl, refl);
}
  where
    got : (a b : SlotPair) → Some a ≡ Some b → a ≡ b
    got a b e = cc e
pair_by n t (suc (suc k)) p is = absurd cc

mirror_by : (n t k : ℕ) (p : Placement) → slice_get (stripe_slots One n t) k ≡ Some (record { main = p.main; other = p.other })
    → PairIs (Some One) p
mirror_by n t zero p is = record {
  base = 0;
  main = ap (λ (x : SlotPair). x.main) (sym (got _ _ is));
  other = ap (λ (x : SlotPair). x.other) (sym (got _ _ is));
  which = inl refl;
}
  where
    got : (a b : SlotPair) → Some a ≡ Some b → a ≡ b
    got a b e = cc e
mirror_by n t (suc k) p is = absurd cc

module _ (S : Setting) where
  pub pair_at : (i : ℕ) → IsCopied S i → PairIs (shape_of S (volume_of S i)).level (the_place S i)
  pair_at i copied = at (shape_of S (volume_of S i)).level refl copied.copies
    where
      at : (level : Option Level) → (shape_of S (volume_of S i)).level ≡ level → has_copies level ≡ true
          → PairIs level (the_place S i)
      at None is h = absurd cc
      at (Some One) is h =
          let lies = lies_at (shape_of S (volume_of S i)) One (sector_at S i) (the_place S i) is copied.placed in
          mirror_by (shape_of S (volume_of S i)).members lies.in_stripe lies.on_pair (the_place S i) lies.slots
      at (Some Five) is h = absurd cc
      at (Some Ten) is h =
          let lies = lies_at (shape_of S (volume_of S i)) Ten (sector_at S i) (the_place S i) is copied.placed in
          pair_by (shape_of S (volume_of S i)).members lies.in_stripe lies.on_pair (the_place S i) lies.slots

  -- ONE SECTOR A ROW

  is_copy : (level : Option Level) (p : Placement) (s : ℕ) → has_copies level ≡ true → InPair p s
      → has_copy level p s ≡ true
  is_copy None p s h pair = absurd cc
  is_copy (Some One) p s h pair = either pair
    where
      either : InPair p s → ((p.main == s) || (p.other == s)) ≡ true
      either (inl is) = let here : (p.main == s) ≡ true = grind (arith, nat_tests, is) in rw here refl
      either (inr is) = let here : (p.other == s) ≡ true = grind (arith, nat_tests, is) in
          subst (λ b. ((p.main == s) || b) ≡ true) (sym here) (or_true (p.main == s))
        where
          or_true : (b : Bool) → (b || true) ≡ true
          or_true true = refl
          or_true false = refl
  is_copy (Some Five) p s h pair = absurd cc
  is_copy (Some Ten) p s h pair = either pair
    where
      either : InPair p s → ((p.main == s) || (p.other == s)) ≡ true
      either (inl is) = let here : (p.main == s) ≡ true = grind (arith, nat_tests, is) in rw here refl
      either (inr is) = let here : (p.other == s) ≡ true = grind (arith, nat_tests, is) in
          subst (λ b. ((p.main == s) || b) ≡ true) (sym here) (or_true (p.main == s))
        where
          or_true : (b : Bool) → (b || true) ≡ true
          or_true true = refl
          or_true false = refl

  placed_in : (v i s : ℕ) → volume_of S i ≡ v → IsCopied S i → InPair (the_place S i) s
      → IsPlacedIn (shape_of S v) s (row_at S i) (sector_at S i)
  placed_in v i s volume copied pair = subst (λ w. IsPlacedIn (shape_of S w) s (row_at S i) (sector_at S i)) volume
      (record {
        lies = the_place S i;
        placed = copied.placed;
        copy = is_copy (shape_of S (volume_of S i)).level (the_place S i) s copied.copies pair;
        at_row = refl;
      })

  -- two operations whose sectors share a slot and a row name one sector
  pub one_sector_at : (i j s : ℕ) → IsCopied S i → IsCopied S j → volume_of S i ≡ volume_of S j
      → row_at S i ≡ row_at S j → InPair (the_place S i) s → InPair (the_place S j) s → sector_at S i ≡ sector_at S j
  one_sector_at i j s ci cj volume row pi pj =
      one_sector (shape_of S (volume_of S j)) s (row_at S j) (sector_at S i) (sector_at S j)
      (subst (λ r. IsPlacedIn (shape_of S (volume_of S j)) s r (sector_at S i)) row
      (placed_in (volume_of S j) i s volume ci pi))
      (placed_in (volume_of S j) j s refl cj pj)

  -- and one place
  pub one_place : (i j : ℕ) → volume_of S i ≡ volume_of S j → sector_at S i ≡ sector_at S j
      → the_place S i ≡ the_place S j
  one_place i j volume sector =
      ap (λ v. place_or (placement_of (shape_of S v) (sector_at S i))) volume
      ∙ ap (λ s. place_or (placement_of (shape_of S (volume_of S j)) s)) sector

  pub one_place_on : (i j : ℕ) → volume_of S i ≡ volume_of S j → sector_at S i ≡ sector_at S j
      → place_on S i ≡ place_on S j
  one_place_on i j volume sector =
      ap (λ v. (shape_of S v).pba + row_at S i) volume
      ∙ ap (λ (p : Placement). (shape_of S (volume_of S j)).pba + p.row) (one_place i j volume sector)

-- THE PAIR IN ORDER

pub in_pair : (p : Placement) (s : ℕ) → has s (pair_of p) ≡ true → InPair p s
in_pair p s h = at (nat_lt p.main p.other) h
  where
    at : (b : Bool) → has s (cond b (p.main ∷ p.other ∷ []) (p.other ∷ p.main ∷ [])) ≡ true → InPair p s
    at true h = by (p.main == s) (p.other == s) refl refl h
      where
        by : (a b : Bool) → (p.main == s) ≡ a → (p.other == s) ≡ b → (a || (b || false)) ≡ true → InPair p s
        by true b ea eb h = inl (grind (arith, nat_tests, ea))
        by false true ea eb h = inr (grind (arith, nat_tests, eb))
        by false false ea eb h = absurd cc
    at false h = by (p.main == s) (p.other == s) refl refl h
      where
        by : (a b : Bool) → (p.main == s) ≡ a → (p.other == s) ≡ b → (b || (a || false)) ≡ true → InPair p s
        by true b ea eb h = inl (grind (arith, nat_tests, ea))
        by false true ea eb h = inr (grind (arith, nat_tests, eb))
        by false false ea eb h = absurd cc

pub pair_has : (p : Placement) (s : ℕ) → InPair p s → has s (pair_of p) ≡ true
pair_has p s pair = at (nat_lt p.main p.other)
  where
    both : InPair p s → (((p.main == s) || ((p.other == s) || false)) ≡ true) × (((p.other == s) || ((p.main == s) || false)) ≡ true)
    both (inl is) = by (p.main == s) (p.other == s) (grind (arith, nat_tests, is))
      where
        by : (a b : Bool) → a ≡ true → ((a || (b || false)) ≡ true) × ((b || (a || false)) ≡ true)
        by true true e = (refl, refl)
        by true false e = (refl, refl)
        by false b e = absurd cc
    both (inr is) = by (p.main == s) (p.other == s) (grind (arith, nat_tests, is))
      where
        by : (a b : Bool) → b ≡ true → ((a || (b || false)) ≡ true) × ((b || (a || false)) ≡ true)
        by true true e = (refl, refl)
        by false true e = (refl, refl)
        by a false e = absurd cc

    at : (b : Bool) → has s (cond b (p.main ∷ p.other ∷ []) (p.other ∷ p.main ∷ [])) ≡ true
    at true = (both pair).0
    at false = (both pair).1

-- MEMBERS

-- a member that may be read has a disk without a fault, and is in sync
pub usable_is : (faults blocked : List ℕ) (slots : List Slot) (s : ℕ)
    → is_usable (member_at (members_of faults blocked slots) s) ≡ true
    → (d : ℕ) × (disk_in slots s ≡ Some d) × (has d faults ≡ false) × ((slot_at slots s).in_sync ≡ true)
usable_is faults blocked [] s h = absurd cc
usable_is faults blocked (x ∷ xs) zero h = at x.disk refl h
  where
    by : (a b : Bool) → (not a && b) ≡ true → (a ≡ false) × (b ≡ true)
    by true b h = absurd cc
    by false b h = (refl, h)

    at : (disk : Option ℕ) → x.disk ≡ disk
        → (option_map_or (λ d. not (has d faults)) disk false && x.in_sync) ≡ true
        → (d : ℕ) × (x.disk ≡ Some d) × (has d faults ≡ false) × (x.in_sync ≡ true)
    at None is h = absurd cc
    at (Some d) is h = let both = by (has d faults) x.in_sync h in (d, is, both.0, both.1)
usable_is faults blocked (x ∷ xs) (suc s) h = usable_is faults blocked xs s h

-- and the other way round
pub usable_by : (faults blocked : List ℕ) (slots : List Slot) (s d : ℕ) → disk_in slots s ≡ Some d
    → has d faults ≡ false → (slot_at slots s).in_sync ≡ true
    → is_usable (member_at (members_of faults blocked slots) s) ≡ true
usable_by faults blocked [] s d is works sync = absurd cc
usable_by faults blocked (x ∷ xs) zero d is works sync =
    subst (λ (o : Option ℕ). (option_map_or (λ e. not (has e faults)) o false && x.in_sync) ≡ true) (sym is)
    (rw (works, sync) refl)
usable_by faults blocked (x ∷ xs) (suc s) d is works sync = usable_by faults blocked xs s d is works sync

pub working_by : (faults blocked : List ℕ) (slots : List Slot) (s d : ℕ) → disk_in slots s ≡ Some d
    → has d faults ≡ false → (member_at (members_of faults blocked slots) s).working ≡ true
working_by faults blocked [] s d is works = absurd cc
working_by faults blocked (x ∷ xs) zero d is works =
    subst (λ (o : Option ℕ). option_map_or (λ e. not (has e faults)) o false ≡ true) (sym is) (rw works refl)
working_by faults blocked (x ∷ xs) (suc s) d is works = working_by faults blocked xs s d is works

pub working_is : (faults blocked : List ℕ) (slots : List Slot) (s : ℕ)
    → (member_at (members_of faults blocked slots) s).working ≡ true
    → (d : ℕ) × (disk_in slots s ≡ Some d) × (has d faults ≡ false)
working_is faults blocked [] s h = absurd cc
working_is faults blocked (x ∷ xs) zero h = at x.disk refl h
  where
    by : (a : Bool) → not a ≡ true → a ≡ false
    by true h = absurd cc
    by false h = refl

    at : (disk : Option ℕ) → x.disk ≡ disk → option_map_or (λ d. not (has d faults)) disk false ≡ true
        → (d : ℕ) × (x.disk ≡ Some d) × (has d faults ≡ false)
    at None is h = absurd cc
    at (Some d) is h = (d, is, by (has d faults) h)
working_is faults blocked (x ∷ xs) (suc s) h = working_is faults blocked xs s h

-- A VOLUME THAT RUNS

-- the slots that a volume of the level has at most
abbrev pub slots_for : Option Level → ℕ
slots_for None = 0
slots_for (Some One) = 2
slots_for (Some Five) = 0
slots_for (Some Ten) = 4

one_of_two : (ms : List Member) → length ms ≤ 2 → list_any (λ s. s) (map is_usable ms) ≡ true
    → (is_usable (member_at ms 0) ≡ true) ⊎ (is_usable (member_at ms 1) ≡ true)
one_of_two [] le h = absurd cc
one_of_two (a ∷ []) le h = by (is_usable a) h
  where
    by : (x : Bool) → (x || false) ≡ true → (x ≡ true) ⊎ (is_usable (member_at (a ∷ []) 1) ≡ true)
    by true h = inl refl
    by false h = absurd cc
one_of_two (a ∷ b ∷ []) le h = by (is_usable a) (is_usable b) h
  where
    by : (x y : Bool) → (x || (y || false)) ≡ true → (x ≡ true) ⊎ (y ≡ true)
    by true y h = inl refl
    by false true h = inr refl
    by false false h = absurd cc
one_of_two (a ∷ b ∷ c ∷ ms) le h = absurd (omega (arith, le))

both_parts : (a b : Bool) → (a && b) ≡ true → (a ≡ true) × (b ≡ true)
both_parts true b h = (refl, h)
both_parts false b h = absurd cc

first_two : (ms : List Member) → list_any (λ s. s) (take 2 (map is_usable ms)) ≡ true
    → (is_usable (member_at ms 0) ≡ true) ⊎ (is_usable (member_at ms 1) ≡ true)
first_two [] h = absurd cc
first_two (a ∷ []) h = one_of_two (a ∷ []) (omega arith) h
first_two (a ∷ b ∷ ms) h = one_of_two (a ∷ b ∷ []) (omega arith) h

next_two : (ms : List Member) → length ms ≤ 4 → list_any (λ s. s) (drop 2 (map is_usable ms)) ≡ true
    → (is_usable (member_at ms 2) ≡ true) ⊎ (is_usable (member_at ms 3) ≡ true)
next_two [] le h = absurd cc
next_two (a ∷ []) le h = absurd cc
next_two (a ∷ b ∷ ms) le h = one_of_two ms (omega (arith, le)) h

pub runs_with : (level : Option Level) (p : Placement) (ms : List Member) → has_copies level ≡ true → PairIs level p
    → length ms ≤ slots_for level → can_run level ms ≡ true
    → (s : ℕ) × InPair p s × (is_usable (member_at ms s) ≡ true)
runs_with None p ms h pair le run = absurd cc
runs_with (Some One) p ms h pair le run = at pair.which (one_of_two ms le run)
  where
    at : (pair.base ≡ 0) ⊎ ((pair.base ≡ 2) × (Some One ≡ Some Ten))
        → (is_usable (member_at ms 0) ≡ true) ⊎ (is_usable (member_at ms 1) ≡ true)
        → (s : ℕ) × InPair p s × (is_usable (member_at ms s) ≡ true)
    at (inl zero_is) (inl usable) = (0, inl (sym (pair.main ∙ zero_is)), usable)
    at (inl zero_is) (inr usable) = (1, inr (sym (pair.other ∙ ap (λ b. b + 1) zero_is)), usable)
    at (inr two_is) usable = absurd (let wrong = two_is.1 in cc wrong)
runs_with (Some Five) p ms h pair le run = absurd cc
runs_with (Some Ten) p ms h pair le run = at pair.which
  where
    both : (list_any (λ s. s) (take 2 (map is_usable ms)) ≡ true) × (list_any (λ s. s) (drop 2 (map is_usable ms)) ≡ true)
    both = both_parts _ _ run

    at : (pair.base ≡ 0) ⊎ ((pair.base ≡ 2) × (Some Ten ≡ Some Ten))
        → (s : ℕ) × InPair p s × (is_usable (member_at ms s) ≡ true)
    at (inl zero_is) = elim (first_two ms both.0) [
      | inl usable ↦ (0, inl (sym (pair.main ∙ zero_is)), usable)
      | inr usable ↦ (1, inr (sym (pair.other ∙ ap (λ b. b + 1) zero_is)), usable)
    ]
    at (inr two_is) = elim (next_two ms le both.1) [
      | inl usable ↦ (2, inl (sym (pair.main ∙ two_is.0)), usable)
      | inr usable ↦ (3, inr (sym (pair.other ∙ ap (λ b. b + 1) two_is.0)), usable)
    ]
