-- What a job plans to read can be read, unless the job was outrun.
use Rattle.std.proofs.Common.{◌≡◌, ◌≢◌, ℕ, zero, suc, ◌<◌, ◌≤◌, ◌==◌, ◌||◌, ◌&&◌, not, Bool, true, false, List, [], ◌∷◌, length, map, refl, ap, sym, ◌∙◌, subst, arith, Option, Some, None, ◌⊎◌, inl, inr, cond, eqb-true, eq-eqb}
use Rattle.std.specs.Prelude.{⊤, slice_get}
use Rattle.std.specs.List.{count_by, range_with_len}
use Rattle.std.specs.Option.{option_map_or}
use Rattle.std.proofs.lemmas.Bool.{and_parts}
use Rattle.std.proofs.lemmas.Bool.Decides.{nat_tests}
use Rattle.units.specs.declared.volume.Level.{Level}
use Rattle.units.specs.declared.volume.Level.TheVariants.{One, Five, Ten}
use Rattle.array_model.specs.Placement.{Shape, Placement}
use Rattle.array_machine.specs.Numbers.{has, without}
use Rattle.array_machine.specs.Volumes.{Slot, slot_at, same_disk, Member, is_usable, member_at, member_of, members_of, can_run}
use Rattle.array_machine.specs.Clients.{Row}
use Rattle.array_machine.specs.RowJobs.{seen_as, members_since, members_for, pair_of, others_of, usable_of, first_only, read_plan, write_plan, planned}
use Rattle.array_base.proofs.Targets.{or_cases, or_first, has_passes}
use Rattle.array_rest.specs.Jobs.{may_use, sees, IsOutrun}
use Rattle.array_rest.proofs.Failures.{filter_has}
use Rattle.array_rest.proofs.Parts.{member_is}
use Rattle.array_rest.proofs.RoundStands.{has_below}
use Rattle.array_rest.proofs.Runnable.{counted, passed_by}

-- a placement whose slots are there, at level five
abbrev pub IsInside : Option Level → Shape → Placement → Type 0
IsInside (Some Five) shape p = (p.main < shape.members) × (p.other < shape.members)
IsInside _ shape p = ⊤

-- MEMBERS AS A JOB SEES THEM

since_member : (ds : List (Option ℕ)) (faults blocked : List ℕ) (slots : List Slot) (s : ℕ)
    → member_at (members_since ds faults blocked slots) s
    ≡ seen_as (option_map_or (λ d. same_disk d (slot_at slots s).disk) (slice_get ds s) true)
    (member_of faults blocked (slot_at slots s))
since_member [] faults blocked slots s = member_is faults blocked slots s
since_member (d ∷ ds) faults blocked [] s =
    at (option_map_or (λ e. same_disk e (slot_at [] s).disk) (slice_get (d ∷ ds) s) true)
  where
    at : (b : Bool)
        → record { working = false; in_sync = false; blocked = false } ≡ seen_as b (member_of faults blocked (slot_at [] s))
    at true = refl
    at false = refl
since_member (d ∷ ds) faults blocked (x ∷ xs) zero = refl
since_member (d ∷ ds) faults blocked (x ∷ xs) (suc s) = since_member ds faults blocked xs s

-- the member of a slot, as a job sees it
pub seen_member : (r : Row) (faults blocked : List ℕ) (slots : List Slot) (s : ℕ)
    → member_at (members_for r faults blocked slots) s
    ≡ seen_as (sees r s (slot_at slots s)) (member_of faults blocked (slot_at slots s))
seen_member r faults blocked slots s = at r.begun
  where
    at : (b : Bool)
        → member_at (cond b (members_since r.disks faults blocked slots) (members_of faults blocked slots)) s
        ≡ seen_as
        (cond b (option_map_or (λ d. same_disk d (slot_at slots s).disk) (slice_get r.disks s) true) true)
        (member_of faults blocked (slot_at slots s))
    at true = since_member r.disks faults blocked slots s
    at false = member_is faults blocked slots s

-- A SLOT MORE THAT CAN'T BE USED

short_one : (ms : List Member) (a : ℕ) → a < length ms → is_usable (member_at ms a) ≡ false
    → 1 ≤ count_by not (map is_usable ms)
short_one [] a lt is = absurd (omega (arith, lt))
short_one (m ∷ ms) zero lt is =
    let counts = ap (λ b. count_by not (b ∷ map is_usable ms)) is ∙ counted (map is_usable ms) in
    omega (arith, counts)
short_one (m ∷ ms) (suc a) lt is = at (is_usable m) (short_one ms a (omega (arith, lt)) is)
  where
    at : (b : Bool) → 1 ≤ count_by not (map is_usable ms) → 1 ≤ count_by not (b ∷ map is_usable ms)
    at true le = let same = passed_by (map is_usable ms) in omega (arith, le, same)
    at false le = let same = counted (map is_usable ms) in omega (arith, same)

short_two : (ms : List Member) (a b : ℕ) → a ≢ b → a < length ms → b < length ms
    → is_usable (member_at ms a) ≡ false → is_usable (member_at ms b) ≡ false
    → 2 ≤ count_by not (map is_usable ms)
short_two [] a b differ lt more is other = absurd (omega (arith, lt))
short_two (m ∷ ms) zero zero differ lt more is other = absurd (differ refl)
short_two (m ∷ ms) zero (suc b) differ lt more is other =
    let counts = ap (λ y. count_by not (y ∷ map is_usable ms)) is ∙ counted (map is_usable ms) in
    let one = short_one ms b (omega (arith, more)) other in
    omega (arith, counts, one)
short_two (m ∷ ms) (suc a) zero differ lt more is other =
    let counts = ap (λ y. count_by not (y ∷ map is_usable ms)) other ∙ counted (map is_usable ms) in
    let one = short_one ms a (omega (arith, lt)) is in
    omega (arith, counts, one)
short_two (m ∷ ms) (suc a) (suc b) differ lt more is other =
    at (is_usable m)
    (short_two ms a b (λ same. differ (ap suc same)) (omega (arith, lt)) (omega (arith, more)) is other)
  where
    at : (y : Bool) → 2 ≤ count_by not (map is_usable ms) → 2 ≤ count_by not (y ∷ map is_usable ms)
    at true le = let same = passed_by (map is_usable ms) in omega (arith, le, same)
    at false le = let same = counted (map is_usable ms) in omega (arith, le, same)

members_long : (faults blocked : List ℕ) (slots : List Slot) → length (members_of faults blocked slots) ≡ length slots
members_long faults blocked [] = refl
members_long faults blocked (x ∷ xs) = ap suc (members_long faults blocked xs)

module _ (faults blocked : List ℕ) (slots : List Slot) where
  -- with one slot that can't be used each other can, where all but one are
  pub others_may : (a b : ℕ) → can_run (Some Five) (members_of faults [] slots) ≡ true → a ≢ b → a < length slots
      → b < length slots → may_use faults slots a ≡ false → may_use faults slots b ≡ true
  others_may a b able differ lt more is = at (may_use faults slots b) refl
    where
      ms : List Member
      ms = members_of faults [] slots

      at : (y : Bool) → may_use faults slots b ≡ y → may_use faults slots b ≡ true
      at true may = may
      at false never =
          let long = members_long faults [] slots in
          let two = short_two ms a b differ (omega (arith, lt, long)) (omega (arith, more, long))
          (ap is_usable (member_is faults [] slots a) ∙ is) (ap is_usable (member_is faults [] slots b) ∙ never) in
          let few : count_by not (map is_usable ms) ≤ 1 = grind (arith, nat_tests, able) in
          absurd (omega (arith, two, few))

  module _ (r : Row) where
    abbrev view : List Member
    view = members_for r faults blocked slots

    -- what the job sees as usable is, and what is usable and isn't seen so has outrun it
    pub view_may : (s : ℕ) → is_usable (member_at view s) ≡ true → may_use faults slots s ≡ true
    view_may s is = at (sees r s (slot_at slots s)) (sym (ap is_usable (seen_member r faults blocked slots s)) ∙ is)
      where
        at : (b : Bool) → is_usable (seen_as b (member_of faults blocked (slot_at slots s))) ≡ true
            → may_use faults slots s ≡ true
        at true h = h
        at false h = absurd (cc h)

    view_less : (s : ℕ) → is_usable (member_at view s) ≡ false → may_use faults slots s ≡ true
        → IsOutrun faults slots r
    view_less s is may =
        at r.begun refl (sees r s (slot_at slots s)) refl
        (sym (ap is_usable (seen_member r faults blocked slots s)) ∙ is)
      where
        at : (begun : Bool) → r.begun ≡ begun → (b : Bool) → sees r s (slot_at slots s) ≡ b
            → is_usable (seen_as b (member_of faults blocked (slot_at slots s))) ≡ false → IsOutrun faults slots r
        at begun has_begun true seen h = absurd (cc (h, may))
        at true has_begun false seen h = record { slot = s; may = may; begun = has_begun; unseen = seen }
        at false has_begun false seen h =
            absurd (let all : sees r s (slot_at slots s) ≡ true = ap (λ b. cond b (option_map_or (λ d. same_disk d (slot_at slots s).disk) (slice_get r.disks s) true) true) has_begun in cc (all, seen))

    -- PLANS

    abbrev MayRead : ℕ → Type 0
    MayRead s = (may_use faults slots s ≡ true) ⊎ IsOutrun faults slots r

    first_may : (ss : List ℕ) (s : ℕ) → has s (first_only (usable_of view ss)) ≡ true → MayRead s
    first_may ss s is =
        inl (view_may s (has_passes (λ t. is_usable (member_at view t)) ss s (first_has (usable_of view ss) is)))
      where
        first_has : (xs : List ℕ) → has s (first_only xs) ≡ true → has s xs ≡ true
        first_has [] h = absurd (cc h)
        first_has (x ∷ xs) h = elim (or_cases (x == s) false h) [
          | inl here ↦ or_first (x == s) (has s xs) here
          | inr none ↦ absurd (cc none)
        ]

    module _ (shape : Shape) (p : Placement) (able : can_run (Some Five) (members_of faults [] slots) ≡ true)
        (count : length slots ≡ shape.members) (inside : p.main < shape.members) where
      other_parts : (s : ℕ) → has s (others_of shape p.main) ≡ true → (p.main ≢ s) × (s < length slots)
      other_parts s is = (
        λ same.
            let passes = has_passes (λ e. not (e == p.main)) (range_with_len 0 shape.members) s is in
            let yes : (s == p.main) ≡ true = eq-eqb s p.main (sym same) in
            cc (passes, yes),
        let lt = has_below 0 shape.members s (filter_has (λ e. not (e == p.main)) (range_with_len 0 shape.members) s is) in
            omega (arith, lt, count),
      )

      -- the main slot can't be used: the others can
      main_gone : (s : ℕ) → is_usable (member_at view p.main) ≡ false → has s (others_of shape p.main) ≡ true
          → MayRead s
      main_gone s gone is = at (may_use faults slots p.main) refl
        where
          at : (b : Bool) → may_use faults slots p.main ≡ b → MayRead s
          at true may = inr (view_less p.main gone may)
          at false none =
              let parts = other_parts s is in
              inl (others_may p.main s able parts.0 (omega (arith, inside, count)) parts.1 none)

      five_read : (s : ℕ) → has s (read_plan (Some Five) shape p view) ≡ true → MayRead s
      five_read s = at (is_usable (member_at view p.main)) refl
        where
          at : (b : Bool) → is_usable (member_at view p.main) ≡ b
              → has s (cond b (p.main ∷ []) (others_of shape p.main)) ≡ true → MayRead s
          at true usable is = elim (or_cases (p.main == s) false is) [
            | inl here ↦
                inl (subst (λ t. may_use faults slots t ≡ true) (eqb-true p.main s here) (view_may p.main usable))
            | inr none ↦ absurd (cc none)
          ]
          at false gone is = main_gone s gone is

      pair_has : (s : ℕ) → has s (pair_of p) ≡ true → (p.main ≡ s) ⊎ (p.other ≡ s)
      pair_has s = at _
        where
          two : (a b : ℕ) → ((a == s) || ((b == s) || false)) ≡ true → (a ≡ s) ⊎ (b ≡ s)
          two a b is = elim (or_cases (a == s) ((b == s) || false) is) [
            | inl here ↦ inl (eqb-true a s here)
            | inr there ↦ elim (or_cases (b == s) false there) [
              | inl here ↦ inr (eqb-true b s here)
              | inr none ↦ absurd (cc none)
            ]
          ]

          at : (less : Bool) → has s (cond less (p.main ∷ p.other ∷ []) (p.other ∷ p.main ∷ [])) ≡ true
              → (p.main ≡ s) ⊎ (p.other ≡ s)
          at true is = two p.main p.other is
          at false is = elim (two p.other p.main is) [ inl here ↦ inr here | inr there ↦ inl there ]

      -- all other data: neither the main slot nor that of the parity
      rest_may : (s : ℕ) → (is_usable (member_at view p.main) && is_usable (member_at view p.other)) ≡ false
          → has s (without p.other (others_of shape p.main)) ≡ true → p.other < shape.members → MayRead s
      rest_may s gone is below =
          at (is_usable (member_at view p.main)) (is_usable (member_at view p.other)) refl refl gone
        where
          others : has s (others_of shape p.main) ≡ true
          others = filter_has (λ e. not (e == p.other)) (others_of shape p.main) s is

          apart : p.other ≢ s
          apart same =
              let passes = has_passes (λ e. not (e == p.other)) (others_of shape p.main) s is in
              let yes : (s == p.other) ≡ true = eq-eqb s p.other (sym same) in
              cc (passes, yes)

          second : (b : Bool) → may_use faults slots p.other ≡ b → is_usable (member_at view p.other) ≡ false → MayRead s
          second true may none = inr (view_less p.other none may)
          second false never none =
              inl (others_may p.other s able apart (omega (arith, below, count)) (other_parts s others).1 never)

          at : (a b : Bool) → is_usable (member_at view p.main) ≡ a → is_usable (member_at view p.other) ≡ b
              → (a && b) ≡ false → MayRead s
          at false b main other h = main_gone s main others
          at true false main other h = second (may_use faults slots p.other) refl other
          at true true main other h = absurd (cc h)

      five_write : (s : ℕ) → p.other < shape.members → has s (write_plan (Some Five) shape p view) ≡ true → MayRead s
      five_write s below =
          at (is_usable (member_at view p.main) && is_usable (member_at view p.other)) refl
          (member_at view p.other).working
        where
          at : (both : Bool) → (is_usable (member_at view p.main) && is_usable (member_at view p.other)) ≡ both
              → (works : Bool)
              → has s
              (cond both (pair_of p) (cond works (without p.other (others_of shape p.main)) []))
              ≡ true
              → MayRead s
          at true is works h =
              let parts = and_parts (is_usable (member_at view p.main)) (is_usable (member_at view p.other)) is in
              elim (pair_has s h) [
                | inl main ↦ inl (subst (λ t. may_use faults slots t ≡ true) main (view_may p.main parts.0))
                | inr other ↦ inl (subst (λ t. may_use faults slots t ≡ true) other (view_may p.other parts.1))
              ]
          at false is true h = rest_may s is h below
          at false is false h = absurd (cc h)

    pub planned_may : (level : Option Level) (shape : Shape) (p : Placement) (writes : Bool) → shape.level ≡ level
        → can_run level (members_of faults [] slots) ≡ true → length slots ≡ shape.members → IsInside level shape p
        → (s : ℕ) → has s (planned shape p writes view) ≡ true → MayRead s
    planned_may None shape p writes is able count inside s h = absurd (cc able)
    planned_may (Some One) shape p false is able count inside s h =
        first_may (pair_of p) s (sym (ap (λ l. has s (read_plan l shape p view)) is) ∙ h)
    planned_may (Some Ten) shape p false is able count inside s h =
        first_may (pair_of p) s (sym (ap (λ l. has s (read_plan l shape p view)) is) ∙ h)
    planned_may (Some Five) shape p false is able count inside s h =
        five_read shape p able count inside.0 s (sym (ap (λ l. has s (read_plan l shape p view)) is) ∙ h)
    planned_may (Some One) shape p true is able count inside s h =
        absurd (let none = sym (ap (λ l. has s (write_plan l shape p view)) is) ∙ h in cc none)
    planned_may (Some Ten) shape p true is able count inside s h =
        absurd (let none = sym (ap (λ l. has s (write_plan l shape p view)) is) ∙ h in cc none)
    planned_may (Some Five) shape p true is able count inside s h =
        five_write shape p able count inside.0 s inside.1 (sym (ap (λ l. has s (write_plan l shape p view)) is) ∙ h)
