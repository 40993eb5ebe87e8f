-- Between the beginning of a pass, or a takeover, and the next one a volume has at most so many points as its rows have
-- checkpoints: their units rise, each a multiple of eight or the first.
use Rattle.std.proofs.Common.{◌≡◌, ℕ, ◌+◌, ◌-◌, ◌*◌, ◌/◌, ◌%◌, ◌<◌, ◌≤◌, ◌==◌, Bool, true, false, cond, List, [], ◌∷◌, ◌++◌, refl, ap, sym, subst, arith, append_assoc, Option, Some, None, ◌⊎◌, inl, inr}
use Rattle.std.specs.Prelude.{⊤}
use Rattle.std.proofs.lemmas.Bool.Decides.{nat_tests}
use Rattle.units.specs.declared.bounds.TheConstants.{UNIT_ROWS}
use Rattle.array_model.specs.declared.journal.Entry.{Entry}
use Rattle.array_model.specs.declared.journal.Event.{Event}
use Rattle.array_model.specs.declared.journal.Event.TheVariants.{Pass, Point, Takeover}
use Rattle.array_model.specs.Script.{Asked}
use Rattle.array_model.specs.Events.{AtEachFrom, count, is_pass, is_takeover}
use Rattle.array_model.specs.Start.{Start}
use Rattle.array_model.specs.Counts.{first_at, first_from, point_at, point_from, IsPoint, IsPointOf, PassAfter, rounds_of_rows}
use Rattle.array_model.proofs.Journals.{count-append}
use Rattle.array_model.proofs.Steps.{number}
use Rattle.array_form.specs.Passes.{is_point}
use Rattle.array_form.proofs.Tallies.{more}

-- NUMBERS

-- one more
times_next : (r n : ℕ) → r * (n + 1) ≡ r * n + r
times_next r n = grind arith

-- a unit below the end lies in one of the checkpoints' parts
unit_below : (rows unit r : ℕ) → 128 * unit < rows → (rows + 1023) / 1024 ≤ r → unit / 8 + 1 ≤ r
unit_below rows unit r below le = omega (arith, below, le)

unit_rises : (u unit : ℕ) → u < unit → unit % 8 ≡ 0 → u / 8 + 1 ≤ unit / 8
unit_rises u unit lt whole = omega (arith, lt, whole)

-- ONE VOLUME

module _ (start : Start) (asked : Asked) (v r : ℕ) where
  abbrev pub rows : ℕ
  rows = (start.words.shape start.newest v).rows

  -- how many points may come still
  abbrev left : Option ℕ → Option ℕ → ℕ
  left None last = 0
  left (Some first) None = r
  left (Some first) (Some unit) = r - (unit / 8 + 1)

  -- by the first unit of its last pass, its last point, and how many points, passes and takeovers there are
  record Counted (first last : Option ℕ) (points passes takeovers : ℕ) : Type 0 where
    few : points + left first last ≤ r * (passes + takeovers)
    room : (f : ℕ) → first ≡ Some f → rounds_of_rows rows ≤ r
    since : (f u : ℕ) → first ≡ Some f → last ≡ Some u → f ≤ u

  -- what an entry owes
  abbrev Owes : Event → Option ℕ → Option ℕ → Type 0
  Owes (Pass w row) first last = (w.0 == v) ≡ true → rounds_of_rows rows ≤ r
  Owes (Point w unit) first last = (w.0 == v) ≡ true → IsPointOf rows first last unit
  Owes _ first last = ⊤

  abbrev After : Event → Option ℕ → Option ℕ → (points passes takeovers : ℕ) → Type 0
  After event first last points passes takeovers =
      Counted (first_at v first event) (point_at v last event) (points + number (is_point v event))
      (passes + number (is_pass v event)) (takeovers + number (is_takeover event))

  same_counts : (first last : Option ℕ) (points passes takeovers a b c : ℕ) → a ≡ points → b ≡ passes → c ≡ takeovers
      → Counted first last points passes takeovers → Counted first last a b c
  same_counts first last points passes takeovers a b c x y z had =
      subst (λ n. Counted first last n b c) (sym x)
      (subst (λ n. Counted first last points n c) (sym y)
      (subst (λ n. Counted first last points passes n) (sym z) had))

  one_point : (first last : Option ℕ) (unit points passes takeovers : ℕ) → IsPointOf rows first last unit
      → Counted first last points passes takeovers → Counted first (Some unit) (points + 1) (passes + 0) (takeovers + 0)
  one_point None last unit points passes takeovers is had = absurd is
  one_point (Some f) last unit points passes takeovers is had =
      same_counts (Some f) (Some unit) (points + 1) passes takeovers (points + 1) (passes + 0) (takeovers + 0) refl
      (omega arith) (omega arith) (record {
        few = at last is had.few had.since;
        room = had.room;
        since = λ g u first last.
            let same : f ≡ g = cc first in
            let here : unit ≡ u = cc last in
            let le = is.since in
            omega (arith, same, here, le);
      })
    where
      inside : unit / 8 + 1 ≤ r
      inside = unit_below rows unit r is.below (had.room f refl)

      at : (last : Option ℕ) → IsPoint rows f last unit
          → points + left (Some f) last ≤ r * (passes + takeovers)
          → ((g u : ℕ) → Some f ≡ Some g → last ≡ Some u → g ≤ u)
          → points + 1 + left (Some f) (Some unit) ≤ r * (passes + takeovers)
      at None is few since = let most = inside in omega (arith, few, most)
      at (Some u) is few since = rises is.step
        where
          rises : (unit % 8 ≡ 0) ⊎ (unit ≡ f) → points + 1 + left (Some f) (Some unit) ≤ r * (passes + takeovers)
          rises (inl whole) =
              let above = unit_rises u unit is.rises whole in
              let most = inside in
              omega (arith, few, above, most)
          rises (inr first) =
              let le = since f u refl refl in
              let lt = is.rises in
              absurd (omega (arith, le, lt, first))

  step : (event : Event) (first last : Option ℕ) (points passes takeovers : ℕ) → Owes event first last
      → Counted first last points passes takeovers → After event first last points passes takeovers
  step (Pass w row) first last points passes takeovers owes had = at (w.0 == v) owes
    where
      at : (b : Bool) → (b ≡ true → rounds_of_rows rows ≤ r)
          → Counted (cond b (Some (row / UNIT_ROWS)) first) (cond b None last) (points + 0) (passes + number b)
          (takeovers + 0)
      at false owes =
          same_counts first last points passes takeovers (points + 0) (passes + 0) (takeovers + 0) (omega arith)
          (omega arith) (omega arith) had
      at true owes = record {
        few =
            let few = had.few in
            let next = times_next r (passes + takeovers) in
            let same : passes + 1 + (takeovers + 0) ≡ passes + takeovers + 1 = omega arith in
            let all = ap (λ n. r * n) same in
            omega (arith, few, next, all);
        room = λ f is. owes refl;
        since = λ f u is last. absurd cc;
      }
  step (Point w unit) first last points passes takeovers owes had = at (w.0 == v) owes
    where
      at : (b : Bool) → (b ≡ true → IsPointOf rows first last unit)
          → Counted first (cond b (Some unit) last) (points + number b) (passes + 0) (takeovers + 0)
      at false owes =
          same_counts first last points passes takeovers (points + 0) (passes + 0) (takeovers + 0) (omega arith)
          (omega arith) (omega arith) had
      at true owes = one_point first last unit points passes takeovers (owes refl) had
  step Takeover first last points passes takeovers owes had = at first had
    where
      at : (first : Option ℕ) → Counted first last points passes takeovers
          → Counted first None (points + 0) (passes + 0) (takeovers + 1)
      at None had = record {
        few =
            let few = had.few in
            let next = times_next r (passes + takeovers) in
            let same : passes + 0 + (takeovers + 1) ≡ passes + takeovers + 1 = omega arith in
            let all = ap (λ n. r * n) same in
            omega (arith, few, next, all);
        room = λ f is. absurd cc;
        since = λ f u is last. absurd cc;
      }
      at (Some f) had = record {
        few =
            let few = had.few in
            let next = times_next r (passes + takeovers) in
            let same : passes + 0 + (takeovers + 1) ≡ passes + takeovers + 1 = omega arith in
            let all = ap (λ n. r * n) same in
            omega (arith, few, next, all);
        room = had.room;
        since = λ g u is last. absurd cc;
      }
  step _ first last points passes takeovers owes had =
      same_counts first last points passes takeovers (points + 0) (passes + 0) (takeovers + 0) (omega arith)
      (omega arith) (omega arith) had

  -- A JOURNAL

  abbrev AtFront : List Entry → Type 0
  AtFront front =
      Counted (first_from v None front) (point_from v None front) (count (is_point v) front) (count (is_pass v) front)
      (count is_takeover front)

  first_on : (first : Option ℕ) (front : List Entry) (e : Entry)
      → first_from v first (front ++ e ∷ []) ≡ first_at v (first_from v first front) e.event
  first_on first [] e = refl
  first_on first (x ∷ xs) e = first_on (first_at v first x.event) xs e

  point_on : (last : Option ℕ) (front : List Entry) (e : Entry)
      → point_from v last (front ++ e ∷ []) ≡ point_at v (point_from v last front) e.event
  point_on last [] e = refl
  point_on last (x ∷ xs) e = point_on (point_at v last x.event) xs e

  count_on : (test : Event → Bool) (front : List Entry) (e : Entry)
      → count test (front ++ e ∷ []) ≡ count test front + number (test e.event)
  count_on test front e =
      let both = count-append test front (e ∷ []) in
      let one = more test e [] in
      omega (arith, both, one)

  -- a pass of the volume has its room
  abbrev pub PassOwes : Event → Type 0
  PassOwes (Pass w row) = (w.0 == v) ≡ true → rounds_of_rows rows ≤ r
  PassOwes _ = ⊤

  owes_of : (front : List Entry) (event : Event) → PassAfter start asked front event → PassOwes event
      → Owes event (first_from v None front) (point_from v None front)
  owes_of front (Pass w row) after owes = owes
  owes_of front (Point w unit) after owes = λ here.
      let same : w.0 ≡ v = grind (arith, nat_tests, here) in
      subst (λ u. IsPointOf (start.words.shape start.newest u).rows (first_from u None front) (point_from u None front)
      unit) same after
  owes_of front _ after owes = tt

  one_on : (front : List Entry) (e : Entry) → PassAfter start asked front e.event → PassOwes e.event → AtFront front
      → AtFront (front ++ e ∷ [])
  one_on front e after owes had =
      let now = step e.event (first_from v None front) (point_from v None front) (count (is_point v) front)
      (count (is_pass v) front) (count is_takeover front) (owes_of front e.event after owes) had in
      subst (λ f. Counted f (point_from v None (front ++ e ∷ [])) (count (is_point v) (front ++ e ∷ []))
      (count (is_pass v) (front ++ e ∷ [])) (count is_takeover (front ++ e ∷ []))) (sym (first_on None front e))
      (subst (λ p. Counted (first_at v (first_from v None front) e.event) p (count (is_point v) (front ++ e ∷ []))
      (count (is_pass v) (front ++ e ∷ [])) (count is_takeover (front ++ e ∷ []))) (sym (point_on None front e))
      (same_counts (first_at v (first_from v None front) e.event) (point_at v (point_from v None front) e.event) _ _ _
      (count (is_point v) (front ++ e ∷ [])) (count (is_pass v) (front ++ e ∷ [])) (count is_takeover (front ++ e ∷ []))
      (count_on (is_point v) front e) (count_on (is_pass v) front e) (count_on is_takeover front e) now))

  all_on : (front rest : List Entry)
      → AtEachFrom (λ f e. PassAfter start asked f e.event × PassOwes e.event) front rest → AtFront front
      → AtFront (front ++ rest)
  all_on front [] law had = subst AtFront (nothing front) had
    where
      nothing : (xs : List Entry) → xs ≡ xs ++ []
      nothing [] = refl
      nothing (x ∷ xs) = ap (λ ys. x ∷ ys) (nothing xs)
  all_on front (e ∷ es) law had =
      subst AtFront (append_assoc front (e ∷ []) es)
      (all_on (front ++ e ∷ []) es law.1 (one_on front e law.0.0 law.0.1 had))

  -- a volume has so many points at most
  pub points_most : (journal : List Entry)
      → AtEachFrom (λ f e. PassAfter start asked f e.event × PassOwes e.event) [] journal
      → count (is_point v) journal ≤ r * (count (is_pass v) journal + count is_takeover journal)
  points_most journal law =
      let all = all_on [] journal law (record {
        few = omega arith;
        room = λ f is. absurd cc;
        since = λ f u is last. absurd cc;
      }) in
      let few = all.few in
      omega (arith, few)
