-- The disks that a round waits for: while none of its targets finished each disk that works and isn't late is left. So
-- behind a round that lapsed no other can begin.
use Rattle.std.proofs.Common.{◌≡◌, ℕ, zero, suc, ◌+◌, ◌<◌, ◌==◌, ◌&&◌, not, Bool, true, false, List, [], ◌∷◌, refl, ◌∙◌, arith, cond}
use Rattle.std.specs.Prelude.{filter}
use Rattle.std.specs.List.{list_any, range_with_len}
use Rattle.array_model.specs.Blocks.{Laid}
use Rattle.array_machine.specs.Setting.{Setting}
use Rattle.array_machine.specs.Numbers.{has, without}
use Rattle.array_machine.specs.Rounds.{Round, expects, works, is_late, is_target, targets, has_target}
use Rattle.array_machine.specs.Faults.{round_without}
use Rattle.array_base.proofs.Targets.{or_neither, has_other, passes_has, and_not}

-- a test that fails of all that work fails of each
none_works : (working test : ℕ → Bool) (from n : ℕ)
    → ((d : ℕ) → d < from + n → working d ≡ true → test d ≡ false)
    → list_any test (filter working (range_with_len from n)) ≡ false
none_works working test from zero each = refl
none_works working test from (suc n) each =
    at (working from) refl (none_works working test (from + 1) n (λ d lt is. each d (omega (arith, lt)) is))
  where
    at : (b : Bool) → working from ≡ b → list_any test (filter working (range_with_len (from + 1) n)) ≡ false
        → list_any test (cond b (from ∷ filter working (range_with_len (from + 1) n))
        (filter working (range_with_len (from + 1) n))) ≡ false
    at true is more = let first : test from ≡ false = each from (omega arith) is in rw (first, more) refl
    at false is more = more

module _ (S : Setting) where
  -- of a block: a disk that it expects, that isn't late and has no fault, is left
  abbrev pub AllLeft : Laid → Round → List ℕ → Type 0
  AllLeft book r left =
      (d : ℕ) → d < S.start.disks.count → expects S book d ≡ true → is_late S r d ≡ false
      → has d r.faults ≡ false → has d left ≡ true

  -- no round begins where none is
  pub none_begins : (r : Round) → AllLeft r.book r [] → has_target S r ≡ true → (X : Type 0) → X
  none_begins r none target X =
      let no : has_target S r ≡ false = none_works (works S r) (λ d. expects S r.book d && not (is_late S r d)) 0
      S.start.disks.count (λ d lt is. at d (omega (arith, lt)) (expects S r.book d) (is_late S r d) refl refl
      (and_not (expects S r.last d) (has d r.faults) is).1) in
      absurd (cc (no, target))
    where
      at : (d : ℕ) → d < S.start.disks.count → (a b : Bool) → expects S r.book d ≡ a → is_late S r d ≡ b
          → has d r.faults ≡ false → (a && not b) ≡ false
      at d lt false b is late sound = refl
      at d lt true true is late sound = refl
      at d lt true false is late sound = absurd (let bad : false ≡ true = none d lt is late sound in cc bad)

  -- at the begin
  pub left_at_begin : (r : Round) (m : Laid) → AllLeft m r (targets S r m)
  left_at_begin r m d lt is late sound =
      passes_has (λ e. is_target S r m e && not (is_late S r e)) 0 S.start.disks.count d (omega arith)
      (omega (arith, lt)) (both (expects S m d) (has d r.faults) (is_late S r d) is sound late)
    where
      both : (a b c : Bool) → a ≡ true → b ≡ false → c ≡ false → ((a && not b) && not c) ≡ true
      both true false false is sound late = refl
      both false b c is sound late = absurd cc
      both true true c is sound late = absurd cc
      both true false true is sound late = absurd cc

  -- a disk fails
  pub left_without : (d : ℕ) (m : Laid) (r : Round) (left : List ℕ) → AllLeft m r left
      → AllLeft m (round_without S d r) (without d left)
  left_without d m r left all e lt is late sound =
      let neither = or_neither (d == e) (has e r.faults) sound in
      has_other d e left neither.0 ∙ all e lt is late neither.1
