-- A round begins only with a target, and a target is a disk that is trusted.
use Rattle.std.proofs.Common.{◌≡◌, ℕ, zero, suc, ◌+◌, ◌<◌, ◌==◌, ◌||◌, ◌&&◌, not, Bool, true, false, List, [], ◌∷◌, filter, refl, ap, ◌∙◌, arith, cond, inl, inr, eqb-true}
use Rattle.std.specs.List.{list_any, range_with_len}
use Rattle.array_model.specs.Blocks.{Laid}
use Rattle.array_machine.specs.Numbers.{has}
use Rattle.array_machine.specs.Setting.{Setting}
use Rattle.array_machine.specs.Rounds.{OfRound, Round, GoesOn, expects, works, all_disks, is_late, is_target, targets, late_targets, has_target, on_with, ending}
use Rattle.array_machine.specs.Control.{Control}
use Rattle.array_machine.specs.Changes.{RoundBegins}
use Rattle.array_machine.specs.Puts.{put}
use Rattle.array_paths.specs.InTurn.{InTurn}
use Rattle.array_paths.specs.Comes.{Comes, begins}
use Rattle.array_base.specs.Premises.{MayBeBook, Premises}
use Rattle.array_base.specs.Base.{ledger, IsTrusted}
use Rattle.array_base.specs.Opening.{counts_out}
use Rattle.array_base.proofs.NextBlock.{next_expects}
use Rattle.array_base.proofs.Targets.{and_not, or_cases, or_first, or_second, or_neither, passes_has}

-- LISTS

-- one of some numbers that pass a test passes another
record Passes (test other : ℕ → Bool) (bound : ℕ) : Type 0 where
  number : ℕ
  is : test number ≡ true
  among : other number ≡ true
  below : number < bound

passes_any : (test other : ℕ → Bool) (a n : ℕ) → list_any test (filter other (range_with_len a n)) ≡ true
    → Passes test other (a + n)
passes_any test other a zero h = absurd cc
passes_any test other a (suc n) h = at (other a) refl h (passes_any test other (a + 1) n)
  where
    later : Passes test other (a + 1 + n) → Passes test other (a + suc n)
    later p = record {
      number = p.number;
      is = p.is;
      among = p.among;
      below = let lt = p.below in omega (arith, lt);
    }

    here : (b : Bool) → test a ≡ b → other a ≡ true
        → (b || list_any test (filter other (range_with_len (a + 1) n))) ≡ true
        → (list_any test (filter other (range_with_len (a + 1) n)) ≡ true → Passes test other (a + 1 + n))
        → Passes test other (a + suc n)
    here true is passes h more = record { number = a; is = is; among = passes; below = omega arith }
    here false is passes h more = later (more h)

    at : (b : Bool) → other a ≡ b
        → list_any test
        (cond b (a ∷ filter other (range_with_len (a + 1) n)) (filter other (range_with_len (a + 1) n)))
        ≡ true
        → (list_any test (filter other (range_with_len (a + 1) n)) ≡ true → Passes test other (a + 1 + n))
        → Passes test other (a + suc n)
    at true passes h more = here (test a) refl passes h more
    at false fails h more = later (more h)

-- a number among some that passes a test
pub any_has : (test : ℕ → Bool) (ds : List ℕ) (d : ℕ) → test d ≡ true → has d ds ≡ true → list_any test ds ≡ true
any_has test [] d is there = absurd cc
any_has test (e ∷ es) d is there = elim (or_cases (e == d) (has d es) there) [
  | inl here ↦ or_first (test e) (list_any test es) (ap test (eqb-true e d here) ∙ is)
  | inr later ↦ or_second (test e) (list_any test es) (any_has test es d is later)
]

module _ (S : Setting) where
  -- TARGETS

  -- a disk to which a round may be written at once: it works, it isn't late, and the book expects it
  pub record Target (r : Round) : Type 0 where
    pub disk : ℕ
    pub below : disk < S.start.disks.count
    pub expected : expects S r.last disk ≡ true
    pub sound : has disk r.faults ≡ false
    pub in_book : expects S r.book disk ≡ true
    pub in_time : is_late S r disk ≡ false

  pub a_target : (r : Round) → has_target S r ≡ true → Target r
  a_target r h =
      let p = passes_any (λ d. expects S r.book d && not (is_late S r d)) (works S r) 0 S.start.disks.count h in
      let mine = and_not (expects S r.book p.number) (is_late S r p.number) p.is in
      let work = and_not (expects S r.last p.number) (has p.number r.faults) p.among in
      record {
        disk = p.number;
        below = let lt = p.below in omega (arith, lt);
        expected = work.0;
        sound = work.1;
        in_book = mine.0;
        in_time = mine.1;
      }

  -- it is trusted
  pub target_trusted : (r : Round) (t : Target r) → IsTrusted S (ledger r) t.disk
  target_trusted r t =
      let out = (or_neither (not (expects S r.last t.disk)) (r.first && counts_out S t.disk) t.in_time).1 in
      let expected = t.expected in
      let sound = t.sound in
      rw (expected, sound, out) refl

  -- and a trusted disk that the book expects is a target
  pub trusted_target : (r : Round) (d : ℕ) → d < S.start.disks.count → expects S r.book d ≡ true
      → IsTrusted S (ledger r) d → has_target S r ≡ true
  trusted_target r d below in_book trusted =
      let outer = and_not (expects S r.last d && not (has d r.faults)) (r.first && counts_out S d) trusted in
      let inner = and_not (expects S r.last d) (has d r.faults) outer.0 in
      let does : works S r d ≡ true = outer.0 in
      let late : is_late S r d ≡ false = let a = inner.0 in let b = outer.1 in rw (a, b) refl in
      any_has (λ e. expects S r.book e && not (is_late S r e)) (filter (works S r) (all_disks S)) d
      (rw (in_book, late) refl) (passes_has (works S r) 0 S.start.disks.count d (omega arith) (omega (arith, below)) does)

  -- A ROUND THAT BEGINS

  -- its block is written to that disk
  pub begun_goes_on : (P : Premises S) (t : InTurn) (c : Control) → MayBeBook S P.edits.formed c.round.book → (m : Laid)
      → Comes S t c (RoundBegins m) → ending (put S (RoundBegins m) c).round.phase ≡ GoesOn
  begun_goes_on P t c book m (begins _ life rest target next) =
      let d = a_target c.round target in
      let expected = next_expects S P t c m next book d.disk d.sound d.in_book in
      let test = λ (e : ℕ). is_target S c.round m e && not (is_late S c.round e) in
      let passes : test d.disk ≡ true = let a = d.sound in let b = d.in_time in rw (expected, a, b) refl in
      at (targets S c.round m) d.disk
      (passes_has test 0 S.start.disks.count d.disk (omega arith) (let lt = d.below in omega (arith, lt)) passes)
    where
      at : (left : List ℕ) (d : ℕ) → has d left ≡ true
          → ending (on_with OfRound m left (late_targets S c.round m) false) ≡ GoesOn
      at [] d h = absurd (cc h)
      at (e ∷ es) d h = refl
