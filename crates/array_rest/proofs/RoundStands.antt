-- Targets that are left behind a call that went through, and behind a failure.
use Rattle.std.proofs.Common.{◌≡◌, ℕ, zero, suc, ◌+◌, ◌<◌, ◌==◌, ◌||◌, not, nat_lt, Bool, true, false, List, [], ◌∷◌, refl, ap, sym, ◌∙◌, subst, arith, inl, inr, cond, eqb-true, eq-eqb}
use Rattle.std.specs.List.{range_with_len}
use Rattle.array_model.specs.Blocks.{Laid}
use Rattle.array_machine.specs.Setting.{Setting}
use Rattle.array_machine.specs.Numbers.{has, without}
use Rattle.array_machine.specs.Rounds.{Step, AtExtended, AtAnchor, AtSync, Aim, OfRound, OfSpare, Phase, Rest, Going, Round, expects, on_with, stepped, dropped}
use Rattle.array_machine.specs.Faults.{fault_base, blocked_with, round_without}
use Rattle.array_base.specs.Base.{ledger, IsTrusted, is_left}
use Rattle.array_base.proofs.Fallen.{trusted_less}
use Rattle.array_base.proofs.Targets.{or_cases, or_first, or_second, has_other, has_less, has_passes, and_not}
use Rattle.array_rest.specs.Between.{is_callable}
use Rattle.array_rest.specs.Round.{TargetsStand, PhaseStands, RoundReaches, IsOfRound, RoundStands}
use Rattle.array_rest.proofs.Turns.{lives_without}

-- a number in a range is below its end
pub has_below : (from count d : ℕ) → has d (range_with_len from count) ≡ true → d < from + count
has_below from zero d h = absurd (cc h)
has_below from (suc n) d h = elim (or_cases (from == d) (has d (range_with_len (from + 1) n)) h) [
  | inl here ↦ let same = eqb-true from d here in omega (arith, same)
  | inr later ↦ let lt = has_below (from + 1) n d later in omega (arith, lt)
]

module _ (S : Setting) where
  -- TARGETS

  -- fewer targets stand as well
  fewer : (faults left left' late late' : List ℕ) (done : Bool) → TargetsStand S faults left late done
      → ((d : ℕ) → has d left' ≡ true → has d left ≡ true) → ((d : ℕ) → has d late' ≡ true → has d late ≡ true)
      → (d : ℕ) → is_left S left' late' d ≡ true → is_callable S faults d ≡ true
  fewer faults left left' late late' done h front back d is = h.callable d (elim (or_cases (has d left') (has d late') is) [
    | inl here ↦ or_first (has d left) (has d late) (front d here)
    | inr there ↦ or_second (has d left) (has d late) (back d there)
  ])

  -- on with these targets
  pub phase_on : (faults : List ℕ) (aim : Aim) (m : Laid) (left late : List ℕ) (done : Bool)
      → ((d : ℕ) → is_left S left late d ≡ true → is_callable S faults d ≡ true)
      → PhaseStands S faults (on_with aim m left late done)
  phase_on faults aim m [] late true h = record {
    callable = λ d is. elim (or_cases (has d late) false is) [
      | inl here ↦ h d here
      | inr none ↦ absurd (cc none)
    ];
    in_turn = λ none done. refl;
  }
  phase_on faults aim m [] late false h = record { callable = h; in_turn = λ none done. absurd cc }
  phase_on faults aim m (d ∷ ds) late done h = record { callable = h; in_turn = λ none done. absurd cc }

  pub reaches_on : (r : Round) (aim : Aim) (m : Laid) (left late : List ℕ) (done : Bool)
      → (done ≡ false → (d : ℕ) → IsTrusted S (ledger r) d → has d left ≡ true)
      → RoundReaches S r (on_with aim m left late done)
  reaches_on r (OfSpare x) m [] late true h = tt
  reaches_on r (OfSpare x) m [] late false h = tt
  reaches_on r (OfSpare x) m (d ∷ ds) late done h = tt
  reaches_on r OfRound m [] late true h = tt
  reaches_on r OfRound m [] late false h = h refl
  reaches_on r OfRound m (d ∷ ds) late true h = tt
  reaches_on r OfRound m (d ∷ ds) late false h = h refl

  spare_on : (r : Round) (x : ℕ) (m : Laid) (left late : List ℕ) (done : Bool)
      → RoundReaches S r (on_with (OfSpare x) m left late done)
  spare_on r x m [] late true = tt
  spare_on r x m [] late false = tt
  spare_on r x m (d ∷ ds) late done = tt

  pub of_round_on : (m : Laid) (left late : List ℕ) (done : Bool) → IsOfRound S (on_with OfRound m left late done)
  of_round_on m [] late true = tt
  of_round_on m [] late false = tt
  of_round_on m (d ∷ ds) late done = tt

  same_aim : (aim : Aim) (m : Laid) (step step' : Step) (left left' late late' : List ℕ) (done done' : Bool)
      → IsOfRound S (Going aim m step left late done) → IsOfRound S (Going aim m step' left' late' done')
  same_aim OfRound m step step' left left' late late' done done' is = tt
  same_aim (OfSpare x) m step step' left left' late late' done done' is = absurd is

  aim_on : (aim : Aim) (m : Laid) (step : Step) (left left' late late' : List ℕ) (done done' : Bool)
      → IsOfRound S (Going aim m step left late done) → IsOfRound S (on_with aim m left' late' done')
  aim_on OfRound m step left left' late late' done done' is = of_round_on m left' late' done'
  aim_on (OfSpare x) m step left left' late late' done done' is = absurd is

  pub reaches_alike : (r r' : Round) → ((d : ℕ) → IsTrusted S (ledger r') d → IsTrusted S (ledger r) d)
      → (phase : Phase) → RoundReaches S r phase → RoundReaches S r' phase
  reaches_alike r r' same Rest h = tt
  reaches_alike r r' same (Going (OfSpare x) m step left late done) h = tt
  reaches_alike r r' same (Going OfRound m step left late true) h = tt
  reaches_alike r r' same (Going OfRound m step left late false) h = λ d trusted. h d (same d trusted)

  -- A CALL WENT THROUGH

  pub phase_stepped : (faults : List ℕ) (phase : Phase) → PhaseStands S faults phase → PhaseStands S faults (stepped phase)
  phase_stepped faults Rest h = h
  phase_stepped faults (Going aim m step [] late done) h = h
  phase_stepped faults (Going aim m AtExtended (d ∷ ds) late done) h = record {
    callable = h.callable;
    in_turn = λ none done. absurd cc;
  }
  phase_stepped faults (Going aim m AtAnchor (d ∷ ds) late done) h = record {
    callable = h.callable;
    in_turn = λ none done. absurd cc;
  }
  phase_stepped faults (Going aim m AtSync (d ∷ ds) late done) h =
      phase_on faults aim m ds late true
      (fewer faults (d ∷ ds) ds late late done h (λ e is. or_second (d == e) (has e ds) is) (λ e is. is))

  pub reaches_stepped : (r : Round) (phase : Phase) → RoundReaches S r phase → RoundReaches S r (stepped phase)
  reaches_stepped r Rest h = h
  reaches_stepped r (Going aim m step [] late done) h = h
  reaches_stepped r (Going OfRound m AtExtended (d ∷ ds) late true) h = tt
  reaches_stepped r (Going OfRound m AtExtended (d ∷ ds) late false) h = h
  reaches_stepped r (Going OfRound m AtAnchor (d ∷ ds) late true) h = tt
  reaches_stepped r (Going OfRound m AtAnchor (d ∷ ds) late false) h = h
  reaches_stepped r (Going OfRound m AtSync (d ∷ ds) late done) h =
      reaches_on r OfRound m ds late true (λ bad. absurd cc)
  reaches_stepped r (Going (OfSpare x) m AtExtended (d ∷ ds) late done) h = tt
  reaches_stepped r (Going (OfSpare x) m AtAnchor (d ∷ ds) late done) h = tt
  reaches_stepped r (Going (OfSpare x) m AtSync (d ∷ ds) late done) h =
      reaches_on r (OfSpare x) m ds late true (λ bad. absurd cc)

  pub of_round_stepped : (phase : Phase) → IsOfRound S phase → IsOfRound S (stepped phase)
  of_round_stepped Rest is = absurd is
  of_round_stepped (Going aim m step [] late done) is = is
  of_round_stepped (Going aim m AtExtended (d ∷ ds) late done) is =
      same_aim aim m AtExtended AtAnchor (d ∷ ds) (d ∷ ds) late late done done is
  of_round_stepped (Going aim m AtAnchor (d ∷ ds) late done) is =
      same_aim aim m AtAnchor AtSync (d ∷ ds) (d ∷ ds) late late done done is
  of_round_stepped (Going aim m AtSync (d ∷ ds) late done) is =
      aim_on aim m AtSync (d ∷ ds) ds late late done true is

  -- A DISK FAILS

  -- a target that is left without the disk that failed may be called still
  callable_still : (d : ℕ) (faults ds : List ℕ) (e : ℕ) → has e (without d ds) ≡ true → is_callable S faults e ≡ true
      → is_callable S (d ∷ faults) e ≡ true
  callable_still d faults ds e is may =
      let other = not_first (d == e) refl in
      let parts = and_not (nat_lt e S.start.disks.count) (has e faults) may in
      rw (other, parts.0, parts.1) refl
    where
      not_first : (b : Bool) → (d == e) ≡ b → (d == e) ≡ false
      not_first false none = none
      not_first true same =
          let passes = has_passes (λ x. not (x == d)) ds e is in
          let eq : d ≡ e = eqb-true d e same in
          absurd (let bad = subst (λ x. not (x == d) ≡ true) (sym eq) passes in self d bad)
        where
          self : (d : ℕ) → not (d == d) ≡ true → ⊥
          self d h = let yes : (d == d) ≡ true = eq-eqb d d refl in cc (yes, h)

  phase_dropped : (d : ℕ) (faults : List ℕ) (phase : Phase) → PhaseStands S faults phase
      → PhaseStands S (d ∷ faults) (dropped d phase)
  phase_dropped d faults Rest h = tt
  phase_dropped d faults (Going aim m step [] late done) h = record {
    callable = λ e is. callable_still d faults late e is (h.callable e (has_less d e late is));
    in_turn = λ none is. ap (without d) (h.in_turn refl is);
  }
  phase_dropped d faults (Going aim m step (f ∷ fs) late done) h = at (f == d) refl
    where
      part : (left' : List ℕ) → ((e : ℕ) → has e left' ≡ true → is_callable S (d ∷ faults) e ≡ true) → (e : ℕ)
          → is_left S left' (without d late) e ≡ true → is_callable S (d ∷ faults) e ≡ true
      part left' front e is = elim (or_cases (has e left') (has e (without d late)) is) [
        | inl here ↦ front e here
        | inr there ↦ callable_still d faults late e there
            (h.callable e (or_second (has e (f ∷ fs)) (has e late) (has_less d e late there)))
      ]

      behind : (e : ℕ) → has e (without d fs) ≡ true → is_callable S (d ∷ faults) e ≡ true
      behind e is =
          callable_still d faults fs e is
          (h.callable e (or_first (has e (f ∷ fs)) (has e late) (or_second (f == e) (has e fs) (has_less d e fs is))))

      at : (b : Bool) → (f == d) ≡ b
          → PhaseStands S (d ∷ faults)
          (cond b (on_with aim m (without d fs) (without d late) done)
          (Going aim m step (f ∷ without d fs) (without d late) done))
      at true is = phase_on (d ∷ faults) aim m (without d fs) (without d late) done (part (without d fs) behind)
      at false is = record {
        callable = part (f ∷ without d fs) (λ e has_it. elim (or_cases (f == e) (has e (without d fs)) has_it) [
          | inl here ↦
              let same : f ≡ e = eqb-true f e here in
              subst (λ x. is_callable S (d ∷ faults) x ≡ true) same
              (callable_still d faults (f ∷ fs) f
              (let yes : (f == f) ≡ true = eq-eqb f f refl in rw (is, yes) refl)
              (h.callable f (let yes : (f == f) ≡ true = eq-eqb f f refl in rw yes refl)))
          | inr later ↦ behind e later
        ]);
        in_turn = λ none done. absurd cc;
      }

  reaches_left : (d : ℕ) (r : Round) (left left' : List ℕ)
      → ((e : ℕ) → (d == e) ≡ false → has e left ≡ true → has e left' ≡ true)
      → ((e : ℕ) → IsTrusted S (ledger r) e → has e left ≡ true) → (e : ℕ)
      → IsTrusted S (ledger (round_without S d r)) e → has e left' ≡ true
  reaches_left d r left left' stays h e trusted =
      let less = trusted_less S d (ledger r) e trusted in stays e less.0 (h e less.1)

  reaches_dropped : (d : ℕ) (r : Round) (phase : Phase) → RoundReaches S r phase
      → RoundReaches S (round_without S d r) (dropped d phase)
  reaches_dropped d r Rest h = tt
  reaches_dropped d r (Going (OfSpare x) m step [] late done) h = tt
  reaches_dropped d r (Going OfRound m step [] late true) h = tt
  reaches_dropped d r (Going OfRound m step [] late false) h = reaches_left d r [] [] (λ e other is. is) h
  reaches_dropped d r (Going (OfSpare x) m step (f ∷ fs) late done) h = at (f == d)
    where
      at : (b : Bool)
          → RoundReaches S (round_without S d r)
          (cond b (on_with (OfSpare x) m (without d fs) (without d late) done)
          (Going (OfSpare x) m step (f ∷ without d fs) (without d late) done))
      at true = spare_on (round_without S d r) x m (without d fs) (without d late) done
      at false = tt
  reaches_dropped d r (Going OfRound m step (f ∷ fs) late true) h = at (f == d)
    where
      at : (b : Bool)
          → RoundReaches S (round_without S d r)
          (cond b (on_with OfRound m (without d fs) (without d late) true)
          (Going OfRound m step (f ∷ without d fs) (without d late) true))
      at true =
          reaches_on (round_without S d r) OfRound m (without d fs) (without d late) true (λ bad. absurd cc)
      at false = tt
  reaches_dropped d r (Going OfRound m step (f ∷ fs) late false) h = at (f == d) refl
    where
      at : (b : Bool) → (f == d) ≡ b
          → RoundReaches S (round_without S d r)
          (cond b (on_with OfRound m (without d fs) (without d late) false)
          (Going OfRound m step (f ∷ without d fs) (without d late) false))
      at true is =
          reaches_on (round_without S d r) OfRound m (without d fs) (without d late) false (λ none.
          reaches_left d r (f ∷ fs) (without d fs) (λ e other has_it. elim (or_cases (f == e) (has e fs) has_it) [
            | inl here ↦
                absurd (let none = subst (λ x. (x == e) ≡ false) (sym (eqb-true f d is)) other in cc (none, here))
            | inr later ↦ has_other d e fs other ∙ later
          ]) h)
      at false is =
          reaches_left d r (f ∷ fs) (f ∷ without d fs) (λ e other has_it. elim (or_cases (f == e) (has e fs) has_it) [
            | inl here ↦ or_first (f == e) (has e (without d fs)) here
            | inr later ↦ or_second (f == e) (has e (without d fs)) (has_other d e fs other ∙ later)
          ]) h

  of_round_dropped : (d : ℕ) (phase : Phase) → IsOfRound S phase → IsOfRound S (dropped d phase)
  of_round_dropped d Rest is = absurd is
  of_round_dropped d (Going aim m step [] late done) is =
      same_aim aim m step step [] [] late (without d late) done done is
  of_round_dropped d (Going aim m step (f ∷ fs) late done) is = at (f == d)
    where
      at : (b : Bool)
          → IsOfRound S
          (cond b (on_with aim m (without d fs) (without d late) done)
          (Going aim m step (f ∷ without d fs) (without d late) done))
      at true = aim_on aim m step (f ∷ fs) (without d fs) late (without d late) done done is
      at false = same_aim aim m step step (f ∷ fs) (f ∷ without d fs) late (without d late) done done is

  blocked_less : (b : Bool) (d : ℕ) (blocked : List ℕ) (e : ℕ) → has e (blocked_with b d blocked) ≡ true
      → ((d == e) || has e blocked) ≡ true
  blocked_less true d blocked e is = is
  blocked_less false d blocked e is = or_second (d == e) (has e blocked) is

  pub fails_stand : (r : Round) (d : ℕ) → d < S.start.disks.count → RoundStands S r
      → RoundStands S (round_without S d r)
  fails_stand r d below h = record {
    there = λ e is. elim (or_cases (d == e) (has e r.faults) is) [
      | inl here ↦ subst (λ x. x < S.start.disks.count) (eqb-true d e here) below
      | inr later ↦ h.there e later
    ];
    blocked = λ e is. elim (or_cases (d == e) (has e r.blocked)
        (blocked_less (expects S (fault_base r) d) d r.blocked e is)) [
          | inl here ↦ or_first (d == e) (has e r.faults) here
          | inr later ↦ or_second (d == e) (has e r.faults) (h.blocked e later)
        ];
    phase = phase_dropped d r.faults r.phase h.phase;
    reaches = reaches_dropped d r r.phase h.reaches;
    begun = λ alive old. elim (h.begun (sym (lives_without d r.life) ∙ alive) old) [
      | inl ended ↦ inl ended
      | inr (inl goes) ↦ inr (inl (of_round_dropped d r.phase goes))
      | inr (inr none) ↦ inr (inr (λ e trusted. none e (trusted_less S d (ledger r) e trusted).1))
    ];
  }
