use Rattle.std.proofs.Common.{◌≡◌, ℕ, zero, suc, ◌+◌, ◌≤◌, true, false, List, [], ◌∷◌, take, refl, subst, sym, arith, inl, inr}
use Rattle.array_model.specs.declared.journal.Answer.TheVariants.{NoSpare}
use Rattle.array_model.specs.declared.journal.Entry.{Entry}
use Rattle.array_model.specs.Blocks.{Laid, SlotWords}
use Rattle.array_model.specs.AnswerLaw.{HasFailed, IsUsable, IsWithoutSpare, Serves}
use Rattle.array_model.specs.Small.{small_start, small_slot}
use Rattle.array_model.specs.SmallFailures.{spare_start, whole_script, answered}
use Rattle.array_model.proofs.SmallVolumes.{in_slot, in_order, not_broken}
use Rattle.array_model.proofs.failure_examples.example_of_no_spare.Goals as goal

abbrev newest : Laid
newest = (spare_start 0).newest

abbrev asked : List Entry
asked = take 1 (answered NoSpare)

second_failed : (sectors : ℕ) → HasFailed (spare_start sectors) newest 0 1
second_failed sectors = record { slot = 1; words = small_slot newest 1 (66 ∷ []); there = refl; same = refl; failed = refl }

-- the third disk has a sector too few
none_serves : (d : ℕ) → Serves (spare_start 1041) [] asked newest d → ⊥
none_serves zero s = let spare : false ≡ true = s.spare in cc spare
none_serves (suc zero) s = let spare : false ≡ true = s.spare in cc spare
none_serves (suc (suc zero)) s =
    let fits : 0 + 1024 + 18 ≤ 1041 = s.large.fits s.large.volume s.large.usable s.large.failed in
    omega (arith, fits)
none_serves (suc (suc (suc d))) s = omega (arith, s.there)

without_spare : IsWithoutSpare (spare_start 1041) whole_script [] asked newest 0
without_spare = record {
  index = 1;
  failed = second_failed 1041;
  idle = refl;
  settled = λ n posted. absurd cc;
  asks = omega arith;
  none = none_serves;
}

pub returns-clause-meets : goal.returns-clause-meets
returns-clause-meets c = record {
  order = in_order NoSpare;
  values = (tt, (tt, tt));
  reads = tt;
  whole = (tt, ((λ m finished. subst (λ (m : Laid). IsWithoutSpare (spare_start 1041) whole_script [] asked m 0) (sym finished) without_spare), tt));
}

-- one member is left, so the volume isn't broken
usable : IsUsable (spare_start 1042) [] asked 0
usable = record {
  started = refl;
  sound = not_broken (spare_start 1042) _ 0 refl refl refl (λ front torn. absurd (let five = torn.five in cc five));
}

-- the first slot hasn't failed
least : (v i : ℕ) → IsUsable (spare_start 1042) [] asked v → HasFailed (spare_start 1042) newest v i → 1 ≤ i
least v i usable h = elim (in_slot newest v h.slot h.words h.there) [
  | inl first ↦ absurd (
      let expected : true ≡ false = subst (λ (w : SlotWords). w.is_expected ≡ false) (sym first) h.failed in
      cc expected
      )
  | inr second ↦ (
      let one : 1 ≡ i = subst (λ (w : SlotWords). w.index ≡ i) (sym second) h.same in
      omega (arith, one)
      )
]

third_serves : Serves (spare_start 1042) [] asked newest 2
third_serves = record {
  there = omega arith;
  sound = refl;
  spare = refl;
  unknown = refl;
  large = record {
    index = 1;
    volume = 0;
    usable = usable;
    failed = second_failed 1042;
    least = least;
    fits = λ v usable failed. omega arith;
  };
  room = refl;
}

pub returns-clause-served : goal.returns-clause-served
returns-clause-served c law = (law.whole.1.0 newest refl).none 2 third_serves

pub returns-clause-sound : goal.returns-clause-sound
returns-clause-sound c law =
    let h = (law.whole.1.0 small_start.newest refl).failed in
    elim (in_slot small_start.newest 0 h.slot h.words h.there) [
      | inl first ↦ (
          let expected : true ≡ false = subst (λ (w : SlotWords). w.is_expected ≡ false) (sym first) h.failed in
          cc expected
          )
      | inr second ↦ (
          let expected : true ≡ false = subst (λ (w : SlotWords). w.is_expected ≡ false) (sym second) h.failed in
          cc expected
          )
    ]
