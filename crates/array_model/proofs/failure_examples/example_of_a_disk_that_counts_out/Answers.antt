use Rattle.std.proofs.Common.{◌≡◌, ℕ, zero, suc, Bool, true, false, [], ◌∷◌, refl, sym, ap, subst, arith, ◌⊎◌, inl, inr, Some}
use Rattle.std.specs.Prelude.{slice_get, slice_index}
use Rattle.std.proofs.lemmas.Bool.Decides.{nat_tests}
use Rattle.array_model.specs.Blocks.{Laid, SlotWords}
use Rattle.array_model.specs.Rounds.{IsRound}
use Rattle.array_model.specs.FailureLaw.{KeepsMembers, does_count_out}
use Rattle.array_model.specs.Small.{small_start, small_words, small_disks, small_expects, small_slot}
use Rattle.array_model.specs.SmallFailures.{counting_start, rebuilding_log, with_fourth, rebuilding_slots, second_slot}
use Rattle.array_model.proofs.Written.{written_passes}
use Rattle.array_model.proofs.SmallKeeps.{keeps_small}
use Rattle.array_model.proofs.failure_examples.example_of_a_disk_that_counts_out.Goals as goal

round_passes : (P : Laid → Bool) (m : Laid) → P (record { anchor = with_fourth 2 66; extended = [] }) ≡ true → IsRound counting_start rebuilding_log 0 2 m → P m ≡ true
round_passes P m passes round = written_passes small_words small_disks (λ s. refl) P round.disk rebuilding_log m (rw passes refl) round.written

-- the first slot stays in sync, the second is of the disk that counts out
slot_stays : (m : Laid) → small_expects m (65 ∷ []) ≡ true → (slot : ℕ) (before : SlotWords) → slice_get (rebuilding_slots small_start.newest 0) slot ≡ Some before
    → ((after : SlotWords) × (slice_get (rebuilding_slots m 0) slot ≡ Some after) × (after.is_in_sync ≡ true)) ⊎ (does_count_out counting_start before.serial ≡ true)
slot_stays m first zero before there = inl (small_slot m 0 (65 ∷ []), refl, first)
slot_stays m first (suc zero) before there =
    let is : second_slot small_start.newest ≡ before = cc there in
    inr (subst (λ (s : SlotWords). does_count_out counting_start s.serial ≡ true) is refl)
slot_stays m first (suc (suc slot)) before there = absurd cc

keeps : (m : Laid) → IsRound counting_start rebuilding_log 0 2 m → KeepsMembers counting_start [] small_start.newest m
keeps m round =
    let first : small_expects m (65 ∷ []) ≡ true = round_passes (λ m. small_expects m (65 ∷ [])) m refl round in
    let members = keeps_small [] small_start.newest m (inl first) (inl (round_passes (λ m. small_expects m (66 ∷ [])) m refl round)) in
    record {
      expected = members.expected;
      in_sync = λ v slot before supported there sync.
          let zero_is : 0 ≡ v = grind (arith, nat_tests, supported) in
          let moved = subst (λ w. slice_get (rebuilding_slots small_start.newest w) slot ≡ Some before) (sym zero_is) there in
          elim (slot_stays m first slot before moved) [
            | inl after ↦ inl (after.0, subst (λ w. slice_get (rebuilding_slots m w) slot ≡ Some after.0) zero_is after.1, after.2)
            | inr out ↦ inr (inr (refl, out))
          ];
    }

pub returns-clause-meets : goal.returns-clause-meets
returns-clause-meets c = record {
  acks = search;
  calls = ((λ bad early. absurd cc), ((λ bad early. absurd cc), tt));
  keeps = ((λ m last round finished. subst (λ z. KeepsMembers counting_start [] z m) (sym finished) (keeps m round)), (tt, tt));
  units = ((λ v since m none. absurd cc), (tt, tt));
}

pub returns-clause-belated : goal.returns-clause-belated
returns-clause-belated c law =
    let before : Laid = record { anchor = with_fourth 2 0; extended = [] } in
    let after : Laid = record { anchor = with_fourth 3 66; extended = [] } in
    let kept = law.keeps.1.1.0 after before (record { disk = 0; written = inl refl; generation = refl; container = refl })
    (0, refl, record { disk = 0; written = inl refl; generation = refl; container = refl }) in
    elim (kept.in_sync 0 1 (second_slot before) refl refl refl) [
      | inl in_sync ↦ (
          let same : second_slot after ≡ in_sync.0 = cc in_sync.1 in
          let sync : false ≡ true = subst (λ (words : SlotWords). words.is_in_sync ≡ true) (sym same) in_sync.2 in
          cc sync
          )
      | inr (inl lost) ↦ (let none : false ≡ true = lost in cc none)
      | inr (inr out) ↦ (
          let generation : 2 ≡ 1 = ap (λ (m : Laid). slice_index m.anchor.0 0) out.0 in
          cc generation
          )
    ]
