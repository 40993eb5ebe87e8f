use Rattle.std.proofs.Common.{◌≡◌, Bool, true, false, [], ◌∷◌, refl, sym, subst, inl, inr}
use Rattle.array_model.specs.Blocks.{Laid, SlotWords}
use Rattle.array_model.specs.Small.{small_start, small_words, small_disks, small_expects}
use Rattle.array_model.specs.SmallFailures.{degraded, dropping_log, with_fourth, second_slot}
use Rattle.array_model.proofs.Written.{written_passes}
use Rattle.array_model.proofs.SmallKeeps.{keeps_small}
use Rattle.array_model.proofs.failure_examples.example_of_a_round_that_keeps.Goals as goal

-- the round's block expects the first disk
abbrev first_expected : Laid → Bool
first_expected m = small_expects m (65 ∷ [])

pub returns-clause-meets : goal.returns-clause-meets
returns-clause-meets c = record {
  acks = search;
  calls = ((λ bad early. absurd cc), ((λ bad early. absurd cc), tt));
  keeps = (tt, ((λ m last round finished. keeps_small _ last m (inl (written_passes small_words small_disks (λ s. refl) first_expected round.disk dropping_log m refl round.written)) (inr refl)), (tt, tt)));
  units = (tt, ((λ v since m none. absurd cc), (tt, tt)));
}

pub returns-clause-member : goal.returns-clause-member
returns-clause-member c law =
    let dropped : Laid = record { anchor = degraded 2; extended = [] } in
    let kept = law.keeps.0 dropped small_start.newest (record { disk = 0; written = inl refl; generation = refl; container = refl }) refl in
    elim (kept.expected (66 ∷ []) refl) [
      | inl expected ↦ (let none : false ≡ true = expected in cc none)
      | inr lost ↦ (let none : false ≡ true = lost in cc none)
    ]

pub returns-clause-slot : goal.returns-clause-slot
returns-clause-slot c law =
    let rebuilt : Laid = record { anchor = with_fourth 2 66; extended = [] } in
    let kept = law.keeps.0 rebuilt small_start.newest (record { disk = 0; written = inl refl; generation = refl; container = refl }) refl in
    elim (kept.in_sync 0 1 (second_slot small_start.newest) refl refl refl) [
      | inl after ↦ (
          let same : second_slot rebuilt ≡ after.0 = cc after.1 in
          let sync : false ≡ true = subst (λ (words : SlotWords). words.is_in_sync ≡ true) (sym same) after.2 in
          cc sync
          )
      | inr (inl lost) ↦ (let none : false ≡ true = lost in cc none)
      | inr (inr out) ↦ (let none : false ≡ true = out.1 in cc none)
    ]
