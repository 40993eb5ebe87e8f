use Rattle.std.proofs.Common.{◌≡◌, true, false, [], ◌∷◌, refl, subst, sym, ap, arith, inl, inr}
use Rattle.std.specs.Prelude.{slice_index}
use Rattle.array_model.specs.Blocks.{Laid, SlotWords}
use Rattle.array_model.specs.AnswerLaw.{HasRowAt, MayRead}
use Rattle.array_model.specs.Small.{small_slot, small_expects, gets}
use Rattle.array_model.specs.SmallFailures.{degraded_start}
use Rattle.array_model.proofs.SmallVolumes.{in_slot}
use Rattle.array_model.proofs.failure_examples.example_of_reads_in_sync.Goals as goal

row_five : HasRowAt degraded_start 0 5
row_five = record { started = refl; from = omega arith; until = omega arith }

read_five : MayRead degraded_start (gets 0 5 ∷ []) [] 0 0 5
read_five = record {
  sound = refl;
  in_sync = λ m finished. record {
    volume = 0;
    row = row_five;
    slot = 0;
    member = record { words = small_slot m 0 (65 ∷ []); there = refl; same = refl };
    in_sync = subst (λ (m : Laid). small_expects m (65 ∷ []) ≡ true) (sym finished) refl;
  };
}

pub returns-clause-meets : goal.returns-clause-meets
returns-clause-meets c = record {
  order = λ c. ([], refl);
  values = tt;
  reads = ((λ v row above. read_five), tt);
  whole = tt;
}

pub returns-clause-out_of_sync : goal.returns-clause-out_of_sync
returns-clause-out_of_sync c law =
    let newest = degraded_start.newest in
    let sync = (law.reads.0 0 row_five (omega arith)).in_sync newest refl in
    let words = sync.member.words in
    elim (in_slot newest sync.volume sync.slot words sync.member.there) [
      | inl first ↦ (
          let serial : 65 ∷ [] ≡ 66 ∷ [] = subst (λ (w : SlotWords). w.serial ≡ 66 ∷ []) (sym first) sync.member.same in
          let byte : 65 ≡ 66 = ap (λ xs. slice_index xs 0) serial in
          omega (arith, byte)
          )
      | inr second ↦ (
          let failed : false ≡ true = subst (λ (w : SlotWords). w.is_in_sync ≡ true) (sym second) sync.in_sync in
          cc failed
          )
    ]

pub returns-clause-faulty : goal.returns-clause-faulty
returns-clause-faulty c law =
    let sound : true ≡ false = (law.reads.0 0 row_five (omega arith)).sound in
    cc sound
