use Rattle.std.proofs.Common.{◌≡◌, ℕ, ◌==◌, Bool, true, false, [], ◌∷◌, take, drop, refl, arith, subst}
use Rattle.array_model.specs.Blocks.{Laid}
use Rattle.array_model.specs.Events.{up_to}
use Rattle.array_model.specs.Candidates.{In, writes}
use Rattle.array_model.specs.Rounds.{IsFinished}
use Rattle.array_model.specs.AnswerLaw.{IsInOrder, MayRead}
use Rattle.array_model.specs.Small.{small_start, small_disks, small_words, small_expects, small_slot, write_and_read, worked_log, worked_journal}
use Rattle.array_model.proofs.Written.{written_passes}
use Rattle.array_model.proofs.examples.example_of_the_answer_law.Goals as goal

order : (c : ℕ) → IsInOrder write_and_read worked_journal c
order c = at (0 == c) refl
  where
    at : (b : Bool) → (0 == c) ≡ b → IsInOrder write_and_read worked_journal c
    at true is = ([], rw is refl)
    at false is = ([], rw is refl)

-- the block of the round that ended expects the first disk
first_expected : (m : Laid) → IsFinished small_start (take 12 worked_log) (up_to 12 worked_journal) m → small_expects m (65 ∷ []) ≡ true
first_expected m (stamp, begun, round) =
    let four : stamp ≡ 4 = cc begun in
    written_passes small_words small_disks (λ s. refl) (λ m. small_expects m (65 ∷ [])) round.disk (drop 4 (take 12 worked_log)) m refl (subst (λ z. In m (writes small_words small_disks round.disk (drop z (take 12 worked_log)))) four round.written)

read_five : MayRead small_start worked_log worked_journal 12 0 5
read_five = record {
  sound = refl;
  in_sync = λ m finished. record {
    volume = 0;
    row = record { started = refl; from = omega arith; until = omega arith };
    slot = 0;
    member = record { words = small_slot m 0 (65 ∷ []); there = refl; same = refl };
    in_sync = first_expected m finished;
  };
}

pub returns-clause-meets : goal.returns-clause-meets
returns-clause-meets c = record {
  order = order;
  values = search;
  reads = (tt, (tt, (tt, (tt, (tt, (tt, (tt, (tt, (tt, (tt, (tt, (tt, ((λ v row above. read_five), (tt, (tt, (tt, (tt, tt)))))))))))))))));
  whole = search;
}
