use Rattle.std.proofs.Common.{◌≡◌, ℕ, not, Bool, true, [], ◌∷◌, drop, refl, subst, arith}
use Rattle.std.proofs.lemmas.Bool.Decides.{nat_tests}
use Rattle.std.proofs.lemmas.Bool.{not-true}
use Rattle.array_model.specs.Blocks.{Laid}
use Rattle.array_model.specs.Candidates.{In, writes}
use Rattle.array_model.specs.Rounds.{IsFinished}
use Rattle.array_model.specs.AnswerLaw.{IsVolumeWhole}
use Rattle.array_model.specs.Renewal.{FitsGeneration}
use Rattle.array_model.specs.Small.{small_start, small_words, small_disks, small_expects, block, worked_log, worked_journal}
use Rattle.array_model.proofs.Written.{written_passes}
use Rattle.stage_machine.specs.Worked.{small_setting, the_turns}
use Rattle.rest_law.proofs.Durable.{durably_clean}
use Rattle.refused_runs.proofs.Runs.{world, form, kept, ends, has_room}
use Rattle.refused_runs.proofs.the_right_run_is_admitted.Goals as goal

fits : FitsGeneration (world the_turns).control.round.note
fits = omega arith

-- the block of the last round
last_passes : (P : Laid → Bool) (m : Laid) → P (record { anchor = block 4 0 0; extended = [] }) ≡ true → IsFinished small_start worked_log worked_journal m → P m ≡ true
last_passes P m passes (stamp, begun, round) =
    let at : stamp ≡ 13 = cc begun in
    written_passes small_words small_disks (λ s. refl) P round.disk (drop 13 worked_log) m (rw passes refl)
    (subst (λ z. In m (writes small_words small_disks round.disk (drop z worked_log))) at round.written)

whole : (m : Laid) → IsFinished small_start worked_log worked_journal m → (v : ℕ) → small_start.is_started v ≡ true → IsVolumeWhole small_start worked_journal m v
whole m finished v started =
    let first : 0 ≡ v = grind (arith, nat_tests, started) in
    subst (λ n. IsVolumeWhole small_start worked_journal m n) first (record {
      slots = (
        (last_passes (λ m. small_expects m (65 ∷ [])) m refl finished, refl),
        ((last_passes (λ m. small_expects m (66 ∷ [])) m refl finished, refl), tt),
      );
      idle = refl;
    })

pub returns : goal.returns
returns c =
    let opening = c.the_worked_setting_opens.ensures in
    let rest = c.the_worked_run_rests.ensures in
    record {
      form = form opening.asks opening.renews opening.stands opening.volume the_turns fits;
      counted = refl;
      kept = kept opening.asks opening.renews opening.stands opening.volume the_turns fits;
      answers = c.example_of_the_answer_law.ensures.meets;
      room = has_room 1048576 worked_journal (omega arith);
      ends = record {
        rests = c.example_of_the_rest.ensures.meets;
        clean = record {
          clean = λ m finished. not-true _ (last_passes (λ m. not (small_words.is_dirty m 0)) m refl finished);
          durable = durably_clean small_setting (world the_turns) opening.asks rest.can_end opening.renews opening.stands opening.volume fits rest.reached rest.went rest.rests;
          whole = whole;
        };
        went = ends opening.asks opening.renews opening.stands opening.volume the_turns fits;
      };
    }
