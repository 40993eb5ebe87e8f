use Rattle.std.proofs.Common.{◌≡◌, true, false, [], ◌∷◌, ◌++◌, take, List, refl, sym, subst, arith, Some, inl}
use Rattle.array_model.specs.Renewal.{FitsGeneration}
use Rattle.array_model.specs.FailureLaw.{EndsAtFailure}
use Rattle.stage_machine.specs.Machine.{Action, Monitors}
use Rattle.stage_machine.specs.Worked.{the_turns}
use Rattle.refused_runs.specs.Wrong.{unrecorded_log, failed_journal, short_journal}
use Rattle.refused_runs.proofs.Runs.{world, form, kept, ends, has_room}
use Rattle.refused_runs.proofs.right_stops_are_admitted.Goals as goal

-- until the write is acknowledged
abbrev short_turns : List Action
short_turns = take 32 the_turns

short_fits : FitsGeneration (world short_turns).control.round.note
short_fits = omega arith

pub returns-clause-full : goal.returns-clause-full
returns-clause-full c =
    let opening = c.the_worked_setting_opens.ensures in
    let keeps_form = form opening.asks opening.renews opening.stands opening.volume short_turns short_fits in
    let keeps_log = kept opening.asks opening.renews opening.stands opening.volume short_turns short_fits in
    record {
      form = keeps_form;
      counted = refl;
      kept = keeps_log;
      answers = record { order = keeps_form.order; values = search; reads = keeps_log.reads; whole = search };
      room = has_room 12 short_journal (omega arith);
      ends = record {
        spent = omega arith;
        works = λ rests. let unanswered : false ≡ true = rests.answered 1 (omega arith) in cc unanswered;
        went = ends opening.asks opening.renews opening.stands opening.volume short_turns short_fits;
      };
    }

-- until the last sync, which fails
abbrev failed_turns : List Action
failed_turns = take 51 the_turns ++ Monitors (record { went = false; stored = 0 }) ∷ []

failed_fits : FitsGeneration (world failed_turns).control.round.note
failed_fits = omega arith

pub returns-clause-member : goal.returns-clause-member
returns-clause-member c d is =
    let opening = c.the_worked_setting_opens.ensures in
    let keeps_form = form opening.asks opening.renews opening.stands opening.volume failed_turns failed_fits in
    let keeps_log = kept opening.asks opening.renews opening.stands opening.volume failed_turns failed_fits in
    record {
      form = keeps_form;
      counted = refl;
      kept = keeps_log;
      answers = record { order = keeps_form.order; values = search; reads = keeps_log.reads; whole = search };
      room = has_room 1048576 failed_journal (omega arith);
      ends = subst (λ n. EndsAtFailure unrecorded_log failed_journal (Some n)) (sym is)
          (ends opening.asks opening.renews opening.stands opening.volume failed_turns failed_fits);
    }
