-- Runs of the machine over the small start keep the laws.
use Rattle.std.proofs.Common.{◌≡◌, ℕ, ◌+◌, ◌≤◌, false, List, [], ◌∷◌, ◌++◌, length, length-append, arith}
use Rattle.array_model.specs.declared.journal.Entry.{Entry}
use Rattle.array_model.specs.Events.{AtEachFrom}
use Rattle.array_model.specs.Room.{BeginsWithRoom, comes_second}
use Rattle.array_model.specs.FailureLaw.{EndsAtFailure}
use Rattle.array_model.specs.Renewal.{FitsGeneration}
use Rattle.array_model.specs.Small.{small_start, small_renew, the_script}
use Rattle.stage_machine.specs.Setting.{Renews}
use Rattle.stage_machine.specs.Opens.{AsksFirst, StandsOnAll, IsFirstVolume}
use Rattle.stage_machine.specs.Machine.{World, Action, Reached, opens, run, begins_at}
use Rattle.stage_machine.specs.Worked.{small_setting}
use Rattle.stage_machine.proofs.Failed.{ends_reached}
use Rattle.stage_machine.proofs.Finished.{fine_reached}
use Rattle.stage_machine.proofs.Ours.{ours_reached}
use Rattle.journal_law.proofs.Form.{is_journal}
use Rattle.gate_law.proofs.Gate.{gate_reached}
use Rattle.failure_law.proofs.Failures.{failures_reached}
use Rattle.round_law.proofs.Law.{round_reached}
use Rattle.round_law.proofs.Containers.{containers_reached}
use Rattle.round_law.proofs.Endings.{endings_reached}
use Rattle.round_law.proofs.Renewed.{renewed_reached}
use Rattle.answer_law.proofs.Order.{in_order}
use Rattle.answer_law.proofs.JobKinds.{reads_in_sync}
use Rattle.cause_law.proofs.Law.{caused_reached}
use Rattle.cause_law.proofs.Short.{short_reached}
use Rattle.call_law.proofs.Calls.{few_reached}
use Rattle.row_law.proofs.Answers.{answers_reached}
use Rattle.row_law.proofs.Causes.{causes_reached}
use Rattle.stage_law.specs.Laws.{KeepsForm, KeepsLog}
use Rattle.stage_machine.proofs.Moments.{reached_by}

abbrev pub world : List Action → World
world turns = run small_setting (begins_at small_setting) turns

-- what the laws take as given, and some turns
module _ (asks : AsksFirst small_setting) (renews : Renews small_setting) (on : StandsOnAll small_setting) (volume : IsFirstVolume small_setting)
    (turns : List Action) (fits : FitsGeneration (world turns).control.round.note) where
  reached : Reached small_setting (world turns)
  reached = reached_by small_setting (begins_at small_setting) opens turns

  pub form : KeepsForm small_start the_script (world turns).calls (world turns).journal
  form = record {
    form = is_journal small_setting asks renews on (world turns) fits reached;
    order = in_order small_setting asks (world turns) reached;
    causes = caused_reached small_setting asks renews on volume (world turns) fits reached;
    short = short_reached small_setting asks renews on (world turns) fits reached;
    few = few_reached small_setting renews on 8 (omega arith) (omega arith) (world turns) fits reached;
  }

  pub kept : KeepsLog small_renew small_start the_script (world turns).log (world turns).journal
  kept = record {
    rounds = round_reached small_setting renews on volume (world turns) fits reached;
    blocks = containers_reached small_setting renews on volume (world turns) fits reached;
    endings = endings_reached small_setting renews on volume (world turns) fits reached;
    renewed = renewed_reached small_setting asks renews on volume (world turns) fits reached;
    gate = gate_reached small_setting asks renews on volume (world turns) fits reached;
    failures = failures_reached small_setting renews on volume (world turns) fits reached;
    reads = reads_in_sync small_setting on volume (world turns).log (world turns).journal
        (ours_reached small_setting (world turns) reached) (fine_reached small_setting renews on volume (world turns) fits reached);
    rows = answers_reached small_setting asks volume (world turns) reached;
    calls = causes_reached small_setting asks renews on volume (world turns) fits reached;
  }

  pub ends : EndsAtFailure (world turns).log (world turns).journal (world turns).control.failed
  ends = ends_reached small_setting (world turns) reached

-- a journal that is three entries shorter than its limit began each turn with room
roomy : (limit : ℕ) (front journal : List Entry) → length front + length journal + 3 ≤ limit
    → AtEachFrom (λ before e. comes_second e.event ≡ false → length before + 4 ≤ limit) front journal
roomy limit front [] le = tt
roomy limit front (e ∷ es) le =
    (λ first. omega (arith, le), roomy limit (front ++ e ∷ []) es (omega (arith, le, length-append front (e ∷ []))))

pub has_room : (limit : ℕ) (journal : List Entry) → length journal + 3 ≤ limit → BeginsWithRoom limit journal
has_room limit journal le = roomy limit [] journal (omega (arith, le))
