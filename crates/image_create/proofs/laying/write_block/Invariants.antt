use Rattle.std.proofs.Common.{◌≡◌, List, ◌++◌, length}
use Rattle.std.specs.Prelude.{slice_index}
use Rattle.std.specs.List.{AllByRecursion, flat_map}
use Rattle.member_bank.specs.Told.{LogsAll}
use Rattle.mpb_store.specs.declared.writing.Step.{Step}
use Rattle.mpb_store.specs.Writing.{steps_of}
use Rattle.image_outside.specs.Told.{bank_told}
use Rattle.image_create.specs.Calls.{step_calls}
use Rattle.image_create.specs.Steps.{IsPlaced}
use Rattle.image_create.specs.Stops.{KeepsBank}
use Rattle.image_create.proofs.laying.write_block.Given as goal

abbrev pub invariant-loop-step : goal.invariant-loop-step
invariant-loop-step g l = record {
  made : (done : List Step) × (steps_of l.size (slice_index (g.B.Bank.sizes l.initial.bank) l.d.0) ≡ done ++ l.steps)
      × LogsAll (g.B.Bank.log l.initial.bank) (g.B.Bank.log l.bank) (flat_map (step_calls l.d.0 l.sectors) done);
  placed : AllByRecursion (IsPlaced (slice_index (g.B.Bank.sizes l.initial.bank) l.d.0)) l.steps;
  kept : KeepsBank (bank_told g.B.Bank l.initial.bank) (bank_told g.B.Bank l.bank);
}

abbrev pub decreases-loop-step : goal.decreases-loop-step
decreases-loop-step g l = length l.steps
