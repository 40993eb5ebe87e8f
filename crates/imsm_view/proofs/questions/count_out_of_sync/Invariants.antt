use Rattle.std.proofs.Common.{◌≡◌, ◌≤◌, take, not}
use Rattle.std.specs.List.{count_by}
use Rattle.imsm_view.specs.Questions.{is_slot_in_sync}
use Rattle.imsm_view.proofs.questions.count_out_of_sync.Given as goal

abbrev pub invariant-loop-slot : goal.invariant-loop-slot
invariant-loop-slot l =
    (l.count ≡ count_by (λ s. not (is_slot_in_sync s)) (take l.slot-index l.slots)) × (l.count ≤ l.slot-index)
