-- What the last finished round recorded is durable on every working member.
use Rattle.std.proofs.Common.{◌≡◌, false, None}
use Rattle.array_model.specs.Renewal.{FitsGeneration}
use Rattle.stage_machine.specs.Setting.{Setting, Renews}
use Rattle.stage_machine.specs.Opens.{AsksFirst, StandsOnAll, IsFirstVolume}
use Rattle.stage_machine.specs.Machine.{World, Reached}
use Rattle.stage_machine.proofs.Targets.{stand_reached, disk}
use Rattle.stage_machine.proofs.Finished.{fine_reached}
use Rattle.stage_machine.proofs.Durable.{held_at_rest}
use Rattle.gate_law.proofs.Gate.{dirty_as}
use Rattle.rest_law.specs.Rest.{CanEnd, IsAtRest, IsDurablyClean}
use Rattle.rest_law.proofs.Halts.{ended}

pub durably_clean : (S : Setting) (w : World) → AsksFirst S → CanEnd S → Renews S → StandsOnAll S → IsFirstVolume S → FitsGeneration w.control.round.note → Reached S w → w.control.failed ≡ None → IsAtRest S w.control
    → IsDurablyClean S w
durably_clean S w asks can renews on volume fits r alive rest =
    let end = ended S asks can w r alive rest in
    dirty_as S on volume false w.log w.journal w.control.round.last (fine_reached S renews on volume w fits r)
    (λ d target. held_at_rest S w.control.round.last d (disk S w.log d) w.control.round.phase end.no_round (stand_reached S renews on volume w fits r d target)) end.clean
