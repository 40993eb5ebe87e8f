-- The block of each round that begins is a container's.
use Rattle.std.proofs.Common.{ℕ, List, [], ◌∷◌, ◌++◌}
use Rattle.std.specs.List.{AllByRecursion}
use Rattle.device_log.specs.Log.{Call}
use Rattle.array_model.specs.declared.journal.Entry.{Entry}
use Rattle.array_model.specs.declared.journal.Event.{Event}
use Rattle.array_model.specs.declared.journal.Event.TheVariants.{Begin}
use Rattle.array_model.specs.Events.{AtEach, AtEachFrom}
use Rattle.array_model.specs.Rounds.{BeginsContainer}
use Rattle.array_model.specs.Renewal.{FitsGeneration}
use Rattle.stage_machine.specs.Setting.{Setting, Renews}
use Rattle.stage_machine.specs.Opens.{StandsOnAll, IsFirstVolume}
use Rattle.stage_machine.specs.Machine.{World, Reached}
use Rattle.stage_machine.proofs.Stands.{same_container}
use Rattle.stage_machine.proofs.Finished.{IsFine, fine_reached, written_good}

module _ (S : Setting) (on : StandsOnAll S) (volume : IsFirstVolume S) (log : List Call) (fine : AllByRecursion (IsFine S) log) where
  -- it says what the newest at opening says
  begins_container : (stamp : ℕ) (e : Event) → BeginsContainer S.start log stamp e
  begins_container stamp (Begin g) = λ m d written generation. same_container S on m (written_good S volume log stamp d m fine written)
  begins_container stamp _ = tt

  begin_containers : (front journal : List Entry) → AtEachFrom (λ before e. BeginsContainer S.start log e.stamp e.event) front journal
  begin_containers front [] = tt
  begin_containers front (e ∷ es) = (begins_container e.stamp e.event, begin_containers (front ++ e ∷ []) es)

pub containers_reached : (S : Setting) → Renews S → StandsOnAll S → IsFirstVolume S → (w : World) → FitsGeneration w.control.round.note → Reached S w
    → AtEach (λ front e. BeginsContainer S.start w.log e.stamp e.event) w.journal
containers_reached S renews on volume w fits r = begin_containers S on volume w.log (fine_reached S renews on volume w fits r) [] w.journal
