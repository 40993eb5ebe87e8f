use Rattle.std.proofs.Common.{ℕ, List}
use Rattle.std.specs.Prelude.{⊤}
use Rattle.array_machine.specs.Setting.{Setting}
use Rattle.array_machine.specs.Volumes.{Volume}
use Rattle.array_machine.specs.Rounds.{Ended}
use Rattle.array_machine.specs.Machine.{Actor, World, Reached}
use Rattle.array_base.specs.Premises.{Premises}
use Rattle.array_base.specs.Opening.{Opening}
use Rattle.array_base.proofs.Runs.{each_world_has}
use Rattle.array_order.proofs.Runs.{each_client_has_its_own}
use Rattle.array_rest.specs.Jobs.{JobsStand}
use Rattle.array_rest.specs.Rests.{IsAtRest, NothingIsDue, IsSound}
use Rattle.array_rest.specs.Seats.{OpensAble}
use Rattle.array_rest.proofs.Reach.{each_leaves}
use Rattle.array_rest.proofs.RoundRuns.{each_round_stands}
use Rattle.array_rest.proofs.Resting.{nothing_is_due}
use Rattle.array_rest.proofs.SeatRuns.{each_seated, sound_is_trusted}
use Rattle.array_rest.proofs.Stopped.{each_stopped}
use Rattle.array_rest.proofs.JobRuns.{each_jobs_stand}
use Rattle.array_rest.proofs.ClientsRest.{client_rests, volume_rests}
use Rattle.array_rest.proofs.volumes_and_clients_rest.Goals as goal

module _ (S : Setting) (P : Premises S) (volumes : List Volume) (spares : List ℕ) (o : Opening S P volumes spares)
    (able : OpensAble S volumes) (w : World) (run : Reached S volumes spares w) where
  -- jobs stand also without the condition, which holds
  jobs_stand : JobsStand S ⊤ w.control
  jobs_stand k i r is =
      let stands = each_jobs_stand S P volumes spares o w run k i r is in
      record { open_to = stands.open_to; names = stands.names; plan = λ t. stands.plan able }

  -- nothing is due where a volume isn't broken
  none_due : (ends : Actor → Ended) → IsAtRest S w.control ends → (v : ℕ) → IsSound w.control v → NothingIsDue S w.control
  none_due ends rest v sound =
      let leaves = each_leaves S P volumes spares o w run in
      let some = sound_is_trusted S P volumes spares o able w run v sound.started sound.sound in
      nothing_is_due S w.control ends rest P w.log (each_world_has S P volumes spares o w run).base leaves.kept
      leaves.over (each_round_stands S P volumes spares o w run) some.disk some.is

pub returns : goal.returns
returns c = record {
  volumes = λ S P volumes spares o able w run ends rest v sound.
      let leaves = each_leaves S P volumes spares o w run in
      volume_rests S w.control ends rest leaves.kept leaves.over (each_round_stands S P volumes spares o w run)
      (each_stopped S P volumes spares o w run) (jobs_stand S P volumes spares o able w run)
      ((each_seated S P volumes spares o w run).run able) (each_world_has S P volumes spares o w run).ready.jobs
      (none_due S P volumes spares o able w run ends rest) v sound;
  clients = λ S P volumes spares o able w run ends rest k.
      let leaves = each_leaves S P volumes spares o w run in
      client_rests S w.control ends rest leaves.kept leaves.over (each_round_stands S P volumes spares o w run)
      (each_stopped S P volumes spares o w run) (jobs_stand S P volumes spares o able w run)
      ((each_seated S P volumes spares o w run).run able) (each_world_has S P volumes spares o w run).ready.jobs
      (none_due S P volumes spares o able w run ends rest) k (each_client_has_its_own S P volumes spares o w run k);
}
