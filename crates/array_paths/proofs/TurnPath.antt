-- Each turn is a path of effects, whoever takes it.
use Rattle.std.proofs.Common.{◌+◌, refl}
use Rattle.array_model.specs.Renewal.{FitsGeneration}
use Rattle.array_machine.specs.Setting.{Setting}
use Rattle.array_machine.specs.Rounds.{Ended}
use Rattle.array_machine.specs.Control.{Control}
use Rattle.array_machine.specs.Machine.{Actor, Monitor, Manager, Sync, Client, Quiet, Fail, Kill, Takeover, Action, turn_of}
use Rattle.array_paths.specs.Ready.{Ready, RowsInside}
use Rattle.array_paths.specs.Follows.{in_turn, TurnPath, TurnsArePaths}
use Rattle.array_paths.proofs.Tests.{PathOf}
use Rattle.array_paths.proofs.TakeoverPaths.{living_path}
use Rattle.array_paths.proofs.ManagerPaths.{manager_path}
use Rattle.array_paths.proofs.SyncPaths.{sync_path}
use Rattle.array_paths.proofs.ClientPaths.{client_path}
use Rattle.array_paths.proofs.OtherPaths.{quiet_path, fail_path, kill_path, takeover_path}

actor_path : (S : Setting) → RowsInside S → (c : Control) → Ready S c → FitsGeneration (c.round.note + 1) → (x : Ended)
    → (who : Actor) → PathOf S (in_turn c who) c (turn_of S c x who)
actor_path S inside c ready fits x Monitor = living_path S (in_turn c Monitor) ready fits x c.round.life refl
actor_path S inside c ready fits x Manager = manager_path S (in_turn c Manager) _ refl
actor_path S inside c ready fits x (Sync v) = sync_path S (in_turn c (Sync v)) ready v x
actor_path S inside c ready fits x (Client k) = client_path S (in_turn c (Client k)) inside ready k x
actor_path S inside c ready fits x (Quiet v) = quiet_path S (in_turn c (Quiet v)) v refl
actor_path S inside c ready fits x (Fail d) = fail_path S (in_turn c (Fail d)) d refl
actor_path S inside c ready fits x Kill = kill_path S (in_turn c Kill) refl
actor_path S inside c ready fits x Takeover = takeover_path S (in_turn c Takeover) refl

-- a turn is a path from a control state that is ready for it, where the next generation has its place
pub turn_path : (S : Setting) → RowsInside S → (c : Control) → Ready S c → (a : Action)
    → FitsGeneration (c.round.note + 1) → TurnPath S c a
turn_path S inside c ready a fits = actor_path S inside c ready fits a.ended a.actor

pub turns_are_paths : (S : Setting) → RowsInside S → TurnsArePaths S
turns_are_paths S inside = turn_path S inside
