-- Each change of a turn leans on those before it, whoever takes the turn.
use Rattle.std.proofs.Common.{refl}
use Rattle.array_machine.specs.Setting.{Setting}
use Rattle.array_machine.specs.Rounds.{Ended, working_disks, lives}
use Rattle.array_machine.specs.Clients.{client_at}
use Rattle.array_machine.specs.Control.{Control}
use Rattle.array_machine.specs.Turns.{may_call}
use Rattle.array_machine.specs.Machine.{Actor, Monitor, Manager, Sync, Client, Quiet, Fail, Kill, Takeover, Action, turn, turn_of}
use Rattle.array_paths.specs.Ready.{JobsFit}
use Rattle.array_causes.specs.Links.{First, Chain}
use Rattle.array_causes.proofs.Chains.{living_chain, manager_chain, sync_chain, quiet_chain, fail_chain, kill_chain, takeover_chain}
use Rattle.array_causes.proofs.ClientChains.{client_chain}

actor_chain : (S : Setting) (c : Control) → JobsFit S c → (x : Ended) (who : Actor)
    → Chain S c First (turn_of S c x who).changes
actor_chain S c fit x Monitor = living_chain S c c x c.round.life (λ is target. record { life = is; target = target })
actor_chain S c fit x Manager = manager_chain S c c (lives c.round.life)
actor_chain S c fit x (Sync v) = sync_chain S c c v x
actor_chain S c fit x (Client k) =
    client_chain S c fit k x (client_at c.clients k).left (client_at c.clients k).job refl
actor_chain S c fit x (Quiet v) = quiet_chain S c c v
actor_chain S c fit x (Fail d) = fail_chain S c c d (may_call S c.round d)
actor_chain S c fit x Kill = kill_chain S c c.round.life
actor_chain S c fit x Takeover = takeover_chain S c (working_disks S c.round) c.round.life

pub turn_chain : (S : Setting) (c : Control) → JobsFit S c → (a : Action) → Chain S c First (turn S c a).changes
turn_chain S c fit a = actor_chain S c fit a.ended a.actor
