-- The turns without a call of their own are paths: a volume falls idle, a disk fails, the monitor is killed, and a new
-- one takes over.
use Rattle.std.proofs.Common.{◌≡◌, ℕ, ◌&&◌, not, Bool, true, false, refl, sym, subst, None}
use Rattle.std.proofs.lemmas.Bool.{and_parts}
use Rattle.array_machine.specs.Setting.{Setting}
use Rattle.array_machine.specs.States.{is_active}
use Rattle.array_machine.specs.Volumes.{Volume, volume_at}
use Rattle.array_machine.specs.Rounds.{Life, Lives, Killed, Takes, Dead, working_disks}
use Rattle.array_machine.specs.Changes.{DiskFails}
use Rattle.array_machine.specs.Turns.{no_call, may_call}
use Rattle.array_machine.specs.OtherTurns.{any_writing, idle_if, is_quiet, quieted, fails_if, kills, restarts}
use Rattle.array_machine.specs.Machine.{Quiet, Fail, Kill, Takeover}
use Rattle.array_paths.specs.InTurn.{InTurn}
use Rattle.array_paths.specs.Comes.{IsAwake, idles, fails, kills as is_killed, takes_over}
use Rattle.array_paths.specs.Effects.{quiet, ends_here}
use Rattle.array_paths.proofs.Tests.{PathOf, is_false, active_is, may_fail}
use Rattle.array_paths.proofs.RoundPaths.{lone, fault_path}

module _ (S : Setting) (t : InTurn) where
  pub quiet_path : (v : ℕ) → t.who ≡ Quiet v → PathOf S t t.before (quieted S t.before v)
  quiet_path v who = at (is_quiet S t.before v x) refl
    where
      x : Volume
      x = volume_at t.before.volumes v

      at : (b : Bool) → is_quiet S t.before v (volume_at t.before.volumes v) ≡ b → PathOf S t t.before (idle_if v b)
      at false is = ends_here no_call
      at true is =
          let y = volume_at t.before.volumes v in
          let running = y.started && is_active y.state && not y.broken in
          let last = and_parts running (not (any_writing S v t.before.clients)) is in
          let sound = and_parts (y.started && is_active y.state) (not y.broken) last.0 in
          let active = and_parts y.started (is_active y.state) sound.0 in
          lone S t t.before no_call _
          (idles v who (record { started = active.0; sound = is_false y.broken sound.1 }) (active_is y.state active.1)
          (is_false (any_writing S v t.before.clients) last.1))

  pub fail_path : (d : ℕ) → t.who ≡ Fail d
      → PathOf S t t.before (fails_if S t.before d (may_call S t.before.round d))
  fail_path d who = at (may_call S t.before.round d) refl
    where
      at : (b : Bool) → may_call S t.before.round d ≡ b → PathOf S t t.before (fails_if S t.before d b)
      at false is = ends_here no_call
      at true is =
          fault_path S t None no_call d (quiet no_call (DiskFails d) (fails d who (may_fail S t.before d is)))

  pub kill_path : t.who ≡ Kill → PathOf S t t.before (kills t.before.round.life)
  kill_path who = at t.before.round.life refl
    where
      killed : (life : Life) → IsAwake life → t.before.round.life ≡ life → IsAwake t.before.round.life
      killed life awake is = subst IsAwake (sym is) awake

      at : (life : Life) → t.before.round.life ≡ life → PathOf S t t.before (kills life)
      at Lives is = lone S t t.before no_call _ (is_killed who (killed Lives tt is))
      at Killed is = ends_here no_call
      at (Takes left seen found) is = lone S t t.before no_call _ (is_killed who (killed (Takes left seen found) tt is))
      at Dead is = ends_here no_call

  pub takeover_path : t.who ≡ Takeover
      → PathOf S t t.before (restarts (working_disks S t.before.round) t.before.round.life)
  takeover_path who = at t.before.round.life refl
    where
      at : (life : Life) → t.before.round.life ≡ life
          → PathOf S t t.before (restarts (working_disks S t.before.round) life)
      at Lives is = ends_here no_call
      at Killed is = lone S t t.before no_call _ (takes_over who is)
      at (Takes left seen found) is = ends_here no_call
      at Dead is = ends_here no_call
