-- Each world of each run keeps the counts that follow from its control state.
use Rattle.std.proofs.Common.{◌≡◌, ℕ, false, List, [], ◌∷◌, map, refl, sym, subst, arith}
use Rattle.std.specs.List.{range_with_len}
use Rattle.units.specs.declared.bounds.TheConstants.{CLIENTS}
use Rattle.array_machine.specs.Setting.{Setting}
use Rattle.array_machine.specs.States.{State, IsReadonly}
use Rattle.array_machine.specs.Volumes.{Volume, volume_at}
use Rattle.array_machine.specs.Operations.{ops_of}
use Rattle.array_machine.specs.Clients.{NoJob, with_job}
use Rattle.array_machine.specs.Machine.{World, calls_after, clients_of, begins_at, Reached}
use Rattle.array_paths.specs.InTurn.{state_of}
use Rattle.array_base.specs.Premises.{Premises}
use Rattle.array_base.specs.Opening.{Opening}
use Rattle.array_base.specs.Laws.{FollowsBase}
use Rattle.array_base.proofs.Runs.{along_base}
use Rattle.array_form.specs.StateCounts.{StateCounts, is_asked_for, KeepsStateCounts}
use Rattle.array_form.specs.RoundCounts.{RoundCounts, KeepsFailureCounts}
use Rattle.array_form.proofs.StateEffects.{states_effect}
use Rattle.array_form.proofs.RoundEffects.{rounds_effect}

module _ (S : Setting) where
  pub record Counted (w : World) : Type 0 where
    pub states : (v : ℕ) → StateCounts S.asked.ops v (state_of w.control v) (is_asked_for S v w.control.clients)
        w.journal
    pub rounds : RoundCounts w.control.round w.journal

  none_asks_at_first : (v : ℕ) (ks : List ℕ)
      → is_asked_for S v (map (λ k. with_job (ops_of S.asked.ops k) NoJob) ks) ≡ false
  none_asks_at_first v [] = refl
  none_asks_at_first v (k ∷ ks) = none_asks_at_first v ks

  -- a volume is readonly, and nobody asks for it
  states_open : (v : ℕ) (state : State) → state ≡ IsReadonly
      → StateCounts S.asked.ops v state (is_asked_for S v (clients_of S)) []
  states_open v state is =
      let none = none_asks_at_first v (range_with_len 0 CLIENTS) in
      subst (λ s. StateCounts S.asked.ops v s (is_asked_for S v (clients_of S)) []) (sym is)
      (subst (λ b. StateCounts S.asked.ops v IsReadonly b []) (sym none)
      (record {
        ready = omega arith;
        pending = omega arith;
        active = omega arith;
        idle = omega arith;
        clean = omega arith;
      }))

  module _ (P : Premises S) (volumes : List Volume) (spares : List ℕ) (o : Opening S P volumes spares) where
    counted_open : Counted (begins_at S volumes spares)
    counted_open = record {
      states = λ v. states_open v (volume_at volumes v).state (o.volumes_are v).state;
      rounds = record {
        disks = λ d. record { fault = omega arith; unblock = omega arith };
        life = omega arith;
        phase = omega arith;
      };
    }

    follows : FollowsBase S P volumes spares (λ t w. Counted w)
    follows = record {
      opens = λ who. counted_open;
      begins = λ t w who had. had;
      step = λ t w call x a over had. record {
        states = λ v. states_effect S v (calls_after w.calls call) w.journal t w.control call x a over.effect
            (had.states v);
        rounds = rounds_effect S (calls_after w.calls call) w.journal t w.control call x a over.effect had.rounds;
      };
    }

    pub counted : (w : World) → Reached S volumes spares w → Counted w
    counted w run = (along_base S P volumes spares o (λ t w. Counted w) follows w run).1

    pub states_counted : (w : World) → Reached S volumes spares w → KeepsStateCounts S.asked.ops w.journal
    states_counted w run v =
        let s = (counted w run).states v in
        record {
          ready = omega (arith, s.ready);
          pending = omega (arith, s.pending);
          active = omega (arith, s.active);
          idle = omega (arith, s.idle);
          clean = omega (arith, s.clean);
        }

    pub failures_counted : (w : World) → Reached S volumes spares w → KeepsFailureCounts w.journal
    failures_counted w run =
        let r = (counted w run).rounds in
        record {
          disks =
              λ d. let both = r.disks d in record
              { fault = omega (arith, both.fault); unblock = omega (arith, both.unblock) };
          takeovers = let life = r.life in omega (arith, life);
        }
