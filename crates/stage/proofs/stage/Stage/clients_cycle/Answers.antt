use Rattle.std.proofs.Common.{subst, sym, ◌∙◌}
use Rattle.stage_machine.specs.Machine.{Asks}
use Rattle.stage.specs.declared.turned.Turned.{Turned}
use Rattle.stage.specs.Stages.{Answered}
use Rattle.stage.proofs.Driven.{answered_follows, follows_on, spends_moved, rests_idle, spends_idle, live_idle}
use Rattle.stage.proofs.Kept.{bank_on}
use Rattle.stage.proofs.stage.Stage.clients_cycle.Goals.{in-Moved, in-Idle}
use Rattle.stage.proofs.stage.Stage.clients_cycle.Goals as goal

pub loop-k-preserved : goal.loop-k-preserved
loop-k-preserved g c =
    let a = c.args.self.now in
    let b = c.loop-k.self in
    let n = c.client_turn.new.self in
    let t = c.client_turn.ensures.answered in
    let inv = c.loop-k.invariant in
    let follows = follows_on a b n inv.follows (answered_follows b n (Asks c.loop-k.k t.0 t.1) c.client_turn.result t.2) in
    let bank = bank_on g.B.Bank.serials g.B.Bank.sizes g.B.Bank.log g.B.Bank.faults_of a b n inv.bank c.client_turn.ensures.bank in
    elim c.match-client_turn.branch [
      | in-Moved w ↦
          let moved = subst (λ (r : Turned). Answered b n (Asks c.loop-k.k t.0 t.1) r) w.in-Moved.is t.2 in
          record {
            follows = follows;
            opening = λ told is. inv.opening told (c.client_turn.ensures.opening told is);
            bank = bank;
            live = moved.1;
            spends = λ on. spends_moved a b n (Asks c.loop-k.k t.0 t.1) c.loop-k.went inv.spends (λ off. (inv.rests off).0) moved.0;
            rests = λ off. absurd (cc (off, w.went-is));
          }
      | in-Idle w ↦
          let idle = subst (λ (r : Turned). Answered b n (Asks c.loop-k.k t.0 t.1) r) w.in-Idle.is t.2 in
          record {
            follows = follows;
            opening = λ told is. inv.opening told (c.client_turn.ensures.opening told is);
            bank = bank;
            live = live_idle b n idle.0 inv.live;
            spends = λ on. spends_idle a b n idle.0 (inv.spends (sym w.went-is ∙ on));
            rests = λ off. rests_idle a b n c.loop-k.k t.0 t.1 (inv.rests (sym w.went-is ∙ off)) idle;
          }
    ]
