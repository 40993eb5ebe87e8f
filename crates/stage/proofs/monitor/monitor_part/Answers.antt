use Rattle.std.proofs.Common.{Bool, true, false, [], refl, sym, ap, subst, ◌∙◌}
use Rattle.std.specs.Prelude.{slice_index, if◌then◌else◌}
use Rattle.member_bank.specs.Told.{Logs}
use Rattle.control_state.specs.Book.{laid_at}
use Rattle.stage_machine.specs.Rounds.{Ended}
use Rattle.stage_machine.specs.Machine.{Out}
use Rattle.control_state.specs.Seen.{numbers, plan_setting}
use Rattle.control_state.specs.Rounds.{ask_of, step_of}
use Rattle.control_state.specs.Controls.{control_of, out_of, failed_of}
use Rattle.stage.specs.Asked.{asked_of}
use Rattle.stage.proofs.Monitors.{asked_has, call_made, monitor_rested, monitor_went, monitor_failed}
use Rattle.stage.proofs.Kept.{counts_same, rest_live}
use Rattle.stage.proofs.monitor.monitor_part.Goals as goal

pub round_call-requires-clause-disk : goal.round_call-requires-clause-disk
round_call-requires-clause-disk g c =
    (c.requires.fits.targets_there c.in-Some.ask.disk.0
    (asked_has (numbers c.args.plan.now.targets.items) (laid_at c.args.control.now.round.next.anchor) c.args.control.now.round.phase c.in-Some.ask.disk.0 (step_of c.in-Some.ask.step)
    (sym c.ask.ensures ∙ ap ask_of c.in-Some.is))).0

pub round_call-requires-clause-room : goal.round_call-requires-clause-room
round_call-requires-clause-room g c =
    (c.requires.fits.targets_there c.in-Some.ask.disk.0
    (asked_has (numbers c.args.plan.now.targets.items) (laid_at c.args.control.now.round.next.anchor) c.args.control.now.round.phase c.in-Some.ask.disk.0 (step_of c.in-Some.ask.step)
    (sym c.ask.ensures ∙ ap ask_of c.in-Some.is))).1

pub returns-in-None-clause-made : goal.returns-in-None-clause-made
returns-in-None-clause-made g c = λ newest. (
  record { went = true; stored = 0 },
  monitor_rested c.args.plan.now newest (g.B.Bank.sizes c.args.bank.now) (g.B.Bank.log c.args.bank.now) (control_of c.args.plan.now c.args.control.now) c.args.calls.now (record { went = true; stored = 0 })
      (out_of c.args.plan.now c.monitor_rest.new.self c.monitor_rest.result) (ap failed_of c.requires.live) (sym c.ask.ensures ∙ ap ask_of c.in-None.is) (c.monitor_rest.ensures (record { went = true; stored = 0 })),
)

-- nothing was called
pub returns-in-None-clause-cause : goal.returns-in-None-clause-cause
returns-in-None-clause-cause g c =
    let C = control_of c.args.plan.now c.args.control.now in
    let x : Ended = record { went = true; stored = 0 } in
    counts_same (g.B.Bank.faults_of c.args.bank.now) (failed_of c.monitor_rest.new.self.failed)
    (ap (λ (o : Out). o.next.failed) (c.monitor_rest.ensures x) ∙ rest_live (plan_setting c.args.plan.now) C x C.round.phase (sym c.ask.ensures ∙ ap ask_of c.in-None.is) ∙ ap failed_of c.requires.live)

pub returns-then-round_call-clause-made : goal.returns-then-round_call-clause-made
returns-then-round_call-clause-made g c = λ newest.
    let p = c.args.plan.now in
    let sizes = g.B.Bank.sizes c.args.bank.now in
    let C = control_of p c.args.control.now in
    let m = laid_at c.args.control.now.round.next.anchor in
    let a = c.in-Some.ask in
    let stored = c.round_call.ensures.logs.0 in (
      record { went = true; stored = stored },
      monitor_went p newest sizes (g.B.Bank.log c.args.bank.now) (g.B.Bank.log c.round_call.new.bank) C c.args.calls.now stored (out_of p c.round_went.new.self c.round_went.result)
          (record { disk = a.disk.0; what = asked_of (slice_index sizes a.disk.0) m a.step 1; went = true }) a.disk.0 (step_of a.step) (ap failed_of c.requires.live) (sym c.ask.ensures ∙ ap ask_of c.in-Some.is)
          (call_made p newest sizes C (numbers p.targets.items) m c.args.control.now.round.phase c.ask.result a true stored refl c.ask.ensures c.in-Some.is)
          c.round_went.ensures
          (subst (λ (b : Bool). Logs (g.B.Bank.log c.args.bank.now) (g.B.Bank.log c.round_call.new.bank) (record { disk = a.disk.0; what = asked_of (slice_index sizes a.disk.0) m a.step (if b then 1 else stored); went = b }))
          c.if-round_call.true c.round_call.ensures.logs.1),
    )

pub returns-else-round_call-clause-made : goal.returns-else-round_call-clause-made
returns-else-round_call-clause-made g c = λ newest.
    let p = c.args.plan.now in
    let sizes = g.B.Bank.sizes c.args.bank.now in
    let C = control_of p c.args.control.now in
    let m = laid_at c.args.control.now.round.next.anchor in
    let a = c.in-Some.ask in
    let stored = c.round_call.ensures.logs.0 in (
      record { went = false; stored = stored },
      monitor_failed p newest sizes (g.B.Bank.log c.args.bank.now) (g.B.Bank.log c.round_call.new.bank) C c.args.calls.now stored _
          (record { disk = a.disk.0; what = asked_of (slice_index sizes a.disk.0) m a.step stored; went = false }) a.disk.0 (step_of a.step) (ap failed_of c.requires.live) (sym c.ask.ensures ∙ ap ask_of c.in-Some.is)
          (call_made p newest sizes C (numbers p.targets.items) m c.args.control.now.round.phase c.ask.result a false stored refl c.ask.ensures c.in-Some.is)
          (ap (λ x. record { next = x; events = [] }) (c.fail.ensures p))
          (subst (λ (b : Bool). Logs (g.B.Bank.log c.args.bank.now) (g.B.Bank.log c.round_call.new.bank) (record { disk = a.disk.0; what = asked_of (slice_index sizes a.disk.0) m a.step (if b then 1 else stored); went = b }))
          c.if-round_call.false c.round_call.ensures.logs.1),
    )
