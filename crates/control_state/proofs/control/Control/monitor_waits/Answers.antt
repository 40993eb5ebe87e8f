use Rattle.std.proofs.Common.{sym, ap, ◌∙◌}
use Rattle.stage_machine.specs.Machine.{Monitors, turn}
use Rattle.control_state.specs.Seen.{plan_setting}
use Rattle.control_state.specs.Rounds.{round_of, ask_of}
use Rattle.control_state.specs.Controls.{control_of}
use Rattle.control_state.proofs.Stillness.{asks_nothing}
use Rattle.control_state.proofs.control.Control.monitor_waits.Goals as goal

pub returns-in-None : goal.returns-in-None
returns-in-None c = λ x.
    let S = plan_setting c.args.plan.now in
    let C = control_of c.args.plan.now c.args.self.now in
    asks_nothing S x (round_of c.args.plan.now c.args.self.now.round).phase (turn S C (Monitors x)) c.is_silent_rest.result
    (sym c.ask.ensures ∙ ap ask_of c.in-None.is) (c.is_silent_rest.ensures x)
