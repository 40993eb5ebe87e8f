use Rattle.std.proofs.Common.{◌+◌, sym, ap, ◌∙◌}
use Rattle.block_meaning.specs.Renewed.{renewed}
use Rattle.stage_machine.specs.Machine.{moved}
use Rattle.stage_machine.specs.States.{next_dirty}
use Rattle.control_state.specs.declared.state.Move.{Move}
use Rattle.control_state.specs.Book.{laid_at}
use Rattle.control_state.specs.Rounds.{round_of}
use Rattle.control_state.specs.Seen.{plan_setting, state_of, move_of}
use Rattle.control_state.specs.Controls.{control_of}
use Rattle.control_state.specs.Still.{is_silent}
use Rattle.control_state.proofs.Stillness.{begins_nothing}
use Rattle.control_state.proofs.control.Control.is_silent_move.Goals as goal

pub returns-in-Starts : goal.returns-in-Starts
returns-in-Starts c =
    let p = c.args.plan.now in
    let C = c.args.self.now in
    begins_nothing (round_of p C.round) (renewed (laid_at C.round.book.anchor) (C.round.note + 1) (next_dirty (state_of C.state))) p.targets.items _ c.is_empty.ensures
    ∙ sym (ap (λ (what : Move). is_silent (moved (plan_setting p) (control_of p C) (move_of what)).events) c.in-Starts.is)
