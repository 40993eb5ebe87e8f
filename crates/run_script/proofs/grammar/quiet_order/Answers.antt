use Rattle.std.proofs.Common.{sym, ◌∙◌}
use Rattle.array_model.specs.declared.script.Turn.TheVariants.{Quiet}
use Rattle.run_script.specs.declared.order.Order.TheVariants.{Turns}
use Rattle.run_script.specs.Forms.{Ends}
use Rattle.run_script.proofs.Readings.{exit}
use Rattle.run_script.proofs.grammar.quiet_order.Goals as goal

pub returns-in_err-volume : goal.returns-in_err-volume
returns-in_err-volume c = exit _ _ _ c.from_residual.ensures.1 (c.in_err-volume.ensures (λ v. Ends (Turns (Quiet v) 1)))

pub returns : goal.returns
returns c = c.end.ensures ∙ sym (c.in_ok-volume.ensures (λ v. Ends (Turns (Quiet v) 1)))
