use Rattle.std.proofs.Common.{sym, ◌∙◌}
use Rattle.run_script.specs.declared.order.Order.TheVariants.{Turns}
use Rattle.run_script.specs.Forms.{Ends}
use Rattle.run_script.proofs.Readings.{exit}
use Rattle.run_script.proofs.grammar.turns_order.Goals as goal

pub returns-in_err-count : goal.returns-in_err-count
returns-in_err-count c = exit _ _ _ c.from_residual.ensures.1 (c.in_err-count.ensures (λ n. Ends (Turns c.args.turn n)))

pub returns : goal.returns
returns c = c.end.ensures ∙ sym (c.in_ok-count.ensures (λ n. Ends (Turns c.args.turn n)))
