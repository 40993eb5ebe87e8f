use Rattle.std.proofs.Common.{sym, ◌∙◌}
use Rattle.array_model.specs.declared.script.Turn.TheVariants.{Sync}
use Rattle.run_script.specs.Grammar.{turns_form}
use Rattle.run_script.proofs.Readings.{exit}
use Rattle.run_script.proofs.grammar.sync_order.Goals as goal

pub returns-in_err-volume : goal.returns-in_err-volume
returns-in_err-volume c = exit _ _ _ c.from_residual.ensures.1 (c.in_err-volume.ensures (λ v. turns_form (Sync v)))

pub returns : goal.returns
returns c = c.turns_order.ensures ∙ sym (c.in_ok-volume.ensures (λ v. turns_form (Sync v)))
