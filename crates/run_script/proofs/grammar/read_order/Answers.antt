use Rattle.std.proofs.Common.{sym, ◌∙◌}
use Rattle.array_model.specs.declared.script.OpKind.TheVariants.{Read}
use Rattle.run_script.specs.declared.order.Order.TheVariants.{Operation}
use Rattle.run_script.specs.Forms.{Ends}
use Rattle.run_script.specs.Grammar.{number}
use Rattle.run_script.proofs.Readings.{exit}
use Rattle.run_script.proofs.grammar.read_order.Goals as goal

pub returns-in_err-volume : goal.returns-in_err-volume
returns-in_err-volume c =
    exit _ _ _ c.from_residual.ensures.1 (c.in_err-volume.ensures (λ v. number (λ sector. Ends (Operation c.args.client (Read v sector)))))

pub returns-in_err-number : goal.returns-in_err-number
returns-in_err-number c =
    exit _ _ _ c.from_residual-in_err-number.ensures.1 (c.in_ok-volume.ensures (λ v. number (λ sector. Ends (Operation c.args.client (Read v sector))))
    ∙ c.in_err-number.ensures (λ sector. Ends (Operation c.args.client (Read c.in_ok-volume.field-0 sector))))

pub returns : goal.returns
returns c =
    c.end.ensures ∙ sym (c.in_ok-volume.ensures (λ v. number (λ sector. Ends (Operation c.args.client (Read v sector))))
    ∙ c.in_ok-number.ensures (λ sector. Ends (Operation c.args.client (Read c.in_ok-volume.field-0 sector))))
