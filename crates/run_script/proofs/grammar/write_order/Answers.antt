use Rattle.std.proofs.Common.{ℕ, sym, ◌∙◌}
use Rattle.units.specs.declared.volume.VolNo.{VolNo}
use Rattle.array_model.specs.declared.script.OpKind.TheVariants.{Write}
use Rattle.run_script.specs.declared.order.Order.TheVariants.{Operation}
use Rattle.run_script.specs.Forms.{Form, Ends, Digits}
use Rattle.run_script.specs.Grammar.{number}
use Rattle.run_script.proofs.Readings.{exit}
use Rattle.run_script.proofs.grammar.write_order.Goals as goal

-- what follows the volume, and what follows the sector
abbrev after_volume : ℕ → VolNo → Form
after_volume client v = number (λ sector. Digits (λ value. Ends (Operation client (Write v sector value))))

abbrev after_sector : ℕ → VolNo → ℕ → Form
after_sector client v sector = Digits (λ value. Ends (Operation client (Write v sector value)))

pub returns-in_err-volume : goal.returns-in_err-volume
returns-in_err-volume c = exit _ _ _ c.from_residual.ensures.1 (c.in_err-volume.ensures (after_volume c.args.client))

pub returns-in_err-number : goal.returns-in_err-number
returns-in_err-number c =
    exit _ _ _ c.from_residual-in_err-number.ensures.1 (c.in_ok-volume.ensures (after_volume c.args.client)
    ∙ c.in_err-number.ensures (after_sector c.args.client c.in_ok-volume.field-0))

pub returns-in_err-value : goal.returns-in_err-value
returns-in_err-value c =
    exit _ _ _ c.from_residual-in_err-value.ensures.1 (c.in_ok-volume.ensures (after_volume c.args.client)
    ∙ c.in_ok-number.ensures (after_sector c.args.client c.in_ok-volume.field-0)
    ∙ c.in_err-value.ensures (λ value. Ends (Operation c.args.client (Write c.in_ok-volume.field-0 c.in_ok-number.field-0 value))))

pub returns : goal.returns
returns c =
    c.end.ensures ∙ sym (c.in_ok-volume.ensures (after_volume c.args.client)
    ∙ c.in_ok-number.ensures (after_sector c.args.client c.in_ok-volume.field-0)
    ∙ c.in_ok-value.ensures (λ value. Ends (Operation c.args.client (Write c.in_ok-volume.field-0 c.in_ok-number.field-0 value))))
