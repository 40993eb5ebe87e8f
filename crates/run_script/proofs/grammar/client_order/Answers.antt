use Rattle.std.proofs.Common.{sym, ◌∙◌}
use Rattle.run_script.specs.Grammar.{operation_form}
use Rattle.run_script.proofs.Readings.{exit}
use Rattle.run_script.proofs.grammar.client_order.Goals as goal

pub returns-in_err-client : goal.returns-in_err-client
returns-in_err-client c = exit _ _ _ c.from_residual.ensures.1 (c.in_err-client.ensures (λ client. operation_form client))

pub returns : goal.returns
returns c = c.operation_order.ensures ∙ sym (c.in_ok-client.ensures (λ client. operation_form client))
