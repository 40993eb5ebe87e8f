use Rattle.std.proofs.Common.{sym, ◌∙◌}
use Rattle.run_script.specs.declared.order.Order.TheVariants.{ClientTurns}
use Rattle.run_script.specs.Forms.{Ends}
use Rattle.run_script.specs.Grammar.{count}
use Rattle.run_script.proofs.Readings.{exit}
use Rattle.run_script.proofs.grammar.client_turns_order.Goals as goal

pub returns-in_err-client : goal.returns-in_err-client
returns-in_err-client c = exit _ _ _ c.from_residual.ensures.1 (c.in_err-client.ensures (λ client. count (λ n. Ends (ClientTurns client n))))

pub returns-in_err-count : goal.returns-in_err-count
returns-in_err-count c =
    exit _ _ _ c.from_residual-in_err-count.ensures.1 (c.in_ok-client.ensures (λ client. count (λ n. Ends (ClientTurns client n)))
    ∙ c.in_err-count.ensures (λ n. Ends (ClientTurns c.in_ok-client.client n)))

pub returns : goal.returns
returns c =
    c.end.ensures ∙ sym (c.in_ok-client.ensures (λ client. count (λ n. Ends (ClientTurns client n)))
    ∙ c.in_ok-count.ensures (λ n. Ends (ClientTurns c.in_ok-client.client n)))
