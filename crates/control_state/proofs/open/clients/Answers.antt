use Rattle.std.proofs.Common.{ℕ, None, arith}
use Rattle.std.proofs.lemmas.List.FromFn.{fill_by_all}
use Rattle.control_state.specs.Events.{blank_sector}
use Rattle.control_state.proofs.open.clients.Goals as goal

pub returns : goal.returns
returns c =
    fill_by_all (λ (k : ℕ). record { number = k; next = 0; work = None; read = blank_sector }) c.loop-k.clients 16 (record { number = 0; next = 0; work = None; read = blank_sector }) c.loop-k.invariant.long
    (λ k below. c.loop-k.invariant.filled k (omega (arith, below, c.loop-k-test.false)))
