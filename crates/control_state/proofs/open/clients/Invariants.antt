use Rattle.std.proofs.Common.{◌≡◌, ℕ, ◌<◌, None, length, get_or}
use Rattle.control_state.specs.Events.{blank_sector}
use Rattle.control_state.proofs.open.clients.Given as goal

abbrev pub invariant-loop-k : goal.invariant-loop-k
invariant-loop-k l = record {
  long : length l.clients ≡ 16;
  filled : (j : ℕ) → j < l.k → get_or l.clients j (record { number = 0; next = 0; work = None; read = blank_sector }) ≡ record { number = j; next = 0; work = None; read = blank_sector };
}
