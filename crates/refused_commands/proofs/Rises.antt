-- A count that stands still didn't rise.
use Rattle.std.proofs.Common.{ℕ, arith}
use Rattle.member_bank.specs.Faults.{Rose}
use Rattle.refused_commands.specs.Wrong.{StandsStill}

pub cannot_rise : (before after : ℕ) → StandsStill before after → Rose before after → ⊥
cannot_rise before after still rose = omega (arith, still.same, still.below, rose)
