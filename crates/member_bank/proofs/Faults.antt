-- Counts of faults that rose.
use Rattle.std.proofs.Common.{ℕ, ◌≤◌, arith}
use Rattle.member_bank.specs.Faults.{Rose}

-- a count that rose at last has risen over all
pub rose_later : (before mid now : ℕ) → before ≤ mid → Rose mid now → Rose before now
rose_later before mid now later rose = omega arith
