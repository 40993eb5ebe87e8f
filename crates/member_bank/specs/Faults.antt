-- Counts of faults. A count may stand still at its last value, 2 ^ 64 - 1. Source: this project's own.
use Rattle.std.specs.Prelude.{ℕ, ◌+◌, ◌-◌, ◌^◌, ◌≤◌, ◌==◌, min, Bool, if◌then◌else◌, List, slice_set, slice_index, Result, OnErr}

-- the count rose, or stands at its last value
abbrev pub Rose : ℕ → ℕ → Type 0
Rose before now = min (before + 1) (2 ^ 64 - 1) ≤ now

-- no count fell, and the call failed only where that disk's count rose
pub record HasCause {T E : Type 0} (before now : ℕ → ℕ) (disk : ℕ) (result : Result T E) : Type 0 where
  pub later : (k : ℕ) → before k ≤ now k
  pub failed : OnErr result (Rose (before disk) (now disk))

-- a count of 64 bits that rises by one, or stands still at its last value
abbrev pub next_count : ℕ → ℕ
next_count n = if n == 2 ^ 64 - 1 then n else n + 1

-- the counts of all disks after a call on one of them, which counts where it failed, and for that disk alone
abbrev pub faults_with : List ℕ → ℕ → Bool → List ℕ
faults_with faults disk went = if went then faults else slice_set faults disk (next_count (slice_index faults disk))
