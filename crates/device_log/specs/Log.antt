-- The log of a bank's device calls, the oldest first. Source: this project's own.
use Rattle.std.specs.Prelude.{ℕ, Bool, List, ⊤}
use Rattle.std.specs.List.{AllByRecursion}
use Rattle.units.specs.declared.disk.Sector.{Sector}

-- what was asked of a disk; of a write also how many of its first sectors were stored, which a failed write may
-- leave at any number and one that went through leaves at all
pub data What : Type 0 where
  Read : (place : ℕ) → What
  Write : (place : ℕ) → (sectors : List Sector) → (stored : ℕ) → What
  Sync : What

-- one call: the number of the disk, what was asked, and whether it went through
pub record Call : Type 0 where
  pub disk : ℕ
  pub what : What
  pub went : Bool

-- what was asked is a read
abbrev pub IsReadCall : What → Type 0
IsReadCall (Read place) = ⊤
IsReadCall (Write place sectors stored) = ⊥
IsReadCall Sync = ⊥

abbrev pub OnlyReads : List Call → Type 0
OnlyReads log = AllByRecursion (λ call. IsReadCall call.what) log
