-- Locks of rows: a job holds the row of its volume from its first call to its answer, and a pass the row that it is in
-- until it has left it. Source: this project's own, over the stripe locks of the kernel's raid5.c and the barriers of
-- its raid1.c and raid10.c.
use Rattle.std.specs.Prelude.{ℕ, ◌+◌, ◌==◌, ◌||◌, ◌&&◌, not, Bool, false, List, [], ◌∷◌, Option, Some, None}
use Rattle.std.specs.Option.{option_map_or}
use Rattle.array_machine.specs.Setting.{Setting}
use Rattle.array_machine.specs.Volumes.{Pass, volume_at}
use Rattle.array_machine.specs.Operations.{volume_of, the_place}
use Rattle.array_machine.specs.Clients.{Job, NoJob, Submitted, Busy, Client}
use Rattle.array_machine.specs.Control.{Control}

-- a job holds a row of volume v
abbrev pub holds : Setting → ℕ → ℕ → Job → Bool
holds S v row NoJob = false
holds S v row (Submitted i) = false
holds S v row (Busy i r) = r.begun && (volume_of S i == v) && ((the_place S i).row == row)

-- one of the clients from number j on holds it, but for client k
abbrev pub locked_from : Setting → ℕ → ℕ → ℕ → ℕ → List Client → Bool
locked_from S v row k j [] = false
locked_from S v row k j (c ∷ cs) = (not (j == k) && holds S v row c.job) || locked_from S v row k (j + 1) cs

-- the pass of a volume holds it
abbrev pub pass_holds : ℕ → Option Pass → Bool
pass_holds row None = false
pass_holds row (Some p) = option_map_or (λ r. r == row) p.lock false

-- another client than k, or the volume's pass, holds it
abbrev pub is_locked : Setting → Control → ℕ → ℕ → ℕ → Bool
is_locked S c v row k = locked_from S v row k 0 c.clients || pass_holds row (volume_at c.volumes v).pass
