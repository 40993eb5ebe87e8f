-- What stands at a place of a disk, call by call.
use Rattle.std.proofs.Common.{◌≡◌, ℕ, ◌==◌, if◌then◌else◌, Bool, true, false, List, [], ◌∷◌, ◌++◌, refl, ◌∙◌, ap}
use Rattle.device_log.specs.Log.{Call, What, Read, Write, Sync, IsReadCall, OnlyReads}
use Rattle.device_log.specs.Cells.{Cell, cell_after, cell_at, cell_called, cell_synced}

pub cell_after-append : (d p : ℕ) (c : Cell) (log more : List Call) → cell_after d p c (log ++ more) ≡ cell_after d p (cell_after d p c log) more
cell_after-append d p c [] more = refl
cell_after-append d p c (call ∷ log) more = cell_after-append d p (cell_called d p c call) log more

-- a sync leaves what stands
pub synced_stood : (c : Cell) (went : Bool) → (cell_synced c went).stood ≡ c.stood
synced_stood c true = refl
synced_stood c false = refl

-- READS LEAVE A PLACE AS IT IS

cell_read : (p : ℕ) (c : Cell) (what : What) (went : Bool) → IsReadCall what → cell_at p c what went ≡ c
cell_read p c (Read place) went reads = refl
cell_read p c (Write place sectors stored) went reads = absurd reads
cell_read p c Sync went reads = absurd reads

pub cell_called-read : (d p : ℕ) (c : Cell) (call : Call) → IsReadCall call.what → cell_called d p c call ≡ c
cell_called-read d p c call reads = at (call.disk == d)
  where
    at : (b : Bool) → (if b then cell_at p c call.what call.went else c) ≡ c
    at true = cell_read p c call.what call.went reads
    at false = refl

pub cell_after-reads : (d p : ℕ) (c : Cell) (log : List Call) → OnlyReads log → cell_after d p c log ≡ c
cell_after-reads d p c [] reads = refl
cell_after-reads d p c (call ∷ log) reads =
    ap (λ (k : Cell). cell_after d p k log) (cell_called-read d p c call reads.0) ∙ cell_after-reads d p c log reads.1
