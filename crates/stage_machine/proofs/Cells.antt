-- What stands at a place of a disk, after a log.
use Rattle.std.proofs.Common.{◌≡◌, ℕ, ◌==◌, if◌then◌else◌, Bool, true, false, List, [], ◌∷◌, refl, ap, ◌∙◌}
use Rattle.device_log.specs.Log.{Call}
use Rattle.device_log.specs.Cells.{Cell, resting, cell_at, cell_called, cell_after}
use Rattle.array_model.specs.Blocks.{Words}
use Rattle.array_model.specs.Start.{Disks}
use Rattle.array_model.specs.Candidates.{Disk, standing, disk_at, disk_called, disk_from, disk_after, opened, opened_with}

called_cells : (W : Words) (disks : Disks) (d p : ℕ) (k : Disk) (call : Call) → (disk_called W disks d k call).cells p ≡ cell_called d p (k.cells p) call
called_cells W disks d p k call = at (call.disk == d)
  where
    at : (b : Bool) → (if b then disk_at W (disks.serial d) (disks.sectors d) k call.what call.went else k).cells p ≡ (if b then cell_at p (k.cells p) call.what call.went else k.cells p)
    at true = refl
    at false = refl

from_cells : (W : Words) (disks : Disks) (d p : ℕ) (k : Disk) (log : List Call) → (disk_from W disks d k log).cells p ≡ cell_after d p (k.cells p) log
from_cells W disks d p k [] = refl
from_cells W disks d p k (call ∷ log) =
    from_cells W disks d p (disk_called W disks d k call) log ∙ ap (λ (c : Cell). cell_after d p c log) (called_cells W disks d p k call)

pub opened_cells : (W : Words) (disks : Disks) (d p : ℕ) → (opened W disks d).cells p ≡ resting (disks.opening d p)
opened_cells W disks d p = at (W.is_whole (disks.serial d) (disks.sectors d) (standing W (disks.sectors d) (λ q. resting (disks.opening d q))))
  where
    at : (b : Bool) → (opened_with W (λ q. resting (disks.opening d q)) (standing W (disks.sectors d) (λ q. resting (disks.opening d q))) b).cells p ≡ resting (disks.opening d p)
    at true = refl
    at false = refl

-- how blocks are read doesn't matter to the cells
pub cells_after : (W : Words) (disks : Disks) (log : List Call) (d p : ℕ) → (disk_after W disks log d).cells p ≡ cell_after d p (resting (disks.opening d p)) log
cells_after W disks log d p =
    from_cells W disks d p (opened W disks d) log ∙ ap (λ (c : Cell). cell_after d p c log) (opened_cells W disks d p)
