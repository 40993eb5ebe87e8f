-- How calls change what a stop may leave.
use Rattle.std.proofs.Common.{◌≡◌, ℕ, ◌==◌, Bool, true, false, if◌then◌else◌, List, [], ◌∷◌, ◌++◌, sym, ◌∙◌, subst, arith}
use Rattle.std.specs.Prelude.{◌↔◌}
use Rattle.std.proofs.lemmas.List.{length-append, take-append-le}
use Rattle.units.specs.declared.disk.Sector.{Sector}
use Rattle.device_log.specs.Log.{Call, OnlyReads, Sync}
use Rattle.device_log.specs.Cells.{Cell, MayLeave, cell_synced, resting}
use Rattle.device_log.proofs.Cells.{cell_after-append, cell_after-reads}
use Rattle.array_model.specs.Start.{Disks}
use Rattle.sound_images.specs.Images.{Image}
use Rattle.stop_images.specs.Left.{AreLeft, IsLeftOf, StopLeaves, cell_on}

-- where each place that may be left so may be left by the other log too
left_by : (disks : Disks) (log other : List Call) (images : List Image) → ((d p : ℕ) (x : Sector) → MayLeave (cell_on disks log d p) x → MayLeave (cell_on disks other d p) x)
    → AreLeft disks log images → AreLeft disks other images
left_by disks log other images each left = record {
  count = left.count;
  each = λ d i at.
      let on : IsLeftOf disks log d i = left.each d i at in
      record { serial = on.serial; sectors = on.sectors; places = λ p below. each d p (i.at p) (on.places p below) };
}

narrows : (c : Cell) (own went : Bool) (x : Sector) → MayLeave (if own then cell_synced c went else c) x → MayLeave c x
narrows c true true x leaves = λ settled. leaves tt
narrows c true false x leaves = leaves
narrows c false went x leaves = leaves

pub sync_narrows : (disks : Disks) (log : List Call) (images : List Image) (d : ℕ) (went : Bool) → AreLeft disks (log ++ record { disk = d; what = Sync; went = went } ∷ []) images → AreLeft disks log images
sync_narrows disks log images d went =
    left_by disks (log ++ record { disk = d; what = Sync; went = went } ∷ []) log images (λ k p x leaves.
    narrows (cell_on disks log k p) (d == k) went x
    (subst (λ (c : Cell). MayLeave c x) (cell_after-append k p (resting (disks.opening k p)) log (record { disk = d; what = Sync; went = went } ∷ [])) leaves))

same_cell : (disks : Disks) (log reads : List Call) (d p : ℕ) → OnlyReads reads → cell_on disks (log ++ reads) d p ≡ cell_on disks log d p
same_cell disks log reads d p only = cell_after-append d p (resting (disks.opening d p)) log reads ∙ cell_after-reads d p (cell_on disks log d p) reads only

pub reads_change_nothing : (disks : Disks) (log : List Call) (images : List Image) (reads : List Call) → OnlyReads reads → AreLeft disks (log ++ reads) images ↔ AreLeft disks log images
reads_change_nothing disks log images reads only = (
  left_by disks (log ++ reads) log images (λ d p x leaves. subst (λ (c : Cell). MayLeave c x) (same_cell disks log reads d p only) leaves),
  left_by disks log (log ++ reads) images (λ d p x leaves. subst (λ (c : Cell). MayLeave c x) (sym (same_cell disks log reads d p only)) leaves),
)

pub more_calls : (disks : Disks) (calls more : List Call) (images : List Image) → StopLeaves disks calls images → StopLeaves disks (calls ++ more) images
more_calls disks calls more images stop = record {
  made = stop.made;
  some = omega (arith, stop.some, length-append calls more);
  left = subst (λ (log : List Call). AreLeft disks log images) (sym (take-append-le stop.made calls more stop.some)) stop.left;
}
