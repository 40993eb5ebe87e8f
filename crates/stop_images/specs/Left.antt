-- What a stop leaves of disks, as images. Source: this project's own model of a disk, which `device_log` states for one
-- place: a write that isn't synced may be there whole, in part or not at all, so that a place to which it brought
-- something else is loose, and may hold anything.
use Rattle.std.specs.Prelude.{◌≡◌, ℕ, ◌<◌, ◌≤◌, List, map, length, take, slice_get, Some}
use Rattle.std.specs.List.{range_with_len}
use Rattle.device_log.specs.Log.{Call}
use Rattle.device_log.specs.Cells.{Cell, resting, cell_after, MayLeave}
use Rattle.array_model.specs.Start.{Disks}
use Rattle.sound_images.specs.Images.{Image}

-- place p of disk d after a log of calls since opening
abbrev pub cell_on : Disks → List Call → (d p : ℕ) → Cell
cell_on disks log d p = cell_after d p (resting (disks.opening d p)) log

-- THE DISKS AS THEY STAND

abbrev pub image_after : Disks → List Call → ℕ → Image
image_after disks log d =
    record { serial = disks.serial d; sectors = disks.sectors d; at = λ p. (cell_on disks log d p).stood }

abbrev pub images_after : Disks → List Call → List Image
images_after disks log = map (image_after disks log) (range_with_len 0 disks.count)

-- WHAT A STOP LEAVES

-- a stop behind a log may leave this of disk d: its serial, its sectors, and at each of its places what may be left
pub record IsLeftOf (disks : Disks) (log : List Call) (d : ℕ) (i : Image) : Type 0 where
  pub serial : i.serial ≡ disks.serial d
  pub sectors : i.sectors ≡ disks.sectors d
  pub places : (p : ℕ) → p < disks.sectors d → MayLeave (cell_on disks log d p) (i.at p)

-- it may leave these of all disks, in the order of their numbers
pub record AreLeft (disks : Disks) (log : List Call) (images : List Image) : Type 0 where
  pub count : length images ≡ disks.count
  pub each : (d : ℕ) (i : Image) → slice_get images d ≡ Some i → IsLeftOf disks log d i

-- A stop in a run that makes these calls leaves what one behind some first of them may leave. Inside a call it leaves
-- what one before or behind that call may: where a write is under way its places are loose behind it.
pub record StopLeaves (disks : Disks) (calls : List Call) (images : List Image) : Type 0 where
  pub made : ℕ
  pub some : made ≤ length calls
  pub left : AreLeft disks (take made calls) images
