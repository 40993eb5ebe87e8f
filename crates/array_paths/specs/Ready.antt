-- What holds of a control state in which each turn is a path of effects. Source: this project's own.
use Rattle.std.specs.Prelude.{◌≡◌, ℕ, ◌+◌, ◌<◌, ◌≤◌, true, false, Some}
use Rattle.units.specs.declared.bounds.TheConstants.{METADATA_SECTORS}
use Rattle.array_model.specs.Placement.{Placement}
use Rattle.array_machine.specs.Setting.{Setting}
use Rattle.array_machine.specs.Volumes.{volume_at, disk_in}
use Rattle.array_machine.specs.Operations.{volume_of, shape_of, place_at}
use Rattle.array_machine.specs.Clients.{Row, Busy}
use Rattle.array_machine.specs.Control.{Control}
use Rattle.array_paths.specs.InTurn.{job_of}
use Rattle.array_paths.specs.ClientMove.{fits_op}

-- a disk has room for the volume's rows before the sectors that are kept for metadata
abbrev pub HasRoomFor : Setting → (v d : ℕ) → Type 0
HasRoomFor S v d = (shape_of S v).pba + (shape_of S v).rows + METADATA_SECTORS ≤ S.start.disks.sectors d

-- a job that goes on is of an operation whose sector its volume has, or that names none
abbrev pub JobsFit : Setting → Control → Type 0
JobsFit S c = (k i : ℕ) (r : Row) → job_of c k ≡ Busy i r → fits_op S i ≡ true

-- the volumes were started at opening, while a volume isn't broken the disk of each of its slots has room for its rows,
-- and the jobs fit
pub record Ready (S : Setting) (c : Control) : Type 0 where
  pub started : (v : ℕ) → (volume_at c.volumes v).started ≡ true → S.start.is_started v ≡ true
  pub room : (v s d : ℕ) → (volume_at c.volumes v).broken ≡ false
      → disk_in (volume_at c.volumes v).slots s ≡ Some d → HasRoomFor S v d
  pub jobs : JobsFit S c

-- each operation's row is one of its volume's
abbrev pub RowsInside : Setting → Type 0
RowsInside S =
    (i : ℕ) (place : Placement) → place_at S i ≡ Some place → place.row < (shape_of S (volume_of S i)).rows
