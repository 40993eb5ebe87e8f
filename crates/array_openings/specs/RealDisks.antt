-- Settings over real disks: blocks are bytes, edits are those of the bytes, and disks have serials of their own.
-- Source: this project's own.
use Rattle.std.specs.Prelude.{◌≡◌, ℕ, ◌≤◌, true, []}
use Rattle.array_model.specs.Blocks.{Laid}
use Rattle.array_machine.specs.Setting.{Setting}
use Rattle.array_edits.specs.Formed.{is_formed}
use Rattle.array_edits.specs.RealSettings.{IsReal, HasOwnSerials}
use Rattle.array_openings.specs.Spares.{spare_block}

-- Words and edits are those of bytes. No two disks have one serial, and past the bank there is none. A spare gets a
-- spare's block. The newest block is of the form that edits keep.
pub record IsOverRealDisks (S : Setting) : Type 0 where
  pub real : IsReal S
  pub own : HasOwnSerials S
  pub past : (d : ℕ) → S.start.disks.count ≤ d → S.start.disks.serial d ≡ []
  pub spare : (book : Laid) (d : ℕ) → S.spare book d
      ≡ spare_block (S.start.disks.serial d) (S.start.disks.sectors d)
  pub newest : is_formed S.start S.start.newest ≡ true
