-- Settings of real blocks: their words are those of the bytes, and their edits those of the bytes. Source: this
-- project's own.
use Rattle.std.specs.Prelude.{◌≡◌, ℕ, ◌<◌, ◌≤◌, true, ⊤}
use Rattle.units.specs.declared.bounds.TheConstants.{METADATA_SECTORS}
use Rattle.array_model.specs.Blocks.{Laid}
use Rattle.block_meaning.specs.Meaning.{ReadsBlocks}
use Rattle.array_machine.specs.Setting.{Facts, Edit, ActivatesDisk, Setting}
use Rattle.array_edits.specs.RealEdits.{real_edit}
use Rattle.array_edits.specs.Formed.{IsEditable}

pub record IsReal (S : Setting) : Type 0 where
  pub reads : ReadsBlocks S.start.words
  pub edits : (f : Facts) (m : Laid) (e : Edit) → S.edit f m e ≡ real_edit S.start f m e
  pub can : IsEditable S.start

-- no two disks of the bank have one serial
abbrev pub HasOwnSerials : Setting → Type 0
HasOwnSerials S =
    (d e : ℕ) → d < S.start.disks.count → e < S.start.disks.count → S.start.disks.serial d ≡ S.start.disks.serial e
    → d ≡ e

-- the block is whole on each disk of the bank that it expects
abbrev pub IsWholeOnExpected : Setting → Laid → Type 0
IsWholeOnExpected S m =
    (d : ℕ) → d < S.start.disks.count → S.start.words.expects m (S.start.disks.serial d) ≡ true
    → S.start.words.is_whole (S.start.disks.serial d) (S.start.disks.sectors d) m ≡ true

-- a disk that is activated has the sectors that metadata takes
abbrev pub HasMetadataSectors : Setting → Edit → Type 0
HasMetadataSectors S (ActivatesDisk s i) =
    (d : ℕ) → d < S.start.disks.count → s ≡ S.start.disks.serial d → METADATA_SECTORS ≤ S.start.disks.sectors d
HasMetadataSectors S _ = ⊤
