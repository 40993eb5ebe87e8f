-- What laws on rows ask of an opening beside its metadata: volumes lie apart, each can run, and its rows hold the
-- content. Source: the ranges of imsm_map of super-intel.c, and the members that the kernel's md.rst asks of a level.
use Rattle.std.specs.Prelude.{◌≡◌, ℕ, ◌+◌, ◌<◌, ◌≤◌, true, List, [], length, Some}
use Rattle.block_meaning.specs.Reading.{block_words}
use Rattle.array_machine.specs.Setting.{Setting}
use Rattle.array_machine.specs.Operations.{shape_of}
use Rattle.array_machine.specs.Volumes.{Volume, volume_at, disk_in, members_of, can_run}
use Rattle.array_openings.specs.Banks.{Bank, serial_in, setting_of_bank}

-- no sector of a disk is in a row of two started volumes
abbrev pub VolumesLieApart : Setting → Type 0
VolumesLieApart S =
    (v w row other : ℕ) → S.start.is_started v ≡ true → S.start.is_started w ≡ true → row < (shape_of S v).rows
    → other < (shape_of S w).rows → (shape_of S v).pba + row ≡ (shape_of S w).pba + other → v ≡ w

-- Volumes lie apart. One that was started has the slots of its level, of which enough are in sync on disks of the bank.
-- Each row on a disk in a slot holds what the content says.
pub record OpensSound (S : Setting) (volumes : List Volume) : Type 0 where
  pub apart : VolumesLieApart S
  pub runs : (v : ℕ) → S.start.is_started v ≡ true
      → can_run (shape_of S v).level (members_of [] [] (volume_at volumes v).slots) ≡ true
  pub count : (v : ℕ) → S.start.is_started v ≡ true → length (volume_at volumes v).slots ≡ (shape_of S v).members
  pub some : (v : ℕ) → S.start.is_started v ≡ true → 2 ≤ length (volume_at volumes v).slots
  pub holds : (v t d row sector : ℕ) → S.start.is_started v ≡ true
      → disk_in (volume_at volumes v).slots t ≡ Some d → row < (shape_of S v).rows
      → S.start.disks.opening d ((shape_of S v).pba + row) ≡ S.start.content v sector

-- a disk of the bank has the serial
pub record IsThere (k : Bank) (serial : List ℕ) : Type 0 where
  pub disk : ℕ
  pub below : disk < length k.disks
  pub is : serial_in k.disks disk ≡ serial

-- the volumes lie apart, each disk that the block expects is there, and each started volume can run
pub record HasSoundVolumes (k : Bank) : Type 0 where
  pub apart : VolumesLieApart (setting_of_bank k)
  pub there : (serial : List ℕ) → block_words.expects k.block serial ≡ true → IsThere k serial
  pub runs : (v : ℕ) → k.started v ≡ true → block_words.can_run k.block v ≡ true
