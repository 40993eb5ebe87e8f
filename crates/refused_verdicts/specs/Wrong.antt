-- What a careless or a lazy program would say of a container. Source: this project's own.
use Rattle.std.specs.Prelude.{◌≡◌, ℕ, ◌⊎◌, true, List, [], ◌∷◌, Contains, codes, slice_get, Some}
use Rattle.std.specs.Int.{bit_at}
use Rattle.units.specs.declared.disk.Sector.{Sector}
use Rattle.units.specs.declared.disk.Serial.{Serial}
use Rattle.units.specs.declared.volume.Level.TheVariants.{Five}
use Rattle.imsm_base.specs.Fields.{Part}
use Rattle.imsm_base.specs.Layout.{Volume, serial_of, status_of}
use Rattle.imsm_base.specs.Parts.{block_in}
use Rattle.imsm_base.specs.Volumes.{Member, is_degraded, is_unfinished, members, volume_level}
use Rattle.imsm_base.specs.Whole.{is_expected}
use Rattle.imsm_codec.specs.Mpb.{volume_at}
use Rattle.imsm_text.specs.Text.{serial_text}
use Rattle.device_log.specs.Log.{Call}
use Rattle.image_outside.specs.Told.{BankTold}
use Rattle.verdict_lines_law.specs.Words.{words_in}
use Rattle.refused_verdicts.specs.Told.{IsOfNoUse}

-- one of a text's lines has these words
abbrev pub HasLine : List ℕ → List (List ℕ) → Type 0
HasLine text words = Contains (words_in text) words

-- the line that a disk is a member, and that it is waited for, for this cause
abbrev pub member_line : Serial → List (List ℕ)
member_line s = codes "disk" ∷ serial_text s ∷ codes "member" ∷ []

abbrev pub waits_line : Serial → List (List ℕ) → List (List ℕ)
waits_line s cause = codes "waiting" ∷ serial_text s ∷ cause

-- each record of a disk is marked as failed (bit 2, FAILED_DISK)
abbrev pub CallsFailed : List ℕ → Serial → Type 0
CallsFailed bytes s =
    (i : ℕ) (entry : Part) → slice_get (block_in bytes).disks i ≡ Some entry → serial_of entry ≡ s.0
    → bit_at (status_of entry) 2 ≡ 1

-- a member of the volume has the disk of a record that expects it, and it is of no use
pub record HasUselessMember (opening : List (List Sector)) (log : List Call) (bank : BankTold) (bytes : List ℕ)
    (v : Volume) : Type 0 where
  pub slot : Member
  pub there : Contains (members v) slot
  pub entry : Part
  pub named : slice_get (block_in bytes).disks slot.index ≡ Some entry
  pub expected : is_expected entry ≡ true
  pub useless : IsOfNoUse opening log bank entry

-- the volume of a number is of RAID 5 and unfinished, and a member is out of sync by the block or has a disk of no use
pub record IsTorn (opening : List (List Sector)) (log : List Call) (bank : BankTold) (bytes : List ℕ)
    (k : ℕ) : Type 0 where
  pub level : volume_level (volume_at k (block_in bytes)) ≡ Some Five
  pub unfinished : is_unfinished (volume_at k (block_in bytes)) ≡ true
  pub degraded : (is_degraded (block_in bytes) (volume_at k (block_in bytes)) ≡ true)
      ⊎ HasUselessMember opening log bank bytes (volume_at k (block_in bytes))

-- a disk's serial is told by its name: a record that is printed by that name has that serial
abbrev pub TellsByName : List ℕ → Serial → Type 0
TellsByName bytes s =
    (i : ℕ) (entry : Part) → slice_get (block_in bytes).disks i ≡ Some entry
    → serial_text (record { 0 = serial_of entry }) ≡ serial_text s → serial_of entry ≡ s.0
