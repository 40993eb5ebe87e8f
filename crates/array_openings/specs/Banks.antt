-- A bank at rest: the block of a container stands at the end of each disk that it expects, a spare's block at the end
-- of each spare, and nothing on other disks. What a run over it is given. Source: this project's own.
use Rattle.std.specs.Prelude.{◌≡◌, ℕ, ◌-◌, ◌<◌, ◌&&◌, not, nat_lt, nat_le, Bool, true, false, if◌then◌else◌, List, [], ◌∷◌, ◌++◌, length, map, All, slice_index, slice_index_or, Option, Some, None}
use Rattle.std.specs.List.{position}
use Rattle.std.specs.Option.{option_map_or}
use Rattle.std.specs.Str.{bytes_eq}
use Rattle.units.specs.declared.bounds.TheConstants.{MAX_VOLUMES}
use Rattle.units.specs.declared.disk.Sector.{Sector}
use Rattle.units.specs.Places.{anchor_place}
use Rattle.imsm_base.specs.Layout.{serial_of}
use Rattle.imsm_base.specs.Volumes.{is_expected_at, wants_pass}
use Rattle.imsm_base.specs.Whole.{AreApart}
use Rattle.array_model.specs.AnswerLaw.{xor_bytes}
use Rattle.array_model.specs.Blocks.{Laid, is_container}
use Rattle.array_model.specs.Script.{Asked, sector_of}
use Rattle.array_model.specs.Start.{Disks, Start}
use Rattle.block_meaning.specs.Meaning.{bytes_of_laid, has_place, of_volume}
use Rattle.block_meaning.specs.Reading.{parts_of, block_words}
use Rattle.new_container.specs.declared.disk.NewDisk.{NewDisk}
use Rattle.new_container.specs.Created.{IsDisk}
use Rattle.array_machine.specs.Numbers.{has}
use Rattle.array_machine.specs.Setting.{BlockTests, Setting}
use Rattle.array_edits.specs.Formed.{is_formed}
use Rattle.array_edits.specs.Records.{is_in_use}
use Rattle.array_edits.specs.RealEdits.{real_edit}
use Rattle.array_openings.specs.Spares.{spare_block}

-- the disks, the container's block, the volumes that are started, the spares by their numbers, and a script
pub record Bank : Type 0 where
  pub disks : List NewDisk
  pub block : Laid
  pub started : ℕ → Bool
  pub spares : List ℕ
  pub asked : Asked

-- THE DISKS

abbrev pub serial_in : List NewDisk → ℕ → List ℕ
serial_in disks d = slice_index_or (map (λ (x : NewDisk). x.serial.0) disks) d []

abbrev pub sectors_in : List NewDisk → ℕ → ℕ
sectors_in disks d = slice_index (map (λ (x : NewDisk). x.sectors) disks) d

-- the block that stands at the end of a disk: a member's, a spare's, or none
abbrev pub stands_on : Bank → ℕ → Option Laid
stands_on k d =
    if block_words.expects k.block (serial_in k.disks d) then Some k.block
    else (if has d k.spares then Some (spare_block (serial_in k.disks d) (sectors_in k.disks d)) else None)

-- place p of a disk of n sectors at whose end a block stands: its extended sectors come right before its anchor
abbrev pub place_of_block : Laid → (n p : ℕ) → Sector
place_of_block m n p =
    let first = anchor_place n - length m.extended in
    if nat_le first p then slice_index_or (m.extended ++ m.anchor ∷ []) (p - first) (sector_of 0) else sector_of 0

abbrev pub place_with : Option Laid → (n p : ℕ) → Sector
place_with None n p = sector_of 0
place_with (Some m) n p = place_of_block m n p

abbrev pub disks_of_bank : Bank → Disks
disks_of_bank k = record {
  count = length k.disks;
  serial = serial_in k.disks;
  sectors = sectors_in k.disks;
  opening = λ d p. place_with (stands_on k d) (sectors_in k.disks d) p;
}

-- A RUN

-- a volume that was started begins a pass where the block says that it wants one
abbrev pub pass_from_block : Bank → ℕ → Option ℕ
pass_from_block k v =
    if k.started v && of_volume (parts_of k.block) v (wants_pass (parts_of k.block)) false
    then Some (block_words.pass_start k.block v) else None

-- rows are zeros throughout, so each volume holds zeros
abbrev pub start_of_bank : Bank → Start
start_of_bank k = record {
  words = block_words;
  disks = disks_of_bank k;
  newest = k.block;
  is_started = k.started;
  pass_from = pass_from_block k;
  is_spare = λ d. has d k.spares;
  counts_out = [];
  content = λ v s. sector_of 0;
  unsure = λ v s. false;
}

-- what updates and takeovers ask of the bytes of blocks
abbrev pub byte_tests : BlockTests
byte_tests = record {
  same_block = λ a b. bytes_eq (bytes_of_laid a) (bytes_of_laid b);
  is_full = λ m. not (has_place (parts_of m));
  is_failed = λ m i. nat_lt i (length (parts_of m).disks) && not (is_expected_at (parts_of m) i);
  is_used = λ m serial. option_map_or (λ i. is_in_use i (parts_of m))
      (position (λ d. bytes_eq (serial_of d) serial) (parts_of m).disks) false;
}

abbrev pub setting_of_bank : Bank → Setting
setting_of_bank k = record {
  start = start_of_bank k;
  asked = k.asked;
  edit = real_edit (start_of_bank k);
  spare = λ book d. spare_block (serial_in k.disks d) (sectors_in k.disks d);
  xor = λ a b. record { 0 = xor_bytes a.0 b.0 };
  tests = byte_tests;
}

-- Disks have serials of their own. The block is a container's of the form that edits keep, and it is whole on each disk
-- that it expects: one at least. Spares are disks of the bank.
pub record IsAtRest (k : Bank) : Type 0 where
  pub typed : All IsDisk k.disks
  pub apart : AreApart (map (λ (x : NewDisk). x.serial.0) k.disks)
  pub few : (v : ℕ) → k.started v ≡ true → v < MAX_VOLUMES
  pub formed : is_formed (start_of_bank k) k.block ≡ true
  pub container : is_container block_words k.block ≡ true
  pub whole : (d : ℕ) → d < length k.disks → block_words.expects k.block (serial_in k.disks d) ≡ true
      → block_words.is_whole (serial_in k.disks d) (sectors_in k.disks d) k.block ≡ true
  pub member : ℕ
  pub expected : block_words.expects k.block (serial_in k.disks member) ≡ true
  pub spares : (d : ℕ) → has d k.spares ≡ true → d < length k.disks
