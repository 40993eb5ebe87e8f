-- Settings over the disks of a new container, and the containers of the examples. Source: this project's own.
use Rattle.std.specs.Prelude.{ℕ, nat_lt, Bool, true, false, List, [], ◌∷◌, ◌++◌, length, map, replicate, slice_index, slice_index_or, Some, None}
use Rattle.units.specs.declared.volume.Level.TheVariants.{One, Five, Ten}
use Rattle.imsm_base.specs.Layout.{bytes_of}
use Rattle.imsm_base.specs.Edits.{sealed}
use Rattle.imsm_base.specs.EditsOfTables.{block_with_migration, block_with_order, block_with_pass}
use Rattle.array_model.specs.Blocks.{Laid, laid_eq}
use Rattle.array_model.specs.Script.{sector_of}
use Rattle.array_model.specs.Start.{Disks, Start}
use Rattle.block_meaning.specs.Reading.{block_words}
use Rattle.new_container.specs.declared.container.NewContainer.{NewContainer}
use Rattle.new_container.specs.declared.disk.NewDisk.{NewDisk}
use Rattle.new_container.specs.Created.{created_block, created_bytes, volume_count}
use Rattle.new_container.specs.Example.{disk_of, mirror, mirror_disks}
use Rattle.array_machine.specs.Setting.{Facts, Edit, Setting, edited}
use Rattle.array_edits.specs.Laying.{laid_of}
use Rattle.array_edits.specs.RealEdits.{real_edit}

-- the disks by their numbers; nothing is said of what else stands on them
abbrev pub disks_over : List NewDisk → Disks
disks_over disks = record {
  count = length disks;
  serial = λ d. slice_index_or (map (λ (x : NewDisk). x.serial.0) disks) d [];
  sectors = λ d. slice_index (map (λ (x : NewDisk). x.sectors) disks) d;
  opening = λ d p. sector_of 0;
}

-- a run over a new container and further disks, which starts each of its volumes
abbrev pub start_over : NewContainer → (disks others : List NewDisk) → Start
start_over made disks others = record {
  words = block_words;
  disks = disks_over (disks ++ others);
  newest = laid_of (created_bytes made disks);
  is_started = λ v. nat_lt v (volume_count made);
  pass_from = λ v. None;
  is_spare = λ d. false;
  counts_out = [];
  content = λ v s. sector_of 0;
  unsure = λ v s. false;
}

-- Here edits alone are asked of: what makes a spare, adds up parity, and is asked by updates isn't that of real blocks.
abbrev pub setting_over : NewContainer → (disks others : List NewDisk) → Setting
setting_over made disks others = record {
  start = start_over made disks others;
  asked = record { ops = []; asks = [] };
  edit = real_edit (start_over made disks others);
  spare = λ m d. m;
  xor = λ a b. a;
  tests = record {
    same_block = laid_eq;
    is_full = λ m. false;
    is_failed = λ m index. false;
    is_used = λ m serial. false;
  };
}

-- three disks with a volume of level 5, whose block has two sectors; four with one of level 10; and two mirrors
abbrev pub five : NewContainer
five = record { family = None; first = record { level = Five; strip = 128; size = 1024 }; second = None }

abbrev pub ten : NewContainer
ten = record { family = None; first = record { level = Ten; strip = 128; size = 1024 }; second = None }

abbrev pub two_mirrors : NewContainer
two_mirrors = record {
  family = None;
  first = record { level = One; strip = 128; size = 1024 };
  second = Some (record { level = One; strip = 64; size = 512 });
}

abbrev pub three_disks : List NewDisk
three_disks = disk_of 0x41 ∷ disk_of 0x42 ∷ disk_of 0x43 ∷ []

abbrev pub four_disks : List NewDisk
four_disks = disk_of 0x41 ∷ disk_of 0x42 ∷ disk_of 0x43 ∷ disk_of 0x44 ∷ []

-- the serial of a disk with one letter
abbrev pub serial_of_letter : ℕ → List ℕ
serial_of_letter letter = letter ∷ replicate 15 0

-- no volume is broken, and each disk works, or none does
abbrev pub all_work : Facts
all_work = record { is_broken = λ v. false; works = λ serial. true }

abbrev pub none_works : Facts
none_works = record { is_broken = λ v. false; works = λ serial. false }

-- the block after edits
abbrev pub after_edits : NewContainer → (disks others : List NewDisk) → Facts → List Edit → Laid
after_edits made disks others f es = edited (setting_over made disks others) f (laid_of (created_bytes made disks)) es

-- of each slot of a volume the serial, whether its disk is expected, and whether it is in sync
abbrev pub slots_say : Laid → ℕ → List (List ℕ × Bool × Bool)
slots_say m v = map (λ s. (s.serial, s.is_expected, s.is_in_sync)) (block_words.slots m v)

-- the mirror while another system rebuilds its second slot: the second map alone calls the slot out of sync
abbrev pub in_rebuild : Laid
in_rebuild =
    let open_one = block_with_migration (created_block mirror mirror_disks) 0 in
    let begun = block_with_pass open_one 0 1 0 in
    laid_of (sealed (bytes_of (block_with_order begun 0 1 1 0x1000001)))
