-- The containers of the worked rows, each as it was created: mirrors, parity volumes of three and of four members,
-- stripes of mirrors, and two volumes on the same disks. Source: this project's own.
use Rattle.std.specs.Prelude.{ℕ, ◌+◌, true, false, List, [], ◌∷◌, map, Some, None}
use Rattle.std.specs.List.{repeat, range_with_len}
use Rattle.units.specs.declared.volume.Level.{Level}
use Rattle.units.specs.declared.volume.Level.TheVariants.{One, Five, Ten}
use Rattle.units.specs.Levels.{rows_of}
use Rattle.array_model.specs.Placement.{Shape}
use Rattle.array_rows.specs.SmallBlocks.{SmallRecord, SmallSlot, SmallVolume, SmallBlock}
use Rattle.array_rows.specs.SmallSettings.{Small}

-- BLOCKS

abbrev pub shape : Level → (members strip size pba : ℕ) → Shape
shape level members strip size pba = record {
  level = Some level;
  members = members;
  size = size;
  strip = strip;
  pba = pba;
  rows = rows_of (Some level) members size strip;
}

abbrev pub expected_record : ℕ → SmallRecord
expected_record d = record { letter = 65 + d; expected = true }

abbrev pub in_slot : ℕ → SmallSlot
in_slot d = record { index = d; out = false }

abbrev pub out_slot : ℕ → SmallSlot
out_slot d = record { index = d; out = true }

abbrev pub clean_volume : List SmallSlot → SmallVolume
clean_volume slots = record { dirty = false; state = 0; pass = None; unit = 0; name = []; slots = slots }

-- so many members, in order
abbrev pub created_volume : ℕ → SmallVolume
created_volume members = clean_volume (map in_slot (range_with_len 0 members))

-- one volume of this shape, as it was created
abbrev pub created : Shape → Small
created x = record {
  block = record {
    generation = 1;
    records = map expected_record (range_with_len 0 x.members);
    volumes = created_volume x.members ∷ [];
  };
  shapes = x ∷ [];
  disks = x.members;
  out = [];
  spares = [];
  ops = [];
  asks = [];
}

-- CONTAINERS

-- two copies of so many sectors
abbrev pub mirror : ℕ → Small
mirror size = created (shape One 2 128 size 0)

-- two copies of eight sectors on the second and the third of three disks
abbrev pub mirror_behind : Small
mirror_behind = record (created (shape One 2 128 8 0)) {
  block = record {
    generation = 1;
    records = expected_record 1 ∷ expected_record 2 ∷ [];
    volumes = created_volume 2 ∷ [];
  };
  disks = 3;
}

-- so many members with strips of so many sectors, one of each row for parity
abbrev pub parity : (members strip size : ℕ) → Small
parity members strip size = created (shape Five members strip size 0)

-- two pairs of copies
abbrev pub pairs : (strip size : ℕ) → Small
pairs strip size = created (shape Ten 4 strip size 0)

-- two volumes of two copies on the same disks, each of 1,024 sectors
abbrev pub two_mirrors : Small
two_mirrors = record {
  block = record {
    generation = 1;
    records = map expected_record (range_with_len 0 2);
    volumes = created_volume 2 ∷ created_volume 2 ∷ [];
  };
  shapes = shape One 2 128 1024 0 ∷ shape One 2 128 1024 1024 ∷ [];
  disks = 2;
  out = [];
  spares = [];
  ops = [];
  asks = [];
}

-- CHANGED

-- another block stands on the disks
abbrev pub holding : SmallBlock → Small → Small
holding b s = record s { block = b }

abbrev pub of_generation : ℕ → SmallBlock → SmallBlock
of_generation g b = record b { generation = g }

-- each volume of a block, changed
abbrev pub each_with : (SmallVolume → SmallVolume) → SmallBlock → SmallBlock
each_with change b = record b { volumes = map change b.volumes }

abbrev pub made_dirty : SmallVolume → SmallVolume
made_dirty x = record x { dirty = true }

-- not initialised: its rows may differ
abbrev pub made_new : SmallVolume → SmallVolume
made_new x = record x { state = 1 }

-- a pass of this type has come to a unit of 128 rows
abbrev pub made_open : (kind unit : ℕ) → SmallVolume → SmallVolume
made_open kind unit x = record x { pass = Some kind; unit = unit }

-- a mirror whose second disk failed
abbrev pub degraded_block : ℕ → SmallBlock
degraded_block g = record {
  generation = g;
  records = expected_record 0 ∷ record { letter = 66; expected = false } ∷ [];
  volumes = record (clean_volume (in_slot 0 ∷ out_slot 1 ∷ [])) { state = 2 } ∷ [];
}

-- a volume of parity whose third disk failed, while it is dirty
abbrev pub torn_parity_block : SmallBlock
torn_parity_block = record {
  generation = 4;
  records = expected_record 0 ∷ expected_record 1 ∷ record { letter = 67; expected = false } ∷ [];
  volumes = record (clean_volume (in_slot 0 ∷ in_slot 1 ∷ out_slot 2 ∷ [])) { dirty = true; state = 2 } ∷ [];
}

-- one whose disks are all there, while it is dirty
abbrev pub dirty_parity_block : SmallBlock
dirty_parity_block = of_generation 3 (each_with made_dirty (parity 3 8 32).block)

abbrev pub named : List ℕ → SmallVolume → SmallVolume
named name x = record x { name = name }

-- of sixteen bytes: Data
abbrev pub data_name : List ℕ
data_name = 68 ∷ 97 ∷ 116 ∷ 97 ∷ repeat 12 (0 ∷ [])

-- of two volumes the first is of a level that isn't known
abbrev pub second_alone : Small
second_alone = record two_mirrors {
  shapes = record (shape One 2 128 1024 0) { level = None } ∷ shape One 2 128 1024 1024 ∷ [];
}

-- these disks count out
abbrev pub counting_out : List ℕ → Small → Small
counting_out disks s = record s { out = disks }
