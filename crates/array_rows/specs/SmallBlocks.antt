-- Small metadata blocks for worked runs: what a block says is a record, spelled as numbers in its anchor sector. Its
-- size is that of the real block with as many records, volumes and maps, so that it has as many sectors. Source: the
-- sizes are those of imsm_super and imsm_dev of super-intel.c, the rest is this project's own.
use Rattle.std.specs.Prelude.{ℕ, zero, suc, ◌+◌, ◌*◌, ◌==◌, ◌&&◌, ◌||◌, not, nat_lt, nat_le, Bool, true, false, List, [], ◌∷◌, ◌++◌, map, flat_map, length, take, drop, slice_index, slice_index_or, is_some, Option, Some, None, if◌then◌else◌}
use Rattle.std.specs.List.{repeat, list_any}
use Rattle.std.specs.Option.{option_map_or}
use Rattle.std.specs.Str.{bytes_eq}
use Rattle.units.specs.declared.bounds.TheConstants.{HEADER_BYTES, MAX_DISKS, METADATA_SECTORS, UNIT_ROWS}
use Rattle.units.specs.Levels.{suffices}
use Rattle.units.specs.Places.{extended_count}
use Rattle.array_model.specs.Placement.{Shape}
use Rattle.array_model.specs.Blocks.{Words, Laid, SlotWords, laid_eq}

-- WHAT A BLOCK SAYS

-- a disk's record: the one byte of its serial, and whether the disk is expected
pub record SmallRecord : Type 0 where
  pub letter : ℕ
  pub expected : Bool

-- a slot: the index of its record, and whether it is marked as out of sync
pub record SmallSlot : Type 0 where
  pub index : ℕ
  pub out : Bool

-- A volume: whether it is dirty; the state of its first map (0 normal, 1 uninitialised, 2 degraded, 3 failed); the type
-- of the pass that is open, and its unit; the name; the slots.
pub record SmallVolume : Type 0 where
  pub dirty : Bool
  pub state : ℕ
  pub pass : Option ℕ
  pub unit : ℕ
  pub name : List ℕ
  pub slots : List SmallSlot

pub record SmallBlock : Type 0 where
  pub generation : ℕ
  pub records : List SmallRecord
  pub volumes : List SmallVolume

-- SPELLED AS NUMBERS

abbrev pub number_of : Bool → ℕ
number_of true = 1
number_of false = 0

-- no pass is 0, a pass of type t is t + 1
abbrev pub pass_number : Option ℕ → ℕ
pass_number None = 0
pass_number (Some kind) = suc kind

abbrev pub spell_volume : SmallVolume → List ℕ
spell_volume v =
    number_of v.dirty ∷ v.state ∷ pass_number v.pass ∷ v.unit ∷ length v.name ∷ length v.slots
    ∷ (v.name ++ flat_map (λ s. s.index ∷ number_of s.out ∷ []) v.slots)

abbrev pub spell : SmallBlock → List ℕ
spell b =
    b.generation ∷ length b.records ∷ length b.volumes
    ∷ (flat_map (λ r. r.letter ∷ number_of r.expected ∷ []) b.records ++ flat_map spell_volume b.volumes)

-- AND READ

abbrev pub read_pass : ℕ → Option ℕ
read_pass zero = None
read_pass (suc kind) = Some kind

abbrev pub read_records : ℕ → List ℕ → List SmallRecord
read_records (suc n) (letter ∷ mark ∷ more) = record { letter = letter; expected = mark == 1 } ∷ read_records n more
read_records _ _ = []

abbrev pub read_slots : ℕ → List ℕ → List SmallSlot
read_slots (suc n) (index ∷ mark ∷ more) = record { index = index; out = mark == 1 } ∷ read_slots n more
read_slots _ _ = []

abbrev pub read_volumes : ℕ → List ℕ → List SmallVolume
read_volumes (suc n) (dirty ∷ state ∷ pass ∷ unit ∷ letters ∷ members ∷ more) =
    record {
      dirty = dirty == 1;
      state = state;
      pass = read_pass pass;
      unit = unit;
      name = take letters more;
      slots = read_slots members (drop letters more);
    }
    ∷ read_volumes n (drop (letters + 2 * members) more)
read_volumes _ _ = []

abbrev pub no_block : SmallBlock
no_block = record { generation = 0; records = []; volumes = [] }

abbrev pub read_block : List ℕ → SmallBlock
read_block (generation ∷ records ∷ volumes ∷ more) = record {
  generation = generation;
  records = read_records records more;
  volumes = read_volumes volumes (drop (2 * records) more);
}
read_block _ = no_block

-- LAID ON A DISK

abbrev pub maps_of : Option ℕ → ℕ
maps_of None = 1
maps_of (Some kind) = 2

abbrev pub bytes_of_volumes : List SmallVolume → ℕ
bytes_of_volumes [] = 0
bytes_of_volumes (v ∷ vs) = 112 + maps_of v.pass * (48 + 4 * length v.slots) + bytes_of_volumes vs

-- the size of the real block, in bytes
abbrev pub size_of : SmallBlock → ℕ
size_of b = HEADER_BYTES + 48 * length b.records + bytes_of_volumes b.volumes

-- the extended sectors have the generation, so that those of another block are told apart
abbrev pub lay : SmallBlock → Laid
lay b = record {
  anchor = record { 0 = spell b };
  extended = repeat (extended_count (size_of b)) (record { 0 = b.generation ∷ [] } ∷ []);
}

abbrev pub read_laid : Laid → SmallBlock
read_laid m = read_block m.anchor.0

-- ITS WORDS

abbrev pub has_letter : SmallRecord → List ℕ → Bool
has_letter r serial = bytes_eq (r.letter ∷ []) serial

abbrev pub no_record : SmallRecord
no_record = record { letter = 0; expected = false }

abbrev pub record_at : SmallBlock → ℕ → SmallRecord
record_at b i = slice_index_or b.records i no_record

abbrev pub no_volume : SmallVolume
no_volume = record { dirty = false; state = 0; pass = None; unit = 0; name = []; slots = [] }

abbrev pub volume_in : SmallBlock → ℕ → SmallVolume
volume_in b v = slice_index_or b.volumes v no_volume

abbrev pub is_in_sync : SmallBlock → SmallSlot → Bool
is_in_sync b s = not s.out && (record_at b s.index).expected

abbrev pub slot_words : SmallBlock → SmallSlot → SlotWords
slot_words b s = record {
  index = s.index;
  serial = (record_at b s.index).letter ∷ [];
  is_expected = (record_at b s.index).expected;
  is_in_sync = is_in_sync b s;
}

-- a pass that makes rows alike: a resync of either kind, or a verify
abbrev pub is_resync : ℕ → Bool
is_resync kind = (kind == 0) || (kind == 2) || (kind == 5)

abbrev pub is_unfinished_volume : SmallVolume → Bool
is_unfinished_volume v = v.dirty || (v.state == 1) || option_map_or is_resync v.pass false

-- of an open pass but a verify, the row of the unit that is recorded, where the volume is clean
abbrev pub start_of_pass : SmallVolume → ℕ
start_of_pass v = if v.dirty || option_map_or (λ kind. kind == 2) v.pass true then 0 else v.unit * UNIT_ROWS

abbrev pub no_shape : Shape
no_shape = record { level = None; members = 0; size = 0; strip = 0; pba = 0; rows = 0 }

abbrev pub small_words : List Shape → Words
small_words shapes = record {
  extra = λ s. extended_count (size_of (read_block s.0));
  generation = λ s. slice_index s.0 0;
  is_whole = λ serial sectors m.
      nat_le METADATA_SECTORS sectors && laid_eq m (lay (read_laid m))
      && list_any (λ r. has_letter r serial) (read_laid m).records;
  volumes = λ m. length (read_laid m).volumes;
  family = λ m. 7;
  has_record = λ m serial. list_any (λ r. has_letter r serial) (read_laid m).records;
  expects = λ m serial. list_any (λ r. r.expected && has_letter r serial) (read_laid m).records;
  has_room = λ m. nat_lt (length (read_laid m).records) MAX_DISKS;
  is_supported = λ m v. nat_lt v (length (read_laid m).volumes) && is_some (slice_index_or shapes v no_shape).level;
  is_dirty = λ m v. (volume_in (read_laid m) v).dirty;
  is_unfinished = λ m v. is_unfinished_volume (volume_in (read_laid m) v);
  can_run = λ m v.
      let b = read_laid m in
      suffices (slice_index_or shapes v no_shape).level (map (is_in_sync b) (volume_in b v).slots)
      && not ((volume_in b v).state == 3);
  pass = λ m v. (volume_in (read_laid m) v).pass;
  unit = λ m v. (volume_in (read_laid m) v).unit;
  pass_start = λ m v. start_of_pass (volume_in (read_laid m) v);
  shape = λ m v. slice_index_or shapes v no_shape;
  slots = λ m v. let b = read_laid m in map (slot_words b) (volume_in b v).slots;
}
