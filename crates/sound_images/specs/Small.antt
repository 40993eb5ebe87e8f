-- Small disks for the examples: a volume of two rows over two, three or four disks of four sectors. Source: this
-- project's own.
use Rattle.std.specs.Prelude.{ℕ, ◌+◌, ◌*◌, ◌==◌, not, Bool, true, if◌then◌else◌, List, [], ◌∷◌, length, map, filter, slice_index, slice_index_or, Some, None, bytes_eq}
use Rattle.std.specs.List.{list_any, range_with_len}
use Rattle.units.specs.declared.disk.Sector.{Sector}
use Rattle.units.specs.declared.volume.Level.{Level}
use Rattle.units.specs.declared.volume.Level.TheVariants.{One, Five, Ten}
use Rattle.units.specs.Levels.{suffices, data_members}
use Rattle.array_model.specs.Blocks.{Laid, Words, SlotWords}
use Rattle.array_model.specs.Placement.{Shape}
use Rattle.sound_images.specs.Images.{Image}
use Rattle.sound_images.specs.Sound.{SoundImages}

-- A block's bytes are its generation, whether its volume is unfinished, the serial of the disk that it calls failed (or
-- 0), its family, and the row at which a pass starts.
abbrev pub byte_at : ℕ → Laid → ℕ
byte_at k m = slice_index m.anchor.0 k

abbrev pub bytes_of : Laid → List ℕ
bytes_of m = m.anchor.0

abbrev pub members_at : Level → ℕ
members_at One = 2
members_at Five = 3
members_at Ten = 4

abbrev pub small_slot : Laid → ℕ → SlotWords
small_slot m slot =
    let sound : Bool = not (slot + 1 == byte_at 2 m) in
    record { index = slot; serial = (slot + 1) ∷ []; is_expected = sound; is_in_sync = sound }

abbrev pub small_slots : Level → Laid → ℕ → List SlotWords
small_slots level m v = if v == 0 then map (small_slot m) (range_with_len 0 (members_at level)) else []

-- the serials of the disks that a block expects
abbrev pub small_expected : Level → Laid → List (List ℕ)
small_expected level m = map (λ slot. slot.serial) (filter (λ slot. slot.is_expected) (small_slots level m 0))

abbrev pub small_shape : Level → Shape
small_shape level = record {
  level = Some level;
  members = members_at level;
  size = 2 * data_members level (members_at level);
  strip = 1;
  pba = 0;
  rows = 2;
}

abbrev pub small_words : Level → Words
small_words level = record {
  extra = λ s. 0;
  generation = λ s. slice_index s.0 0;
  is_whole = λ serial n m. length m.anchor.0 == 5;
  volumes = λ m. 1;
  family = λ m. byte_at 3 m;
  has_record = λ m serial. list_any (λ x. bytes_eq x serial) (map (λ slot. slot.serial) (small_slots level m 0));
  expects = λ m serial. list_any (λ x. bytes_eq x serial) (small_expected level m);
  has_room = λ m. true;
  is_supported = λ m v. v == 0;
  is_dirty = λ m v. byte_at 1 m == 1;
  is_unfinished = λ m v. byte_at 1 m == 1;
  can_run = λ m v. suffices (Some level) (map (λ slot. slot.is_in_sync) (small_slots level m v));
  pass = λ m v. None;
  unit = λ m v. 0;
  pass_start = λ m v. byte_at 4 m;
  shape = λ m v. small_shape level;
  slots = small_slots level;
}

-- BLOCKS

abbrev pub sector : ℕ → Sector
sector byte = record { 0 = byte ∷ [] }

abbrev pub clean : ℕ → Sector
clean generation = record { 0 = generation ∷ 0 ∷ 0 ∷ 7 ∷ 0 ∷ [] }

abbrev pub dirty : ℕ → Sector
dirty generation = record { 0 = generation ∷ 1 ∷ 0 ∷ 7 ∷ 0 ∷ [] }

-- clean, without the first disk
abbrev pub failed_first : ℕ → Sector
failed_first generation = record { 0 = generation ∷ 0 ∷ 1 ∷ 7 ∷ 0 ∷ [] }

-- of another family
abbrev pub strange : ℕ → Sector
strange generation = record { 0 = generation ∷ 0 ∷ 0 ∷ 8 ∷ 0 ∷ [] }

-- unfinished, with a pass that has left row 0 behind
abbrev pub passing : ℕ → Sector
passing generation = record { 0 = generation ∷ 1 ∷ 0 ∷ 7 ∷ 1 ∷ [] }

-- a block of one sector
abbrev pub laid : Sector → Laid
laid anchor = record { anchor = anchor; extended = [] }

-- DISKS

-- a disk with this block, and what stands in its two rows
abbrev pub disk : ℕ → Sector → (first second : ℕ) → Image
disk serial anchor first second = record {
  serial = serial ∷ [];
  sectors = 4;
  at = λ place. slice_index_or (sector first ∷ sector second ∷ anchor ∷ []) place (record { 0 = [] });
}

-- each sector holds its number and one more; the first is unsure
abbrev pub content : ℕ → ℕ → Sector
content v s = sector (s + 1)

abbrev pub unsure : ℕ → ℕ → Bool
unsure v s = s == 0

-- a stop in the round that makes the volume dirty: the first disk has its block, the others have the one before
abbrev pub stopped_in_round : Level → List Image
stopped_in_round One = disk 1 (dirty 2) 1 2 ∷ disk 2 (clean 1) 1 2 ∷ []
stopped_in_round Five = disk 1 (dirty 2) 1 3 ∷ disk 2 (clean 1) 2 7 ∷ disk 3 (clean 1) 3 4 ∷ []
stopped_in_round Ten =
    disk 1 (dirty 2) 1 3 ∷ disk 2 (clean 1) 1 3 ∷ disk 3 (clean 1) 2 4 ∷ disk 4 (clean 1) 2 4 ∷ []

-- UNSOUND

-- two disks with these blocks, and what the second of them has in its two rows: the first has 1 and 2
abbrev pub two_disks : (one other : Sector) → (first second : ℕ) → List Image
two_disks one other first second = disk 1 one 1 2 ∷ disk 2 other first second ∷ []

-- a parity volume without its first disk, and what its second disk has in the second row, where the first one's data is
-- told by the two others: with 7 there it is 3
abbrev pub without_first : (second : ℕ) → List Image
without_first second = disk 2 (failed_first 1) 2 second ∷ disk 3 (failed_first 1) 3 4 ∷ []

-- at a level, with this mark, small disks are sound
abbrev pub AreSoundAt : Level → List Image → ℕ → Type 0
AreSoundAt level images mark = SoundImages (small_words level) bytes_of images content unsure mark
