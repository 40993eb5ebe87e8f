-- A small setting: a mirror of two disks, and a third that is blank and is to be added. A block is one sector of
-- numbers: whether it is a container's, its generation, whether its volume is dirty, of each disk whether it is
-- expected, and of both slots whether they are in sync. Source: this project's own.
use Rattle.std.specs.Prelude.{ℕ, ◌==◌, ◌||◌, ◌&&◌, not, nat_le, nat_lt, Bool, true, false, if◌then◌else◌, List, [], ◌∷◌, map, slice_index, Option, Some, None}
use Rattle.std.specs.Str.{bytes_eq}
use Rattle.units.specs.declared.disk.Sector.{Sector}
use Rattle.units.specs.declared.bounds.TheConstants.{METADATA_SECTORS}
use Rattle.units.specs.declared.volume.Level.TheVariants.{One}
use Rattle.array_model.specs.declared.script.Ask.TheVariants.{Add}
use Rattle.array_model.specs.Blocks.{Laid, SlotWords, Words, laid_eq}
use Rattle.array_model.specs.Placement.{Shape}
use Rattle.array_model.specs.Start.{Disks}
use Rattle.array_machine.specs.Numbers.{is_empty}
use Rattle.array_machine.specs.Setting.{Facts, Edit, TakesGeneration, FailsDisk, CountsOut, MakesDirty, MakesClean, RecordsUnit, ClosesPass, StartsVolume, ActivatesDisk, RemovesDisk, NamesVolume, Setting}
use Rattle.array_machine.specs.States.{IsReadonly}
use Rattle.array_machine.specs.Volumes.{Volume}
use Rattle.array_base.specs.Opening.{slot_opened}

-- BLOCKS

-- the numbers of a block; 1 says yes
pub record Said : Type 0 where
  pub kind : ℕ
  pub generation : ℕ
  pub dirty : ℕ
  pub first : ℕ
  pub second : ℕ
  pub third : ℕ
  pub first_sync : ℕ
  pub second_sync : ℕ

abbrev pub said : Laid → Said
said m = record {
  kind = slice_index m.anchor.0 0;
  generation = slice_index m.anchor.0 1;
  dirty = slice_index m.anchor.0 2;
  first = slice_index m.anchor.0 3;
  second = slice_index m.anchor.0 4;
  third = slice_index m.anchor.0 5;
  first_sync = slice_index m.anchor.0 6;
  second_sync = slice_index m.anchor.0 7;
}

abbrev pub spelled : Said → Laid
spelled x = record {
  anchor = record {
    0 = x.kind ∷ x.generation ∷ x.dirty ∷ x.first ∷ x.second ∷ x.third ∷ x.first_sync ∷ x.second_sync ∷ [];
  };
  extended = [];
}

abbrev pub bit : Bool → ℕ
bit true = 1
bit false = 0

abbrev pub says_yes : ℕ → Bool
says_yes n = n == 1

abbrev pub serial_of : ℕ → List ℕ
serial_of d = d ∷ []

-- a serial is that of a disk which a number calls expected
abbrev pub is_at : List ℕ → ℕ → ℕ → Bool
is_at serial d n = bytes_eq serial (serial_of d) && says_yes n

abbrev pub expected_in : Said → List ℕ → Bool
expected_in x serial = is_at serial 0 x.first || is_at serial 1 x.second || is_at serial 2 x.third

-- both slots have their records for ever, the third disk has one while it is expected
abbrev pub recorded_in : Said → List ℕ → Bool
recorded_in x serial =
    bytes_eq serial (serial_of 0) || bytes_eq serial (serial_of 1) || is_at serial 2 x.third

abbrev pub slot_of : (d expected in_sync : ℕ) → SlotWords
slot_of d expected in_sync = record {
  index = d;
  serial = serial_of d;
  is_expected = says_yes expected;
  is_in_sync = says_yes in_sync && says_yes expected;
}

abbrev pub slots_in : Said → List SlotWords
slots_in x = slot_of 0 x.first x.first_sync ∷ slot_of 1 x.second x.second_sync ∷ []

-- a rebuild (1) is open while a slot of an expected disk is out of sync
abbrev pub is_to_rebuild : (expected in_sync : ℕ) → Bool
is_to_rebuild expected in_sync = says_yes expected && not (says_yes in_sync)

abbrev pub pass_in : Said → Option ℕ
pass_in x =
    if is_to_rebuild x.first x.first_sync || is_to_rebuild x.second x.second_sync then Some 1 else None

abbrev pub has_none : List Sector → Bool
has_none [] = true
has_none (s ∷ ss) = false

abbrev pub the_shape : Shape
the_shape = record { level = Some One; members = 2; size = 8; strip = 8; pba = 0; rows = 8 }

abbrev pub toy_words : Words
toy_words = record {
  extra = λ s. 0;
  generation = λ s. slice_index s.0 1;
  is_whole = λ serial n m. nat_le METADATA_SECTORS n && has_none m.extended && not (is_empty m.anchor.0);
  volumes = λ m. (said m).kind;
  family = λ m. 7;
  has_record = λ m serial. recorded_in (said m) serial;
  expects = λ m serial. expected_in (said m) serial;
  has_room = λ m. true;
  is_supported = λ m v. v == 0;
  is_dirty = λ m v. (v == 0) && says_yes (said m).dirty;
  is_unfinished = λ m v. false;
  can_run = λ m v. v == 0;
  pass = λ m v. pass_in (said m);
  unit = λ m v. 0;
  pass_start = λ m v. 0;
  shape = λ m v. the_shape;
  slots = λ m v. slots_in (said m);
}

-- EDITS

-- a number that stays 1 unless its disk has the serial
abbrev pub unless_of : List ℕ → ℕ → ℕ → ℕ
unless_of serial d n = bit (not (bytes_eq serial (serial_of d)) && says_yes n)

-- one that turns 1 where its disk has it
abbrev pub also_of : List ℕ → ℕ → ℕ → ℕ
also_of serial d n = bit (bytes_eq serial (serial_of d) || says_yes n)

abbrev pub changed : Facts → Said → Edit → Said
changed f x (TakesGeneration g) = record x { generation = g }
changed f x (FailsDisk s) = record x {
  first = unless_of s 0 x.first;
  second = unless_of s 1 x.second;
  third = unless_of s 2 x.third;
  first_sync = unless_of s 0 x.first_sync;
  second_sync = unless_of s 1 x.second_sync;
}
changed f x (CountsOut s) = record x {
  first_sync = unless_of s 0 x.first_sync;
  second_sync = unless_of s 1 x.second_sync;
}
changed f x (MakesDirty v) = record x { dirty = 1 }
changed f x (MakesClean v) = record x { dirty = 0 }
changed f x (RecordsUnit v u) = x
changed f x (ClosesPass v) = record x {
  first_sync = bit ((f.works (serial_of 0) && says_yes x.first) || says_yes x.first_sync);
  second_sync = bit ((f.works (serial_of 1) && says_yes x.second) || says_yes x.second_sync);
}
changed f x (StartsVolume v) = x
changed f x (ActivatesDisk s i) = record x { third = also_of s 2 x.third }
changed f x (RemovesDisk s) = x
changed f x (NamesVolume v name) = x

-- THE SETTING

abbrev pub toy_newest : Laid
toy_newest = spelled (record {
  kind = 1;
  generation = 1;
  dirty = 0;
  first = 1;
  second = 1;
  third = 0;
  first_sync = 1;
  second_sync = 1;
})

-- what a spare gets
abbrev pub toy_spare : Laid
toy_spare = spelled (record {
  kind = 0;
  generation = 1;
  dirty = 0;
  first = 0;
  second = 0;
  third = 0;
  first_sync = 0;
  second_sync = 0;
})

abbrev pub nothing : Sector
nothing = record { 0 = [] }

-- the newest block stands at the end of the first two disks
abbrev pub toy_disks : Disks
toy_disks = record {
  count = 3;
  serial = serial_of;
  sectors = λ d. 4096;
  opening = λ d p. if nat_lt d 2 && (p == 4094) then toy_newest.anchor else nothing;
}

abbrev pub toy : Setting
toy = record {
  start = record {
    words = toy_words;
    disks = toy_disks;
    newest = toy_newest;
    is_started = λ v. v == 0;
    pass_from = λ v. None;
    is_spare = λ d. false;
    counts_out = [];
    content = λ v s. nothing;
    unsure = λ v s. false;
  };
  asked = record { ops = []; asks = Add 2 ∷ [] };
  edit = λ f m e. spelled (changed f (said m) e);
  spare = λ book d. toy_spare;
  xor = λ a b. a;
  tests = record {
    same_block = laid_eq;
    is_full = λ m. false;
    is_failed = λ m i. nat_lt i 2 && not (expected_in (said m) (serial_of i));
    is_used = λ m serial. true;
  };
}

-- its one volume was started
abbrev pub toy_volumes : List Volume
toy_volumes = record {
  started = true;
  state = IsReadonly;
  broken = false;
  slots = map (slot_opened toy) (slots_in (said toy_newest));
  pass = None;
} ∷ []
