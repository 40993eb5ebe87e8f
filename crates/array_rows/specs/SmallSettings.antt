-- Small settings: from a block, the shapes of its volumes and a script, the setting of a run over disks of 4,096
-- sectors on which the block stands, and the volumes as the opening gives them. Source: this project's own.
use Rattle.std.specs.Prelude.{ℕ, ◌+◌, ◌-◌, ◌++◌, ◌&&◌, ◌||◌, not, nat_le, Bool, false, List, [], ◌∷◌, map, length, slice_index_or, Option, Some, None, if◌then◌else◌}
use Rattle.std.specs.List.{range_with_len, list_any, list_all}
use Rattle.units.specs.Levels.{suffices}
use Rattle.units.specs.declared.disk.Sector.{Sector}
use Rattle.units.specs.declared.volume.Level.{Level}
use Rattle.units.specs.declared.volume.Level.TheVariants.{Five}
use Rattle.array_model.specs.Placement.{Shape}
use Rattle.array_model.specs.Blocks.{Words, Laid, SlotWords}
use Rattle.array_model.specs.Script.{sector_of}
use Rattle.array_model.specs.AnswerLaw.{xor_bytes}
use Rattle.array_model.specs.declared.script.Op.{Op}
use Rattle.array_model.specs.declared.script.Ask.{Ask}
use Rattle.array_machine.specs.Numbers.{has, has_serial}
use Rattle.array_machine.specs.Setting.{Setting}
use Rattle.array_machine.specs.States.{IsReadonly}
use Rattle.array_machine.specs.Volumes.{Volume}
use Rattle.array_machine.specs.RoundEnds.{seat_of}
use Rattle.array_machine.specs.Machine.{World, begins_at}
use Rattle.array_rows.specs.SmallBlocks.{SmallBlock, no_shape, lay, read_laid, small_words}
use Rattle.array_rows.specs.SmallEdits.{Known, small_edit, small_tests}

-- WHAT A SETTING IS MADE FROM

-- the newest block, the shapes of its volumes, how many disks there are, those that count out and those that are
-- spares, and the script's operations and asks
pub record Small : Type 0 where
  pub block : SmallBlock
  pub shapes : List Shape
  pub disks : ℕ
  pub out : List ℕ
  pub spares : List ℕ
  pub ops : List Op
  pub asks : List Ask

-- disk d has the one letter of its number: A, B and so on
abbrev pub small_serial : ℕ → List ℕ
small_serial d = (65 + d) ∷ []

abbrev pub out_serials : Small → List (List ℕ)
out_serials s = map small_serial s.out

abbrev pub shape_at : Small → ℕ → Shape
shape_at s v = slice_index_or s.shapes v no_shape

abbrev pub the_words : Small → Words
the_words s = small_words s.shapes

abbrev pub the_newest : Small → Laid
the_newest s = lay s.block

-- the block that a spare has, of a container's generation
abbrev pub spare_block : ℕ → ℕ → Laid
spare_block generation d = lay (record {
  generation = generation;
  records = record { letter = 65 + d; expected = false } ∷ [];
  volumes = [];
})

-- OPENING

-- a slot that the opening may use: in sync by the block, on a disk that doesn't count out
abbrev pub is_sound_slot : Small → SlotWords → Bool
is_sound_slot s w = w.is_in_sync && not (has_serial w.serial (out_serials s))

abbrev pub slots_of : Small → ℕ → List SlotWords
slots_of s v = (the_words s).slots (the_newest s) v

-- parity may be wrong and a slot is lost: what the slot held can't be told any more
abbrev pub is_torn_parity : Option Level → (unfinished whole : Bool) → Bool
is_torn_parity (Some Five) unfinished whole = unfinished && not whole
is_torn_parity _ unfinished whole = false

abbrev pub starts : Small → ℕ → Bool
starts s v =
    (the_words s).is_supported (the_newest s) v && (the_words s).can_run (the_newest s) v
    && suffices (shape_at s v).level (map (is_sound_slot s) (slots_of s v))
    && not (is_torn_parity (shape_at s v).level ((the_words s).is_unfinished (the_newest s) v)
    (list_all (is_sound_slot s) (slots_of s v)))

-- a slot on an expected disk isn't in sync
abbrev pub wants_rebuild : Small → ℕ → Bool
wants_rebuild s v = list_any (λ w. w.is_expected && not (is_sound_slot s w)) (slots_of s v)

-- the row that a volume's pass starts at: row 0 where a slot counts out
abbrev pub opens_at : Small → ℕ → Option ℕ
opens_at s v =
    if starts s v && ((the_words s).is_unfinished (the_newest s) v || wants_rebuild s v)
    then Some (if list_any (λ w. has_serial w.serial (out_serials s)) (slots_of s v) then 0
    else (the_words s).pass_start (the_newest s) v)
    else None

-- THE DISKS

abbrev pub no_sector : Sector
no_sector = sector_of 0

-- of some sectors that stand from a place on
abbrev pub sector_from : (first : ℕ) → List Sector → ℕ → Sector
sector_from first sectors place =
    if nat_le first place then slice_index_or sectors (place - first) no_sector else no_sector

-- a block at the end of a disk of 4,096 sectors, its extended sectors right before its anchor
abbrev pub sector_in : Laid → ℕ → Sector
sector_in m place = sector_from (4094 - length m.extended) (m.extended ++ m.anchor ∷ []) place

-- on a disk that counts out no block is whole
abbrev pub opening_sector : Small → ℕ → ℕ → Sector
opening_sector s d place =
    if (the_words s).expects (the_newest s) (small_serial d) && not (has d s.out) then sector_in (the_newest s) place
    else (if has d s.spares then sector_in (spare_block s.block.generation d) place else no_sector)

-- THE SETTING

abbrev pub known : Small → Known
known s = record { supported = (the_words s).is_supported (the_newest s); started = starts s }

abbrev pub setting : Small → Setting
setting s = record {
  start = record {
    words = the_words s;
    disks = record { count = s.disks; serial = small_serial; sectors = λ d. 4096; opening = opening_sector s };
    newest = the_newest s;
    is_started = starts s;
    pass_from = opens_at s;
    is_spare = λ d. has d s.spares;
    counts_out = out_serials s;
    content = λ v place. no_sector;
    unsure = λ v place. false;
  };
  asked = record { ops = s.ops; asks = s.asks };
  edit = small_edit (known s);
  spare = λ book d. spare_block (read_laid book).generation d;
  xor = λ a b. record { 0 = xor_bytes a.0 b.0 };
  tests = small_tests;
}

-- the volumes as the opening gives them: each slot with the disk of its record, where that is expected
abbrev pub volumes_at_opening : Small → List Volume
volumes_at_opening s =
    map (λ v. record {
      started = starts s v;
      state = IsReadonly;
      broken = false;
      slots = map (λ w. record { disk = seat_of (setting s) w; in_sync = is_sound_slot s w }) (slots_of s v);
      pass = None;
    }) (range_with_len 0 (length s.block.volumes))

abbrev pub opens : Small → World
opens s = begins_at (setting s) (volumes_at_opening s) s.spares
