-- The slots of an opened volume: as many as its level takes, and usable where the block has them in sync.
use Rattle.std.proofs.Common.{◌≡◌, ℕ, zero, suc, ◌≤◌, ◌&&◌, not, Bool, true, false, cond, List, [], ◌∷◌, length, map, Option, Some, None, refl, sym, ◌∙◌, ap, arith}
use Rattle.std.specs.Prelude.{filter, is_none}
use Rattle.std.specs.Option.{option_map_or}
use Rattle.std.specs.Str.{bytes_eq}
use Rattle.std.proofs.lemmas.Bool.{and_parts, false≢true}
use Rattle.std.proofs.lemmas.Bool.Decides.{nat_tests}
use Rattle.std.proofs.lemmas.List.{length-map}
use Rattle.imsm_base.specs.Layout.{Block, Volume, level_byte_of, member_count_of}
use Rattle.imsm_base.specs.Volumes.{Member as AMember, first_map, members, is_expected_at, is_in_sync, level_of, volume_level, can_run as can_run_by}
use Rattle.imsm_codec.specs.Mpb.{volume_at as block_volume}
use Rattle.imsm_view.proofs.Members.{length_members}
use Rattle.units.specs.Levels.{suffices}
use Rattle.array_model.specs.Blocks.{SlotWords}
use Rattle.array_model.specs.Placement.{Shape}
use Rattle.block_meaning.specs.Meaning.{slot_words, shape_of as shape_by, no_shape}
use Rattle.block_meaning.specs.Reading.{parts_of, block_words}
use Rattle.array_machine.specs.Numbers.{has, first_of}
use Rattle.array_machine.specs.Setting.{Setting}
use Rattle.array_machine.specs.Operations.{shape_of}
use Rattle.array_machine.specs.Rounds.{all_disks}
use Rattle.array_machine.specs.RoundEnds.{disk_by, seat_of}
use Rattle.array_machine.specs.Volumes.{Slot, member_of, members_of, is_usable, can_run, volume_at}
use Rattle.array_base.specs.Opening.{slot_opened}
use Rattle.array_base.proofs.Targets.{passes_has}
use Rattle.array_edits.proofs.Disks.{eq_serial}
use Rattle.array_edits.proofs.Moves.{IsServed}
use Rattle.array_edits.proofs.Supports.{Supports, supports}
use Rattle.array_edits.proofs.Meant.{good}
use Rattle.array_openings.specs.Banks.{Bank, serial_in, setting_of_bank, IsAtRest}
use Rattle.array_openings.specs.Opens.{opened_volumes}
use Rattle.array_openings.specs.Sound.{IsThere, HasSoundVolumes}
use Rattle.array_openings.proofs.Rests.{real}
use Rattle.array_openings.proofs.Seated.{at_volume}
use Rattle.array_openings.proofs.ToldSlots.{serial_expected}

-- LEVELS

-- a level has two members at least
level_two : (byte count : ℕ) → is_none (level_of byte count) ≡ false → 2 ≤ count
level_two byte count is = grind (arith, nat_tests, is)

-- DISKS OF SLOTS

first_there : (d : ℕ) (ds : List ℕ) → has d ds ≡ true → (e : ℕ) × (first_of ds ≡ Some e)
first_there d [] there = absurd (false≢true there)
first_there d (e ∷ es) there = (e, refl)

module _ (k : Bank) (rest : IsAtRest k) where
  abbrev S : Setting
  S = setting_of_bank k

  -- a started volume has the slots that the block says
  pub slots_opened : (v : ℕ) → k.started v ≡ true
      → (volume_at (opened_volumes S) v).slots ≡ map (slot_opened S) (block_words.slots k.block v)
  slots_opened zero started =
      ap (λ (t : Bool). cond t (map (slot_opened S) (block_words.slots k.block 0)) []) started
  slots_opened (suc zero) started =
      ap (λ (t : Bool). cond t (map (slot_opened S) (block_words.slots k.block 1)) []) started
  slots_opened (suc (suc v)) started = absurd (let few = rest.few (suc (suc v)) started in omega (arith, few))

module _ (k : Bank) (rest : IsAtRest k) (sound : HasSoundVolumes k) where
  abbrev T : Setting
  T = setting_of_bank k

  -- a serial that the block expects is that of a disk
  seated : (serial : List ℕ) → block_words.expects k.block serial ≡ true → (d : ℕ) × (disk_by T serial ≡ Some d)
  seated serial expected =
      let there : IsThere k serial = sound.there serial expected in
      let test : ℕ → Bool = λ e. bytes_eq (serial_in k.disks e) serial in
      let below = there.below in
      first_there there.disk (filter test (all_disks T))
      (passes_has test 0 (length k.disks) there.disk (omega arith) (omega (arith, below))
      (eq_serial (serial_in k.disks there.disk) serial there.is))

  usable_by : (seat : Option ℕ) (t : Bool) → (t ≡ true → (d : ℕ) × (seat ≡ Some d))
      → (option_map_or (λ d. not (has d [])) seat false && (t && true)) ≡ t
  usable_by (Some d) true there = refl
  usable_by (Some d) false there = refl
  usable_by None true there = absurd (let none = (there refl).1 in cc none)
  usable_by None false there = refl

  abbrev words_of : AMember → SlotWords
  words_of x = slot_words (parts_of k.block) x

  -- a slot can be used where the block has it in sync
  usable : (x : AMember) → is_usable (member_of [] [] (slot_opened T (words_of x))) ≡ is_in_sync (parts_of k.block) x
  usable x = usable_by (seat_of T (words_of x)) (is_in_sync (parts_of k.block) x) (λ synced.
      let expected : is_expected_at (parts_of k.block) x.index ≡ true =
      (and_parts (not x.is_out) (is_expected_at (parts_of k.block) x.index) synced).1 in
      let found = seated (words_of x).serial (serial_expected (parts_of k.block) x expected) in
      (found.0, ap (λ (t : Bool). cond t (disk_by T (words_of x).serial) None) expected ∙ found.1))

  all_usable : (xs : List AMember)
      → map is_usable (members_of [] [] (map (slot_opened T) (map (slot_words (parts_of k.block)) xs)))
      ≡ map (is_in_sync (parts_of k.block)) xs
  all_usable [] = refl
  all_usable (x ∷ xs) =
      ap (λ (t : Bool). t
      ∷ map is_usable (members_of [] [] (map (slot_opened T) (map (slot_words (parts_of k.block)) xs)))) (usable x)
      ∙ ap (λ (ts : List Bool). is_in_sync (parts_of k.block) x ∷ ts) (all_usable xs)

  -- A STARTED VOLUME

  module _ (v : ℕ) (started : k.started v ≡ true) where
    abbrev b : Block
    b = parts_of k.block

    abbrev x : Volume
    x = block_volume v b

    served : IsServed b v
    served = (good T k.block (real k rest) rest.formed).sound.served v started

    slots_are : (volume_at (opened_volumes T) v).slots ≡ map (slot_opened T) (map (slot_words b) (members x))
    slots_are =
        slots_opened k rest v started
        ∙ ap (map (slot_opened T)) (at_volume b v (λ y. map (slot_words b) (members y)) [] served.below)

    shape_is : shape_of T v ≡ shape_by x
    shape_is = at_volume b v shape_by no_shape served.below

    pub runs : can_run (shape_of T v).level (members_of [] [] (volume_at (opened_volumes T) v).slots) ≡ true
    runs =
        let enough = (and_parts (suffices (volume_level x) (map (is_in_sync b) (members x))) _
        (sym (at_volume b v (can_run_by b) false served.below) ∙ sound.runs v started)).0 in
        ap (λ (s : Shape). can_run s.level (members_of [] [] (volume_at (opened_volumes T) v).slots)) shape_is
        ∙ ap (λ (slots : List Slot). can_run (volume_level x) (members_of [] [] slots)) slots_are
        ∙ ap (suffices (volume_level x)) (all_usable (members x)) ∙ enough

    many : length (volume_at (opened_volumes T) v).slots ≡ member_count_of (first_map x)
    many =
        ap (λ (slots : List Slot). length slots) slots_are
        ∙ length-map (map (slot_words b) (members x)) (slot_opened T)
        ∙ length-map (members x) (slot_words b) ∙ length_members x

    pub count : length (volume_at (opened_volumes T) v).slots ≡ (shape_of T v).members
    count = many ∙ sym (ap (λ (s : Shape). s.members) shape_is)

    pub some : 2 ≤ length (volume_at (opened_volumes T) v).slots
    some =
        let level : Supports b v x = supports b v x served.supported in
        let two = level_two (level_byte_of (first_map x)) (member_count_of (first_map x)) level.level in
        omega (arith, two, many)
