-- The disks of a stop in a round: their words agree, they are sound, and they are opened by the first one's block.
use Rattle.std.proofs.Common.{◌≡◌, ℕ, zero, suc, ◌≤◌, ◌==◌, Bool, true, false, cond, if◌then◌else◌, List, [], ◌∷◌, map, filter, slice_index_or, bytes_eq, Some, refl, sym, ◌∙◌, arith, inl, inr}
use Rattle.std.specs.List.{AllByRecursion, list_any, range_with_len}
use Rattle.std.proofs.lemmas.Bool.{eqb-true, or_left, or_right}
use Rattle.std.proofs.lemmas.List.{length-map}
use Rattle.std.proofs.lemmas.List.FromFn.{length-range_with_len}
use Rattle.std.proofs.lemmas.Slice.Eq.{bytes_eq-Decides}
use Rattle.units.specs.declared.volume.Level.{Level}
use Rattle.units.specs.declared.volume.Level.TheVariants.{One, Five, Ten}
use Rattle.array_model.specs.Blocks.{Laid, SlotWords}
use Rattle.sound_images.specs.Images.{Image, Among, HaveOwnSerials, block_on, IsHeld, IsHeldOn}
use Rattle.sound_images.specs.Volumes.{AgreesOnVolumes, HasMembers}
use Rattle.sound_images.specs.Keeps.{Opens}
use Rattle.sound_images.specs.Small.{AreSoundAt, members_at, small_slot, small_expected, small_words, bytes_of, content, unsure, laid, clean, dirty, disk, stopped_in_round, without_first}
use Rattle.sound_images.proofs.Disks.{held_at, each_held, each_serial}
use Rattle.sound_images.proofs.Checks.{is_sound, sound_by_tests}

-- WORDS

abbrev serials_of : List SlotWords → List (List ℕ)
serials_of slots = map (λ slot. slot.serial) (filter (λ slot. slot.is_expected) slots)

-- a slot in sync has a serial that is expected
listed : (m : Laid) (numbers : List ℕ) (k : ℕ) (other : SlotWords) → other.is_in_sync ≡ false → (slice_index_or (map (small_slot m) numbers) k other).is_in_sync ≡ true
    → list_any (λ x. bytes_eq x (slice_index_or (map (small_slot m) numbers) k other).serial) (serials_of (map (small_slot m) numbers)) ≡ true
listed m [] k other out sync = absurd (let h : true ≡ false = sym sync ∙ out in cc h)
listed m (n ∷ numbers) k other out sync = at (small_slot m n).is_expected refl k sync (λ j more. listed m numbers j other out more)
  where
    at : (b : Bool) → (small_slot m n).is_expected ≡ b → (k : ℕ) → (slice_index_or (small_slot m n ∷ map (small_slot m) numbers) k other).is_in_sync ≡ true
        → ((j : ℕ) → (slice_index_or (map (small_slot m) numbers) j other).is_in_sync ≡ true
        → list_any (λ x. bytes_eq x (slice_index_or (map (small_slot m) numbers) j other).serial) (serials_of (map (small_slot m) numbers)) ≡ true)
        → list_any (λ x. bytes_eq x (slice_index_or (small_slot m n ∷ map (small_slot m) numbers) k other).serial)
        (map (λ slot. slot.serial) (cond b (small_slot m n ∷ filter (λ slot. slot.is_expected) (map (small_slot m) numbers)) (filter (λ slot. slot.is_expected) (map (small_slot m) numbers)))) ≡ true
    at true is zero sync more = or_left _ _ ((bytes_eq-Decides (small_slot m n).serial (small_slot m n).serial).1 refl)
    at true is (suc j) sync more = or_right _ _ (more j sync)
    at false is zero sync more = absurd (let h : true ≡ false = sym sync ∙ is in cc h)
    at false is (suc j) sync more = more j sync

abbrev nowhere : SlotWords
nowhere = record { index = 0; serial = []; is_expected = false; is_in_sync = false }

members_fit : (level : Level) → HasMembers (Some level) (members_at level)
members_fit One = refl
members_fit Five = omega arith
members_fit Ten = refl

pub agrees : (level : Level) (m : Laid) → AgreesOnVolumes (small_words level) m
agrees level m = record {
  expected = λ v slot sync. expected slot (v == 0) sync;
  count = λ v is. rw is (length-map (range_with_len 0 (members_at level)) (small_slot m) ∙ length-range_with_len 0 (members_at level));
  members = λ v is. members_fit level;
  redundant = λ v is runs. runs;
}
  where
    expected : (slot : ℕ) (b : Bool) → (slice_index_or (if b then map (small_slot m) (range_with_len 0 (members_at level)) else []) slot nowhere).is_in_sync ≡ true
        → list_any (λ x. bytes_eq x (slice_index_or (if b then map (small_slot m) (range_with_len 0 (members_at level)) else []) slot nowhere).serial) (small_expected level m) ≡ true
    expected slot true sync = listed m (range_with_len 0 (members_at level)) slot nowhere refl sync
    expected slot false sync = absurd cc

-- SOUND

serials : (level : Level) → HaveOwnSerials (stopped_in_round level)
serials One = (((λ e. cc e), tt), (tt, tt))
serials Five = (((λ e. cc e), ((λ e. cc e), tt)), (((λ e. cc e), tt), (tt, tt)))
serials Ten = (((λ e. cc e), ((λ e. cc e), ((λ e. cc e), tt))), (((λ e. cc e), ((λ e. cc e), tt)), (((λ e. cc e), tt), (tt, tt))))

tested : (level : Level) → is_sound (small_words level) bytes_of (stopped_in_round level) content unsure 1 ≡ true
tested One = refl
tested Five = refl
tested Ten = refl

pub are_sound : (level : Level) → AreSoundAt level (stopped_in_round level) 1
are_sound level = sound_by_tests (small_words level) bytes_of (stopped_in_round level) content unsure 1 (serials level) (λ m v is. eqb-true v 0 is) (tested level)

-- a parity volume without its first disk
pub degraded_is_sound : AreSoundAt Five (without_first 7) 1
degraded_is_sound = sound_by_tests (small_words Five) bytes_of (without_first 7) content unsure 1 (((λ e. cc e), tt), (tt, tt)) (λ m v is. eqb-true v 0 is) refl

-- OPENED

abbrev upper : Level → Laid → Type 0
upper level a = (small_words level).generation a.anchor ≤ 2

first_held : (level : Level) → IsHeld (small_words level) (stopped_in_round level) (laid (dirty 2))
first_held One = held_at (small_words One) (stopped_in_round One) (disk 1 (dirty 2) 1 2) (inl refl) refl refl
first_held Five = held_at (small_words Five) (stopped_in_round Five) (disk 1 (dirty 2) 1 3) (inl refl) refl refl
first_held Ten = held_at (small_words Ten) (stopped_in_round Ten) (disk 1 (dirty 2) 1 3) (inl refl) refl refl

highest : (level : Level) (a : Laid) → IsHeld (small_words level) (stopped_in_round level) a → upper level a
highest One = each_held (small_words One) (upper One) (stopped_in_round One) (omega arith, (omega arith, tt))
highest Five = each_held (small_words Five) (upper Five) (stopped_in_round Five) (omega arith, (omega arith, (omega arith, tt)))
highest Ten = each_held (small_words Ten) (upper Ten) (stopped_in_round Ten) (omega arith, (omega arith, (omega arith, (omega arith, tt))))

abbrev IsThere : Level → List ℕ → Type 0
IsThere level serial = (a : Laid) × IsHeldOn (small_words level) (stopped_in_round level) serial a

-- a disk of the list, with its block
there : (level : Level) (i : Image) → Among i (stopped_in_round level) → (small_words level).is_whole i.serial i.sectors (block_on (small_words level) i) ≡ true → IsThere level i.serial
there level i among whole = (block_on (small_words level) i, record { held = held_at (small_words level) (stopped_in_round level) i among whole refl; same = refl })

all_there : (level : Level) → AllByRecursion (IsThere level) (small_expected level (laid (dirty 2)))
all_there One = (there One (disk 1 (dirty 2) 1 2) (inl refl) refl, (there One (disk 2 (clean 1) 1 2) (inr (inl refl)) refl, tt))
all_there Five = (
  there Five (disk 1 (dirty 2) 1 3) (inl refl) refl,
  (there Five (disk 2 (clean 1) 2 7) (inr (inl refl)) refl, (there Five (disk 3 (clean 1) 3 4) (inr (inr (inl refl))) refl, tt)),
)
all_there Ten = (
  there Ten (disk 1 (dirty 2) 1 3) (inl refl) refl,
  (
    there Ten (disk 2 (clean 1) 1 3) (inr (inl refl)) refl,
    (there Ten (disk 3 (clean 1) 2 4) (inr (inr (inl refl))) refl, (there Ten (disk 4 (clean 1) 2 4) (inr (inr (inr (inl refl)))) refl, tt)),
  ),
)

pub opened : (level : Level) → Opens (small_words level) bytes_of (stopped_in_round level) (laid (dirty 2))
opened level = record {
  one_container = (are_sound level).one_container;
  newest = record { held = first_held level; highest = highest level };
  complete = λ serial expected. each_serial (IsThere level) (small_expected level (laid (dirty 2))) (all_there level) serial expected;
  large = λ i among expected. refl;
}
