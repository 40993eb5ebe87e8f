-- Slots of a block are in sync only where the block expects their disks.
use Rattle.std.proofs.Common.{◌≡◌, ℕ, not, true, List, [], ◌∷◌, map, Option, Some, None, sym, ◌∙◌, subst}
use Rattle.std.specs.Prelude.{slice_get}
use Rattle.std.specs.Option.{option_map_or}
use Rattle.std.specs.List.{AllByRecursion}
use Rattle.std.proofs.lemmas.Bool.{and_parts, and_from}
use Rattle.std.proofs.lemmas.List.Folds.{list_any_at}
use Rattle.imsm_base.specs.Layout.{Block, Volume, serial_of}
use Rattle.imsm_base.specs.Volumes.{Member, members, is_expected_at}
use Rattle.imsm_base.specs.Whole.{is_expected, expected_serials}
use Rattle.imsm_codec.specs.Mpb.{disk_at}
use Rattle.array_model.specs.Blocks.{Laid}
use Rattle.block_meaning.specs.Meaning.{has_serial, slot_words}
use Rattle.block_meaning.specs.Reading.{parts_of}
use Rattle.array_machine.specs.Setting.{Setting}
use Rattle.array_base.specs.Premises.{IsToldOf}
use Rattle.array_edits.specs.Formed.{is_formed}
use Rattle.array_edits.specs.RealSettings.{IsReal}
use Rattle.array_edits.proofs.Disks.{eq_serial, expects_serial, has_expected, record_at}
use Rattle.array_edits.proofs.Meant.{says}
use Rattle.array_openings.proofs.Seated.{IsExpectedRecord, expected_there}

-- the block expects the serial of a record that is expected
pub serial_expected : (b : Block) (m : Member) → is_expected_at b m.index ≡ true
    → has_serial (expected_serials b) (slot_words b m).serial ≡ true
serial_expected b m expected =
    let serial : List ℕ = (slot_words b m).serial in
    let there : IsExpectedRecord b m.index = expected_there b m.index expected in
    let same : serial_of (disk_at m.index b) ≡ serial = sym (record_at serial_of [] b m.index there.below) in
    has_expected b.disks serial
    ∙ list_any_at (expects_serial serial) b.disks m.index [] there.below
    (and_from (is_expected (disk_at m.index b)) _ there.expected
    (eq_serial (serial_of (disk_at m.index b)) serial same))

module _ (S : Setting) (m : Laid) (r : IsReal S) (formed : is_formed S.start m ≡ true) where
  slot_told : (x : Member) → IsToldOf S m (slot_words (parts_of m) x)
  slot_told x = record {
    in_sync = λ synced. (and_parts (not x.is_out) (is_expected_at (parts_of m) x.index) synced).1;
    expected = λ expected. (says S m r formed).expects (slot_words (parts_of m) x).serial
        ∙ serial_expected (parts_of m) x expected;
  }

  each_told : (xs : List Member) → AllByRecursion (IsToldOf S m) (map (slot_words (parts_of m)) xs)
  each_told [] = tt
  each_told (x ∷ xs) = (slot_told x, each_told xs)

  told_by : (o : Option Volume)
      → AllByRecursion (IsToldOf S m) (option_map_or (λ x. map (slot_words (parts_of m)) (members x)) o [])
  told_by None = tt
  told_by (Some x) = each_told (members x)

  pub told : (v : ℕ) → AllByRecursion (IsToldOf S m) (S.start.words.slots m v)
  told v =
      subst (AllByRecursion (IsToldOf S m)) (sym ((says S m r formed).slots v))
      (told_by (slice_get (parts_of m).volumes v))
