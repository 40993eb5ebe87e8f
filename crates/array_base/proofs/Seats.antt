-- The disk that a block gives to a slot: its record is expected, and the disk is large enough for the rows.
use Rattle.std.proofs.Common.{◌≡◌, ℕ, zero, suc, ◌+◌, ◌≤◌, Bool, true, false, List, [], ◌∷◌, map, refl, sym, subst, Some, None, cond}
use Rattle.std.specs.Prelude.{filter, slice_get}
use Rattle.std.specs.Str.{bytes_eq}
use Rattle.std.proofs.lemmas.Slice.Eq.{bytes_eq-Decides}
use Rattle.units.specs.declared.bounds.TheConstants.{METADATA_SECTORS}
use Rattle.array_model.specs.Blocks.{Laid, SlotWords}
use Rattle.array_machine.specs.Setting.{Setting}
use Rattle.array_machine.specs.Numbers.{first_of}
use Rattle.array_machine.specs.Volumes.{Slot, disk_in}
use Rattle.array_machine.specs.Rounds.{all_disks}
use Rattle.array_machine.specs.RoundEnds.{disk_by, seat_of}
use Rattle.array_paths.specs.Ready.{HasRoomFor}
use Rattle.array_base.specs.Premises.{MayBeBook, Premises}

-- LISTS

-- the first that passes a test passes it
pub first_passes : (test : ℕ → Bool) (ds : List ℕ) (d : ℕ) → first_of (filter test ds) ≡ Some d → test d ≡ true
first_passes test [] d h = absurd cc
first_passes test (e ∷ es) d h = at (test e) refl (first_passes test es d) h
  where
    at : (b : Bool) → test e ≡ b → (first_of (filter test es) ≡ Some d → test d ≡ true)
        → first_of (cond b (e ∷ filter test es) (filter test es)) ≡ Some d → test d ≡ true
    at true is more h = let same : e ≡ d = cc h in subst (λ x. test x ≡ true) same is
    at false is more h = more h

-- a slot that has a disk is made of some words
pub slot_of_words : (f : SlotWords → Slot) (ws : List SlotWords) (s d : ℕ) → disk_in (map f ws) s ≡ Some d
    → (w : SlotWords) × (slice_get ws s ≡ Some w) × ((f w).disk ≡ Some d)
slot_of_words f [] s d h = absurd cc
slot_of_words f (w ∷ ws) zero d h = (w, refl, h)
slot_of_words f (w ∷ ws) (suc s) d h = slot_of_words f ws s d h

module _ (S : Setting) where
  -- SEATS

  pub seat_is : (w : SlotWords) (d : ℕ) → seat_of S w ≡ Some d
      → (w.is_expected ≡ true) × (w.serial ≡ S.start.disks.serial d)
  seat_is w d h = at w.is_expected refl h
    where
      serial_of_first : disk_by S w.serial ≡ Some d → w.serial ≡ S.start.disks.serial d
      serial_of_first h =
          sym ((bytes_eq-Decides (S.start.disks.serial d) w.serial).0
          (first_passes (λ e. bytes_eq (S.start.disks.serial e) w.serial) (all_disks S) d h))

      at : (b : Bool) → w.is_expected ≡ b → cond b (disk_by S w.serial) None ≡ Some d
          → (w.is_expected ≡ true) × (w.serial ≡ S.start.disks.serial d)
      at true is h = (is, serial_of_first h)
      at false is h = absurd cc

  pub seat_room : (P : Premises S) (m : Laid) (v s : ℕ) (w : SlotWords) (d : ℕ) → MayBeBook S P.edits.formed m
      → S.start.is_started v ≡ true → slice_get (S.start.words.slots m v) s ≡ Some w → seat_of S w ≡ Some d
      → HasRoomFor S v d
  seat_room P m v s w d book started is seat =
      let parts = seat_is w d seat in
      let room = P.seats m v d w book.form book.whole started
      (record { slot = s; is = is; expected = parts.0; serial = parts.1 }) in
      subst (λ shape. shape.pba + shape.rows + METADATA_SECTORS ≤ S.start.disks.sectors d) (book.shape v) room
