-- What becomes of slots at the end of a round: those of disks without a fault keep their disks, and no fewer can be used.
use Rattle.std.proofs.Common.{◌≡◌, ℕ, zero, suc, not, Bool, true, false, List, [], ◌∷◌, length, map, refl, ap, ◌∙◌, Some, ◌⊎◌, inl, inr}
use Rattle.std.specs.Prelude.{slice_get}
use Rattle.std.specs.Option.{option_map_or}
use Rattle.array_model.specs.Blocks.{SlotWords}
use Rattle.array_machine.specs.Setting.{Setting}
use Rattle.array_machine.specs.Numbers.{has}
use Rattle.array_machine.specs.Volumes.{Slot, disk_in, is_usable, member_of, members_of}
use Rattle.array_machine.specs.RoundEnds.{seat_of, is_other, seated_if, seated, synced_slot, all_in_sync}
use Rattle.array_base.proofs.Targets.{or_first}
use Rattle.array_rest.proofs.RoundEnd.{seated_same}
use Rattle.array_rest.proofs.Runnable.{Grows, usable_disk, disk_usable}

pub seated_long : (S : Setting) (ws : List SlotWords) (xs : List Slot) → length (seated S ws xs) ≡ length xs
seated_long S [] xs = refl
seated_long S (w ∷ ws) [] = refl
seated_long S (w ∷ ws) (x ∷ xs) = ap suc (seated_long S ws xs)

pub synced_long : (faults : List ℕ) (xs : List Slot) → length (all_in_sync faults xs) ≡ length xs
synced_long faults [] = refl
synced_long faults (x ∷ xs) = ap suc (synced_long faults xs)

-- a slot has the disk that it had, or the one that its words give
pub seated_slot : (S : Setting) (ws : List SlotWords) (xs : List Slot) (s d : ℕ) → disk_in (seated S ws xs) s ≡ Some d
    → (disk_in xs s ≡ Some d) ⊎ ((w : SlotWords) × (slice_get ws s ≡ Some w) × (seat_of S w ≡ Some d))
seated_slot S [] xs s d is = inl is
seated_slot S (w ∷ ws) [] s d is = absurd cc
seated_slot S (w ∷ ws) (x ∷ xs) zero d is = at (is_other (seat_of S w) x.disk) is
  where
    at : (b : Bool) → (seated_if b (seat_of S w) x).disk ≡ Some d
        → (x.disk ≡ Some d) ⊎ ((u : SlotWords) × (slice_get (w ∷ ws) zero ≡ Some u) × (seat_of S u ≡ Some d))
    at true is = inr (w, refl, is)
    at false is = inl is
seated_slot S (w ∷ ws) (x ∷ xs) (suc s) d is = seated_slot S ws xs s d is

pub grows_same : (bs : List Bool) → Grows bs bs
grows_same [] = tt
grows_same (b ∷ bs) = (λ is. is, grows_same bs)

pub grows_synced : (faults : List ℕ) (xs : List Slot)
    → Grows (map is_usable (members_of faults [] xs)) (map is_usable (members_of faults [] (all_in_sync faults xs)))
grows_synced faults [] = tt
grows_synced faults (x ∷ xs) = (one, grows_synced faults xs)
  where
    one : is_usable (member_of faults [] x) ≡ true → is_usable (member_of faults [] (synced_slot faults x)) ≡ true
    one is =
        let d = usable_disk faults [] x is in
        disk_usable faults [] (synced_slot faults x) d.disk d.is d.sound
        (or_first x.in_sync (option_map_or (λ e. not (has e faults)) x.disk false) d.in_sync)

-- the words give each disk without a fault the slot that it has
pub grows_seated : (S : Setting) (faults : List ℕ) (ws : List SlotWords) (xs : List Slot)
    → ((s d : ℕ) (w : SlotWords) → disk_in xs s ≡ Some d → has d faults ≡ false → slice_get ws s ≡ Some w
    → seat_of S w ≡ Some d)
    → Grows (map is_usable (members_of faults [] xs)) (map is_usable (members_of faults [] (seated S ws xs)))
grows_seated S faults [] xs given = grows_same (map is_usable (members_of faults [] xs))
grows_seated S faults (w ∷ ws) [] given = tt
grows_seated S faults (w ∷ ws) (x ∷ xs) given =
    (one, grows_seated S faults ws xs (λ s d u is sound there. given (suc s) d u is sound there))
  where
    one : is_usable (member_of faults [] x) ≡ true
        → is_usable (member_of faults [] (seated_if (is_other (seat_of S w) x.disk) (seat_of S w) x)) ≡ true
    one is =
        let d = usable_disk faults [] x is in
        let seat = given 0 d.disk w d.is d.sound refl in
        let same : is_other (seat_of S w) x.disk ≡ false
        = ap (λ o. is_other o x.disk) seat ∙ ap (is_other (Some d.disk)) d.is ∙ seated_same S (Some d.disk) in
        ap (λ b. is_usable (member_of faults [] (seated_if b (seat_of S w) x))) same ∙ is
