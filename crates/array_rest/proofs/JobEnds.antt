-- Behind the end of a round each slot that could be used is as it was.
use Rattle.std.proofs.Common.{◌≡◌, ℕ, zero, suc, ◌||◌, not, true, false, List, [], ◌∷◌, refl, ap, sym, ◌∙◌, subst, Some, ◌⊎◌, inl, inr}
use Rattle.std.specs.Prelude.{slice_get}
use Rattle.std.specs.Option.{option_map_or}
use Rattle.array_model.specs.Blocks.{Laid, SlotWords}
use Rattle.array_machine.specs.Setting.{Setting}
use Rattle.array_machine.specs.Numbers.{has}
use Rattle.array_machine.specs.Volumes.{Slot, slot_at, disk_in, member_of, is_usable, Volume}
use Rattle.array_machine.specs.Clients.{Row}
use Rattle.array_machine.specs.RoundEnds.{seat_of, is_other, seated_if, seated, all_in_sync, PassRun}
use Rattle.array_machine.specs.ClientTurns.{is_shut}
use Rattle.array_base.specs.Premises.{Premises}
use Rattle.array_rest.specs.Seats.{HasSeat}
use Rattle.array_rest.specs.Jobs.{may_use, sees, IsOutrun, PlanStands}
use Rattle.array_rest.proofs.RoundEnd.{seated_same, VolumeEnds, is_stopped, stays, seats, closes, reaches, ended}
use Rattle.array_rest.proofs.Runnable.{usable_disk}
use Rattle.array_rest.proofs.SeatEdits.{seat_given}

-- a slot that is in sync stays as it is where more of them come in sync
synced_used : (faults : List ℕ) (xs : List Slot) (s : ℕ) → may_use faults xs s ≡ true
    → slot_at (all_in_sync faults xs) s ≡ slot_at xs s
synced_used faults [] s may = refl
synced_used faults (x ∷ xs) zero may =
    let synced = (usable_disk faults [] x may).in_sync in
    ap (λ b. record { disk = x.disk; in_sync = b || option_map_or (λ d. not (has d faults)) x.disk false }) synced
    ∙ ap (λ b. record { disk = x.disk; in_sync = b }) (sym synced)
synced_used faults (x ∷ xs) (suc s) may = synced_used faults xs s may

-- and where slots are given to other disks, which are never theirs
seated_used : (S : Setting) (faults : List ℕ) (ws : List SlotWords) (xs : List Slot)
    → ((s d : ℕ) (w : SlotWords) → disk_in xs s ≡ Some d → has d faults ≡ false → slice_get ws s ≡ Some w
    → seat_of S w ≡ Some d)
    → (s : ℕ) → may_use faults xs s ≡ true → slot_at (seated S ws xs) s ≡ slot_at xs s
seated_used S faults [] xs given s may = refl
seated_used S faults (w ∷ ws) [] given s may = refl
seated_used S faults (w ∷ ws) (x ∷ xs) given zero may =
    let d = usable_disk faults [] x may in
    let seat = given 0 d.disk w d.is d.sound refl in
    let same : is_other (seat_of S w) x.disk ≡ false
    = ap (λ o. is_other o x.disk) seat ∙ ap (is_other (Some d.disk)) d.is ∙ seated_same S (Some d.disk) in
    ap (λ b. seated_if b (seat_of S w) x) same
seated_used S faults (w ∷ ws) (x ∷ xs) given (suc s) may =
    seated_used S faults ws xs (λ t d u is sound there. given (suc t) d u is sound there) s may

-- a plan stands where each slot that could be used is as it was
pub same_used : (faults : List ℕ) (x y : Volume) (r : Row)
    → ((s : ℕ) → may_use faults x.slots s ≡ true → slot_at y.slots s ≡ slot_at x.slots s) → PlanStands faults x r
    → PlanStands faults y r
same_used faults x y r same h plan is s left = at (h plan is s left)
  where
    at : (may_use faults x.slots s ≡ true) ⊎ IsOutrun faults x.slots r
        → (may_use faults y.slots s ≡ true) ⊎ IsOutrun faults y.slots r
    at (inl may) = inl (ap (λ z. is_usable (member_of faults [] z)) (same s may) ∙ may)
    at (inr out) =
        let eq = same out.slot out.may in
        inr (record {
          slot = out.slot;
          may = ap (λ z. is_usable (member_of faults [] z)) eq ∙ out.may;
          begun = out.begun;
          unseen = ap (sees r out.slot) eq ∙ out.unseen;
        })

module _ (S : Setting) (P : Premises S) (faults : List ℕ) (last m : Laid) (v : ℕ) (x : Volume) where
  pub end_used : (made : List PassRun) → VolumeEnds S faults last m v x made → P.edits.formed m ≡ true
      → (x.started ≡ true → S.start.is_started v ≡ true)
      → (x.started ≡ true → (s d : ℕ) → disk_in x.slots s ≡ Some d → has d faults ≡ false → HasSeat S m v s d)
      → (s : ℕ) → may_use faults x.slots s ≡ true
      → slot_at (ended S faults last m made x).slots s ≡ slot_at x.slots s
  end_used _ (is_stopped is) form opened had s may = refl
  end_used _ (stays is other) form opened had s may = refl
  end_used _ (seats is) form opened had s may =
      seated_used S faults (S.start.words.slots m v) x.slots given s may
    where
      given : (t d : ℕ) (w : SlotWords) → disk_in x.slots t ≡ Some d → has d faults ≡ false
          → slice_get (S.start.words.slots m v) t ≡ Some w → seat_of S w ≡ Some d
      given t d w has_it sound there =
          let seat = had is t d has_it sound in
          let same : seat.words ≡ w = cc (sym seat.there ∙ there) in
          subst (λ u. seat_of S u ≡ Some d) same (seat_given S P m v t d form (opened is) seat)
  end_used _ (closes is other) form opened had s may = synced_used faults x.slots s may
  end_used _ (reaches unit is other) form opened had s may = refl

  pub end_shut : (made : List PassRun) → VolumeEnds S faults last m v x made
      → is_shut (ended S faults last m made x) ≡ is_shut x
  end_shut _ (is_stopped is) = refl
  end_shut _ (stays is other) = refl
  end_shut _ (seats is) = refl
  end_shut _ (closes is other) = refl
  end_shut _ (reaches unit is other) = refl
