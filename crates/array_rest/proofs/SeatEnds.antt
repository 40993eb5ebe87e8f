-- Behind the end of a round its block has each disk without a fault where a volume has it, and what could run still can.
use Rattle.std.proofs.Common.{◌≡◌, ℕ, true, false, List, [], map, refl, ap, sym, ◌∙◌, subst, arith, Some, inl, inr}
use Rattle.std.specs.Prelude.{slice_get}
use Rattle.array_model.specs.Blocks.{Laid, SlotWords}
use Rattle.array_machine.specs.Setting.{Setting}
use Rattle.array_machine.specs.Numbers.{has}
use Rattle.array_machine.specs.Volumes.{disk_in, is_usable, members_of, Volume, volume_at}
use Rattle.array_machine.specs.Operations.{shape_of}
use Rattle.array_machine.specs.Rounds.{Step, OfRound, Going}
use Rattle.array_machine.specs.Control.{Control}
use Rattle.array_machine.specs.Changes.{RoundEnds}
use Rattle.array_machine.specs.Puts.{put}
use Rattle.array_machine.specs.RoundEnds.{seat_of, PassRun, seated, all_in_sync}
use Rattle.array_base.specs.Premises.{Premises}
use Rattle.array_base.proofs.Seats.{seat_is}
use Rattle.array_rest.specs.Seats.{HasSeat, SeatsAll, BookGoes, BlocksSeat, RunsOn, HasSlots, VolumesRun}
use Rattle.array_rest.proofs.RoundEnd.{synced_there, VolumeEnds, is_stopped, stays, seats, closes, reaches, ended, end_started, behind, ends_to}
use Rattle.array_rest.proofs.Runnable.{suffices_more}
use Rattle.array_rest.proofs.SeatedSlots.{seated_long, synced_long, seated_slot, grows_synced, grows_seated}
use Rattle.array_rest.proofs.SeatEdits.{seat_given}

module _ (S : Setting) (P : Premises S) (faults : List ℕ) (last m : Laid) (v : ℕ) (x : Volume) where
  -- ONE VOLUME

  -- the block seats its disks that have no fault
  abbrev pub SeatsIts : Type 0
  SeatsIts = (s d : ℕ) → disk_in x.slots s ≡ Some d → has d faults ≡ false → HasSeat S m v s d

  pub end_seats : (made : List PassRun) → VolumeEnds S faults last m v x made → x.started ≡ true → SeatsIts
      → (s d : ℕ) → disk_in (ended S faults last m made x).slots s ≡ Some d → has d faults ≡ false
      → HasSeat S m v s d
  end_seats _ (is_stopped is) started had s d has_it sound = absurd (cc (is, started))
  end_seats _ (stays is other) started had s d has_it sound = had s d has_it sound
  end_seats _ (seats is) started had s d has_it sound =
      elim (seated_slot S (S.start.words.slots m v) x.slots s d has_it) [
        | inl old ↦ had s d old sound
        | inr new ↦
            let parts = seat_is S new.0 d new.2 in
            record { words = new.0; there = new.1; expected = parts.0; serial = parts.1 }
      ]
  end_seats _ (closes is other) started had s d has_it sound =
      had s d (sym (synced_there S faults x.slots s) ∙ has_it) sound
  end_seats _ (reaches unit is other) started had s d has_it sound = had s d has_it sound

  pub end_able : (made : List PassRun) → VolumeEnds S faults last m v x made → P.edits.formed m ≡ true
      → S.start.is_started v ≡ true → SeatsIts → RunsOn S faults v x → RunsOn S faults v (ended S faults last m made x)
  end_able _ (is_stopped is) form opened had able = able
  end_able _ (stays is other) form opened had able = able
  end_able _ (seats is) form opened had able =
      suffices_more (shape_of S v).level (map is_usable (members_of faults [] x.slots))
      (map is_usable (members_of faults [] (seated S (S.start.words.slots m v) x.slots)))
      (grows_seated S faults (S.start.words.slots m v) x.slots given) able
    where
      given : (s d : ℕ) (w : SlotWords) → disk_in x.slots s ≡ Some d → has d faults ≡ false
          → slice_get (S.start.words.slots m v) s ≡ Some w → seat_of S w ≡ Some d
      given s d w has_it sound there =
          let seat = had s d has_it sound in
          let same : seat.words ≡ w = cc (sym seat.there ∙ there) in
          subst (λ u. seat_of S u ≡ Some d) same (seat_given S P m v s d form opened seat)
  end_able _ (closes is other) form opened had able =
      suffices_more (shape_of S v).level (map is_usable (members_of faults [] x.slots))
      (map is_usable (members_of faults [] (all_in_sync faults x.slots))) (grows_synced faults x.slots) able
  end_able _ (reaches unit is other) form opened had able = able

  pub end_slots : (made : List PassRun) → VolumeEnds S faults last m v x made → HasSlots S v x
      → HasSlots S v (ended S faults last m made x)
  end_slots _ (is_stopped is) had = record { count = had.count; some = had.some }
  end_slots _ (stays is other) had = record { count = had.count; some = had.some }
  end_slots _ (seats is) had =
      let same = seated_long S (S.start.words.slots m v) x.slots in
      record { count = same ∙ had.count; some = let le = had.some in omega (arith, le, same) }
  end_slots _ (closes is other) had =
      let same = synced_long faults x.slots in
      record { count = same ∙ had.count; some = let le = had.some in omega (arith, le, same) }
  end_slots _ (reaches unit is other) had = record { count = had.count; some = had.some }

  pub end_broken : (made : List PassRun) → VolumeEnds S faults last m v x made
      → (ended S faults last m made x).broken ≡ x.broken
  end_broken _ (is_stopped is) = refl
  end_broken _ (stays is other) = refl
  end_broken _ (seats is) = refl
  end_broken _ (closes is other) = refl
  end_broken _ (reaches unit is other) = refl

-- ALL OF THEM

module _ (S : Setting) (P : Premises S) (c : Control) (m : Laid) (step : Step)
    (phase : c.round.phase ≡ Going OfRound m step [] [] true) (opened : (v : ℕ) → (volume_at c.volumes v).started ≡ true → S.start.is_started v ≡ true)
    (h : BlocksSeat S P.edits.formed c.round c.volumes) where
  goes : BookGoes S c.round (Going OfRound m step [] [] true)
  goes = subst (BookGoes S c.round) phase h.goes

  pub form : P.edits.formed m ≡ true
  form = ap P.edits.formed (sym goes.0) ∙ h.may_book.form

  pub seats_its : (v : ℕ) → (volume_at c.volumes v).started ≡ true → SeatsIts S P c.round.faults c.round.last m v (volume_at c.volumes v)
  seats_its v started s d has_it sound =
      subst (λ b. HasSeat S b v s d) goes.0 (h.book v s d started has_it sound)

  pub was_started : (v : ℕ) → (volume_at (behind S c m) v).started ≡ true → (volume_at c.volumes v).started ≡ true
  was_started v is =
      let e = ends_to S c m v in
      sym (ap (λ (y : Volume). y.started) e.is
      ∙ end_started S c.round.faults c.round.last m v (volume_at c.volumes v) e.made e.by) ∙ is

  seats_behind : SeatsAll S m c.round.faults (behind S c m)
  seats_behind v s d started has_it sound =
      let e = ends_to S c m v in
      let was = was_started v started in
      end_seats S P c.round.faults c.round.last m v (volume_at c.volumes v) e.made e.by was (seats_its v was) s d
      (sym (ap (λ (y : Volume). disk_in y.slots s) e.is) ∙ has_it) sound

  pub blocks_end : BlocksSeat S P.edits.formed (put S (RoundEnds m) c).round (behind S c m)
  blocks_end = record {
    may_book = h.may_book;
    may_given = h.may_given;
    low = h.low;
    goes = tt;
    last = seats_behind;
    book = subst (λ b. SeatsAll S b c.round.faults (behind S c m)) (sym goes.0) seats_behind;
    given = λ e young.
        let le = h.low e in
        let top = goes.1 in
        let same = goes.2 e (omega (arith, le, top, young)) in
        subst (λ b. SeatsAll S b c.round.faults (behind S c m)) (sym same) seats_behind;
  }

  pub runs_end : VolumesRun S c.round c.volumes → VolumesRun S (put S (RoundEnds m) c).round (behind S c m)
  runs_end run = record {
    able = λ v started sound.
        let e = ends_to S c m v in
        let was = was_started v started in
        let x = volume_at c.volumes v in
        subst (RunsOn S c.round.faults v) (sym e.is)
        (end_able S P c.round.faults c.round.last m v x e.made e.by form (opened v was) (seats_its v was)
        (run.able v was (sym (ap (λ (y : Volume). y.broken) e.is
        ∙ end_broken S P c.round.faults c.round.last m v x e.made e.by) ∙ sound)));
    slots = λ v started.
        let e = ends_to S c m v in
        subst (HasSlots S v) (sym e.is)
        (end_slots S P c.round.faults c.round.last m v (volume_at c.volumes v) e.made e.by
        (run.slots v (was_started v started)));
    certain = λ v s d first. absurd (cc first);
  }
