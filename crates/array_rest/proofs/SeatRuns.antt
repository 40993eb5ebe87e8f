-- In each world of each run the blocks in hand seat each disk without a fault where a volume has it, and a volume that
-- could run when it was started can as long as it isn't broken: so it has a disk that the last finished round vouches for.
use Rattle.std.proofs.Common.{◌≡◌, ℕ, zero, suc, ◌&&◌, not, Bool, true, false, List, [], ◌∷◌, map, refl, ap, sym, ◌∙◌, subst, arith, Option, Some, None, ◌⊎◌, inl, inr, cond}
use Rattle.std.specs.Prelude.{slice_get}
use Rattle.std.proofs.lemmas.Bool.{and_parts}
use Rattle.device_log.specs.Log.{Call}
use Rattle.array_model.specs.Blocks.{Laid, SlotWords}
use Rattle.array_machine.specs.Setting.{Setting}
use Rattle.array_machine.specs.Numbers.{has, has_serial}
use Rattle.array_machine.specs.Volumes.{Slot, slot_at, disk_in, Volume, volume_at}
use Rattle.array_machine.specs.Operations.{shape_of}
use Rattle.array_machine.specs.Rounds.{Ended, Step, OfRound, Going}
use Rattle.array_machine.specs.Control.{Control}
use Rattle.array_machine.specs.Changes.{Change, RoundEnds}
use Rattle.array_machine.specs.Puts.{put, puts}
use Rattle.array_machine.specs.RoundEnds.{all_runs}
use Rattle.array_machine.specs.Machine.{World, begins_at, Reached, opens, goes}
use Rattle.array_paths.specs.InTurn.{InTurn}
use Rattle.array_paths.specs.Comes.{Comes, ends}
use Rattle.array_paths.specs.Effects.{Path, ends_here, goes_on}
use Rattle.array_paths.specs.Follows.{in_turn}
use Rattle.array_paths.proofs.TurnPath.{turns_are_paths}
use Rattle.array_base.specs.Premises.{Premises}
use Rattle.array_base.specs.Opening.{counts_out, slot_opened, Opening}
use Rattle.array_base.specs.Base.{ledger, IsTrusted}
use Rattle.array_base.proofs.Runs.{each_world_has}
use Rattle.array_base.proofs.Seats.{slot_of_words, seat_is}
use Rattle.array_rest.specs.Seats.{SeatsAll, OpensAble}
use Rattle.array_rest.specs.Rests.{SomeIsTrusted}
use Rattle.array_rest.proofs.RoundEnd.{runs_only, runs}
use Rattle.array_rest.proofs.Runnable.{usable_disk, runs_on_one}
use Rattle.array_rest.proofs.SeatEdits.{seat_expects}
use Rattle.array_rest.proofs.SeatEnds.{was_started, blocks_end, runs_end}
use Rattle.array_rest.proofs.SeatSteps.{IsOfCall, comes_or_called, Seated, seated_change}
use Rattle.array_rest.proofs.Turns.{Turns, next, round_ends}
use Rattle.array_rest.proofs.Reach.{turn_made, each_leaves}

module _ (S : Setting) (P : Premises S) (A : Type 0) where
  abbrev pub SeatedIn : Control → Type 0
  SeatedIn c = Seated S P.edits.formed A c

  -- THE END OF A ROUND

  pub phase_of : (t : InTurn) (c : Control) (m : Laid) → Comes S t c (RoundEnds m) ⊎ IsOfCall (RoundEnds m)
      → (step : Step) × (c.round.phase ≡ Going OfRound m step [] [] true)
  phase_of t c m (inl (ends _ step is)) = (step, is)
  phase_of t c m (inr bad) = absurd bad

  pub seated_end : (c : Control) (m : Laid) (step : Step) → c.round.phase ≡ Going OfRound m step [] [] true → SeatedIn c
      → SeatedIn (puts S (all_runs (runs S c m)) (put S (RoundEnds m) c))
  seated_end c m step phase h =
      subst SeatedIn (sym (runs_only S (runs S c m) (put S (RoundEnds m) c))) (record {
        blocks = blocks_end S P c m step phase h.opened h.blocks;
        run = λ a. runs_end S P c m step phase h.opened h.blocks (h.run a);
        opened = λ v is. h.opened v (was_started S P c m step phase h.opened h.blocks v is);
      })

  -- A TURN

  walk : (t : InTurn) (c : Control) (call : Option Call) (x : Ended) (changes : List Change)
      → Path S t c call x changes → Turns S c changes → SeatedIn c → SeatedIn (puts S changes c)
  walk t c None x [] (ends_here _) turns h = h
  walk t c (Some call) x [] path turns h = elim path [ ]
  walk t c call x (a ∷ more) (goes_on effect path) (next _ fine turns) h =
      walk t (put S a c) None x more path turns (seated_change S P A t c h a fine (comes_or_called S t c a effect))
  walk t c call x (RoundEnds m ∷ _) (goes_on effect path) (round_ends _ submitted) h =
      let phase = phase_of t c m (comes_or_called S t c (RoundEnds m) effect) in
      seated_end c m phase.0 phase.1 h

-- EACH WORLD

slot_is : (f : SlotWords → Slot) (ws : List SlotWords) (s : ℕ) (w : SlotWords) → slice_get ws s ≡ Some w
    → slot_at (map f ws) s ≡ f w
slot_is f [] s w is = absurd cc
slot_is f (y ∷ ys) zero w is = let same : y ≡ w = cc is in ap f same
slot_is f (y ∷ ys) (suc s) w is = slot_is f ys s w is

flips : (b : Bool) → not b ≡ true → b ≡ false
flips true h = absurd (cc h)
flips false h = refl

module _ (S : Setting) (P : Premises S) (volumes : List Volume) (spares : List ℕ) (o : Opening S P volumes spares) where
  abbrev pub Able : Type 0
  Able = OpensAble S volumes

  slots_opened : (v : ℕ) → (volume_at volumes v).started ≡ true
      → (volume_at volumes v).slots ≡ map (slot_opened S) (S.start.words.slots S.start.newest v)
  slots_opened v started =
      (o.volumes_are v).slots ∙ ap (λ b. cond b (map (slot_opened S) (S.start.words.slots S.start.newest v)) []) started

  seats_opened : SeatsAll S S.start.newest [] volumes
  seats_opened v s d started has_it sound =
      let found = slot_of_words (slot_opened S) (S.start.words.slots S.start.newest v) s d
      (sym (ap (λ xs. disk_in xs s) (slots_opened v started)) ∙ has_it) in
      let parts = seat_is S found.0 d found.2 in
      record { words = found.0; there = found.1; expected = parts.0; serial = parts.1 }

  certain_opened : (v s d : ℕ) → (volume_at volumes v).started ≡ true
      → (slot_at (volume_at volumes v).slots s).in_sync ≡ true → disk_in (volume_at volumes v).slots s ≡ Some d
      → counts_out S d ≡ false
  certain_opened v s d started synced has_it =
      let ws = S.start.words.slots S.start.newest v in
      let found = slot_of_words (slot_opened S) ws s d
      (sym (ap (λ xs. disk_in xs s) (slots_opened v started)) ∙ has_it) in
      let serial = (seat_is S found.0 d found.2).1 in
      let in_sync : (found.0.is_in_sync && not (has_serial found.0.serial S.start.counts_out)) ≡ true
      = sym (ap (λ (x : Slot). x.in_sync) (slot_is (slot_opened S) ws s found.0 found.1))
      ∙ sym (ap (λ xs. (slot_at xs s).in_sync) (slots_opened v started)) ∙ synced in
      let out = flips (has_serial found.0.serial S.start.counts_out)
      (and_parts found.0.is_in_sync (not (has_serial found.0.serial S.start.counts_out)) in_sync).1 in
      ap (λ z. has_serial z S.start.counts_out) (sym serial) ∙ out

  pub seated_at_first : Seated S P.edits.formed Able (begins_at S volumes spares).control
  seated_at_first = record {
    blocks = record {
      may_book = o.newest;
      may_given = λ e. o.newest;
      low = λ e. omega arith;
      goes = tt;
      last = seats_opened;
      book = seats_opened;
      given = λ e young. seats_opened;
    };
    run = λ able. record {
      able = λ v started sound. able.runs v started;
      slots = able.slots;
      certain = λ v s d first started synced has_it. certain_opened v s d started synced has_it;
    };
    opened = λ v is. sym (o.volumes_are v).started ∙ is;
  }

  pub each_seated : (w : World) → Reached S volumes spares w → Seated S P.edits.formed Able w.control
  each_seated w opens = seated_at_first
  each_seated w (goes {w = u} run a fits) =
      let had = each_leaves S P volumes spares o u run in
      let base = each_world_has S P volumes spares o u run in
      walk S P Able (in_turn u.control a.actor) u.control _ _ _
      (turns_are_paths S P.rows u.control base.ready a fits)
      (turn_made S P u.control had.kept had.over base.base.core.hand.book base.ready fits a.ended a.actor)
      (each_seated u run)

  trusted_by : (w : World) (d : ℕ) (b : Bool) → w.control.round.first ≡ b → (b ≡ true → counts_out S d ≡ false)
      → S.start.words.expects w.control.round.last (S.start.disks.serial d) ≡ true → has d w.control.round.faults ≡ false
      → IsTrusted S (ledger w.control.round) d
  trusted_by w d true is certain expected sound =
      let out = certain refl in rw (is, expected, sound, out) refl
  trusted_by w d false is certain expected sound = rw (is, expected, sound) refl

  -- A volume that isn't broken has a disk that the last finished round vouches for.
  pub sound_is_trusted : OpensAble S volumes → (w : World) → Reached S volumes spares w → (v : ℕ)
      → (volume_at w.control.volumes v).started ≡ true → (volume_at w.control.volumes v).broken ≡ false
      → SomeIsTrusted S w.control.round
  sound_is_trusted able w run v started sound =
      let seated = each_seated w run in
      let runs = seated.run able in
      let x = volume_at w.control.volumes v in
      let r = w.control.round in
      let some = runs_on_one (shape_of S v).level r.faults x.slots (runs.slots v started).some
      (runs.able v started sound) in
      let d = usable_disk r.faults [] (slot_at x.slots some.slot) some.is in
      let form = (each_world_has S P volumes spares o w run).base.core.hand.last.form in
      let expected = seat_expects S P r.last v some.slot d.disk form (seated.opened v started)
      (seated.blocks.last v some.slot d.disk started d.is d.sound) in
      record {
        disk = d.disk;
        is = trusted_by w d.disk r.first refl
            (λ first. runs.certain v some.slot d.disk first started d.in_sync d.is) expected d.sound;
      }
