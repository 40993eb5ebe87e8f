-- In each world of each run the blocks of the rounds that began count what passes had read.
use Rattle.std.proofs.Common.{◌≡◌, ℕ, ◌||◌, false, List, [], ◌∷◌, map, refl, ap, ◌∙◌, Option, Some, None, inl, inr}
use Rattle.device_log.specs.Log.{Call}
use Rattle.array_model.specs.Blocks.{SlotWords}
use Rattle.array_model.specs.Events.{AtEach}
use Rattle.array_model.specs.FailureLaw.{pass_from, BeginCounts}
use Rattle.array_machine.specs.Setting.{Setting}
use Rattle.array_machine.specs.Volumes.{Volume, volume_at}
use Rattle.array_machine.specs.Rounds.{Ended}
use Rattle.array_machine.specs.RoundEnds.{seat_of, is_other, has_other}
use Rattle.array_machine.specs.Control.{Control}
use Rattle.array_machine.specs.Changes.{Change}
use Rattle.array_machine.specs.Puts.{put}
use Rattle.array_machine.specs.Machine.{Actor, World, Reached, begins_at, calls_after, log_after}
use Rattle.array_paths.specs.InTurn.{InTurn}
use Rattle.array_paths.specs.Effects.{after_effect}
use Rattle.array_paths.specs.Follows.{in_turn}
use Rattle.array_base.specs.Premises.{Premises}
use Rattle.array_base.specs.Opening.{slot_opened, Opening}
use Rattle.array_base.specs.Base.{disks_by}
use Rattle.array_base.specs.Laws.{OverBase}
use Rattle.array_form.specs.Behind.{Behind}
use Rattle.array_told.specs.Told.{Tells, Stamps}
use Rattle.array_told.proofs.Tells.{tells_effect, tells_open}
use Rattle.array_told.proofs.Stamps.{stamps_effect, stamps_open}
use Rattle.array_failures.specs.Members.{LastLeads}
use Rattle.array_failures.proofs.Leads.{leads_effect}
use Rattle.array_failures.proofs.RoundRuns.{leads_open}
use Rattle.array_units.specs.EditUnits.{EditsKeepUnits, RowsLieApart}
use Rattle.array_units.specs.Counted.{PassesStand, LivesOn, IsSince, HasCountedAt}
use Rattle.array_units.specs.Seats.{AreSeated, WillBeSeated}
use Rattle.array_units.specs.Rests.{AtRest, NoneCount, FaultsStay}
use Rattle.array_units.proofs.Along.{IsFirst, FollowsCalls, along_calls}
use Rattle.array_units.proofs.Life.{lives_effect}
use Rattle.array_units.proofs.Stand.{stands_effect}
use Rattle.array_units.proofs.Seated.{same_own, seats_effect}
use Rattle.array_units.proofs.Rests.{rests_effect, none_count, faults_effect}
use Rattle.array_units.proofs.Since.{since_effect}
use Rattle.array_units.proofs.Rounds.{counted_effect, begins_count}

module _ (S : Setting) where
  -- AT OPENING

  own_seats : (ws : List SlotWords) → has_other S ws (map (slot_opened S) ws) ≡ false
  own_seats [] = refl
  own_seats (w ∷ ws) = at (seat_of S w) (own_seats ws)
    where
      at : (seat : Option ℕ) → has_other S ws (map (slot_opened S) ws) ≡ false
          → (is_other seat seat || has_other S ws (map (slot_opened S) ws)) ≡ false
      at None rest = rest
      at (Some d) rest = let same = same_own d in rw same rest

  module _ (P : Premises S) (units : EditsKeepUnits S P.edits.formed) (apart : RowsLieApart S) where
    -- what holds in a turn, behind a change, with those still to come
    record Holds (t : InTurn) (prev : Option Change) (more : List Change) (w : World) : Type 0 where
      stamps : Stamps w
      told : Tells S w.control w.journal
      leads : LastLeads S (disks_by S w.log) w.control
      counted : AtEach (λ f e. HasCountedAt S (disks_by S w.log) w.control w.log f e.stamp e.event) w.journal
      life : LivesOn S w.control
      before : PassesStand S t.before
      stand : PassesStand S w.control
      seated : AreSeated S t.before
      seats : WillBeSeated S w.control more
      rests : AtRest prev w.control
      none : NoneCount prev w.journal
      faults : FaultsStay t prev w.control w.calls w.journal
      since : (v n : ℕ) → pass_from v None w.journal ≡ Some n → IsSince S w.control w.log v n

    all_seated : (c : Control) → WillBeSeated S c [] → AreSeated S c
    all_seated c will u started = elim (will u started) [
      | inl own ↦ own
      | inr never ↦ absurd never
    ]

    begins : (t : InTurn) (prev : Option Change) (w : World) (who : Actor) (more : List Change) → Holds t prev [] w
        → Holds (in_turn w.control who) None more w
    begins t prev w who more h = record {
      stamps = h.stamps;
      told = h.told;
      leads = h.leads;
      counted = h.counted;
      life = h.life;
      before = h.stand;
      stand = h.stand;
      seated = all_seated w.control h.seats;
      seats = λ u started. inl (all_seated w.control h.seats u started);
      rests = λ on. absurd (cc on);
      none = tt;
      faults = inl refl;
      since = h.since;
    }

    step : (t : InTurn) (prev : Option Change) (more : List Change) (w : World) (call : Option Call) (x : Ended)
        (a : Change) → IsFirst prev call → OverBase S P t w call x a → Behind S t.before w.control prev more a
        → Holds t prev (a ∷ more) w → Holds t (Some a) more (after_effect S w call a)
    step t prev more w call x a first o behind h =
        let stamps = stamps_effect S w call a h.stamps in
        let leads : LastLeads S (disks_by S (log_after w.log call)) (put S a w.control) =
        leads_effect S P t w call x a o h.leads in
        record {
          stamps = stamps;
          told = tells_effect S t w.control call x a o.effect (calls_after w.calls call) w.journal h.told;
          leads = leads;
          counted = counted_effect S P units t w prev more call x a o h.stamps stamps o.effect behind h.none h.seated
              h.since h.told leads h.counted;
          life = lives_effect S w.control h.life t o.effect;
          before = h.before;
          stand = stands_effect S t w.control h.before h.stand o.effect;
          seated = h.seated;
          seats = seats_effect S t w.control prev more o.effect behind h.seats;
          rests = rests_effect S t w.control prev more o.effect behind h.rests;
          none = none_count S a (calls_after w.calls call) w.journal;
          faults = faults_effect S t w.control prev call a w.calls w.journal first h.faults;
          since = since_effect S P units apart t w prev more h.life h.before h.stand h.rests h.none h.faults h.seated
              h.stamps h.since o.before o.ready o.effect behind;
        }

    module _ (volumes : List Volume) (spares : List ℕ) (o : Opening S P volumes spares) where
      seats_open : AreSeated S (begins_at S volumes spares).control
      seats_open u started =
          let is = (o.volumes_are u).slots in
          let here : (volume_at volumes u).slots ≡ map (slot_opened S) (S.start.words.slots S.start.newest u) =
          is ∙ rw started refl in
          let ws = S.start.words.slots S.start.newest u in ap (has_other S ws) here ∙ own_seats ws

      no_passes : PassesStand S (begins_at S volumes spares).control
      no_passes v p is = absurd (let none = (o.volumes_are v).pass in cc (none, is))

      opens : (who : Actor)
          → Holds (in_turn (begins_at S volumes spares).control who) None [] (begins_at S volumes spares)
      opens who = record {
        stamps = stamps_open S volumes spares;
        told = tells_open S volumes spares (λ v. (o.volumes_are v).state);
        leads = leads_open S P volumes spares o;
        counted = tt;
        life = record { going = λ on. refl; ended = λ is. refl };
        before = no_passes;
        stand = no_passes;
        seated = seats_open;
        seats = λ u started. inl (seats_open u started);
        rests = λ on. absurd (cc on);
        none = tt;
        faults = inl refl;
        since = λ v n is. absurd (cc is);
      }

      follows : FollowsCalls S P volumes spares Holds
      follows = record { opens = opens _; begins = begins; step = step }

      pub rounds_count : (w : World) → Reached S volumes spares w
          → AtEach (λ f e. BeginCounts S.start S.asked.ops w.log f e.stamp e.event) w.journal
      rounds_count w run =
          let had = along_calls S P volumes spares Holds follows o w run in
          begins_count S w.log w.control w.journal had.2.counted
