-- In each world of each run: what changes keep, and what holds where a turn ends.
use Rattle.std.proofs.Common.{◌≡◌, ℕ, zero, suc, ◌+◌, nat_lt, Bool, true, false, List, [], ◌∷◌, map, length, refl, ap, sym, ◌∙◌, Some, cond}
use Rattle.std.specs.Prelude.{slice_get}
use Rattle.std.specs.List.{range_with_len}
use Rattle.units.specs.declared.bounds.TheConstants.{CLIENTS}
use Rattle.array_model.specs.declared.script.Ask.{Ask}
use Rattle.array_model.specs.Blocks.{SlotWords}
use Rattle.array_model.specs.Renewal.{FitsGeneration}
use Rattle.array_machine.specs.Setting.{Setting}
use Rattle.array_machine.specs.States.{ToIdle}
use Rattle.array_machine.specs.Volumes.{disk_in, Volume, volume_at}
use Rattle.array_machine.specs.Operations.{ops_of}
use Rattle.array_machine.specs.Clients.{NoJob, Client, client_at, with_job}
use Rattle.array_machine.specs.Rounds.{Ended, Life, Lives, Killed, Takes, Dead, lives, working_disks}
use Rattle.array_machine.specs.Managers.{AskState, IsUnposted, IsPosted, IsApplied}
use Rattle.array_machine.specs.Control.{Control}
use Rattle.array_machine.specs.Changes.{StateGoes, MonitorKilled, TakeoverStarts}
use Rattle.array_machine.specs.Locks.{holds}
use Rattle.array_machine.specs.OtherTurns.{is_quiet, idle_if, fails_if, kills, restarts}
use Rattle.array_machine.specs.RoundEnds.{seat_of, has_other}
use Rattle.array_machine.specs.Turns.{may_call}
use Rattle.array_machine.specs.Machine.{Actor, Monitor, Manager, Sync, Client as ClientOf, Quiet, Fail, Kill, Takeover, turn_of, World, clients_of, begins_at, Reached, opens, goes}
use Rattle.array_paths.specs.Ready.{Ready}
use Rattle.array_base.specs.Premises.{MayBeBook, Premises}
use Rattle.array_base.specs.Opening.{slot_opened, Opening}
use Rattle.array_base.proofs.Runs.{each_world_has}
use Rattle.array_rest.specs.Between.{Kept, TurnIsOver}
use Rattle.array_rest.proofs.MonitorParts.{fault_turn, living_turn, managing_turn}
use Rattle.array_rest.proofs.SyncParts.{sync_turn}
use Rattle.array_rest.proofs.ClientParts.{client_turn}
use Rattle.array_rest.proofs.RoundEnd.{seat_there, seated_same}
use Rattle.array_rest.proofs.Turns.{none_killed, Turns, over, next, Leaves, turn_leaves}

-- EACH TURN

module _ (S : Setting) (P : Premises S) (c : Control) (kept : Kept S c) (ends : TurnIsOver S c) where
  quiet_made : (v : ℕ) (quiet : Bool) → Turns S c (idle_if v quiet).changes
  quiet_made v true = next (StateGoes v ToIdle) tt (over ends)
  quiet_made v false = over ends

  fail_made : (d : ℕ) (may : Bool) → Turns S c (fails_if S c d may).changes
  fail_made d true = fault_turn S P c kept ends d
  fail_made d false = over ends

  killed : Turns S c (MonitorKilled ∷ [])
  killed = next MonitorKilled tt (over (record {
    goes_on = refl;
    halted = λ dead. refl;
    submitted = ends.submitted;
    applied = λ rest. none_killed c.manager.asks;
  }))

  kill_made : (life : Life) → Turns S c (kills life).changes
  kill_made Lives = killed
  kill_made Killed = over ends
  kill_made (Takes left seen found) = killed
  kill_made Dead = over ends

  takeover_made : (left : List ℕ) (life : Life) → c.round.life ≡ life → Turns S c (restarts left life).changes
  takeover_made left Lives is = over ends
  takeover_made left Killed is = next (TakeoverStarts left) tt (over (record {
    goes_on = ends.goes_on;
    halted = λ dead. ends.halted (ap lives is);
    submitted = ends.submitted;
    applied = ends.applied;
  }))
  takeover_made left (Takes more seen found) is = over ends
  takeover_made left Dead is = over ends

  pub turn_made : MayBeBook S P.edits.formed c.round.book → Ready S c → FitsGeneration (c.round.note + 1) → (x : Ended)
      → (who : Actor) → Turns S c (turn_of S c x who).changes
  turn_made book ready fits x Monitor = living_turn S P c kept ends book ready fits x c.round.life refl
  turn_made book ready fits x Manager = managing_turn S P c kept ends (lives c.round.life)
  turn_made book ready fits x (Sync v) = sync_turn S c kept ends v x
  turn_made book ready fits x (ClientOf k) =
      client_turn S c kept ends k x (client_at c.clients k).left (client_at c.clients k).job refl
  turn_made book ready fits x (Quiet v) = quiet_made v (is_quiet S c v (volume_at c.volumes v))
  turn_made book ready fits x (Fail d) = fail_made d (may_call S c.round d)
  turn_made book ready fits x Kill = kill_made c.round.life
  turn_made book ready fits x Takeover = takeover_made (working_disks S c.round) c.round.life refl

-- WHEN A RUN BEGINS

none_posted : (asks : List Ask) (i : ℕ) (state : AskState)
    → slice_get (map (λ ask. IsUnposted) asks) i ≡ Some state → state ≡ IsUnposted
none_posted [] i state is = absurd cc
none_posted (a ∷ more) zero state is = let same : IsUnposted ≡ state = cc is in sym same
none_posted (a ∷ more) (suc i) state is = none_posted more i state is

clients_long : (f : ℕ → Client) (a n : ℕ) → length (map f (range_with_len a n)) ≡ n
clients_long f a zero = refl
clients_long f a (suc n) = ap suc (clients_long f (a + 1) n)

no_jobs : (f : ℕ → Client) → ((j : ℕ) → (f j).job ≡ NoJob) → (a n k : ℕ)
    → (client_at (map f (range_with_len a n)) k).job ≡ NoJob
no_jobs f none a zero k = refl
no_jobs f none a (suc n) zero = none a
no_jobs f none a (suc n) (suc k) = no_jobs f none (a + 1) n k

module _ (S : Setting) where
  pub idle_at_first : (k : ℕ) → (client_at (clients_of S) k).job ≡ NoJob
  idle_at_first k = no_jobs (λ j. with_job (ops_of S.asked.ops j) NoJob) (λ j. refl) 0 CLIENTS k

  none_holds : (v row k : ℕ) → holds S v row (client_at (clients_of S) k).job ≡ true → ⊥
  none_holds v row k held = let none = ap (holds S v row) (idle_at_first k) in cc (none, held)

  opened_there : (ws : List SlotWords) (s d : ℕ) → disk_in (map (slot_opened S) ws) s ≡ Some d
      → nat_lt d S.start.disks.count ≡ true
  opened_there [] s d is = absurd cc
  opened_there (w ∷ ws) zero d is = seat_there S w d is
  opened_there (w ∷ ws) (suc s) d is = opened_there ws s d is

  opened_seated : (ws : List SlotWords) → has_other S ws (map (slot_opened S) ws) ≡ false
  opened_seated [] = refl
  opened_seated (w ∷ ws) =
      let here = seated_same S (seat_of S w) in
      let more = opened_seated ws in
      rw (here, more) refl

  module _ (P : Premises S) (volumes : List Volume) (spares : List ℕ) (o : Opening S P volumes spares) where
    -- a volume that was started has the newest block's slots, another none
    slots_at_first : (v : ℕ) (b : Bool) → (volume_at volumes v).started ≡ b
        → (volume_at volumes v).slots ≡ cond b (map (slot_opened S) (S.start.words.slots S.start.newest v)) []
    slots_at_first v b is =
        (o.volumes_are v).slots ∙ ap (λ t. cond t (map (slot_opened S) (S.start.words.slots S.start.newest v)) []) is

    opens_kept : Kept S (begins_at S volumes spares).control
    opens_kept = record {
      count = clients_long (λ j. with_job (ops_of S.asked.ops j) NoJob) 0 CLIENTS;
      queued = λ i is. absurd (let bad = none_posted S.asked.asks i IsPosted is in cc bad);
      there = λ v s d is. there v s d (volume_at volumes v).started refl is;
      locks = record {
        one = λ v row j k held other. absurd (none_holds v row j held);
        pass = λ v row k held. absurd (none_holds v row k held);
      };
      passes = λ v p is. absurd (let none = (o.volumes_are v).pass in cc (none, is));
      started = λ v is. (o.volumes_are v).pass;
      seated = λ v is.
          ap (has_other S (S.start.words.slots S.start.newest v)) (slots_at_first v true is)
          ∙ opened_seated (S.start.words.slots S.start.newest v);
    }
      where
        there : (v s d : ℕ) (b : Bool) → (volume_at volumes v).started ≡ b
            → disk_in (volume_at volumes v).slots s ≡ Some d
            → nat_lt d S.start.disks.count ≡ true
        there v s d true is has_it =
            opened_there (S.start.words.slots S.start.newest v) s d
            (sym (ap (λ slots. disk_in slots s) (slots_at_first v true is)) ∙ has_it)
        there v s d false is has_it =
            absurd (let none = sym (ap (λ slots. disk_in slots s) (slots_at_first v false is)) ∙ has_it in cc none)

    opens_over : TurnIsOver S (begins_at S volumes spares).control
    opens_over = record {
      goes_on = refl;
      halted = λ dead. refl;
      submitted = λ k i is. let none = idle_at_first k in cc (none, is);
      applied = λ rest i is. let bad = none_posted S.asked.asks i IsApplied is in cc bad;
    }

    -- EACH WORLD

    pub each_leaves : (w : World) → Reached S volumes spares w → Leaves S w.control
    each_leaves w opens = record { kept = opens_kept; over = opens_over }
    each_leaves w (goes {w = v} run a fits) =
        let had = each_leaves v run in
        let base = each_world_has S P volumes spares o v run in
        turn_leaves S v.control _
        (turn_made S P v.control had.kept had.over base.base.core.hand.book base.ready fits a.ended a.actor) had.kept
