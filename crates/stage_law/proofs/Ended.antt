-- Where no actor of a stage has anything to do, none of the machine's has.
use Rattle.std.proofs.Common.{◌≡◌, ℕ, ◌<◌, ◌≤◌, ◌&&◌, ◌⊎◌, inl, inr, Bool, true, List, [], ◌∷◌, length, Option, Some, None, refl, ap, sym, ◌∙◌, arith, is_none}
use Rattle.std.proofs.lemmas.List.FromFn.{length-range_with_len}
use Rattle.units.specs.declared.disk.Sector.{Sector}
use Rattle.device_log.specs.Log.{Call}
use Rattle.array_model.specs.declared.journal.Event.{Event}
use Rattle.array_model.specs.Script.{Asked}
use Rattle.stage_machine.specs.Setting.{Setting}
use Rattle.stage_machine.specs.Rounds.{Ended}
use Rattle.stage_machine.specs.Opens.{AsksFirst}
use Rattle.stage_machine.specs.Jobs.{Job, NoJob, Busy, client_at}
use Rattle.stage_machine.specs.Machine.{Control, World, Reached, Out, Action, Monitors, Asks, Quiets, turned, turned_unless, call_of, call_unless, client_by, job_call}
use Rattle.stage_machine.proofs.Clients.{IsOf, mine_reached}
use Rattle.stage_machine.proofs.Alike.{Alike}
use Rattle.rest_law.specs.Rest.{IsStill, IsAtRest, CanEnd}
use Rattle.rest_law.proofs.Acks.{client_below}
use Rattle.rest_law.proofs.Ends.{monitor_still, client_still}
use Rattle.control_state.specs.Still.{is_still, is_silent}
use Rattle.first_opening.specs.Opened.{Opened, IsOpening, targets_of, setting_of}
use Rattle.first_opening.proofs.Found.{found, targets-are}
use Rattle.first_opening.proofs.Slots.{two-members}
use Rattle.stage_law.specs.Runs.{AsksRows}

nothing_of : (call : Option Call) (events : List Event) → (is_none call && is_silent events) ≡ true → (call ≡ None) × (events ≡ [])
nothing_of None [] still = (refl, refl)
nothing_of None (e ∷ es) still = absurd (cc still)
nothing_of (Some call) events still = absurd (cc still)

-- a still actor is still under each setting whose turns are the same
still_alike : (S T : Setting) → Alike S T → (c : Control) (a : Action) → is_still S c a ≡ true → IsStill T c a
still_alike S T alike c a still =
    let none = nothing_of (call_of S c a) (turned S c a).events still in
    record {
      calls = sym (alike.calls c a) ∙ none.0;
      enters = ap (λ (o : Out). o.events) (sym (alike.turns c a)) ∙ none.1;
    }

-- the actors of a stage are still: the monitor, each client, and quiet
pub record ActorsStill (S : Setting) (c : Control) : Type 0 where
  pub monitor : (x : Ended) × (is_still S c (Monitors x) ≡ true)
  pub clients : (k : ℕ) → k < 16 → (x : Ended) × (got : Sector) × (is_still S c (Asks k x got) ≡ true)
  pub quiet : is_still S c Quiets ≡ true

pub rests : (S T : Setting) → Alike S T → (c : Control) → ActorsStill S c → IsAtRest T c
rests S T alike c still = record {
  monitor = λ y. monitor_still T c still.monitor.0 y (still_alike S T alike c (Monitors still.monitor.0) still.monitor.1);
  clients = λ k below y given.
      let one = still.clients k below in
      client_still T c k one.0 y one.1 given (still_alike S T alike c (Asks k one.0 one.1) one.2);
  quiet = still_alike S T alike c Quiets still.quiet;
}

-- a client that isn't one of the sixteen has nothing to do
past_still : (T : Setting) → AsksFirst T → (w : World) → Reached T w → (k : ℕ) → 16 ≤ k → (x : Ended) (got : Sector) → IsStill T w.control (Asks k x got)
past_still T asks w r k le x got = let both = at w.control.failed in record { calls = both.0; enters = both.1 }
  where
    by : (left : List ℕ) (job : Job) → IsOf T k (record { left = left; job = job }) → (job_call T w.control k x job ≡ None) × ((client_by T w.control k x got left job).events ≡ [])
    by [] NoJob mine = (refl, refl)
    by (i ∷ rest) NoJob mine = let below : k < 16 = client_below T.asked.ops asks.clients k i mine.left.0 in absurd (omega (arith, le, below))
    by left (Busy i step) mine = let below : k < 16 = client_below T.asked.ops asks.clients k i mine.job.mine in absurd (omega (arith, le, below))

    at : (failed : Option ℕ) → (call_unless T w.control (Asks k x got) failed ≡ None) × ((turned_unless T w.control (Asks k x got) failed).events ≡ [])
    at None = by (client_at w.control.clients k).left (client_at w.control.clients k).job (mine_reached T w r k)
    at (Some d) = (refl, refl)

-- at rest nobody has a turn to take
pub each_still : (T : Setting) → AsksFirst T → (w : World) → Reached T w → IsAtRest T w.control → (a : Action) → IsStill T w.control a
each_still T asks w r rest (Monitors x) = rest.monitor x
each_still T asks w r rest (Asks k x got) =
    let split : (k < 16) ⊎ (16 ≤ k) = grind arith in
    elim split [
      | inl below ↦ rest.clients k below x got
      | inr past ↦ past_still T asks w r k past x got
    ]
each_still T asks w r rest Quiets = rest.quiet

-- nor has anybody under a setting whose turns are the same
pub still_as : (S T : Setting) → Alike S T → (c : Control) (a : Action) → IsStill T c a → is_still S c a ≡ true
still_as S T alike c a still =
    let none : call_of S c a ≡ None = alike.calls c a ∙ still.calls in
    let silent : (turned S c a).events ≡ [] = ap (λ (o : Out). o.events) (alike.turns c a) ∙ still.enters in
    ap (λ (x : Option Call). is_none x && is_silent (turned S c a).events) none ∙ ap is_silent silent

-- a run over a container of the first form can end
pub can_end : (o : Opened) (asked : Asked) (content : ℕ → ℕ → Sector) (unsure : ℕ → ℕ → Bool) → IsOpening o → AsksRows asked.ops → CanEnd (setting_of o asked content unsure)
can_end o asked content unsure opens rows =
    let some = (found o opens).some in
    let count : length (targets_of o) ≡ length o.serials = ap (λ (xs : List ℕ). length xs) (targets-are o opens) ∙ length-range_with_len 0 (length o.serials) in
    let two = two-members o opens in
    record { rows_alone = rows; target = omega (arith, some, count); member = omega (arith, two) }
