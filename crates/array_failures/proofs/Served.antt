-- A volume that is ready was started, and behind it a round has finished: through each effect.
use Rattle.std.proofs.Common.{◌≡◌, ℕ, Bool, true, false, List, [], ◌∷◌, ◌++◌, refl, ap, sym, ◌∙◌, subst, Option, inl, inr}
use Rattle.units.specs.declared.disk.Sector.{Sector}
use Rattle.device_log.specs.Log.{Call, What}
use Rattle.array_model.specs.Candidates.{Disk}
use Rattle.array_machine.specs.Setting.{Setting}
use Rattle.array_machine.specs.States.{State, IsReadonly, IsReadAuto, IsClean, IsPending, IsActive, IsIdle, StateWord, ToReady, ToPending, ToActive, ToActiveAgain, ToIdle, ToClean, state_after}
use Rattle.array_machine.specs.Volumes.{Slot, Pass, Volume, volume_at}
use Rattle.array_machine.specs.Rounds.{Ended}
use Rattle.array_machine.specs.Faults.{round_without}
use Rattle.array_machine.specs.Control.{Control}
use Rattle.array_machine.specs.Changes.{Change, StepsOn, RoundBegins, SpareBegins, RoundEnds, SpareEnds, RoundLapses, DiskFails, DiskUnblocks, StateGoes, ClientMoves, PassMoves, ManagerMoves, MonitorKilled, TakeoverStarts, TakeoverReads, MonitorResumes, MonitorDies, PassWord, GoesOnQuietly}
use Rattle.array_machine.specs.Puts.{put}
use Rattle.array_machine.specs.TakeoverTurns.{has_all}
use Rattle.array_paths.specs.InTurn.{InTurn, state_of}
use Rattle.array_paths.specs.PassMove.{slots_of}
use Rattle.array_paths.specs.Comes.{Comes, begins, begins_spare, ends, ends_spare, lapses, fails, unblocks, readies, pends, activates, again, idles, cleans, client, pass, manages, kills, takes_over, resumes, dies}
use Rattle.array_paths.specs.AtRows.{AtRows, by_client, by_pass, by_monitor, after_read}
use Rattle.array_paths.specs.Effects.{Effect, quiet, row, row_fails, steps, step_fails}
use Rattle.array_base.specs.Premises.{Premises}
use Rattle.array_base.specs.Base.{ledger, Between}
use Rattle.array_base.proofs.Slots.{volumes_go}
use Rattle.array_told.proofs.Tells.{state_without, set_at, state_with_pass}
use Rattle.array_failures.specs.Recorded.{IsServed, ReadyAreServed}

module _ (S : Setting) (P : Premises S) (ks : ℕ → Disk) (t : InTurn) (c : Control)
    (b : Between S P ks (ledger c.round) c.round.phase) (served : ReadyAreServed c) where
  -- of the state that a volume has now, by the round and the volumes before
  abbrev ServedBefore : Change → Type 0
  ServedBefore a =
      (v : ℕ) → (state_of (put S a c) v ≡ IsReadonly → ⊥) → IsServed c v

  served_word : (v : ℕ) (word : StateWord) → IsServed c v → ServedBefore (StateGoes v word)
  served_word v word why w awake =
      elim (set_at c.volumes v (record (volume_at c.volumes v) { state = state_after word }) w) [
        | inl here ↦ subst (IsServed c) here.0 why
        | inr other ↦ served w (λ is. awake (ap (λ (x : Volume). x.state) other ∙ is))
      ]

  served_pass : (v : ℕ) (slots : List Slot) (new : Option Pass) (word : PassWord)
      → ServedBefore (PassMoves v slots new word)
  served_pass v slots new word w awake = served w (λ is. awake (state_with_pass c.volumes v slots new w ∙ is))

  served_fault : (d : ℕ) → ServedBefore (DiskFails d)
  served_fault d w awake =
      served w (λ is. awake (state_without S d (round_without S d c.round) 0 c.volumes w ∙ is))

  ended_later : (first : Bool) → c.round.first ≡ first → c.round.ended ≡ true → c.round.first ≡ false
  ended_later false is ended = is
  ended_later true is ended = absurd (let none = b.core.generations.none_ended is in cc (none, ended))

  -- a volume in a state that isn't read-only
  awake_served : (v : ℕ) (state : State) → state_of c v ≡ state → (state ≡ IsReadonly → ⊥) → IsServed c v
  awake_served v state is awake = served v (λ shut. awake (sym is ∙ shut))

  served_comes : (a : Change) → Comes S t c a → ServedBefore a
  served_comes _ (readies v started state rest ended) =
      served_word v ToReady (record { started = started; later = ended_later c.round.first refl ended })
  served_comes _ (pends v sound (inl state) submitted) =
      served_word v ToPending (awake_served v IsReadAuto state (λ is. cc is))
  served_comes _ (pends v sound (inr state) submitted) =
      served_word v ToPending (awake_served v IsClean state (λ is. cc is))
  served_comes _ (activates v runs state rest ended dirty) =
      served_word v ToActive (awake_served v IsPending state (λ is. cc is))
  served_comes _ (again v sound state submitted) =
      served_word v ToActiveAgain (awake_served v IsIdle state (λ is. cc is))
  served_comes _ (idles v who runs state still) =
      served_word v ToIdle (awake_served v IsActive state (λ is. cc is))
  served_comes _ (cleans v runs state rest) = served_word v ToClean (awake_served v IsIdle state (λ is. cc is))
  served_comes _ (pass v slots new word move) = served_pass v slots new word
  served_comes _ (fails d who may) = served_fault d
  served_comes _ (begins m life rest target next) = served
  served_comes _ (begins_spare d m life rest target may is unlisted room) = served
  served_comes _ (ends m step is) = served
  served_comes _ (ends_spare d m step is) = served
  served_comes _ (lapses aim m step late is) = served
  served_comes _ (unblocks d rest blocked ended unexpected) = served
  served_comes _ (client k new word move) = served
  served_comes _ (manages new word move) = served
  served_comes _ (kills who awake) = served
  served_comes _ (takes_over who life) = served
  served_comes _ (resumes d taking young) = served
  served_comes _ (dies taking) = served

  served_read : (d : ℕ) (left : List ℕ) (seen : List Sector) (found : List ℕ) (all : Bool)
      → ServedBefore (after_read S c d left seen found all)
  served_read d left seen found true = served
  served_read d left seen found false = served

  served_rows : (d : ℕ) (what : What) (x : Ended) (a : Change) → AtRows S c d what x a → ServedBefore a
  served_rows d _ x _ (by_client k i r need _ _ call) = served
  served_rows d _ x _ (by_pass v p need _ _ call) = served_pass v (slots_of c v) _ GoesOnQuietly
  served_rows d _ x _ (by_monitor left seen found _ life) =
      served_read d left (seen ++ x.got ∷ []) found (has_all S (seen ++ x.got ∷ []))

  served_before : {call : Option Call} {x : Ended} {a : Change} → Effect S t c call x a → ServedBefore a
  served_before (quiet x a comes) = served_comes a comes
  served_before (row d what x a may calls went at) = served_rows d what x a at
  served_before (row_fails d what x may calls failed lost) = served_fault d
  served_before (steps d m step x target went) = served
  served_before (step_fails d m step x target failed) = served_fault d

  later_stays : (a : Change) → c.round.first ≡ false → (put S a c).round.first ≡ false
  later_stays (RoundEnds m) h = refl
  later_stays StepsOn h = h
  later_stays (RoundBegins m) h = h
  later_stays (SpareBegins d m) h = h
  later_stays (SpareEnds d) h = h
  later_stays RoundLapses h = h
  later_stays (DiskFails d) h = h
  later_stays (DiskUnblocks d) h = h
  later_stays (StateGoes v word) h = h
  later_stays (ClientMoves k new word) h = h
  later_stays (PassMoves v slots new word) h = h
  later_stays (ManagerMoves new word) h = h
  later_stays MonitorKilled h = h
  later_stays (TakeoverStarts left) h = h
  later_stays (TakeoverReads left seen found) h = h
  later_stays (MonitorResumes d) h = h
  later_stays MonitorDies h = h

  -- through an effect
  pub served_effect : {call : Option Call} {x : Ended} {a : Change} → Effect S t c call x a
      → ReadyAreServed (put S a c)
  served_effect {a = a} effect v awake =
      let was = served_before effect v awake in
      record {
        started = (volumes_go S t c effect v).started ∙ was.started;
        later = later_stays a was.later;
      }
