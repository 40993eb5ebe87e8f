-- A volume that wasn't started stays read-only, and doesn't break.
use Rattle.std.proofs.Common.{◌≡◌, ℕ, ◌++◌, Bool, true, false, List, [], ◌∷◌, ap, sym, ◌∙◌, subst, slice_set, Option, Some, inl, inr}
use Rattle.units.specs.declared.disk.Sector.{Sector}
use Rattle.device_log.specs.Log.{Call, What}
use Rattle.array_machine.specs.Setting.{Setting}
use Rattle.array_machine.specs.States.{IsReadonly, StateWord, ToReady, ToPending, ToActive, ToActiveAgain, ToIdle, ToClean, state_after}
use Rattle.array_machine.specs.Volumes.{Slot, Pass, Volume, volume_at}
use Rattle.array_machine.specs.Rounds.{Ended}
use Rattle.array_machine.specs.Faults.{round_without}
use Rattle.array_machine.specs.Control.{Control}
use Rattle.array_machine.specs.Changes.{Change, DiskFails, StateGoes, PassMoves, PassWord, GoesOnQuietly}
use Rattle.array_machine.specs.Puts.{put}
use Rattle.array_machine.specs.TakeoverTurns.{has_all}
use Rattle.array_machine.specs.Machine.{World, Reached}
use Rattle.array_paths.specs.InTurn.{InTurn}
use Rattle.array_paths.specs.Comes.{Comes, begins, begins_spare, ends, ends_spare, lapses, fails, unblocks, readies, pends, activates, again, idles, cleans, client, pass, manages, kills, takes_over, resumes, dies}
use Rattle.array_paths.specs.PassMove.{slots_of, pass_after}
use Rattle.array_paths.specs.AtRows.{AtRows, by_client, by_pass, by_monitor, after_read}
use Rattle.array_paths.specs.Effects.{Effect, quiet, row, row_fails, steps, step_fails}
use Rattle.array_base.specs.Premises.{Premises}
use Rattle.array_base.specs.Opening.{Opening}
use Rattle.array_base.specs.Laws.{FollowsBase}
use Rattle.array_base.proofs.Runs.{along_base}
use Rattle.array_base.proofs.Slots.{volume_set}
use Rattle.array_rest.proofs.Parts.{FailedVolume, keeps, loses, failed_volume}

-- a volume that wasn't started is read-only, and isn't broken
abbrev pub AreStopped : List Volume → Type 0
AreStopped volumes =
    (v : ℕ) → (volume_at volumes v).started ≡ false
    → ((volume_at volumes v).state ≡ IsReadonly) × ((volume_at volumes v).broken ≡ false)

module _ (S : Setting) (t : InTurn) (c : Control) (h : AreStopped c.volumes) where
  set_stopped : (v : ℕ) (y : Volume)
      → (y.started ≡ false → (y.state ≡ IsReadonly) × (y.broken ≡ false)) → AreStopped (slice_set c.volumes v y)
  set_stopped v y good w is = elim (volume_set c.volumes v y w) [
    | inl here ↦
        subst (λ (x : Volume). (x.state ≡ IsReadonly) × (x.broken ≡ false)) (sym here.1)
        (good (sym (ap (λ (x : Volume). x.started) here.1) ∙ is))
    | inr other ↦
        subst (λ (x : Volume). (x.state ≡ IsReadonly) × (x.broken ≡ false)) (sym other)
        (h w (sym (ap (λ (x : Volume). x.started) other) ∙ is))
  ]

  fault_stopped : (d : ℕ) → AreStopped (put S (DiskFails d) c).volumes
  fault_stopped d v is = at (failed_volume S d (round_without S d c.round) c.volumes v)
    where
      at : FailedVolume S d (round_without S d c.round) v (volume_at c.volumes v)
          (volume_at (put S (DiskFails d) c).volumes v)
          → ((volume_at (put S (DiskFails d) c).volumes v).state ≡ IsReadonly)
          × ((volume_at (put S (DiskFails d) c).volumes v).broken ≡ false)
      at (keeps same none) =
          subst (λ (x : Volume). (x.state ≡ IsReadonly) × (x.broken ≡ false)) (sym same)
          (h v (sym (ap (λ (x : Volume). x.started) same) ∙ is))
      at (loses broken started same) =
          absurd (let was = sym (ap (λ (x : Volume). x.started) same) ∙ is in cc (was, started))

  -- a word comes only to a volume that was started
  goes_stopped : (v : ℕ) (word : StateWord) → ((volume_at c.volumes v).started ≡ false → ⊥)
      → AreStopped (put S (StateGoes v word) c).volumes
  goes_stopped v word never =
      set_stopped v (record (volume_at c.volumes v) { state = state_after word }) (λ stopped. absurd (never stopped))

  moves_stopped : (v : ℕ) (slots : List Slot) (new : Option Pass) (word : PassWord)
      → AreStopped (put S (PassMoves v slots new word) c).volumes
  moves_stopped v slots new word =
      set_stopped v (record (volume_at c.volumes v) { slots = slots; pass = new }) (λ stopped. h v stopped)

  comes_stopped : (a : Change) → Comes S t c a → AreStopped (put S a c).volumes
  comes_stopped _ (fails d who may) = fault_stopped d
  comes_stopped _ (readies v started state rest ended) = goes_stopped v ToReady (λ stopped. cc (started, stopped))
  comes_stopped _ (pends v sound state submitted) =
      goes_stopped v ToPending (λ stopped.
      let was = (h v stopped).0 in
      elim state [ inl auto ↦ cc (auto, was) | inr clean ↦ cc (clean, was) ])
  comes_stopped _ (activates v runs state rest ended dirty) =
      goes_stopped v ToActive (λ stopped. let started = runs.started in cc (started, stopped))
  comes_stopped _ (again v sound state submitted) =
      goes_stopped v ToActiveAgain (λ stopped. let was = (h v stopped).0 in cc (state, was))
  comes_stopped _ (idles v who runs state none) =
      goes_stopped v ToIdle (λ stopped. let started = runs.started in cc (started, stopped))
  comes_stopped _ (cleans v runs state rest) =
      goes_stopped v ToClean (λ stopped. let started = runs.started in cc (started, stopped))
  comes_stopped _ (pass v slots new word move) = moves_stopped v slots new word
  comes_stopped _ (begins m life rest target next) = h
  comes_stopped _ (begins_spare d m life rest target may is unlisted room) = h
  comes_stopped _ (ends m step is) = h
  comes_stopped _ (ends_spare d m step is) = h
  comes_stopped _ (lapses aim m step late is) = h
  comes_stopped _ (unblocks d rest blocked ended unexpected) = h
  comes_stopped _ (client k new word move) = h
  comes_stopped _ (manages new word move) = h
  comes_stopped _ (kills who awake) = h
  comes_stopped _ (takes_over who life) = h
  comes_stopped _ (resumes d taking young) = h
  comes_stopped _ (dies taking) = h

  read_stopped : (d : ℕ) (left : List ℕ) (seen : List Sector) (found : List ℕ) (b : Bool)
      → AreStopped (put S (after_read S c d left seen found b) c).volumes
  read_stopped d left seen found true = h
  read_stopped d left seen found false = h

  rows_stopped : (d : ℕ) (what : What) (x : Ended) (a : Change) → AtRows S c d what x a
      → AreStopped (put S a c).volumes
  rows_stopped d _ x _ (by_client k i r need what _ call) = h
  rows_stopped d _ x _ (by_pass v p need what _ call) =
      moves_stopped v (slots_of c v) (Some (pass_after S c v p need x)) GoesOnQuietly
  rows_stopped d _ x _ (by_monitor left seen found _ life) =
      read_stopped d left (seen ++ x.got ∷ []) found (has_all S (seen ++ x.got ∷ []))

  effect_stopped : {call : Option Call} {x : Ended} {a : Change} → Effect S t c call x a
      → AreStopped (put S a c).volumes
  effect_stopped (quiet x a comes) = comes_stopped a comes
  effect_stopped (row d what x a may call went at) = rows_stopped d what x a at
  effect_stopped (row_fails d what x may call failed at) = fault_stopped d
  effect_stopped (steps d m step x target went) = h
  effect_stopped (step_fails d m step x target failed) = fault_stopped d

module _ (S : Setting) (P : Premises S) (volumes : List Volume) (spares : List ℕ) (o : Opening S P volumes spares) where
  pub each_stopped : (w : World) → Reached S volumes spares w → AreStopped w.control.volumes
  each_stopped w run = (along_base S P volumes spares o (λ t w. AreStopped w.control.volumes) follows w run).1
    where
      follows : FollowsBase S P volumes spares (λ t w. AreStopped w.control.volumes)
      follows = record {
        opens = λ who v is. ((o.volumes_are v).state, (o.volumes_are v).sound);
        begins = λ t w who had. had;
        step = λ t w call x a over had. effect_stopped S t w.control had over.effect;
      }
