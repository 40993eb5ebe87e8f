-- A write that is under way is of a volume that is write-pending or active, or broken: through each effect.
use Rattle.std.proofs.Common.{◌≡◌, ℕ, zero, suc, ◌==◌, Bool, true, false, List, [], ◌∷◌, ◌++◌, refl, ap, sym, ◌∙◌, subst, Option, inl, inr, eq-eqb}
use Rattle.units.specs.declared.disk.Sector.{Sector}
use Rattle.device_log.specs.Log.{Call, What}
use Rattle.array_machine.specs.Setting.{Setting}
use Rattle.array_machine.specs.States.{State, IsReadonly, IsIdle, StateWord, ToReady, ToPending, ToActive, ToActiveAgain, ToIdle, ToClean, state_after}
use Rattle.array_machine.specs.Volumes.{Slot, Pass, Volume, volume_at}
use Rattle.array_machine.specs.Operations.{volume_of, is_write}
use Rattle.array_machine.specs.Clients.{Row, Busy, Client, client_at}
use Rattle.array_machine.specs.RowJobs.{Need}
use Rattle.array_machine.specs.Rounds.{Ended}
use Rattle.array_machine.specs.Faults.{round_without}
use Rattle.array_machine.specs.OtherTurns.{is_writing, any_writing}
use Rattle.array_machine.specs.Control.{Control}
use Rattle.array_machine.specs.Changes.{Change, DiskFails, StateGoes, ClientMoves, PassMoves, ClientWord, IsSilent, PassWord, GoesOnQuietly}
use Rattle.array_machine.specs.Puts.{put}
use Rattle.array_machine.specs.TakeoverTurns.{has_all}
use Rattle.array_paths.specs.InTurn.{InTurn, state_of, is_broken, job_of}
use Rattle.array_paths.specs.ClientMove.{TakesWrites, ClientMove, submits, takes, is_past, starts, loses, answers, fails as fails_client, is_whole, has_no_spare, ClientCall, reads as reads_row, writes as writes_row, syncs as syncs_row}
use Rattle.array_paths.specs.PassMove.{slots_of}
use Rattle.array_paths.specs.Comes.{Comes, begins, begins_spare, ends, ends_spare, lapses, fails, unblocks, readies, pends, activates, again, idles, cleans, client, pass, manages, kills, takes_over, resumes, dies}
use Rattle.array_paths.specs.AtRows.{AtRows, by_client, by_pass, by_monitor, after_read}
use Rattle.array_paths.specs.Effects.{Effect, quiet, row, row_fails, steps, step_fails}
use Rattle.array_paths.proofs.ClientPaths.{job_kept}
use Rattle.array_paths.proofs.JobsFit.{set_cases, same_op}
use Rattle.array_base.proofs.Slots.{volumes_go}
use Rattle.array_base.proofs.Targets.{or_second}
use Rattle.array_told.proofs.Tells.{state_without, set_at, state_with_pass}
use Rattle.array_gate.specs.Gate.{WritersWait}

module _ (S : Setting) where
  -- a client with a write on the volume is among those that write there
  writing_there : (v : ℕ) (clients : List Client) (k i : ℕ) (r : Row) → (client_at clients k).job ≡ Busy i r
      → is_write S i ≡ true → (volume_of S i == v) ≡ true → any_writing S v clients ≡ true
  writing_there v [] k i r is writes same = absurd (nobody k is)
    where
      nobody : (k : ℕ) → (client_at [] k).job ≡ Busy i r → ⊥
      nobody k h = absurd cc
  writing_there v (x ∷ xs) zero i r is writes same =
      let here : is_writing S v x.job ≡ true = ap (is_writing S v) is ∙ rw (writes, same) refl in rw here refl
  writing_there v (x ∷ xs) (suc k) i r is writes same =
      or_second (is_writing S v x.job) (any_writing S v xs) (writing_there v xs k i r is writes same)

  -- a write of client k, on a volume that isn't broken
  record Writes (c : Control) (k i : ℕ) (r : Row) : Type 0 where
    has : job_of c k ≡ Busy i r
    writes : is_write S i ≡ true
    sound : is_broken c (volume_of S i) ≡ false

  -- STATES

  -- a word to one volume: its writes wait there still
  writers_word : (c : Control) (v : ℕ) (word : StateWord)
      → ((k i : ℕ) (r : Row) → Writes c k i r → v ≡ volume_of S i → TakesWrites (state_after word))
      → WritersWait S c → WritersWait S (put S (StateGoes v word) c)
  writers_word c v word why wait k i r is writes sound =
      elim (set_at c.volumes v (record (volume_at c.volumes v) { state = state_after word }) (volume_of S i)) [
        | inl here ↦
            let was : is_broken c v ≡ false = sym (ap (λ (x : Volume). x.broken) here.1) ∙ sound in
            let on : is_broken c (volume_of S i) ≡ false = subst (λ w. is_broken c w ≡ false) here.0 was in
            subst TakesWrites (sym (ap (λ (x : Volume). x.state) here.1))
            (why k i r (record { has = is; writes = writes; sound = on }) here.0)
        | inr other ↦
            subst TakesWrites (sym (ap (λ (x : Volume). x.state) other))
            (wait k i r is writes (sym (ap (λ (x : Volume). x.broken) other) ∙ sound))
      ]

  -- no write is under way on a volume in a state that takes none
  none_under_way : (c : Control) (v : ℕ) (state : State) → state_of c v ≡ state → (TakesWrites state → ⊥)
      → WritersWait S c → (k i : ℕ) (r : Row) → Writes c k i r → v ≡ volume_of S i → ⊥
  none_under_way c v state is none wait k i r w same =
      none (subst TakesWrites (ap (state_of c) (sym same) ∙ is) (wait k i r w.has w.writes w.sound))

  -- CLIENTS

  writers_set : (c : Control) (k : ℕ) (new : Client) (word : ClientWord)
      → ((i : ℕ) (r : Row) → new.job ≡ Busy i r → is_write S i ≡ true → is_broken c (volume_of S i) ≡ false
      → TakesWrites (state_of c (volume_of S i)))
      → WritersWait S c → WritersWait S (put S (ClientMoves k new word) c)
  writers_set c k new word good wait j i r is writes sound = elim (set_cases c.clients k j new) [
    | inl now ↦ good i r (sym (ap (λ (x : Client). x.job) now) ∙ is) writes sound
    | inr old ↦ wait j i r (sym (ap (λ (x : Client). x.job) old) ∙ is) writes sound
  ]

  -- a job of the same operation
  stays_waiting : (c : Control) (k j i : ℕ) (old new r : Row) → WritersWait S c → job_of c k ≡ Busy j old
      → Busy j new ≡ Busy i r → is_write S i ≡ true → is_broken c (volume_of S i) ≡ false
      → TakesWrites (state_of c (volume_of S i))
  stays_waiting c k j i old new r wait job is writes sound =
      let same : j ≡ i = cc is in wait k i old (job ∙ ap (λ n. Busy n old) same) writes sound

  moved_waits : (c : Control) (k : ℕ) (new : Client) (word : ClientWord) → ClientMove S c k new word → WritersWait S c
      → (i : ℕ) (r : Row) → new.job ≡ Busy i r → is_write S i ≡ true → is_broken c (volume_of S i) ≡ false
      → TakesWrites (state_of c (volume_of S i))
  moved_waits c k _ _ (submits j rest left free) wait i r is writes sound = absurd cc
  moved_waits c k _ _ (takes j rest left free reading fits ready_now) wait i r is writes sound =
      let same : j ≡ i = cc is in
      absurd (let none = subst (λ n. is_write S n ≡ false) same reading in cc (none, writes))
  moved_waits c k _ _ (is_past j left left_is job nowhere names) wait i r is writes sound = absurd cc
  moved_waits c k _ _ (starts j left left_is job writing fits leave) wait i r is writes sound =
      let same : j ≡ i = cc is in
      subst (λ n. is_broken c (volume_of S n) ≡ false → TakesWrites (state_of c (volume_of S n))) same leave sound
  moved_waits c k _ _ (loses j old new left left_is job lost) wait i r is writes sound =
      stays_waiting c k j i old new r wait job is writes sound
  moved_waits c k _ _ (answers j old answer left left_is needs) wait i r is writes sound = absurd cc
  moved_waits c k _ _ (fails_client j old left left_is job broken) wait i r is writes sound = absurd cc
  moved_waits c k _ _ (is_whole j old left left_is job kind unbroken whole) wait i r is writes sound = absurd cc
  moved_waits c k _ _ (has_no_spare j old left left_is job kind unbroken whole lacks) wait i r is writes sound =
      absurd cc

  has_job : (c : Control) (k d i : ℕ) (r : Row) (need : Need) (what : What) (stored : ℕ)
      → ClientCall S c k d i r need what stored → job_of c k ≡ Busy i r
  has_job c k d i r need what stored (reads_row _ _ s _ needs on) = needs.has
  has_job c k d i r need what stored (writes_row _ _ s _ needs on) = needs.has
  has_job c k d i r need what stored (syncs_row _ _ s _ needs on) = needs.has

  -- EFFECTS

  writers_pass : (c : Control) (v : ℕ) (slots : List Slot) (new : Option Pass) (word : PassWord)
      → ((w : ℕ) → is_broken (put S (PassMoves v slots new word) c) w ≡ false → is_broken c w ≡ false)
      → WritersWait S c → WritersWait S (put S (PassMoves v slots new word) c)
  writers_pass c v slots new word unbroken wait k i r is writes sound =
      subst TakesWrites (sym (state_with_pass c.volumes v slots new (volume_of S i)))
      (wait k i r is writes (unbroken (volume_of S i) sound))

  writers_fault : (c : Control) (d : ℕ)
      → ((w : ℕ) → is_broken (put S (DiskFails d) c) w ≡ false → is_broken c w ≡ false)
      → WritersWait S c → WritersWait S (put S (DiskFails d) c)
  writers_fault c d unbroken wait k i r is writes sound =
      let was = same_op S d c.volumes (job_of c k) i r (sym (job_kept S d c.volumes c.clients k) ∙ is) in
      subst TakesWrites (sym (state_without S d (round_without S d c.round) 0 c.volumes (volume_of S i)))
      (wait k i was.0 was.1 writes (unbroken (volume_of S i) sound))

  writers_comes : (t : InTurn) (c : Control) (a : Change) → Comes S t c a
      → ((w : ℕ) → is_broken (put S a c) w ≡ false → is_broken c w ≡ false) → WritersWait S c
      → WritersWait S (put S a c)
  writers_comes t c _ (readies v started state rest ended) u wait =
      writers_word c v ToReady
      (λ k i r w same. absurd (none_under_way c v IsReadonly state (λ h. h) wait k i r w same)) wait
  writers_comes t c _ (pends v unbroken state submitted) u wait = writers_word c v ToPending (λ k i r w same. tt) wait
  writers_comes t c _ (activates v runs state rest ended now) u wait =
      writers_word c v ToActive (λ k i r w same. tt) wait
  writers_comes t c _ (again v unbroken state submitted) u wait =
      writers_word c v ToActiveAgain (λ k i r w same. tt) wait
  writers_comes t c _ (idles v who runs state none) u wait =
      writers_word c v ToIdle (λ k i r w same.
      let on : (volume_of S i == v) ≡ true = eq-eqb (volume_of S i) v (sym same) in
      absurd (let some = writing_there v c.clients k i r w.has w.writes on in cc (some, none))) wait
  writers_comes t c _ (cleans v runs state rest) u wait =
      writers_word c v ToClean
      (λ k i r w same. absurd (none_under_way c v IsIdle state (λ h. h) wait k i r w same)) wait
  writers_comes t c _ (client k new word move) u wait =
      writers_set c k new word (moved_waits c k new word move wait) wait
  writers_comes t c _ (pass v slots new word move) u wait = writers_pass c v slots new word u wait
  writers_comes t c _ (fails d who may) u wait = writers_fault c d u wait
  writers_comes t c _ (begins m life rest target next) u wait = wait
  writers_comes t c _ (begins_spare d m life rest target may is unlisted room) u wait = wait
  writers_comes t c _ (ends m step is) u wait = wait
  writers_comes t c _ (ends_spare d m step is) u wait = wait
  writers_comes t c _ (lapses aim m step late is) u wait = wait
  writers_comes t c _ (unblocks d rest blocked ended unexpected) u wait = wait
  writers_comes t c _ (manages new word move) u wait = wait
  writers_comes t c _ (kills who life) u wait = wait
  writers_comes t c _ (takes_over who life) u wait = wait
  writers_comes t c _ (resumes d taking young) u wait = wait
  writers_comes t c _ (dies taking) u wait = wait

  writers_read : (c : Control) (d : ℕ) (left : List ℕ) (seen : List Sector) (found : List ℕ) (all : Bool)
      → WritersWait S c → WritersWait S (put S (after_read S c d left seen found all) c)
  writers_read c d left seen found true wait = wait
  writers_read c d left seen found false wait = wait

  writers_rows : (c : Control) (d : ℕ) (what : What) (x : Ended) (a : Change) → AtRows S c d what x a
      → ((w : ℕ) → is_broken (put S a c) w ≡ false → is_broken c w ≡ false) → WritersWait S c
      → WritersWait S (put S a c)
  writers_rows c d what x _ (by_client k j old need _ _ call) u wait =
      writers_set c k _ IsSilent (λ i r is writes sound.
      stays_waiting c k j i old _ r wait (has_job c k d j old need what 1 call) is writes sound) wait
  writers_rows c d _ x _ (by_pass v p need _ _ call) u wait = writers_pass c v (slots_of c v) _ GoesOnQuietly u wait
  writers_rows c d _ x _ (by_monitor left seen found _ life) u wait =
      writers_read c d left (seen ++ x.got ∷ []) found (has_all S (seen ++ x.got ∷ [])) wait

  pub writers_effect : (t : InTurn) (c : Control) {call : Option Call} {x : Ended} {a : Change} → Effect S t c call x a
      → WritersWait S c → WritersWait S (put S a c)
  writers_effect t c {call = call} {x = x} {a = a} effect = at effect unbroken
    where
      unbroken : (w : ℕ) → is_broken (put S a c) w ≡ false → is_broken c w ≡ false
      unbroken w = (volumes_go S t c effect w).sound

      at : {call : Option Call} {x : Ended} {a : Change} → Effect S t c call x a
          → ((w : ℕ) → is_broken (put S a c) w ≡ false → is_broken c w ≡ false) → WritersWait S c
          → WritersWait S (put S a c)
      at (quiet x a comes) u wait = writers_comes t c a comes u wait
      at (row d what x a may calls went rows) u wait = writers_rows c d what x a rows u wait
      at (row_fails d what x may calls failed lost) u wait = writers_fault c d u wait
      at (steps d m step x target went) u wait = wait
      at (step_fails d m step x target failed) u wait = writers_fault c d u wait
