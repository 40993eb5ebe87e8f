-- Each effect keeps the counts of each volume's states: by the state before it, and by who asks for the volume.
use Rattle.std.proofs.Common.{◌≡◌, ℕ, zero, suc, ◌<◌, ◌==◌, ◌&&◌, Bool, true, false, List, [], ◌∷◌, ◌++◌, length, refl, ap, sym, ◌∙◌, subst, arith, Option, Some, None, ◌⊎◌, inl, inr, slice_set}
use Rattle.std.proofs.lemmas.Bool.Decides.{nat_tests}
use Rattle.std.proofs.lemmas.List.{get_or-set_same, get_or-set_other}
use Rattle.units.specs.declared.disk.Sector.{Sector}
use Rattle.device_log.specs.Log.{Call, What}
use Rattle.array_model.specs.declared.script.OpKind.{OpKind}
use Rattle.array_model.specs.declared.script.OpKind.TheVariants.{Write as OpWrite, Read as OpRead, Whole as OpWhole}
use Rattle.array_model.specs.declared.journal.Entry.{Entry}
use Rattle.array_model.specs.Script.{kind_at, write_in, is_in_volume, is_write_in}
use Rattle.array_machine.specs.Setting.{Setting}
use Rattle.array_machine.specs.States.{State, IsReadonly, IsReadAuto, IsClean, IsPending, IsActive, IsIdle, StateWord, ToReady, ToPending, ToActive, ToActiveAgain, ToIdle, ToClean, state_after}
use Rattle.array_machine.specs.Volumes.{Slot, Pass, Volume, no_volume, volume_at}
use Rattle.array_machine.specs.Operations.{volume_in, volume_of, is_write_kind, is_write}
use Rattle.array_machine.specs.Clients.{Job, NoJob, Submitted, Busy, Client, client_at, with_job}
use Rattle.array_machine.specs.Rounds.{Ended}
use Rattle.array_machine.specs.Faults.{round_without, job_without, clients_without}
use Rattle.array_machine.specs.Control.{Control}
use Rattle.array_machine.specs.Changes.{Change, StepsOn, DiskFails, StateGoes, ClientMoves, PassMoves, ManagerMoves, ClientWord, IsSilent, Submits, PassWord, GoesOnQuietly, OpensAt, Reaches, Closes, UpdateWord, SaysNothing, Posts, Applies, Declines, state_entry, client_entry, pass_entry, update_entry, entry_of}
use Rattle.array_machine.specs.OtherTurns.{is_writing, any_writing}
use Rattle.array_machine.specs.TakeoverTurns.{has_all}
use Rattle.array_machine.specs.Puts.{put, set_state}
use Rattle.array_machine.specs.Machine.{entered}
use Rattle.array_paths.specs.InTurn.{InTurn, state_of}
use Rattle.array_paths.specs.ClientMove.{ClientMove, submits, takes}
use Rattle.array_paths.specs.Comes.{HasSubmitted, Comes, fails, readies, pends, activates, again, idles, cleans, client, pass, manages}
use Rattle.array_paths.specs.AtRows.{AtRows, by_client, by_pass, by_monitor, after_read}
use Rattle.array_paths.specs.Effects.{Effect, quiet, row, row_fails, steps, step_fails}
use Rattle.array_base.proofs.Targets.{or_cases, or_neither, or_first, or_second}
use Rattle.array_told.proofs.Tells.{state_without, state_with_pass}
use Rattle.array_form.specs.StateCounts.{StateCounts, asks_for, is_asked_for}
use Rattle.array_form.proofs.Counting.{sees}
use Rattle.array_form.proofs.StateCounts.{speaks_of, states_aside, states_ready, states_pending, states_active, states_idle, states_clean, states_again, states_submit}

-- VOLUMES

-- a volume that isn't like none is in the list
there : (volumes : List Volume) (v : ℕ) → (volume_at volumes v ≡ no_volume → ⊥) → v < length volumes
there [] v other = absurd (other refl)
there (x ∷ xs) zero other = omega arith
there (x ∷ xs) (suc v) other = let more : v < length xs = there xs v other in omega arith

there_by_state : (volumes : List Volume) (v : ℕ) (state : State) → (volume_at volumes v).state ≡ state
    → (IsReadonly ≡ state → ⊥) → v < length volumes
there_by_state volumes v state is other =
    there volumes v (λ e. other (sym (ap (λ (x : Volume). x.state) e) ∙ is))

pub there_by_start : (volumes : List Volume) (v : ℕ) → (volume_at volumes v).started ≡ true → v < length volumes
there_by_start volumes v started =
    there volumes v (λ e. absurd (let not_one = ap (λ (x : Volume). x.started) e in cc (not_one, started)))

state_here : (volumes : List Volume) (w : ℕ) (state : State) (v : ℕ) → w < length volumes → (w == v) ≡ true
    → (volume_at (set_state volumes w state) v).state ≡ state
state_here volumes w state v lt is =
    let same : w ≡ v = grind (arith, nat_tests, is) in
    subst (λ u. (volume_at (set_state volumes w state) u).state ≡ state) same
    (ap (λ (x : Volume). x.state)
    (get_or-set_same volumes w (record (volume_at volumes w) { state = state }) no_volume lt))

state_other : (volumes : List Volume) (w : ℕ) (state : State) (v : ℕ) → (w == v) ≡ false
    → (volume_at (set_state volumes w state) v).state ≡ (volume_at volumes v).state
state_other volumes w state v is =
    ap (λ (x : Volume). x.state)
    (get_or-set_other volumes w v (record (volume_at volumes w) { state = state }) no_volume
    (λ e. absurd (grind (arith, nat_tests, is, e))))

-- WHO ASKS

module _ (S : Setting) (v : ℕ) where
  -- a write to the volume is told alike by job and journal
  pub write_in_volume : (i : ℕ) → (is_write S i && (volume_of S i == v)) ≡ is_write_in S.asked.ops v i
  write_in_volume i = at (kind_at S.asked.ops i)
    where
      at : (kind : Option OpKind) → (is_write_kind kind && (volume_in kind == v)) ≡ is_in_volume v (write_in kind)
      at None = refl
      at (Some (OpWrite w s value)) = refl
      at (Some (OpRead w s)) = refl
      at (Some (OpWhole w)) = refl

  asked_by : (clients : List Client) (k i : ℕ) → (client_at clients k).job ≡ Submitted i → is_write S i ≡ true
      → volume_of S i ≡ v → is_asked_for S v clients ≡ true
  asked_by [] k i is writes on = absurd cc
  asked_by (x ∷ xs) zero i is writes on =
      let here : (volume_of S i == v) ≡ true = grind (arith, nat_tests, on) in
      let asks : asks_for S v x.job ≡ true = rw is (rw (writes, here) refl) in
      or_first (asks_for S v x.job) (is_asked_for S v xs) asks
  asked_by (x ∷ xs) (suc k) i is writes on =
      or_second (asks_for S v x.job) (is_asked_for S v xs) (asked_by xs k i is writes on)

  job_writing : (job : Job) → is_writing S v job ≡ false → asks_for S v job ≡ false
  job_writing NoJob none = refl
  job_writing (Submitted i) none = none
  job_writing (Busy i r) none = refl

  none_asks : (clients : List Client) → any_writing S v clients ≡ false → is_asked_for S v clients ≡ false
  none_asks [] none = refl
  none_asks (x ∷ xs) none =
      let both = or_neither (is_writing S v x.job) (any_writing S v xs) none in
      let first = job_writing x.job both.0 in
      let more = none_asks xs both.1 in
      rw (first, more) refl

  asked_set : (clients : List Client) (k : ℕ) (x : Client) → asks_for S v x.job ≡ false
      → is_asked_for S v (slice_set clients k x) ≡ true → is_asked_for S v clients ≡ true
  asked_set [] k x silent asked = asked
  asked_set (y ∷ ys) zero x silent asked =
      elim (or_cases (asks_for S v x.job) (is_asked_for S v ys) asked) [
        | inl bad ↦ absurd (cc (bad, silent))
        | inr more ↦ or_second (asks_for S v y.job) (is_asked_for S v ys) more
      ]
  asked_set (y ∷ ys) (suc k) x silent asked =
      elim (or_cases (asks_for S v y.job) (is_asked_for S v (slice_set ys k x)) asked) [
        | inl here ↦ or_first (asks_for S v y.job) (is_asked_for S v ys) here
        | inr more ↦ or_second (asks_for S v y.job) (is_asked_for S v ys) (asked_set ys k x silent more)
      ]

  job_asks : (d : ℕ) (volumes : List Volume) (job : Job) → asks_for S v (job_without S d volumes job) ≡ asks_for S v job
  job_asks d volumes NoJob = refl
  job_asks d volumes (Submitted i) = refl
  job_asks d volumes (Busy i r) = refl

  asked_without : (d : ℕ) (volumes : List Volume) (clients : List Client)
      → is_asked_for S v (clients_without S d volumes clients) ≡ is_asked_for S v clients
  asked_without d volumes [] = refl
  asked_without d volumes (x ∷ xs) =
      let first = job_asks d volumes x.job in let more = asked_without d volumes xs in rw (first, more) refl

-- EFFECTS

module _ (S : Setting) (v n : ℕ) (journal : List Entry) where
  abbrev pub ToldIn : Control → List Entry → Type 0
  ToldIn c told = StateCounts S.asked.ops v (state_of c v) (is_asked_for S v c.clients) told

  abbrev ToldBehind : Control → Change → Type 0
  ToldBehind c a = ToldIn (put S a c) (journal ++ entered n (entry_of S a))

  -- a change that says nothing of the volume
  aside : (c : Control) (a : Change) → sees (speaks_of S.asked.ops v) (entry_of S a) ≡ false
      → state_of (put S a c) v ≡ state_of c v
      → (is_asked_for S v (put S a c).clients ≡ true → is_asked_for S v c.clients ≡ true)
      → ToldIn c journal → ToldBehind c a
  aside c a unsaid same less s =
      subst (λ state. StateCounts S.asked.ops v state (is_asked_for S v (put S a c).clients)
      (journal ++ entered n (entry_of S a))) (sym same)
      (states_aside S.asked.ops v (state_of c v) (is_asked_for S v c.clients) (is_asked_for S v (put S a c).clients)
      journal n (entry_of S a) unsaid less s)

  -- a word is written to a state
  goes : (c : Control) (w : ℕ) (word : StateWord) (old : State) → state_of c w ≡ old → w < length c.volumes
      → ((w == v) ≡ false → sees (speaks_of S.asked.ops v) (state_entry w word) ≡ false)
      → ((w == v) ≡ true → StateCounts S.asked.ops v old (is_asked_for S v c.clients) journal
      → StateCounts S.asked.ops v (state_after word) (is_asked_for S v c.clients)
      (journal ++ entered n (state_entry w word)))
      → ToldIn c journal → ToldBehind c (StateGoes w word)
  goes c w word old is lt elsewhere here s = at (w == v) refl
    where
      at : (b : Bool) → (w == v) ≡ b → ToldBehind c (StateGoes w word)
      at false other =
          aside c (StateGoes w word) (elsewhere other) (state_other c.volumes w (state_after word) v other) (λ h. h) s
      at true same =
          let one : w ≡ v = grind (arith, nat_tests, same) in
          let was : state_of c v ≡ old = ap (state_of c) (sym one) ∙ is in
          let asked = is_asked_for S v c.clients in
          subst (λ state. StateCounts S.asked.ops v state asked (journal ++ entered n (state_entry w word)))
          (sym (state_here c.volumes w (state_after word) v lt same))
          (here same (subst (λ state. StateCounts S.asked.ops v state asked journal) was s))

  fault : (c : Control) (d : ℕ) → ToldIn c journal → ToldBehind c (DiskFails d)
  fault c d s =
      aside c (DiskFails d) refl (state_without S d (round_without S d c.round) 0 c.volumes v)
      (λ h. sym (asked_without S v d c.volumes c.clients) ∙ h) s

  pass_unsaid : (w : ℕ) (word : PassWord) → sees (speaks_of S.asked.ops v) (pass_entry w word) ≡ false
  pass_unsaid w GoesOnQuietly = refl
  pass_unsaid w (OpensAt first) = refl
  pass_unsaid w (Reaches unit) = refl
  pass_unsaid w Closes = refl

  passes : (c : Control) (w : ℕ) (slots : List Slot) (new : Option Pass) (word : PassWord) → ToldIn c journal
      → ToldBehind c (PassMoves w slots new word)
  passes c w slots new word s =
      aside c (PassMoves w slots new word) (pass_unsaid w word) (state_with_pass c.volumes w slots new v) (λ h. h) s

  update_unsaid : (word : UpdateWord) → sees (speaks_of S.asked.ops v) (update_entry word) ≡ false
  update_unsaid SaysNothing = refl
  update_unsaid (Posts u) = refl
  update_unsaid (Applies u) = refl
  update_unsaid (Declines u kind) = refl

  -- a client that asks for nothing now
  silent : (c : Control) (k : ℕ) (new : Client) (word : ClientWord) → asks_for S v new.job ≡ false
      → sees (speaks_of S.asked.ops v) (client_entry word) ≡ false → ToldIn c journal
      → ToldBehind c (ClientMoves k new word)
  silent c k new word none unsaid s =
      aside c (ClientMoves k new word) unsaid refl (asked_set S v c.clients k new none) s

  submitted : (c : Control) (k i : ℕ) (new : Client) → asks_for S v new.job ≡ is_write_in S.asked.ops v i
      → ToldIn c journal → ToldBehind c (ClientMoves k new (Submits i))
  submitted c k i new asks s = at (is_write_in S.asked.ops v i) refl
    where
      at : (b : Bool) → is_write_in S.asked.ops v i ≡ b → ToldBehind c (ClientMoves k new (Submits i))
      at true writes =
          states_submit S.asked.ops v (state_of c v) (is_asked_for S v c.clients)
          (is_asked_for S v (slice_set c.clients k new)) journal n i writes s
      at false reads = silent c k new (Submits i) (asks ∙ reads) reads s

  moves : (c : Control) (k : ℕ) (new : Client) (word : ClientWord) → ClientMove S c k new word → ToldIn c journal
      → ToldBehind c (ClientMoves k new word)
  moves c k _ _ (submits i rest left none) s = submitted c k i (with_job rest (Submitted i)) (write_in_volume S v i) s
  moves c k _ _ (takes i rest left none reads fits ready_now) s =
      let not_one : is_write_in S.asked.ops v i ≡ false =
      sym (write_in_volume S v i) ∙ ap (λ b. b && (volume_of S i == v)) reads in
      submitted c k i _ (sym not_one) s
  moves c k new word _ s = silent c k new word refl refl s

  asked_now : (c : Control) (w : ℕ) → HasSubmitted S c w → (w == v) ≡ true → is_asked_for S v c.clients ≡ true
  asked_now c w has same =
      let one : w ≡ v = grind (arith, nat_tests, same) in
      asked_by S v c.clients has.client has.op has.is has.writes (has.on ∙ one)

  comes : (t : InTurn) (c : Control) (a : Change) → Comes S t c a → ToldIn c journal → ToldBehind c a
  comes t c _ (readies w started state rest ended) s =
      goes c w ToReady IsReadonly state (there_by_start c.volumes w started) (λ h. h)
      (λ here told. states_ready S.asked.ops v w n journal here (is_asked_for S v c.clients) told) s
  comes t c _ (pends w sound state has) s =
      goes c w ToPending (state_of c w) refl (lt state) (λ h. h)
      (λ here told. now here (is_asked_for S v c.clients) (asked_now c w has here) told) s
    where
      lt : (state_of c w ≡ IsReadAuto) ⊎ (state_of c w ≡ IsClean) → w < length c.volumes
      lt (inl is) = there_by_state c.volumes w IsReadAuto is (λ e. absurd cc)
      lt (inr is) = there_by_state c.volumes w IsClean is (λ e. absurd cc)

      now : (w == v) ≡ true → (asked : Bool) → asked ≡ true
          → StateCounts S.asked.ops v (state_of c w) asked journal
          → StateCounts S.asked.ops v IsPending asked (journal ++ entered n (state_entry w ToPending))
      now here true is told = states_pending S.asked.ops v w n journal here (state_of c w) state told
      now here false is told = absurd cc
  comes t c _ (activates w runs state rest ended dirty) s =
      goes c w ToActive IsPending state (there_by_state c.volumes w IsPending state (λ e. absurd cc)) (λ h. h)
      (λ here told. states_active S.asked.ops v w n journal here (is_asked_for S v c.clients) told) s
  comes t c _ (again w sound state has) s =
      goes c w ToActiveAgain IsIdle state (there_by_state c.volumes w IsIdle state (λ e. absurd cc)) (λ h. refl)
      (λ here told. now here (is_asked_for S v c.clients) (asked_now c w has here) told) s
    where
      now : (w == v) ≡ true → (asked : Bool) → asked ≡ true → StateCounts S.asked.ops v IsIdle asked journal
          → StateCounts S.asked.ops v IsActive asked (journal ++ entered n None)
      now here true is told = states_again S.asked.ops v journal n told
      now here false is told = absurd cc
  comes t c _ (idles w who runs state none) s =
      goes c w ToIdle IsActive state (there_by_state c.volumes w IsActive state (λ e. absurd cc)) (λ h. h)
      (λ here told. now here (is_asked_for S v c.clients)
      (none_asks S v c.clients (subst (λ u. any_writing S u c.clients ≡ false) (same here) none)) told) s
    where
      same : (w == v) ≡ true → w ≡ v
      same here = grind (arith, nat_tests, here)

      now : (w == v) ≡ true → (asked : Bool) → asked ≡ false → StateCounts S.asked.ops v IsActive asked journal
          → StateCounts S.asked.ops v IsIdle asked (journal ++ entered n (state_entry w ToIdle))
      now here true is told = absurd cc
      now here false is told = states_idle S.asked.ops v w n journal here told
  comes t c _ (cleans w runs state rest) s =
      goes c w ToClean IsIdle state (there_by_state c.volumes w IsIdle state (λ e. absurd cc)) (λ h. h)
      (λ here told. states_clean S.asked.ops v w n journal here (is_asked_for S v c.clients) told) s
  comes t c _ (client k new word move) s = moves c k new word move s
  comes t c _ (pass w slots new word move) s = passes c w slots new word s
  comes t c _ (manages new word move) s = aside c (ManagerMoves new word) (update_unsaid word) refl (λ h. h) s
  comes t c _ (fails d who may) s = fault c d s
  comes t c a _ s = aside c a refl refl (λ h. h) s

  reads : (c : Control) (d : ℕ) (left : List ℕ) (seen : List Sector) (found : List ℕ) (all : Bool) → ToldIn c journal
      → ToldBehind c (after_read S c d left seen found all)
  reads c d left seen found true s = aside c (after_read S c d left seen found true) refl refl (λ h. h) s
  reads c d left seen found false s = aside c (after_read S c d left seen found false) refl refl (λ h. h) s

  at_rows : (c : Control) (d : ℕ) (what : What) (x : Ended) (a : Change) → AtRows S c d what x a → ToldIn c journal
      → ToldBehind c a
  at_rows c d _ _ _ (by_client k i r need what x call) s = silent c k _ IsSilent refl refl s
  at_rows c d _ _ _ (by_pass w p need what x call) s = passes c w _ _ GoesOnQuietly s
  at_rows c d _ _ _ (by_monitor left seen found x life) s =
      reads c d left (seen ++ x.got ∷ []) found (has_all S (seen ++ x.got ∷ [])) s

  pub states_effect : (t : InTurn) (c : Control) (call : Option Call) (x : Ended) (a : Change) → Effect S t c call x a
      → ToldIn c journal → ToldBehind c a
  states_effect t c _ _ _ (quiet x a come) s = comes t c a come s
  states_effect t c _ _ _ (row d what x a may call went why) s = at_rows c d what x a why s
  states_effect t c _ _ _ (row_fails d what x may call failed lost) s = fault c d s
  states_effect t c _ _ _ (steps d m step x at went) s = aside c StepsOn refl refl (λ h. h) s
  states_effect t c _ _ _ (step_fails d m step x at failed) s = fault c d s
