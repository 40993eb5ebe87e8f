-- A volume that is idle and isn't broken was asked for by no write since, but for one whose client asks it this turn.
use Rattle.std.proofs.Common.{◌≡◌, ℕ, zero, suc, ◌==◌, Bool, true, false, List, [], ◌∷◌, ◌++◌, refl, ap, sym, ◌∙◌, subst, arith, is_some, Option, inl, inr, slice_set, cond}
use Rattle.std.proofs.lemmas.Bool.Decides.{nat_tests}
use Rattle.array_model.specs.declared.journal.Entry.{Entry}
use Rattle.array_machine.specs.Setting.{Setting}
use Rattle.array_machine.specs.States.{State, IsIdle, StateWord, ToReady, ToPending, ToActive, ToActiveAgain, ToIdle, ToClean, state_after}
use Rattle.array_machine.specs.Volumes.{Volume, Slot, Pass, no_volume, volume_at}
use Rattle.array_machine.specs.Operations.{volume_of, place_at, is_write}
use Rattle.array_machine.specs.Clients.{Row, Job, NoJob, Submitted, Busy, Client, client_at}
use Rattle.array_machine.specs.Managers.{Manager}
use Rattle.array_machine.specs.Faults.{round_without}
use Rattle.array_machine.specs.Control.{Control}
use Rattle.array_machine.specs.Changes.{Change, SpareBegins, DiskFails, StateGoes, ClientMoves, PassMoves, ManagerMoves, ClientWord, IsSilent, Submits, Acknowledges, PassWord, GoesOnQuietly, OpensAt, Reaches, Closes, UpdateWord, SaysNothing, Posts, Applies, Declines, state_entry, pass_entry, entry_of}
use Rattle.array_machine.specs.Puts.{put, set_state}
use Rattle.array_machine.specs.Machine.{entered}
use Rattle.array_paths.specs.InTurn.{state_of, is_broken, job_of}
use Rattle.array_paths.specs.ClientMove.{TakesWrites}
use Rattle.array_told.proofs.Tells.{state_without, state_with_pass}
use Rattle.array_causes.specs.Writes.{is_write_there}
use Rattle.array_causes.specs.Links.{Link, First, Fresh, BehindSubmit, BehindAsk, BehindEnd, BehindReady, BehindApplied, behind_submit, behind_ask, behind_pass, link_after, IsSettled, IsOwn, HasAsked, Leans}
use Rattle.array_causes.specs.StateCauses.{woken_from, is_woken}
use Rattle.array_causes.proofs.Writes.{there_volume, there_writes, there_place}
use Rattle.array_causes.proofs.Words.{field_kept, set_there, set_elsewhere}
use Rattle.array_causes.proofs.StateWords.{woken-append}
use Rattle.array_causes.proofs.StateComes.{JobComes, WordComes, ChangeComes}
use Rattle.array_causes.proofs.OpenJobs.{sound_without, opens_settled}

-- a client that is set has its new job, if it has operations left
new_job : (clients : List Client) (k : ℕ) (new : Client) (i : ℕ) (rest : List ℕ)
    → (client_at clients k).left ≡ i ∷ rest → (client_at (slice_set clients k new) k).job ≡ new.job
new_job [] k new i rest left = absurd cc
new_job (x ∷ xs) zero new i rest left = refl
new_job (x ∷ xs) (suc k) new i rest left = new_job xs k new i rest left

module _ (S : Setting) where
  -- the write that asks for the volume was just submitted
  abbrev pub Wakes : ℕ → Link → Type 0
  Wakes v (BehindSubmit k i) = is_write_there S.start S.asked.ops v i ≡ true
  Wakes v _ = ⊥

  pub wakes_none : (v : ℕ) (link : Link) → Wakes v link → IsSettled link → (X : Type 0) → X
  wakes_none v First wakes settled X = absurd wakes
  wakes_none v Fresh wakes settled X = absurd wakes
  wakes_none v (BehindSubmit k i) wakes settled X = absurd settled
  wakes_none v (BehindAsk k) wakes settled X = absurd wakes
  wakes_none v BehindEnd wakes settled X = absurd wakes
  wakes_none v (BehindReady w) wakes settled X = absurd wakes
  wakes_none v BehindApplied wakes settled X = absurd wakes

  -- WHAT IS KEPT

  pub record IdleTold (c : Control) (link : Link) (journal : List Entry) : Type 0 where
    pub still : (v : ℕ) → is_broken c v ≡ false → state_of c v ≡ IsIdle
        → is_woken S.start S.asked.ops v journal ≡ true → Wakes v link
    pub whose : (k i : ℕ) → link ≡ BehindSubmit k i → job_of c k ≡ Submitted i

  -- SUBMITS ARE LINKED ALONE

  never_ask : (link : Link) (k i : ℕ) → behind_ask link ≡ BehindSubmit k i → ⊥
  never_ask First k i is = absurd cc
  never_ask Fresh k i is = absurd cc
  never_ask (BehindSubmit j h) k i is = absurd cc
  never_ask (BehindAsk j) k i is = absurd cc
  never_ask BehindEnd k i is = absurd cc
  never_ask (BehindReady v) k i is = absurd cc
  never_ask BehindApplied k i is = absurd cc

  never_pass : (link : Link) (k i : ℕ) → behind_pass link ≡ BehindSubmit k i → ⊥
  never_pass First k i is = absurd cc
  never_pass Fresh k i is = absurd cc
  never_pass (BehindSubmit j h) k i is = absurd cc
  never_pass (BehindAsk j) k i is = absurd cc
  never_pass BehindEnd k i is = absurd cc
  never_pass (BehindReady v) k i is = absurd cc
  never_pass BehindApplied k i is = absurd cc

  module _ (begun c : Control) (link : Link) (n : ℕ) (journal : List Entry) (told : IdleTold c link journal) where
    abbrev Woken : ℕ → Change → Type 0
    Woken v a = is_woken S.start S.asked.ops v (journal ++ entered n (entry_of S a)) ≡ true

    abbrev Behind : Change → Type 0
    Behind a = IdleTold (put S a c) (link_after link a) (journal ++ entered n (entry_of S a))

    longer : (v : ℕ) (a : Change) → Woken v a
        → woken_from S.start S.asked.ops v (is_woken S.start S.asked.ops v journal) (entered n (entry_of S a)) ≡ true
    longer v a woken = sym (woken-append S.start S.asked.ops v false journal (entered n (entry_of S a))) ∙ woken

    -- a change that comes where no write was just submitted
    settled : (a : Change)
        → ((v : ℕ) → is_broken (put S a c) v ≡ false → is_broken c v ≡ false)
        → ((v : ℕ) → state_of (put S a c) v ≡ IsIdle → state_of c v ≡ IsIdle)
        → ((v : ℕ) (woken : Bool) → woken_from S.start S.asked.ops v woken (entered n (entry_of S a)) ≡ woken)
        → ((k i : ℕ) → link_after link a ≡ BehindSubmit k i → ⊥) → IsSettled link → Behind a
    settled a sound idle unsaid never rests = record {
      still = λ v is state woken.
          wakes_none v link
          (told.still v (sound v is) (idle v state)
          (sym (unsaid v (is_woken S.start S.asked.ops v journal)) ∙ longer v a woken)) rests
          (Wakes v (link_after link a));
      whose = λ k i is. absurd (never k i is);
    }

    -- STATES

    goes_idle : (w : ℕ) (word : StateWord) → WordComes S c w word → Leans S begun link (StateGoes w word)
        → Behind (StateGoes w word)
    goes_idle w word comes leans = record {
      still = λ v is state woken. at v is state woken (w == v) refl;
      whose = λ k i is. absurd (never word k i is);
    }
      where
        never : (word : StateWord) (k i : ℕ) → link_after link (StateGoes w word) ≡ BehindSubmit k i → ⊥
        never ToReady k i is = absurd cc
        never ToPending k i is = never_ask link k i is
        never ToActive k i is = absurd cc
        never ToActiveAgain k i is = never_ask link k i is
        never ToIdle k i is = absurd cc
        never ToClean k i is = absurd cc

        x : Volume
        x = record (volume_at c.volumes w) { state = state_after word }

        there : (word : StateWord) → WordComes S c w word → volume_at c.volumes w ≡ no_volume → ⊥
        there ToReady h = h.0.there
        there ToPending (inl h) = h.there
        there ToPending (inr h) = h.there
        there ToActive h = h.0.there
        there ToActiveAgain h = h.there
        there ToIdle h = h.0.there
        there ToClean h = h.0.there

        -- of the volume itself
        here : (word : StateWord) → state_after word ≡ IsIdle → (v : ℕ) (woken : Bool) → (w == v) ≡ true
            → woken_from S.start S.asked.ops v woken (entered n (state_entry w word)) ≡ true → ⊥
        here ToReady idle v woken same is = absurd cc
        here ToPending idle v woken same is = absurd cc
        here ToActive idle v woken same is = absurd cc
        here ToActiveAgain idle v woken same is = absurd cc
        here ToClean idle v woken same is = absurd cc
        here ToIdle idle v woken same is =
            let no : false ≡ true = sym (ap (λ b. cond b false woken) same) ∙ is in absurd (cc no)

        -- of another one
        unsaid : (word : StateWord) (v : ℕ) (woken : Bool) → (w == v) ≡ false
            → woken_from S.start S.asked.ops v woken (entered n (state_entry w word)) ≡ true → woken ≡ true
        unsaid ToReady v woken other is = is
        unsaid ToPending v woken other is = is
        unsaid ToActive v woken other is = is
        unsaid ToActiveAgain v woken other is = is
        unsaid ToClean v woken other is = is
        unsaid ToIdle v woken other is = sym (ap (λ b. cond b false woken) other) ∙ is

        asked : (v : ℕ) → (w == v) ≡ false → HasAsked S w link → Wakes v link → (X : Type 0) → X
        asked v other has wakes X = by link has wakes
          where
            by : (link : Link) → HasAsked S w link → Wakes v link → X
            by First has wakes = absurd has
            by Fresh has wakes = absurd has
            by (BehindSubmit k i) has wakes =
                let same : w ≡ v = sym (there_volume S w i has) ∙ there_volume S v i wakes in
                absurd (grind (arith, nat_tests, other, same))
            by (BehindAsk k) has wakes = absurd has
            by BehindEnd has wakes = absurd has
            by (BehindReady u) has wakes = absurd has
            by BehindApplied has wakes = absurd has

        elsewhere : (word : StateWord) → Leans S begun link (StateGoes w word) → (v : ℕ) → (w == v) ≡ false
            → Wakes v link → Wakes v (link_after link (StateGoes w word))
        elsewhere ToPending leans v other wakes = asked v other leans wakes (Wakes v (behind_ask link))
        elsewhere ToActiveAgain leans v other wakes = asked v other leans wakes (Wakes v (behind_ask link))
        elsewhere ToReady leans v other wakes = wakes_none v link wakes leans (Wakes v (BehindReady w))
        elsewhere ToActive leans v other wakes = wakes_none v link wakes leans ⊥
        elsewhere ToIdle leans v other wakes = wakes_none v link wakes leans ⊥
        elsewhere ToClean leans v other wakes = wakes_none v link wakes leans ⊥

        at : (v : ℕ) → is_broken (put S (StateGoes w word) c) v ≡ false
            → state_of (put S (StateGoes w word) c) v ≡ IsIdle → Woken v (StateGoes w word) → (b : Bool)
            → (w == v) ≡ b → Wakes v (link_after link (StateGoes w word))
        at v is state woken true same =
            let one : w ≡ v = grind (arith, nat_tests, same) in
            let set : volume_at (set_state c.volumes w (state_after word)) w ≡ x =
            set_there c.volumes w x (there word comes) in
            let after : state_after word ≡ IsIdle =
            sym (ap (λ (y : Volume). y.state) set)
            ∙ subst (λ u. state_of (put S (StateGoes w word) c) u ≡ IsIdle) (sym one) state in
            absurd (here word after v (is_woken S.start S.asked.ops v journal) same
            (longer v (StateGoes w word) woken))
        at v is state woken false other =
            let same : volume_at (set_state c.volumes w (state_after word)) v ≡ volume_at c.volumes v =
            set_elsewhere c.volumes w x v (λ e. absurd (grind (arith, nat_tests, other, e))) in
            elsewhere word leans v other
            (told.still v (sym (ap (λ (y : Volume). y.broken) same) ∙ is)
            (sym (ap (λ (y : Volume). y.state) same) ∙ state)
            (unsaid word v (is_woken S.start S.asked.ops v journal) other (longer v (StateGoes w word) woken)))

    -- CLIENTS

    -- a client other than the one that asked doesn't move, and the one that asked moves on as its volume lets it
    stalls : (k : ℕ) (v : ℕ) → is_broken c v ≡ false → state_of c v ≡ IsIdle → IsOwn k link → Wakes v link
        → ((i : ℕ) (r : Row) → job_of c k ≡ Busy i r → ⊥)
        × ((i : ℕ) → job_of c k ≡ Submitted i → is_write_there S.start S.asked.ops v i ≡ true)
    stalls k v sound idle own wakes = by link refl own wakes
      where
        by : (l : Link) → link ≡ l → IsOwn k l → Wakes v l
            → ((i : ℕ) (r : Row) → job_of c k ≡ Busy i r → ⊥)
            × ((i : ℕ) → job_of c k ≡ Submitted i → is_write_there S.start S.asked.ops v i ≡ true)
        by First is own wakes = absurd wakes
        by Fresh is own wakes = absurd wakes
        by (BehindAsk j) is own wakes = absurd wakes
        by BehindEnd is own wakes = absurd wakes
        by (BehindReady u) is own wakes = absurd wakes
        by BehindApplied is own wakes = absurd wakes
        by (BehindSubmit j h) is own wakes =
            let had : job_of c k ≡ Submitted h =
            subst (λ m. job_of c m ≡ Submitted h) (sym own) (told.whose j h is) in (
              λ i r busy. absurd (cc (had, busy)),
              λ i asks. let same : h ≡ i = let one : Submitted h ≡ Submitted i = sym had ∙ asks in cc one in
                  subst (λ u. is_write_there S.start S.asked.ops v u ≡ true) same wakes,
            )

    never : (state : State) → state ≡ IsIdle → TakesWrites state → ⊥
    never state is takes = absurd (subst TakesWrites is takes)

    moves_idle : (k : ℕ) (new : Client) (word : ClientWord) → JobComes S c k new word
        → Leans S begun link (ClientMoves k new word) → Behind (ClientMoves k new word)
    moves_idle k new IsSilent comes leans = record {
      still = λ v is state woken.
          absurd (out v is state (told.still v is state (longer v (ClientMoves k new IsSilent) woken)));
      whose = λ j i is. absurd cc;
    }
      where
        out : (v : ℕ) → is_broken c v ≡ false → state_of c v ≡ IsIdle → Wakes v link → ⊥
        out v sound idle wakes = elim comes.was [
          | inl busy ↦ (stalls k v sound idle leans wakes).0 busy.0 busy.1 busy.2
          | inr begins ↦
              let on : volume_of S begins.0 ≡ v =
              there_volume S v begins.0 ((stalls k v sound idle leans wakes).1 begins.0 begins.1) in
              never (state_of c v) idle
              (subst (λ u. is_broken c u ≡ false → TakesWrites (state_of c u)) on begins.2 sound)
        ]
    moves_idle k new (Acknowledges i answer) comes leans = record {
      still = λ v is state woken.
          absurd (out v is state (told.still v is state (longer v (ClientMoves k new (Acknowledges i answer)) woken)));
      whose = λ j h is. absurd cc;
    }
      where
        out : (v : ℕ) → is_broken c v ≡ false → state_of c v ≡ IsIdle → Wakes v link → ⊥
        out v sound idle wakes = elim comes.was [
          | inl busy ↦ (stalls k v sound idle leans.0 wakes).0 i busy.0 busy.1
          | inr past ↦
              let there : is_some (place_at S i) ≡ true =
              there_place S v i ((stalls k v sound idle leans.0 wakes).1 i past.0) in
              let none : is_some (place_at S i) ≡ false = ap is_some past.1 in
              absurd (cc (there, none))
        ]
    moves_idle k new (Submits i) comes leans = record {
      still = λ v is state woken.
          at v is state (longer v (ClientMoves k new (Submits i)) woken)
          (is_write_there S.start S.asked.ops v i) refl;
      whose = λ j h is. linked new.job refl j h is;
    }
      where
        submitted : is_write S i ≡ true → new.job ≡ Submitted i
        submitted writes = elim comes.was.2 [
          | inl is ↦ is
          | inr begun ↦ absurd (let no = begun.0 in cc (writes, no))
        ]

        at : (v : ℕ) → is_broken c v ≡ false → state_of c v ≡ IsIdle
            → woken_from S.start S.asked.ops v (is_woken S.start S.asked.ops v journal)
            (entered n (entry_of S (ClientMoves k new (Submits i)))) ≡ true
            → (b : Bool) → is_write_there S.start S.asked.ops v i ≡ b → Wakes v (behind_submit new.job k i)
        at v sound idle woken true there =
            subst (λ job. Wakes v (behind_submit job k i)) (sym (submitted (there_writes S v i there))) there
        at v sound idle woken false there =
            let had : is_woken S.start S.asked.ops v journal ≡ true =
            sym (ap (λ b. cond b true (is_woken S.start S.asked.ops v journal)) there) ∙ woken in
            absurd (subst (Wakes v) leans.0 (told.still v sound idle had))

        linked : (job : Job) → new.job ≡ job → (j h : ℕ) → behind_submit job k i ≡ BehindSubmit j h
            → job_of (put S (ClientMoves k new (Submits i)) c) j ≡ Submitted h
        linked NoJob is j h link_is = absurd cc
        linked (Busy u r) is j h link_is = absurd cc
        linked (Submitted u) is j h link_is =
            let client : k ≡ j = cc link_is in
            let op : i ≡ h = cc link_is in
            let now : job_of (put S (ClientMoves k new (Submits i)) c) k ≡ Submitted i =
            new_job c.clients k new i comes.was.0 comes.was.1 ∙ asks in
            subst (λ m. job_of (put S (ClientMoves k new (Submits i)) c) m ≡ Submitted h) client
            (now ∙ ap Submitted op)
          where
            asks : new.job ≡ Submitted i
            asks = elim comes.was.2 [
              | inl same ↦ same
              | inr begun ↦ absurd (let busy = begun.2 in cc (busy, is))
            ]

    -- EACH CHANGE

    pass_unsaid : (w : ℕ) (word : PassWord) (v : ℕ) (woken : Bool)
        → woken_from S.start S.asked.ops v woken (entered n (pass_entry w word)) ≡ woken
    pass_unsaid w GoesOnQuietly v woken = refl
    pass_unsaid w (OpensAt row) v woken = refl
    pass_unsaid w (Reaches unit) v woken = refl
    pass_unsaid w Closes v woken = refl

    passes_idle : (w : ℕ) (slots : List Slot) (pass : Option Pass) (word : PassWord) → IsSettled link
        → Behind (PassMoves w slots pass word)
    passes_idle w slots pass word rests =
        settled (PassMoves w slots pass word)
        (λ v is. sym (field_kept (λ (y : Volume). y.broken) c.volumes w
        (record (volume_at c.volumes w) { slots = slots; pass = pass }) refl v) ∙ is)
        (λ v state. sym (state_with_pass c.volumes w slots pass v) ∙ state) (pass_unsaid w word)
        (λ k i is. never_pass link k i is) rests

    updates_idle : (new : Manager) (word : UpdateWord) → IsSettled link → Behind (ManagerMoves new word)
    updates_idle new SaysNothing rests =
        settled (ManagerMoves new SaysNothing) (λ v is. is) (λ v is. is) (λ v woken. refl) (λ k i is. absurd cc) rests
    updates_idle new (Posts u) rests =
        settled (ManagerMoves new (Posts u)) (λ v is. is) (λ v is. is) (λ v woken. refl) (λ k i is. absurd cc) rests
    updates_idle new (Applies u) rests =
        settled (ManagerMoves new (Applies u)) (λ v is. is) (λ v is. is) (λ v woken. refl) (λ k i is. absurd cc) rests
    updates_idle new (Declines u kind) rests =
        settled (ManagerMoves new (Declines u kind)) (λ v is. is) (λ v is. is) (λ v woken. refl) (λ k i is. absurd cc)
        rests

    pub idle_on : (a : Change) → ChangeComes S c a → Leans S begun link a → Behind a
    idle_on (ClientMoves k new word) comes leans = moves_idle k new word comes leans
    idle_on (StateGoes w word) comes leans = goes_idle w word comes leans
    idle_on (DiskFails d) comes leans =
        settled (DiskFails d) (λ v is. sound_without S d (round_without S d c.round) 0 c.volumes v is)
        (λ v state. sym (state_without S d (round_without S d c.round) 0 c.volumes v) ∙ state) (λ v woken. refl)
        (λ k i is. absurd cc) leans
    idle_on (PassMoves w slots pass GoesOnQuietly) comes leans = passes_idle w slots pass GoesOnQuietly leans
    idle_on (PassMoves w slots pass (OpensAt row)) comes leans =
        passes_idle w slots pass (OpensAt row) (opens_settled S begun c link w row leans)
    idle_on (PassMoves w slots pass (Reaches unit)) comes leans =
        passes_idle w slots pass (Reaches unit) (subst IsSettled (sym leans) tt)
    idle_on (PassMoves w slots pass Closes) comes leans =
        passes_idle w slots pass Closes (subst IsSettled (sym leans) tt)
    idle_on (ManagerMoves new SaysNothing) comes leans = updates_idle new SaysNothing leans
    idle_on (ManagerMoves new (Posts u)) comes leans = updates_idle new (Posts u) leans
    idle_on (ManagerMoves new (Applies u)) comes leans =
        updates_idle new (Applies u) (subst IsSettled (sym leans.0) tt)
    idle_on (ManagerMoves new (Declines u kind)) comes leans =
        updates_idle new (Declines u kind) (subst IsSettled (sym leans.0) tt)
    idle_on (SpareBegins d m) comes leans =
        settled (SpareBegins d m) (λ v is. is) (λ v is. is) (λ v woken. refl) (λ k i is. absurd cc)
        (subst IsSettled (sym leans.0) tt)
    idle_on a comes leans =
        settled a (λ v is. is) (λ v is. is) (λ v woken. refl) (λ k i is. absurd cc) leans

  -- between turns a volume that is idle and isn't broken was asked for by no write since
  pub idle_at_first : (c : Control) (link : Link) (journal : List Entry) → IsSettled link → IdleTold c link journal
      → IdleTold c First journal
  idle_at_first c link journal settled told = record {
    still = λ v sound idle woken. wakes_none v link (told.still v sound idle woken) settled ⊥;
    whose = λ k i is. absurd cc;
  }

  -- and where it is called clean
  pub still_idle : (c : Control) (link : Link) (journal : List Entry) → IsSettled link → IdleTold c link journal
      → (v : ℕ) → is_broken c v ≡ false → state_of c v ≡ IsIdle
      → is_woken S.start S.asked.ops v journal ≡ false
  still_idle c link journal settled told v sound idle = at (is_woken S.start S.asked.ops v journal) refl
    where
      at : (b : Bool) → is_woken S.start S.asked.ops v journal ≡ b → b ≡ false
      at false is = refl
      at true is = wakes_none v link (told.still v sound idle is) settled (true ≡ false)
