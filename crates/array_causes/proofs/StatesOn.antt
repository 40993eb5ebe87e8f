-- What a journal says of the states of volumes is kept by each change.
use Rattle.std.proofs.Common.{◌≡◌, ℕ, ◌==◌, Bool, true, false, List, ◌++◌, refl, ap, sym, subst, arith, inl, inr}
use Rattle.std.proofs.lemmas.Bool.Decides.{nat_tests}
use Rattle.array_model.specs.declared.journal.Entry.{Entry}
use Rattle.array_model.specs.Causes.{ArrayState}
use Rattle.array_machine.specs.Setting.{Setting}
use Rattle.array_machine.specs.States.{IsIdle, StateWord, ToReady, ToPending, ToActive, ToActiveAgain, ToIdle, ToClean, state_after}
use Rattle.array_machine.specs.Volumes.{Volume, no_volume, volume_at}
use Rattle.array_machine.specs.Faults.{round_without}
use Rattle.array_machine.specs.Control.{Control}
use Rattle.array_machine.specs.Changes.{Change, DiskFails, StateGoes, ClientMoves, PassMoves, ManagerMoves, state_entry, client_entry, pass_entry, update_entry, entry_of}
use Rattle.array_machine.specs.Puts.{put, set_state}
use Rattle.array_machine.specs.Machine.{entered}
use Rattle.array_paths.specs.InTurn.{state_of}
use Rattle.array_told.proofs.Tells.{state_without, state_with_pass}
use Rattle.array_causes.specs.Links.{Link, Leans}
use Rattle.array_causes.specs.StateCauses.{said_from, woken_from}
use Rattle.array_causes.proofs.Words.{each_client, each_pass, each_update, set_there, set_elsewhere}
use Rattle.array_causes.proofs.Grounds.{LinkTold}
use Rattle.array_causes.proofs.StateComes.{WordComes, ChangeComes}
use Rattle.array_causes.proofs.StateWords.{StateSaid, state_aside, said_elsewhere, woken_elsewhere, said_here, woken_by, asked_woken}

module _ (S : Setting) where
  -- STATES

  abbrev pub StatesSaid : Control → List Entry → Type 0
  StatesSaid c journal = (v : ℕ) → StateSaid S v (state_of c v) journal

  module _ (n : ℕ) (journal : List Entry) where
    -- an entry that says nothing of the state of any volume
    aside : (c : Control) (a : Change) → ((v : ℕ) → state_of (put S a c) v ≡ state_of c v)
        → ((v : ℕ) (said : ArrayState) → said_from v said (entered n (entry_of S a)) ≡ said)
        → ((v : ℕ) (woken : Bool) → woken ≡ true
        → woken_from S.start S.asked.ops v woken (entered n (entry_of S a)) ≡ true)
        → StatesSaid c journal
        → StatesSaid (put S a c) (journal ++ entered n (entry_of S a))
    aside c a same unsaid stays told v =
        subst (λ state. StateSaid S v state (journal ++ entered n (entry_of S a))) (sym (same v))
        (state_aside S v (state_of c v) journal (entered n (entry_of S a)) (unsaid v) (stays v) (told v))

    goes : (begun c : Control) (link : Link) (w : ℕ) (word : StateWord) → WordComes S c w word
        → Leans S begun link (StateGoes w word) → LinkTold n journal link → StatesSaid c journal
        → StatesSaid (put S (StateGoes w word) c) (journal ++ entered n (state_entry w word))
    goes begun c link w word comes leans link_told told v = at (w == v) refl
      where
        there : (word : StateWord) → WordComes S c w word → volume_at c.volumes w ≡ no_volume → ⊥
        there ToReady h = h.0.there
        there ToPending (inl h) = h.there
        there ToPending (inr h) = h.there
        there ToActive h = h.0.there
        there ToActiveAgain h = h.there
        there ToIdle h = h.0.there
        there ToClean h = h.0.there

        Again : StateWord → Type 0
        Again word = (word ≡ ToActiveAgain
            → StateSaid S w IsIdle journal
            × (woken_from S.start S.asked.ops w false journal ≡ true))

        taken_again : (word : StateWord) → WordComes S c w word → Leans S begun link (StateGoes w word) → Again word
        taken_again ToReady h leans e = absurd cc
        taken_again ToPending h leans e = absurd cc
        taken_again ToActive h leans e = absurd cc
        taken_again ToIdle h leans e = absurd cc
        taken_again ToClean h leans e = absurd cc
        taken_again ToActiveAgain h leans e = (
          subst (λ state. StateSaid S w state journal) h.is (told w),
          asked_woken S w n journal link leans link_told,
        )

        here : (w == w) ≡ true → StateSaid S w (state_of (put S (StateGoes w word) c) w)
            (journal ++ entered n (state_entry w word))
        here same =
            let set : volume_at (set_state c.volumes w (state_after word)) w
            ≡ record (volume_at c.volumes w) { state = state_after word } =
            set_there c.volumes w (record (volume_at c.volumes w) { state = state_after word }) (there word comes) in
            subst (λ state. StateSaid S w state (journal ++ entered n (state_entry w word)))
            (sym (ap (λ (x : Volume). x.state) set))
            (said_here S n w word same journal (taken_again word comes leans))

        at : (b : Bool) → (w == v) ≡ b → StateSaid S v (state_of (put S (StateGoes w word) c) v)
            (journal ++ entered n (state_entry w word))
        at true is =
            let one : w ≡ v = grind (arith, nat_tests, is) in
            subst (λ u. StateSaid S u (state_of (put S (StateGoes w word) c) u)
            (journal ++ entered n (state_entry w word))) one (here (subst (λ u. (w == u) ≡ true) (sym one) is))
        at false is =
            let other : volume_at (set_state c.volumes w (state_after word)) v ≡ volume_at c.volumes v =
            set_elsewhere c.volumes w (record (volume_at c.volumes w) { state = state_after word }) v
            (λ e. absurd (grind (arith, nat_tests, is, e))) in
            subst (λ state. StateSaid S v state (journal ++ entered n (state_entry w word)))
            (sym (ap (λ (x : Volume). x.state) other))
            (state_aside S v (state_of c v) journal (entered n (state_entry w word))
            (said_elsewhere S n w v word is) (woken_elsewhere S n w v word is) (told v))

    pub states_on : (begun c : Control) (link : Link) (a : Change) → ChangeComes S c a
        → Leans S begun link a → LinkTold n journal link → StatesSaid c journal
        → StatesSaid (put S a c) (journal ++ entered n (entry_of S a))
    states_on begun c link (StateGoes w word) comes leans link_told told =
        goes begun c link w word comes leans link_told told
    states_on begun c link (DiskFails d) comes leans link_told told =
        aside c (DiskFails d) (λ v. state_without S d (round_without S d c.round) 0 c.volumes v) (λ v said. refl)
        (λ v woken is. is) told
    states_on begun c link (PassMoves w slots pass word) comes leans link_told told =
        aside c (PassMoves w slots pass word) (λ v. state_with_pass c.volumes w slots pass v)
        (λ v said. each_pass (λ word. said_from v said (entered n (pass_entry w word)) ≡ said) refl (λ row. refl)
        (λ unit. refl) refl word)
        (λ v woken is.
        each_pass (λ word. woken_from S.start S.asked.ops v woken (entered n (pass_entry w word)) ≡ true) is
        (λ row. is) (λ unit. is) is word) told
    states_on begun c link (ClientMoves k new word) comes leans link_told told =
        aside c (ClientMoves k new word) (λ v. refl)
        (λ v said. each_client (λ word. said_from v said (entered n (client_entry word)) ≡ said) refl (λ i. refl)
        (λ i answer. refl) word)
        (λ v woken is.
        each_client (λ word. woken_from S.start S.asked.ops v woken (entered n (client_entry word)) ≡ true) is
        (λ i. woken_by S v i woken is) (λ i answer. is) word) told
    states_on begun c link (ManagerMoves new word) comes leans link_told told =
        aside c (ManagerMoves new word) (λ v. refl)
        (λ v said. each_update (λ word. said_from v said (entered n (update_entry word)) ≡ said) refl (λ u. refl)
        (λ u. refl) (λ u kind. refl) word)
        (λ v woken is.
        each_update (λ word. woken_from S.start S.asked.ops v woken (entered n (update_entry word)) ≡ true) is
        (λ u. is) (λ u. is) (λ u kind. is) word) told
    states_on begun c link a comes leans link_told told =
        aside c a (λ v. refl) (λ v said. refl) (λ v woken is. is) told
