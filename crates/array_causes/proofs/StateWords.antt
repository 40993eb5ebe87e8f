-- What a journal says of the state of a volume, as it grows.
use Rattle.std.proofs.Common.{◌≡◌, ℕ, ◌==◌, Bool, true, false, List, [], ◌∷◌, ◌++◌, refl, ap, sym, ◌∙◌, subst, Option, Some, None, inl, inr, cond}
use Rattle.std.specs.List.{last_or}
use Rattle.array_model.specs.declared.script.Op.{Op}
use Rattle.array_model.specs.declared.journal.Entry.{Entry}
use Rattle.array_model.specs.declared.journal.Event.TheVariants.{Submit}
use Rattle.array_model.specs.Start.{Start}
use Rattle.array_model.specs.Counts.{IsSubmitOf}
use Rattle.array_model.specs.Causes.{ArrayState, ArrayClosed, ArrayReadAuto, ArrayClean, ArrayPending, ArrayActive, ArrayIdle}
use Rattle.array_machine.specs.Setting.{Setting}
use Rattle.array_machine.specs.States.{State, IsReadonly, IsReadAuto, IsClean, IsPending, IsActive, IsIdle, StateWord, ToReady, ToPending, ToActive, ToActiveAgain, ToIdle, ToClean, state_after}
use Rattle.array_machine.specs.Changes.{state_entry}
use Rattle.array_machine.specs.Machine.{entered}
use Rattle.array_causes.specs.Writes.{is_write_there}
use Rattle.array_causes.proofs.Writes.{there_in}
use Rattle.array_causes.specs.Links.{Link, First, Fresh, BehindSubmit, BehindAsk, BehindEnd, BehindReady, BehindApplied, HasAsked}
use Rattle.array_causes.specs.StateCauses.{said_at, said_from, said_of, woken_at, woken_from, is_woken, IsLive}
use Rattle.array_causes.proofs.Grounds.{LinkTold}

said-append : (v : ℕ) (said : ArrayState) (xs ys : List Entry)
    → said_from v said (xs ++ ys) ≡ said_from v (said_from v said xs) ys
said-append v said [] ys = refl
said-append v said (x ∷ xs) ys = said-append v (said_at v said x.event) xs ys

pub woken-append : (start : Start) (ops : List Op) (v : ℕ) (woken : Bool) (xs ys : List Entry)
    → woken_from start ops v woken (xs ++ ys) ≡ woken_from start ops v (woken_from start ops v woken xs) ys
woken-append start ops v woken [] ys = refl
woken-append start ops v woken (x ∷ xs) ys = woken-append start ops v (woken_at start ops v woken x.event) xs ys

module _ (S : Setting) where
  -- what the journal says of a volume that is in a state
  abbrev pub StateSaid : ℕ → State → List Entry → Type 0
  StateSaid v IsReadonly journal = said_of v journal ≡ ArrayClosed
  StateSaid v IsReadAuto journal = said_of v journal ≡ ArrayReadAuto
  StateSaid v IsClean journal = said_of v journal ≡ ArrayClean
  StateSaid v IsPending journal = said_of v journal ≡ ArrayPending
  StateSaid v IsActive journal = IsLive S.start S.asked.ops v journal
  StateSaid v IsIdle journal = said_of v journal ≡ ArrayIdle

  -- entries that say nothing of its state
  pub state_aside : (v : ℕ) (state : State) (journal new : List Entry)
      → ((said : ArrayState) → said_from v said new ≡ said)
      → ((woken : Bool) → woken ≡ true → woken_from S.start S.asked.ops v woken new ≡ true) → StateSaid v state journal
      → StateSaid v state (journal ++ new)
  state_aside v state journal new unsaid stays told = at state told
    where
      same : said_of v (journal ++ new) ≡ said_of v journal
      same = said-append v ArrayClosed journal new ∙ unsaid (said_of v journal)

      at : (state : State) → StateSaid v state journal → StateSaid v state (journal ++ new)
      at IsReadonly h = same ∙ h
      at IsReadAuto h = same ∙ h
      at IsClean h = same ∙ h
      at IsPending h = same ∙ h
      at IsIdle h = same ∙ h
      at IsActive (inl h) = inl (same ∙ h)
      at IsActive (inr h) =
          inr (
            same ∙ h.0,
            woken-append S.start S.asked.ops v false journal new
                ∙ stays (is_woken S.start S.asked.ops v journal) h.1,
          )

  -- A WORD OF ANOTHER VOLUME

  pub said_elsewhere : (n w v : ℕ) (word : StateWord) → (w == v) ≡ false → (said : ArrayState)
      → said_from v said (entered n (state_entry w word)) ≡ said
  said_elsewhere n w v ToReady other said = ap (λ b. cond b ArrayReadAuto said) other
  said_elsewhere n w v ToPending other said = ap (λ b. cond b ArrayPending said) other
  said_elsewhere n w v ToActive other said = ap (λ b. cond b ArrayActive said) other
  said_elsewhere n w v ToActiveAgain other said = refl
  said_elsewhere n w v ToIdle other said = ap (λ b. cond b ArrayIdle said) other
  said_elsewhere n w v ToClean other said = ap (λ b. cond b ArrayClean said) other

  pub woken_elsewhere : (n w v : ℕ) (word : StateWord) → (w == v) ≡ false → (woken : Bool) → woken ≡ true
      → woken_from S.start S.asked.ops v woken (entered n (state_entry w word)) ≡ true
  woken_elsewhere n w v ToReady other woken is = is
  woken_elsewhere n w v ToPending other woken is = is
  woken_elsewhere n w v ToActive other woken is = is
  woken_elsewhere n w v ToActiveAgain other woken is = is
  woken_elsewhere n w v ToIdle other woken is = ap (λ b. cond b false woken) other ∙ is
  woken_elsewhere n w v ToClean other woken is = is

  -- A WORD OF THE VOLUME

  pub said_here : (n w : ℕ) (word : StateWord) → (w == w) ≡ true → (journal : List Entry)
      → (word ≡ ToActiveAgain → StateSaid w IsIdle journal × (is_woken S.start S.asked.ops w journal ≡ true))
      → StateSaid w (state_after word) (journal ++ entered n (state_entry w word))
  said_here n w ToReady here journal again =
      said-append w ArrayClosed journal _ ∙ ap (λ b. cond b ArrayReadAuto (said_of w journal)) here
  said_here n w ToPending here journal again =
      said-append w ArrayClosed journal _ ∙ ap (λ b. cond b ArrayPending (said_of w journal)) here
  said_here n w ToActive here journal again =
      inl (said-append w ArrayClosed journal _ ∙ ap (λ b. cond b ArrayActive (said_of w journal)) here)
  said_here n w ToActiveAgain here journal again =
      let had = again refl in
      inr (said-append w ArrayClosed journal [] ∙ had.0, woken-append S.start S.asked.ops w false journal [] ∙ had.1)
  said_here n w ToIdle here journal again =
      said-append w ArrayClosed journal _ ∙ ap (λ b. cond b ArrayIdle (said_of w journal)) here
  said_here n w ToClean here journal again =
      said-append w ArrayClosed journal _ ∙ ap (λ b. cond b ArrayClean (said_of w journal)) here

  -- A SUBMIT

  pub woken_by : (v i : ℕ) (woken : Bool) → woken ≡ true → woken_at S.start S.asked.ops v woken (Submit i) ≡ true
  woken_by v i woken is = at (is_write_there S.start S.asked.ops v i)
    where
      at : (b : Bool) → cond b true woken ≡ true
      at true = refl
      at false = is

  -- behind the submit of a write to it
  woken_last : (v stamp i : ℕ) → is_write_there S.start S.asked.ops v i ≡ true → (woken : Bool) (o : Option Entry)
      (journal : List Entry)
      → (o ≡ Some (record { stamp = stamp; event = Submit i }) → woken ≡ true)
      → last_or o journal ≡ Some (record { stamp = stamp; event = Submit i })
      → woken_from S.start S.asked.ops v woken journal ≡ true
  woken_last v stamp i writes woken o [] had is = had is
  woken_last v stamp i writes woken o (x ∷ xs) had is =
      woken_last v stamp i writes (woken_at S.start S.asked.ops v woken x.event) (Some x) xs now is
    where
      now : Some x ≡ Some (record { stamp = stamp; event = Submit i })
          → woken_at S.start S.asked.ops v woken x.event ≡ true
      now same =
          let one : x ≡ record { stamp = stamp; event = Submit i } = cc same in
          subst (λ (y : Entry). woken_at S.start S.asked.ops v woken y.event ≡ true) (sym one)
          (ap (λ b. cond b true woken) writes)

  pub asked_woken : (v stamp : ℕ) (journal : List Entry) (link : Link)
      → HasAsked S v link → LinkTold stamp journal link → is_woken S.start S.asked.ops v journal ≡ true
  asked_woken v stamp journal (BehindSubmit k i) asked told =
      woken_last v stamp i asked false None journal (λ e. absurd cc) told
  asked_woken v stamp journal First asked told = absurd asked
  asked_woken v stamp journal Fresh asked told = absurd asked
  asked_woken v stamp journal (BehindAsk k) asked told = absurd asked
  asked_woken v stamp journal BehindEnd asked told = absurd asked
  asked_woken v stamp journal (BehindReady w) asked told = absurd asked
  asked_woken v stamp journal BehindApplied asked told = absurd asked

  pub asked_behind : (v stamp : ℕ) (journal : List Entry) (link : Link)
      → HasAsked S v link → LinkTold stamp journal link → IsSubmitOf S.asked.ops v stamp (last_or None journal)
  asked_behind v stamp journal (BehindSubmit k i) asked told =
      subst (IsSubmitOf S.asked.ops v stamp) (sym told) (refl, there_in S v i asked)
  asked_behind v stamp journal First asked told = absurd asked
  asked_behind v stamp journal Fresh asked told = absurd asked
  asked_behind v stamp journal (BehindAsk k) asked told = absurd asked
  asked_behind v stamp journal BehindEnd asked told = absurd asked
  asked_behind v stamp journal (BehindReady w) asked told = absurd asked
  asked_behind v stamp journal BehindApplied asked told = absurd asked
