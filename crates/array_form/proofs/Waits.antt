-- In each run a volume is write-pending right behind the submit of a write to it.
use Rattle.std.proofs.Common.{◌≡◌, ℕ, ◌==◌, ◌&&◌, Bool, true, false, List, [], ◌∷◌, ◌++◌, refl, sym, ◌∙◌, subst, arith, Option, Some, None}
use Rattle.std.specs.List.{last_or}
use Rattle.std.proofs.lemmas.Bool.Decides.{nat_tests}
use Rattle.device_log.specs.Log.{Call}
use Rattle.array_model.specs.declared.journal.Entry.{Entry}
use Rattle.array_model.specs.declared.journal.Event.{Event}
use Rattle.array_model.specs.declared.journal.Event.TheVariants.{Submit, Pending}
use Rattle.array_model.specs.Script.{is_write_in}
use Rattle.array_model.specs.Events.{AtEachFrom}
use Rattle.array_model.specs.Counts.{IsSubmitOf, PendingAfter}
use Rattle.array_model.proofs.Journals.{at_each_more}
use Rattle.array_machine.specs.Setting.{Setting}
use Rattle.array_machine.specs.States.{ToReady, ToPending}
use Rattle.array_machine.specs.Volumes.{Volume}
use Rattle.array_machine.specs.Operations.{volume_of, is_write}
use Rattle.array_machine.specs.Rounds.{Ended}
use Rattle.array_machine.specs.Changes.{Change, StateGoes, ClientMoves, PassMoves, ManagerMoves, IsSilent, Submits, GoesOnQuietly, SaysNothing, entry_of}
use Rattle.array_machine.specs.Machine.{World, entered, calls_after, Reached}
use Rattle.array_paths.specs.InTurn.{InTurn}
use Rattle.array_paths.specs.Effects.{Effect, after_effect}
use Rattle.array_base.specs.Premises.{Premises}
use Rattle.array_base.specs.Opening.{Opening}
use Rattle.array_form.specs.Behind.{Behind, WaitsBehind}
use Rattle.array_form.specs.Follow.{FollowsTurns}
use Rattle.array_form.specs.Waits.{WaitsBehindSubmits, SaysLast, WaitsSo}
use Rattle.array_form.proofs.Counting.{sees}
use Rattle.array_form.proofs.StateEffects.{write_in_volume}
use Rattle.array_form.proofs.Uncalled.{uncalled}
use Rattle.array_form.proofs.AlongTurns.{along_turns}

pub last_behind : {X : Type 0} (o : Option X) (xs : List X) (x : X) → last_or o (xs ++ x ∷ []) ≡ Some x
last_behind o [] x = refl
last_behind o (y ∷ ys) x = last_behind (Some y) ys x

-- the entry says that a volume is write-pending
abbrev is_wait : Event → Bool
is_wait (Pending v) = true
is_wait _ = false

module _ (S : Setting) where
  abbrev Holds : List Entry → Entry → Type 0
  Holds front e = PendingAfter S.asked.ops front e.stamp e.event

  none_waits : (n : ℕ) (front : List Entry) (o : Option Event) → sees is_wait o ≡ false
      → AtEachFrom Holds front (entered n o)
  none_waits n front None no_wait = tt
  none_waits n front (Some (Pending v)) no_wait = absurd cc
  none_waits n front (Some _) no_wait = (tt, tt)

  -- a submit stands right before it, of the same turn
  waits_behind : (t : InTurn) (prev : Option Change) (w : World) (call : Option Call) (x : Ended) (v : ℕ)
      → Effect S t w.control call x (StateGoes v ToPending) → WaitsBehind S t.before w.control prev v
      → SaysLast prev w → IsSubmitOf S.asked.ops v (calls_after w.calls call) (last_or None w.journal)
  waits_behind t prev w (Some call) x v effect behind says =
      absurd (let none = (uncalled S t w.control (Some call) x (StateGoes v ToPending) effect
      (Pending (record { 0 = v })) refl refl).0 in cc none)
  waits_behind t prev w None x v effect behind says =
      let last = subst (λ p. SaysLast p w) behind.behind says in
      let here : (volume_of S behind.op == v) ≡ true = (let on = behind.on in grind (arith, nat_tests, on)) in
      let both : (is_write S behind.op && (volume_of S behind.op == v)) ≡ true = (let writes = behind.writes in
      rw (writes, here) refl) in
      let writes : is_write_in S.asked.ops v behind.op ≡ true = sym (write_in_volume S v behind.op) ∙ both in
      subst (λ e. IsSubmitOf S.asked.ops v w.calls e) (sym last) (refl, writes)

  says_last : (w : World) (call : Option Call) (a : Change) → SaysLast (Some a) (after_effect S w call a)
  says_last w call (ClientMoves k client (Submits i)) =
      last_behind None w.journal (record { stamp = calls_after w.calls call; event = Submit i })
  says_last w call _ = tt

  one_waits : (t : InTurn) (prev : Option Change) (more : List Change) (w : World) (call : Option Call) (x : Ended)
      (a : Change) → Effect S t w.control call x a → Behind S t.before w.control prev more a → SaysLast prev w
      → AtEachFrom Holds w.journal (entered (calls_after w.calls call) (entry_of S a))
  one_waits t prev more w call x (StateGoes v ToPending) effect behind says =
      (waits_behind t prev w call x v effect behind says, tt)
  one_waits t prev more w call x (StateGoes v ToReady) effect behind says = (tt, tt)
  one_waits t prev more w call x (ClientMoves k client IsSilent) effect behind says = tt
  one_waits t prev more w call x (PassMoves v slots new GoesOnQuietly) effect behind says = tt
  one_waits t prev more w call x (ManagerMoves new SaysNothing) effect behind says = tt
  one_waits t prev more w call x a effect behind says =
      none_waits (calls_after w.calls call) w.journal (entry_of S a) refl

  module _ (P : Premises S) (volumes : List Volume) (spares : List ℕ) (o : Opening S P volumes spares) where
    abbrev Q : InTurn → Option Change → List Change → World → Type 0
    Q t prev more w = WaitsSo S.asked.ops prev w

    follows : FollowsTurns S P volumes spares Q
    follows = record {
      opens = record { law = tt; last = tt };
      begins = λ t prev w who more had. record { law = had.law; last = tt };
      step = λ t prev more w call x a over behind had. record {
        law = at_each_more Holds w.journal _ had.law (one_waits t prev more w call x a over.effect behind had.last);
        last = says_last w call a;
      };
    }

    pub waits_in_each : (w : World) → Reached S volumes spares w → WaitsBehindSubmits S.asked.ops w.journal
    waits_in_each w run = (along_turns S P volumes spares o Q follows w run).1.2.law
