-- One turn of the stage is one turn of the machine.
use Rattle.std.proofs.Common.{◌≡◌, ℕ, List, [], ◌∷◌, ◌++◌, Option, Some, None, refl, ap, sym, subst, ◌∙◌, append_assoc}
use Rattle.units.specs.declared.disk.Sector.{Sector}
use Rattle.device_log.specs.Log.{Call, What, Read, Sync}
use Rattle.member_bank.specs.Told.{Keeps, Gives}
use Rattle.array_model.specs.declared.journal.Entry.{Entry}
use Rattle.array_model.specs.Blocks.{Laid}
use Rattle.stage_machine.specs.Setting.{Setting}
use Rattle.stage_machine.specs.Rounds.{Phase, Rest, Going, Step, AtAnchor, AtSync, Ended, round_call, what_of}
use Rattle.stage_machine.specs.Machine.{Control, Action, Monitors, Out, World, Reached, goes, Honest, goes_true, GaveOf, turned, call_of, call_unless, got_of, log_after, stamped, after, happens}
use Rattle.stage.specs.Runs.{Tells, Makes, MakesTrue, Gave, Agrees, Ran, RanTrue, holding}
use Rattle.stage.proofs.Holding.{turned_held, call_held}
use Rattle.stage.proofs.Truth.{stands_true}

-- TURNS THAT READ NOTHING

abbrev what_in : Option Call → What
what_in None = Sync
what_in (Some call) = call.what

pub monitor_true : (S : Setting) (told : Option (List Call)) (c : Control) (calls : ℕ) (x : Ended) (out : Out) (counted : ℕ) (contents : Option (List (List Sector))) (now : Option (List Call))
    → Makes S told c calls (Monitors x) out counted now → MakesTrue S told c calls (Monitors x) out counted contents now
monitor_true S told c calls x out counted contents now makes = record {
  makes = makes;
  gave = λ call place is read went. absurd (by call place c.failed is read);
}
  where
    what : (m : Laid) (d place : ℕ) (step : Step) → what_of S x m step d ≡ Read place → ⊥
    what m d place AtAnchor read = absurd (cc read)
    what m d place AtSync read = absurd (cc read)

    round : (call : Call) (place : ℕ) (phase : Phase) → round_call S x phase ≡ Some call → call.what ≡ Read place → ⊥
    round call place Rest is read = absurd (cc is)
    round call place (Going m step []) is read = absurd (cc is)
    round call place (Going m step (d ∷ ds)) is read = what m d place step (ap what_in is ∙ read)

    by : (call : Call) (place : ℕ) (failed : Option ℕ) → call_unless S c (Monitors x) failed ≡ Some call → call.what ≡ Read place → ⊥
    by call place None is read = round call place c.round.phase is read
    by call place (Some d) is read = absurd (cc is)

-- a turn without a call
pub silent_true : (S : Setting) (told : Option (List Call)) (c : Control) (calls : ℕ) (a : Action) (out : Out) (counted : ℕ) (contents : Option (List (List Sector))) (now : Option (List Call))
    → call_of S c a ≡ None → Makes S told c calls a out counted now → MakesTrue S told c calls a out counted contents now
silent_true S told c calls a out counted contents now none makes = record {
  makes = makes;
  gave = λ call place is read went. absurd (cc (none, is));
}

-- ONE TURN

agrees_after : (told : Option (List Call)) (before log : List Call) (call : Option Call) (now : Option (List Call)) → Agrees told before log → Tells told call now → Agrees now before (log_after log call)
agrees_after told before log None now is keeps = λ all at. is all (keeps all at)
agrees_after told before log (Some call) now is logs = λ all at.
    let l = logs all at in
    l.2 ∙ ap (λ (xs : List Call). xs ++ call ∷ []) (is l.0 l.1) ∙ append_assoc before log (call ∷ [])

-- what is told now was told before, but for the call
told_before : (told : Option (List Call)) (call : Option Call) (now : Option (List Call)) (all : List Call) → Tells told call now → now ≡ Some all → (was : List Call) × (told ≡ Some was) × (all ≡ log_after was call)
told_before told None now all keeps is = (all, keeps all is, refl)
told_before told (Some call) now all logs is = logs all is

gives_now : (contents : Option (List (List Sector))) (now : Option (List Call)) (opening : List (List Sector)) (all : List Call) (d p : ℕ) (s : Sector) → contents ≡ Some opening → now ≡ Some all → Gives contents now d p s
    → Gives (Some opening) (Some all) d p s
gives_now contents now opening all d p s one two gives =
    subst (λ (o : Option (List Call)). Gives (Some opening) o d p s) two (subst (λ (o : Option (List (List Sector))). Gives o now d p s) one gives)

-- the turn's read gave what stood there in the model
gave_of : (S : Setting) (c : Control) (a : Action) (journal : List Entry) (calls : ℕ) (told : Option (List Call)) (ran : Ran S c calls journal told) (contents : Option (List (List Sector))) (now : Option (List Call)) (opening : List (List Sector)) (all : List Call)
    → Tells told (call_of S c a) now → Gave S c a contents now → contents ≡ Some opening → now ≡ Some all → GaveOf (holding S opening) ran.log (got_of a) (call_of S c a)
gave_of S c a journal calls told ran contents now opening all tells gave held known = at (call_of S c a) refl
  where
    at : (call : Option Call) → call_of S c a ≡ call → GaveOf (holding S opening) ran.log (got_of a) call
    at None is = tt
    at (Some call) is = λ place read went.
        let was = told_before told (call_of S c a) now all tells known in
        stands_true S opening ran.before ran.log all call place (got_of a) ran.reads read
        (was.2 ∙ ap (log_after was.0) is ∙ ap (λ (xs : List Call). xs ++ call ∷ []) (ran.agrees was.0 was.1))
        (gives_now contents now opening all call.disk place (got_of a) held known (gave call place is read went))

happens_held : (S : Setting) (opening : List (List Sector)) (w : World) (a : Action) → happens (holding S opening) w a ≡ happens S w a
happens_held S opening w a =
    ap (λ (o : Out). after w o (call_of (holding S opening) w.control a)) (turned_held S opening w.control a)
    ∙ ap (after w (turned S w.control a)) (call_held S opening w.control a)

pub goes_on : (S : Setting) (c : Control) (calls : ℕ) (journal : List Entry) (contents : Option (List (List Sector))) (told : Option (List Call)) (a : Action) (out : Out) (counted : ℕ) (entered : List Entry) (held : Option (List (List Sector))) (now : Option (List Call))
    → RanTrue S c calls journal contents told → MakesTrue S told c calls a out counted held now → Keeps contents held → entered ≡ journal ++ stamped counted out.events → RanTrue S out.next counted entered held now
goes_on S c calls journal contents told a out counted entered held now is made keeps entries =
    let ran = is.ran in
    let makes = made.makes in
    let w : World = record { control = c; calls = calls; log = ran.log; journal = journal } in
    let here : record { control = out.next; calls = counted; log = log_after ran.log (call_of S c a); journal = entered } ≡ happens S w a = rw (entries, makes.count, makes.is) refl in
    record {
      ran = record {
        before = ran.before;
        reads = ran.reads;
        log = log_after ran.log (call_of S c a);
        run = subst (Reached S) (sym here) (goes ran.run a);
        agrees = agrees_after told ran.before ran.log (call_of S c a) now ran.agrees makes.logs;
      };
      honest = λ opening all at known.
          let was = told_before told (call_of S c a) now all makes.logs known in
          let gave = gave_of S c a journal calls told ran held now opening all makes.logs made.gave at known in
          subst (Honest (holding S opening)) (happens_held S opening w a ∙ sym here)
          (goes_true (is.honest opening was.0 (keeps opening at) was.1) a (subst (GaveOf (holding S opening) ran.log (got_of a)) (sym (call_held S opening c a)) gave));
    }
