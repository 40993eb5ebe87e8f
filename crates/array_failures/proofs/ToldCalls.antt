-- Each failed call is told at once: through each effect, and in each run.
use Rattle.std.proofs.Common.{◌≡◌, ℕ, suc, ◌+◌, ◌||◌, ◌==◌, Bool, true, false, List, [], ◌∷◌, ◌++◌, length, refl, ◌∙◌, subst, arith, Option}
use Rattle.std.proofs.lemmas.Bool.Decides.{nat_tests}
use Rattle.std.proofs.lemmas.List.Folds.{list_any-append}
use Rattle.device_log.specs.Log.{Call}
use Rattle.array_model.specs.declared.journal.Entry.{Entry}
use Rattle.array_model.specs.declared.journal.Event.TheVariants.{Fault}
use Rattle.array_model.specs.Moments.{EachCallFrom}
use Rattle.array_model.specs.FailureLaw.{has_fault_at, HasItsFaultAtOnce, TellsEachFailure}
use Rattle.array_machine.specs.Setting.{Setting}
use Rattle.array_machine.specs.Volumes.{Volume}
use Rattle.array_machine.specs.Rounds.{Ended}
use Rattle.array_machine.specs.Control.{Control}
use Rattle.array_machine.specs.Changes.{Change, entry_of}
use Rattle.array_machine.specs.Machine.{World, Reached, calls_after, log_after, entered}
use Rattle.array_paths.specs.InTurn.{InTurn}
use Rattle.array_paths.specs.Effects.{Effect, quiet, row, row_fails, steps, step_fails}
use Rattle.array_base.specs.Premises.{Premises}
use Rattle.array_base.specs.Opening.{Opening}
use Rattle.array_base.specs.Laws.{FollowsBase}
use Rattle.array_base.proofs.Runs.{along_base}
use Rattle.array_told.specs.Told.{Stamps}
use Rattle.array_told.proofs.Stamps.{stamps_effect, stamps_open}

-- JOURNALS THAT GROW

told_before : (d n : ℕ) (journal new : List Entry) → has_fault_at d n journal ≡ true
    → has_fault_at d n (journal ++ new) ≡ true
told_before d n journal new told = list_any-append _ journal new ∙ (let there = told in rw there refl)

told_now : (d n : ℕ) (journal : List Entry)
    → has_fault_at d n (journal ++ record { stamp = n; event = Fault (record { 0 = d }) } ∷ []) ≡ true
told_now d n journal =
    let disk : (d == d) ≡ true = grind (arith, nat_tests) in
    let stamp : (n == n) ≡ true = grind (arith, nat_tests) in
    list_any-append _ journal (record { stamp = n; event = Fault (record { 0 = d }) } ∷ []) ∙ rw (disk, stamp) (at _)
  where
    at : (b : Bool) → (b || true) ≡ true
    at true = refl
    at false = refl

-- what calls are told goes on to hold in a longer journal
calls_told_before : (journal new : List Entry) (k : ℕ) (log : List Call)
    → EachCallFrom (λ before call. HasItsFaultAtOnce journal before call) k log
    → EachCallFrom (λ before call. HasItsFaultAtOnce (journal ++ new) before call) k log
calls_told_before journal new k [] told = tt
calls_told_before journal new k (x ∷ xs) told = (
  (λ failed. told_before x.disk (k + 1) journal new (told.0 failed)),
  calls_told_before journal new (k + 1) xs told.1,
)

-- one call more
pub each_call_more : (Q : ℕ → Call → Type 0) (k : ℕ) (log : List Call) (call : Call) → EachCallFrom Q k log
    → Q (k + length log) call → EachCallFrom Q k (log ++ call ∷ [])
each_call_more Q k [] call each now = let here : k + 0 ≡ k = omega arith in (subst (λ n. Q n call) here now, tt)
each_call_more Q k (x ∷ xs) call each now =
    let there : k + suc (length xs) ≡ k + 1 + length xs = omega arith in
    (each.0, each_call_more Q (k + 1) xs call each.1 (subst (λ n. Q n call) there now))

module _ (S : Setting) where
  -- a call that failed, and its disk's fault
  told_failed : (d : ℕ) (log : List Call) (call : Call) (calls : ℕ) (journal : List Entry) → calls ≡ length log
      → call.disk ≡ d → TellsEachFailure log journal
      → TellsEachFailure (log ++ call ∷ [])
      (journal ++ record { stamp = calls + 1; event = Fault (record { 0 = d }) } ∷ [])
  told_failed d log call calls journal count on told =
      each_call_more _ 0 log call (calls_told_before journal _ 0 log told) (λ failed.
      let stamp : 0 + length log + 1 ≡ calls + 1 = omega (arith, count) in rw (stamp, on)
      (told_now d (calls + 1) journal))

  told_effect : (t : InTurn) (c : Control) (call : Option Call) (x : Ended) (a : Change) → Effect S t c call x a
      → (log : List Call) (calls : ℕ) (journal : List Entry) → calls ≡ length log → TellsEachFailure log journal
      → TellsEachFailure (log_after log call) (journal ++ entered (calls_after calls call) (entry_of S a))
  told_effect t c _ _ _ (quiet x a comes) log calls journal count told = calls_told_before journal _ 0 log told
  told_effect t c _ _ _ (row d what x a may fits went why) log calls journal count told =
      each_call_more _ 0 log _ (calls_told_before journal _ 0 log told) (λ failed. absurd cc)
  told_effect t c _ _ _ (row_fails d what x may fits failed lost) log calls journal count told =
      told_failed d log _ calls journal count refl told
  told_effect t c _ _ _ (steps d m step x at went) log calls journal count told =
      each_call_more _ 0 log _ (calls_told_before journal _ 0 log told) (λ failed. absurd cc)
  told_effect t c _ _ _ (step_fails d m step x at failed) log calls journal count told =
      told_failed d log _ calls journal count refl told

  -- RUNS

  module _ (P : Premises S) (volumes : List Volume) (spares : List ℕ) (o : Opening S P volumes spares) where
    record Told (w : World) : Type 0 where
      stamps : Stamps w
      calls : TellsEachFailure w.log w.journal

    pub failed_calls_told : (w : World) → Reached S volumes spares w → TellsEachFailure w.log w.journal
    failed_calls_told w run = (along_base S P volumes spares o (λ t w. Told w) follows w run).1.calls
      where
        follows : FollowsBase S P volumes spares (λ t w. Told w)
        follows = record {
          opens = λ who. record { stamps = stamps_open S volumes spares; calls = tt };
          begins = λ t w who told. told;
          step = λ t w call x a over told. record {
            stamps = stamps_effect S w call a told.stamps;
            calls = told_effect t w.control call x a over.effect w.log w.calls w.journal told.stamps.calls told.calls;
          };
        }
