-- The failure law in each world of each run, given its part on checkpoints.
use Rattle.std.proofs.Common.{◌≡◌, ℕ, ◌+◌, ◌==◌, ◌||◌, ◌&&◌, nat_le, Bool, true, false, List, [], ◌∷◌, refl, arith}
use Rattle.std.proofs.lemmas.Bool.Decides.{nat_tests}
use Rattle.device_log.specs.Log.{Call}
use Rattle.array_model.specs.declared.journal.Entry.{Entry}
use Rattle.array_model.specs.Events.{AtEach, is_fault}
use Rattle.array_model.specs.Moments.{EachCallFrom}
use Rattle.array_model.specs.FailureLaw.{has_fault_by, has_fault_at, HasItsFault, HasItsFaultAtOnce, BeginCounts, FailureLaw}
use Rattle.array_machine.specs.Setting.{Setting}
use Rattle.array_machine.specs.Volumes.{Volume}
use Rattle.array_machine.specs.Machine.{World, Reached}
use Rattle.array_base.specs.Premises.{Premises}
use Rattle.array_base.specs.Opening.{Opening}
use Rattle.array_base.proofs.Targets.{or_first, or_second}
use Rattle.array_failures.proofs.ToldCalls.{failed_calls_told}
use Rattle.array_failures.proofs.RoundRuns.{rounds_keep}
use Rattle.array_failures.proofs.AckRuns.{acks_stand}

-- a fault stamped n isn't stamped above n
by_then : (d n : ℕ) (journal : List Entry) → has_fault_at d n journal ≡ true → has_fault_by d n journal ≡ true
by_then d n [] told = absurd cc
by_then d n (e ∷ es) told = at (is_fault d e.event && (e.stamp == n)) refl told (by_then d n es)
  where
    now : (a : Bool) → (a && (e.stamp == n)) ≡ true → (a && nat_le e.stamp n) ≡ true
    now true h = grind (arith, nat_tests, h)
    now false h = absurd cc

    at : (b : Bool) → (is_fault d e.event && (e.stamp == n)) ≡ b → (b || has_fault_at d n es) ≡ true
        → (has_fault_at d n es ≡ true → has_fault_by d n es ≡ true) → has_fault_by d n (e ∷ es) ≡ true
    at true here h more = or_first _ (has_fault_by d n es) (now (is_fault d e.event) here)
    at false here h more = or_second (is_fault d e.event && nat_le e.stamp n) (has_fault_by d n es) (more h)

-- what is told at once is told
each_told : (journal : List Entry) (k : ℕ) (log : List Call)
    → EachCallFrom (λ before call. HasItsFaultAtOnce journal before call) k log
    → EachCallFrom (λ before call. HasItsFault journal before call) k log
each_told journal k [] told = tt
each_told journal k (call ∷ log) told = (
  (λ failed inside. by_then call.disk (k + 1) journal (told.0 failed)),
  each_told journal (k + 1) log told.1,
)

-- the law, where checkpoints don't stay behind
pub law_given_units : (S : Setting) (P : Premises S) (volumes : List Volume) (spares : List ℕ)
    → Opening S P volumes spares → (w : World) → Reached S volumes spares w
    → AtEach (λ front e. BeginCounts S.start S.asked.ops w.log front e.stamp e.event) w.journal
    → FailureLaw S.start S.asked.ops w.log w.journal
law_given_units S P volumes spares opening w run units = record {
  acks = acks_stand S P volumes spares opening w run;
  calls = each_told w.journal 0 w.log (failed_calls_told S P volumes spares opening w run);
  keeps = rounds_keep S P volumes spares opening w run;
  units = units;
}
