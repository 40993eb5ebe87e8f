-- At each moment of a run there is one block of the last finished round.
use Rattle.std.proofs.Common.{◌≡◌, ℕ, ◌≤◌, Bool, true, false, List, [], ◌∷◌, ◌++◌, length, refl, ap, sym, ◌∙◌, subst, arith, Option, Some}
use Rattle.device_log.specs.Log.{Call}
use Rattle.array_model.specs.declared.journal.Entry.{Entry}
use Rattle.array_model.specs.Blocks.{Laid}
use Rattle.array_model.specs.Moments.{Always}
use Rattle.array_model.specs.Rounds.{IsFinished, IsFinishedBy, HasFinished}
use Rattle.array_disks.specs.Calls.{call_on}
use Rattle.array_machine.specs.Setting.{Setting}
use Rattle.array_machine.specs.Volumes.{Volume}
use Rattle.array_machine.specs.Rounds.{Ended, Step, Aim, OfRound, OfSpare, Going, stepped, dropped, what_of}
use Rattle.array_machine.specs.Control.{Control}
use Rattle.array_machine.specs.Changes.{Change, StepsOn, DiskFails, entry_of}
use Rattle.array_machine.specs.Puts.{put}
use Rattle.array_machine.specs.Machine.{World, Reached, begins_at, calls_after, log_after, entered}
use Rattle.array_paths.specs.InTurn.{InTurn}
use Rattle.array_paths.specs.Effects.{Effect, quiet, row, row_fails, steps, step_fails, after_effect}
use Rattle.array_base.specs.Premises.{Premises}
use Rattle.array_base.specs.Opening.{Opening}
use Rattle.array_base.specs.Laws.{OverBase}
use Rattle.array_base.specs.Base.{Ledger, ledger, disks_by, BaseFact, Base, Core}
use Rattle.array_base.proofs.RowCalls.{round_is_book}
use Rattle.array_base.proofs.AfterCalls.{target_base, next_aimed}
use Rattle.array_base.proofs.Finished.{finished_first, finished_later}
use Rattle.array_base.proofs.Runs.{along_base}
use Rattle.array_told.specs.Told.{finished_generation, Tells, Stamps}
use Rattle.array_told.proofs.Tells.{tells_effect, tells_open}
use Rattle.array_told.proofs.Stamps.{stamps_effect, stamps_open}
use Rattle.array_told.proofs.Moments.{always_more, always_none}
use Rattle.array_finished.specs.Found.{IsWritten, RoundSince, IsFoundIn}
use Rattle.array_finished.proofs.Found.{written_more, found_entry, spare_stepped, going_dropped, found_row, going_step, going_lost, found_comes, found_rows, found_fault}

module _ (S : Setting) (P : Premises S) where
  -- A CALL OF WHAT GOES ON

  module _ (log : List Call) (journal : List Entry) (l : Ledger) (m : Laid) (d : ℕ) (ds late : List ℕ) (done : Bool)
      (x : Ended) (went : Bool) where
    abbrev behind_call : Step → List Call
    behind_call step = log ++ call_on d (what_of S x m step d) went ∷ []

    step_since : (aim : Aim) (step : Step)
        → BaseFact S P (disks_by S log) l (Going aim m step (d ∷ ds) late done)
        → RoundSince S log journal (Going aim m step (d ∷ ds) late done)
        → RoundSince S (behind_call step) journal (stepped (Going aim m step (d ∷ ds) late done))
    step_since OfRound step base g =
        going_step S log journal m
        (round_is_book S P (disks_by S log) l m (d ∷ ds) late done base.core base.goes).container d
        (next_aimed S P log l OfRound m step d ds late done base) ds late done x went step g
    step_since (OfSpare y) step base g = spare_stepped S (behind_call step) journal y m step (d ∷ ds) late done

    lost_since : (aim : Aim) (step : Step)
        → BaseFact S P (disks_by S log) l (Going aim m step (d ∷ ds) late done)
        → RoundSince S log journal (Going aim m step (d ∷ ds) late done)
        → RoundSince S (behind_call step) journal (dropped d (Going aim m step (d ∷ ds) late done))
    lost_since OfRound step base g =
        going_lost S log journal m
        (round_is_book S P (disks_by S log) l m (d ∷ ds) late done base.core base.goes).container d
        (next_aimed S P log l OfRound m step d ds late done base) ds late done x went step g
    lost_since (OfSpare y) step base g =
        going_dropped S (behind_call step) journal d (Going (OfSpare y) m step (d ∷ ds) late done) tt

  -- EFFECTS

  pub found_effect : (t : InTurn) (log : List Call) (n : ℕ) (journal : List Entry) (c : Control) {call : Option Call}
      {x : Ended} {a : Change} → n ≤ length (log_after log call) → Effect S t c call x a → Base S P log c
      → IsFoundIn S log journal c
      → IsFoundIn S (log_after log call) (journal ++ entered n (entry_of S a)) (put S a c)
  found_effect t log n journal c inside (quiet x a comes) base f =
      found_comes S P t log n journal c inside (disks_by S log) a comes base.core f
  found_effect t log n journal c inside (row d what x a may calls went at) base f =
      found_rows S P t (log ++ call_on d what true ∷ []) n journal c inside d what x a at
      (found_row S log journal d what true calls c.round.first c.round.last c.round.phase f)
  found_effect t log n journal c inside (row_fails d what x may calls failed lost) base f =
      found_fault S P t (log ++ call_on d what false ∷ []) n journal c inside d
      (found_row S log journal d what false calls c.round.first c.round.last c.round.phase f)
  found_effect t log n journal c inside (steps d m step x target went) base f =
      let behind = log ++ call_on d (what_of S x m step d) true ∷ [] in
      found_entry S behind n journal StepsOn c.round.first c.round.last (stepped c.round.phase) tt (record {
        finished = λ later.
            written_more S log (Some (call_on d (what_of S x m step d) true)) journal c.round.last (f.finished later);
        going = subst (λ p. RoundSince S behind journal (stepped p)) (sym target.is)
            (step_since log journal (ledger c.round) m d target.left target.late target.done x true target.aim step
            (target_base S P t log c base d m step target) (subst (RoundSince S log journal) target.is f.going));
      })
  found_effect t log n journal c inside (step_fails d m step x target failed) base f =
      let behind = log ++ call_on d (what_of S x m step d) false ∷ [] in
      found_entry S behind n journal (DiskFails d) c.round.first c.round.last (dropped d c.round.phase) tt (record {
        finished = λ later.
            written_more S log (Some (call_on d (what_of S x m step d) false)) journal c.round.last (f.finished later);
        going = subst (λ p. RoundSince S behind journal (dropped d p)) (sym target.is)
            (lost_since log journal (ledger c.round) m d target.left target.late target.done x false target.aim step
            (target_base S P t log c base d m step target) (subst (RoundSince S log journal) target.is f.going));
      })

  -- ONE BLOCK

  pub has_finished : (log : List Call) (journal : List Entry) (c : Control) → Core S P (disks_by S log) (ledger c.round)
      → Tells S c journal → (c.round.first ≡ false → IsWritten S log journal c.round.last)
      → HasFinished S.start log journal
  has_finished log journal c core told written = record {
    block = c.round.last;
    is = subst (IsFinishedBy S.start log journal c.round.last) (sym told.ends) (at c.round.first refl);
    one = λ m finished. only m finished c.round.first refl;
  }
    where
      at : (first : Bool) → c.round.first ≡ first
          → IsFinishedBy S.start log journal c.round.last (finished_generation S first c.round)
      at true is = core.generations.first is
      at false is = let w = written is in (w.stamp, w.begun, w.round)

      only : (m : Laid) → IsFinished S.start log journal m → (first : Bool) → c.round.first ≡ first → m ≡ c.round.last
      only m finished true is =
          finished_first S P log journal (ledger c.round) core m finished is
          (told.ends ∙ ap (λ f. finished_generation S f c.round) is)
      only m finished false is =
          finished_later S P log journal (ledger c.round) core m finished is
          (told.ends ∙ ap (λ f. finished_generation S f c.round) is)

  -- A RUN

  -- what each effect keeps
  pub record Keeps (w : World) : Type 0 where
    pub stamps : Stamps w
    pub told : Tells S w.control w.journal
    pub found : IsFoundIn S w.log w.journal w.control
    pub law : Always (HasFinished S.start) w.log w.journal

  keeps_effect : (t : InTurn) (w : World) (call : Option Call) (x : Ended) (a : Change) → OverBase S P t w call x a
      → Keeps w → Keeps (after_effect S w call a)
  keeps_effect t w call x a o k = record {
    stamps = stamps;
    told = told;
    found = found;
    law = always_more (HasFinished S.start) w.log call w.journal w.calls (entry_of S a) k.stamps.calls stamps.calls
        k.stamps.below k.law
        (has_finished log w.journal w.control o.between.core k.told
        (λ later. written_more S w.log call w.journal w.control.round.last (k.found.finished later)))
        (has_finished log (w.journal ++ entered n (entry_of S a)) (put S a w.control) o.behind.core told
        found.finished);
  }
    where
      log : List Call
      log = log_after w.log call

      n : ℕ
      n = calls_after w.calls call

      stamps : Stamps (after_effect S w call a)
      stamps = stamps_effect S w call a k.stamps

      told : Tells S (put S a w.control) (w.journal ++ entered n (entry_of S a))
      told = tells_effect S t w.control call x a o.effect n w.journal k.told

      found : IsFoundIn S log (w.journal ++ entered n (entry_of S a)) (put S a w.control)
      found =
          found_effect t w.log n w.journal w.control (let count = stamps.calls in omega (arith, count)) o.effect
          o.before k.found

  module _ (volumes : List Volume) (spares : List ℕ) (opening : Opening S P volumes spares) where
    keeps_open : Keeps (begins_at S volumes spares)
    keeps_open = record {
      stamps = stamps_open S volumes spares;
      told = tells_open S volumes spares (λ v. (opening.volumes_are v).state);
      found = record { finished = λ later. absurd cc; going = tt };
      law = always_none (HasFinished S.start) (record { block = S.start.newest; is = refl; one = λ m is. is });
    }

    pub run_keeps : (w : World) → Reached S volumes spares w → Keeps w
    run_keeps w run =
        (along_base S P volumes spares opening (λ t w. Keeps w) (record {
          opens = λ who. keeps_open;
          begins = λ t w who k. k;
          step = λ t w call x a o k. keeps_effect t w call x a o k;
        }) w run).1
