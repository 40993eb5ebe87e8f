-- A whole effect, its call with its change, keeps what holds of the disks.
use Rattle.std.proofs.Common.{◌≡◌, ℕ, Bool, true, false, List, ◌∷◌, sym, subst, Option}
use Rattle.device_log.specs.Log.{Call}
use Rattle.array_model.specs.Blocks.{Laid}
use Rattle.array_disks.specs.Calls.{after_call}
use Rattle.array_machine.specs.Setting.{Setting}
use Rattle.array_machine.specs.Rounds.{Ended, Step, Aim, OfRound, OfSpare, Going, stepped, dropped, gives}
use Rattle.array_machine.specs.Control.{Control}
use Rattle.array_machine.specs.Changes.{Change, StepsOn, DiskFails}
use Rattle.array_machine.specs.Puts.{put}
use Rattle.array_machine.specs.Machine.{log_after}
use Rattle.array_paths.specs.InTurn.{InTurn}
use Rattle.array_paths.specs.Effects.{AtTarget, Effect, quiet, row, row_fails, steps, step_fails}
use Rattle.array_base.specs.Premises.{Premises}
use Rattle.array_base.specs.Base.{Ledger, ledger, disks_by, NextAwaits, BaseFact, Base}
use Rattle.array_base.proofs.RowCalls.{base_row}
use Rattle.array_base.proofs.BlockCalls.{behind_step, round_aimed, round_call, spare_aimed, spare_call, certain}
use Rattle.array_base.proofs.Stepped.{with_given, round_stepped, spare_stepped}
use Rattle.array_base.proofs.Fallen.{core_fallen, goes_fallen, next_lost}
use Rattle.array_base.proofs.AfterCalls.{target_base, target_between}
use Rattle.array_base.proofs.Quietly.{base_fault, base_comes, base_at_rows}

module _ (S : Setting) (P : Premises S) (t : InTurn) (log : List Call) (c : Control) where
  -- THE CALL OF WHAT GOES ON WENT THROUGH

  stepped_on : (l : Ledger) (aim : Aim) (m : Laid) (step : Step) (d : ℕ) (ds late : List ℕ) (done : Bool) (x : Ended)
      → x.went ≡ true → BaseFact S P (disks_by S log) l (Going aim m step (d ∷ ds) late done)
      → BaseFact S P (behind_step S log d m step x true)
      (with_given l (gives (Going aim m step (d ∷ ds) late done) l.given))
      (stepped (Going aim m step (d ∷ ds) late done))
  stepped_on l OfRound m step d ds late done x went base =
      let between = round_call S log d m P l base.core ds late done base.goes step x true base.next in
      let aimed = round_aimed S log d m P l base.core ds late done base.goes in
      round_stepped S P (behind_step S log d m step x true) l m d ds late done between.core between.goes step
      (certain S log d m aimed step x went base.next)
  stepped_on l (OfSpare y) m step d ds late done x went base =
      let between = spare_call S log d m P l base.core y ds late done base.goes step x true base.next in
      let aimed = spare_aimed S log d m P l base.core y ds late done base.goes in
      spare_stepped S P (behind_step S log d m step x true) l m d ds late done y between.core between.goes step
      (certain S log d m aimed step x went base.next)

  target_steps : (d : ℕ) (m : Laid) (step : Step) (x : Ended) → AtTarget S c d m step → x.went ≡ true
      → Base S P log c
      → BaseFact S P (behind_step S log d m step x true) (ledger (put S StepsOn c).round) (put S StepsOn c).round.phase
  target_steps d m step x target went base =
      subst (λ p. BaseFact S P (behind_step S log d m step x true) (with_given (ledger c.round) (gives p c.round.given))
      (stepped p)) (sym target.is)
      (stepped_on (ledger c.round) target.aim m step d target.left target.late target.done x went
      (target_base S P t log c base d m step target))

  -- IT FAILED

  target_fails : (d : ℕ) (m : Laid) (step : Step) (x : Ended) → AtTarget S c d m step → Base S P log c
      → BaseFact S P (behind_step S log d m step x false) (ledger (put S (DiskFails d) c).round)
      (put S (DiskFails d) c).round.phase
  target_fails d m step x target base =
      let ls = behind_step S log d m step x false in
      let between = target_between S P t log c base d m step x false target in
      record {
        core = core_fallen S ls d (ledger c.round) P between.core;
        goes = goes_fallen S ls d (ledger c.round) c.round.phase between.goes;
        next = subst (λ p. NextAwaits S ls (dropped d p)) (sym target.is)
            (next_lost S ls d (ledger c.round) target.aim m step target.left target.late target.done);
      }

  -- ANY EFFECT

  pub effect_base : {call : Option Call} {x : Ended} {a : Change} → Effect S t c call x a → Base S P log c
      → Base S P (log_after log call) (put S a c)
  effect_base (quiet x a comes) base = base_comes S P (disks_by S log) t c a comes base
  effect_base (row d what x a may call went at) base =
      base_at_rows S P (after_call S.start.words S.start.disks log d what true) c d what x a at
      (base_row S P log d what true call (ledger c.round) c.round.phase base)
  effect_base (row_fails d what x may call failed at) base =
      base_fault S P (after_call S.start.words S.start.disks log d what false) c d
      (base_row S P log d what false call (ledger c.round) c.round.phase base)
  effect_base (steps d m step x target went) base = target_steps d m step x target went base
  effect_base (step_fails d m step x target failed) base = target_fails d m step x target base
