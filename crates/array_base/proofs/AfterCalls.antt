-- An effect's call alone, with the control state from before it: what holds of the disks holds on but for what the next
-- call awaits; and it narrows candidates, or it is the write of an anchor and brings the block of what goes on.
use Rattle.std.proofs.Common.{◌≡◌, ℕ, Bool, true, false, List, ◌∷◌, length, sym, subst, refl, inl, Option}
use Rattle.device_log.specs.Log.{Call, What, Sync}
use Rattle.array_model.specs.Blocks.{Laid}
use Rattle.array_model.specs.Candidates.{Disk}
use Rattle.array_disks.specs.Calls.{after_call, RowCall, row_sync}
use Rattle.array_disks.specs.Changes.{Narrows}
use Rattle.array_disks.proofs.Steps.{narrows_row, narrows_extended, adds_anchor}
use Rattle.array_machine.specs.Setting.{Setting}
use Rattle.array_machine.specs.Rounds.{Ended, stored_of, Step, AtExtended, AtAnchor, AtSync, Aim, OfRound, OfSpare, Phase, Going}
use Rattle.array_machine.specs.Control.{Control}
use Rattle.array_machine.specs.Changes.{Change}
use Rattle.array_machine.specs.Machine.{log_after}
use Rattle.array_paths.specs.InTurn.{InTurn}
use Rattle.array_paths.specs.Effects.{AtTarget, Effect, quiet, row, row_fails, steps, step_fails}
use Rattle.array_base.specs.Premises.{Premises}
use Rattle.array_base.specs.CallDoes.{CallDoes, narrows, brings}
use Rattle.array_base.specs.Base.{Ledger, ledger, disks_by, Between, BaseFact, Base, BaseAfterCall}
use Rattle.array_base.proofs.RowCalls.{base_row}
use Rattle.array_base.proofs.BlockCalls.{behind_step, IsAimedAt, round_aimed, round_call, spare_aimed, spare_call}

module _ (S : Setting) (P : Premises S) where
  -- without what the next call awaits
  pub between_of : (ks : ℕ → Disk) (l : Ledger) (phase : Phase) → BaseFact S P ks l phase → Between S P ks l phase
  between_of ks l phase base = record { core = base.core; goes = base.goes }

  -- of the phase that it is
  pub base_at : (ks : ℕ → Disk) (l : Ledger) (p q : Phase) → p ≡ q → BaseFact S P ks l p → BaseFact S P ks l q
  base_at ks l p q is base = subst (BaseFact S P ks l) is base

  -- A CALL OF WHAT GOES ON

  step_between : (log : List Call) (l : Ledger) (aim : Aim) (m : Laid) (step : Step) (d : ℕ) (ds late : List ℕ)
      (done : Bool) (x : Ended) (went : Bool) → BaseFact S P (disks_by S log) l (Going aim m step (d ∷ ds) late done)
      → Between S P (behind_step S log d m step x went) l (Going aim m step (d ∷ ds) late done)
  step_between log l OfRound m step d ds late done x went base =
      round_call S log d m P l base.core ds late done base.goes step x went base.next
  step_between log l (OfSpare y) m step d ds late done x went base =
      spare_call S log d m P l base.core y ds late done base.goes step x went base.next

  -- the block fits the disk of the next call
  pub next_aimed : (log : List Call) (l : Ledger) (aim : Aim) (m : Laid) (step : Step) (d : ℕ) (ds late : List ℕ)
      (done : Bool) → BaseFact S P (disks_by S log) l (Going aim m step (d ∷ ds) late done) → IsAimedAt S log d m
  next_aimed log l OfRound m step d ds late done base = round_aimed S log d m P l base.core ds late done base.goes
  next_aimed log l (OfSpare y) m step d ds late done base = spare_aimed S log d m P l base.core y ds late done base.goes

  -- ANY CALL

  module _ (t : InTurn) (log : List Call) (c : Control) (base : Base S P log c) where
    -- the same with the phase written out, where a target is called
    pub target_base : (d : ℕ) (m : Laid) (step : Step) (target : AtTarget S c d m step)
        → BaseFact S P (disks_by S log) (ledger c.round)
        (Going target.aim m step (d ∷ target.left) target.late target.done)
    target_base d m step target = base_at (disks_by S log) (ledger c.round) c.round.phase _ target.is base

    pub target_between : (d : ℕ) (m : Laid) (step : Step) (x : Ended) (went : Bool) → AtTarget S c d m step
        → Between S P (behind_step S log d m step x went) (ledger c.round) c.round.phase
    target_between d m step x went target =
        subst (Between S P (behind_step S log d m step x went) (ledger c.round)) (sym target.is)
        (step_between log (ledger c.round) target.aim m step d target.left target.late target.done x went
        (target_base d m step target))

    pub base_after_call : {call : Option Call} {x : Ended} {a : Change} → Effect S t c call x a
        → BaseAfterCall S P (log_after log call) c
    base_after_call (quiet x a comes) = between_of (disks_by S log) (ledger c.round) c.round.phase base
    base_after_call (row d what x a may call went at) =
        between_of (after_call S.start.words S.start.disks log d what true) (ledger c.round) c.round.phase
        (base_row S P log d what true call (ledger c.round) c.round.phase base)
    base_after_call (row_fails d what x may call failed at) =
        between_of (after_call S.start.words S.start.disks log d what false) (ledger c.round) c.round.phase
        (base_row S P log d what false call (ledger c.round) c.round.phase base)
    base_after_call (steps d m step x target went) = target_between d m step x true target
    base_after_call (step_fails d m step x target failed) = target_between d m step x false target

  -- WHAT IT DOES TO BLOCKS

  narrows_none : (ks : ℕ → Disk) → Narrows S.start.words ks ks
  narrows_none ks = record {
    candidates = λ d a i. i;
    known = λ d. refl;
    some = λ d h. h;
    best = λ d. inl refl;
  }

  module _ (t : InTurn) (log : List Call) (c : Control) (base : Base S P log c) where
    does_row : (d : ℕ) (what : What) (went : Bool) → RowCall (S.start.disks.sectors d) what
        → CallDoes S c.round.phase (disks_by S log) (after_call S.start.words S.start.disks log d what went)
    does_row d what went call =
        narrows (narrows_row S.start.words S.start.disks log d what went call (base.core.known.account d))

    does_step : (d : ℕ) (m : Laid) (step : Step) (x : Ended) (went : Bool) → AtTarget S c d m step
        → CallDoes S c.round.phase (disks_by S log) (behind_step S log d m step x went)
    does_step d m step x went target = at step target
      where
        at : (step : Step) → AtTarget S c d m step
            → CallDoes S c.round.phase (disks_by S log) (behind_step S log d m step x went)
        at AtExtended target =
            let aimed = next_aimed log (ledger c.round) target.aim m AtExtended d target.left target.late target.done
            (target_base t log c base d m AtExtended target) in
            let stored = stored_of x (length m.extended) in
            narrows (narrows_extended S.start.words S.start.disks log d m aimed.room aimed.fits stored went)
        at AtAnchor target =
            let whole = target_base t log c base d m AtAnchor target in
            let aimed = next_aimed log (ledger c.round) target.aim m AtAnchor d target.left target.late target.done
            whole in
            brings target.aim m d target.left target.late target.done target.is
            (adds_anchor S.start.words S.start.disks log d m aimed.room aimed.fits (stored_of x 1) went
            whole.next.pending)
        at AtSync target = does_row d Sync went row_sync

    pub call_does : {call : Option Call} {x : Ended} {a : Change} → Effect S t c call x a
        → CallDoes S c.round.phase (disks_by S log) (disks_by S (log_after log call))
    call_does (quiet x a comes) = narrows (narrows_none (disks_by S log))
    call_does (row d what x a may call went at) = does_row d what true call
    call_does (row_fails d what x may call failed at) = does_row d what false call
    call_does (steps d m step x target went) = does_step d m step x true target
    call_does (step_fails d m step x target failed) = does_step d m step x false target
