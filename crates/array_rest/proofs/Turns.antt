-- What each turn is made of: changes that keep what holds within a turn, and at most one end of a round, which comes
-- last.
use Rattle.std.proofs.Common.{◌≡◌, ℕ, zero, suc, ◌==◌, Bool, true, false, List, [], ◌∷◌, map, refl, ap, sym, ◌∙◌, subst, Some, cond}
use Rattle.std.specs.Prelude.{slice_get}
use Rattle.array_model.specs.Blocks.{Laid}
use Rattle.array_machine.specs.Numbers.{without}
use Rattle.array_machine.specs.Setting.{Setting}
use Rattle.array_machine.specs.Volumes.{Volume}
use Rattle.array_machine.specs.Clients.{Job, NoJob, Submitted, Busy}
use Rattle.array_machine.specs.Rounds.{Life, Lives, Killed, Takes, Dead, lives, AtExtended, AtAnchor, AtSync, Aim, Phase, Rest, Going, Ending, GoesOn, Finishes, MakesSpare, Lapses, on_with, stepped, dropped, ending}
use Rattle.array_machine.specs.Managers.{AskState, IsUnposted, IsPosted, IsApplied, IsSettled}
use Rattle.array_machine.specs.Control.{Control}
use Rattle.array_machine.specs.Changes.{Change, StepsOn, RoundEnds, SpareEnds, RoundLapses, DiskFails}
use Rattle.array_machine.specs.Faults.{life_without, job_without}
use Rattle.array_machine.specs.Puts.{ask_ended, ask_killed, put, puts}
use Rattle.array_machine.specs.RoundEnds.{all_runs, volumes_ended, ended_by}
use Rattle.array_paths.specs.InTurn.{job_of}
use Rattle.array_paths.proofs.ClientPaths.{job_kept}
use Rattle.array_rest.specs.Between.{Kept, TurnIsOver, IsFine}
use Rattle.array_rest.proofs.Changes.{kept_change}
use Rattle.array_rest.proofs.RoundEnd.{runs_only, kept_round_end}

-- ASKS

none_ended : (asks : List AskState) (i : ℕ) → slice_get (map ask_ended asks) i ≡ Some IsApplied → ⊥
none_ended [] i is = cc is
none_ended (IsUnposted ∷ more) zero is = cc is
none_ended (IsPosted ∷ more) zero is = cc is
none_ended (IsApplied ∷ more) zero is = cc is
none_ended (IsSettled ∷ more) zero is = cc is
none_ended (a ∷ more) (suc i) is = none_ended more i is

pub none_killed : (asks : List AskState) (i : ℕ) → slice_get (map ask_killed asks) i ≡ Some IsApplied → ⊥
none_killed [] i is = cc is
none_killed (IsUnposted ∷ more) zero is = cc is
none_killed (IsPosted ∷ more) zero is = cc is
none_killed (IsApplied ∷ more) zero is = cc is
none_killed (IsSettled ∷ more) zero is = cc is
none_killed (a ∷ more) (suc i) is = none_killed more i is

-- PHASES

pub on_goes : (aim : Aim) (m : Laid) (left late : List ℕ) (done : Bool) → on_with aim m left late done ≡ Rest → ⊥
on_goes aim m [] late true is = cc is
on_goes aim m [] late false is = cc is
on_goes aim m (d ∷ ds) late done is = cc is

stepped_rest : (phase : Phase) → stepped phase ≡ Rest → phase ≡ Rest
stepped_rest Rest is = refl
stepped_rest (Going aim m step [] late done) is = absurd cc
stepped_rest (Going aim m AtExtended (d ∷ ds) late done) is = absurd cc
stepped_rest (Going aim m AtAnchor (d ∷ ds) late done) is = absurd cc
stepped_rest (Going aim m AtSync (d ∷ ds) late done) is = absurd (on_goes aim m ds late true is)

dropped_rest : (d : ℕ) (phase : Phase) → dropped d phase ≡ Rest → phase ≡ Rest
dropped_rest d Rest is = refl
dropped_rest d (Going aim m step [] late done) is = absurd cc
dropped_rest d (Going aim m step (e ∷ es) late done) is = at (e == d) is
  where
    at : (b : Bool)
        → cond b (on_with aim m (without d es) (without d late) done)
        (Going aim m step (e ∷ without d es) (without d late) done) ≡ Rest
        → Going aim m step (e ∷ es) late done ≡ Rest
    at true is = absurd (on_goes aim m (without d es) (without d late) done is)
    at false is = absurd cc

pub lives_without : (d : ℕ) (life : Life) → lives (life_without d life) ≡ lives life
lives_without d Lives = refl
lives_without d Killed = refl
lives_without d Dead = refl
lives_without d (Takes [] seen found) = refl
lives_without d (Takes (e ∷ es) seen found) = at (e == d)
  where
    at : (b : Bool)
        → lives (cond b (Takes (without d es) [] (without d found)) (Takes (e ∷ without d es) seen (without d found)))
        ≡ false
    at true = refl
    at false = refl

-- a failure leaves an operation that was just submitted as it is
same_submit : (S : Setting) (d : ℕ) (volumes : List Volume) (job : Job) (i : ℕ)
    → job_without S d volumes job ≡ Submitted i → job ≡ Submitted i
same_submit S d volumes NoJob i is = absurd cc
same_submit S d volumes (Submitted j) i is = is
same_submit S d volumes (Busy j r) i is = absurd cc

module _ (S : Setting) where
  -- WITHIN A TURN

  -- what holds where a turn may end, but for what goes on having a target
  pub record MayEnd (c : Control) : Type 0 where
    pub halted : lives c.round.life ≡ false → c.round.phase ≡ Rest
    pub submitted : (k i : ℕ) → job_of c k ≡ Submitted i → ⊥
    pub applied : c.round.phase ≡ Rest → (i : ℕ) → slice_get c.manager.asks i ≡ Some IsApplied → ⊥

  pub over_may : (c : Control) → TurnIsOver S c → MayEnd c
  over_may c over = record { halted = over.halted; submitted = over.submitted; applied = over.applied }

  pub fault_may : (c : Control) (d : ℕ) → MayEnd c → MayEnd (put S (DiskFails d) c)
  fault_may c d may = record {
    halted = λ dead.
        let rest = may.halted (sym (lives_without d c.round.life) ∙ dead) in
        ap (dropped d) rest;
    submitted = λ k i is.
        may.submitted k i (same_submit S d c.volumes (job_of c k) i (sym (job_kept S d c.volumes c.clients k) ∙ is));
    applied = λ rest. may.applied (dropped_rest d c.round.phase rest);
  }

  pub step_may : (c : Control) → MayEnd c → MayEnd (put S StepsOn c)
  step_may c may = record {
    halted = λ dead. ap stepped (may.halted dead);
    submitted = may.submitted;
    applied = λ rest. may.applied (stepped_rest c.round.phase rest);
  }

  -- TURNS

  -- a list of changes by which a turn goes on from a control state to its end
  pub data Turns : Control → List Change → Type 0 where
    over : {c : Control} → TurnIsOver S c → Turns c []
    next : {c : Control} {more : List Change} (a : Change) → IsFine S c a → Turns (put S a c) more → Turns c (a ∷ more)
    round_ends : {c : Control} (m : Laid) → ((k i : ℕ) → job_of c k ≡ Submitted i → ⊥)
        → Turns c (RoundEnds m ∷ all_runs (volumes_ended S c.round.faults c.round.last m 0 c.volumes))

  -- an ending, where one is found
  pub ended_turn : (c : Control) → MayEnd c → Turns c (ended_by S c (ending c.round.phase))
  ended_turn c may = at (ending c.round.phase) refl
    where
      at : (e : Ending) → ending c.round.phase ≡ e → Turns c (ended_by S c e)
      at GoesOn is = over (record {
        goes_on = is;
        halted = may.halted;
        submitted = may.submitted;
        applied = may.applied;
      })
      at (Finishes m) is = round_ends m may.submitted
      at (MakesSpare d) is = next (SpareEnds d) tt (over (record {
        goes_on = refl;
        halted = λ dead. refl;
        submitted = may.submitted;
        applied = λ rest. none_ended c.manager.asks;
      }))
      at Lapses is = next RoundLapses tt (over (record {
        goes_on = refl;
        halted = λ dead. refl;
        submitted = may.submitted;
        applied = λ rest. none_ended c.manager.asks;
      }))

  -- WHAT A TURN LEAVES

  pub record Leaves (c : Control) : Type 0 where
    pub kept : Kept S c
    pub over : TurnIsOver S c

  pub turn_leaves : (c : Control) (changes : List Change) → Turns c changes → Kept S c → Leaves (puts S changes c)
  turn_leaves c [] (over is) kept = record { kept = kept; over = is }
  turn_leaves c (a ∷ more) (next _ fine turns) kept = turn_leaves (put S a c) more turns (kept_change S c kept a fine)
  turn_leaves c (RoundEnds m ∷ _) (round_ends _ submitted) kept = record {
    kept = kept_round_end S c m kept;
    over = subst (TurnIsOver S)
        (sym (runs_only S (volumes_ended S c.round.faults c.round.last m 0 c.volumes) (put S (RoundEnds m) c)))
        (record {
          goes_on = refl;
          halted = λ dead. refl;
          submitted = submitted;
          applied = λ rest. none_ended c.manager.asks;
        });
  }
