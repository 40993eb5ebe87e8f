-- Each effect keeps failures: those that no finished round says are blocked.
use Rattle.std.proofs.Common.{◌≡◌, ℕ, Bool, true, false, List, [], ◌∷◌, ◌++◌, refl, sym, ◌∙◌, subst, Option}
use Rattle.units.specs.declared.disk.Sector.{Sector}
use Rattle.device_log.specs.Log.{Call, What}
use Rattle.array_model.specs.Blocks.{Laid}
use Rattle.array_model.specs.Candidates.{Disk}
use Rattle.array_machine.specs.Setting.{Setting}
use Rattle.array_machine.specs.Rounds.{Ended, OfSpare, Lives, Killed, Takes}
use Rattle.array_machine.specs.Control.{Control}
use Rattle.array_machine.specs.Changes.{Change, StepsOn, SpareBegins}
use Rattle.array_machine.specs.Puts.{put}
use Rattle.array_machine.specs.TakeoverTurns.{has_all}
use Rattle.array_paths.specs.InTurn.{InTurn}
use Rattle.array_paths.specs.Comes.{Comes, begins, begins_spare, ends, ends_spare, lapses, fails, unblocks, readies, pends, activates, again, idles, cleans, client, pass, manages, kills, takes_over, resumes, dies}
use Rattle.array_paths.specs.AtRows.{AtRows, by_client, by_pass, by_monitor, after_read}
use Rattle.array_paths.specs.Effects.{Effect, quiet, row, row_fails, steps, step_fails}
use Rattle.array_base.specs.Premises.{Premises}
use Rattle.array_base.specs.Base.{ledger, Between}
use Rattle.array_gate.proofs.Dirty.{in_on_with, in_stepped}
use Rattle.array_failures.specs.Members.{LastLeads}
use Rattle.array_failures.specs.Recorded.{BlocksOrSaysIf, FailuresAreKept}
use Rattle.array_failures.proofs.Blocked.{living_on, living_stepped, at_rest, taking_dead, kept_fault, kept_rest, kept_begin, kept_end, kept_unblock, kept_same}

module _ (S : Setting) (P : Premises S) (ks : ℕ → Disk) (c : Control)
    (b : Between S P ks (ledger c.round) c.round.phase)
    (leads : LastLeads S ks c) (k : FailuresAreKept S c) where
  kept_spare : (d : ℕ) (m : Laid) → c.round.life ≡ Lives → FailuresAreKept S (put S (SpareBegins d m) c)
  kept_spare d m life = record {
    there = k.there;
    last = k.last;
    going = subst (BlocksOrSaysIf S (put S (SpareBegins d m) c).round)
        (sym (in_on_with (OfSpare d) m (d ∷ []) [] false)) tt;
    living = living_on c.round.life (OfSpare d) m (d ∷ []) [] false life;
  }

  kept_step : FailuresAreKept S (put S StepsOn c)
  kept_step = record {
    there = k.there;
    last = k.last;
    going = subst (BlocksOrSaysIf S c.round) (sym (in_stepped c.round.phase)) k.going;
    living = living_stepped c.round.life c.round.phase k.living;
  }

  -- while the monitor doesn't live nothing goes on
  kept_dead : (new : Control) → new.round.faults ≡ c.round.faults → new.round.blocked ≡ c.round.blocked
      → new.round.last ≡ c.round.last → new.round.phase ≡ c.round.phase → (c.round.life ≡ Lives → ⊥)
      → FailuresAreKept S new
  kept_dead new faults blocked last phase dead =
      kept_rest S P ks c k new faults blocked last
      (phase ∙ at_rest c.round.life c.round.phase k.living dead)

  kept_comes : (t : InTurn) (a : Change) → Comes S t c a → FailuresAreKept S (put S a c)
  kept_comes t _ (begins m life rest target next) = kept_begin S P ks c k t m life next b
  kept_comes t _ (begins_spare d m life rest target may is unlisted room) = kept_spare d m life
  kept_comes t _ (ends m step is) = kept_end S P ks c k m step is
  kept_comes t a (ends_spare d m step is) = kept_rest S P ks c k (put S a c) refl refl refl refl
  kept_comes t a (lapses aim m step late is) = kept_rest S P ks c k (put S a c) refl refl refl refl
  kept_comes t _ (fails d who may) = kept_fault S P ks c d may b leads k
  kept_comes t a (kills who awake) = kept_rest S P ks c k (put S a c) refl refl refl refl
  kept_comes t a (resumes d taking young) = kept_rest S P ks c k (put S a c) refl refl refl refl
  kept_comes t _ (unblocks d rest blocked ended unexpected) = kept_unblock S P ks c k d rest unexpected
  kept_comes t a (takes_over who life) =
      kept_dead (put S a c) refl refl refl refl (λ alive. let no : Killed ≡ Lives = sym life ∙ alive in cc no)
  kept_comes t a (dies taking) = kept_dead (put S a c) refl refl refl refl (taking_dead c.round.life taking)
  kept_comes t a (readies v started state rest ended) = kept_same S P ks c k (put S a c) refl refl refl refl refl
  kept_comes t a (pends v sound state submitted) = kept_same S P ks c k (put S a c) refl refl refl refl refl
  kept_comes t a (activates v runs state rest ended dirty) = kept_same S P ks c k (put S a c) refl refl refl refl refl
  kept_comes t a (again v sound state submitted) = kept_same S P ks c k (put S a c) refl refl refl refl refl
  kept_comes t a (idles v who runs state none) = kept_same S P ks c k (put S a c) refl refl refl refl refl
  kept_comes t a (cleans v runs state rest) = kept_same S P ks c k (put S a c) refl refl refl refl refl
  kept_comes t a (client j new word move) = kept_same S P ks c k (put S a c) refl refl refl refl refl
  kept_comes t a (pass v slots new word move) = kept_same S P ks c k (put S a c) refl refl refl refl refl
  kept_comes t a (manages new word move) = kept_same S P ks c k (put S a c) refl refl refl refl refl

  kept_read : (d : ℕ) (left : List ℕ) (seen : List Sector) (found : List ℕ) (all : Bool) → (c.round.life ≡ Lives → ⊥)
      → FailuresAreKept S (put S (after_read S c d left seen found all) c)
  kept_read d left seen found true dead =
      kept_dead (put S (after_read S c d left seen found true) c) refl refl refl refl dead
  kept_read d left seen found false dead =
      kept_dead (put S (after_read S c d left seen found false) c) refl refl refl refl dead

  kept_rows : (d : ℕ) (what : What) (x : Ended) (a : Change) → AtRows S c d what x a → FailuresAreKept S (put S a c)
  kept_rows d _ x a (by_client j i r need _ _ call) = kept_same S P ks c k (put S a c) refl refl refl refl refl
  kept_rows d _ x a (by_pass v p need _ _ call) = kept_same S P ks c k (put S a c) refl refl refl refl refl
  kept_rows d _ x _ (by_monitor left seen found _ life) =
      kept_read d left (seen ++ x.got ∷ []) found (has_all S (seen ++ x.got ∷ []))
      (λ alive. let bad : Takes (d ∷ left) seen found ≡ Lives = sym life ∙ alive in cc bad)

  -- any effect, once its call was made
  pub kept_change : (t : InTurn) {call : Option Call} {x : Ended} {a : Change} → Effect S t c call x a
      → FailuresAreKept S (put S a c)
  kept_change t (quiet x a comes) = kept_comes t a comes
  kept_change t (row d what x a may calls went at) = kept_rows d what x a at
  kept_change t (row_fails d what x may calls failed lost) = kept_fault S P ks c d may b leads k
  kept_change t (steps d m step x target went) = kept_step
  kept_change t (step_fails d m step x target failed) = kept_fault S P ks c d target.may b leads k
