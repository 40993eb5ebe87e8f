-- What goes on is a living monitor's, through each effect.
use Rattle.std.proofs.Common.{◌≡◌, ℕ, Bool, true, false, List, [], ◌∷◌, ◌++◌, refl, ap, sym, ◌∙◌, subst, Option}
use Rattle.units.specs.declared.disk.Sector.{Sector}
use Rattle.device_log.specs.Log.{Call, What}
use Rattle.array_machine.specs.Setting.{Setting}
use Rattle.array_machine.specs.Rounds.{Ended, Rest, Life, Lives, Takes, dropped, stepped}
use Rattle.array_machine.specs.Faults.{life_without}
use Rattle.array_machine.specs.Control.{Control}
use Rattle.array_machine.specs.Changes.{Change, DiskFails}
use Rattle.array_machine.specs.Puts.{put}
use Rattle.array_machine.specs.TakeoverTurns.{has_all}
use Rattle.array_paths.specs.InTurn.{InTurn}
use Rattle.array_paths.specs.Comes.{IsTaking, Comes, begins, begins_spare, ends, ends_spare, lapses, fails, unblocks, readies, pends, activates, again, idles, cleans, client, pass, manages, kills, takes_over, resumes, dies}
use Rattle.array_paths.specs.AtRows.{AtRows, by_client, by_pass, by_monitor, after_read}
use Rattle.array_paths.specs.Effects.{Effect, quiet, row, row_fails, steps, step_fails}
use Rattle.array_units.specs.Counted.{LivesOn}

-- a monitor that lives doesn't take over
pub not_taking : (life : Life) → IsTaking life → life ≡ Lives → ⊥
not_taking life taking is = subst IsTaking is taking

pub not_reading : (life : Life) (left : List ℕ) (seen : List Sector) (found : List ℕ) → life ≡ Takes left seen found
    → life ≡ Lives → ⊥
not_reading life left seen found is lives = cc (is, lives)

module _ (S : Setting) (c : Control) (had : LivesOn S c) where
  lives_so : (new : Control) → c.round.life ≡ Lives → new.round.life ≡ c.round.life → LivesOn S new
  lives_so new lives same = record { going = λ on. same ∙ lives; ended = λ is. same ∙ lives }

  lives_same : (new : Control) → new.round.phase ≡ c.round.phase → new.round.ended ≡ c.round.ended
      → new.round.life ≡ c.round.life → LivesOn S new
  lives_same new phase ended life = record {
    going = λ on. life ∙ had.going (λ rest. on (phase ∙ rest));
    ended = λ is. life ∙ had.ended (sym ended ∙ is);
  }

  -- where nothing goes on any more
  lives_rest : (new : Control) → new.round.phase ≡ Rest → new.round.ended ≡ c.round.ended
      → new.round.life ≡ c.round.life → LivesOn S new
  lives_rest new rest ended life = record {
    going = λ on. absurd (on rest);
    ended = λ is. life ∙ had.ended (sym ended ∙ is);
  }

  -- where it was taking over nothing went on and no round had ended
  lives_none : (new : Control) → (c.round.life ≡ Lives → ⊥) → new.round.phase ≡ c.round.phase
      → new.round.ended ≡ c.round.ended → LivesOn S new
  lives_none new dead phase ended = record {
    going = λ on. absurd (dead (had.going (λ rest. on (phase ∙ rest))));
    ended = λ is. absurd (dead (had.ended (sym ended ∙ is)));
  }

  lives_fault : (d : ℕ) → LivesOn S (put S (DiskFails d) c)
  lives_fault d = record {
    going = λ on. ap (life_without d) (had.going (λ rest. on (ap (dropped d) rest)));
    ended = λ is. ap (life_without d) (had.ended is);
  }

  lives_comes : (t : InTurn) (a : Change) → Comes S t c a → LivesOn S (put S a c)
  lives_comes t a (begins m life rest target next) = lives_so (put S a c) life refl
  lives_comes t a (begins_spare d m life rest target may is unlisted room) = lives_so (put S a c) life refl
  lives_comes t a (ends m step is) =
      lives_so (put S a c) (had.going (λ rest. cc (is, rest))) refl
  lives_comes t a (ends_spare d m step is) = lives_rest (put S a c) refl refl refl
  lives_comes t a (lapses aim m step late is) = lives_rest (put S a c) refl refl refl
  lives_comes t _ (fails d who may) = lives_fault d
  lives_comes t a (kills who awake) = record { going = λ on. absurd (on refl); ended = λ is. absurd (cc is) }
  lives_comes t a (takes_over who life) = lives_none (put S a c) (λ lives. cc (life, lives)) refl refl
  lives_comes t a (resumes d taking young) = record { going = λ on. refl; ended = λ is. refl }
  lives_comes t a (dies taking) = lives_none (put S a c) (not_taking c.round.life taking) refl refl
  lives_comes t a (unblocks d rest blocked ended unexpected) = lives_same (put S a c) refl refl refl
  lives_comes t a (readies v started state rest ended) = lives_same (put S a c) refl refl refl
  lives_comes t a (pends v sound state submitted) = lives_same (put S a c) refl refl refl
  lives_comes t a (activates v runs state rest ended dirty) = lives_same (put S a c) refl refl refl
  lives_comes t a (again v sound state submitted) = lives_same (put S a c) refl refl refl
  lives_comes t a (idles v who runs state none) = lives_same (put S a c) refl refl refl
  lives_comes t a (cleans v runs state rest) = lives_same (put S a c) refl refl refl
  lives_comes t a (client k new word move) = lives_same (put S a c) refl refl refl
  lives_comes t a (pass v slots new word move) = lives_same (put S a c) refl refl refl
  lives_comes t a (manages new word move) = lives_same (put S a c) refl refl refl

  lives_read : (d : ℕ) (left : List ℕ) (seen : List Sector) (found : List ℕ) (all : Bool)
      → (c.round.life ≡ Lives → ⊥) → LivesOn S (put S (after_read S c d left seen found all) c)
  lives_read d left seen found true dead =
      lives_none (put S (after_read S c d left seen found true) c) dead refl refl
  lives_read d left seen found false dead =
      lives_none (put S (after_read S c d left seen found false) c) dead refl refl

  lives_rows : (d : ℕ) (what : What) (x : Ended) (a : Change) → AtRows S c d what x a → LivesOn S (put S a c)
  lives_rows d _ x a (by_client k i r need _ _ call) = lives_same (put S a c) refl refl refl
  lives_rows d _ x a (by_pass v p need _ _ call) = lives_same (put S a c) refl refl refl
  lives_rows d _ x _ (by_monitor left seen found _ life) =
      lives_read d left (seen ++ x.got ∷ []) found (has_all S (seen ++ x.got ∷ []))
      (not_reading c.round.life (d ∷ left) seen found life)

  pub lives_effect : (t : InTurn) {call : Option Call} {x : Ended} {a : Change} → Effect S t c call x a
      → LivesOn S (put S a c)
  lives_effect t (quiet x a comes) = lives_comes t a comes
  lives_effect t (row d what x a may calls went at) = lives_rows d what x a at
  lives_effect t (row_fails d what x may calls failed lost) = lives_fault d
  lives_effect t (steps d m step x target went) = record {
    going = λ on. had.going (λ rest. on (ap stepped rest));
    ended = λ is. had.ended is;
  }
  lives_effect t (step_fails d m step x target failed) = lives_fault d
