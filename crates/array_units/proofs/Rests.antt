-- What a change rests on by the change right before it, through each effect.
use Rattle.std.proofs.Common.{◌≡◌, ℕ, ◌&&◌, nat_lt, Bool, true, false, List, [], ◌∷◌, ◌++◌, is_some, refl, ap, sym, ◌∙◌, subst, Option, Some, None, ◌⊎◌, inl, inr}
use Rattle.units.specs.declared.disk.Sector.{Sector}
use Rattle.device_log.specs.Log.{Call, What}
use Rattle.array_model.specs.declared.journal.Entry.{Entry}
use Rattle.array_model.specs.FailureLaw.{pass_from}
use Rattle.array_machine.specs.Setting.{Setting}
use Rattle.array_machine.specs.Volumes.{Slot, Pass}
use Rattle.array_machine.specs.Rounds.{Ended}
use Rattle.array_machine.specs.Control.{Control}
use Rattle.array_machine.specs.Changes.{Change, RoundEnds, DiskFails, PassMoves, ManagerMoves, PassWord, GoesOnQuietly, OpensAt, Reaches, Closes, Applies, entry_of}
use Rattle.array_machine.specs.Puts.{put}
use Rattle.array_machine.specs.Machine.{calls_after, entered}
use Rattle.array_machine.specs.TakeoverTurns.{has_all}
use Rattle.array_paths.specs.InTurn.{InTurn}
use Rattle.array_paths.specs.Comes.{Comes, begins, begins_spare, ends, ends_spare, lapses, fails, unblocks, readies, pends, activates, again, idles, cleans, client, pass, manages, kills, takes_over, resumes, dies}
use Rattle.array_paths.specs.AtRows.{AtRows, by_client, by_pass, by_monitor, after_read}
use Rattle.array_paths.specs.Effects.{Effect, quiet, row, row_fails, steps, step_fails}
use Rattle.array_form.specs.Behind.{is_loud, awaits, Behind, PassBehind}
use Rattle.array_units.specs.Rests.{rests_behind, AtRest, NoneCount, FaultsStay}
use Rattle.array_units.proofs.Along.{IsFirst}
use Rattle.array_units.proofs.Journal.{since_reset, since_or}

and_first : (a b : Bool) → (a && b) ≡ true → a ≡ true
and_first true b h = refl
and_first false b h = cc h

pub awaits_rests : (v : ℕ) (prev : Option Change) → awaits v prev ≡ true → rests_behind prev ≡ true
awaits_rests v (Some (RoundEnds m)) h = refl
awaits_rests v (Some (PassMoves w slots new word)) h = and_first (is_loud word) (nat_lt w v) h
awaits_rests v _ h = absurd (cc h)

module _ (S : Setting) where
  -- AT REST

  -- a pass is told of only where nothing goes on
  pub loud_rests : (b c : Control) (prev : Option Change) (v : ℕ) (slots : List Slot) (new : Option Pass)
      (word : PassWord) → PassBehind S b c prev v slots new word → is_loud word ≡ true → rests_behind prev ≡ true
  loud_rests b c prev v slots new GoesOnQuietly behind loud = absurd (cc loud)
  loud_rests b c prev v slots new (OpensAt first) (inl ready) loud = ap rests_behind ready.behind
  loud_rests b c prev v slots new (OpensAt first) (inr seated) loud = awaits_rests v prev seated.behind
  loud_rests b c prev v slots new (Reaches unit) behind loud = awaits_rests v prev behind.ends.behind
  loud_rests b c prev v slots new Closes behind loud = awaits_rests v prev behind.ends.behind

  module _ (t : InTurn) (c : Control) (prev : Option Change) (more : List Change) where
    rests_comes : (a : Change) → Comes S t c a → Behind S t.before c prev more a → AtRest prev c
        → AtRest (Some a) (put S a c)
    rests_comes _ (ends m step is) behind had h = (refl, refl)
    rests_comes _ (readies v started state rest ended) behind had h = (ended, rest)
    rests_comes _ (pass v slots new word move) behind had h =
        had (loud_rests t.before c prev v slots new word behind h)
    rests_comes _ (fails d who may) behind had h = absurd (cc h)
    rests_comes _ (pends v sound state submitted) behind had h = absurd (cc h)
    rests_comes _ (activates v runs state rest ended dirty) behind had h = absurd (cc h)
    rests_comes _ (again v sound state submitted) behind had h = absurd (cc h)
    rests_comes _ (idles v who runs state none) behind had h = absurd (cc h)
    rests_comes _ (cleans v runs state rest) behind had h = absurd (cc h)
    rests_comes _ (begins m life rest target next) behind had h = absurd (cc h)
    rests_comes _ (begins_spare d m life rest target may is unlisted room) behind had h = absurd (cc h)
    rests_comes _ (ends_spare d m step is) behind had h = absurd (cc h)
    rests_comes _ (lapses aim m step late is) behind had h = absurd (cc h)
    rests_comes _ (unblocks d rest blocked ended unexpected) behind had h = absurd (cc h)
    rests_comes _ (client k new word move) behind had h = absurd (cc h)
    rests_comes _ (manages new word move) behind had h = absurd (cc h)
    rests_comes _ (kills who awake) behind had h = absurd (cc h)
    rests_comes _ (takes_over who life) behind had h = absurd (cc h)
    rests_comes _ (resumes d taking young) behind had h = absurd (cc h)
    rests_comes _ (dies taking) behind had h = absurd (cc h)

    rests_read : (d : ℕ) (left : List ℕ) (seen : List Sector) (found : List ℕ) (all : Bool)
        → AtRest (Some (after_read S c d left seen found all)) (put S (after_read S c d left seen found all) c)
    rests_read d left seen found true h = absurd (cc h)
    rests_read d left seen found false h = absurd (cc h)

    rests_rows : (d : ℕ) (what : What) (x : Ended) (a : Change) → AtRows S c d what x a → AtRest (Some a) (put S a c)
    rests_rows d _ x _ (by_client k i r need _ _ call) h = absurd (cc h)
    rests_rows d _ x _ (by_pass v p need _ _ call) h = absurd (cc h)
    rests_rows d _ x _ (by_monitor left seen found _ life) h =
        rests_read d left (seen ++ x.got ∷ []) found (has_all S (seen ++ x.got ∷ [])) h

    pub rests_effect : {call : Option Call} {x : Ended} {a : Change} → Effect S t c call x a
        → Behind S t.before c prev more a → AtRest prev c → AtRest (Some a) (put S a c)
    rests_effect (quiet x a comes) behind had = rests_comes a comes behind had
    rests_effect (row d what x a may calls went at) behind had = rests_rows d what x a at
    rests_effect (row_fails d what x may calls failed lost) behind had = λ h. absurd (cc h)
    rests_effect (steps d m step x target went) behind had = λ h. absurd (cc h)
    rests_effect (step_fails d m step x target failed) behind had = λ h. absurd (cc h)

  -- UPDATES AND FAILURES

  pub none_count : (a : Change) (stamp : ℕ) (journal : List Entry)
      → NoneCount (Some a) (journal ++ entered stamp (entry_of S a))
  none_count (ManagerMoves manager (Applies n)) stamp journal =
      λ v. since_reset S v 0 journal stamp (ManagerMoves manager (Applies n)) tt
  none_count _ stamp journal = tt

  faults_or : (c : Control) (a : Change) → ((d : ℕ) × (a ≡ DiskFails d)) ⊎ ((put S a c).round.faults ≡ c.round.faults)
  faults_or c (DiskFails d) = inl (d, refl)
  faults_or c _ = inr refl

  pub faults_effect : (t : InTurn) (c : Control) (prev : Option Change) (call : Option Call) (a : Change) (calls : ℕ)
      (journal : List Entry) → IsFirst prev call → FaultsStay t prev c calls journal
      → FaultsStay t (Some a) (put S a c) (calls_after calls call)
      (journal ++ entered (calls_after calls call) (entry_of S a))
  faults_effect t c prev call a calls journal first had = elim (faults_or c a) [
    | inl lost ↦
        inr (
          refl,
          λ v n is.
              absurd (let none : pass_from v None (journal ++ entered (calls_after calls call) (entry_of S a)) ≡ None =
              subst
              (λ (b : Change). pass_from v None (journal ++ entered (calls_after calls call) (entry_of S b)) ≡ None)
              (sym lost.1) (since_reset S v n journal (calls_after calls call) (DiskFails lost.0) tt) in cc (none, is)),
        )
    | inr same ↦ elim had [
      | inl stay ↦ inl (same ∙ stay)
      | inr fresh ↦ inr (refl, later prev call first fresh)
    ]
  ]
    where
      later : (prev : Option Change) (call : Option Call) → IsFirst prev call
          → (is_some prev ≡ true) × ((v n : ℕ) → pass_from v None journal ≡ Some n → n ≡ calls) → (v n : ℕ)
          → pass_from v None (journal ++ entered (calls_after calls call) (entry_of S a)) ≡ Some n
          → n ≡ calls_after calls call
      later None call first fresh v n is = absurd (let none = fresh.0 in cc none)
      later (Some b) (Some k) first fresh v n is = absurd first
      later (Some b) None first fresh v n is = elim (since_or S v n journal calls a is) [
        | inl now ↦ now
        | inr old ↦ fresh.1 v n old
      ]
