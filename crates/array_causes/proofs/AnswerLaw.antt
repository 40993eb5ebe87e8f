-- The causes of answers, in each run.
use Rattle.std.proofs.Common.{◌≡◌, ℕ, Bool, true, false, List, [], ◌∷◌, ◌++◌, refl, sym, ◌∙◌, Option}
use Rattle.std.specs.Prelude.{⊤}
use Rattle.device_log.specs.Log.{Call, What}
use Rattle.array_model.specs.declared.journal.Entry.{Entry}
use Rattle.array_model.specs.declared.journal.Event.{Event}
use Rattle.array_model.specs.declared.journal.Answer.{Answer}
use Rattle.array_model.specs.declared.journal.Answer.TheVariants.{Done, Value, Past, Failed, NoSpare}
use Rattle.array_model.specs.Events.{AtEachFrom, has, is_any_fault}
use Rattle.array_model.proofs.Journals.{at_each_more, has-append}
use Rattle.array_machine.specs.Setting.{Setting}
use Rattle.array_machine.specs.States.{state_after}
use Rattle.array_machine.specs.Volumes.{Volume, volume_at}
use Rattle.array_machine.specs.Operations.{volume_of, is_write}
use Rattle.array_machine.specs.Clients.{Client}
use Rattle.array_machine.specs.Rounds.{Ended}
use Rattle.array_machine.specs.TakeoverTurns.{has_all}
use Rattle.array_machine.specs.Control.{Control}
use Rattle.array_machine.specs.Changes.{Change, RoundBegins, RoundEnds, SpareEnds, DiskFails, DiskUnblocks, StateGoes, ClientMoves, PassMoves, ManagerMoves, MonitorKilled, TakeoverStarts, ClientWord, IsSilent, Submits, Acknowledges, state_entry, pass_entry, update_entry, entry_of}
use Rattle.array_machine.specs.Puts.{put}
use Rattle.array_machine.specs.Machine.{World, begins_at, calls_after, entered, Reached}
use Rattle.array_paths.specs.InTurn.{InTurn, is_broken}
use Rattle.array_paths.specs.ClientMove.{ClientMove, submits, takes, is_past, starts, loses, answers, fails, is_whole, has_no_spare}
use Rattle.array_paths.specs.Comes.{Comes, client}
use Rattle.array_paths.specs.AtRows.{AtRows, by_client, by_pass, by_monitor, after_read}
use Rattle.array_paths.specs.Effects.{Effect, quiet, row, row_fails, steps, step_fails}
use Rattle.array_base.specs.Premises.{Premises}
use Rattle.array_base.specs.Opening.{Opening}
use Rattle.array_base.proofs.Targets.{or_first, or_second}
use Rattle.array_causes.specs.Links.{Link, Leans}
use Rattle.array_causes.specs.Answers.{FailsAfterFault, AnswerCause, AnswerCauses}
use Rattle.array_causes.proofs.Words.{each_state, each_pass, each_update, field_kept}
use Rattle.array_causes.proofs.ClientChains.{IsMet, met_need}
use Rattle.array_causes.proofs.Grounds.{FollowsGrounds, along_grounds}

-- an entry that stands in a journal stands in a longer one
pub has_later : (test : Event → Bool) (xs ys : List Entry) → has test xs ≡ true → has test (xs ++ ys) ≡ true
has_later test xs ys is = has-append test xs ys ∙ or_first (has test xs) (has test ys) is

pub has_now : (test : Event → Bool) (xs ys : List Entry) → has test ys ≡ true → has test (xs ++ ys) ≡ true
has_now test xs ys is = has-append test xs ys ∙ or_second (has test xs) (has test ys) is

module _ (S : Setting) where
  -- WHICH OPERATIONS FAIL

  abbrev FailsBroken : Control → ℕ → Answer → Type 0
  FailsBroken c i Failed = is_broken c (volume_of S i) ≡ true
  FailsBroken c i _ = ⊤

  abbrev WordBroken : Control → ClientWord → Type 0
  WordBroken c IsSilent = ⊤
  WordBroken c (Submits i) = ⊤
  WordBroken c (Acknowledges i answer) = FailsBroken c i answer

  abbrev ChangeBroken : Control → Change → Type 0
  ChangeBroken c (ClientMoves k new word) = WordBroken c word
  ChangeBroken c _ = ⊤

  needed_broken : (c : Control) (i : ℕ) (writes : Bool) (answer : Answer) → IsMet S writes answer
      → FailsBroken c i answer
  needed_broken c i writes Done met = tt
  needed_broken c i writes (Value x) met = tt
  needed_broken c i writes Past met = tt
  needed_broken c i true Failed met = absurd met
  needed_broken c i false Failed met = absurd met
  needed_broken c i writes NoSpare met = tt

  move_broken : (c : Control) (k : ℕ) (new : Client) (word : ClientWord) → ClientMove S c k new word
      → WordBroken c word
  move_broken c k _ _ (submits i rest left none) = tt
  move_broken c k _ _ (takes i rest left none reads fits ready_now) = tt
  move_broken c k _ _ (is_past i left l was nowhere names) = tt
  move_broken c k _ _ (starts i left l was writes fits writable) = tt
  move_broken c k _ _ (loses i r new left l was lost) = tt
  move_broken c k _ _ (answers i r answer left l needs) =
      needed_broken c i (is_write S i) answer (met_need S c i r false answer needs.is)
  move_broken c k _ _ (fails i r left l was broken) = broken
  move_broken c k _ _ (is_whole i r left l was kind sound whole) = tt
  move_broken c k _ _ (has_no_spare i r left l was kind sound whole lacks) = tt

  coming_broken : (t : InTurn) (c : Control) (a : Change) → Comes S t c a → ChangeBroken c a
  coming_broken t c _ (client k new word move) = move_broken c k new word move
  coming_broken t c a _ = tt

  rows_broken : (c : Control) (d : ℕ) (what : What) (x : Ended) (a : Change) → AtRows S c d what x a → ChangeBroken c a
  rows_broken c d _ _ _ (by_client k i r need what x call) = tt
  rows_broken c d _ _ _ (by_pass v p need what x call) = tt
  rows_broken c d _ _ _ (by_monitor left seen found x life) = at (has_all S (seen ++ x.got ∷ []))
    where
      at : (b : Bool) → ChangeBroken c (after_read S c d left (seen ++ x.got ∷ []) found b)
      at true = tt
      at false = tt

  effect_broken : (t : InTurn) (c : Control) (call : Option Call) (x : Ended) (a : Change) → Effect S t c call x a
      → ChangeBroken c a
  effect_broken t c _ _ _ (quiet x a comes) = coming_broken t c a comes
  effect_broken t c _ _ _ (row d what x a may call went why) = rows_broken c d what x a why
  effect_broken t c _ _ _ (row_fails d what x may call failed lost) = tt
  effect_broken t c _ _ _ (steps d m step x at went) = tt
  effect_broken t c _ _ _ (step_fails d m step x at failed) = tt

  -- WHAT A RUN KEEPS

  -- a volume is broken only where a disk failed; each answer so far has its cause
  record AnswersTold (w : World) : Type 0 where
    broken : (v : ℕ) → is_broken w.control v ≡ true → has is_any_fault w.journal ≡ true
    law : AnswerCauses S.start S.asked.ops w.journal

  pub broken_on : (c : Control) (a : Change) (n : ℕ) (journal : List Entry)
      → ((v : ℕ) → is_broken c v ≡ true → has is_any_fault journal ≡ true) → (v : ℕ) → is_broken (put S a c) v ≡ true
      → has is_any_fault (journal ++ entered n (entry_of S a)) ≡ true
  broken_on c (DiskFails d) n journal told v is =
      has_now is_any_fault journal (entered n (entry_of S (DiskFails d))) refl
  broken_on c (StateGoes u word) n journal told v is =
      has_later is_any_fault journal (entered n (state_entry u word))
      (told v (sym (field_kept (λ x. x.broken) c.volumes u (record (volume_at c.volumes u) { state = state_after word })
      refl v) ∙ is))
  broken_on c (PassMoves u slots pass word) n journal told v is =
      has_later is_any_fault journal (entered n (pass_entry u word))
      (told v (sym (field_kept (λ x. x.broken) c.volumes u
      (record (volume_at c.volumes u) { slots = slots; pass = pass }) refl v) ∙ is))
  broken_on c a n journal told v is = has_later is_any_fault journal (entered n (entry_of S a)) (told v is)

  module _ (n : ℕ) (journal : List Entry) where
    abbrev Entered : Option Event → Type 0
    Entered e = AtEachFrom (λ front e. AnswerCause S.start S.asked.ops front e.event) journal (entered n e)

    after_fault : (c : Control) (i : ℕ) (answer : Answer)
        → ((v : ℕ) → is_broken c v ≡ true → has is_any_fault journal ≡ true) → FailsBroken c i answer
        → FailsAfterFault journal answer
    after_fault c i Failed told broken = told (volume_of S i) broken
    after_fault c i Done told broken = tt
    after_fault c i (Value x) told broken = tt
    after_fault c i Past told broken = tt
    after_fault c i NoSpare told broken = tt

    change_has_cause : (begun c : Control) (link : Link) (a : Change) → Leans S begun link a → ChangeBroken c a
        → ((v : ℕ) → is_broken c v ≡ true → has is_any_fault journal ≡ true) → Entered (entry_of S a)
    change_has_cause begun c link (ClientMoves k new IsSilent) leans broken told = tt
    change_has_cause begun c link (ClientMoves k new (Submits i)) leans broken told = (tt, tt)
    change_has_cause begun c link (ClientMoves k new (Acknowledges i answer)) leans broken told =
        ((leans.1, after_fault c i answer told broken), tt)
    change_has_cause begun c link (StateGoes v word) leans broken told =
        each_state (λ word. Entered (state_entry v word)) (tt, tt) (tt, tt) (tt, tt) tt (tt, tt) (tt, tt) word
    change_has_cause begun c link (PassMoves v slots pass word) leans broken told =
        each_pass (λ word. Entered (pass_entry v word)) tt (λ row. (tt, tt)) (λ unit. (tt, tt)) (tt, tt) word
    change_has_cause begun c link (ManagerMoves new word) leans broken told =
        each_update (λ word. Entered (update_entry word)) tt (λ u. (tt, tt)) (λ u. (tt, tt)) (λ u kind. (tt, tt)) word
    change_has_cause begun c link (RoundBegins m) leans broken told = (tt, tt)
    change_has_cause begun c link (RoundEnds m) leans broken told = (tt, tt)
    change_has_cause begun c link (SpareEnds d) leans broken told = (tt, tt)
    change_has_cause begun c link (DiskFails d) leans broken told = (tt, tt)
    change_has_cause begun c link (DiskUnblocks d) leans broken told = (tt, tt)
    change_has_cause begun c link MonitorKilled leans broken told = (tt, tt)
    change_has_cause begun c link (TakeoverStarts left) leans broken told = (tt, tt)
    change_has_cause begun c link _ leans broken told = tt

  pub answers_have_causes : (P : Premises S) (volumes : List Volume) (spares : List ℕ) → Opening S P volumes spares
      → (w : World) → Reached S volumes spares w → AnswerCauses S.start S.asked.ops w.journal
  answers_have_causes P volumes spares o w run =
      let found = along_grounds S P volumes spares o (λ t link w. AnswersTold w) follows w run in found.2.law
    where
      opened : (v : ℕ) → is_broken (begins_at S volumes spares).control v ≡ true → has is_any_fault [] ≡ true
      opened v is = absurd (let sound = (o.volumes_are v).sound in cc (sound, is))

      follows : FollowsGrounds S P volumes spares (λ t link w. AnswersTold w)
      follows = record {
        opens = record { broken = opened; law = tt };
        begins = λ t link w who settled had. had;
        step = λ t link w call x a over before behind had. record {
          broken = broken_on w.control a (calls_after w.calls call) w.journal had.broken;
          law = at_each_more _ w.journal (entered (calls_after w.calls call) (entry_of S a)) had.law
              (change_has_cause (calls_after w.calls call) w.journal t.before w.control link a over.leans
              (effect_broken t w.control call x a over.effect) had.broken);
        };
      }
