-- Each effect says of the operations of a client what the order asks for.
use Rattle.std.proofs.Common.{◌≡◌, ℕ, Bool, true, false, [], ◌∷◌, ◌++◌, refl, ap, sym, ◌∙◌, Option, Some}
use Rattle.device_log.specs.Log.{Call, What}
use Rattle.array_machine.specs.Setting.{Setting}
use Rattle.array_machine.specs.Clients.{Job, Busy, Row, Client, client_at}
use Rattle.array_machine.specs.RowJobs.{Need}
use Rattle.array_machine.specs.Rounds.{Ended}
use Rattle.array_machine.specs.Control.{Control}
use Rattle.array_machine.specs.Changes.{Change, ClientWord}
use Rattle.array_machine.specs.TakeoverTurns.{has_all}
use Rattle.array_paths.specs.InTurn.{InTurn, job_of}
use Rattle.array_paths.specs.ClientMove.{ClientMove, submits, takes, is_past, starts, loses, answers, fails, is_whole, has_no_spare, ClientCall, reads, writes, syncs}
use Rattle.array_paths.specs.Comes.{Comes, begins, begins_spare, ends, ends_spare, lapses, fails as disk_fails, unblocks, readies, pends, activates, again, idles, cleans, client, pass, manages, kills, takes_over, resumes, dies}
use Rattle.array_paths.specs.AtRows.{AtRows, by_client, by_pass, by_monitor, after_read}
use Rattle.array_paths.specs.Effects.{Effect, quiet, row, row_fails, steps, step_fails}
use Rattle.array_order.specs.ClientSteps.{op_in, StepsTo, ClientSteps}

module _ (S : Setting) where
  at_op : (job job' : Job) (i : ℕ) → job ≡ job' → op_in job' ≡ Some i → op_in job ≡ Some i
  at_op job job' i is h = ap op_in is ∙ h

  step_of_move : (c : Control) (k : ℕ) (new : Client) (word : ClientWord) → ClientMove S c k new word
      → StepsTo (client_at c.clients k) new word
  step_of_move c k _ _ (submits i rest left none) = record { was = none; left = left; is = refl }
  step_of_move c k _ _ (takes i rest left none no_write fits ready_now) = record { was = none; left = left; is = refl }
  step_of_move c k _ _ (is_past i left l was none names) = record { left = sym l; was = ap op_in was; is = refl }
  step_of_move c k _ _ (starts i left l was w fits writable) =
      record { op = i; left = sym l; was = ap op_in was; is = refl }
  step_of_move c k _ _ (loses i r new left l was lost) = record { op = i; left = sym l; was = ap op_in was; is = refl }
  step_of_move c k _ _ (answers i r answer left l needs) = record { left = sym l; was = ap op_in needs.has; is = refl }
  step_of_move c k _ _ (fails i r left l was broken) = record { left = sym l; was = ap op_in was; is = refl }
  step_of_move c k _ _ (is_whole i r left l was kind sound whole) =
      record { left = sym l; was = ap op_in was; is = refl }
  step_of_move c k _ _ (has_no_spare i r left l was kind sound whole none) =
      record { left = sym l; was = ap op_in was; is = refl }

  had_of : (c : Control) (k d i : ℕ) (r : Row) (need : Need) (what : What) (n : ℕ) → ClientCall S c k d i r need what n
      → job_of c k ≡ Busy i r
  had_of c k d _ _ _ _ _ (reads i r s n needs source) = needs.has
  had_of c k d _ _ _ _ _ (writes i r s n needs disk) = needs.has
  had_of c k d _ _ _ _ _ (syncs i r s n needs disk) = needs.has

  step_at_rows : (c : Control) (d : ℕ) (what : What) (x : Ended) (a : Change) → AtRows S c d what x a → ClientSteps c a
  step_at_rows c d _ _ _ (by_client k i r need what x call) =
      record { op = i; left = refl; was = ap op_in (had_of c k d i r need what 1 call); is = refl }
  step_at_rows c d _ _ _ (by_pass v p need what x call) = tt
  step_at_rows c d _ _ _ (by_monitor left seen found x life) = at (has_all S (seen ++ x.got ∷ []))
    where
      at : (b : Bool) → ClientSteps c (after_read S c d left (seen ++ x.got ∷ []) found b)
      at true = tt
      at false = tt

  step_of_coming : (t : InTurn) (c : Control) (a : Change) → Comes S t c a → ClientSteps c a
  step_of_coming t c _ (client k new word move) = step_of_move c k new word move
  step_of_coming t c _ (begins m life rest target next) = tt
  step_of_coming t c _ (begins_spare d m life rest target may is record_ large) = tt
  step_of_coming t c _ (ends m step is) = tt
  step_of_coming t c _ (ends_spare d m step is) = tt
  step_of_coming t c _ (lapses aim m step late is) = tt
  step_of_coming t c _ (disk_fails d who may) = tt
  step_of_coming t c _ (unblocks d rest blocked ended told) = tt
  step_of_coming t c _ (readies v started state rest ended) = tt
  step_of_coming t c _ (pends v sound state has) = tt
  step_of_coming t c _ (activates v runs state rest ended dirty) = tt
  step_of_coming t c _ (again v sound state has) = tt
  step_of_coming t c _ (idles v who runs state none) = tt
  step_of_coming t c _ (cleans v runs state rest) = tt
  step_of_coming t c _ (pass v slots new word move) = tt
  step_of_coming t c _ (manages new word move) = tt
  step_of_coming t c _ (kills who awake) = tt
  step_of_coming t c _ (takes_over who killed) = tt
  step_of_coming t c _ (resumes d taking high) = tt
  step_of_coming t c _ (dies taking) = tt

  pub step_of : (t : InTurn) (c : Control) (call : Option Call) (x : Ended) (a : Change) → Effect S t c call x a
      → ClientSteps c a
  step_of t c _ _ _ (quiet x a comes) = step_of_coming t c a comes
  step_of t c _ _ _ (row d what x a may call went why) = step_at_rows c d what x a why
  step_of t c _ _ _ (row_fails d what x may call failed lost) = tt
  step_of t c _ _ _ (steps d m step x at went) = tt
  step_of t c _ _ _ (step_fails d m step x at failed) = tt
