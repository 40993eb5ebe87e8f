-- Each disk that is let go is recorded as failed, in each run.
use Rattle.std.proofs.Common.{◌≡◌, ℕ, Bool, true, false, List, [], ◌∷◌, ◌++◌, take, refl, ap, sym, ◌∙◌, subst, arith, Option, Some, None}
use Rattle.std.specs.Prelude.{⊤}
use Rattle.std.proofs.lemmas.List.{take_all}
use Rattle.device_log.specs.Log.{Call, What}
use Rattle.array_model.specs.declared.journal.Entry.{Entry}
use Rattle.array_model.specs.declared.journal.Event.{Event}
use Rattle.array_model.specs.Events.{AtEachFrom}
use Rattle.array_model.specs.Blocks.{Laid}
use Rattle.array_model.specs.Moments.{AllBelow}
use Rattle.array_model.specs.Rounds.{IsFinished}
use Rattle.array_model.proofs.Journals.{at_each_more}
use Rattle.array_machine.specs.Setting.{Setting}
use Rattle.array_machine.specs.Volumes.{Volume}
use Rattle.array_machine.specs.Rounds.{Ended, expects}
use Rattle.array_machine.specs.TakeoverTurns.{has_all}
use Rattle.array_machine.specs.Control.{Control}
use Rattle.array_machine.specs.Changes.{Change, RoundBegins, RoundEnds, SpareEnds, DiskFails, DiskUnblocks, StateGoes, ClientMoves, PassMoves, ManagerMoves, MonitorKilled, TakeoverStarts, state_entry, client_entry, pass_entry, update_entry, entry_of}
use Rattle.array_machine.specs.Machine.{World, calls_after, log_after, entered, Reached}
use Rattle.array_paths.specs.InTurn.{InTurn}
use Rattle.array_paths.specs.Comes.{Comes, unblocks}
use Rattle.array_paths.specs.AtRows.{AtRows, by_client, by_pass, by_monitor, after_read}
use Rattle.array_paths.specs.Effects.{Effect, quiet, row, row_fails, steps, step_fails, after_effect}
use Rattle.array_told.specs.Told.{finished_generation, Tells, Stamps}
use Rattle.array_told.proofs.Tells.{tells_effect, tells_open}
use Rattle.array_told.proofs.Stamps.{stamps_effect, stamps_open, at_each_before}
use Rattle.array_base.specs.Premises.{Premises}
use Rattle.array_base.specs.Opening.{Opening}
use Rattle.array_base.specs.Base.{ledger, disks_by, Core}
use Rattle.array_base.specs.Laws.{OverBase, FollowsBase}
use Rattle.array_base.proofs.Finished.{finished_first, finished_later}
use Rattle.array_base.proofs.Runs.{along_base}
use Rattle.array_causes.specs.Unblocks.{IsRecorded, UnblocksAreRecorded}
use Rattle.array_causes.proofs.Words.{each_state, each_client, each_pass, each_update}

module _ (S : Setting) (P : Premises S) where
  -- WHERE A DISK IS LET GO

  abbrev Recorded : Control → Option Call → Change → Type 0
  Recorded c call (DiskUnblocks d) = (call ≡ None) × (expects S c.round.last d ≡ false)
  Recorded c call _ = ⊤

  comes_so : (t : InTurn) (c : Control) (a : Change) → Comes S t c a → Recorded c None a
  comes_so t c _ (unblocks d rest blocked ended recorded) = (refl, recorded)
  comes_so t c a _ = tt

  rows_so : (c : Control) (call : Option Call) (d : ℕ) (what : What) (x : Ended) (a : Change) → AtRows S c d what x a
      → Recorded c call a
  rows_so c call d _ _ _ (by_client k i r need what x client_call) = tt
  rows_so c call d _ _ _ (by_pass v p need what x pass_call) = tt
  rows_so c call d _ _ _ (by_monitor left seen found x life) = at (has_all S (seen ++ x.got ∷ []))
    where
      at : (b : Bool) → Recorded c call (after_read S c d left (seen ++ x.got ∷ []) found b)
      at true = tt
      at false = tt

  effect_so : (t : InTurn) (c : Control) (call : Option Call) (x : Ended) (a : Change) → Effect S t c call x a
      → Recorded c call a
  effect_so t c _ _ _ (quiet x a comes) = comes_so t c a comes
  effect_so t c call _ _ (row d what x a may went_so went why) = rows_so c _ d what x a why
  effect_so t c _ _ _ (row_fails d what x may call failed lost) = tt
  effect_so t c _ _ _ (steps d m step x at went) = tt
  effect_so t c _ _ _ (step_fails d m step x at failed) = tt

  -- the block of the last finished round is the one that the control state has
  last_finished : (log : List Call) (journal : List Entry) (c : Control) → Core S P (disks_by S log) (ledger c.round)
      → Tells S c journal → (m : Laid) → IsFinished S.start log journal m → m ≡ c.round.last
  last_finished log journal c core told m finished = at c.round.first refl
    where
      at : (first : Bool) → c.round.first ≡ first → m ≡ c.round.last
      at true is =
          finished_first S P log journal (ledger c.round) core m finished is
          (told.ends ∙ ap (λ f. finished_generation S f c.round) is)
      at false is =
          finished_later S P log journal (ledger c.round) core m finished is
          (told.ends ∙ ap (λ f. finished_generation S f c.round) is)

  -- WHAT A RUN KEEPS

  record UnblocksTold (w : World) : Type 0 where
    stamps : Stamps w
    told : Tells S w.control w.journal
    law : UnblocksAreRecorded S.start w.log w.journal

  module _ (w : World) (told : UnblocksTold w) (core : Core S P (disks_by S w.log) (ledger w.control.round)) where
    abbrev Entered : Option Call → Option Event → Type 0
    Entered call e =
        AtEachFrom (λ front e. IsRecorded S.start (take e.stamp (log_after w.log call)) front e.event) w.journal
        (entered (calls_after w.calls call) e)

    whole : take w.calls w.log ≡ w.log
    whole = take_all w.calls w.log (let calls = told.stamps.calls in omega (arith, calls))

    change_is_recorded : (call : Option Call) (a : Change) → Recorded w.control call a → Entered call (entry_of S a)
    change_is_recorded None (DiskUnblocks d) comes = (
      λ m finished.
          let same = last_finished w.log w.journal w.control core told.told m
          (subst (λ log. IsFinished S.start log w.journal m) whole finished) in
          subst (λ b. expects S b d ≡ false) (sym same) comes.1,
      tt,
    )
    change_is_recorded (Some call) (DiskUnblocks d) comes = absurd (let none = comes.0 in cc none)
    change_is_recorded call (StateGoes v word) comes =
        each_state (λ word. Entered call (state_entry v word)) (tt, tt) (tt, tt) (tt, tt) tt (tt, tt) (tt, tt) word
    change_is_recorded call (ClientMoves k new word) comes =
        each_client (λ word. Entered call (client_entry word)) tt (λ i. (tt, tt)) (λ i answer. (tt, tt)) word
    change_is_recorded call (PassMoves v slots pass word) comes =
        each_pass (λ word. Entered call (pass_entry v word)) tt (λ row. (tt, tt)) (λ unit. (tt, tt)) (tt, tt) word
    change_is_recorded call (ManagerMoves new word) comes =
        each_update (λ word. Entered call (update_entry word)) tt (λ u. (tt, tt)) (λ u. (tt, tt)) (λ u kind. (tt, tt))
        word
    change_is_recorded call (RoundBegins m) comes = (tt, tt)
    change_is_recorded call (RoundEnds m) comes = (tt, tt)
    change_is_recorded call (SpareEnds d) comes = (tt, tt)
    change_is_recorded call (DiskFails d) comes = (tt, tt)
    change_is_recorded call MonitorKilled comes = (tt, tt)
    change_is_recorded call (TakeoverStarts left) comes = (tt, tt)
    change_is_recorded call _ comes = tt

  unblocks_step : (t : InTurn) (w : World) (call : Option Call) (x : Ended) (a : Change) → OverBase S P t w call x a
      → UnblocksTold w → UnblocksTold (after_effect S w call a)
  unblocks_step t w call x a over had =
      let n = calls_after w.calls call in
      record {
        stamps = stamps_effect S w call a had.stamps;
        told = tells_effect S t w.control call x a over.effect n w.journal had.told;
        law = at_each_more _ w.journal (entered n (entry_of S a))
            (at_each_before (λ log front e. IsRecorded S.start log front e.event) w.log call w.journal
            (subst (λ n. AllBelow n w.journal) had.stamps.calls had.stamps.below) had.law)
            (change_is_recorded w had over.before.core call a (effect_so t w.control call x a over.effect));
      }

  pub unblocks_are_recorded : (volumes : List Volume) (spares : List ℕ) → Opening S P volumes spares → (w : World)
      → Reached S volumes spares w → UnblocksAreRecorded S.start w.log w.journal
  unblocks_are_recorded volumes spares o w run =
      (along_base S P volumes spares o (λ t w. UnblocksTold w) follows w run).1.law
    where
      follows : FollowsBase S P volumes spares (λ t w. UnblocksTold w)
      follows = record {
        opens = λ who. record {
          stamps = stamps_open S volumes spares;
          told = tells_open S volumes spares (λ v. (o.volumes_are v).state);
          law = tt;
        };
        begins = λ t w who had. had;
        step = λ t w call x a over had. unblocks_step t w call x a over had;
      }
