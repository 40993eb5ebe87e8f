-- The causes of entries on passes, in each run.
use Rattle.std.proofs.Common.{ℕ, List, subst, Option, inl, inr}
use Rattle.array_model.specs.declared.journal.Entry.{Entry}
use Rattle.array_model.specs.declared.journal.Event.{Event}
use Rattle.array_model.specs.declared.journal.Event.TheVariants.{Ready}
use Rattle.array_model.specs.Events.{AtEachFrom}
use Rattle.array_model.proofs.Journals.{at_each_more}
use Rattle.array_machine.specs.Setting.{Setting}
use Rattle.array_machine.specs.Volumes.{Volume, Slot, Pass}
use Rattle.array_machine.specs.Control.{Control}
use Rattle.array_machine.specs.Changes.{Change, RoundBegins, RoundEnds, SpareEnds, DiskFails, DiskUnblocks, StateGoes, ClientMoves, PassMoves, ManagerMoves, MonitorKilled, TakeoverStarts, PassWord, GoesOnQuietly, OpensAt, Reaches, Closes, state_entry, client_entry, pass_entry, update_entry, entry_of}
use Rattle.array_machine.specs.Machine.{World, calls_after, entered, Reached}
use Rattle.array_base.specs.Premises.{Premises}
use Rattle.array_base.specs.Opening.{Opening}
use Rattle.array_causes.specs.Links.{Link, First, Fresh, BehindSubmit, BehindAsk, BehindEnd, BehindReady, BehindApplied, Leans}
use Rattle.array_causes.specs.Before.{IsRightBehind}
use Rattle.array_causes.specs.PassCauses.{PassCause, PassCauses}
use Rattle.array_causes.proofs.Words.{each_state, each_client, each_update}
use Rattle.array_causes.proofs.Grounds.{LinkTold, told_now, FollowsGrounds, along_grounds}

module _ (S : Setting) where
  module _ (n : ℕ) (journal : List Entry) where
    abbrev Entered : Option Event → Type 0
    Entered e = AtEachFrom (λ front e. PassCause front e.stamp e.event) journal (entered n e)

    word_has_cause : (begun : Control) (link : Link) (v : ℕ) (slots : List Slot) (pass : Option Pass) (word : PassWord)
        → Leans S begun link (PassMoves v slots pass word) → LinkTold n journal link → Entered (pass_entry v word)
    word_has_cause begun link v slots pass GoesOnQuietly leans told = tt
    word_has_cause begun BehindEnd v slots pass (OpensAt row) leans told = (inl (leans, told), tt)
    word_has_cause begun (BehindReady w) v slots pass (OpensAt row) leans told =
        (inr (subst (λ u. IsRightBehind journal n (Ready (record { 0 = u }))) leans told), tt)
    word_has_cause begun First v slots pass (OpensAt row) leans told = absurd leans
    word_has_cause begun Fresh v slots pass (OpensAt row) leans told = absurd leans
    word_has_cause begun (BehindSubmit k i) v slots pass (OpensAt row) leans told = absurd leans
    word_has_cause begun (BehindAsk k) v slots pass (OpensAt row) leans told = absurd leans
    word_has_cause begun BehindApplied v slots pass (OpensAt row) leans told = absurd leans
    word_has_cause begun link v slots pass (Reaches unit) leans told = (subst (LinkTold n journal) leans told, tt)
    word_has_cause begun link v slots pass Closes leans told = (subst (LinkTold n journal) leans told, tt)

    change_has_cause : (begun : Control) (link : Link) (a : Change) → Leans S begun link a
        → LinkTold n journal link → Entered (entry_of S a)
    change_has_cause begun link (PassMoves v slots pass word) leans told =
        word_has_cause begun link v slots pass word leans told
    change_has_cause begun link (StateGoes v word) leans told =
        each_state (λ word. Entered (state_entry v word)) (tt, tt) (tt, tt) (tt, tt) tt (tt, tt) (tt, tt) word
    change_has_cause begun link (ClientMoves k new word) leans told =
        each_client (λ word. Entered (client_entry word)) tt (λ i. (tt, tt)) (λ i answer. (tt, tt)) word
    change_has_cause begun link (ManagerMoves new word) leans told =
        each_update (λ word. Entered (update_entry word)) tt (λ u. (tt, tt)) (λ u. (tt, tt)) (λ u kind. (tt, tt)) word
    change_has_cause begun link (RoundBegins m) leans told = (tt, tt)
    change_has_cause begun link (RoundEnds m) leans told = (tt, tt)
    change_has_cause begun link (SpareEnds d) leans told = (tt, tt)
    change_has_cause begun link (DiskFails d) leans told = (tt, tt)
    change_has_cause begun link (DiskUnblocks d) leans told = (tt, tt)
    change_has_cause begun link MonitorKilled leans told = (tt, tt)
    change_has_cause begun link (TakeoverStarts left) leans told = (tt, tt)
    change_has_cause begun link _ leans told = tt

  pub passes_have_causes : (P : Premises S) (volumes : List Volume) (spares : List ℕ) → Opening S P volumes spares
      → (w : World) → Reached S volumes spares w → PassCauses w.journal
  passes_have_causes P volumes spares o w run =
      let found = along_grounds S P volumes spares o (λ t link w. PassCauses w.journal) follows w run in found.2
    where
      follows : FollowsGrounds S P volumes spares (λ t link w. PassCauses w.journal)
      follows = record {
        opens = tt;
        begins = λ t link w who settled law. law;
        step = λ t link w call x a over before behind law.
            at_each_more _ w.journal (entered (calls_after w.calls call) (entry_of S a)) law
            (change_has_cause (calls_after w.calls call) w.journal t.before link a over.leans
            (told_now w call link over.first before.behind));
      }
