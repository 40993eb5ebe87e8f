-- The answer law over every honest run.
use Rattle.std.proofs.Common.{◌≡◌, ℕ, ◌≤◌, Bool, true, false, List, [], ◌∷◌, ◌++◌, length, ap, sym, ◌∙◌, subst, arith, inl, inr, Option, Some, None}
use Rattle.std.specs.List.{AllByRecursion}
use Rattle.std.proofs.Math.Bool.{and-true}
use Rattle.units.specs.declared.disk.Sector.{Sector}
use Rattle.device_log.specs.Log.{Call}
use Rattle.array_model.specs.declared.script.OpKind.{OpKind}
use Rattle.array_model.specs.declared.script.OpKind.TheVariants.{Write as OpWrite, Read as OpRead, Whole as OpWhole}
use Rattle.array_model.specs.declared.journal.Entry.{Entry}
use Rattle.array_model.specs.declared.journal.Event.{Event}
use Rattle.array_model.specs.declared.journal.Event.TheVariants.{Ack}
use Rattle.array_model.specs.declared.journal.Answer.TheVariants.{Done, Value, Past, Failed, NoSpare}
use Rattle.array_model.specs.Script.{kind_at}
use Rattle.array_model.specs.Placement.{Placement, placement_of}
use Rattle.array_model.specs.Events.{AtEach, AtEachFrom}
use Rattle.array_model.specs.Moments.{AllBelow}
use Rattle.array_model.specs.Content.{is_still_unsure}
use Rattle.array_model.specs.AnswerLaw.{AnswerLaw, ValueAt, ValueOf, IsValue, IsGivenAt, IsGivenOrXor, IsGiven, submitted_from}
use Rattle.array_model.proofs.Journals.{at_each_more}
use Rattle.array_model.specs.Renewal.{FitsGeneration}
use Rattle.stage_machine.specs.Setting.{Setting, Renews}
use Rattle.stage_machine.specs.Opens.{AsksFirst, StandsOnAll, IsFirstVolume, HoldsContent}
use Rattle.stage_machine.specs.Jobs.{Client}
use Rattle.stage_machine.specs.Machine.{World, Action, Reached, opens, goes, Honest, opens_true, goes_true, TrueTurn, happens, clients_of, call_of, got_of, turned, stamped, calls_after, log_after}
use Rattle.stage_machine.proofs.Turns.{turns_of}
use Rattle.stage_machine.proofs.Moments.{counted_reached}
use Rattle.stage_machine.proofs.Clients.{mine_reached, at_start}
use Rattle.stage_machine.proofs.Ours.{ours_reached}
use Rattle.stage_machine.proofs.Finished.{fine_reached}
use Rattle.stage_machine.proofs.Failed.{goes_or_not, went_on}
use Rattle.answer_law.proofs.Order.{in_order}
use Rattle.answer_law.proofs.JobKinds.{fits_reached, whole_each, acks_reached, reads_in_sync}
use Rattle.answer_law.proofs.Rows.{at_row, given_more}
use Rattle.answer_law.proofs.Values.{JobVals, Vals}
use Rattle.answer_law.proofs.Law.{vals_turns, values_turns}
use Rattle.stage_machine.proofs.Cells.{opened_cells}

pub reached_of : (S : Setting) (w : World) → Honest S w → Reached S w
reached_of S w opens_true = opens
reached_of S w (goes_true {w = v} h a gave) = goes (reached_of S v h) a

-- A LONGER LOG

all_given_more : (S : Setting) (log : List Call) (x : Call) (v row since stamp : ℕ) (ys : List Sector) → stamp ≤ length log → AllByRecursion (IsGiven S.start log v row since stamp) ys
    → AllByRecursion (IsGiven S.start (log ++ x ∷ []) v row since stamp) ys
all_given_more S log x v row since stamp [] short h = tt
all_given_more S log x v row since stamp (y ∷ ys) short h = (given_more S log x v row since stamp stamp y short (omega arith) h.0, all_given_more S log x v row since stamp ys short h.1)

value_more : (S : Setting) (log : List Call) (x : Call) (front : List Entry) (stamp : ℕ) (e : Event) → stamp ≤ length log → ValueAt S.start S.asked.ops log front stamp e → ValueAt S.start S.asked.ops (log ++ x ∷ []) front stamp e
value_more S log x front stamp (Ack i (Value y)) short h = by (kind_at S.asked.ops i) h
  where
    given : (v row since : ℕ) → IsGivenOrXor S.start log v row since stamp y → IsGivenOrXor S.start (log ++ x ∷ []) v row since stamp y
    given v row since (inl one) = inl (given_more S log x v row since stamp stamp y short (omega arith) one)
    given v row since (inr (five, first, more, all, is)) = inr (five, first, more, all_given_more S log x v row since stamp (first ∷ more) short all, is)

    at_place : (v : ℕ) (place : Option Placement) (since : ℕ) → IsGivenAt S.start log v place since stamp y → IsGivenAt S.start (log ++ x ∷ []) v place since stamp y
    at_place v None since h = h
    at_place v (Some place) since h = given v place.row since h

    at : (v s : ℕ) (b : Bool) → IsValue S.start S.asked.ops log front stamp i v s y b → IsValue S.start S.asked.ops (log ++ x ∷ []) front stamp i v s y b
    at v s false h = h
    at v s true h = at_place v (placement_of (S.start.words.shape S.start.newest v) s) (submitted_from i 0 front) h

    by : (kind : Option OpKind) → ValueOf S.start S.asked.ops log front stamp i y kind → ValueOf S.start S.asked.ops (log ++ x ∷ []) front stamp i y kind
    by None h = h
    by (Some (OpWrite v s value)) h = h
    by (Some (OpRead v s)) h = at v.0 s (is_still_unsure S.start S.asked.ops front v.0 s) h
    by (Some (OpWhole v)) h = h
value_more S log x front stamp (Ack i Done) short h = tt
value_more S log x front stamp (Ack i Past) short h = tt
value_more S log x front stamp (Ack i Failed) short h = tt
value_more S log x front stamp (Ack i NoSpare) short h = tt
value_more S log x front stamp _ short h = tt

values_before : (S : Setting) (log : List Call) (x : Option Call) (front journal : List Entry) → AllBelow (length log) journal
    → AtEachFrom (λ front e. ValueAt S.start S.asked.ops log front e.stamp e.event) front journal → AtEachFrom (λ front e. ValueAt S.start S.asked.ops (log_after log x) front e.stamp e.event) front journal
values_before S log None front journal below h = h
values_before S log (Some x) front [] below h = tt
values_before S log (Some x) front (e ∷ es) below h = (value_more S log x front e.stamp e.event below.0 h.0, values_before S log (Some x) (front ++ e ∷ []) es below.1 h.1)

-- RUNS

pub record Kept (S : Setting) (w : World) : Type 0 where
  pub vals : w.control.failed ≡ None → Vals S w.log w.journal w.control.clients
  pub values : AtEach (λ front e. ValueAt S.start S.asked.ops w.log front e.stamp e.event) w.journal

module _ (S : Setting) (asks : AsksFirst S) (renews : Renews S) (on : StandsOnAll S) (volume : IsFirstVolume S) (holds : HoldsContent S) where
  vals_start : Vals S [] [] (clients_of S)
  vals_start = record {
    jobs = λ k. elim (at_start S k) [
      | inl first ↦ subst (λ (x : Client). JobVals S [] [] x.job) (sym first.1) tt
      | inr past ↦ subst (λ (x : Client). JobVals S [] [] x.job) (sym past.1) tt
    ];
    free = λ row d below no_writer member sure. ap (λ (c : _). c.stood) (opened_cells S.start.words S.start.disks d (at_row S row)) ∙ holds row d below (sym (and-true (S.start.unsure 0 row)) ∙ sure) member;
  }

  kept_after : (w : World) (r : Reached S w) (a : Action) → TrueTurn S w a → Kept S w → Kept S (happens S w a)
  kept_after w r a gave k =
      let c = w.control in
      let x = call_of S c a in
      let es = (turned S c a).events in
      let counted = counted_reached S w r in
      let t = turns_of S c a in
      let below : AllBelow (length w.log) w.journal = subst (λ z. AllBelow z w.journal) counted.calls counted.below in
      record {
        vals = λ alive. vals_turns S asks volume w.log w.journal c (got_of a) w.calls (mine_reached S w r) (fits_reached S w r) counted.calls counted.below (k.vals (went_on S c (got_of a) t alive).0) t gave alive;
        values = at_each_more (λ front e. ValueAt S.start S.asked.ops (log_after w.log x) front e.stamp e.event) w.journal (stamped (calls_after w.calls x) es)
            (values_before S w.log x [] w.journal below k.values)
            (elim (goes_or_not S c a) [
              | inl alive ↦ values_turns S asks volume w.log w.journal c (got_of a) w.calls (mine_reached S w r) (fits_reached S w r) counted.calls counted.below (k.vals alive) t
              | inr idle ↦ subst (λ new. AtEachFrom (λ front e. ValueAt S.start S.asked.ops (log_after w.log x) front e.stamp e.event) w.journal (stamped (calls_after w.calls x) new)) (sym idle.1) tt
            ]);
      }

  kept_honest : (w : World) → Honest S w → Kept S w
  kept_honest w opens_true = record { vals = λ alive. vals_start; values = tt }
  kept_honest w (goes_true {w = v} h a gave) = kept_after v (reached_of S v h) a gave (kept_honest v h)

  pub answers_honest : (w : World) → FitsGeneration w.control.round.note → Honest S w → AnswerLaw S.start S.asked w.log w.journal
  answers_honest w fits h =
      let r = reached_of S w h in
      record {
        order = in_order S asks w r;
        values = (kept_honest w h).values;
        reads = reads_in_sync S on volume w.log w.journal (ours_reached S w r) (fine_reached S renews on volume w fits r);
        whole = whole_each S w.log [] w.journal (acks_reached S w r);
      }
