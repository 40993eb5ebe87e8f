-- Each answer stands over recorded failures: by the move of the client that gives it.
use Rattle.std.proofs.Common.{◌≡◌, ℕ, Bool, true, false, List, refl, ap, sym, ◌∙◌, subst, Option, Some, None, inl, inr}
use Rattle.device_log.specs.Log.{Call}
use Rattle.array_model.specs.declared.script.OpKind.{OpKind}
use Rattle.array_model.specs.declared.script.OpKind.TheVariants.{Write as OpWrite, Read as OpRead, Whole as OpWhole}
use Rattle.array_model.specs.declared.journal.Entry.{Entry}
use Rattle.array_model.specs.declared.journal.Event.{Event}
use Rattle.array_model.specs.declared.journal.Event.TheVariants.{Active, Ack}
use Rattle.array_model.specs.declared.journal.Answer.{Answer}
use Rattle.array_model.specs.declared.journal.Answer.TheVariants.{Done}
use Rattle.array_model.specs.Script.{kind_at, write_in, write_at}
use Rattle.array_model.specs.Events.{is_done}
use Rattle.array_model.specs.Blocks.{Laid}
use Rattle.array_model.specs.Moments.{Always}
use Rattle.array_model.specs.Placement.{Placement, placement_of}
use Rattle.array_model.specs.Rounds.{IsFinished, DurableOnWorking}
use Rattle.array_model.specs.FailureLaw.{ExpectsInSlot, ExpectsAt, IsRecordedFor, AckOverFaults}
use Rattle.array_machine.specs.Setting.{Setting}
use Rattle.array_machine.specs.Numbers.{has}
use Rattle.array_machine.specs.Volumes.{volume_at}
use Rattle.array_machine.specs.Operations.{volume_in, volume_of, shape_of, sector_in, place_at, place_or, the_place, is_write}
use Rattle.array_machine.specs.Clients.{Row, Client}
use Rattle.array_machine.specs.RowJobs.{pair_of, any_blocked, plan_or, planned, unread, read_or, Answers, after_reads, unwritten, unsynced}
use Rattle.array_machine.specs.ClientTurns.{members_now}
use Rattle.array_machine.specs.Control.{Control}
use Rattle.array_machine.specs.Changes.{Acknowledges}
use Rattle.array_paths.specs.ClientMove.{TakesWrites, Needs, ClientMove, is_past, answers, fails, is_whole, has_no_spare}
use Rattle.array_paths.specs.Ready.{Ready}
use Rattle.array_base.specs.Premises.{Premises}
use Rattle.array_base.specs.Base.{ledger, disks_by, Core}
use Rattle.array_told.specs.Told.{Tells}
use Rattle.array_gate.specs.Gate.{WritersWait}
use Rattle.array_gate.proofs.Entries.{GateEntry, is_other, is_active, is_answer, IsOther}
use Rattle.array_failures.specs.Recorded.{AreSeated, FailuresAreKept, WasFinished, ReadyAreServed}
use Rattle.array_failures.proofs.Acks.{is_blocked_in, job_blocked, pair_unblocked, answered_free, slot_recorded}

-- what is known where an answer is given
pub record AtAnswers (S : Setting) (P : Premises S) (log : List Call) (c : Control) (journal : List Entry) : Type 0
  where
    pub core : Core S P (disks_by S log) (ledger c.round)
    pub told : Tells S c journal
    pub ready : Ready S c
    pub kept : FailuresAreKept S c
    pub seated : AreSeated S c
    pub served : ReadyAreServed c
    pub writers : WritersWait S c
    pub past : Always (λ l front. (m : Laid) → IsFinished S.start l front m → WasFinished S (disks_by S log) c m) log
        journal

module _ (S : Setting) (P : Premises S) (log : List Call) (c : Control) (journal : List Entry)
    (at : AtAnswers S P log c journal) where
  -- a write of client k, operation i, may be answered
  module _ (k i : ℕ) (r : Row) (answer : Answer) (needs : Needs S c k i r (Answers answer))
      (writes : is_write S i ≡ true)
    where
      abbrev blocked : ℕ → Bool
      blocked s = is_blocked_in c.round.blocked (volume_at c.volumes (volume_of S i)).slots s

      free : any_blocked (members_now S c i r) (pair_of (the_place S i)) ≡ false
      free =
          let members = members_now S c i r in
          let plan = planned (shape_of S (volume_of S i)) (the_place S i) (is_write S i) members in
          answered_free (unread (plan_or r.plan plan) r.got) (unwritten members (pair_of (the_place S i)) r)
          (unsynced members (pair_of (the_place S i)) r) (any_blocked members (pair_of (the_place S i))) Done answer
          (subst (λ b. read_or (unread (plan_or r.plan plan) r.got)
          (after_reads S members (pair_of (the_place S i)) b r) ≡ Answers answer) writes needs.is)

      free_slots : (blocked (the_place S i).main ≡ false) × (blocked (the_place S i).other ≡ false)
      free_slots =
          let both = pair_unblocked (members_now S c i r) (the_place S i) free in
          let slots = (volume_at c.volumes (volume_of S i)).slots in (
            sym (job_blocked r c.round.faults c.round.blocked slots (the_place S i).main) ∙ both.0,
            sym (job_blocked r c.round.faults c.round.blocked slots (the_place S i).other) ∙ both.1,
          )

      slot_says : (b : Laid) → WasFinished S (disks_by S log) c b → (s d : ℕ) → blocked s ≡ false
          → has d c.round.faults ≡ true → ExpectsInSlot S.start b (volume_of S i) s d
          → DurableOnWorking S.start log journal (λ m. S.start.words.expects m (S.start.disks.serial d) ≡ false)
      slot_says b was s d unblocked failed slot =
          let takes = at.writers k i r needs.has writes needs.sound in
          let served = at.served (volume_of S i) (λ shut. subst TakesWrites shut takes) in
          slot_recorded S P log c journal at.core at.told at.ready at.kept at.seated (volume_of S i) served.started
          served.later b was s d unblocked failed slot

      place_says : (b : Laid) → WasFinished S (disks_by S log) c b → (d : ℕ) → has d c.round.faults ≡ true
          → (place : Option Placement) → place_at S i ≡ place → ExpectsAt S.start b (volume_of S i) d place
          → DurableOnWorking S.start log journal (λ m. S.start.words.expects m (S.start.disks.serial d) ≡ false)
      place_says b was d failed None is slot = absurd slot
      place_says b was d failed (Some p) is (inl main) =
          let same : (the_place S i).main ≡ p.main = ap (λ o. (place_or o).main) is in
          slot_says b was p.main d (subst (λ s. blocked s ≡ false) same free_slots.0) failed main
      place_says b was d failed (Some p) is (inr other) =
          let same : (the_place S i).other ≡ p.other = ap (λ o. (place_or o).other) is in
          slot_says b was p.other d (subst (λ s. blocked s ≡ false) same free_slots.1) failed other

  answer_recorded : (k i : ℕ) (r : Row) (answer : Answer) → Needs S c k i r (Answers answer)
      → IsRecordedFor S.start log journal (write_at S.asked.ops i)
  answer_recorded k i r answer needs = by (kind_at S.asked.ops i) refl
    where
      by : (kind : Option OpKind) → kind_at S.asked.ops i ≡ kind → IsRecordedFor S.start log journal (write_in kind)
      by None is = tt
      by (Some (OpRead v s)) is = tt
      by (Some (OpWhole v)) is = tt
      by (Some (OpWrite v s value)) is = λ d meant faulty.
          let writes : is_write S i ≡ true = rw is refl in
          let there : volume_of S i ≡ v.0 = ap volume_in is in
          let was = at.past meant.calls meant.early meant.late meant.moment meant.block meant.finished in
          let place : placement_of (S.start.words.shape meant.block v.0) s ≡ place_at S i =
          ap (λ x. placement_of x s) (was.shape v.0)
          ∙ sym (ap (λ kind. placement_of (shape_of S (volume_in kind)) (sector_in kind)) is) in
          let slot : ExpectsAt S.start meant.block (volume_of S i) d (place_at S i) =
          subst (λ w. ExpectsAt S.start meant.block w d (place_at S i)) (sym there)
          (subst (ExpectsAt S.start meant.block v.0 d) place meant.slot) in
          place_says k i r answer needs writes meant.block was d (sym (at.told.faults d) ∙ faulty) (place_at S i) refl
          slot

  -- any answer that says done
  done_recorded : (k i : ℕ) (new : Client) (answer : Answer) → ClientMove S c k new (Acknowledges i answer)
      → is_done answer ≡ true → IsRecordedFor S.start log journal (write_at S.asked.ops i)
  done_recorded k _ _ _ (is_past i left left_is job nowhere names) done = absurd cc
  done_recorded k _ _ _ (answers i r answer left left_is needs) done = answer_recorded k i r answer needs
  done_recorded k _ _ _ (fails i r left left_is job broken) done = absurd cc
  done_recorded k _ _ _ (is_whole i r left left_is job kind unbroken whole) done =
      subst (λ o. IsRecordedFor S.start log journal (write_in o)) (sym kind) tt
  done_recorded k _ _ _ (has_no_spare i r left left_is job kind unbroken whole lacks) done = absurd cc

  other_acked : (e : Event) → IsOther (Some e) → AckOverFaults S.start S.asked.ops log journal e
  other_acked (Ack i answer) other = absurd other
  other_acked _ other = tt

  -- the entry of an effect, where it is an answer
  pub entry_acked : (o : Option Event) → GateEntry S c o → (e : Event) → o ≡ Some e
      → AckOverFaults S.start S.asked.ops log journal e
  entry_acked _ (is_other o other) e is = other_acked e (subst IsOther is other)
  entry_acked _ (is_active v rest ended now) e is =
      let same : Active (record { 0 = v }) ≡ e = cc is in
      subst (AckOverFaults S.start S.asked.ops log journal) same tt
  entry_acked _ (is_answer k i new answer move) e is =
      let same : Ack i answer ≡ e = cc is in
      subst (AckOverFaults S.start S.asked.ops log journal) same (done_recorded k i new answer move)
