-- Where a volume is whole by the control state, it is whole by the last finished round's block and the journal.
use Rattle.std.proofs.Common.{◌≡◌, ℕ, ◌<◌, ◌||◌, ◌&&◌, not, Bool, true, false, List, [], ◌∷◌, refl, ap, sym, ◌∙◌, subst, Option, Some, None, inl, inr, eq-eqb}
use Rattle.std.specs.List.{AllByRecursion, AllZip, list_all}
use Rattle.std.specs.Option.{is_none, option_map_or}
use Rattle.std.proofs.lemmas.Bool.{and_parts}
use Rattle.std.proofs.lemmas.Slice.Eq.{bytes_eq-Decides}
use Rattle.device_log.specs.Log.{Call}
use Rattle.array_model.specs.declared.script.OpKind.{OpKind}
use Rattle.array_model.specs.declared.script.OpKind.TheVariants.{Write as OpWrite, Read as OpRead, Whole as OpWhole}
use Rattle.array_model.specs.declared.journal.Entry.{Entry}
use Rattle.array_model.specs.declared.journal.Event.{Event}
use Rattle.array_model.specs.declared.journal.Event.TheVariants.{Fault}
use Rattle.array_model.specs.declared.journal.Answer.{Answer}
use Rattle.array_model.specs.declared.journal.Answer.TheVariants.{Done, Value, Past, Failed, NoSpare}
use Rattle.array_model.specs.Script.{kind_at}
use Rattle.array_model.specs.Blocks.{SlotWords}
use Rattle.array_model.specs.Events.{is_fault, is_faulty}
use Rattle.array_model.specs.Rounds.{is_fault_of, is_lost}
use Rattle.array_model.specs.AnswerLaw.{IsVolumeWhole, WholeFor}
use Rattle.array_machine.specs.Setting.{Setting}
use Rattle.array_machine.specs.Numbers.{has}
use Rattle.array_machine.specs.States.{is_readonly}
use Rattle.array_machine.specs.Volumes.{Slot, volume_at}
use Rattle.array_machine.specs.Operations.{volume_of, is_write_kind, is_write}
use Rattle.array_machine.specs.Clients.{Client}
use Rattle.array_machine.specs.ClientTurns.{any_fault_in, is_whole_now}
use Rattle.array_machine.specs.Control.{Control}
use Rattle.array_machine.specs.Changes.{Acknowledges}
use Rattle.array_paths.specs.InTurn.{is_broken}
use Rattle.array_paths.specs.ClientMove.{NamesSector, ClientMove, is_past, answers, fails, is_whole, has_no_spare}
use Rattle.array_paths.specs.Ready.{Ready}
use Rattle.array_base.specs.Premises.{IsToldOf, Premises}
use Rattle.array_base.specs.Base.{ledger, disks_by, Core}
use Rattle.array_base.proofs.Targets.{or_cases, or_neither}
use Rattle.array_told.specs.Told.{Tells}
use Rattle.array_failures.specs.Recorded.{HasSeat, AreSeated, ReadyAreServed}
use Rattle.array_answers.specs.Whole.{WholeIfDone, JobsAreOpen}
use Rattle.array_answers.proofs.Moved.{seat_found}
use Rattle.array_answers.proofs.InSync.{last_only}

-- FAULTS IN THE JOURNAL

-- a disk of the serial has a fault
record HasFaultOf (S : Setting) (serial : List ℕ) (journal : List Entry) : Type 0 where
  disk : ℕ
  faulty : is_faulty disk journal ≡ true
  same : serial ≡ S.start.disks.serial disk

module _ (S : Setting) where
  fault_here : (serial : List ℕ) (e : Entry) (es : List Entry) → is_fault_of S.start.disks serial e.event ≡ true
      → HasFaultOf S serial (e ∷ es)
  fault_here serial e es is = at e.event refl is
    where
      at : (x : Event) → e.event ≡ x → is_fault_of S.start.disks serial x ≡ true → HasFaultOf S serial (e ∷ es)
      at (Fault d) event is =
          let mine : is_fault d.0 (Fault d) ≡ true = eq-eqb d.0 d.0 refl in
          record {
            disk = d.0;
            faulty = subst (λ x. (is_fault d.0 x || is_faulty d.0 es) ≡ true) (sym event) (rw mine refl);
            same = sym ((bytes_eq-Decides (S.start.disks.serial d.0) serial).0 is);
          }
      at _ event is = absurd (cc is)

  lost_has : (serial : List ℕ) (journal : List Entry) → is_lost S.start.disks serial journal ≡ true
      → HasFaultOf S serial journal
  lost_has serial [] is = absurd (cc is)
  lost_has serial (e ∷ es) is =
      elim (or_cases (is_fault_of S.start.disks serial e.event) (is_lost S.start.disks serial es) is) [
        | inl here ↦ fault_here serial e es here
        | inr there ↦
            let more = lost_has serial es there in
            let faulty = more.faulty in
            record {
              disk =
                  more.disk;
              faulty = later (is_fault more.disk e.event) (is_faulty more.disk es) faulty;
              same =
                  more.same;
            }
      ]
    where
      later : (a b : Bool) → b ≡ true → (a || b) ≡ true
      later true b is = refl
      later false b is = is

  -- SLOTS

  module _ (P : Premises S) (c : Control) (journal : List Entry) (told : Tells S c journal)
      (there : (d : ℕ) → has d c.round.faults ≡ true → d < S.start.disks.count) where
    slot_whole : (w : SlotWords) (x : Slot) → HasSeat S w x → w.is_in_sync ≡ true → IsToldOf S c.round.last w
        → option_map_or (λ d. has d c.round.faults) x.disk false ≡ false
        → is_lost S.start.disks w.serial journal ≡ false
    slot_whole w x seat sync says sound = at (is_lost S.start.disks w.serial journal) refl
      where
        at : (b : Bool) → is_lost S.start.disks w.serial journal ≡ b → b ≡ false
        at false is = refl
        at true is =
            let lost = lost_has w.serial journal is in
            let failed : has lost.disk c.round.faults ≡ true = sym (told.faults lost.disk) ∙ lost.faulty in
            let own = seat lost.disk
            (seat_found S P w lost.disk (there lost.disk failed) (says.in_sync sync) lost.same) in
            absurd (let bad = subst (λ o. option_map_or (λ d. has d c.round.faults) o false ≡ false) own sound in
            cc (bad, failed))

    slots_whole : (ws : List SlotWords) (xs : List Slot) → AllZip (HasSeat S) ws xs
        → list_all (λ w. w.is_in_sync) ws ≡ true → AllByRecursion (IsToldOf S c.round.last) ws
        → any_fault_in c.round.faults xs ≡ false
        → AllByRecursion (λ s. (s.is_in_sync ≡ true) × (is_lost S.start.disks s.serial journal ≡ false)) ws
    slots_whole [] [] seats sync says sound = tt
    slots_whole [] (x ∷ xs) seats sync says sound = absurd seats
    slots_whole (w ∷ ws) [] seats sync says sound = absurd seats
    slots_whole (w ∷ ws) (x ∷ xs) seats sync says sound =
        let syncs = and_parts w.is_in_sync (list_all (λ s. s.is_in_sync) ws) sync in
        let sounds = or_neither (option_map_or (λ d. has d c.round.faults) x.disk false)
        (any_fault_in c.round.faults xs) sound in (
          (syncs.0, slot_whole w x seats.0 syncs.0 says.0 sounds.0),
          slots_whole ws xs seats.1 syncs.1 says.1 sounds.1,
        )

  -- AN ANSWER

  -- what is known where an answer is given
  pub record AtAnswer (P : Premises S) (log : List Call) (c : Control) (journal : List Entry) : Type 0 where
    pub core : Core S P (disks_by S log) (ledger c.round)
    pub told : Tells S c journal
    pub ready : Ready S c
    pub there : (d : ℕ) → has d c.round.faults ≡ true → d < S.start.disks.count
    pub seated : AreSeated S c
    pub served : ReadyAreServed c
    pub jobs : JobsAreOpen S c

  module _ (P : Premises S) (log : List Call) (c : Control) (journal : List Entry) (at : AtAnswer P log c journal) where
    volume_whole : (v : ℕ) → (volume_at c.volumes v).started ≡ true → is_whole_now S c v ≡ true
        → IsVolumeWhole S.start journal c.round.last v
    volume_whole v started whole =
        let ws = S.start.words.slots c.round.last v in
        let xs = (volume_at c.volumes v).slots in
        let synced = list_all (λ s. s.is_in_sync) ws in
        let idle = is_none (S.start.words.pass c.round.last v) in
        let last = and_parts (not c.round.first && synced && idle) (not (any_fault_in c.round.faults xs)) whole in
        let front = and_parts (not c.round.first && synced) idle last.0 in
        let first = and_parts (not c.round.first) synced front.0 in
        let form = at.core.hand.last.form in
        record {
          slots = slots_whole P c journal at.told at.there ws xs (at.seated v started) first.1
              (P.told c.round.last v form (P.edits.served c.round.last v form (at.ready.started v started)))
              (not_true (any_fault_in c.round.faults xs) last.1);
          idle = none_is (S.start.words.pass c.round.last v) front.1;
        }
      where
        not_true : (b : Bool) → not b ≡ true → b ≡ false
        not_true true is = absurd (cc is)
        not_true false is = refl

        none_is : (pass : Option ℕ) → is_none pass ≡ true → pass ≡ None
        none_is None is = refl
        none_is (Some kind) is = absurd (cc is)

    -- a volume that takes operations, and isn't broken, was started
    open_started : (v : ℕ) → is_broken c v ≡ false → (is_readonly (volume_at c.volumes v).state && not (is_broken c
        v)) ≡ false
        → (volume_at c.volumes v).started ≡ true
    open_started v sound open_now =
        (at.served v (λ shut.
        let bad : (is_readonly (volume_at c.volumes v).state && not (is_broken c v)) ≡ true = rw (shut, sound) refl in
        cc (bad, open_now))).started

    named : (answer : Answer) (i : ℕ) → NamesSector (kind_at S.asked.ops i)
        → WholeIfDone S.start S.asked log journal i answer
    named Done i names = by (kind_at S.asked.ops i) names
      where
        by : (kind : Option OpKind) → NamesSector kind → WholeFor S.start S.asked log journal Done kind
        by None names = absurd names
        by (Some (OpWrite v s value)) names = tt
        by (Some (OpRead v s)) names = tt
        by (Some (OpWhole v)) names = absurd names
    named (Value x) i names = tt
    named Past i names = tt
    named Failed i names = tt
    named NoSpare i names = tt

    pub done_is_whole : (k i : ℕ) (new : Client) (answer : Answer) → ClientMove S c k new (Acknowledges i answer)
        → WholeIfDone S.start S.asked log journal i answer
    done_is_whole k i _ _ (is_past _ left left_is job nowhere names) = tt
    done_is_whole k i _ answer (answers _ r _ left left_is needs) = named answer i needs.names
    done_is_whole k i _ _ (fails _ r left left_is job broken) = tt
    done_is_whole k i _ _ (has_no_spare _ r left left_is job kind sound whole lacks) = tt
    done_is_whole k i _ _ (is_whole _ r left left_is job kind sound whole) =
        subst (WholeFor S.start S.asked log journal Done) (sym kind) (λ m finished.
        let v = volume_of S i in
        let reading : is_write S i ≡ false = ap is_write_kind kind in
        let started = open_started v sound (at.jobs k i r job reading) in
        subst (λ b. IsVolumeWhole S.start journal b v) (sym (last_only S P log journal c at.core at.told m finished))
        (volume_whole v started whole))
