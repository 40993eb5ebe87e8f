-- Each answer comes from calls on rows, over every run.
use Rattle.std.proofs.Common.{◌≡◌, ℕ, true, List, [], ◌∷◌, ◌++◌, length, ◌<◌, ◌≤◌, refl, ap, sym, ◌∙◌, subst, arith, inl, inr, Option, Some, None}
use Rattle.std.proofs.lemmas.Option.{slice_get_within}
use Rattle.units.specs.declared.disk.Sector.{Sector}
use Rattle.device_log.specs.Log.{Call}
use Rattle.array_model.specs.declared.script.OpKind.{OpKind}
use Rattle.array_model.specs.declared.script.OpKind.TheVariants.{Write as OpWrite, Read as OpRead, Whole as OpWhole}
use Rattle.array_model.specs.declared.journal.Entry.{Entry}
use Rattle.array_model.specs.declared.journal.Event.{Event}
use Rattle.array_model.specs.declared.journal.Event.TheVariants.{Submit, Ack}
use Rattle.array_model.specs.declared.journal.Answer.{Answer}
use Rattle.array_model.specs.declared.journal.Answer.TheVariants.{Done, Value, Past, Failed, NoSpare}
use Rattle.array_model.specs.Script.{VolumeWrite, kind_at, write_at}
use Rattle.array_model.specs.Events.{AtEachFrom}
use Rattle.array_model.specs.Moments.{AllBelow}
use Rattle.array_model.specs.AnswerLaw.{submitted_from}
use Rattle.array_model.specs.RowCalls.{IsRowOn, IsWrittenOn, IsRead, DoneFrom, ValueFrom, AckFrom, AnswersFromRows}
use Rattle.array_model.proofs.Journals.{at_each_more}
use Rattle.stage_machine.specs.Setting.{Setting}
use Rattle.stage_machine.specs.Opens.{AsksFirst, IsFirstVolume}
use Rattle.stage_machine.specs.States.{State, IsReadonly, IsReadAuto, IsClean, IsPending, IsActive, IsIdle, asked_events}
use Rattle.stage_machine.specs.Jobs.{JobStep, Written, Got, Busy, row_at, value_at, sector_in, Answers}
use Rattle.stage_machine.specs.Machine.{Control, need_now, World, Reached, opens, goes, call_of, got_of, turned, stamped, calls_after, log_after}
use Rattle.stage_machine.proofs.Turns.{Turns, turns_of, Has, nothing, fails, anchors, settles, ends, begins, readies, actives, cleans, rests, pasts, asks_read, asks_write, puts, syncs, gets, acks}
use Rattle.stage_machine.proofs.Clients.{Mine, mine_reached, of_job, IsJob, kind_first}
use Rattle.stage_machine.proofs.Moments.{counted_reached}
use Rattle.answer_law.proofs.JobKinds.{Fits, fits_of, fits_reached, is_read_kind}
use Rattle.answer_law.proofs.Rows.{at_row, row_is, write_is}
use Rattle.answer_law.proofs.Values.{needs, answers_from}
use Rattle.row_law.proofs.Places.{member_of_row, op_row, op_place}
use Rattle.row_law.proofs.Stays.{made_before}
use Rattle.row_law.proofs.Jobs.{IsGot, SyncedBut, StepCalls, JobCalls, Calls, calls_reached, went_more, step_calls}

-- A LONGER LOG

module _ (S : Setting) (log : List Call) (x : Option Call) where
  on_more : (since stamp d place : ℕ) (v : Sector) → stamp ≤ length log → IsWrittenOn log since stamp d place v → IsWrittenOn (log_after log x) since stamp d place v
  on_more since stamp d place v made h = record {
    write = h.write;
    sync = h.sync;
    from = h.from;
    behind = h.behind;
    until = h.until;
    written = went_more log x h.write d _ h.written;
    synced = went_more log x h.sync d _ h.synced;
    stays = λ k call behind until is on.
        let within : k < length log = omega (arith, until, made) in
        h.stays k call behind until (made_before log x k call within is) on;
  }

  done_more : (front : List Entry) (since stamp : ℕ) (t : Option VolumeWrite) → stamp ≤ length log → DoneFrom S.start log front since stamp t → DoneFrom S.start (log_after log x) front since stamp t
  done_more front since stamp None made h = tt
  done_more front since stamp (Some t) made h = record {
    disk = h.disk;
    at = h.at;
    row = h.row;
    some = on_more since stamp h.disk h.at t.value made h.some;
    each = λ d place row sound. on_more since stamp d place t.value made (h.each d place row sound);
  }

  value_more : (since stamp : ℕ) (kind : Option OpKind) → ValueFrom S.start log since stamp kind → ValueFrom S.start (log_after log x) since stamp kind
  value_more since stamp None h = h
  value_more since stamp (Some (OpWrite v s value)) h = h
  value_more since stamp (Some (OpRead v s)) h = record {
    read = h.read;
    disk = h.disk;
    place = h.place;
    from = h.from;
    until = h.until;
    row = h.row;
    went = went_more log x h.read h.disk _ h.went;
  }
  value_more since stamp (Some (OpWhole v)) h = h

  ack_more : (front : List Entry) (e : Entry) → e.stamp ≤ length log → AckFrom S.start S.asked.ops log front e.stamp e.event → AckFrom S.start S.asked.ops (log_after log x) front e.stamp e.event
  ack_more front e made h = at e.event h
    where
      at : (event : Event) → AckFrom S.start S.asked.ops log front e.stamp event → AckFrom S.start S.asked.ops (log_after log x) front e.stamp event
      at (Ack i Done) h = done_more front (submitted_from i 0 front) e.stamp (write_at S.asked.ops i) made h
      at (Ack i (Value v)) h = value_more (submitted_from i 0 front) e.stamp (kind_at S.asked.ops i) h
      at (Ack i Past) h = tt
      at (Ack i Failed) h = tt
      at (Ack i NoSpare) h = tt
      at _ h = tt

-- the entries up to n
at_each_below : (P Q : List Entry → Entry → Type 0) (n : ℕ) → ((front : List Entry) (e : Entry) → e.stamp ≤ n → P front e → Q front e) → (front xs : List Entry) → AllBelow n xs
    → AtEachFrom P front xs → AtEachFrom Q front xs
at_each_below P Q n f front [] below h = tt
at_each_below P Q n f front (x ∷ xs) below h = (f front x below.0 h.0, at_each_below P Q n f (front ++ x ∷ []) xs below.1 h.1)

-- AN ANSWER

module _ (S : Setting) (asks : AsksFirst S) (volume : IsFirstVolume S) (log : List Call) (journal : List Entry) (c : Control) (n : ℕ)
    (mine : Mine S c) (fits : Fits S c) (count : n ≡ length log) (calls : Calls S log journal c.clients) where
  done_from : (k i : ℕ) (left : List ℕ) → Has c k left (Busy i Written) → DoneFrom S.start log journal (submitted_from i 0 journal) n (write_at S.asked.ops i)
  done_from k i left here = subst (DoneFrom S.start log journal (submitted_from i 0 journal) n) (sym (write_is S asks volume i job.place job.placed (fits_of S c k i left Written fits here))) (record {
    disk = all.disk;
    at = at_row S (row_at S i);
    row = op_row S volume i all.disk job.place job.placed all.member;
    some = on all.disk (at_row S (row_at S i)) (op_row S volume i all.disk job.place job.placed all.member);
    each = λ d place row sound. on d place row;
  })
    where
      job : IsJob S k i Written
      job = of_job S c k i left Written mine here

      all : SyncedBut S log i (submitted_from i 0 journal) []
      all = step_calls S log journal c calls k i left Written here

      on : (d place : ℕ) → IsRowOn S.start 0 (row_at S i) d place → IsWrittenOn log (submitted_from i 0 journal) n d place (value_at S i)
      on d place row =
          subst (λ z. IsWrittenOn log (submitted_from i 0 journal) n d z (value_at S i)) (sym (op_place S volume i d place job.place job.placed row))
          (subst (λ z. IsWrittenOn log (submitted_from i 0 journal) z d (at_row S (row_at S i)) (value_at S i)) (sym count) (all.synced d (member_of_row S volume (row_at S i) d place row) refl))

  value_from : (k i : ℕ) (left : List ℕ) (v : Sector) → Has c k left (Busy i (Got v)) → ValueFrom S.start log (submitted_from i 0 journal) n (kind_at S.asked.ops i)
  value_from k i left v here = by (kind_at S.asked.ops i) refl (fits_of S c k i left (Got v) fits here)
    where
      job : IsJob S k i (Got v)
      job = of_job S c k i left (Got v) mine here

      got : IsGot S log i (submitted_from i 0 journal)
      got = step_calls S log journal c calls k i left (Got v) here

      read : IsRead S.start log (submitted_from i 0 journal) n 0 (row_at S i)
      read = record {
        read = got.read;
        disk = got.disk;
        place = at_row S (row_at S i);
        from = got.from;
        until = subst (λ z. got.read < z) (sym count) (slice_get_within log got.read _ got.went);
        row = op_row S volume i got.disk job.place job.placed got.member;
        went = got.went;
      }

      by : (kind : Option OpKind) → kind_at S.asked.ops i ≡ kind → is_read_kind kind ≡ true → ValueFrom S.start log (submitted_from i 0 journal) n kind
      by None is r = absurd cc
      by (Some (OpWrite w s value)) is r = absurd cc
      by (Some (OpRead w s)) is r =
          let zero_is : w.0 ≡ 0 = kind_first S.asked.ops i (OpRead w s) asks.volumes is in
          let sector : row_at S i ≡ s = row_is S volume.level i job.place job.placed ∙ ap sector_in is in
          subst (λ a. IsRead S.start log (submitted_from i 0 journal) n a s) (sym zero_is) (subst (IsRead S.start log (submitted_from i 0 journal) n 0) sector read)
      by (Some (OpWhole w)) is r = absurd cc

  ack_from : (k i : ℕ) (left : List ℕ) (step : JobStep) (answer : Answer) → Has c k left (Busy i step) → need_now S c k i step ≡ Answers answer → AckFrom S.start S.asked.ops log journal n (Ack i answer)
  ack_from k i left step answer here need = elim (answers_from S c k i step answer (needs S c k i step _ need (λ none. absurd cc))) [
    | inl done ↦ subst (λ z. AckFrom S.start S.asked.ops log journal n (Ack i z)) (sym done.1) (done_from k i left (subst (λ z. Has c k left (Busy i z)) done.0 here))
    | inr value ↦ subst (λ z. AckFrom S.start S.asked.ops log journal n (Ack i z)) (sym value.2) (value_from k i left value.0 (subst (λ z. Has c k left (Busy i z)) value.1 here))
  ]

  pub acks_turns : (got : Sector) {call : Option Call} {es : List Event} {next : Control} → Turns S c got call es next
      → AtEachFrom (λ front e. AckFrom S.start S.asked.ops (log_after log call) front e.stamp e.event) journal (stamped (calls_after n call) es)
  acks_turns got nothing = tt
  acks_turns got (fails d what asked) = tt
  acks_turns got (anchors m d ds is) = tt
  acks_turns got (settles m d e ds is) = tt
  acks_turns got (ends m d is) = (tt, tt)
  acks_turns got (begins d ds is some why) = (tt, tt)
  acks_turns got (readies is s t) = (tt, tt)
  acks_turns got (actives is s t r) = (tt, tt)
  acks_turns got (cleans is s t) = (tt, tt)
  acks_turns got (rests t calm) = (tt, tt)
  acks_turns got (pasts k i rest here none) = (tt, (tt, tt))
  acks_turns got (asks_read k i rest place here is w ready) = (tt, tt)
  acks_turns got (asks_write k i rest place here is w ready) = (tt, at c.state)
    where
      at : (state : State) → AtEachFrom (λ front e. AckFrom S.start S.asked.ops log front e.stamp e.event) (journal ++ record { stamp = n; event = Submit i } ∷ []) (stamped n (asked_events state))
      at IsReadonly = tt
      at IsReadAuto = (tt, tt)
      at IsClean = (tt, tt)
      at IsPending = tt
      at IsActive = tt
      at IsIdle = tt
  acks_turns got (puts k i left step d ds here need) = tt
  acks_turns got (syncs k i left step d ds here need) = tt
  acks_turns got (gets k i left step d here need) = tt
  acks_turns got (acks k i left step answer here need) = (ack_from k i left step answer here need, tt)

-- EACH RUN

pub answers_reached : (S : Setting) → AsksFirst S → IsFirstVolume S → (w : World) → Reached S w → AnswersFromRows S.start S.asked.ops w.log w.journal
answers_reached S asks volume w opens = tt
answers_reached S asks volume w (goes {w = v} r a) =
    let c = v.control in
    let x = call_of S c a in
    let counted = counted_reached S v r in
    at_each_more (λ front e. AckFrom S.start S.asked.ops (log_after v.log x) front e.stamp e.event) v.journal (stamped (calls_after v.calls x) (turned S c a).events)
    (at_each_below (λ front e. AckFrom S.start S.asked.ops v.log front e.stamp e.event) (λ front e. AckFrom S.start S.asked.ops (log_after v.log x) front e.stamp e.event) v.calls
    (λ front e below. ack_more S v.log x front e (subst (λ z. e.stamp ≤ z) counted.calls below))
    [] v.journal counted.below (answers_reached S asks volume v r))
    (acks_turns S asks volume v.log v.journal c v.calls (mine_reached S v r) (fits_reached S v r) counted.calls (calls_reached S volume v r) (got_of a) (turns_of S c a))
