-- Each call has its cause in what was entered before it, over every run.
use Rattle.std.proofs.Common.{◌≡◌, ℕ, ◌+◌, ◌<◌, ◌≤◌, true, false, nat_le, List, [], ◌∷◌, ◌++◌, length, refl, ap, sym, ◌∙◌, subst, arith, inl, inr, Option, Some, None}
use Rattle.std.specs.Prelude.{⊤}
use Rattle.std.proofs.lemmas.Bool.Decides.{nat_tests}
use Rattle.std.proofs.lemmas.List.{append-nil}
use Rattle.std.proofs.lemmas.List.Elements.{filter-append}
use Rattle.units.specs.declared.disk.Sector.{Sector}
use Rattle.device_log.specs.Log.{Call, What}
use Rattle.array_model.specs.declared.script.OpKind.{OpKind}
use Rattle.array_model.specs.declared.script.OpKind.TheVariants.{Write as OpWrite, Read as OpRead, Whole as OpWhole}
use Rattle.array_model.specs.declared.journal.Entry.{Entry}
use Rattle.array_model.specs.declared.journal.Event.{Event}
use Rattle.array_model.specs.Script.{kind_at}
use Rattle.array_model.specs.Blocks.{Laid}
use Rattle.array_model.specs.Events.{is_live, up_to}
use Rattle.array_model.specs.Moments.{AllBelow, EachCallFrom}
use Rattle.array_model.specs.Renewal.{FitsGeneration}
use Rattle.array_model.specs.RowCalls.{IsRowOn, IsInRound, IsUnderWay, IsWriting, IsReading, HasCause, CallsHaveCauses}
use Rattle.array_model.specs.Causes.{GoesOn, course_of}
use Rattle.stage_machine.specs.Setting.{Setting, Renews, has_disk}
use Rattle.stage_machine.specs.Opens.{AsksFirst, StandsOnAll, IsFirstVolume}
use Rattle.stage_machine.specs.Rounds.{Step, AtAnchor, AtSync, Going}
use Rattle.stage_machine.specs.Jobs.{JobStep, Busy, Need, NoNeed, row_at, value_at, is_write, sector_in, Reads, Writes, Syncs}
use Rattle.stage_machine.specs.Machine.{Control, need_now, World, Reached, opens, goes, call_of, got_of, turned, stamped, calls_after, log_after}
use Rattle.stage_machine.proofs.Turns.{Turns, turns_of, Has, AsksFor, anchor, settle, put, sync, get, nothing, fails, anchors, settles, ends, begins, readies, actives, cleans, rests, pasts, asks_read, asks_write, puts, syncs, gets, acks}
use Rattle.stage_machine.proofs.Moments.{counted_reached}
use Rattle.stage_machine.proofs.Clients.{Mine, mine_reached, of_job, IsJob, NeedIn, need_in, kind_first}
use Rattle.stage_machine.proofs.Stands.{GoodRound, going_good, good_reached, fitted}
use Rattle.stage_machine.proofs.Finished.{LeftIn, left_reached}
use Rattle.answer_law.proofs.JobKinds.{Fits, fits_reached, is_read_kind, need_is}
use Rattle.answer_law.proofs.Rows.{at_row, row_is, write_is}
use Rattle.gate_law.proofs.Live.{live, live_reached, WritesLive, writes_reached, goes_active}
use Rattle.cause_law.proofs.Courses.{phase_course, course_by, course_reached, HasNote, has_note_reached}
use Rattle.row_law.proofs.Places.{op_row}
use Rattle.row_law.proofs.UnderWay.{under_way}

-- WHAT IS ASKED HAS A CAUSE

abbrev AskedOf : Setting → Control → Option Call → Type 0
AskedOf S c None = ⊤
AskedOf S c (Some x) = AsksFor S c x.disk x.what

asked_turns : (S : Setting) (c : Control) (got : Sector) {call : Option Call} {es : List Event} {next : Control} → Turns S c got call es next → AskedOf S c call
asked_turns S c got nothing = tt
asked_turns S c got (fails d what asked) = asked
asked_turns S c got (anchors m d ds is) = anchor m d ds 1 is
asked_turns S c got (settles m d e ds is) = settle m d (e ∷ ds) is
asked_turns S c got (ends m d is) = settle m d [] is
asked_turns S c got (begins d ds is some why) = tt
asked_turns S c got (readies is s t) = tt
asked_turns S c got (actives is s t r) = tt
asked_turns S c got (cleans is s t) = tt
asked_turns S c got (rests t calm) = tt
asked_turns S c got (pasts k i rest here none) = tt
asked_turns S c got (asks_read k i rest place here is w ready) = tt
asked_turns S c got (asks_write k i rest place here is w ready) = tt
asked_turns S c got (puts k i left step d ds here need) = put k i left step d ds 1 here need
asked_turns S c got (syncs k i left step d ds here need) = sync k i left step d ds here need
asked_turns S c got (gets k i left step d here need) = get k i left step d here need
asked_turns S c got (acks k i left step answer here need) = tt

module _ (S : Setting) (asks : AsksFirst S) (on : StandsOnAll S) (volume : IsFirstVolume S) (c : Control) (journal : List Entry) (mine : Mine S c) (fits : Fits S c)
    (good : GoodRound S c.round) (targets : LeftIn S c.round.phase) (course : course_of journal ≡ course_by c.round) (note : HasNote S c.round.note c.round.phase)
    (busy : (k i : ℕ) (left : List ℕ) (step : JobStep) → Has c k left (Busy i step) → IsUnderWay journal i)
    (word : is_live 0 journal ≡ live c.state) (writable : WritesLive S c.state c.clients) where
  abbrev in_round : (m : Laid) (step : Step) (d : ℕ) (ds : List ℕ) → c.round.phase ≡ Going m step (d ∷ ds) → IsInRound S.start journal d
  in_round m step d ds is = record {
    generation = S.start.words.generation m.anchor;
    goes_on = course ∙ ap (phase_course c.round.started c.round.note) is ∙ ap (λ g. GoesOn g) (sym (subst (HasNote S c.round.note) is note));
    target = on.expected d ∙ (subst (LeftIn S) is targets).0;
  }

  -- a write's job that needs something finds the volume active
  live_at_write : (k i : ℕ) (left : List ℕ) (step : JobStep) (need : Need) → Has c k left (Busy i step) → need_now S c k i step ≡ need → (NoNeed ≡ need → ⊥) → is_write S i ≡ true
      → is_live 0 journal ≡ true
  live_at_write k i left step need here is some w = word ∙ ap live (goes_active S c k i left step need writable here is some w)

  abbrev writing : (k i : ℕ) (left : List ℕ) (step : JobStep) (d : ℕ) → Has c k left (Busy i step) → has_disk d S.members ≡ true → is_write S i ≡ true → is_live 0 journal ≡ true
      → IsWriting S.start S.asked.ops journal d (at_row S (row_at S i))
  writing k i left step d here member w alive =
      let job : IsJob S k i step = of_job S c k i left step mine here in
      record {
        op = i;
        under_way = busy k i left step here;
        target = record { volume = 0; sector = row_at S i; value = value_at S i };
        asks = write_is S asks volume i job.place job.placed w;
        live = alive;
        row = op_row S volume i d job.place job.placed member;
      }

  reading : (k i : ℕ) (left : List ℕ) (step : JobStep) (d : ℕ) → Has c k left (Busy i step) → has_disk d S.members ≡ true → (kind : Option OpKind) → kind_at S.asked.ops i ≡ kind → is_read_kind kind ≡ true
      → IsReading S.start S.asked.ops journal d (at_row S (row_at S i))
  reading k i left step d here member None is r = absurd cc
  reading k i left step d here member (Some (OpWrite v s value)) is r = absurd cc
  reading k i left step d here member (Some (OpRead v s)) is r =
      let job : IsJob S k i step = of_job S c k i left step mine here in
      let zero_is : v.0 ≡ 0 = kind_first S.asked.ops i (OpRead v s) asks.volumes is in
      let sector : row_at S i ≡ s = row_is S volume.level i job.place job.placed ∙ ap sector_in is in
      record {
        op = i;
        under_way = busy k i left step here;
        volume = v;
        sector = s;
        asks = is;
        row = subst (λ a. IsRowOn S.start a s d (at_row S (row_at S i))) (sym zero_is)
            (subst (λ b. IsRowOn S.start 0 b d (at_row S (row_at S i))) sector (op_row S volume i d job.place job.placed member));
      }
  reading k i left step d here member (Some (OpWhole v)) is r = absurd cc

  cause_asked : (d : ℕ) (what : What) → AsksFor S c d what → HasCause S.start S.asked.ops journal d what
  cause_asked _ _ (anchor m d ds stored is) = inl (record { round = in_round m AtAnchor d ds is; anchor = m.anchor; at_anchor = refl; brings = refl; of_round = refl; alone = (going_good S c.round m AtAnchor (d ∷ ds) good is).alone.extra })
  cause_asked _ _ (settle m d ds is) = inl (in_round m AtSync d ds is)
  cause_asked _ _ (put k i left step d ds stored here need) =
      let member = (subst (NeedIn S.members) need (need_in S c k i step (of_job S c k i left step mine here).inside)).0 in
      let w = need_is S c k i left step (Writes d ds) fits here need in
      inr (writing k i left step d here member w (live_at_write k i left step _ here need (λ none. absurd cc) w), refl)
  cause_asked _ _ (sync k i left step d ds here need) =
      let member = (subst (NeedIn S.members) need (need_in S c k i step (of_job S c k i left step mine here).inside)).0 in
      let w = need_is S c k i left step (Syncs d ds) fits here need in
      inr (at_row S (row_at S i), writing k i left step d here member w (live_at_write k i left step _ here need (λ none. absurd cc) w))
  cause_asked _ _ (get k i left step d here need) =
      let member : has_disk d S.members ≡ true = subst (NeedIn S.members) need (need_in S c k i step (of_job S c k i left step mine here).inside) in
      reading k i left step d here member (kind_at S.asked.ops i) refl (need_is S c k i left step (Reads d) fits here need)

-- A LONGER LOG

-- entries stamped above n aren't among those up to n
up_to_none : (n m : ℕ) (es : List Event) → n < m → up_to n (stamped m es) ≡ []
up_to_none n m [] lt = refl
up_to_none n m (e ∷ es) lt = let above : nat_le m n ≡ false = grind (arith, nat_tests, lt) in rw above (up_to_none n m es lt)

up_to_same : (n m : ℕ) (journal : List Entry) (es : List Event) → n < m → up_to n (journal ++ stamped m es) ≡ up_to n journal
up_to_same n m journal es lt = filter-append _ journal (stamped m es) ∙ ap (λ new. up_to n journal ++ new) (up_to_none n m es lt) ∙ append-nil (up_to n journal)

up_to_all : (n : ℕ) (journal : List Entry) → AllBelow n journal → up_to n journal ≡ journal
up_to_all n [] below = refl
up_to_all n (x ∷ xs) below = let in_time : nat_le x.stamp n ≡ true = grind (arith, nat_tests, below.0) in rw in_time (ap (λ ys. x ∷ ys) (up_to_all n xs below.1))

each_same : (P Q : ℕ → Call → Type 0) (n k : ℕ) (log : List Call) → n ≡ k + length log → ((b : ℕ) (call : Call) → b < n → P b call → Q b call) → EachCallFrom P k log → EachCallFrom Q k log
each_same P Q n k [] count f h = tt
each_same P Q n k (x ∷ log) count f h = (f k x (omega (arith, count)) h.0, each_same P Q n (k + 1) log (omega (arith, count)) f h.1)

each_last : (P : ℕ → Call → Type 0) (n k : ℕ) (log : List Call) (x : Call) → n ≡ k + length log → EachCallFrom P k log → P n x → EachCallFrom P k (log ++ x ∷ [])
each_last P n k [] x count h last = (let is : n ≡ k = omega (arith, count) in subst (λ b. P b x) is last, tt)
each_last P n k (y ∷ log) x count h last = (h.0, each_last P n (k + 1) log x (omega (arith, count)) h.1 last)

module _ (S : Setting) (log : List Call) (journal : List Entry) (n : ℕ) (count : n ≡ length log) (stamps : AllBelow n journal) (es : List Event) where
  -- the calls that were made before
  causes_before : (m : ℕ) → n ≤ m → CallsHaveCauses S.start S.asked.ops log journal → EachCallFrom (λ before call. HasCause S.start S.asked.ops (up_to before (journal ++ stamped m es)) call.disk call.what) 0 log
  causes_before m le h =
      each_same (λ before call. HasCause S.start S.asked.ops (up_to before journal) call.disk call.what) (λ before call. HasCause S.start S.asked.ops (up_to before (journal ++ stamped m es)) call.disk call.what)
      n 0 log (omega (arith, count))
      (λ before call lt cause. subst (λ front. HasCause S.start S.asked.ops front call.disk call.what) (sym (up_to_same before m journal es (omega (arith, lt, le)))) cause) h

  causes_more : (x : Option Call) → ((y : Call) → x ≡ Some y → HasCause S.start S.asked.ops journal y.disk y.what) → CallsHaveCauses S.start S.asked.ops log journal
      → CallsHaveCauses S.start S.asked.ops (log_after log x) (journal ++ stamped (calls_after n x) es)
  causes_more None cause h = causes_before n (omega arith) h
  causes_more (Some y) cause h =
      let now : up_to n (journal ++ stamped (n + 1) es) ≡ journal = up_to_same n (n + 1) journal es (omega arith) ∙ up_to_all n journal stamps in
      each_last (λ before call. HasCause S.start S.asked.ops (up_to before (journal ++ stamped (n + 1) es)) call.disk call.what) n 0 log y (omega (arith, count)) (causes_before (n + 1) (omega arith) h)
      (subst (λ front. HasCause S.start S.asked.ops front y.disk y.what) (sym now) (cause y refl))

-- EACH RUN

pub causes_reached : (S : Setting) → AsksFirst S → Renews S → StandsOnAll S → IsFirstVolume S → (w : World) → FitsGeneration w.control.round.note → Reached S w → CallsHaveCauses S.start S.asked.ops w.log w.journal
causes_reached S asks renews on volume w fits opens = tt
causes_reached S asks renews on volume w fits (goes {w = v} r a) =
    let c = v.control in
    let before = fitted S v a fits in
    let counted = counted_reached S v r in
    causes_more S v.log v.journal v.calls counted.calls counted.below (turned S c a).events (call_of S c a)
    (λ y is.
    cause_asked S asks on volume c v.journal (mine_reached S v r) (fits_reached S v r) (good_reached S renews on v before r) (left_reached S renews on v before r) (course_reached S v r) (has_note_reached S renews on v before r)
    (under_way S asks v r) (live_reached S v r) (writes_reached S v r)
    y.disk y.what (subst (AskedOf S c) is (asked_turns S c (got_of a) (turns_of S c a))))
    (causes_reached S asks renews on volume v before r)
