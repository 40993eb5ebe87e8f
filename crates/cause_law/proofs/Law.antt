-- Each entry of a turn has its cause.
use Rattle.std.proofs.Common.{◌≡◌, ℕ, ◌+◌, ◌<◌, ◌≤◌, Bool, true, false, nat_lt, List, [], ◌∷◌, ◌++◌, refl, ap, sym, ◌∙◌, subst, arith, inl, inr, Option, Some, None}
use Rattle.std.proofs.lemmas.Bool.Decides.{nat_tests}
use Rattle.units.specs.declared.disk.Sector.{Sector}
use Rattle.device_log.specs.Log.{Call}
use Rattle.array_model.specs.declared.script.OpKind.{OpKind}
use Rattle.array_model.specs.declared.script.OpKind.TheVariants.{Write as OpWrite, Read as OpRead, Whole as OpWhole}
use Rattle.array_model.specs.declared.journal.Entry.{Entry}
use Rattle.array_model.specs.declared.journal.Event.{Event}
use Rattle.array_model.specs.declared.journal.Event.TheVariants.{Submit}
use Rattle.array_model.specs.declared.journal.Answer.{Answer}
use Rattle.array_model.specs.declared.journal.Answer.TheVariants.{Done, Value, Past, Failed, NoSpare}
use Rattle.array_model.specs.Script.{kind_at}
use Rattle.array_model.specs.Events.{AtEachFrom}
use Rattle.array_model.specs.Renewal.{FitsGeneration}
use Rattle.array_model.specs.Causes.{note_of, GoesOn, course_of, recorded_of, is_woken, ArrayClosed, woken, array_state_of, size_of, IsInState, IsReady, IsAskedFor, IsAnswerTo, IsCaused, AreCaused}
use Rattle.array_model.proofs.Journals.{at_each_more}
use Rattle.stage_machine.specs.Setting.{Setting, Renews}
use Rattle.stage_machine.specs.Opens.{AsksFirst, StandsOnAll, IsFirstVolume}
use Rattle.stage_machine.specs.States.{State, IsReadonly, IsReadAuto, IsClean, IsPending, IsActive, IsIdle, is_readonly, asked_events}
use Rattle.stage_machine.specs.Jobs.{placement_at, is_write, is_write_kind, Answers}
use Rattle.stage_machine.specs.Machine.{Control, World, Reached, opens, goes, stamped, calls_after, turned, call_of, got_of}
use Rattle.stage_machine.proofs.Turns.{Turns, turns_of, IsPast, is_row_kind, nothing, fails, anchors, settles, ends, begins, readies, actives, cleans, rests, pasts, asks_read, asks_write, puts, syncs, gets, acks}
use Rattle.stage_machine.proofs.Clients.{Mine, mine_reached, of_job, kind_first}
use Rattle.stage_machine.proofs.Stands.{fitted}
use Rattle.answer_law.proofs.JobKinds.{is_read, is_read_kind, Fits, fits_reached, NeedFits, need_is}
use Rattle.cause_law.proofs.States.{is_place, op_placed, inside_of, told_by, told_asked, told_reached}
use Rattle.cause_law.proofs.Courses.{note_reached, resting_course, phase_course, course_by, course_reached, HasNote, has_note_reached}
use Rattle.cause_law.proofs.Recorded.{Records, records_reached, begins_due, woken_by}
use Rattle.cause_law.proofs.Answered.{AreShown, shown_reached, all_answered}

-- what the journal tells, and what the clients do
pub record Kept (S : Setting) (c : Control) (journal : List Entry) : Type 0 where
  pub state : array_state_of S.start S.asked.ops journal 0 ≡ told_by c.state
  pub note : note_of S.start journal ≡ c.round.note
  pub course : course_of journal ≡ course_by c.round
  pub generation : HasNote S c.round.note c.round.phase
  pub recorded : Records S c.round (recorded_of S.start S.asked.ops journal)
  pub shown : AreShown c.clients journal
  pub mine : Mine S c
  pub fits : Fits S c

pub kept_reached : (S : Setting) → AsksFirst S → Renews S → StandsOnAll S → IsFirstVolume S → (w : World) → FitsGeneration w.control.round.note → Reached S w → Kept S w.control w.journal
kept_reached S asks renews on volume w fits r = record {
  state = told_reached S asks volume w r;
  note = note_reached S w r;
  course = course_reached S w r;
  generation = has_note_reached S renews on w fits r;
  recorded = records_reached S asks renews on volume w fits r;
  shown = shown_reached S w r;
  mine = mine_reached S w r;
  fits = fits_reached S w r;
}

-- ANSWERS

module _ (S : Setting) (asks : AsksFirst S) (volume : IsFirstVolume S) (front : List Entry) (i : ℕ) where
  below : (v s : ℕ) → v ≡ 0 → nat_lt s (size_of S.start 0) ≡ true → s < size_of S.start v
  below v s is lt = subst (λ z. s < size_of S.start z) (sym is) (let less : s < size_of S.start 0 = grind (arith, nat_tests, lt) in less)

  above : (v s : ℕ) → v ≡ 0 → nat_lt s (size_of S.start 0) ≡ false → size_of S.start v ≤ s
  above v s is lt = subst (λ z. size_of S.start z ≤ s) (sym is) (let more : size_of S.start 0 ≤ s = grind (arith, nat_tests, lt) in more)

  -- a read or a write of no sector is past
  past_caused : (c : Control) → IsPast S c i → IsAnswerTo S.start front (kind_at S.asked.ops i) Past
  past_caused c past = at (kind_at S.asked.ops i) refl past.taken.row
    where
      at : (kind : Option OpKind) → kind_at S.asked.ops i ≡ kind → is_row_kind kind ≡ true → IsAnswerTo S.start front kind Past
      at None is row = absurd cc
      at (Some (OpWrite v s value)) is row =
          above v.0 s (kind_first S.asked.ops i _ asks.volumes is) (sym (op_placed S volume i _ is) ∙ ap (λ p. is_place p) past.none)
      at (Some (OpRead v s)) is row =
          above v.0 s (kind_first S.asked.ops i _ asks.volumes is) (sym (op_placed S volume i _ is) ∙ ap (λ p. is_place p) past.none)
      at (Some (OpWhole v)) is row = absurd cc

  done_caused : is_place (placement_at S i) ≡ true → is_write S i ≡ true → IsAnswerTo S.start front (kind_at S.asked.ops i) Done
  done_caused placed w = at (kind_at S.asked.ops i) refl w
    where
      at : (kind : Option OpKind) → kind_at S.asked.ops i ≡ kind → is_write_kind kind ≡ true → IsAnswerTo S.start front kind Done
      at None is w = absurd cc
      at (Some (OpWrite v s value)) is w = below v.0 s (kind_first S.asked.ops i _ asks.volumes is) (sym (op_placed S volume i _ is) ∙ placed)
      at (Some (OpRead v s)) is w = absurd cc
      at (Some (OpWhole v)) is w = absurd cc

  value_caused : (x : Sector) → is_place (placement_at S i) ≡ true → is_read S i ≡ true → IsAnswerTo S.start front (kind_at S.asked.ops i) (Value x)
  value_caused x placed r = at (kind_at S.asked.ops i) refl r
    where
      at : (kind : Option OpKind) → kind_at S.asked.ops i ≡ kind → is_read_kind kind ≡ true → IsAnswerTo S.start front kind (Value x)
      at None is r = absurd cc
      at (Some (OpWrite v s value)) is r = absurd cc
      at (Some (OpRead v s)) is r = below v.0 s (kind_first S.asked.ops i _ asks.volumes is) (sym (op_placed S volume i _ is) ∙ placed)
      at (Some (OpWhole v)) is r = absurd cc

  -- a job answers as its operation asks
  answer_caused : (answer : Answer) → is_place (placement_at S i) ≡ true → NeedFits S i (Answers answer) → IsAnswerTo S.start front (kind_at S.asked.ops i) answer
  answer_caused Done placed h = done_caused placed h
  answer_caused (Value x) placed h = value_caused x placed h
  answer_caused Past placed h = absurd h
  answer_caused Failed placed h = absurd h
  answer_caused NoSpare placed h = absurd h

-- TURNS

write_row : (kind : Option OpKind) → is_write_kind kind ≡ true → is_row_kind kind ≡ true
write_row None w = absurd cc
write_row (Some (OpWrite v s value)) w = refl
write_row (Some (OpRead v s)) w = absurd cc
write_row (Some (OpWhole v)) w = absurd cc

not_closed : (state : State) → is_readonly state ≡ false → told_by state ≡ ArrayClosed → ⊥
not_closed IsReadonly ready closed = absurd cc
not_closed IsReadAuto ready closed = absurd cc
not_closed IsClean ready closed = absurd cc
not_closed IsPending ready closed = absurd cc
not_closed IsActive ready closed = absurd cc
not_closed IsIdle ready closed = absurd cc

module _ (S : Setting) (asks : AsksFirst S) (volume : IsFirstVolume S) (c : Control) (got : Sector) (n : ℕ) (journal : List Entry) (kept : Kept S c journal) where
  is_told : (state : State) → c.state ≡ state → IsInState S.start S.asked.ops journal 0 (told_by state)
  is_told state is = record { started = volume.started; state = kept.state ∙ ap told_by is }

  -- an operation is submitted where the volume is ready
  taken_caused : (i : ℕ) → is_row_kind (kind_at S.asked.ops i) ≡ true → is_readonly c.state ≡ false → IsAskedFor S.start S.asked.ops journal (kind_at S.asked.ops i)
  taken_caused i row ready = at (kind_at S.asked.ops i) refl row
    where
      first : (v : ℕ) → v ≡ 0 → IsReady S.start S.asked.ops journal v
      first v is = subst (IsReady S.start S.asked.ops journal) (sym is) (record { started = volume.started; ready = λ closed. not_closed c.state ready (sym kept.state ∙ closed) })

      at : (kind : Option OpKind) → kind_at S.asked.ops i ≡ kind → is_row_kind kind ≡ true → IsAskedFor S.start S.asked.ops journal kind
      at None is row = absurd cc
      at (Some (OpWrite v s value)) is row = first v.0 (kind_first S.asked.ops i _ asks.volumes is)
      at (Some (OpRead v s)) is row = first v.0 (kind_first S.asked.ops i _ asks.volumes is)
      at (Some (OpWhole v)) is row = absurd cc

  abbrev Caused : List Entry → Event → Type 0
  Caused front e = IsCaused S.start S.asked.ops front e

  pub caused_turns : {call : Option Call} {es : List Event} {next : Control} → Turns S c got call es next → AtEachFrom (λ front e. Caused front e.event) journal (stamped n es)
  caused_turns nothing = tt
  caused_turns (fails d what asked) = tt
  caused_turns (anchors m d ds is) = tt
  caused_turns (settles m d e ds is) = tt
  caused_turns (ends m d is) =
      let generation : S.start.words.generation m.anchor ≡ c.round.note = subst (HasNote S c.round.note) is kept.generation in
      (kept.course ∙ ap (phase_course c.round.started c.round.note) is ∙ ap (λ g. GoesOn g) (sym generation), tt)
  caused_turns (begins d ds is some why) =
      let course = kept.course ∙ ap (phase_course c.round.started c.round.note) is in
      ((begins_due S c journal kept.state course kept.recorded is why, ap (λ k. k + 1) (sym kept.note)), tt)
  caused_turns (readies is s t) =
      ((is_told IsReadonly t, kept.course ∙ ap (phase_course c.round.started c.round.note) is ∙ ap resting_course s), tt)
  caused_turns (actives is s t r) =
      ((is_told IsPending t, kept.course ∙ ap (phase_course c.round.started c.round.note) is ∙ ap resting_course s), tt)
  caused_turns (cleans is s t) = (is_told IsIdle t, tt)
  caused_turns (rests t calm) = ((is_told IsActive t, all_answered S asks volume c.clients journal calm kept.shown), tt)
  caused_turns (pasts k i rest has past) = (taken_caused i past.taken.row past.taken.ready, (past_caused S asks volume _ i c past, tt))
  caused_turns (asks_read k i rest place has is w taken) = (taken_caused i taken.row taken.ready, tt)
  caused_turns (asks_write k i rest place has is w ready) = (taken_caused i (write_row (kind_at S.asked.ops i) w) ready, at c.state refl)
    where
      behind : List Entry
      behind = journal ++ record { stamp = n; event = Submit i } ∷ []

      wakes : is_woken S.start S.asked.ops behind 0 ≡ true
      wakes = woken_by S.start S.asked.ops 0 n i journal (inside_of S asks volume i w (ap (λ p. is_place p) is))

      told_behind : (state : State) → c.state ≡ state → woken (told_by state) ≡ told_by state → IsInState S.start S.asked.ops behind 0 (told_by state)
      told_behind state t stays = record { started = volume.started; state = told_asked S.start S.asked.ops 0 (told_by state) journal n i (kept.state ∙ ap told_by t) stays }

      at : (state : State) → c.state ≡ state → AtEachFrom (λ front e. Caused front e.event) behind (stamped n (asked_events state))
      at IsReadonly t = tt
      at IsReadAuto t = ((inl (told_behind IsReadAuto t refl), wakes), tt)
      at IsClean t = ((inr (told_behind IsClean t refl), wakes), tt)
      at IsPending t = tt
      at IsActive t = tt
      at IsIdle t = tt
  caused_turns (puts k i left step d ds has need) = tt
  caused_turns (syncs k i left step d ds has need) = tt
  caused_turns (gets k i left step d has need) = tt
  caused_turns (acks k i left step answer has need) =
      let placed = ap (λ p. is_place p) (of_job S c k i left step kept.mine has).placed in
      (answer_caused S asks volume journal i answer placed (need_is S c k i left step _ kept.fits has need), tt)

pub caused_reached : (S : Setting) → AsksFirst S → Renews S → StandsOnAll S → IsFirstVolume S → (w : World) → FitsGeneration w.control.round.note → Reached S w
    → AreCaused S.start S.asked.ops w.journal
caused_reached S asks renews on volume w fits opens = tt
caused_reached S asks renews on volume w fits (goes {w = v} r a) =
    let before = fitted S v a fits in
    let n = calls_after v.calls (call_of S v.control a) in
    at_each_more (λ front e. IsCaused S.start S.asked.ops front e.event) v.journal (stamped n (turned S v.control a).events)
    (caused_reached S asks renews on volume v before r)
    (caused_turns S asks volume v.control (got_of a) n v.journal (kept_reached S asks renews on volume v before r) (turns_of S v.control a))
