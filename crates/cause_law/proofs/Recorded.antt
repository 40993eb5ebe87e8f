-- The dirty bit that the journal tells is that of the round begun last, and a round that begins is due.
use Rattle.std.proofs.Common.{◌≡◌, ℕ, not, Bool, true, false, List, [], ◌∷◌, ◌++◌, refl, ap, sym, ◌∙◌, subst, ◌⊎◌, inl, inr, Option}
use Rattle.units.specs.declared.disk.Sector.{Sector}
use Rattle.device_log.specs.Log.{Call}
use Rattle.array_model.specs.declared.script.Op.{Op}
use Rattle.array_model.specs.declared.journal.Entry.{Entry}
use Rattle.array_model.specs.declared.journal.Event.{Event}
use Rattle.array_model.specs.declared.journal.Event.TheVariants.{Submit}
use Rattle.array_model.specs.Renewal.{FitsGeneration}
use Rattle.array_model.specs.Start.{Start}
use Rattle.array_model.specs.Causes.{ArrayState, ArrayClosed, array_state_at, array_state_from, array_state_of, needs_dirty, recorded_at, recorded_from, recorded_of, IsDueIn, IsDueBy, IsDue, course_of, wakes_at, wakes_from, is_woken}
use Rattle.stage_machine.specs.Setting.{Setting, Renews}
use Rattle.stage_machine.specs.Opens.{AsksFirst, StandsOnAll, IsFirstVolume}
use Rattle.stage_machine.specs.Rounds.{AtAnchor, AtSync, Phase, Rest, Going, Round}
use Rattle.stage_machine.specs.States.{State, IsReadonly, IsReadAuto, IsClean, IsPending, IsActive, IsIdle, is_due, next_dirty, asked_events}
use Rattle.stage_machine.specs.Machine.{Control, World, Reached, opens, goes, stamped, calls_after, turned, call_of, got_of}
use Rattle.stage_machine.proofs.Turns.{Turns, turns_of, nothing, fails, anchors, settles, ends, begins, readies, actives, cleans, rests, pasts, asks_read, asks_write, puts, syncs, gets, acks}
use Rattle.stage_machine.proofs.Stands.{GoodRound, good_reached, renewed, fitted}
use Rattle.cause_law.proofs.States.{told_by, told_reached}
use Rattle.cause_law.proofs.Courses.{resting_course}

-- WHAT IS RECORDED

pub needs_state : (state : State) → needs_dirty (told_by state) ≡ next_dirty state
needs_state IsReadonly = refl
needs_state IsReadAuto = refl
needs_state IsClean = refl
needs_state IsPending = refl
needs_state IsActive = refl
needs_state IsIdle = refl

-- the bit of the round that goes on, or of the book once a round has ended
abbrev pub RecordsIn : Setting → Round → Phase → Bool → Type 0
RecordsIn S r Rest recorded = r.started ≡ true → recorded ≡ S.start.words.is_dirty r.book 0
RecordsIn S r (Going m step left) recorded = recorded ≡ S.start.words.is_dirty m 0

abbrev pub Records : Setting → Round → Bool → Type 0
Records S r recorded = RecordsIn S r r.phase recorded

recorded-append : (start : Start) (ops : List Op) (told : ArrayState) (b : Bool) (xs ys : List Entry)
    → recorded_from start ops told b (xs ++ ys) ≡ recorded_from start ops (array_state_from start ops 0 told xs) (recorded_from start ops told b xs) ys
recorded-append start ops told b [] ys = refl
recorded-append start ops told b (x ∷ xs) ys = recorded-append start ops (array_state_at start ops 0 told x.event) (recorded_at told b x.event) xs ys

module _ (S : Setting) (renews : Renews S) (on : StandsOnAll S) (c : Control) (good : GoodRound S c.round) (recorded : Bool) (old : Records S c.round recorded) (n : ℕ) where
  abbrev record_now : List Event → Bool
  record_now es = recorded_from S.start S.asked.ops (told_by c.state) recorded (stamped n es)

  at_phase : (phase : Phase) → c.round.phase ≡ phase → RecordsIn S c.round phase recorded
  at_phase phase is = subst (λ p. RecordsIn S c.round p recorded) is old

  records_turns : (got : Sector) {call : Option Call} {es : List Event} {next : Control} → Turns S c got call es next → FitsGeneration next.round.note → Records S next.round (record_now es)
  records_turns got nothing fits = old
  records_turns got (fails d what asked) fits = old
  records_turns got (anchors m d ds is) fits = at_phase (Going m AtAnchor (d ∷ ds)) is
  records_turns got (settles m d e ds is) fits = at_phase (Going m AtSync (d ∷ e ∷ ds)) is
  records_turns got (ends m d is) fits = λ yet. at_phase (Going m AtSync (d ∷ [])) is
  records_turns got (begins d ds is some why) fits =
      needs_state c.state ∙ sym (renewed S renews on c.round d ds (next_dirty c.state) some fits good).dirty
  records_turns got (readies is s t) fits = old
  records_turns got (actives is s t r) fits = old
  records_turns got (cleans is s t) fits = old
  records_turns got (rests t calm) fits = old
  records_turns got (pasts k i rest has past) fits = old
  records_turns got (asks_read k i rest place has is w ready) fits = old
  records_turns got (asks_write k i rest place has is w ready) fits = subst (Records S c.round) (sym (at c.state)) old
    where
      at : (state : State) → recorded_from S.start S.asked.ops (told_by state) recorded (stamped n (Submit i ∷ asked_events state)) ≡ recorded
      at IsReadonly = refl
      at IsReadAuto = refl
      at IsClean = refl
      at IsPending = refl
      at IsActive = refl
      at IsIdle = refl
  records_turns got (puts k i left step d ds has need) fits = old
  records_turns got (syncs k i left step d ds has need) fits = old
  records_turns got (gets k i left step d has need) fits = old
  records_turns got (acks k i left step answer has need) fits = old

pub records_reached : (S : Setting) → AsksFirst S → Renews S → StandsOnAll S → IsFirstVolume S → (w : World) → FitsGeneration w.control.round.note → Reached S w
    → Records S w.control.round (recorded_of S.start S.asked.ops w.journal)
records_reached S asks renews on volume w fits opens = λ yet. absurd cc
records_reached S asks renews on volume w fits (goes {w = v} r a) =
    let before = fitted S v a fits in
    let n = calls_after v.calls (call_of S v.control a) in
    let new = stamped n (turned S v.control a).events in
    let told = told_reached S asks volume v r in
    subst (Records S (turned S v.control a).next.round)
    (sym (recorded-append S.start S.asked.ops ArrayClosed false v.journal new ∙ ap (λ t. recorded_from S.start S.asked.ops t (recorded_of S.start S.asked.ops v.journal) new) told))
    (records_turns S renews on v.control (good_reached S renews on v before r) (recorded_of S.start S.asked.ops v.journal) (records_reached S asks renews on volume v before r) n
    (got_of a) (turns_of S v.control a) fits)

-- A ROUND THAT BEGINS IS DUE

due_in : (state : State) (dirty : Bool) → is_due state dirty ≡ true → IsDueIn (told_by state) dirty
due_in IsReadonly dirty h = absurd cc
due_in IsReadAuto dirty h = h
due_in IsClean dirty h = h
due_in IsPending true h = absurd cc
due_in IsPending false h = refl
due_in IsActive dirty h = absurd cc
due_in IsIdle dirty h = absurd cc

pub begins_due : (S : Setting) (c : Control) (journal : List Entry) → array_state_of S.start S.asked.ops journal 0 ≡ told_by c.state → course_of journal ≡ resting_course c.round.started
    → Records S c.round (recorded_of S.start S.asked.ops journal) → c.round.phase ≡ Rest
    → (c.round.started ≡ false) ⊎ (is_due c.state (S.start.words.is_dirty c.round.book 0) ≡ true) → IsDue S.start S.asked.ops journal
begins_due S c journal told course records rest why =
    subst (λ k. IsDueBy k (array_state_of S.start S.asked.ops journal 0) (recorded_of S.start S.asked.ops journal)) (sym course) (at c.round.started refl)
  where
    due : c.round.started ≡ true → is_due c.state (S.start.words.is_dirty c.round.book 0) ≡ true
    due yet = elim why [
      | inl never ↦ absurd (cc (never, yet))
      | inr is ↦ is
    ]

    at : (started : Bool) → c.round.started ≡ started → IsDueBy (resting_course started) (array_state_of S.start S.asked.ops journal 0) (recorded_of S.start S.asked.ops journal)
    at false never = tt
    at true yet =
        let recorded : recorded_of S.start S.asked.ops journal ≡ S.start.words.is_dirty c.round.book 0 = subst (λ p. RecordsIn S c.round p (recorded_of S.start S.asked.ops journal)) rest records yet in
        subst (λ t. IsDueIn t (recorded_of S.start S.asked.ops journal)) (sym told)
        (subst (IsDueIn (told_by c.state)) (sym recorded) (due_in c.state (S.start.words.is_dirty c.round.book 0) (due yet)))

-- A SUBMIT

wakes-append : (start : Start) (ops : List Op) (v : ℕ) (b : Bool) (xs ys : List Entry) → wakes_from start ops v b (xs ++ ys) ≡ wakes_from start ops v (wakes_from start ops v b xs) ys
wakes-append start ops v b [] ys = refl
wakes-append start ops v b (x ∷ xs) ys = wakes-append start ops v (wakes_at start ops v x.event) xs ys

-- the last entry is a submit of a write to the volume
pub woken_by : (start : Start) (ops : List Op) (v n i : ℕ) (journal : List Entry) → wakes_at start ops v (Submit i) ≡ true → is_woken start ops (journal ++ record { stamp = n; event = Submit i } ∷ []) v ≡ true
woken_by start ops v n i journal inside = wakes-append start ops v false journal (record { stamp = n; event = Submit i } ∷ []) ∙ inside
