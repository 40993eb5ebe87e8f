-- The rounds that the journal tells are those of the machine.
use Rattle.std.proofs.Common.{◌≡◌, ℕ, Bool, true, false, List, [], ◌∷◌, ◌++◌, refl, ap, ◌∙◌, subst, Option}
use Rattle.std.specs.Prelude.{⊤}
use Rattle.units.specs.declared.disk.Sector.{Sector}
use Rattle.device_log.specs.Log.{Call}
use Rattle.array_model.specs.declared.journal.Entry.{Entry}
use Rattle.array_model.specs.declared.journal.Event.{Event}
use Rattle.array_model.specs.declared.journal.Event.TheVariants.{Submit}
use Rattle.array_model.specs.Renewal.{FitsGeneration}
use Rattle.array_model.specs.Causes.{note_at, note_from, note_of, Course, NoRound, GoesOn, Over, course_at, course_from, course_of}
use Rattle.stage_machine.specs.Setting.{Setting, Renews}
use Rattle.stage_machine.specs.Opens.{StandsOnAll}
use Rattle.stage_machine.specs.Rounds.{Phase, Rest, Going, Round}
use Rattle.stage_machine.specs.States.{State, IsReadonly, IsReadAuto, IsClean, IsPending, IsActive, IsIdle, next_dirty, asked_events}
use Rattle.stage_machine.specs.Machine.{Control, World, Reached, opens, goes, stamped, calls_after, turned, call_of, got_of}
use Rattle.stage_machine.proofs.Turns.{Turns, turns_of, nothing, fails, anchors, settles, ends, begins, readies, actives, cleans, rests, pasts, asks_read, asks_write, puts, syncs, gets, acks}
use Rattle.stage_machine.proofs.Stands.{GoodRound, good_reached, renewed, fitted}

-- THE GENERATION BEGUN LAST

note-append : (n : ℕ) (xs ys : List Entry) → note_from n (xs ++ ys) ≡ note_from (note_from n xs) ys
note-append n [] ys = refl
note-append n (x ∷ xs) ys = note-append (note_at n x.event) xs ys

note_turns : (S : Setting) (c : Control) (got : Sector) (n : ℕ) {call : Option Call} {es : List Event} {next : Control} → Turns S c got call es next
    → note_from c.round.note (stamped n es) ≡ next.round.note
note_turns S c got n nothing = refl
note_turns S c got n (fails d what asked) = refl
note_turns S c got n (anchors m d ds is) = refl
note_turns S c got n (settles m d e ds is) = refl
note_turns S c got n (ends m d is) = refl
note_turns S c got n (begins d ds is some why) = refl
note_turns S c got n (readies is s t) = refl
note_turns S c got n (actives is s t r) = refl
note_turns S c got n (cleans is s t) = refl
note_turns S c got n (rests t calm) = refl
note_turns S c got n (pasts k i rest has past) = refl
note_turns S c got n (asks_read k i rest place has is w ready) = refl
note_turns S c got n (asks_write k i rest place has is w ready) = at c.state
  where
    at : (state : State) → note_from c.round.note (stamped n (Submit i ∷ asked_events state)) ≡ c.round.note
    at IsReadonly = refl
    at IsReadAuto = refl
    at IsClean = refl
    at IsPending = refl
    at IsActive = refl
    at IsIdle = refl
note_turns S c got n (puts k i left step d ds has need) = refl
note_turns S c got n (syncs k i left step d ds has need) = refl
note_turns S c got n (gets k i left step d has need) = refl
note_turns S c got n (acks k i left step answer has need) = refl

pub note_reached : (S : Setting) (w : World) → Reached S w → note_of S.start w.journal ≡ w.control.round.note
note_reached S w opens = refl
note_reached S w (goes {w = v} r a) =
    let n = calls_after v.calls (call_of S v.control a) in
    let new = stamped n (turned S v.control a).events in
    note-append (S.start.words.generation S.start.newest.anchor) v.journal new ∙ ap (λ k. note_from k new) (note_reached S v r)
    ∙ note_turns S v.control (got_of a) n (turns_of S v.control a)

-- THE COURSE OF THE ROUNDS

abbrev pub resting_course : Bool → Course
resting_course true = Over
resting_course false = NoRound

abbrev pub phase_course : Bool → ℕ → Phase → Course
phase_course started note Rest = resting_course started
phase_course started note (Going m step left) = GoesOn note

abbrev pub course_by : Round → Course
course_by r = phase_course r.started r.note r.phase

course-append : (k : Course) (xs ys : List Entry) → course_from k (xs ++ ys) ≡ course_from (course_from k xs) ys
course-append k [] ys = refl
course-append k (x ∷ xs) ys = course-append (course_at k x.event) xs ys

course_turns : (S : Setting) (c : Control) (got : Sector) (n : ℕ) {call : Option Call} {es : List Event} {next : Control} → Turns S c got call es next
    → course_from (course_by c.round) (stamped n es) ≡ course_by next.round
course_turns S c got n nothing = refl
course_turns S c got n (fails d what asked) = refl
course_turns S c got n (anchors m d ds is) = ap (phase_course c.round.started c.round.note) is
course_turns S c got n (settles m d e ds is) = ap (phase_course c.round.started c.round.note) is
course_turns S c got n (ends m d is) = refl
course_turns S c got n (begins d ds is some why) = refl
course_turns S c got n (readies is s t) = refl
course_turns S c got n (actives is s t r) = refl
course_turns S c got n (cleans is s t) = refl
course_turns S c got n (rests t calm) = refl
course_turns S c got n (pasts k i rest has past) = refl
course_turns S c got n (asks_read k i rest place has is w ready) = refl
course_turns S c got n (asks_write k i rest place has is w ready) = at c.state (course_by c.round)
  where
    at : (state : State) (course : Course) → course_from course (stamped n (Submit i ∷ asked_events state)) ≡ course
    at IsReadonly course = refl
    at IsReadAuto course = refl
    at IsClean course = refl
    at IsPending course = refl
    at IsActive course = refl
    at IsIdle course = refl
course_turns S c got n (puts k i left step d ds has need) = refl
course_turns S c got n (syncs k i left step d ds has need) = refl
course_turns S c got n (gets k i left step d has need) = refl
course_turns S c got n (acks k i left step answer has need) = refl

pub course_reached : (S : Setting) (w : World) → Reached S w → course_of w.journal ≡ course_by w.control.round
course_reached S w opens = refl
course_reached S w (goes {w = v} r a) =
    let n = calls_after v.calls (call_of S v.control a) in
    let new = stamped n (turned S v.control a).events in
    course-append NoRound v.journal new ∙ ap (λ k. course_from k new) (course_reached S v r)
    ∙ course_turns S v.control (got_of a) n (turns_of S v.control a)

-- THE GENERATION OF THE ROUND THAT GOES ON

abbrev pub HasNote : Setting → ℕ → Phase → Type 0
HasNote S note Rest = ⊤
HasNote S note (Going m step left) = S.start.words.generation m.anchor ≡ note

has_note_turns : (S : Setting) → Renews S → StandsOnAll S → (c : Control) (got : Sector) {call : Option Call} {es : List Event} {next : Control} → Turns S c got call es next
    → FitsGeneration next.round.note → GoodRound S c.round → HasNote S c.round.note c.round.phase → HasNote S next.round.note next.round.phase
has_note_turns S renews on c got nothing fits good old = old
has_note_turns S renews on c got (fails d what asked) fits good old = old
has_note_turns S renews on c got (anchors m d ds is) fits good old = subst (HasNote S c.round.note) is old
has_note_turns S renews on c got (settles m d e ds is) fits good old = subst (HasNote S c.round.note) is old
has_note_turns S renews on c got (ends m d is) fits good old = tt
has_note_turns S renews on c got (begins d ds is some why) fits good old = (renewed S renews on c.round d ds (next_dirty c.state) some fits good).generation
has_note_turns S renews on c got (readies is s t) fits good old = old
has_note_turns S renews on c got (actives is s t r) fits good old = old
has_note_turns S renews on c got (cleans is s t) fits good old = old
has_note_turns S renews on c got (rests t calm) fits good old = old
has_note_turns S renews on c got (pasts k i rest has past) fits good old = old
has_note_turns S renews on c got (asks_read k i rest place has is w ready) fits good old = old
has_note_turns S renews on c got (asks_write k i rest place has is w ready) fits good old = old
has_note_turns S renews on c got (puts k i left step d ds has need) fits good old = old
has_note_turns S renews on c got (syncs k i left step d ds has need) fits good old = old
has_note_turns S renews on c got (gets k i left step d has need) fits good old = old
has_note_turns S renews on c got (acks k i left step answer has need) fits good old = old

pub has_note_reached : (S : Setting) → Renews S → StandsOnAll S → (w : World) → FitsGeneration w.control.round.note → Reached S w → HasNote S w.control.round.note w.control.round.phase
has_note_reached S renews on w fits opens = tt
has_note_reached S renews on w fits (goes {w = v} r a) =
    let before = fitted S v a fits in
    has_note_turns S renews on v.control (got_of a) (turns_of S v.control a) fits (good_reached S renews on v before r) (has_note_reached S renews on v before r)
