-- Where the volume is read-auto or clean, the book says so, once a round has begun since its last clean.
use Rattle.std.proofs.Common.{◌≡◌, ℕ, Bool, true, false, List, [], ◌∷◌, ◌++◌, refl, ap, sym, ◌∙◌, subst, Option}
use Rattle.std.specs.Prelude.{⊤}
use Rattle.units.specs.declared.disk.Sector.{Sector}
use Rattle.device_log.specs.Log.{Call}
use Rattle.array_model.specs.declared.journal.Entry.{Entry}
use Rattle.array_model.specs.declared.journal.Event.{Event}
use Rattle.array_model.specs.declared.journal.Event.TheVariants.{Submit}
use Rattle.array_model.specs.Blocks.{Laid}
use Rattle.array_model.specs.Renewal.{FitsGeneration}
use Rattle.array_model.specs.Rests.{owed_at, owed_from, is_owed}
use Rattle.stage_machine.specs.Setting.{Setting, Renews}
use Rattle.stage_machine.specs.Opens.{StandsOnAll}
use Rattle.stage_machine.specs.Rounds.{Phase, Rest, Going, Round}
use Rattle.stage_machine.specs.States.{State, IsReadonly, IsReadAuto, IsClean, IsPending, IsActive, IsIdle, asked_state, asked_events, next_dirty}
use Rattle.stage_machine.specs.Machine.{Control, World, Action, Reached, opens, goes, happens, stamped, calls_after, turned, call_of, got_of}
use Rattle.stage_machine.proofs.Turns.{Turns, turns_of, nothing, fails, anchors, settles, ends, begins, readies, actives, cleans, rests, pasts, asks_read, asks_write, puts, syncs, gets, acks}
use Rattle.stage_machine.proofs.Stands.{GoodRound, good_reached, renewed, fitted}
use Rattle.gate_law.proofs.Live.{live, SafeWhileLive, safe_reached}
use Rattle.rest_law.proofs.Rounds.{Tidy, tidy_reached}

owed-append : (v : ℕ) (b : Bool) (xs ys : List Entry) → owed_from v b (xs ++ ys) ≡ owed_from v (owed_from v b xs) ys
owed-append v b [] ys = refl
owed-append v b (x ∷ xs) ys = owed-append v (owed_at v b x.event) xs ys

-- what a journal owes after a turn
owed_after : (S : Setting) (v : World) (a : Action)
    → owed_from 0 (is_owed v.journal 0) (stamped (calls_after v.calls (call_of S v.control a)) (turned S v.control a).events) ≡ is_owed (happens S v a).journal 0
owed_after S v a = sym (owed-append 0 false v.journal (stamped (calls_after v.calls (call_of S v.control a)) (turned S v.control a).events))

-- WHAT IS OWED IS DUE

-- a volume that was made clean, with no round begun since: no round goes on, and the book still says dirty
abbrev pub DueWhileOwed : Setting → State → Bool → Round → Type 0
DueWhileOwed S state owed r = owed ≡ true → state ≡ IsClean → (r.phase ≡ Rest) × (S.start.words.is_dirty r.book 0 ≡ true)

apart : (p : Phase) (m : Laid) (step : _) (left : List ℕ) → p ≡ Rest → p ≡ Going m step left → ⊥
apart Rest m step left rest going = absurd cc
apart (Going n step left) m step' left' rest going = absurd cc

asked_dirty : (state : State) → asked_state state ≡ IsClean → ⊥
asked_dirty IsReadonly clean = absurd cc
asked_dirty IsReadAuto clean = absurd cc
asked_dirty IsClean clean = absurd cc
asked_dirty IsPending clean = absurd cc
asked_dirty IsActive clean = absurd cc
asked_dirty IsIdle clean = absurd cc

due_turns : (S : Setting) (c : Control) (got : Sector) (n : ℕ) {call : Option Call} {es : List Event} {next : Control} → Turns S c got call es next
    → SafeWhileLive S c → Tidy S c.round → (owed : Bool) → DueWhileOwed S c.state owed c.round → DueWhileOwed S next.state (owed_from 0 owed (stamped n es)) next.round
due_turns S c got n nothing safe tidy owed old = old
due_turns S c got n (fails d what asked) safe tidy owed old = old
due_turns S c got n (anchors m d ds is) safe tidy owed old = λ owes clean. absurd (apart c.round.phase m _ _ (old owes clean).0 is)
due_turns S c got n (settles m d e ds is) safe tidy owed old = λ owes clean. absurd (apart c.round.phase m _ _ (old owes clean).0 is)
due_turns S c got n (ends m d is) safe tidy owed old = λ owes clean. absurd (apart c.round.phase m _ _ (old owes clean).0 is)
due_turns S c got n (begins d ds is some why) safe tidy owed old = λ owes clean. absurd cc
due_turns S c got n (readies is s t) safe tidy owed old = λ owes clean. absurd cc
due_turns S c got n (actives is s t r) safe tidy owed old = λ owes clean. absurd cc
due_turns S c got n (cleans is s t) safe tidy owed old = λ owes clean. (is, ap (λ m. S.start.words.is_dirty m 0) tidy.book ∙ (safe (ap live t)).dirty)
due_turns S c got n (rests t calm) safe tidy owed old = λ owes clean. absurd cc
due_turns S c got n (pasts k i rest has past) safe tidy owed old = old
due_turns S c got n (asks_read k i rest place has is w ready) safe tidy owed old = old
due_turns S c got n (asks_write k i rest place has is w ready) safe tidy owed old = λ owes clean. absurd (asked_dirty c.state clean)
due_turns S c got n (puts k i left step d ds has need) safe tidy owed old = old
due_turns S c got n (syncs k i left step d ds has need) safe tidy owed old = old
due_turns S c got n (gets k i left step d has need) safe tidy owed old = old
due_turns S c got n (acks k i left step answer has need) safe tidy owed old = old

pub due_reached : (S : Setting) (w : World) → Reached S w → DueWhileOwed S w.control.state (is_owed w.journal 0) w.control.round
due_reached S w opens = λ owes clean. absurd cc
due_reached S w (goes {w = v} r a) =
    subst (λ owed. DueWhileOwed S (happens S v a).control.state owed (happens S v a).control.round) (owed_after S v a)
    (due_turns S v.control (got_of a) (calls_after v.calls (call_of S v.control a)) (turns_of S v.control a) (safe_reached S v r) (tidy_reached S v r) (is_owed v.journal 0) (due_reached S v r))

-- WHAT ISN'T OWED IS RECORDED

-- the round that goes on, or else the last finished one, says clean
abbrev pub CleanAt : Setting → Bool → Laid → Phase → Type 0
CleanAt S started book Rest = started ≡ true → S.start.words.is_dirty book 0 ≡ false
CleanAt S started book (Going m step left) = S.start.words.is_dirty m 0 ≡ false

abbrev pub IsCleanIn : Setting → Round → Type 0
IsCleanIn S r = CleanAt S r.started r.book r.phase

abbrev pub CleanUnlessOwed : Setting → State → Bool → Round → Type 0
CleanUnlessOwed S IsReadonly owed r = IsCleanIn S r
CleanUnlessOwed S IsReadAuto owed r = IsCleanIn S r
CleanUnlessOwed S IsClean owed r = owed ≡ false → IsCleanIn S r
CleanUnlessOwed S IsPending owed r = ⊤
CleanUnlessOwed S IsActive owed r = ⊤
CleanUnlessOwed S IsIdle owed r = ⊤

clean_goes : (S : Setting) (state : State) (owed : Bool) (r next : Round) → (IsCleanIn S r → IsCleanIn S next) → CleanUnlessOwed S state owed r → CleanUnlessOwed S state owed next
clean_goes S IsReadonly owed r next f h = f h
clean_goes S IsReadAuto owed r next f h = f h
clean_goes S IsClean owed r next f h = λ paid. f (h paid)
clean_goes S IsPending owed r next f h = tt
clean_goes S IsActive owed r next f h = tt
clean_goes S IsIdle owed r next f h = tt

-- a round that begins takes in the state
clean_begun : (S : Setting) (state : State) (r : Round) → (next_dirty state ≡ false → IsCleanIn S r) → CleanUnlessOwed S state false r
clean_begun S IsReadonly r f = f refl
clean_begun S IsReadAuto r f = f refl
clean_begun S IsClean r f = λ paid. f refl
clean_begun S IsPending r f = tt
clean_begun S IsActive r f = tt
clean_begun S IsIdle r f = tt

clean_turns : (S : Setting) → Renews S → StandsOnAll S → (c : Control) (got : Sector) (n : ℕ) {call : Option Call} {es : List Event} {next : Control} → Turns S c got call es next
    → FitsGeneration next.round.note → GoodRound S c.round → (owed : Bool) → CleanUnlessOwed S c.state owed c.round → CleanUnlessOwed S next.state (owed_from 0 owed (stamped n es)) next.round
clean_turns S renews on c got n nothing fits good owed old = old
clean_turns S renews on c got n (fails d what asked) fits good owed old = old
clean_turns S renews on c got n (anchors m d ds is) fits good owed old =
    clean_goes S c.state owed c.round _ (λ h. subst (CleanAt S c.round.started c.round.book) is h) old
clean_turns S renews on c got n (settles m d e ds is) fits good owed old =
    clean_goes S c.state owed c.round _ (λ h. subst (CleanAt S c.round.started c.round.book) is h) old
clean_turns S renews on c got n (ends m d is) fits good owed old =
    clean_goes S c.state owed c.round _ (λ h started. subst (CleanAt S c.round.started c.round.book) is h) old
clean_turns S renews on c got n (begins d ds is some why) fits good owed old =
    clean_begun S c.state _ (λ calm. (renewed S renews on c.round d ds (next_dirty c.state) some fits good).dirty ∙ calm)
clean_turns S renews on c got n (readies is s t) fits good owed old = subst (λ state. CleanUnlessOwed S state owed c.round) t old
clean_turns S renews on c got n (actives is s t r) fits good owed old = tt
clean_turns S renews on c got n (cleans is s t) fits good owed old = λ paid. absurd cc
clean_turns S renews on c got n (rests t calm) fits good owed old = tt
clean_turns S renews on c got n (pasts k i rest has past) fits good owed old = old
clean_turns S renews on c got n (asks_read k i rest place has is w ready) fits good owed old = old
clean_turns S renews on c got n (asks_write k i rest place has is w ready) fits good owed old = at c.state old
  where
    at : (state : State) → CleanUnlessOwed S state owed c.round → CleanUnlessOwed S (asked_state state) (owed_from 0 owed (stamped n (Submit i ∷ asked_events state))) c.round
    at IsReadonly h = h
    at IsReadAuto h = tt
    at IsClean h = tt
    at IsPending h = tt
    at IsActive h = tt
    at IsIdle h = tt
clean_turns S renews on c got n (puts k i left step d ds has need) fits good owed old = old
clean_turns S renews on c got n (syncs k i left step d ds has need) fits good owed old = old
clean_turns S renews on c got n (gets k i left step d has need) fits good owed old = old
clean_turns S renews on c got n (acks k i left step answer has need) fits good owed old = old

pub clean_reached : (S : Setting) → Renews S → StandsOnAll S → (w : World) → FitsGeneration w.control.round.note → Reached S w
    → CleanUnlessOwed S w.control.state (is_owed w.journal 0) w.control.round
clean_reached S renews on w fits opens = λ started. absurd cc
clean_reached S renews on w fits (goes {w = v} r a) =
    let before = fitted S v a fits in
    subst (λ owed. CleanUnlessOwed S (happens S v a).control.state owed (happens S v a).control.round) (owed_after S v a)
    (clean_turns S renews on v.control (got_of a) (calls_after v.calls (call_of S v.control a)) (turns_of S v.control a) fits (good_reached S renews on v before r) (is_owed v.journal 0)
    (clean_reached S renews on v before r))
