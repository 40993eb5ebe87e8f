-- An operation that was submitted was answered, or a client has a job of it.
use Rattle.std.proofs.Common.{◌≡◌, ℕ, ◌<◌, ◌==◌, ◌||◌, Bool, true, false, List, ◌++◌, length, refl, ap, sym, ◌∙◌, arith, ◌⊎◌, inl, inr, Option, slice_set}
use Rattle.std.proofs.lemmas.Bool.Decides.{nat_tests}
use Rattle.std.proofs.lemmas.Bool.{or_left, or_right, or_cases}
use Rattle.units.specs.declared.disk.Sector.{Sector}
use Rattle.device_log.specs.Log.{Call}
use Rattle.array_model.specs.declared.journal.Entry.{Entry}
use Rattle.array_model.specs.declared.journal.Event.{Event}
use Rattle.array_model.specs.Events.{has, is_submit, is_ack_of}
use Rattle.array_model.specs.Causes.{AreAnswered}
use Rattle.array_model.proofs.Journals.{has-append}
use Rattle.stage_machine.specs.Setting.{Setting}
use Rattle.stage_machine.specs.Opens.{AsksFirst, IsFirstVolume}
use Rattle.stage_machine.specs.States.{State, IsReadonly, IsReadAuto, IsClean, IsPending, IsActive, IsIdle, asked_events}
use Rattle.stage_machine.specs.Jobs.{Job, NoJob, Busy, Client, client_at, is_write, is_writing, any_writing}
use Rattle.stage_machine.specs.Machine.{Control, World, Reached, opens, goes, stamped, calls_after, call_of, got_of}
use Rattle.stage_machine.proofs.Turns.{Turns, turns_of, nothing, fails, anchors, settles, ends, begins, readies, actives, cleans, rests, pasts, asks_read, asks_write, puts, syncs, gets, acks}
use Rattle.stage_machine.proofs.Clients.{at_set, there_left, there_busy}
use Rattle.gate_law.proofs.Live.{writing_there}
use Rattle.cause_law.proofs.States.{inside_writes}

abbrev pub is_busy_with : ℕ → Job → Bool
is_busy_with i NoJob = false
is_busy_with i (Busy j step) = j == i

-- answered, or in the hands of a client
abbrev pub IsShown : List Client → List Entry → ℕ → Type 0
IsShown clients journal i = (has (is_ack_of i) journal ≡ true) ⊎ ((k : ℕ) × (is_busy_with i (client_at clients k).job ≡ true))

abbrev pub AreShown : List Client → List Entry → Type 0
AreShown clients journal = (i : ℕ) → has (is_submit i) journal ≡ true → IsShown clients journal i

has_before : (test : Event → Bool) (xs ys : List Entry) → has test xs ≡ true → has test (xs ++ ys) ≡ true
has_before test xs ys h = has-append test xs ys ∙ or_left (has test xs) (has test ys) h

has_behind : (test : Event → Bool) (xs ys : List Entry) → has test ys ≡ true → has test (xs ++ ys) ≡ true
has_behind test xs ys h = has-append test xs ys ∙ or_right (has test xs) (has test ys) h

-- where an operation comes from
has_where : (test : Event → Bool) (xs ys : List Entry) → has test (xs ++ ys) ≡ true → (has test xs ≡ true) ⊎ (has test ys ≡ true)
has_where test xs ys h = or_cases (has test xs) (has test ys) (sym (has-append test xs ys) ∙ h)

-- the clients stay, and nothing is submitted
same_shown : (clients : List Client) (journal new : List Entry) → ((i : ℕ) → has (is_submit i) new ≡ false) → AreShown clients journal → AreShown clients (journal ++ new)
same_shown clients journal new none old i h = elim (has_where (is_submit i) journal new h) [
  | inl before ↦ elim (old i before) [
    | inl answered ↦ inl (has_before (is_ack_of i) journal new answered)
    | inr busy ↦ inr busy
  ]
  | inr now ↦ absurd (let no_such = none i in cc (now, no_such))
]

abbrev Handled : Client → List Entry → ℕ → Type 0
Handled x new i = (is_busy_with i x.job ≡ true) ⊎ (has (is_ack_of i) new ≡ true)

-- one client is set: what it had in hand it has still, or it is answered now, and so is what is submitted now
set_shown : (clients : List Client) (k : ℕ) (x : Client) (journal new : List Entry) → k < length clients
    → ((i : ℕ) → is_busy_with i (client_at clients k).job ≡ true → Handled x new i) → ((i : ℕ) → has (is_submit i) new ≡ true → Handled x new i)
    → AreShown clients journal → AreShown (slice_set clients k x) (journal ++ new)
set_shown clients k x journal new lt held asked old i h = elim (has_where (is_submit i) journal new h) [
  | inl before ↦ elim (old i before) [
    | inl answered ↦ inl (has_before (is_ack_of i) journal new answered)
    | inr busy ↦ of_job busy.0 busy.1
  ]
  | inr now ↦ of_handled (asked i now)
]
  where
    at_k : client_at (slice_set clients k x) k ≡ x
    at_k = elim (at_set clients k x k lt) [
      | inl here ↦ here.1
      | inr other ↦ absurd (other.0 refl)
    ]

    of_handled : Handled x new i → IsShown (slice_set clients k x) (journal ++ new) i
    of_handled (inl busy) = inr (k, ap (λ (y : Client). is_busy_with i y.job) at_k ∙ busy)
    of_handled (inr answered) = inl (has_behind (is_ack_of i) journal new answered)

    of_job : (j : ℕ) → is_busy_with i (client_at clients j).job ≡ true → IsShown (slice_set clients k x) (journal ++ new) i
    of_job j busy = elim (at_set clients k x j lt) [
      | inl here ↦ of_handled (held i (ap (λ z. is_busy_with i (client_at clients z).job) (sym here.0) ∙ busy))
      | inr other ↦ inr (j, ap (λ (y : Client). is_busy_with i y.job) other.1 ∙ busy)
    ]

-- ONE TURN

-- the entries of a state have no submit
no_submit : (n j : ℕ) (state : State) → has (is_submit j) (stamped n (asked_events state)) ≡ false
no_submit n j IsReadonly = refl
no_submit n j IsReadAuto = refl
no_submit n j IsClean = refl
no_submit n j IsPending = refl
no_submit n j IsActive = refl
no_submit n j IsIdle = refl

or_false : (a b : Bool) → b ≡ false → (a || b) ≡ true → a ≡ true
or_false true b none h = refl
or_false false b none h = absurd cc

shown_turns : (S : Setting) (c : Control) (got : Sector) (n : ℕ) (journal : List Entry) {call : Option Call} {es : List Event} {next : Control} → Turns S c got call es next
    → AreShown c.clients journal → AreShown next.clients (journal ++ stamped n es)
shown_turns S c got n journal nothing old = same_shown c.clients journal _ (λ i. refl) old
shown_turns S c got n journal (fails d what asked) old = same_shown c.clients journal _ (λ i. refl) old
shown_turns S c got n journal (anchors m d ds is) old = same_shown c.clients journal _ (λ i. refl) old
shown_turns S c got n journal (settles m d e ds is) old = same_shown c.clients journal _ (λ i. refl) old
shown_turns S c got n journal (ends m d is) old = same_shown c.clients journal _ (λ i. refl) old
shown_turns S c got n journal (begins d ds is some why) old = same_shown c.clients journal _ (λ i. refl) old
shown_turns S c got n journal (readies is s t) old = same_shown c.clients journal _ (λ i. refl) old
shown_turns S c got n journal (actives is s t r) old = same_shown c.clients journal _ (λ i. refl) old
shown_turns S c got n journal (cleans is s t) old = same_shown c.clients journal _ (λ i. refl) old
shown_turns S c got n journal (rests t calm) old = same_shown c.clients journal _ (λ i. refl) old
shown_turns S c got n journal (pasts k i rest here past) old =
    set_shown c.clients k _ journal _ (there_left c k i rest NoJob here) (λ j busy. absurd (let free = ap (λ (y : Client). is_busy_with j y.job) here in cc (free, busy)))
    (λ j asked. inr asked) old
shown_turns S c got n journal (asks_read k i rest place here is w ready) old =
    set_shown c.clients k _ journal _ (there_left c k i rest NoJob here) (λ j busy. absurd (let free = ap (λ (y : Client). is_busy_with j y.job) here in cc (free, busy)))
    (λ j asked. inl (or_false (i == j) false refl asked)) old
shown_turns S c got n journal (asks_write k i rest place here is w ready) old =
    set_shown c.clients k _ journal _ (there_left c k i rest NoJob here) (λ j busy. absurd (let free = ap (λ (y : Client). is_busy_with j y.job) here in cc (free, busy)))
    (λ j asked. inl (or_false (i == j) _ (no_submit n j c.state) asked)) old
shown_turns S c got n journal (puts k i left step d ds here need) old =
    set_shown c.clients k _ journal _ (there_busy c k i left step here) (λ j busy. inl (sym (ap (λ (y : Client). is_busy_with j y.job) here) ∙ busy)) (λ j asked. absurd cc) old
shown_turns S c got n journal (syncs k i left step d ds here need) old =
    set_shown c.clients k _ journal _ (there_busy c k i left step here) (λ j busy. inl (sym (ap (λ (y : Client). is_busy_with j y.job) here) ∙ busy)) (λ j asked. absurd cc) old
shown_turns S c got n journal (gets k i left step d here need) old =
    set_shown c.clients k _ journal _ (there_busy c k i left step here) (λ j busy. inl (sym (ap (λ (y : Client). is_busy_with j y.job) here) ∙ busy)) (λ j asked. absurd cc) old
shown_turns S c got n journal (acks k i left step answer here need) old =
    set_shown c.clients k _ journal _ (there_busy c k i left step here)
    (λ j busy. inr (or_left (i == j) false (sym (ap (λ (y : Client). is_busy_with j y.job) here) ∙ busy))) (λ j asked. absurd cc) old

pub shown_reached : (S : Setting) (w : World) → Reached S w → AreShown w.control.clients w.journal
shown_reached S w opens = λ i h. absurd cc
shown_reached S w (goes {w = v} r a) =
    shown_turns S v.control (got_of a) (calls_after v.calls (call_of S v.control a)) v.journal (turns_of S v.control a) (shown_reached S v r)

-- WHERE NO WRITE IS ON ITS WAY

busy_writes : (S : Setting) (i : ℕ) (job : Job) → is_busy_with i job ≡ true → is_write S i ≡ true → is_writing S job ≡ true
busy_writes S i NoJob busy w = absurd cc
busy_writes S i (Busy j step) busy w = let here : j ≡ i = grind (arith, nat_tests, busy) in ap (is_write S) here ∙ w

pub all_answered : (S : Setting) → AsksFirst S → IsFirstVolume S → (clients : List Client) (journal : List Entry) → any_writing S clients ≡ false → AreShown clients journal
    → AreAnswered S.start S.asked.ops journal 0
all_answered S asks volume clients journal calm shown i inside submitted = elim (shown i submitted) [
  | inl answered ↦ answered
  | inr busy ↦ absurd (
      let w = inside_writes S asks volume i inside in
      let writes : any_writing S clients ≡ true = writing_there S clients busy.0 (busy_writes S i (client_at clients busy.0).job busy.1 w) in
      cc (writes, calm))
]
