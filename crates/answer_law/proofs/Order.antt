-- Each client's operations are submitted and answered one by one.
use Rattle.std.proofs.Common.{◌≡◌, ◌≢◌, ℕ, zero, suc, ◌<◌, ◌≤◌, ◌==◌, Bool, true, false, List, [], ◌∷◌, ◌++◌, length, refl, ap, sym, ◌∙◌, arith, append_assoc, inl, inr, Option, Some, None, slice_set, slice_get}
use Rattle.std.specs.Prelude.{filter, flat_map}
use Rattle.std.specs.List.{AllByRecursion, range_with_len}
use Rattle.std.proofs.lemmas.Bool.Decides.{nat_tests}
use Rattle.std.proofs.lemmas.List.Elements.{filter_map-append}
use Rattle.units.specs.declared.disk.Sector.{Sector}
use Rattle.device_log.specs.Log.{Call}
use Rattle.array_model.specs.declared.script.Op.{Op}
use Rattle.array_model.specs.declared.journal.Entry.{Entry}
use Rattle.array_model.specs.declared.journal.Event.{Event}
use Rattle.array_model.specs.declared.journal.Event.TheVariants.{Submit, Ack}
use Rattle.array_model.specs.declared.journal.Answer.{Answer}
use Rattle.array_model.specs.declared.journal.Answer.TheVariants.{Past}
use Rattle.array_model.specs.Script.{is_of_client, is_of_client_in}
use Rattle.array_model.specs.AnswerLaw.{OpEvent, op_event_of, op_events_of, op_events_due, IsInOrder}
use Rattle.array_model.proofs.Steps.{pair}
use Rattle.stage_machine.specs.Setting.{Setting}
use Rattle.stage_machine.specs.Opens.{AsksFirst}
use Rattle.stage_machine.specs.States.{State, IsReadonly, IsReadAuto, IsClean, IsPending, IsActive, IsIdle, asked_events}
use Rattle.stage_machine.specs.Jobs.{Waiting, Job, NoJob, Busy, Client, client_at}
use Rattle.stage_machine.specs.Machine.{Control, World, Reached, opens, goes, happens, stamped, calls_after, call_of, got_of, turned}
use Rattle.stage_machine.proofs.Turns.{Turns, turns_of, nothing, fails, anchors, settles, ends, begins, readies, actives, cleans, rests, pasts, asks_read, asks_write, puts, syncs, gets, acks}
use Rattle.stage_machine.proofs.Clients.{Mine, mine_reached, of_left, of_job, at_set, there_left, there_busy, at_start}

abbrev ask : ℕ → OpEvent
ask i = record { is_ack = false; op = i }

abbrev answer_step : ℕ → OpEvent
answer_step i = record { is_ack = true; op = i }

-- what a client still has to do
abbrev job_todo : Job → List OpEvent
job_todo NoJob = []
job_todo (Busy i step) = answer_step i ∷ []

abbrev pub todo : Client → List OpEvent
todo client = job_todo client.job ++ flat_map pair client.left

abbrev pub Due : Setting → World → Type 0
Due S w = (k : ℕ) → op_events_due S.asked.ops k ≡ op_events_of S.asked.ops k w.journal ++ todo (client_at w.control.clients k)

-- an operation of one client is of no other
pub not_other : (ops : List Op) (j k i : ℕ) → is_of_client ops k i ≡ true → j ≢ k → is_of_client ops j i ≡ false
not_other ops j k i mine apart = at (slice_get ops i) mine
  where
    at : (o : Option Op) → is_of_client_in k o ≡ true → is_of_client_in j o ≡ false
    at None h = absurd cc
    at (Some op) h = by (op.client == j) refl
      where
        by : (b : Bool) → (op.client == j) ≡ b → (op.client == j) ≡ false
        by true is = absurd (apart (let same_j : op.client ≡ j = grind (arith, nat_tests, is) in let same_k : op.client ≡ k = grind (arith, nat_tests, h) in sym same_j ∙ same_k))
        by false is = is

module _ (S : Setting) (n : ℕ) where
  abbrev new_steps : ℕ → List Event → List OpEvent
  new_steps j es = op_events_of S.asked.ops j (stamped n es)

  submit_mine : (k i : ℕ) → is_of_client S.asked.ops k i ≡ true → op_event_of S.asked.ops k (Submit i) ≡ Some (ask i)
  submit_mine k i mine = rw mine refl

  ack_mine : (k i : ℕ) (answer : Answer) → is_of_client S.asked.ops k i ≡ true → op_event_of S.asked.ops k (Ack i answer) ≡ Some (answer_step i)
  ack_mine k i answer mine = rw mine refl

  submit_other : (j i : ℕ) → is_of_client S.asked.ops j i ≡ false → op_event_of S.asked.ops j (Submit i) ≡ None
  submit_other j i other = rw other refl

  ack_other : (j i : ℕ) (answer : Answer) → is_of_client S.asked.ops j i ≡ false → op_event_of S.asked.ops j (Ack i answer) ≡ None
  ack_other j i answer other = rw other refl

  -- a write's submit, and what the state enters with it
  with_state : (j : ℕ) (state : State) → new_steps j (asked_events state) ≡ []
  with_state j IsReadonly = refl
  with_state j IsReadAuto = refl
  with_state j IsClean = refl
  with_state j IsPending = refl
  with_state j IsActive = refl
  with_state j IsIdle = refl

  -- one client is set: of it what it had to do is what it did, and what it has still to do; of another nothing changes
  set_todo : (c : Control) (k : ℕ) (old new : Client) (es : List Event) → client_at c.clients k ≡ old → k < length c.clients
      → todo old ≡ new_steps k es ++ todo new → ((j : ℕ) → j ≢ k → new_steps j es ≡ [])
      → (j : ℕ) → todo (client_at c.clients j) ≡ new_steps j es ++ todo (client_at (slice_set c.clients k new) j)
  set_todo c k old new es has lt mine others j = elim (at_set c.clients k new j lt) [
    | inl here ↦
        let same : client_at c.clients j ≡ old = ap (client_at c.clients) here.0 ∙ has in
        let steps : new_steps j es ≡ new_steps k es = ap (λ z. new_steps z es) here.0 in
        rw (same, here.1, steps) mine
    | inr other ↦ rw (others j other.0, other.1) refl
  ]

  todo_turns : (c : Control) (got : Sector) (mine : Mine S c) {call : Option Call} {es : List Event} {next : Control} → Turns S c got call es next
      → (j : ℕ) → todo (client_at c.clients j) ≡ new_steps j es ++ todo (client_at next.clients j)
  todo_turns c got mine nothing j = refl
  todo_turns c got mine (fails d what asked) j = refl
  todo_turns c got mine (anchors m d ds is) j = refl
  todo_turns c got mine (settles m d e ds is) j = refl
  todo_turns c got mine (ends m d is) j = refl
  todo_turns c got mine (begins d ds is some why) j = refl
  todo_turns c got mine (readies is s t) j = refl
  todo_turns c got mine (actives is s t r) j = refl
  todo_turns c got mine (cleans is s t) j = refl
  todo_turns c got mine (rests t calm) j = refl
  todo_turns c got mine (pasts k i rest has none) j =
      let is_mine = of_left S c k i rest NoJob mine has in
      set_todo c k (record { left = i ∷ rest; job = NoJob }) (record { left = rest; job = NoJob }) (Submit i ∷ Ack i Past ∷ []) has (there_left c k i rest NoJob has)
      (rw (submit_mine k i is_mine, ack_mine k i Past is_mine) refl)
      (λ j apart. let other = not_other S.asked.ops j k i is_mine apart in rw (submit_other j i other, ack_other j i Past other) refl) j
  todo_turns c got mine (asks_read k i rest place has is w ready) j =
      let is_mine = of_left S c k i rest NoJob mine has in
      set_todo c k (record { left = i ∷ rest; job = NoJob }) (record { left = rest; job = Busy i Waiting }) (Submit i ∷ []) has (there_left c k i rest NoJob has)
      (rw (submit_mine k i is_mine) refl)
      (λ j apart. rw (submit_other j i (not_other S.asked.ops j k i is_mine apart)) refl) j
  todo_turns c got mine (asks_write k i rest place has is w ready) j =
      let is_mine = of_left S c k i rest NoJob mine has in
      set_todo c k (record { left = i ∷ rest; job = NoJob }) (record { left = rest; job = Busy i Waiting }) (Submit i ∷ asked_events c.state) has (there_left c k i rest NoJob has)
      (rw (submit_mine k i is_mine, with_state k c.state) refl)
      (λ j apart. rw (submit_other j i (not_other S.asked.ops j k i is_mine apart), with_state j c.state) refl) j
  todo_turns c got mine (puts k i left step d ds has need) j = set_todo c k _ (record { left = left; job = Busy i _ }) [] has (there_busy c k i left step has) refl (λ j apart. refl) j
  todo_turns c got mine (syncs k i left step d ds has need) j = set_todo c k _ (record { left = left; job = Busy i _ }) [] has (there_busy c k i left step has) refl (λ j apart. refl) j
  todo_turns c got mine (gets k i left step d has need) j = set_todo c k _ (record { left = left; job = Busy i _ }) [] has (there_busy c k i left step has) refl (λ j apart. refl) j
  todo_turns c got mine (acks k i left step answer has need) j =
      let is_mine = (of_job S c k i left step mine has).mine in
      set_todo c k (record { left = left; job = Busy i step }) (record { left = left; job = NoJob }) (Ack i answer ∷ []) has (there_busy c k i left step has)
      (rw (ack_mine k i answer is_mine) refl)
      (λ j apart. rw (ack_other j i answer (not_other S.asked.ops j k i is_mine apart)) refl) j

-- a client past the last has no operations
none_past : (ops : List Op) (k : ℕ) → 16 ≤ k → AllByRecursion (λ op. op.client < 16) ops → (i : ℕ) → is_of_client ops k i ≡ false
none_past [] k le all i = refl
none_past (op ∷ ops) k le all zero = let lt = all.0 in grind (arith, nat_tests, lt, le)
none_past (op ∷ ops) k le all (suc i) = none_past ops k le all.1 i

filter_none : (test : ℕ → Bool) → ((i : ℕ) → test i ≡ false) → (xs : List ℕ) → filter test xs ≡ []
filter_none test none [] = refl
filter_none test none (x ∷ xs) = rw (none x) (filter_none test none xs)

pub due_reached : (S : Setting) → AsksFirst S → (w : World) → Reached S w → Due S w
due_reached S asks w opens = λ k. elim (at_start S k) [
  | inl first ↦ ap todo (sym first.1)
  | inr past ↦ ap (flat_map pair) (filter_none (is_of_client S.asked.ops k) (none_past S.asked.ops k past.0 asks.clients) (range_with_len 0 (length S.asked.ops))) ∙ ap todo (sym past.1)
]
due_reached S asks w (goes {w = v} r a) = λ k.
    let n = calls_after v.calls (call_of S v.control a) in
    let new = stamped n (turned S v.control a).events in
    due_reached S asks v r k
    ∙ ap (λ z. op_events_of S.asked.ops k v.journal ++ z) (todo_turns S n v.control (got_of a) (mine_reached S v r) (turns_of S v.control a) k)
    ∙ sym (append_assoc (op_events_of S.asked.ops k v.journal) (op_events_of S.asked.ops k new) (todo (client_at (happens S v a).control.clients k)))
    ∙ ap (λ z. z ++ todo (client_at (happens S v a).control.clients k)) (sym (filter_map-append (λ (e : Entry). op_event_of S.asked.ops k e.event) v.journal new))

pub in_order : (S : Setting) → AsksFirst S → (w : World) → Reached S w → (k : ℕ) → IsInOrder S.asked.ops w.journal k
in_order S asks w r k = (todo (client_at w.control.clients k), due_reached S asks w r k)
