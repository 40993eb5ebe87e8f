-- Where a client has nothing left to do, each operation of it has its ack in the journal.
use Rattle.std.proofs.Common.{◌≡◌, ℕ, zero, suc, ◌+◌, ◌<◌, ◌≤◌, ◌==◌, ◌||◌, ◌&&◌, Bool, true, false, cond, if◌then◌else◌, List, [], ◌∷◌, ◌++◌, length, refl, ap, ◌∙◌, subst, arith, Some, None}
use Rattle.std.specs.Prelude.{filter, flat_map}
use Rattle.std.specs.List.{AllByRecursion, range_with_len, list_any, cons_option}
use Rattle.std.proofs.lemmas.Bool.Decides.{nat_tests}
use Rattle.std.proofs.lemmas.Bool.{or_right}
use Rattle.array_model.specs.declared.script.Op.{Op}
use Rattle.array_model.specs.declared.journal.Entry.{Entry}
use Rattle.array_model.specs.declared.journal.Event.{Event}
use Rattle.array_model.specs.declared.journal.Event.TheVariants.{Submit, Ack}
use Rattle.array_model.specs.Script.{is_of_client}
use Rattle.array_model.specs.Events.{has, is_ack_of}
use Rattle.array_model.specs.AnswerLaw.{OpEvent, op_events_of, op_event_of, op_events_due}
use Rattle.array_model.proofs.Steps.{pair}
use Rattle.stage_machine.specs.Setting.{Setting}
use Rattle.stage_machine.specs.Opens.{AsksFirst}
use Rattle.stage_machine.specs.Jobs.{NoJob, client_at}
use Rattle.stage_machine.specs.Machine.{World, Reached}
use Rattle.stage_machine.proofs.Clients.{same}
use Rattle.answer_law.proofs.Order.{todo, due_reached}

abbrev pub contains : ℕ → List ℕ → Bool
contains i xs = list_any (λ j. j == i) xs

-- the steps have the ack of op i
abbrev pub acked : ℕ → List OpEvent → Bool
acked i steps = list_any (λ (s : OpEvent). s.is_ack && (s.op == i)) steps

-- a list of tests has what its right part has, where the left part is the same
or_over : (a b c : Bool) → (b ≡ true → c ≡ true) → (a || b) ≡ true → (a || c) ≡ true
or_over true b c f h = refl
or_over false b c f h = f h

in_range : (i a n : ℕ) → a ≤ i → i < a + n → contains i (range_with_len a n) ≡ true
in_range i a zero le lt = absurd (omega (arith, le, lt))
in_range i a (suc n) le lt = at (a == i) refl (λ further. in_range i (a + 1) n further (omega (arith, lt)))
  where
    at : (b : Bool) → (a == i) ≡ b → (a + 1 ≤ i → contains i (range_with_len (a + 1) n) ≡ true) → (b || contains i (range_with_len (a + 1) n)) ≡ true
    at true is more = refl
    at false is more = more (let apart : (a ≡ i) → ⊥ = λ e. absurd (cc (is, ap (λ z. z == i) e, same i)) in grind (arith, le, apart))

in_filter : (test : ℕ → Bool) (i : ℕ) → test i ≡ true → (xs : List ℕ) → contains i xs ≡ true → contains i (filter test xs) ≡ true
in_filter test i passes [] h = h
in_filter test i passes (x ∷ xs) h = at (x == i) refl (test x) refl (in_filter test i passes xs) h
  where
    at : (a : Bool) → (x == i) ≡ a → (b : Bool) → test x ≡ b → (contains i xs ≡ true → contains i (filter test xs) ≡ true)
        → (a || contains i xs) ≡ true → contains i (cond b (x ∷ filter test xs) (filter test xs)) ≡ true
    at true is true p more h = rw is refl
    at true is false p more h = absurd (let here : x ≡ i = grind (arith, nat_tests, is) in cc (ap test here, p, passes))
    at false is true p more h = or_right (x == i) (contains i (filter test xs)) (more h)
    at false is false p more h = more h

in_pairs : (i : ℕ) (xs : List ℕ) → contains i xs ≡ true → acked i (flat_map pair xs) ≡ true
in_pairs i [] h = h
in_pairs i (x ∷ xs) h = or_over (x == i) (contains i xs) (acked i (flat_map pair xs)) (in_pairs i xs) h

-- the ack of each operation of a client is due
is_due : (ops : List Op) (k i : ℕ) → i < length ops → is_of_client ops k i ≡ true → acked i (op_events_due ops k) ≡ true
is_due ops k i lt mine =
    in_pairs i (filter (is_of_client ops k) (range_with_len 0 (length ops)))
    (in_filter (is_of_client ops k) i mine (range_with_len 0 (length ops)) (in_range i 0 (length ops) (omega arith) (omega (arith, lt))))

-- a journal has each ack that its steps have
abbrev Shows : List Op → ℕ → ℕ → List Entry → Type 0
Shows ops k i journal = acked i (op_events_of ops k journal) ≡ true → has (is_ack_of i) journal ≡ true

in_steps : (ops : List Op) (k i : ℕ) (journal : List Entry) → Shows ops k i journal
in_steps ops k i [] h = h
in_steps ops k i (e ∷ es) h = at (in_steps ops k i es) e.event h
  where
    of_submit : Shows ops k i es → (j : ℕ) (b : Bool) → acked i (cons_option (if b then Some (record { is_ack = false; op = j }) else None) (op_events_of ops k es)) ≡ true → has (is_ack_of i) es ≡ true
    of_submit more j true h = more h
    of_submit more j false h = more h

    of_ack : Shows ops k i es → (j : ℕ) (b : Bool) → acked i (cons_option (if b then Some (record { is_ack = true; op = j }) else None) (op_events_of ops k es)) ≡ true → ((j == i) || has (is_ack_of i) es) ≡ true
    of_ack more j true h = or_over (j == i) (acked i (op_events_of ops k es)) (has (is_ack_of i) es) more h
    of_ack more j false h = or_right (j == i) (has (is_ack_of i) es) (more h)

    at : Shows ops k i es → (event : Event) → acked i (cons_option (op_event_of ops k event) (op_events_of ops k es)) ≡ true → (is_ack_of i event || has (is_ack_of i) es) ≡ true
    at more (Submit j) h = of_submit more j (is_of_client ops k j) h
    at more (Ack j answer) h = of_ack more j (is_of_client ops k j) h
    at more _ h = more h

append_none : (steps : List OpEvent) → steps ++ [] ≡ steps
append_none [] = refl
append_none (x ∷ xs) = ap (λ zs. x ∷ zs) (append_none xs)

pub acked_all : (S : Setting) → AsksFirst S → (w : World) → Reached S w → (k : ℕ) → client_at w.control.clients k ≡ record { left = []; job = NoJob }
    → (i : ℕ) → i < length S.asked.ops → is_of_client S.asked.ops k i ≡ true → has (is_ack_of i) w.journal ≡ true
acked_all S asks w r k idle i lt mine =
    let due : op_events_due S.asked.ops k ≡ op_events_of S.asked.ops k w.journal ++ todo (client_at w.control.clients k) = due_reached S asks w r k in
    let all : op_events_due S.asked.ops k ≡ op_events_of S.asked.ops k w.journal = due ∙ ap (λ x. op_events_of S.asked.ops k w.journal ++ todo x) idle ∙ append_none (op_events_of S.asked.ops k w.journal) in
    in_steps S.asked.ops k i w.journal (subst (λ steps. acked i steps ≡ true) all (is_due S.asked.ops k i lt mine))

-- the clients are 0 to 15
pub client_below : (ops : List Op) → AllByRecursion (λ op. op.client < 16) ops → (k i : ℕ) → is_of_client ops k i ≡ true → k < 16
client_below [] all k i mine = absurd cc
client_below (op ∷ ops) all k zero mine = let is : op.client ≡ k = grind (arith, nat_tests, mine) in subst (λ z. z < 16) is all.0
client_below (op ∷ ops) all k (suc i) mine = client_below ops all.1 k i mine
