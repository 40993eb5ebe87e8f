-- The operation of a job was submitted, and isn't answered.
use Rattle.std.proofs.Common.{◌≡◌, ℕ, zero, suc, ◌+◌, ◌≤◌, ◌==◌, ◌||◌, ◌&&◌, not, Bool, true, false, cond, if◌then◌else◌, List, [], ◌∷◌, ◌++◌, refl, ap, sym, ◌∙◌, subst, arith, Some, None}
use Rattle.std.specs.Prelude.{⊤, filter, flat_map}
use Rattle.std.specs.List.{range_with_len, list_any, cons_option}
use Rattle.std.proofs.lemmas.Bool.{or_right}
use Rattle.std.proofs.lemmas.Bool.Decides.{nat_tests}
use Rattle.array_model.specs.declared.script.Op.{Op}
use Rattle.array_model.specs.declared.journal.Entry.{Entry}
use Rattle.array_model.specs.declared.journal.Event.{Event}
use Rattle.array_model.specs.declared.journal.Event.TheVariants.{Submit, Ack}
use Rattle.array_model.specs.Script.{is_of_client}
use Rattle.array_model.specs.Events.{has as has_event, is_submit, is_ack_of}
use Rattle.array_model.specs.AnswerLaw.{OpEvent, op_event_of, op_events_of, op_events_due}
use Rattle.array_model.specs.RowCalls.{IsUnderWay}
use Rattle.stage_machine.specs.Setting.{Setting}
use Rattle.stage_machine.specs.Opens.{AsksFirst}
use Rattle.stage_machine.specs.Jobs.{JobStep, Busy}
use Rattle.stage_machine.specs.Machine.{World, Reached}
use Rattle.stage_machine.proofs.Turns.{Has}
use Rattle.stage_machine.proofs.Clients.{mine_reached, of_job, same}
use Rattle.answer_law.proofs.Order.{todo, due_reached}

abbrev ask : ℕ → OpEvent
ask i = record { is_ack = false; op = i }

abbrev answer : ℕ → OpEvent
answer i = record { is_ack = true; op = i }

abbrev pair : ℕ → List OpEvent
pair i = ask i ∷ answer i ∷ []

-- the steps have the submit of op i; its ack
abbrev asked : ℕ → List OpEvent → Bool
asked i steps = list_any (λ (s : OpEvent). not s.is_ack && (s.op == i)) steps

abbrev answered : ℕ → List OpEvent → Bool
answered i steps = list_any (λ (s : OpEvent). s.is_ack && (s.op == i)) steps

-- WHAT IS DUE

-- each number is above the one before, and none is below a
abbrev Rises : ℕ → List ℕ → Type 0
Rises a [] = ⊤
Rises a (x ∷ xs) = (a ≤ x) × Rises (x + 1) xs

rises_from : (a b : ℕ) (xs : List ℕ) → a ≤ b → Rises b xs → Rises a xs
rises_from a b [] le h = tt
rises_from a b (x ∷ xs) le h = (omega (arith, le, h.0), h.1)

filter_rises : (test : ℕ → Bool) (a n : ℕ) → Rises a (filter test (range_with_len a n))
filter_rises test a zero = tt
filter_rises test a (suc n) = at (test a) (filter_rises test (a + 1) n)
  where
    at : (b : Bool) → Rises (a + 1) (filter test (range_with_len (a + 1) n)) → Rises a (cond b (a ∷ filter test (range_with_len (a + 1) n)) (filter test (range_with_len (a + 1) n)))
    at true more = (omega arith, more)
    at false more = rises_from a (a + 1) (filter test (range_with_len (a + 1) n)) (omega arith) more

record IsBefore (a i : ℕ) (steps : List OpEvent) : Type 0 where
  least : a ≤ i
  is_asked : asked i steps ≡ true
  is_unanswered : answered i steps ≡ false

-- before the ack of an operation its submit stands, and no ack of it
before : (a i : ℕ) (xs : List ℕ) (steps rest : List OpEvent) → Rises a xs → flat_map pair xs ≡ steps ++ answer i ∷ rest → IsBefore a i steps
before a i [] [] rest rises h = absurd cc
before a i [] (s ∷ steps) rest rises h = absurd cc
before a i (x ∷ xs) [] rest rises h = absurd (let first : ask x ≡ answer i = cc h in let unlike : false ≡ true = ap (λ (s : OpEvent). s.is_ack) first in cc unlike)
before a i (x ∷ xs) (s ∷ []) rest rises h =
    let first : ask x ≡ s = cc h in
    let second : answer x ≡ answer i = cc h in
    let is : x ≡ i = ap (λ (t : OpEvent). t.op) second in
    record {
      least = subst (λ z. a ≤ z) is rises.0;
      is_asked = subst (λ (t : OpEvent). asked i (t ∷ []) ≡ true) first (subst (λ z. asked i (ask z ∷ []) ≡ true) (sym is) (rw (same i) refl));
      is_unanswered = subst (λ (t : OpEvent). answered i (t ∷ []) ≡ false) first refl;
    }
before a i (x ∷ xs) (s ∷ t ∷ steps) rest rises h =
    let first : ask x ≡ s = cc h in
    let second : answer x ≡ t = cc h in
    let more : IsBefore (x + 1) i steps = before (x + 1) i xs steps rest rises.1 (cc h) in
    let apart : (x == i) ≡ false = grind (arith, nat_tests, more.least) in
    record {
      least = omega (arith, rises.0, more.least);
      is_asked = or_right _ _ (or_right _ _ more.is_asked);
      is_unanswered = subst (λ (z : OpEvent). answered i (z ∷ t ∷ steps) ≡ false) first (subst (λ (z : OpEvent). answered i (ask x ∷ z ∷ steps) ≡ false) second (rw apart more.is_unanswered));
    }

-- WHAT A JOURNAL TELLS OF A CLIENT'S OPERATION

module _ (ops : List Op) (k i : ℕ) (mine : is_of_client ops k i ≡ true) where
  other : (j : ℕ) → is_of_client ops k j ≡ false → (j == i) ≡ false
  other j out = at (j == i) refl
    where
      at : (b : Bool) → (j == i) ≡ b → (j == i) ≡ false
      at true e = absurd (let is : j ≡ i = grind (arith, nat_tests, e) in cc (ap (is_of_client ops k) is, out, mine))
      at false e = e

  tells_ask : (journal : List Entry) → asked i (op_events_of ops k journal) ≡ has_event (is_submit i) journal
  tells_ask [] = refl
  tells_ask (e ∷ es) = at (tells_ask es) e.event
    where
      of_submit : asked i (op_events_of ops k es) ≡ has_event (is_submit i) es → (j : ℕ) (b : Bool) → is_of_client ops k j ≡ b
          → asked i (cons_option (if b then Some (ask j) else None) (op_events_of ops k es)) ≡ ((j == i) || has_event (is_submit i) es)
      of_submit rest j true is = ap (λ b. (j == i) || b) rest
      of_submit rest j false is = rw (other j is) rest

      of_ack : asked i (op_events_of ops k es) ≡ has_event (is_submit i) es → (j : ℕ) (b : Bool) → asked i (cons_option (if b then Some (answer j) else None) (op_events_of ops k es)) ≡ has_event (is_submit i) es
      of_ack rest j true = rest
      of_ack rest j false = rest

      at : asked i (op_events_of ops k es) ≡ has_event (is_submit i) es → (event : Event) → asked i (cons_option (op_event_of ops k event) (op_events_of ops k es)) ≡ (is_submit i event || has_event (is_submit i) es)
      at rest (Submit j) = of_submit rest j (is_of_client ops k j) refl
      at rest (Ack j given) = of_ack rest j (is_of_client ops k j)
      at rest _ = rest

  tells_answer : (journal : List Entry) → answered i (op_events_of ops k journal) ≡ has_event (is_ack_of i) journal
  tells_answer [] = refl
  tells_answer (e ∷ es) = at (tells_answer es) e.event
    where
      of_submit : answered i (op_events_of ops k es) ≡ has_event (is_ack_of i) es → (j : ℕ) (b : Bool) → answered i (cons_option (if b then Some (ask j) else None) (op_events_of ops k es)) ≡ has_event (is_ack_of i) es
      of_submit rest j true = rest
      of_submit rest j false = rest

      of_ack : answered i (op_events_of ops k es) ≡ has_event (is_ack_of i) es → (j : ℕ) (b : Bool) → is_of_client ops k j ≡ b
          → answered i (cons_option (if b then Some (answer j) else None) (op_events_of ops k es)) ≡ ((j == i) || has_event (is_ack_of i) es)
      of_ack rest j true is = ap (λ b. (j == i) || b) rest
      of_ack rest j false is = rw (other j is) rest

      at : answered i (op_events_of ops k es) ≡ has_event (is_ack_of i) es → (event : Event) → answered i (cons_option (op_event_of ops k event) (op_events_of ops k es)) ≡ (is_ack_of i event || has_event (is_ack_of i) es)
      at rest (Submit j) = of_submit rest j (is_of_client ops k j)
      at rest (Ack j given) = of_ack rest j (is_of_client ops k j) refl
      at rest _ = rest

-- EACH RUN

pub under_way : (S : Setting) → AsksFirst S → (w : World) → Reached S w → (k i : ℕ) (left : List ℕ) (step : JobStep) → Has w.control k left (Busy i step) → IsUnderWay w.journal i
under_way S asks w r k i left step here =
    let mine = (of_job S w.control k i left step (mine_reached S w r) here).mine in
    let due : op_events_due S.asked.ops k ≡ op_events_of S.asked.ops k w.journal ++ answer i ∷ flat_map pair left = due_reached S asks w r k ∙ ap (λ x. op_events_of S.asked.ops k w.journal ++ todo x) here in
    let it = before 0 i _ (op_events_of S.asked.ops k w.journal) (flat_map pair left) (filter_rises (is_of_client S.asked.ops k) 0 _) due in
    record {
      asked = sym (tells_ask S.asked.ops k i mine w.journal) ∙ it.is_asked;
      unanswered = sym (tells_answer S.asked.ops k i mine w.journal) ∙ it.is_unanswered;
    }
