-- Where each client's answers come in order, each operation is submitted once at most, and answered once at most.
use Rattle.std.proofs.Common.{◌≡◌, ℕ, zero, suc, ◌+◌, ◌<◌, ◌≤◌, ◌==◌, ◌||◌, ◌&&◌, not, Bool, true, false, cond, if◌then◌else◌, List, [], ◌∷◌, ◌++◌, length, refl, ap, ◌∙◌, arith, ◌⊎◌, inl, inr, Option, Some, None}
use Rattle.std.specs.Prelude.{count_by, filter, flat_map}
use Rattle.std.specs.List.{AllByRecursion, range_with_len, cons_option}
use Rattle.std.proofs.lemmas.Bool.Decides.{nat_tests}
use Rattle.std.proofs.lemmas.List.Sums.{sum_by-append}
use Rattle.std.proofs.lemmas.Bool.{eq-eqb}
use Rattle.array_model.specs.declared.script.Op.{Op}
use Rattle.array_model.specs.declared.journal.Entry.{Entry}
use Rattle.array_model.specs.declared.journal.Event.{Event}
use Rattle.array_model.specs.declared.journal.Event.TheVariants.{Submit, Ack}
use Rattle.array_model.specs.Script.{is_of_client}
use Rattle.array_model.specs.Events.{has, count, is_submit, is_ack_of}
use Rattle.array_model.specs.Form.{NamesOp}
use Rattle.array_model.specs.AnswerLaw.{OpEvent, op_event_of, op_events_of, op_events_due, IsInOrder}

-- COUNTS

abbrev pub number : Bool → ℕ
number true = 1
number false = 0

pub count-cons : {X : Type 0} (test : X → Bool) (x : X) (xs : List X) → count_by test (x ∷ xs) ≡ number (test x) + count_by test xs
count-cons test x xs = sum_by-append (λ y. cond (test y) 1 0) (x ∷ []) xs ∙ at (test x)
  where
    at : (b : Bool) → 0 + cond b 1 0 + count_by test xs ≡ number b + count_by test xs
    at true = omega arith
    at false = omega arith

pub count_parts : {X : Type 0} (test : X → Bool) (xs ys : List X) → count_by test (xs ++ ys) ≡ count_by test xs + count_by test ys
count_parts test xs ys = sum_by-append (λ y. cond (test y) 1 0) xs ys

count_filter : (test keep : ℕ → Bool) (xs : List ℕ) → count_by test (filter keep xs) ≤ count_by test xs
count_filter test keep [] = omega arith
count_filter test keep (x ∷ xs) = at (keep x) (count_filter test keep xs)
  where
    at : (b : Bool) → count_by test (filter keep xs) ≤ count_by test xs → count_by test (cond b (x ∷ filter keep xs) (filter keep xs)) ≤ count_by test (x ∷ xs)
    at true le = omega (arith, count-cons test x xs, count-cons test x (filter keep xs), le)
    at false le = omega (arith, count-cons test x xs, le)

none_above : (i a n : ℕ) → i < a → count_by (λ j. j == i) (range_with_len a n) ≡ 0
none_above i a zero lt = refl
none_above i a (suc n) lt =
    let other : (a == i) ≡ false = grind (arith, nat_tests, lt) in
    let first : number (a == i) ≡ 0 = ap number other in
    omega (arith, count-cons (λ j. j == i) a (range_with_len (a + 1) n), first, none_above i (a + 1) n (omega (arith, lt)))

once_in_range : (i a n : ℕ) → count_by (λ j. j == i) (range_with_len a n) ≤ 1
once_in_range i a zero = omega arith
once_in_range i a (suc n) = at (a == i) refl (once_in_range i (a + 1) n)
  where
    at : (b : Bool) → (a == i) ≡ b → count_by (λ j. j == i) (range_with_len (a + 1) n) ≤ 1 → count_by (λ j. j == i) (range_with_len a (suc n)) ≤ 1
    at true is more =
        let here : a ≡ i = grind (arith, nat_tests, is) in
        let first : number (a == i) ≡ 1 = ap number is in
        let rest = none_above i (a + 1) n (omega (arith, here)) in
        omega (arith, count-cons (λ j. j == i) a (range_with_len (a + 1) n), first, rest)
    at false is more =
        let first : number (a == i) ≡ 0 = ap number is in
        omega (arith, count-cons (λ j. j == i) a (range_with_len (a + 1) n), first, more)

pub has_counted : (test : Event → Bool) (journal : List Entry) → has test journal ≡ true → 1 ≤ count test journal
has_counted test [] h = absurd cc
has_counted test (x ∷ xs) h = at (test x.event) refl (has_counted test xs) h
  where
    at : (b : Bool) → test x.event ≡ b → (has test xs ≡ true → 1 ≤ count test xs) → (b || has test xs) ≡ true → 1 ≤ count test (x ∷ xs)
    at true is more h = let first : number (test x.event) ≡ 1 = ap number is in omega (arith, count-cons (λ (e : Entry). test e.event) x xs, first)
    at false is more h = omega (arith, count-cons (λ (e : Entry). test e.event) x xs, more h)

-- STEPS OF AN OPERATION: its ack, or its submit

abbrev pub is_step : Bool → ℕ → OpEvent → Bool
is_step true i s = s.is_ack && (s.op == i)
is_step false i s = not s.is_ack && (s.op == i)

abbrev pub tells_step : Bool → ℕ → Event → Bool
tells_step true i event = is_ack_of i event
tells_step false i event = is_submit i event

abbrev pub pair : ℕ → List OpEvent
pair i = record { is_ack = false; op = i } ∷ record { is_ack = true; op = i } ∷ []

pub count_pairs : (b : Bool) (i : ℕ) (xs : List ℕ) → count_by (is_step b i) (flat_map pair xs) ≡ count_by (λ j. j == i) xs
count_pairs b i [] = refl
count_pairs true i (x ∷ xs) =
    omega (
      arith,
      count-cons (is_step true i) (record { is_ack = false; op = x }) (record { is_ack = true; op = x } ∷ flat_map pair xs),
      count-cons (is_step true i) (record { is_ack = true; op = x }) (flat_map pair xs),
      count-cons (λ j. j == i) x xs,
      count_pairs true i xs,
    )
count_pairs false i (x ∷ xs) =
    omega (
      arith,
      count-cons (is_step false i) (record { is_ack = false; op = x }) (record { is_ack = true; op = x } ∷ flat_map pair xs),
      count-cons (is_step false i) (record { is_ack = true; op = x }) (flat_map pair xs),
      count-cons (λ j. j == i) x xs,
      count_pairs false i xs,
    )

-- each step is due once at most
pub due_once : (ops : List Op) (c : ℕ) (b : Bool) (i : ℕ) → count_by (is_step b i) (op_events_due ops c) ≤ 1
due_once ops c b i =
    let mine = filter (is_of_client ops c) (range_with_len 0 (length ops)) in
    omega (arith, count_pairs b i mine, count_filter (λ j. j == i) (is_of_client ops c) (range_with_len 0 (length ops)), once_in_range i 0 (length ops))

-- a journal has a step of a client's operation as often as the client's steps have it
pub tells_steps : (ops : List Op) (c i : ℕ) → is_of_client ops c i ≡ true → (b : Bool) (journal : List Entry) → count (tells_step b i) journal ≡ count_by (is_step b i) (op_events_of ops c journal)
tells_steps ops c i mine b [] = refl
tells_steps ops c i mine b (e ∷ es) = count-cons (λ (x : Entry). tells_step b i x.event) e es ∙ at b e.event (tells_steps ops c i mine b es)
  where
    -- an operation of another client is another operation
    other : (j : ℕ) → is_of_client ops c j ≡ false → (j == i) ≡ false
    other j not_mine = by (j == i) refl
      where
        by : (t : Bool) → (j == i) ≡ t → (j == i) ≡ false
        by true is = absurd (let here : j ≡ i = grind (arith, nat_tests, is) in cc (ap (is_of_client ops c) here, mine, not_mine))
        by false is = is

    Counted : Bool → Event → Option OpEvent → Type 0
    Counted b event step =
        count (tells_step b i) es ≡ count_by (is_step b i) (op_events_of ops c es)
        → number (tells_step b i event) + count (tells_step b i) es ≡ count_by (is_step b i) (cons_option step (op_events_of ops c es))

    of_submit : (b : Bool) (j : ℕ) (t : Bool) → is_of_client ops c j ≡ t → Counted b (Submit j) (if t then Some (record { is_ack = false; op = j }) else None)
    of_submit true j true is h = omega (arith, h, count-cons (is_step true i) (record { is_ack = false; op = j }) (op_events_of ops c es))
    of_submit false j true is h = omega (arith, h, count-cons (is_step false i) (record { is_ack = false; op = j }) (op_events_of ops c es))
    of_submit true j false is h = omega (arith, h)
    of_submit false j false is h = let first : number (j == i) ≡ 0 = ap number (other j is) in omega (arith, h, first)

    of_ack : (b : Bool) (j : ℕ) (answer : _) (t : Bool) → is_of_client ops c j ≡ t → Counted b (Ack j answer) (if t then Some (record { is_ack = true; op = j }) else None)
    of_ack true j answer true is h = omega (arith, h, count-cons (is_step true i) (record { is_ack = true; op = j }) (op_events_of ops c es))
    of_ack false j answer true is h = omega (arith, h, count-cons (is_step false i) (record { is_ack = true; op = j }) (op_events_of ops c es))
    of_ack true j answer false is h = let first : number (j == i) ≡ 0 = ap number (other j is) in omega (arith, h, first)
    of_ack false j answer false is h = omega (arith, h)

    at : (b : Bool) (event : Event) → Counted b event (op_event_of ops c event)
    at b (Submit j) h = of_submit b j (is_of_client ops c j) refl h
    at b (Ack j answer) h = of_ack b j answer (is_of_client ops c j) refl h
    at true _ h = omega (arith, h)
    at false _ h = omega (arith, h)

once : (ops : List Op) (journal : List Entry) (c : ℕ) → IsInOrder ops journal c → (b : Bool) (i : ℕ) → is_of_client ops c i ≡ true → count (tells_step b i) journal ≤ 1
once ops journal c (rest, due) b i mine =
    let all = ap (λ steps. count_by (is_step b i) steps) due in
    omega (arith, all, count_parts (is_step b i) (op_events_of ops c journal) rest, tells_steps ops c i mine b journal, due_once ops c b i)

-- ALL OPERATIONS

-- each operation of a script is of a client
pub owner : (ops : List Op) (i : ℕ) → i < length ops → (c : ℕ) × (is_of_client ops c i ≡ true)
owner [] i lt = absurd (omega (arith, lt))
owner (op ∷ ops) zero lt = (op.client, grind (arith, nat_tests))
owner (op ∷ ops) (suc i) lt = owner ops i (omega (arith, lt))

abbrev total : (ℕ → ℕ) → ℕ → ℕ
total f zero = 0
total f (suc n) = total f n + f n

total_sum : (f g h : ℕ → ℕ) → ((i : ℕ) → h i ≡ f i + g i) → (n : ℕ) → total h n ≡ total f n + total g n
total_sum f g h is zero = refl
total_sum f g h is (suc n) = omega (arith, total_sum f g h is n, is n)

total_most : (f : ℕ → ℕ) (n : ℕ) → ((i : ℕ) → i < n → f i ≤ 1) → total f n ≤ n
total_most f zero most = omega arith
total_most f (suc n) most = omega (arith, total_most f n (λ i lt. most i (omega (arith, lt))), most n (omega arith))

below_or_last : (j n : ℕ) → j < suc n → (j < n) ⊎ (n ≡ j)
below_or_last j n lt = grind (arith, lt)

total_one : (f : ℕ → ℕ) (j n : ℕ) → j < n → 1 ≤ f j → 1 ≤ total f n
total_one f j zero lt le = absurd (omega (arith, lt))
total_one f j (suc n) lt le = elim (below_or_last j n lt) [
  | inl below ↦ omega (arith, total_one f j n below le)
  | inr last ↦ let here : f n ≡ f j = ap f last in omega (arith, here, le)
]

abbrev pub is_any_step : Bool → Event → Bool
is_any_step true (Ack i answer) = true
is_any_step false (Submit i) = true
is_any_step _ _ = false

-- a step is one of an operation that it names
named_once : (ops : List Op) (b : Bool) (event : Event) → NamesOp ops event → number (is_any_step b event) ≤ total (λ i. number (tells_step b i event)) (length ops)
named_once ops true (Ack j answer) named = total_one (λ i. number (j == i)) j (length ops) named (let here : number (j == j) ≡ 1 = ap number (eq-eqb j j refl) in omega (arith, here))
named_once ops false (Submit j) named = total_one (λ i. number (j == i)) j (length ops) named (let here : number (j == j) ≡ 1 = ap number (eq-eqb j j refl) in omega (arith, here))
named_once ops true _ named = omega arith
named_once ops false _ named = omega arith

counted_by_names : (ops : List Op) (b : Bool) (journal : List Entry) → AllByRecursion (λ e. NamesOp ops e.event) journal
    → count (is_any_step b) journal ≤ total (λ i. count (tells_step b i) journal) (length ops)
counted_by_names ops b [] named = omega arith
counted_by_names ops b (x ∷ xs) named =
    omega (
      arith,
      count-cons (λ (e : Entry). is_any_step b e.event) x xs,
      total_sum (λ i. number (tells_step b i x.event)) (λ i. count (tells_step b i) xs) (λ i. count (tells_step b i) (x ∷ xs))
          (λ i. count-cons (λ (e : Entry). tells_step b i e.event) x xs) (length ops),
      named_once ops b x.event named.0,
      counted_by_names ops b xs named.1,
    )

-- there are at most as many submits, and as many acks, as operations
pub steps_most : (ops : List Op) (journal : List Entry) → AllByRecursion (λ e. NamesOp ops e.event) journal → ((c : ℕ) → IsInOrder ops journal c) → (b : Bool)
    → count (is_any_step b) journal ≤ length ops
steps_most ops journal named order b =
    omega (
      arith,
      counted_by_names ops b journal named,
      total_most (λ i. count (tells_step b i) journal) (length ops) (λ i lt. let own = owner ops i lt in once ops journal own.0 (order own.0) b i own.1),
    )
