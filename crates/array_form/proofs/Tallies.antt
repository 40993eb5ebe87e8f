-- A journal has so many entries as there are of its twenty kinds; and of a kind that names volumes or disks there are
-- so many as each of them has.
use Rattle.std.proofs.Common.{◌≡◌, ℕ, zero, suc, ◌+◌, ◌<◌, ◌≤◌, ◌==◌, Bool, true, false, List, [], ◌∷◌, length, refl, ap, arith}
use Rattle.std.specs.List.{AllByRecursion}
use Rattle.std.proofs.lemmas.Bool.Decides.{nat_tests}
use Rattle.array_model.specs.declared.journal.Entry.{Entry}
use Rattle.array_model.specs.declared.journal.Event.{Event}
use Rattle.array_model.specs.declared.journal.Event.TheVariants.{Begin, Pass, Active, Unblock, Applied, Declined, Idle}
use Rattle.array_model.specs.Events.{count, is_begin, is_end, is_spare, is_any_ready, is_any_point, is_any_pass_end, is_any_clean, is_posted, is_applied, is_settled, is_any_pending, is_any_fault, is_kill, is_takeover}
use Rattle.array_model.proofs.Steps.{number, count-cons, is_any_step}

-- KINDS

abbrev pub is_any_pass : Event → Bool
is_any_pass (Pass v first) = true
is_any_pass _ = false

abbrev pub is_any_active : Event → Bool
is_any_active (Active v) = true
is_any_active _ = false

abbrev pub is_any_idle : Event → Bool
is_any_idle (Idle v) = true
is_any_idle _ = false

abbrev pub is_any_unblock : Event → Bool
is_any_unblock (Unblock d) = true
is_any_unblock _ = false

abbrev pub is_declined : Event → Bool
is_declined (Declined n kind) = true
is_declined _ = false

abbrev pub all_kinds : ((Event → Bool) → ℕ) → ℕ
all_kinds f =
    f is_begin + f is_end + f is_spare + f is_any_ready + f is_any_pass + f is_any_point + f is_any_pass_end
    + f is_any_active + f is_any_clean + f is_any_unblock + f is_posted + f is_applied + f is_declined
    + f (is_any_step false) + f is_any_pending + f (is_any_step true) + f is_any_idle + f is_any_fault + f is_kill
    + f is_takeover

pub more : (test : Event → Bool) (x : Entry) (xs : List Entry)
    → count test (x ∷ xs) ≡ number (test x.event) + count test xs
more test x xs = count-cons (λ (e : Entry). test e.event) x xs

one_kind : (e : Event) → all_kinds (λ test. number (test e)) ≡ 1
one_kind (Begin g) = refl
one_kind _ = refl

pub length_counted : (journal : List Entry) → length journal ≡ all_kinds (λ test. count test journal)
length_counted [] = refl
length_counted (x ∷ xs) =
    omega (
      arith,
      one_kind x.event,
      length_counted xs,
      more is_begin x xs,
      more is_end x xs,
      more is_spare x xs,
      more is_any_ready x xs,
      more is_any_pass x xs,
      more is_any_point x xs,
      more is_any_pass_end x xs,
      more is_any_active x xs,
      more is_any_clean x xs,
      more is_any_unblock x xs,
      more is_posted x xs,
      more is_applied x xs,
      more is_declined x xs,
      more (is_any_step false) x xs,
      more is_any_pending x xs,
      more (is_any_step true) x xs,
      more is_any_idle x xs,
      more is_any_fault x xs,
      more is_kill x xs,
      more is_takeover x xs,
    )

-- each update that is settled was applied or declined
one_settled : (e : Event) → number (is_settled e) ≡ number (is_applied e) + number (is_declined e)
one_settled (Applied n) = refl
one_settled _ = refl

pub settled_counted : (journal : List Entry)
    → count is_settled journal ≡ count is_applied journal + count is_declined journal
settled_counted [] = refl
settled_counted (x ∷ xs) =
    omega (
      arith,
      more is_settled x xs,
      more is_applied x xs,
      more is_declined x xs,
      one_settled x.event,
      settled_counted xs,
    )

-- SUMS

abbrev pub total : (ℕ → ℕ) → ℕ → ℕ
total f zero = 0
total f (suc n) = total f n + f n

pub total_sum : (f g h : ℕ → ℕ) → ((i : ℕ) → h i ≡ f i + g i) → (n : ℕ) → total h n ≡ total f n + total g n
total_sum f g h is zero = refl
total_sum f g h is (suc n) = omega (arith, total_sum f g h is n, is n)

pub total_le : (f g : ℕ → ℕ) (n : ℕ) → ((i : ℕ) → i < n → f i ≤ g i) → total f n ≤ total g n
total_le f g zero le = omega arith
total_le f g (suc n) le =
    let last = le n (omega arith) in
    let more = total_le f g n (λ i lt. le i (omega (arith, lt))) in
    omega (arith, last, more)

pub total_ones : (f : ℕ → ℕ) (n : ℕ) → ((i : ℕ) → f i ≤ 1) → total f n ≤ n
total_ones f zero le = omega arith
total_ones f (suc n) le = let last = le n in let more = total_ones f n le in omega (arith, last, more)

total_at : (f : ℕ → ℕ) (j n : ℕ) → j < n → 1 ≤ f j → 1 ≤ total f n
total_at f j zero lt le = absurd (omega (arith, lt))
total_at f j (suc n) lt le = at (j == n) refl (total_at f j n)
  where
    at : (b : Bool) → (j == n) ≡ b → (j < n → 1 ≤ f j → 1 ≤ total f n) → 1 ≤ total f n + f n
    at true is more =
        let here : j ≡ n = grind (arith, nat_tests, is) in
        let same = ap f here in
        omega (arith, same, le)
    at false is more =
        let below : j < n = grind (arith, nat_tests, is, lt) in
        let one = more below le in
        omega (arith, one)

-- an entry of a kind that names one of so many is counted there
pub counted_there : (any : Event → Bool) (one : ℕ → Event → Bool) (n : ℕ) (Named : Event → Type 0)
    → ((e : Event) → Named e → number (any e) ≤ total (λ k. number (one k e)) n)
    → (journal : List Entry) → AllByRecursion (λ e. Named e.event) journal
    → count any journal ≤ total (λ k. count (one k) journal) n
counted_there any one n Named each [] named = omega arith
counted_there any one n Named each (x ∷ xs) named =
    omega (
      arith,
      more any x xs,
      total_sum (λ k. number (one k x.event)) (λ k. count (one k) xs) (λ k. count (one k) (x ∷ xs))
          (λ k. more (one k) x xs) n,
      each x.event named.0,
      counted_there any one n Named each xs named.1,
    )

-- the one that is named
pub there_once : (one : ℕ → Event → Bool) (e : Event) (j n : ℕ) → j < n → one j e ≡ true
    → 1 ≤ total (λ k. number (one k e)) n
there_once one e j n lt is =
    total_at (λ k. number (one k e)) j n lt (let here : number (one j e) ≡ 1 = ap number is in omega (arith, here))
