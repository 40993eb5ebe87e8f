-- How often an entry comes in a journal that grows by one.
use Rattle.std.proofs.Common.{◌≡◌, ℕ, ◌+◌, ◌≤◌, Bool, true, false, List, [], ◌∷◌, ◌++◌, refl, ap, ◌∙◌, arith, Option, Some, None}
use Rattle.array_model.specs.declared.journal.Entry.{Entry}
use Rattle.array_model.specs.declared.journal.Event.{Event}
use Rattle.array_model.specs.Events.{count}
use Rattle.array_model.proofs.Journals.{count-append}
use Rattle.array_machine.specs.Machine.{entered}
use Rattle.array_form.specs.StateCounts.{one_if}

pub one_at_most : (b : Bool) → one_if b ≤ 1
one_at_most true = omega arith
one_at_most false = omega arith

-- there is an entry, and it is one of these
abbrev pub sees : (Event → Bool) → Option Event → Bool
sees test None = false
sees test (Some e) = test e

one_more : (test : Event → Bool) (n : ℕ) (e : Event) → test e ≡ true
    → count test (record { stamp = n; event = e } ∷ []) ≡ 1
one_more test n e is = rw is refl

none_more : (test : Event → Bool) (n : ℕ) (e : Event) → test e ≡ false
    → count test (record { stamp = n; event = e } ∷ []) ≡ 0
none_more test n e is = rw is refl

none_entered : (test : Event → Bool) (n : ℕ) (o : Option Event) → sees test o ≡ false
    → count test (entered n o) ≡ 0
none_entered test n None not_one = refl
none_entered test n (Some e) not_one = none_more test n e not_one

-- one more
pub count_one : (test : Event → Bool) (journal : List Entry) (n : ℕ) (e : Event) → test e ≡ true
    → count test (journal ++ entered n (Some e)) ≡ count test journal + 1
count_one test journal n e is =
    count-append test journal (entered n (Some e)) ∙ ap (λ k. count test journal + k) (one_more test n e is)

-- as many
pub count_same : (test : Event → Bool) (journal : List Entry) (n : ℕ) (o : Option Event) → sees test o ≡ false
    → count test (journal ++ entered n o) ≡ count test journal
count_same test journal n o not_one =
    let more = count-append test journal (entered n o) in
    let none = none_entered test n o not_one in
    omega (arith, more, none)
