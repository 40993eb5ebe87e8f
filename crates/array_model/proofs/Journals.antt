-- Journals and logs that grow.
use Rattle.std.proofs.Common.{◌≡◌, ℕ, ◌+◌, ◌≤◌, ◌||◌, Bool, List, [], ◌∷◌, ◌++◌, length, take, sym, subst, arith, append_assoc, ◌⊎◌, inl, inr, refl}
use Rattle.std.specs.List.{AllByRecursion}
use Rattle.std.proofs.lemmas.List.{append-nil, take-append-le}
use Rattle.std.proofs.lemmas.List.Sums.{sum_by-append}
use Rattle.std.proofs.lemmas.List.Folds.{list_any-append}
use Rattle.device_log.specs.Log.{Call}
use Rattle.array_model.specs.declared.journal.Entry.{Entry}
use Rattle.array_model.specs.declared.journal.Event.{Event}
use Rattle.array_model.specs.Events.{AtEach, AtEachFrom, has, count}
use Rattle.array_model.specs.Moments.{AllBelow, EachCallFrom}

pub at_each-append : (P : List Entry → Entry → Type 0) (front xs ys : List Entry) → AtEachFrom P front xs → AtEachFrom P (front ++ xs) ys → AtEachFrom P front (xs ++ ys)
at_each-append P front [] ys old new = subst (λ f. AtEachFrom P f ys) (append-nil front) new
at_each-append P front (x ∷ xs) ys old new =
    (old.0, at_each-append P (front ++ x ∷ []) xs ys old.1 (subst (λ f. AtEachFrom P f ys) (sym (append_assoc front (x ∷ []) xs)) new))

pub at_each_more : (P : List Entry → Entry → Type 0) (journal new : List Entry) → AtEach P journal → AtEachFrom P journal new → AtEach P (journal ++ new)
at_each_more P journal new old more = at_each-append P [] journal new old more

pub at_each_map : (P Q : List Entry → Entry → Type 0) → ((front : List Entry) (e : Entry) → P front e → Q front e) → (front xs : List Entry) → AtEachFrom P front xs → AtEachFrom Q front xs
at_each_map P Q f front [] h = tt
at_each_map P Q f front (x ∷ xs) h = (f front x h.0, at_each_map P Q f (front ++ x ∷ []) xs h.1)

-- what is said of the calls before an entry goes on to hold in a longer log
pub at_each_log : (Q : List Call → List Entry → Entry → Type 0) (log : List Call) (call : Call) (front xs : List Entry) → AllBelow (length log) xs
    → AtEachFrom (λ f e. Q (take e.stamp log) f e) front xs → AtEachFrom (λ f e. Q (take e.stamp (log ++ call ∷ [])) f e) front xs
at_each_log Q log call front [] below h = tt
at_each_log Q log call front (x ∷ xs) below h =
    (subst (λ l. Q l front x) (sym (take-append-le x.stamp log (call ∷ []) below.0)) h.0, at_each_log Q log call (front ++ x ∷ []) xs below.1 h.1)

pub count-append : (test : Event → Bool) (xs ys : List Entry) → count test (xs ++ ys) ≡ count test xs + count test ys
count-append test xs ys = sum_by-append _ xs ys

pub has-append : (test : Event → Bool) (xs ys : List Entry) → has test (xs ++ ys) ≡ (has test xs || has test ys)
has-append test xs ys = list_any-append _ xs ys

pub all-append : {X : Type 0} (P : X → Type 0) (xs ys : List X) → AllByRecursion P xs → AllByRecursion P ys → AllByRecursion P (xs ++ ys)
all-append P [] ys a b = b
all-append P (x ∷ xs) ys a b = (a.0, all-append P xs ys a.1 b)

pub all_map : {X : Type 0} (P Q : X → Type 0) → ((x : X) → P x → Q x) → (xs : List X) → AllByRecursion P xs → AllByRecursion Q xs
all_map P Q f [] h = tt
all_map P Q f (x ∷ xs) h = (f x h.0, all_map P Q f xs h.1)

pub all_first : {X : Type 0} (P : X → Type 0) (xs ys : List X) → AllByRecursion P (xs ++ ys) → AllByRecursion P xs
all_first P [] ys h = tt
all_first P (x ∷ xs) ys h = (h.0, all_first P xs ys h.1)

pub below_later : (c d : ℕ) (xs : List Entry) → c ≤ d → AllBelow c xs → AllBelow d xs
below_later c d [] le h = tt
below_later c d (x ∷ xs) le h = (omega (arith, h.0), below_later c d xs le h.1)

-- what holds of each call by itself
pub each_call : (P : ℕ → Call → Type 0) (Q : Call → Type 0) → ((k : ℕ) (call : Call) → Q call → P k call) → (k : ℕ) (log : List Call) → AllByRecursion Q log → EachCallFrom P k log
each_call P Q f k [] h = tt
each_call P Q f k (x ∷ xs) h = (f k x h.0, each_call P Q f (k + 1) xs h.1)

-- a list of one entry has two fronts
pub fronts_of_one : (e : Entry) (front rest : List Entry) → e ∷ [] ≡ front ++ rest → (front ≡ []) ⊎ (front ≡ e ∷ [])
fronts_of_one e [] rest h = inl refl
fronts_of_one e (x ∷ []) rest h = inr (let same : e ≡ x = cc h in subst (λ y. x ∷ [] ≡ y ∷ []) (sym same) refl)
fronts_of_one e (x ∷ y ∷ more) rest h = absurd cc
