-- What is found in a list, by a test or by its place.
use Rattle.std.proofs.Common.{◌≡◌, ℕ, zero, suc, ◌+◌, Bool, true, false, cond, List, [], ◌∷◌, ◌++◌, length, map, find, Some, None, Result, Ok, Err, refl, ap, ◌∙◌, subst, arith}
use Rattle.std.specs.Prelude.{Contains, IfOk, slice_get}
use Rattle.std.specs.List.{AllByRecursion}
use Rattle.std.proofs.lemmas.List.{get_or-map, length-append, length-map}
use Rattle.std.proofs.lemmas.List.Elements.{Contains-append_right, Contains-get_or}

pub find_holds : {X : Type 0} (p : X → Bool) (xs : List X) (x : X) → find p xs ≡ Some x → Contains xs x × (p x ≡ true)
find_holds p [] x is = absurd (cc is)
find_holds {X} p (y ∷ ys) x is = by (λ is. find_holds p ys x is) (p y) refl is
  where
    by : (find p ys ≡ Some x → Contains ys x × (p x ≡ true)) → (b : Bool) → p y ≡ b → cond b (Some y) (find p ys) ≡ Some x → Contains (y ∷ ys) x × (p x ≡ true)
    by more true at is = let same : y ≡ x = cc is in subst (λ (z : X). Contains (y ∷ ys) z × (p z ≡ true)) same (Contains-get_or (y ∷ ys) 0 y (omega arith), at)
    by more false at is = let rest = more is in (Contains-append_right (y ∷ []) ys x rest.0, rest.1)

pub find_none : {X : Type 0} (p : X → Bool) (xs : List X) → find p xs ≡ None → AllByRecursion (λ x. p x ≡ false) xs
find_none p [] is = tt
find_none p (y ∷ ys) is = by (λ is. find_none p ys is) (p y) refl is
  where
    by : (find p ys ≡ None → AllByRecursion (λ x. p x ≡ false) ys) → (b : Bool) → p y ≡ b → cond b (Some y) (find p ys) ≡ None → AllByRecursion (λ x. p x ≡ false) (y ∷ ys)
    by more true at is = absurd (cc is)
    by more false at is = (at, more is)

pub all_weaker : {X : Type 0} (P Q : X → Type 0) (xs : List X) → ((x : X) → P x → Q x) → AllByRecursion P xs → AllByRecursion Q xs
all_weaker P Q [] goes all = tt
all_weaker P Q (x ∷ xs) goes all = (goes x all.0, all_weaker P Q xs goes all.1)

-- what holds of each element by its place holds with one more at the end
pub each_more : {V : Type 0} (P : ℕ → V → Type 0) (xs : List V) (x : V) → ((k : ℕ) (v : V) → slice_get xs k ≡ Some v → P k v) → P (length xs) x → (k : ℕ) (v : V) → slice_get (xs ++ x ∷ []) k ≡ Some v → P k v
each_more P [] x each last zero v is = subst (P 0) (cc is) last
each_more P [] x each last (suc k) v is = absurd (cc is)
each_more P (y ∷ xs) x each last zero v is = each zero v is
each_more P (y ∷ xs) x each last (suc k) v is = each_more (λ k v. P (suc k) v) xs x (λ k v is. each (suc k) v is) last k v is

pub count_more : {V : Type 0} (before after : List V) (x : V) (k : ℕ) → after ≡ before ++ x ∷ [] → length before ≡ k → length after ≡ k + 1
count_more before after x k is count = ap length is ∙ length-append before (x ∷ []) ∙ ap (λ n. n + 1) count

pub contains_map : {A B : Type 0} (f : A → B) (xs : List A) (x : A) → Contains xs x → Contains (map f xs) (f x)
contains_map f xs x (k, below, is) = (k, omega (arith, length-map xs f, below), get_or-map f xs k x (f x) below ∙ ap f is)

pub if_ok_map : {T E : Type 0} {P Q : T → Type 0} (r : Result T E) → ((t : T) → P t → Q t) → IfOk r P → IfOk r Q
if_ok_map (Ok t) goes is = goes t is
if_ok_map (Err e) goes is = tt
