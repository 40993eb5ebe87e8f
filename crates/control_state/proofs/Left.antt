-- The operations that a client has left, from one place to the next.
use Rattle.std.proofs.Common.{◌≡◌, ℕ, suc, ◌+◌, ◌-◌, ◌<◌, ◌==◌, ◌≢◌, get_or, Bool, true, false, List, ◌∷◌, length, refl, ap, ◌∙◌, arith}
use Rattle.std.proofs.lemmas.Bool.Decides.{nat_tests}
use Rattle.std.proofs.lemmas.Option.{slice_get-get_or}
use Rattle.std.specs.Prelude.{filter}
use Rattle.std.specs.List.{range_with_len}
use Rattle.array_model.specs.declared.script.Op.{Op}
use Rattle.array_model.specs.Script.{is_of_client, is_of_client_in}
use Rattle.control_state.specs.Seen.{left_from}

one_more : (n i : ℕ) → i < n → n - i ≡ suc (n - (i + 1))
one_more n i below = omega (arith, below)

chosen : (p : ℕ → Bool) (i : ℕ) (rest : List ℕ) → p i ≡ true → filter p (i ∷ rest) ≡ i ∷ filter p rest
chosen p i rest is = rw is refl

passed : (p : ℕ → Bool) (i : ℕ) (rest : List ℕ) → p i ≡ false → filter p (i ∷ rest) ≡ filter p rest
passed p i rest is = rw is refl

opened : (n i : ℕ) → i < n → range_with_len i (n - i) ≡ i ∷ range_with_len (i + 1) (n - (i + 1))
opened n i below = ap (range_with_len i) (one_more n i below)

asked_at : (ops : List Op) (k i : ℕ) (d : Op) → i < length ops → is_of_client ops k i ≡ ((get_or ops i d).client == k)
asked_at ops k i d below = ap (is_of_client_in k) (slice_get-get_or ops i d below)

-- the operation is the client's
pub left_here : (ops : List Op) (k i : ℕ) (d : Op) → i < length ops → (get_or ops i d).client ≡ k → left_from ops k i ≡ i ∷ left_from ops k (i + 1)
left_here ops k i d below is =
    ap (filter (is_of_client ops k)) (opened (length ops) i below)
    ∙ chosen (is_of_client ops k) i (range_with_len (i + 1) (length ops - (i + 1))) (asked_at ops k i d below ∙ grind (arith, nat_tests))

-- it isn't
pub left_on : (ops : List Op) (k i : ℕ) (d : Op) → i < length ops → (get_or ops i d).client ≢ k → left_from ops k i ≡ left_from ops k (i + 1)
left_on ops k i d below other =
    ap (filter (is_of_client ops k)) (opened (length ops) i below)
    ∙ passed (is_of_client ops k) i (range_with_len (i + 1) (length ops - (i + 1))) (asked_at ops k i d below ∙ grind (arith, nat_tests))
