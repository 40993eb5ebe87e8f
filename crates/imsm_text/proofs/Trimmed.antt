-- The zeros at the end of bytes.
use Rattle.std.proofs.Common.{◌≡◌, ◌≢◌, ◌≤◌, ◌<◌, ◌&&◌, ◌-◌, ℕ, suc, zero, List, [], ◌∷◌, true, false, cond, drop, take, get_or, length, refl, sym, ◌∙◌, ap, arith}
use Rattle.std.specs.Prelude.{◌==◌}
use Rattle.std.specs.List.{list_all}
use Rattle.std.proofs.lemmas.Bool.{ne_eqb}
use Rattle.std.proofs.Math.Bool.{and-false}
use Rattle.imsm_text.specs.Text.{without_zeros}

not_all_zero : (xs : List ℕ) (k : ℕ) → k < length xs → get_or xs k 0 ≢ 0 → list_all (λ b. b == 0) xs ≡ false
not_all_zero [] k below some = absurd (omega arith)
not_all_zero (x ∷ xs) zero below some = ap (λ b. b && list_all (λ b. b == 0) xs) (ne_eqb x 0 some)
not_all_zero (x ∷ xs) (suc k) below some = ap (λ b. (x == 0) && b) (not_all_zero xs k (omega arith) some) ∙ and-false (x == 0)

-- what stands before zeros alone, with no zero at its end
pub take-without_zeros : (bytes : List ℕ) (end : ℕ) → end ≤ length bytes → list_all (λ b. b == 0) (drop end bytes) ≡ true
    → ((k : ℕ) → end ≡ suc k → get_or bytes k 0 ≢ 0) → take end bytes ≡ without_zeros bytes
take-without_zeros [] zero within zeros last = refl
take-without_zeros [] (suc n) within zeros last = absurd (omega arith)
take-without_zeros (b ∷ bs) zero within zeros last = sym (ap (λ t. cond t [] (b ∷ without_zeros bs)) zeros)
take-without_zeros (b ∷ bs) (suc n) within zeros last =
    let some : list_all (λ b. b == 0) (b ∷ bs) ≡ false = not_all_zero (b ∷ bs) n (omega arith) (last n refl) in
    let rest : take n bs ≡ without_zeros bs = take-without_zeros bs n (omega arith) zeros (λ k is. last (suc k) (ap suc is)) in
    ap (λ r. b ∷ r) rest ∙ sym (ap (λ t. cond t [] (b ∷ without_zeros bs)) some)

pub last_of : (bytes : List ℕ) (end : ℕ) → get_or bytes (end - 1) 0 ≢ 0 → (k : ℕ) → end ≡ suc k → get_or bytes k 0 ≢ 0
last_of bytes end some k is zero_there = let e : end - 1 ≡ k = omega arith in some (rw e zero_there)

pub none_last : (bytes : List ℕ) (end : ℕ) → end ≤ 0 → (k : ℕ) → end ≡ suc k → get_or bytes k 0 ≢ 0
none_last bytes end none k is zero_there = omega arith
