-- One byte more of a sum, bit by bit, that stands in the place of what it is added to.
use Rattle.std.proofs.Common.{◌≡◌, ℕ, zero, suc, ◌+◌, ◌<◌, List, [], ◌∷◌, ◌++◌, length, take, drop, slice_set, slice_index_or, bit_xor, refl, ap, ◌∙◌, arith}
use Rattle.array_model.specs.AnswerLaw.{xor_bytes}

abbrev so_far : ℕ → List ℕ → List ℕ → List ℕ
so_far i old from = xor_bytes (take i old) (take i from) ++ drop i old

step : (old from : List ℕ) (i : ℕ) → i < length old → i < length from
    → slice_set (so_far i old from) i (bit_xor (slice_index_or (so_far i old from) i 0) (slice_index_or from i 0))
    ≡ so_far (suc i) old from
step [] from i lt short = absurd (omega (arith, lt))
step (x ∷ xs) [] i lt short = absurd (omega (arith, short))
step (x ∷ xs) (y ∷ ys) zero lt short = refl
step (x ∷ xs) (y ∷ ys) (suc i) lt short =
    ap (λ zs. bit_xor x y ∷ zs) (step xs ys i (omega (arith, lt)) (omega (arith, short)))

pub xor_step : (old from now : List ℕ) (i : ℕ) → i < length old → i < length from → now ≡ so_far i old from
    → slice_set now i (bit_xor (slice_index_or now i 0) (slice_index_or from i 0)) ≡ so_far (i + 1) old from
xor_step old from now i lt short is =
    let next : suc i ≡ i + 1 = omega arith in
    ap (λ zs. slice_set zs i (bit_xor (slice_index_or zs i 0) (slice_index_or from i 0))) is ∙ step old from i lt short
    ∙ ap (λ k. so_far k old from) next
