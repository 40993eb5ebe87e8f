-- Eight bytes, over and over.
use Rattle.std.proofs.Common.{◌≡◌, ℕ, zero, suc, ◌+◌, ◌*◌, ◌≤◌, List, ◌++◌, length, take, drop, ap, sym, ◌∙◌, add-one, arith, append_assoc, length-append}
use Rattle.std.specs.List.{repeat}
use Rattle.std.proofs.lemmas.List.{take_at, take_all, append-nil, length-take-le, length-drop}

repeat_suc : (n : ℕ) (xs : List ℕ) → repeat (suc n) xs ≡ repeat n xs ++ xs
repeat_suc zero xs = append-nil xs
repeat_suc (suc n) xs = ap (λ (ys : List ℕ). xs ++ ys) (repeat_suc n xs) ∙ sym (append_assoc xs (repeat n xs) xs)

repeat_end : (n : ℕ) (xs : List ℕ) → repeat (n + 1) xs ≡ repeat n xs ++ xs
repeat_end n xs = rw (add-one) (repeat_suc n xs)

-- one more stands behind those that stand
pub eights_more : (i : ℕ) (eight old new : List ℕ) → length eight ≡ 8 → 8 * i + 8 ≤ length old → take (8 * i) old ≡ repeat i eight
    → new ≡ take (8 * i) old ++ (eight ++ drop (8 * i + 8) old) → take (8 * (i + 1)) new ≡ repeat (i + 1) eight
eights_more i eight old new eights fits stand is =
    let front : length (take (8 * i) old ++ eight) ≡ 8 * (i + 1) = length-append (take (8 * i) old) eight ∙ omega (arith, length-take-le (8 * i) old (omega (arith, fits)), eights) in
    let regrouped : new ≡ (take (8 * i) old ++ eight) ++ drop (8 * i + 8) old = is ∙ sym (append_assoc (take (8 * i) old) eight (drop (8 * i + 8) old)) in
    ap (take (8 * (i + 1))) regrouped ∙ take_at (take (8 * i) old ++ eight) (drop (8 * i + 8) old) (8 * (i + 1)) front
    ∙ ap (λ (ys : List ℕ). ys ++ eight) stand ∙ sym (repeat_end i eight)

-- all stand
pub eights_all : (i : ℕ) (eight old : List ℕ) → i ≡ 64 → length old ≡ 512 → take (8 * i) old ≡ repeat i eight → old ≡ repeat 64 eight
eights_all i eight old is long stand =
    let whole : take 512 old ≡ repeat 64 eight = ap (λ (k : ℕ). take (8 * k) old) (sym is) ∙ stand ∙ ap (λ (k : ℕ). repeat k eight) is in
    sym (take_all 512 old (omega (arith, long))) ∙ whole

pub eights_long : (i : ℕ) (eight old new : List ℕ) → length eight ≡ 8 → 8 * i + 8 ≤ 512 → length old ≡ 512
    → new ≡ take (8 * i) old ++ (eight ++ drop (8 * i + 8) old) → length new ≡ 512
eights_long i eight old new eights fits long is =
    ap (λ (xs : List ℕ). length xs) is ∙ length-append (take (8 * i) old) (eight ++ drop (8 * i + 8) old)
    ∙ omega (arith, length-take-le (8 * i) old (omega (arith, fits, long)), length-append eight (drop (8 * i + 8) old), length-drop (8 * i + 8) old, eights, long, fits)
