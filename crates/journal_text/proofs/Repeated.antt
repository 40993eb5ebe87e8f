-- A list is copies of its front exactly where it is what it is one front further on.
use Rattle.std.proofs.Common.{◌≡◌, ℕ, zero, suc, ◌+◌, ◌*◌, ◌≤◌, List, ◌++◌, take, drop, length, sym, ap, ◌∙◌, arith}
use Rattle.std.proofs.lemmas.List.{append-nil, append_assoc, take_all, take_at, drop_at, take-append-drop, take-append-le, drop-take, length-drop, length-take-le, length-append}
use Rattle.std.proofs.lemmas.Slice.Eq.{bytes_eq-Decides}
use Rattle.std.proofs.lemmas.Bool.Decides.{same_from_decides, Decides-like}
use Rattle.std.specs.List.{repeat}
use Rattle.std.specs.Str.{bytes_eq}

length-repeat : (n : ℕ) (xs : List ℕ) → length (repeat n xs) ≡ n * length xs
length-repeat zero xs = omega arith
length-repeat (suc n) xs = length-append xs (repeat n xs) ∙ omega (arith, length-repeat n xs)

-- one more copy behind is one more before
repeat_behind : (n : ℕ) (xs : List ℕ) → repeat n xs ++ xs ≡ xs ++ repeat n xs
repeat_behind zero xs = sym (append-nil xs)
repeat_behind (suc n) xs = append_assoc xs (repeat n xs) xs ∙ ap (λ ys. xs ++ ys) (repeat_behind n xs)

-- the front of the front
take_front : (k m : ℕ) (xs : List ℕ) → k ≤ length (take m xs) → take k (take m xs) ≡ take k xs
take_front k m xs le =
    sym (take-append-le k (take m xs) (drop m xs) le) ∙ ap (λ ys. take k ys) (take-append-drop m xs)

copies : (n : ℕ) (xs : List ℕ) → length xs ≡ 8 * suc n → drop 8 xs ≡ take (8 * n) xs → xs ≡ repeat (suc n) (take 8 xs)
copies zero xs len e = sym (append-nil (take 8 xs) ∙ take_all 8 xs (omega arith))
copies (suc n) xs len e =
    let more : 8 * suc n ≡ 8 + 8 * n = omega arith in
    let length_rest : length (drop 8 xs) ≡ 8 * suc n = length-drop 8 xs ∙ omega arith in
    let further : drop 8 (drop 8 xs) ≡ take (8 * n) (drop 8 xs) =
    ap (λ ys. drop 8 ys) e ∙ (ap (λ k. drop 8 (take k xs)) more ∙ drop-take 8 (8 * n) xs) in
    let room : 8 ≤ length (take (8 * suc n) xs) = omega (arith, ap (λ ys. length ys) e) in
    let front : take 8 (drop 8 xs) ≡ take 8 xs = ap (λ ys. take 8 ys) e ∙ take_front 8 (8 * suc n) xs room in
    let rest : drop 8 xs ≡ repeat (suc n) (take 8 xs) =
    copies n (drop 8 xs) length_rest further ∙ ap (λ ys. repeat (suc n) ys) front in
    sym (take-append-drop 8 xs) ∙ ap (λ ys. take 8 xs ++ ys) rest

copied : (n : ℕ) (xs front : List ℕ) → length front ≡ 8 → xs ≡ repeat (suc n) front → drop 8 xs ≡ take (8 * n) xs
copied n xs front len e =
    let length_all : length (repeat n front) ≡ 8 * n = length-repeat n front ∙ omega (arith, ap (λ k. n * k) len) in
    ap (λ ys. drop 8 ys) e
    ∙ (drop_at front (repeat n front) 8 len
    ∙ sym (ap (λ ys. take (8 * n) ys) (e ∙ sym (repeat_behind n front)) ∙ take_at (repeat n front) front (8 * n) length_all))

pub shifted : (xs : List ℕ) → length xs ≡ 512 → bytes_eq (drop 8 xs) (take 504 xs) ≡ bytes_eq xs (repeat 64 (take 8 xs))
shifted xs len =
    let length_front : length (take 8 xs) ≡ 8 = length-take-le 8 xs (omega arith) in
    same_from_decides _ _
    (Decides-like _ (copies 63 xs len) (copied 63 xs (take 8 xs) length_front) (bytes_eq-Decides (drop 8 xs) (take 504 xs)))
    (bytes_eq-Decides xs (repeat 64 (take 8 xs)))
