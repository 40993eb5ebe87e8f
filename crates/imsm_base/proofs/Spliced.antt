-- Bytes that are put into the place of others.
use Rattle.std.proofs.Common.{◌≡◌, ℕ, zero, suc, ◌+◌, ◌-◌, ◌≤◌, ◌<◌, List, [], ◌∷◌, ◌++◌, length, map, take, drop, get_or, sym, ◌∙◌, ap, arith}
use Rattle.std.proofs.Common.{set}
use Rattle.std.specs.List.{concat}
use Rattle.std.proofs.lemmas.List.{append_assoc, drop-drop, drop_at, drop-take, take-take, take-append-le, drop-append-le, length-append, length-take-le, length-drop, map-set, set-get_or}
use Rattle.imsm_base.specs.Fields.{Part, number, number_at}
use Rattle.imsm_base.specs.Layout.{HasLengths}
use Rattle.imsm_base.proofs.Cut.{total}

-- the bytes with these in the place of as many
abbrev pub spliced : ℕ → List ℕ → List ℕ → List ℕ
spliced at f bytes = take at bytes ++ (f ++ drop (at + length f) bytes)

pub length-spliced : (at : ℕ) (f bytes : List ℕ) → at + length f ≤ length bytes → length (spliced at f bytes) ≡ length bytes
length-spliced at f bytes inside =
    omega (
      arith,
      length-append (take at bytes) (f ++ drop (at + length f) bytes),
      length-append f (drop (at + length f) bytes),
      length-take-le at bytes (omega arith),
      length-drop (at + length f) bytes,
    )

-- in the front of two runs of bytes
pub spliced-front : (at : ℕ) (f xs ys : List ℕ) → at + length f ≤ length xs → spliced at f (xs ++ ys) ≡ spliced at f xs ++ ys
spliced-front at f xs ys inside =
    let front : take at (xs ++ ys) ≡ take at xs = take-append-le at xs ys (omega arith) in
    let rest : drop (at + length f) (xs ++ ys) ≡ drop (at + length f) xs ++ ys = drop-append-le (at + length f) xs ys inside in
    ap (λ (x : List ℕ). x ++ (f ++ drop (at + length f) (xs ++ ys))) front
    ∙ ap (λ (x : List ℕ). take at xs ++ (f ++ x)) rest
    ∙ ap (λ (x : List ℕ). take at xs ++ x) (sym (append_assoc f (drop (at + length f) xs) ys))
    ∙ sym (append_assoc (take at xs) (f ++ drop (at + length f) xs) ys)

-- and behind the first run
pub spliced-behind : (xs ys f : List ℕ) (at k : ℕ) → at ≡ length xs + k → spliced at f (xs ++ ys) ≡ xs ++ spliced k f ys
spliced-behind [] ys f at k e = let same : at ≡ k = omega arith in ap (λ (i : ℕ). spliced i f ys) same
spliced-behind (x ∷ xs) ys f zero k e = absurd (omega arith)
spliced-behind (x ∷ xs) ys f (suc at) k e =
    let next : suc at + length f ≡ suc (at + length f) = omega arith in
    ap (λ (i : ℕ). x ∷ (take at (xs ++ ys) ++ (f ++ drop i (x ∷ (xs ++ ys))))) next
    ∙ ap (λ (zs : List ℕ). x ∷ zs) (spliced-behind xs ys f at k (omega arith))

-- a field stands behind those before it
pub spliced-field : (ns : List ℕ) (part : Part) (k : ℕ) (f : List ℕ) → HasLengths ns part → k < length part → length f ≡ get_or ns k 0 →
    spliced (total (take k ns)) f (concat part) ≡ concat (set part k f)
spliced-field ns [] k f lengths below len = absurd (omega arith)
spliced-field [] (p ∷ ps) k f lengths below len = cc
spliced-field (n ∷ ns) (p ∷ ps) zero f lengths below len =
    let here : length p ≡ n = cc in
    ap (λ (x : List ℕ). f ++ x) (drop_at p (concat ps) (0 + length f) (omega arith))
spliced-field (n ∷ ns) (p ∷ ps) (suc k) f lengths below len =
    let here : length p ≡ n = cc in
    let more : map (λ (g : List ℕ). length g) ps ≡ ns = cc in
    spliced-behind p (concat ps) f (n + total (take k ns)) (total (take k ns)) (omega arith)
    ∙ ap (λ (x : List ℕ). p ++ x) (spliced-field ns ps k f more (omega arith) len)

pub set-lengths : (ns : List ℕ) (part : Part) (k : ℕ) (f : List ℕ) → HasLengths ns part → length f ≡ get_or ns k 0 → HasLengths ns (set part k f)
set-lengths ns part k f lengths len =
    map-set (λ (g : List ℕ). length g) part k f
    ∙ ap (λ (xs : List ℕ). set xs k (length f)) lengths
    ∙ ap (set ns k) len
    ∙ set-get_or ns k 0

-- a number inside the first n bytes
pub number_at-take : (k at n : ℕ) (bytes : List ℕ) → at + k ≤ n → number_at k at (take n bytes) ≡ number_at k at bytes
number_at-take k at n bytes inside =
    let m : ℕ = n - at in
    let split : n ≡ at + m = omega arith in
    let whole : drop at (take n bytes) ≡ take m (drop at bytes) = ap (λ (i : ℕ). drop at (take i bytes)) split ∙ drop-take at m bytes in
    ap (λ (x : List ℕ). number (take k x)) whole ∙ ap number (take-take k m (drop at bytes) (omega arith))

-- and in the front of two runs
pub number_at-front : (k at : ℕ) (xs ys : List ℕ) → at + k ≤ length xs → number_at k at (xs ++ ys) ≡ number_at k at xs
number_at-front k at xs ys inside =
    ap (λ (x : List ℕ). number (take k x)) (drop-append-le at xs ys (omega arith))
    ∙ ap number (take-append-le k (drop at xs) ys (omega (arith, length-drop at xs)))

-- numbers before and behind the place are left
pub number_at-before : (k at n : ℕ) (f bytes : List ℕ) → at + k ≤ n → n ≤ length bytes → number_at k at (spliced n f bytes) ≡ number_at k at bytes
number_at-before k at n f bytes before inside =
    number_at-front k at (take n bytes) (f ++ drop (n + length f) bytes) (omega (arith, length-take-le n bytes inside))
    ∙ number_at-take k at n bytes before

pub number_at-behind : (k at n : ℕ) (f bytes : List ℕ) → n + length f ≤ at → n ≤ length bytes → number_at k at (spliced n f bytes) ≡ number_at k at bytes
number_at-behind k at n f bytes behind inside =
    let j : ℕ = at - (n + length f) in
    let split : at ≡ (n + length f) + j = omega arith in
    let front : List ℕ = take n bytes ++ f in
    let len : length front ≡ n + length f = omega (arith, length-append (take n bytes) f, length-take-le n bytes inside) in
    let joined : spliced n f bytes ≡ front ++ drop (n + length f) bytes = sym (append_assoc (take n bytes) f (drop (n + length f) bytes)) in
    let there : drop ((n + length f) + j) (front ++ drop (n + length f) bytes) ≡ drop ((n + length f) + j) bytes =
    sym (drop-drop j (n + length f) (front ++ drop (n + length f) bytes))
    ∙ ap (drop j) (drop_at front (drop (n + length f) bytes) (n + length f) len)
    ∙ drop-drop j (n + length f) bytes in
    ap (number_at k at) joined
    ∙ ap (λ (i : ℕ). number (take k (drop i (front ++ drop (n + length f) bytes)))) split
    ∙ ap (λ (x : List ℕ). number (take k x)) there
    ∙ ap (λ (i : ℕ). number_at k i bytes) (sym split)
