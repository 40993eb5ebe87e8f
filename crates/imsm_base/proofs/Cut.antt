-- Cutting bytes into fields of given lengths, and joining them again.
use Rattle.std.proofs.Common.{◌≡◌, ℕ, ◌+◌, ◌≤◌, List, [], ◌∷◌, ◌++◌, length, map, take, drop, refl, sym, ◌∙◌, ap, arith}
use Rattle.std.specs.List.{concat}
use Rattle.std.proofs.lemmas.List.{append_assoc, drop-drop, drop_at, take_at, take-append-drop, length-take-le, length-drop, length-append}
use Rattle.imsm_base.specs.Fields.{Part}
use Rattle.imsm_base.specs.Layout.{HasLengths}
use Rattle.imsm_base.specs.Parts.{cut_at}

-- how many bytes fields of these lengths have
abbrev pub total : List ℕ → ℕ
total [] = 0
total (n ∷ ns) = n + total ns

-- a part that stands somewhere is cut out of there
pub cut_at-joined : (at : ℕ) (ns before : List ℕ) (part : Part) (rest : List ℕ) →
    length before ≡ at → HasLengths ns part → cut_at at ns (before ++ (concat part ++ rest)) ≡ part
cut_at-joined at [] before [] rest place lengths = refl
cut_at-joined at (n ∷ ns) before [] rest place lengths = cc
cut_at-joined at [] before (f ∷ fs) rest place lengths = cc
cut_at-joined at (n ∷ ns) before (f ∷ fs) rest place lengths =
    let len : length f ≡ n = cc in
    let more : map (λ (g : List ℕ). length g) fs ≡ ns = cc in
    let regrouped : before ++ ((f ++ concat fs) ++ rest) ≡ before ++ (f ++ (concat fs ++ rest)) = ap (λ (x : List ℕ). before ++ x) (append_assoc f (concat fs) rest) in
    let after : before ++ (f ++ (concat fs ++ rest)) ≡ (before ++ f) ++ (concat fs ++ rest) = sym (append_assoc before f (concat fs ++ rest)) in
    let here : take n (drop at (before ++ ((f ++ concat fs) ++ rest))) ≡ f = ap (λ (x : List ℕ). take n (drop at x)) regrouped ∙ ap (take n) (drop_at before (f ++ (concat fs ++ rest)) at place) ∙ take_at f (concat fs ++ rest) n len in
    let behind : cut_at (at + n) ns ((before ++ f) ++ (concat fs ++ rest)) ≡ fs = cut_at-joined (at + n) ns (before ++ f) fs rest (omega (arith, length-append before f)) more in
    let there : cut_at (at + n) ns (before ++ ((f ++ concat fs) ++ rest)) ≡ fs = ap (cut_at (at + n) ns) (regrouped ∙ after) ∙ behind in
    cc

-- fields that lie inside the bytes have their lengths
pub cut_at-lengths : (at : ℕ) (ns bytes : List ℕ) → at + total ns ≤ length bytes → HasLengths ns (cut_at at ns bytes)
cut_at-lengths at [] bytes inside = refl
cut_at-lengths at (n ∷ ns) bytes inside =
    let here : length (take n (drop at bytes)) ≡ n = length-take-le n (drop at bytes) (omega (arith, length-drop at bytes)) in
    let more : map (λ (g : List ℕ). length g) (cut_at (at + n) ns bytes) ≡ ns = cut_at-lengths (at + n) ns bytes (omega arith) in
    cc

-- the fields and what stands behind them are the bytes
pub cut_at-joins : (at : ℕ) (ns bytes : List ℕ) → concat (cut_at at ns bytes) ++ drop (at + total ns) bytes ≡ drop at bytes
cut_at-joins at [] bytes = ap (λ (i : ℕ). drop i bytes) (omega arith)
cut_at-joins at (n ∷ ns) bytes =
    let more : concat (cut_at (at + n) ns bytes) ++ drop ((at + n) + total ns) bytes ≡ drop (at + n) bytes = cut_at-joins (at + n) ns bytes in
    let place : drop (at + (n + total ns)) bytes ≡ drop ((at + n) + total ns) bytes = ap (λ (i : ℕ). drop i bytes) (omega arith) in
    append_assoc (take n (drop at bytes)) (concat (cut_at (at + n) ns bytes)) (drop (at + (n + total ns)) bytes)
    ∙ ap (λ (x : List ℕ). take n (drop at bytes) ++ (concat (cut_at (at + n) ns bytes) ++ x)) place
    ∙ ap (λ (x : List ℕ). take n (drop at bytes) ++ x) (more ∙ sym (drop-drop n at bytes))
    ∙ take-append-drop n (drop at bytes)

-- the length of a part is the sum of its fields' lengths
pub length-part : (ns : List ℕ) (part : Part) → HasLengths ns part → length (concat part) ≡ total ns
length-part [] [] lengths = refl
length-part (n ∷ ns) [] lengths = cc
length-part [] (f ∷ fs) lengths = cc
length-part (n ∷ ns) (f ∷ fs) lengths =
    let len : length f ≡ n = cc in
    let more : map (λ (g : List ℕ). length g) fs ≡ ns = cc in
    omega (arith, length-append f (concat fs), length-part ns fs more)
