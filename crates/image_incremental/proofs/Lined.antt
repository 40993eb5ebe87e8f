-- The lines of disks that arrive, one disk more.
use Rattle.std.proofs.Common.{◌≡◌, ℕ, suc, ◌+◌, ◌<◌, ◌≤◌, List, [], ◌∷◌, ◌++◌, length, take, get_or, sym, ◌∙◌, ap, append_assoc, arith}
use Rattle.std.proofs.lemmas.List.{append-nil, length-take-le, take_all, take_more}
use Rattle.units.specs.declared.disk.Serial.{Serial}
use Rattle.container.specs.declared.verdict.Verdict.{Verdict}
use Rattle.verdict_text.specs.Lines.{verdict_lines}
use Rattle.image_incremental.specs.Lines.{arrival_lines, arrive_line}

-- the line of disk k, and those of the verdict on it and the disks before it
abbrev pub said : List Serial → ℕ → Verdict → List ℕ
said serials k v = arrive_line serials k ++ verdict_lines serials (take (k + 1) serials) v

regroup : (a b c d : List ℕ) → a ++ (b ++ (c ++ d)) ≡ (a ++ (b ++ c)) ++ d
regroup a b c d = ap (λ (l : List ℕ). a ++ l) (sym (append_assoc b c d)) ∙ sym (append_assoc a (b ++ c) d)

one_more : (serials : List Serial) (k : ℕ) (xs : List Verdict) (v : Verdict) → arrival_lines serials k (xs ++ v ∷ []) ≡ arrival_lines serials k xs ++ said serials (k + length xs) v
one_more serials k [] v =
    let here : k ≡ k + 0 = omega arith in
    ap (λ (l : List ℕ). arrive_line serials k ++ l) (append-nil (verdict_lines serials (take (k + 1) serials) v)) ∙ ap (λ (n : ℕ). said serials n v) here
one_more serials k (x ∷ xs) v =
    let there : k + 1 + length xs ≡ k + suc (length xs) = omega arith in
    let first = arrive_line serials k in
    let lines = verdict_lines serials (take (k + 1) serials) x in
    let rest = arrival_lines serials (k + 1) xs in
    ap (λ (l : List ℕ). first ++ (lines ++ l)) (one_more serials (k + 1) xs v ∙ ap (λ (n : ℕ). rest ++ said serials n v) there)
    ∙ regroup first lines rest (said serials (k + suc (length xs)) v)

pub pushed_more : (serials : List Serial) (xs : List Verdict) (k : ℕ) (v : Verdict) (first before after : List ℕ) → k < length xs → v ≡ get_or xs k v
    → before ≡ first ++ arrival_lines serials 0 (take k xs) → after ≡ before ++ said serials k v → after ≡ first ++ arrival_lines serials 0 (take (k + 1) xs)
pushed_more serials xs k v first before after below is so_far here =
    let lines = arrival_lines serials 0 (take k xs) in
    let count = length-take-le k xs (omega arith) in
    let place : 0 + length (take k xs) ≡ k = omega (arith, count) in
    let taken : take (k + 1) xs ≡ take k xs ++ v ∷ [] = take_more xs k v below ∙ ap (λ (w : Verdict). take k xs ++ w ∷ []) (sym is) in
    let more : arrival_lines serials 0 (take (k + 1) xs) ≡ lines ++ said serials k v =
    ap (λ (l : List Verdict). arrival_lines serials 0 l) taken ∙ one_more serials 0 (take k xs) v ∙ ap (λ (n : ℕ). lines ++ said serials n v) place in
    here ∙ ap (λ (l : List ℕ). l ++ said serials k v) so_far ∙ append_assoc first lines (said serials k v) ∙ ap (λ (l : List ℕ). first ++ l) (sym more)

pub pushed_all : (serials : List Serial) (xs : List Verdict) (k : ℕ) (first out : List ℕ) → length xs ≤ k → out ≡ first ++ arrival_lines serials 0 (take k xs) → out ≡ first ++ arrival_lines serials 0 xs
pushed_all serials xs k first out past so_far = so_far ∙ ap (λ (l : List Verdict). first ++ arrival_lines serials 0 l) (take_all k xs past)
