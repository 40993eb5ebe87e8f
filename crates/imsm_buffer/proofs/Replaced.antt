-- Bytes with others in the place of some, as many or not.
use Rattle.std.proofs.Common.{◌≡◌, ℕ, zero, suc, ◌+◌, ◌≤◌, ◌<◌, List, [], ◌∷◌, ◌++◌, length, map, take, drop, get_or, set, refl, sym, ◌∙◌, ap, arith}
use Rattle.std.specs.List.{concat, flat_map, AllByRecursion}
use Rattle.std.proofs.lemmas.List.{append_assoc, drop_at, take-append-le, drop-append-le, length-append, length-take-le, length-drop}
use Rattle.imsm_base.specs.Fields.{Part}
use Rattle.imsm_base.specs.Layout.{HasLengths}
use Rattle.imsm_base.specs.EditsOfTables.{changed_at}
use Rattle.imsm_base.proofs.Cut.{total}

-- the bytes with these in the place of n
abbrev pub replaced : ℕ → ℕ → List ℕ → List ℕ → List ℕ
replaced at n w bytes = take at bytes ++ (w ++ drop (at + n) bytes)

pub length-replaced : (at n : ℕ) (w bytes : List ℕ) → at + n ≤ length bytes → length (replaced at n w bytes) + n ≡ length bytes + length w
length-replaced at n w bytes inside =
    omega (
      arith,
      length-append (take at bytes) (w ++ drop (at + n) bytes),
      length-append w (drop (at + n) bytes),
      length-take-le at bytes (omega arith),
      length-drop (at + n) bytes,
    )

-- in the front of two runs of bytes, and behind the first
pub replaced-front : (at n : ℕ) (w xs ys : List ℕ) → at + n ≤ length xs → replaced at n w (xs ++ ys) ≡ replaced at n w xs ++ ys
replaced-front at n w xs ys inside =
    let front : take at (xs ++ ys) ≡ take at xs = take-append-le at xs ys (omega arith) in
    let rest : drop (at + n) (xs ++ ys) ≡ drop (at + n) xs ++ ys = drop-append-le (at + n) xs ys inside in
    ap (λ (x : List ℕ). x ++ (w ++ drop (at + n) (xs ++ ys))) front
    ∙ ap (λ (x : List ℕ). take at xs ++ (w ++ x)) rest
    ∙ ap (λ (x : List ℕ). take at xs ++ x) (sym (append_assoc w (drop (at + n) xs) ys))
    ∙ sym (append_assoc (take at xs) (w ++ drop (at + n) xs) ys)

pub replaced-behind : (xs ys w : List ℕ) (place at n : ℕ) → place ≡ length xs + at → replaced place n w (xs ++ ys) ≡ xs ++ replaced at n w ys
replaced-behind [] ys w place at n e = let same : place ≡ at = omega arith in ap (λ (i : ℕ). replaced i n w ys) same
replaced-behind (x ∷ xs) ys w zero at n e = absurd (omega arith)
replaced-behind (x ∷ xs) ys w (suc place) at n e =
    let next : suc place + n ≡ suc (place + n) = omega arith in
    ap (λ (i : ℕ). x ∷ (take place (xs ++ ys) ++ (w ++ drop i (x ∷ (xs ++ ys))))) next
    ∙ ap (λ (zs : List ℕ). x ∷ zs) (replaced-behind xs ys w place at n (omega arith))

-- in a run of bytes that stands between others
pub replaced-between : (before x behind w : List ℕ) (place at n : ℕ) → place ≡ length before + at → at + n ≤ length x →
    replaced place n w (before ++ (x ++ behind)) ≡ before ++ (replaced at n w x ++ behind)
replaced-between before x behind w place at n e inside =
    replaced-behind before (x ++ behind) w place at n e ∙ ap (λ (y : List ℕ). before ++ y) (replaced-front at n w x behind inside)

-- a field stands behind those before it
pub replaced-field : (ns : List ℕ) (part : Part) (k : ℕ) (w : List ℕ) → HasLengths ns part → k < length part →
    replaced (total (take k ns)) (get_or ns k 0) w (concat part) ≡ concat (set part k w)
replaced-field ns [] k w lengths below = absurd (omega arith)
replaced-field [] (p ∷ ps) k w lengths below = cc
replaced-field (n ∷ ns) (p ∷ ps) zero w lengths below =
    let here : length p ≡ n = cc in
    ap (λ (x : List ℕ). w ++ x) (drop_at p (concat ps) (0 + n) (omega arith))
replaced-field (n ∷ ns) (p ∷ ps) (suc k) w lengths below =
    let here : length p ≡ n = cc in
    let more : map (λ (g : List ℕ). length g) ps ≡ ns = cc in
    replaced-behind p (concat ps) w (n + total (take k ns)) (total (take k ns)) (get_or ns k 0) (omega arith)
    ∙ ap (λ (x : List ℕ). p ++ x) (replaced-field ns ps k w more (omega arith))

-- AN ELEMENT OF A LIST

-- what is laid of a list, around what is laid of one element
pub laid_around : {A : Type 0} (spell : A → List ℕ) (xs : List A) (k : ℕ) (f : A → A) (d : A) → k < length xs →
    flat_map spell (changed_at k f xs) ≡ flat_map spell (take k xs) ++ (spell (f (get_or xs k d)) ++ flat_map spell (drop (suc k) xs))
laid_around spell [] k f d below = absurd (omega arith)
laid_around spell (x ∷ xs) zero f d below = refl
laid_around spell (x ∷ xs) (suc k) f d below =
    ap (λ (y : List ℕ). spell x ++ y) (laid_around spell xs k f d (omega arith))
    ∙ sym (append_assoc (spell x) (flat_map spell (take k xs)) (spell (f (get_or xs k d)) ++ flat_map spell (drop (suc k) xs)))

pub unchanged_at : {A : Type 0} (k : ℕ) (xs : List A) → changed_at k (λ x. x) xs ≡ xs
unchanged_at k [] = refl
unchanged_at zero (x ∷ xs) = refl
unchanged_at {A} (suc k) (x ∷ xs) = ap (λ (ys : List A). x ∷ ys) (unchanged_at k xs)

pub length-changed_at : {A : Type 0} (k : ℕ) (f : A → A) (xs : List A) → length (changed_at k f xs) ≡ length xs
length-changed_at k f [] = refl
length-changed_at zero f (x ∷ xs) = refl
length-changed_at (suc k) f (x ∷ xs) = ap suc (length-changed_at k f xs)

-- what holds of each element, and of the one that is changed
pub all-changed_at : {A : Type 0} (P : A → Type 0) (k : ℕ) (f : A → A) (xs : List A) (d : A) → AllByRecursion P xs → P (f (get_or xs k d)) → AllByRecursion P (changed_at k f xs)
all-changed_at P k f [] d all new = tt
all-changed_at P zero f (x ∷ xs) d all new = (new, all.1)
all-changed_at P (suc k) f (x ∷ xs) d all new = (all.0, all-changed_at P k f xs d all.1 new)

pub all-take : {A : Type 0} (P : A → Type 0) (k : ℕ) (xs : List A) → AllByRecursion P xs → AllByRecursion P (take k xs)
all-take P zero xs all = tt
all-take P (suc k) [] all = tt
all-take P (suc k) (x ∷ xs) all = (all.0, all-take P k xs all.1)

pub all-at : {A : Type 0} (P : A → Type 0) (k : ℕ) (xs : List A) (d : A) → AllByRecursion P xs → k < length xs → P (get_or xs k d)
all-at P k [] d all below = absurd (omega arith)
all-at P zero (x ∷ xs) d all below = all.0
all-at P (suc k) (x ∷ xs) d all below = all-at P k xs d all.1 (omega arith)
