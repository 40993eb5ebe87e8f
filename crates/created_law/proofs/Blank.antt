-- The xor of blank sectors is blank.
use Rattle.std.proofs.Common.{◌≡◌, ℕ, zero, suc, ◌≤◌, List, [], ◌∷◌, length, map, replicate, refl, ap, ◌∙◌, arith}
use Rattle.std.specs.List.{AllByRecursion}
use Rattle.units.specs.declared.disk.Sector.{Sector}
use Rattle.mpb_store.specs.Banks.{blank_sector}
use Rattle.array_model.specs.AnswerLaw.{xor_bytes, xor_onto}
use Rattle.sound_images.specs.Rows.{xor_of}

xor_zeros : (n : ℕ) → xor_bytes (replicate n 0) (replicate n 0) ≡ replicate n 0
xor_zeros zero = refl
xor_zeros (suc n) = ap (λ (xs : List ℕ). 0 ∷ xs) (xor_zeros n)

abbrev zeros : ℕ → Sector
zeros n = record { 0 = replicate n 0 }

onto_zeros : (n : ℕ) (x : Sector) (ys : List Sector) → x ≡ zeros n → AllByRecursion (λ y. y ≡ zeros n) ys → xor_onto x ys ≡ replicate n 0
onto_zeros n x [] is all = ap (λ (s : Sector). s.0) is
onto_zeros n x (y ∷ ys) is all =
    ap (λ (s : Sector). xor_bytes s.0 (xor_onto y ys)) is ∙ ap (xor_bytes (replicate n 0)) (onto_zeros n y ys all.0 all.1) ∙ xor_zeros n

each_is : (n : ℕ) (f : ℕ → Sector) (slots : List ℕ) → AllByRecursion (λ k. f k ≡ zeros n) slots → AllByRecursion (λ y. y ≡ zeros n) (map f slots)
each_is n f [] all = tt
each_is n f (k ∷ slots) all = (all.0, each_is n f slots all.1)

-- of what stands on some slots
pub xor_blank : (f : ℕ → Sector) (slots : List ℕ) → 1 ≤ length slots → AllByRecursion (λ k. f k ≡ blank_sector) slots → xor_of (map f slots) ≡ blank_sector.0
xor_blank f [] some all = absurd (omega (arith, some))
xor_blank f (k ∷ slots) some all = onto_zeros 512 (f k) (map f slots) all.0 (each_is 512 f slots all.1)
