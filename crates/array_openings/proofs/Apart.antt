-- Disks of a bank by their serials.
use Rattle.std.proofs.Common.{◌≡◌, ◌≢◌, ℕ, zero, suc, ◌≤◌, ◌<◌, List, [], ◌∷◌, length, map, get_or, refl, sym, ◌∙◌, ap, arith}
use Rattle.std.specs.Prelude.{All}
use Rattle.std.specs.List.{AllByRecursion}
use Rattle.std.proofs.lemmas.List.{get_or-map, get_or_past, length-map}
use Rattle.std.proofs.lemmas.List.Elements.{All-get_or}
use Rattle.imsm_base.specs.Whole.{AreApart}
use Rattle.new_container.specs.declared.disk.NewDisk.{NewDisk}
use Rattle.new_container.specs.Created.{IsDisk}
use Rattle.array_openings.specs.Banks.{serial_in}

differs_at : (x : List ℕ) (xs : List (List ℕ)) (i : ℕ) → AllByRecursion (λ y. x ≢ y) xs → i < length xs
    → x ≢ get_or xs i []
differs_at x [] i all below = absurd (omega arith)
differs_at x (y ∷ ys) zero all below = all.0
differs_at x (y ∷ ys) (suc i) all below = differs_at x ys i all.1 (omega arith)

-- of a list of serials of which no two are the same
pub one_place : (xs : List (List ℕ)) (i j : ℕ) → AreApart xs → i < length xs → j < length xs
    → get_or xs i [] ≡ get_or xs j [] → i ≡ j
one_place [] i j apart low high same = absurd (omega arith)
one_place (x ∷ xs) zero zero apart low high same = refl
one_place (x ∷ xs) zero (suc j) apart low high same = absurd (differs_at x xs j apart.0 (omega arith) same)
one_place (x ∷ xs) (suc i) zero apart low high same = absurd (differs_at x xs i apart.0 (omega arith) (sym same))
one_place (x ∷ xs) (suc i) (suc j) apart low high same =
    ap suc (one_place xs i j apart.1 (omega arith) (omega arith) same)

serials_many : (disks : List NewDisk) → length (map (λ (x : NewDisk). x.serial.0) disks) ≡ length disks
serials_many disks = length-map disks (λ (x : NewDisk). x.serial.0)

pub own_serials : (disks : List NewDisk) (d e : ℕ) → AreApart (map (λ (x : NewDisk). x.serial.0) disks)
    → d < length disks → e < length disks → serial_in disks d ≡ serial_in disks e → d ≡ e
own_serials disks d e apart low high same =
    one_place (map (λ (x : NewDisk). x.serial.0) disks) d e apart (omega (arith, serials_many disks))
    (omega (arith, serials_many disks)) same

pub none_past : (disks : List NewDisk) (d : ℕ) → length disks ≤ d → serial_in disks d ≡ []
none_past disks d past =
    get_or_past (map (λ (x : NewDisk). x.serial.0) disks) d [] (omega (arith, serials_many disks))

pub serial_full : (disks : List NewDisk) (d : ℕ) → All IsDisk disks → d < length disks
    → length (serial_in disks d) ≡ 16
serial_full [] d typed below = absurd (omega arith)
serial_full (x ∷ xs) d typed below =
    ap (λ (y : List ℕ). length y) (get_or-map (λ (y : NewDisk). y.serial.0) (x ∷ xs) d x [] below)
    ∙ (All-get_or IsDisk (x ∷ xs) d x below typed).serial
