-- What is the same where it says the same: lists by their places, and disks by their serials.
use Rattle.std.proofs.Common.{◌≡◌, ◌<◌, ℕ, zero, suc, false, List, [], ◌∷◌, length, map, get_or, Option, Some, None, bytes_eq, inl, inr, refl, sym, ◌∙◌, ap, arith}
use Rattle.std.specs.Prelude.{Contains, slice_get}
use Rattle.std.proofs.lemmas.Bool.{cases_lt, false≢true}
use Rattle.std.proofs.lemmas.List.{get_or_default, get_or-map, length-map}
use Rattle.std.proofs.lemmas.List.Elements.{All-contains, All-from_recursion, Contains-append_right}
use Rattle.std.proofs.lemmas.Slice.Eq.{bytes_eq-Decides}
use Rattle.container.specs.declared.seen.Seen.{Seen}
use Rattle.container.specs.Seen.{HaveOwnSerials}
use Rattle.container.specs.Steps.{disk_of}
use Rattle.container.proofs.Lists.{find_holds, find_none}

-- LISTS

pub same_lists : {X : Type 0} (xs ys : List X) → length xs ≡ length ys → ((k : ℕ) (x y : X) → slice_get xs k ≡ Some x → slice_get ys k ≡ Some y → x ≡ y) → xs ≡ ys
same_lists [] [] count each = refl
same_lists [] (y ∷ ys) count each = absurd (omega (arith, count))
same_lists (x ∷ xs) [] count each = absurd (omega (arith, count))
same_lists {X} (x ∷ xs) (y ∷ ys) count each =
    ap (λ (z : X). z ∷ xs) (each 0 x y refl refl)
    ∙ ap (λ (zs : List X). y ∷ zs) (same_lists xs ys (omega (arith, count)) (λ k x y one other. each (suc k) x y one other))

-- what a map has it has of an element
pub of_map : {A B : Type 0} (f : A → B) (xs : List A) (y : B) → Contains (map f xs) y → (x : A) × Contains xs x × (f x ≡ y)
of_map f [] y (k, below, is) = absurd (omega (arith, below))
of_map f (x ∷ xs) y (zero, below, is) = (x, (0, omega arith, refl), is)
of_map f (x ∷ xs) y (suc k, below, is) = let more = of_map f xs y (k, omega (arith, below), is) in (more.0, Contains-append_right (x ∷ []) xs more.0 more.1, more.2)

-- DISKS

apart : (seen : List Seen) → HaveOwnSerials seen → (s t : Seen) (i j : ℕ) → i < j → j < length seen → get_or seen i s ≡ s → get_or seen j t ≡ t → s.serial ≡ t.serial → ⊥
apart seen own s t i j up below here there same =
    own i j s.serial up (omega (arith, below, length-map seen (λ (x : Seen). x.serial)))
    (get_or-map (λ (x : Seen). x.serial) seen i s s.serial (omega (arith, up, below)) ∙ ap (λ (x : Seen). x.serial) here
    ∙ same ∙ sym (get_or-map (λ (x : Seen). x.serial) seen j t s.serial below ∙ ap (λ (x : Seen). x.serial) there))

pub one_with : (seen : List Seen) → HaveOwnSerials seen → (s t : Seen) → Contains seen s → Contains seen t → s.serial ≡ t.serial → s ≡ t
one_with seen own s t (i, i_below, here) (j, j_below, there) same = elim (cases_lt i j) [
  | inl up ↦ absurd (apart seen own s t i j up j_below here there same)
  | inr le ↦ elim (cases_lt j i) [
    | inl down ↦ absurd (apart seen own t s j i down i_below there here (sym same))
    | inr ge ↦ let one : i ≡ j = omega (arith, le, ge) in
        sym here ∙ ap (λ (k : ℕ). get_or seen k s) one ∙ get_or_default seen j s t j_below ∙ there
  ]
]

-- a disk that is there is the one that is found by its serial
pub found_disk : (seen : List Seen) → HaveOwnSerials seen → (serial : List ℕ) (s : Seen) → Contains seen s → s.serial.0 ≡ serial → disk_of serial seen ≡ Some s
found_disk seen own serial s there named = by (disk_of serial seen) refl
  where
    named_so : Seen → Type 0
    named_so x = bytes_eq x.serial.0 serial ≡ false

    by : (o : Option Seen) → disk_of serial seen ≡ o → o ≡ Some s
    by None none = absurd (false≢true (sym (All-contains named_so seen s (All-from_recursion named_so seen (find_none (λ (x : Seen). bytes_eq x.serial.0 serial) seen none)) there)
        ∙ (bytes_eq-Decides s.serial.0 serial).1 named))
    by (Some t) is =
        let found = find_holds (λ (x : Seen). bytes_eq x.serial.0 serial) seen t is in
        let same : t.serial.0 ≡ s.serial.0 = (bytes_eq-Decides t.serial.0 serial).0 found.1 ∙ sym named in
        ap Some (one_with seen own t s found.0 there (ap (λ (l : List ℕ). record { 0 = l }) same))
