-- The lines of disks, one after the other.
use Rattle.std.proofs.Common.{◌≡◌, Bool, true, false, nat_le, min, ℕ, zero, suc, ◌+◌, ◌<◌, ◌≤◌, ◌⊎◌, inl, inr, List, [], ◌∷◌, ◌++◌, length, take, get_or, refl, sym, ◌∙◌, ap, append_assoc, add-one, arith}
use Rattle.std.proofs.lemmas.List.{append-nil}
use Rattle.std.proofs.lemmas.Bool.Decides.{nat_tests}
use Rattle.units.specs.declared.disk.Serial.{Serial}
use Rattle.container.specs.declared.role.DiskRole.{DiskRole}
use Rattle.verdict_text.specs.Lines.{disk_line, disk_lines}

-- the lines of the first k disks
abbrev pub lines_to : List Serial → List DiskRole → ℕ → List ℕ
lines_to serials roles k = disk_lines (take k serials) (take k roles)

one_more : (serials : List Serial) (roles : List DiskRole) (k : ℕ) (s : Serial) (r : DiskRole) → k < length serials → k < length roles
    → lines_to serials roles (suc k) ≡ lines_to serials roles k ++ disk_line (get_or serials k s) (get_or roles k r)
one_more [] roles k s r below other = absurd (omega (arith, below))
one_more (x ∷ xs) [] k s r below other = absurd (omega (arith, other))
one_more (x ∷ xs) (y ∷ ys) zero s r below other = append-nil (disk_line x y)
one_more (x ∷ xs) (y ∷ ys) (suc k) s r below other =
    ap (λ (l : List ℕ). disk_line x y ++ l) (one_more xs ys k s r (omega (arith, below)) (omega (arith, other)))
    ∙ sym (append_assoc (disk_line x y) (lines_to xs ys k) (disk_line (get_or xs k s) (get_or ys k r)))

-- once one of the lists is at its end these are all
all_lines : (serials : List Serial) (roles : List DiskRole) (k : ℕ) → (length serials ≤ k) ⊎ (length roles ≤ k) → lines_to serials roles k ≡ disk_lines serials roles
all_lines [] roles zero past = refl
all_lines [] roles (suc k) past = refl
all_lines (x ∷ xs) [] zero past = refl
all_lines (x ∷ xs) [] (suc k) past = refl
all_lines (x ∷ xs) (y ∷ ys) zero (inl past) = absurd (omega (arith, past))
all_lines (x ∷ xs) (y ∷ ys) zero (inr past) = absurd (omega (arith, past))
all_lines (x ∷ xs) (y ∷ ys) (suc k) (inl past) = ap (λ (l : List ℕ). disk_line x y ++ l) (all_lines xs ys k (inl (omega (arith, past))))
all_lines (x ∷ xs) (y ∷ ys) (suc k) (inr past) = ap (λ (l : List ℕ). disk_line x y ++ l) (all_lines xs ys k (inr (omega (arith, past))))

-- one line more, and the last
pub pushed_more : (serials : List Serial) (roles : List DiskRole) (k : ℕ) (s : Serial) (r : DiskRole) (before old new : List ℕ) → k < length serials → k < length roles
    → old ≡ before ++ lines_to serials roles k → new ≡ old ++ disk_line (get_or serials k s) (get_or roles k r) → new ≡ before ++ lines_to serials roles (k + 1)
pushed_more serials roles k s r before old new below other so_far is =
    is ∙ ap (λ (l : List ℕ). l ++ disk_line (get_or serials k s) (get_or roles k r)) so_far
    ∙ append_assoc before (lines_to serials roles k) (disk_line (get_or serials k s) (get_or roles k r))
    ∙ ap (λ (l : List ℕ). before ++ l) (sym (one_more serials roles k s r below other))
    ∙ ap (λ (n : ℕ). before ++ lines_to serials roles n) (sym (add-one k))

pub pushed_all : (serials : List Serial) (roles : List DiskRole) (k : ℕ) (before out : List ℕ) → (length serials ≤ k) ⊎ (length roles ≤ k) → out ≡ before ++ lines_to serials roles k → out ≡ before ++ disk_lines serials roles
pushed_all serials roles k before out past so_far = so_far ∙ ap (λ (l : List ℕ). before ++ l) (all_lines serials roles k past)

-- the end of the shorter list
pub below_both : (k a b n : ℕ) → n ≡ min a b → k < n → (k < a) × (k < b)
below_both k a b n is below = (omega (arith, is, below), omega (arith, is, below))

pub past_one : (k a b n : ℕ) → n ≡ min a b → n ≤ k → (a ≤ k) ⊎ (b ≤ k)
past_one k a b n is past = by (nat_le a b) refl
  where
    by : (t : Bool) → nat_le a b ≡ t → (a ≤ k) ⊎ (b ≤ k)
    by true low = inl (let less : a ≤ b = grind (arith, nat_tests, low) in omega (arith, is, past, less))
    by false low = inr (let less : b < a = grind (arith, nat_tests, low) in omega (arith, is, past, less))
