-- The first slot of a plan that wasn't read, slot by slot.
use Rattle.std.proofs.Common.{◌≡◌, ℕ, suc, ◌+◌, ◌-◌, ◌<◌, ◌==◌, ◌&&◌, not, cond, Bool, true, false, List, [], ◌∷◌, filter, slice_index_or, Option, refl, ap, sym, ◌∙◌, arith}
use Rattle.std.specs.List.{range_with_len}
use Rattle.array_model.specs.Placement.{Shape, Placement}
use Rattle.array_machine.specs.Numbers.{first_of, without}
use Rattle.array_machine.specs.RowJobs.{others_of}
use Rattle.row_path.specs.Plans.{is_planned, unmarked}

-- of the slots from one on, so many
abbrev pub unread_from : List Bool → Placement → Bool → (first count : ℕ) → Option ℕ
unread_from marks p data_alone first count =
    first_of (unmarked marks (filter (is_planned p data_alone) (range_with_len first count)))

cond_filter : (Q : ℕ → Bool) (b : Bool) (x : ℕ) (xs : List ℕ)
    → filter Q (cond b (x ∷ xs) xs) ≡ cond (b && Q x) (x ∷ filter Q xs) (filter Q xs)
cond_filter Q true x xs = refl
cond_filter Q false x xs = refl

pub filter_both : (P Q : ℕ → Bool) (xs : List ℕ) → filter Q (filter P xs) ≡ filter (λ s. P s && Q s) xs
filter_both P Q [] = refl
filter_both P Q (x ∷ xs) =
    cond_filter Q (P x) x (filter P xs) ∙ ap (λ ys. cond (P x && Q x) (x ∷ ys) ys) (filter_both P Q xs)

-- all slots but two
pub other_data : (shape : Shape) (p : Placement)
    → filter (is_planned p true) (range_with_len 0 shape.members) ≡ without p.other (others_of shape p.main)
other_data shape p =
    sym (filter_both (λ s. not (s == p.main)) (λ s. not (s == p.other)) (range_with_len 0 shape.members))

module _ (marks : List Bool) (p : Placement) (data_alone : Bool) where
  abbrev kept : ℕ → Bool
  kept i = is_planned p data_alone i && not (slice_index_or marks i false)

  dropped_if : (b : Bool) (i : ℕ) (is : List ℕ) → b ≡ false → first_of (cond b (i ∷ is) is) ≡ first_of is
  dropped_if b i is not_kept = ap (λ c. first_of (cond c (i ∷ is) is)) not_kept

  as_one : (first count : ℕ) → unread_from marks p data_alone first count
      ≡ first_of (filter kept (range_with_len first count))
  as_one first count =
      ap first_of (filter_both (is_planned p data_alone) (λ s. not (slice_index_or marks s false))
      (range_with_len first count))

  later : (i k : ℕ) → kept i ≡ false
      → unread_from marks p data_alone i (suc k) ≡ unread_from marks p data_alone (i + 1) k
  later i k not_kept =
      as_one i (suc k) ∙ dropped_if (kept i) i (filter kept (range_with_len (i + 1) k)) not_kept
      ∙ sym (as_one (i + 1) k)

  pub skipped : (i n : ℕ) → i < n → kept i ≡ false
      → unread_from marks p data_alone i (n - i) ≡ unread_from marks p data_alone (i + 1) (n - (i + 1))
  skipped i n lt not_kept =
      let count : n - i ≡ suc (n - (i + 1)) = omega (arith, lt) in
      ap (unread_from marks p data_alone i) count ∙ later i (n - (i + 1)) not_kept

pub unplanned_not_kept : (a b : Bool) → a ≡ false → (a && not b) ≡ false
unplanned_not_kept a b is = ap (λ c. c && not b) is

pub read_not_kept : (a b : Bool) → b ≡ true → (a && not b) ≡ false
read_not_kept true b is = ap not is
read_not_kept false b is = refl
