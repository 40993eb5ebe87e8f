-- An image that holds a block of the first form.
use Rattle.std.proofs.Common.{◌≡◌, ◌<◌, ℕ, zero, suc, List, [], ◌∷◌, ◌++◌, length, get_or, take, drop, refl, ap, arith}
use Rattle.std.specs.List.{AllByRecursion}
use Rattle.image_verdict.specs.declared.images.ImageRead.{ImageRead}
use Rattle.image_verdict.specs.Reports.{Holds, IsFirstOther}

-- a list about one of its items
split_at : (images : List ImageRead) (k : ℕ) (d : ImageRead) → k < length images → images ≡ take k images ++ get_or images k d ∷ drop (suc k) images
split_at [] k d below = absurd (omega arith)
split_at (i ∷ images) zero d below = refl
split_at (i ∷ images) (suc k) d below = ap (λ (rest : List ImageRead). i ∷ rest) (split_at images k d (omega arith))

pub first_other_at : (block : List ℕ) (images : List ImageRead) (k : ℕ) (d : ImageRead) → k < length images → AllByRecursion (Holds block) (take k images)
    → (Holds block (get_or images k d) → ⊥) → IsFirstOther block images (get_or images k d).serial
first_other_at block images k d below alike unlike = record {
  front = take k images;
  other = get_or images k d;
  rest = drop (suc k) images;
  images_are = split_at images k d below;
  alike = alike;
  unlike = unlike;
  serial_is = refl;
}
