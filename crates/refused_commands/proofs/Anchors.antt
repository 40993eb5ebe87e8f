-- The one read of the anchor of one image.
use Rattle.std.proofs.Common.{◌≡◌, ◌≤◌, ℕ, Bool, false, List, [], ◌∷◌, ◌++◌, Option, refl, sym, subst, ap, arith}
use Rattle.std.specs.Prelude.{if◌then◌else◌, nat_lt, is_some}
use Rattle.std.proofs.lemmas.Bool.Decides.{nat_tests}
use Rattle.units.specs.declared.bounds.TheConstants.{METADATA_SECTORS}
use Rattle.units.specs.declared.disk.Sector.{Sector}
use Rattle.units.specs.Places.{anchor_place}
use Rattle.device_log.specs.Log.{Call, Read}
use Rattle.image_verdict.specs.declared.images.ImageRead.{ImageRead}
use Rattle.image_verdict.specs.Images.{anchor_calls, anchor_reads, sizes_of_all}

abbrev pub the_read : ℕ → Bool → Call
the_read n went = record { disk = 0; what = Read (anchor_place n); went = went }

is_large : (n : ℕ) → METADATA_SECTORS ≤ n → nat_lt n METADATA_SECTORS ≡ false
is_large n large = grind (arith, nat_tests, large)

pub one_call : (n : ℕ) (anchor : Option Sector) → METADATA_SECTORS ≤ n → anchor_calls 0 n anchor ≡ the_read n (is_some anchor) ∷ []
one_call n anchor large = subst (λ b. (if b then [] else the_read n (is_some anchor) ∷ []) ≡ the_read n (is_some anchor) ∷ []) (sym (is_large n large)) refl

-- the anchor of the one image is read once
pub one_read : (images : List ImageRead) (n : ℕ) → sizes_of_all images ≡ n ∷ [] → METADATA_SECTORS ≤ n → (went : Bool) × (anchor_reads images ≡ the_read n went ∷ [])
one_read [] n sized large = absurd (cc sized)
one_read (image ∷ []) n sized large =
    let size : image.sectors ≡ n = cc sized in
    (is_some image.anchor, subst (λ k. anchor_calls 0 k image.anchor ++ [] ≡ the_read n (is_some image.anchor) ∷ []) (sym size) (ap (λ calls. calls ++ []) (one_call n image.anchor large)))
one_read (image ∷ other ∷ more) n sized large = absurd (cc sized)

pub two_not_one : (a b d : Call) → a ∷ b ∷ [] ≡ d ∷ [] → ⊥
two_not_one a b d same = cc same
