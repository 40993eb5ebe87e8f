use Rattle.std.proofs.Common.{◌≡◌, ◌≢◌, ℕ, List, ◌∷◌, get_or, refl, ap, subst, inl, arith, lit≤, lit<}
use Rattle.imsm_base.specs.Whole.{IsWholeBlock}
use Rattle.imsm_base.specs.FirstForm.{IsFirstForm}
use Rattle.imsm_base.specs.Parts.{block_in}
use Rattle.imsm_base.specs.Vector.{mirror_bytes}
use Rattle.imsm_base.proofs.Joined.{block_in-spelled}
use Rattle.imsm_base.proofs.Apart.{spells_apart}
use Rattle.imsm_base.proofs.vector.example_of_a_whole_block.Goals as goal

other_head : (x y : ℕ) (xs ys : List ℕ) → (x ≡ y → ⊥) → x ∷ xs ≢ y ∷ ys
other_head x y xs ys other e = other (ap (λ (zs : List ℕ). get_or zs 0 0) e)

whole : IsWholeBlock mirror_bytes (block_in mirror_bytes)
unfolding block_in
whole = record {
  signed = refl;
  sized = record { least = lit≤ tt; most = lit≤ tt; words = refl };
  given = refl;
  summed = refl;
  counted = record { some_disk = lit≤ tt; few_disks = lit≤ tt; few_volumes = lit≤ tt };
  apart = ((other_head 65 66 _ _ (λ e. absurd (omega arith)), tt), (tt, tt));
  spells = spells_apart mirror_bytes (lit≤ tt);
  tail = inl refl;
}

first_form : IsFirstForm (block_in mirror_bytes)
unfolding block_in
first_form = record {
  one_sector = lit≤ tt;
  no_tail = refl;
  startable = lit< tt;
  two_disks = refl;
  expected = refl;
  one_volume = (_, refl, record { supported = refl; level = refl; idle = refl; clean = refl; normal = refl; in_sync = refl });
}

pub returns : goal.returns
returns c = record {
  whole = (block_in mirror_bytes, whole);
  first_form = λ b w. subst IsFirstForm (block_in-spelled mirror_bytes b w.spells) first_form;
}
