-- Facts on disks of a list, one by one.
use Rattle.std.proofs.Common.{◌≡◌, ℕ, Bool, true, List, [], ◌∷◌, bytes_eq, refl, sym, ap, ◌∙◌, subst, inl, inr}
use Rattle.std.specs.List.{AllByRecursion, list_any, list_all}
use Rattle.std.proofs.lemmas.Bool.{and_parts, and_from, or_cases}
use Rattle.std.proofs.lemmas.Slice.Eq.{bytes_eq-Decides}
use Rattle.array_model.specs.Blocks.{Laid, Words, is_container}
use Rattle.sound_images.specs.Images.{Image, Among, block_on, IsHeld}

-- the block of a disk of the list is held
abbrev pub held_at : (W : Words) (images : List Image) (i : Image) → Among i images → W.is_whole i.serial i.sectors (block_on W i) ≡ true → is_container W (block_on W i) ≡ true → IsHeld W images (block_on W i)
held_at W images i among whole container = record { disk = i; among = among; stands = refl; whole = whole; container = container }

each_disk : (P : Image → Type 0) (images : List Image) → AllByRecursion P images → (i : Image) → Among i images → P i
each_disk P [] all i among = absurd among
each_disk P (j ∷ images) all i (inl same) = subst P (sym same) all.0
each_disk P (j ∷ images) all i (inr rest) = each_disk P images all.1 i rest

-- what is so of the block of each disk is so of each block that is held
pub each_held : (W : Words) (P : Laid → Type 0) (images : List Image) → AllByRecursion (λ i. P (block_on W i)) images → (a : Laid) → IsHeld W images a → P a
each_held W P images all a h = subst P h.stands (each_disk (λ i. P (block_on W i)) images all h.disk h.among)

pub each_passes : (test : Image → Bool) (images : List Image) → list_all test images ≡ true → (i : Image) → Among i images → test i ≡ true
each_passes test [] all i among = absurd among
each_passes test (j ∷ images) all i (inl same) = ap test same ∙ (and_parts _ _ all).0
each_passes test (j ∷ images) all i (inr rest) = each_passes test images (and_parts _ _ all).1 i rest

pub all_pass : (test : Image → Bool) (images : List Image) → ((i : Image) → Among i images → test i ≡ true) → list_all test images ≡ true
all_pass test [] each = refl
all_pass test (j ∷ images) each = and_from _ _ (each j (inl refl)) (all_pass test images (λ i among. each i (inr among)))

-- some disk passes
pub some_passes : (test : Image → Bool) (images : List Image) → list_any test images ≡ true → (i : Image) × Among i images × (test i ≡ true)
some_passes test [] any = absurd cc
some_passes test (j ∷ images) any = elim (or_cases _ _ any) [
  | inl here ↦ (j, inl refl, here)
  | inr more ↦ let h = some_passes test images more in (h.0, inr h.1, h.2)
]

-- what is so of each serial of a list is so of one that is in it
pub each_serial : (P : List ℕ → Type 0) (serials : List (List ℕ)) → AllByRecursion P serials → (serial : List ℕ) → list_any (λ x. bytes_eq x serial) serials ≡ true → P serial
each_serial P [] all serial any = absurd cc
each_serial P (x ∷ serials) all serial any = elim (or_cases _ _ any) [
  | inl here ↦ subst P ((bytes_eq-Decides x serial).0 here) all.0
  | inr more ↦ each_serial P serials all.1 serial more
]
