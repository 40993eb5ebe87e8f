use Rattle.std.proofs.Common.{◌≡◌, [], ◌∷◌, refl, sym, ap, ◌∙◌, inl, inr}
use Rattle.sound_images.specs.Images.{Image, Among}
use Rattle.sound_images.specs.Small.{clean, disk}
use Rattle.sound_images.proofs.Stopped.{agrees, opened}
use Rattle.sound_images.proofs.examples.example_of_openings.Goals as goal

pub returns-clause-agree : goal.returns-clause-agree
returns-clause-agree c level serial sectors m whole = agrees level m

pub returns-clause-opens : goal.returns-clause-opens
returns-clause-opens c level = opened level

-- the first disk isn't there
lacks : (i : Image) → Among i (disk 2 (clean 1) 1 2 ∷ []) → i.serial ≡ 1 ∷ [] → ⊥
lacks i (inl same) first = let bad : 2 ∷ [] ≡ 1 ∷ [] = sym (ap (λ (x : Image). x.serial) same) ∙ first in cc bad
lacks i (inr none) first = none

pub returns-clause-alone : goal.returns-clause-alone
returns-clause-alone c opens =
    let there = opens.complete (1 ∷ []) refl in
    lacks there.1.held.disk there.1.held.among there.1.same
