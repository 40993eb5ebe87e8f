-- Disks of one serial meet no premises, and a block that was edited since is the newest of no opening.
use Rattle.std.proofs.Common.{◌≡◌, ℕ, List, refl, sym, ◌∙◌, ap, arith}
use Rattle.imsm_base.specs.Parts.{block_in}
use Rattle.new_container.specs.Created.{block_with, created_block, created_bytes, created_family}
use Rattle.array_model.specs.Blocks.{Laid}
use Rattle.block_meaning.specs.Reading.{block_words}
use Rattle.array_machine.specs.Volumes.{Volume}
use Rattle.array_base.specs.Premises.{Premises}
use Rattle.array_base.specs.Opening.{Opening}
use Rattle.array_openings.specs.Banks.{setting_of_bank}
use Rattle.array_openings.specs.Worked.{without_a_disk, before_it_failed}
use Rattle.array_openings.specs.Refused.{of_one_serial, over_an_old_block}
use Rattle.array_openings.proofs.Rests.{first_is}
use Rattle.array_openings.proofs.WorkedBanks.{degraded_rests}

pub one_serial_refused : Premises (setting_of_bank of_one_serial) → ⊥
one_serial_refused P =
    let same : 0 ≡ 1 = P.serials 0 1 (omega arith) (omega arith) refl in
    omega (arith, same)

new_generation : block_words.generation without_a_disk.block.anchor ≡ 2
unfolding block_in created_bytes created_block created_family block_with
new_generation = refl

old_generation : block_words.generation before_it_failed.block.anchor ≡ 1
unfolding block_in created_bytes created_block created_family block_with
old_generation = refl

pub old_block_refused : (P : Premises over_an_old_block) (volumes : List Volume) (spares : List ℕ)
    → Opening over_an_old_block P volumes spares → ⊥
old_block_refused P volumes spares o =
    let stands : before_it_failed.block ≡ without_a_disk.block =
    sym o.stands ∙ first_is without_a_disk degraded_rests o.disk (record {
      whole = o.there.whole;
      container = o.there.container;
    }) in
    let same = ap (λ (m : Laid). block_words.generation m.anchor) stands in
    omega (arith, same, new_generation, old_generation)
