use Rattle.std.proofs.Common.{◌≡◌, ℕ, [], Bool, true, false, inl, refl, sym, subst}
use Rattle.device_log.specs.Cells.{Cell, resting}
use Rattle.array_model.specs.Blocks.{Laid, Words}
use Rattle.array_model.specs.Candidates.{In, disk_after, opened_with, standing}
use Rattle.array_model.specs.Start.{Disks}
use Rattle.sound_images.specs.Images.{Image, block_on}
use Rattle.stop_images.proofs.After.{after_at}
use Rattle.stop_images.proofs.example_of_candidates.Goals as goal

abbrev cells : Disks → ℕ → ℕ → Cell
cells disks d p = resting (disks.opening d p)

abbrev block : Words → Disks → ℕ → Laid
block W disks d = standing W (disks.sectors d) (cells disks d)

whole_is_one : (W : Words) (disks : Disks) (d : ℕ) → W.is_whole (disks.serial d) (disks.sectors d) (block W disks d) ≡ true → In (block W disks d) (disk_after W disks [] d).candidates
whole_is_one W disks d whole = subst (λ (b : Bool). In (block W disks d) (opened_with W (cells disks d) (block W disks d) b).candidates) (sym whole) (inl refl)

none_is_one : (W : Words) (disks : Disks) (d : ℕ) (m : Laid) → W.is_whole (disks.serial d) (disks.sectors d) (block W disks d) ≡ false → In m (disk_after W disks [] d).candidates → ⊥
none_is_one W disks d m torn among = subst (λ (b : Bool). In m (opened_with W (cells disks d) (block W disks d) b).candidates) torn among

pub returns-clause-opened : goal.returns-clause-opened
returns-clause-opened c W disks = record {
  each = λ d i at.
      subst (λ (x : Image). W.is_whole x.serial x.sectors (block_on W x) ≡ true → In (block_on W x) (disk_after W disks [] d).candidates) (after_at disks [] d i at) (whole_is_one W disks d);
}

pub returns-clause-strange : goal.returns-clause-strange
returns-clause-strange c W disks images d i at torn whole hold = none_is_one W disks d (block_on W i) torn (hold.each d i at whole)
