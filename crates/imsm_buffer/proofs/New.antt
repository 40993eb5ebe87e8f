-- The bytes of a new block are laid out as one.
use Rattle.std.proofs.Common.{◌≡◌, ℕ, ◌%◌, ◌≤◌, List, length, refl, ap, arith, lit≤}
use Rattle.units.specs.declared.bounds.TheConstants.{MAX_BLOCK_BYTES}
use Rattle.imsm_base.specs.Layout.{IsBlock, bytes_of}
use Rattle.imsm_base.specs.Parts.{block_in}
use Rattle.imsm_base.specs.EditsOfTables.{new_block}
use Rattle.imsm_base.proofs.Joined.{block_in-spelled}
use Rattle.imsm_buffer.specs.Buffer.{IsKept}
use Rattle.imsm_buffer.proofs.Kept.{laid_as}

new_is : IsBlock new_block
new_is = record {
  header = refl;
  disks = (refl, tt);
  disk_count = refl;
  volumes = tt;
  volume_count = refl;
  tail = refl;
}

pub new_kept : (bytes : List ℕ) (room capacity : ℕ) → bytes ≡ bytes_of new_block → 264 ≤ room → room ≤ MAX_BLOCK_BYTES → room ≤ capacity → IsKept bytes room capacity
new_kept bytes room capacity is fits most taken =
    let len : length bytes ≡ 264 = ap (λ (x : List ℕ). length x) is in
    record { laid = laid_as bytes new_block (record { parts = new_is; laid = is }) (lit≤ tt) (ap (λ (n : ℕ). n % 4) len); fits = omega arith; most = most; taken = taken }

pub new_parts : (bytes : List ℕ) → bytes ≡ bytes_of new_block → block_in bytes ≡ new_block
new_parts bytes is = block_in-spelled bytes new_block (record { parts = new_is; laid = is })
