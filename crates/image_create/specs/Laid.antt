-- What stands on new disks on which a block was laid down. Source: this project's own.
use Rattle.std.specs.Prelude.{◌≡◌, ℕ, ◌+◌, ◌-◌, ◌<◌, ◌==◌, ◌&&◌, nat_lt, nat_le, Bool, if◌then◌else◌, List, length, slice_index, Option, IfSome}
use Rattle.units.specs.declared.disk.Sector.{Sector}
use Rattle.imsm_base.specs.Parts.{block_in}
use Rattle.imsm_base.specs.Whole.{IsWholeDisk}
use Rattle.units.specs.Places.{anchor_place, extended_count}
use Rattle.device_log.specs.Log.{Call}
use Rattle.mpb_store.specs.declared.answer.Found.TheVariants.{Whole}
use Rattle.mpb_store.specs.Banks.{blank_sector, sector_after, IsAnswerOn}
use Rattle.mpb_store.specs.Sectors.{block_sector}

-- the place of the first extended sector, or the anchor's where there is none
abbrev pub first_place : ℕ → List ℕ → ℕ
first_place n bytes = anchor_place n - extended_count (length bytes)

-- place p is one of the extended sectors
abbrev pub is_extended : ℕ → List ℕ → ℕ → Bool
is_extended n bytes p = nat_le (first_place n bytes) p && nat_lt p (anchor_place n)

-- what stands at place p of a disk of n sectors, where this sector stood before
abbrev pub laid_sector : ℕ → ℕ → List ℕ → Sector → ℕ → Sector
laid_sector n rows bytes before p =
    if nat_lt p rows then blank_sector
    else if p == anchor_place n then block_sector bytes 0
    else if is_extended n bytes p then block_sector bytes (p - first_place n bytes + 1)
    else before

-- After the second log all places of all disks have what they are to have, by what stood there after the first. So what
-- is found on a disk is the block, where it is whole and the disk by it.
pub record IsLaidDown (sizes : List ℕ) (rows : ℕ) (bytes : List ℕ) (opening : List (List Sector))
    (before now : List Call) : Type 0 where
  pub sectors : (d p : ℕ) → d < length sizes
      → sector_after opening now d p ≡ laid_sector (slice_index sizes d) rows bytes (sector_after opening before d p) p
  pub found : (d : ℕ) (own : List ℕ) → d < length sizes → IsWholeDisk own (slice_index sizes d) bytes (block_in bytes)
      → IsAnswerOn own (slice_index sizes d) (sector_after opening now d) Whole bytes

-- the same of what a bank tells before and after the calls
abbrev pub LaysDown : (sizes : List ℕ) (rows : ℕ) (bytes : List ℕ) (opening : Option (List (List Sector)))
    (before now : Option (List Call)) → Type 0
LaysDown sizes rows bytes opening before now =
    IfSome opening (λ o. IfSome before (λ b. IfSome now (λ n. IsLaidDown sizes rows bytes o b n)))
