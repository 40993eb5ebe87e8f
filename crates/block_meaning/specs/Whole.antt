-- Whether bytes are a whole block, as a test of the parts that they are taken apart into.
-- Source: load_imsm_mpb and parse_raid_devices of super-intel.c; the bounds are this project's own.
use Rattle.std.specs.Prelude.{ℕ, ◌==◌, ◌&&◌, ◌||◌, nat_le, not, Bool, true, false, List, [], ◌∷◌, length}
use Rattle.std.specs.List.{list_any}
use Rattle.std.specs.Option.{option_map_or}
use Rattle.std.specs.Str.{bytes_eq}
use Rattle.units.specs.declared.bounds.TheConstants.{MAX_DISKS, MAX_VOLUMES, METADATA_SECTORS}
use Rattle.imsm_base.specs.declared.values.TheConstants.{LOG_SIGNATURE}
use Rattle.imsm_base.specs.Fields.{number_at}
use Rattle.imsm_base.specs.Layout.{Block, signature_of, checksum_of, size_of, disk_count_of, volume_count_of, total_blocks_of}
use Rattle.imsm_base.specs.Parts.{room_of}
use Rattle.imsm_base.specs.Whole.{the_signature, block_sum, expected_serials, own_record, is_size}

abbrev pub are_counts : ℕ → ℕ → Bool
are_counts disks volumes = nat_le 1 disks && nat_le disks MAX_DISKS && nat_le volumes MAX_VOLUMES

abbrev pub are_apart : List (List ℕ) → Bool
are_apart [] = true
are_apart (x ∷ xs) = not (list_any (bytes_eq x) xs) && are_apart xs

-- the mark of an empty bad-block log (BBM_LOG_SIGNATURE), or nothing
abbrev pub is_accepted_tail : List ℕ → Bool
is_accepted_tail bytes =
    bytes_eq bytes [] || (nat_le 8 (length bytes) && (number_at 4 0 bytes == LOG_SIGNATURE) && (number_at 4 4 bytes == 0))

abbrev pub is_headed : List ℕ → Block → Bool
is_headed bytes b =
    bytes_eq (signature_of b) the_signature && is_size (size_of b) && (size_of b == length bytes)
    && (checksum_of b == block_sum bytes) && are_counts (disk_count_of b) (volume_count_of b)

-- the parts that the bytes are taken apart into make a whole block: they have room in the bytes
abbrev pub is_whole_block : List ℕ → Block → Bool
is_whole_block bytes b =
    is_headed bytes b && are_apart (expected_serials b) && nat_le (room_of b) (length bytes) && is_accepted_tail b.tail

abbrev pub is_whole_disk : List ℕ → ℕ → List ℕ → Block → Bool
is_whole_disk own n bytes b =
    nat_le METADATA_SECTORS n && is_whole_block bytes b
    && option_map_or (λ d. nat_le (total_blocks_of d) n) (own_record own b) false
