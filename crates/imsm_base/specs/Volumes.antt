-- The words of a volume. Each reads fields alone.
-- Source: imsm_vol, imsm_map and the helpers on them in super-intel.c, and the kernel's md.rst. Which values are
-- supported, when a checkpoint is honoured and what counts as unfinished are this project's own.
use Rattle.std.specs.Prelude.{ℕ, ◌<◌, ◌≤◌, ◌+◌, ◌-◌, ◌*◌, ◌/◌, ◌%◌, ◌==◌, ◌&&◌, ◌||◌, nat_lt, nat_le, max, not, Bool, false, if◌then◌else◌, List, [], ◌∷◌, map, find, count_by, take, drop, length, slice_get, slice_index, slice_index_or, Option, Some, None, is_none}
use Rattle.std.specs.Option.{option_map, option_map_or}
use Rattle.std.specs.List.{list_any, list_all, range_with_len}
use Rattle.std.specs.Int.{bit_at}
use Rattle.units.specs.declared.volume.Level.{Level}
use Rattle.units.specs.declared.volume.Level.TheVariants.{One, Five, Ten}
use Rattle.units.specs.declared.bounds.TheConstants.{MAX_VOLUME_SECTORS, METADATA_SECTORS, UNIT_ROWS}
use Rattle.imsm_base.specs.declared.values.TheConstants.{CHECKPOINT_SIGNATURE, INDEX_RANGE}
use Rattle.imsm_base.specs.Layout.{Block, Volume, Map, disk_count_of, total_blocks_of, volume_size_of, policy_of, unit_of, checkpoint_of, migration_state_of, migration_type_of, dirty_byte_of, pba_of, blocks_per_member_of, strip_of, map_state_of, level_byte_of, member_count_of, orders_of, map_count_of}
use Rattle.imsm_base.specs.Whole.{is_expected}
use Rattle.units.specs.Levels.{suffices, rows_of}

abbrev pub blank_map : Map
blank_map = record { fields = []; entries = [] }

abbrev pub first_map : Volume → Map
first_map v = slice_index_or v.maps 0 blank_map

-- a member's place: the index of its disk's record by the first map, and whether some map calls it out of sync
-- (IMSM_ORD_REBUILD)
pub record Member : Type 0 where
  pub index : ℕ
  pub is_out : Bool

abbrev pub order_at : ℕ → Map → ℕ
order_at slot m = slice_index (orders_of m) slot

abbrev pub member : Volume → ℕ → Member
member v slot = record {
  index = order_at slot (first_map v) % INDEX_RANGE;
  is_out = list_any (λ m. bit_at (order_at slot m) 24 == 1) v.maps;
}

abbrev pub slots_of : Volume → List ℕ
slots_of v = range_with_len 0 (member_count_of (first_map v))

abbrev pub members : Volume → List Member
members v = map (member v) (slots_of v)

-- whether the record of an index is there and expected
abbrev pub is_expected_at : Block → ℕ → Bool
is_expected_at b i = option_map_or is_expected (slice_get b.disks i) false

abbrev pub is_in_sync : Block → Member → Bool
is_in_sync b m = not m.is_out && is_expected_at b m.index

abbrev pub is_dirty : Volume → Bool
is_dirty v = bit_at (dirty_byte_of v) 0 == 1

-- whether a pass is open, and whether it is one of these types: 0 init, 1 rebuild, 2 verify, 3 general migration,
-- 4 state change, 5 repair (MIGR_INIT and following)
abbrev pub has_pass : Volume → Bool
has_pass v = not (migration_state_of v == 0)

abbrev pub has_pass_of : List ℕ → Volume → Bool
has_pass_of types v = has_pass v && list_any (λ t. t == migration_type_of v) types

-- the type of the open pass
abbrev pub pass_of : Volume → Option ℕ
pass_of v = if has_pass v then Some (migration_type_of v) else None

-- the bytes of a second map, for a volume that has none
abbrev pub second_map_bytes : Volume → ℕ
second_map_bytes v = if map_count_of v == 1 then 48 + 4 * member_count_of (first_map v) else 0

-- map states: 0 normal, 1 uninitialised, 2 degraded, 3 failed (IMSM_T_STATE_NORMAL and following)
abbrev pub is_unfinished : Volume → Bool
is_unfinished v = is_dirty v || map_state_of (first_map v) == 1 || has_pass_of (0 ∷ 2 ∷ 5 ∷ []) v

abbrev pub is_degraded : Block → Volume → Bool
is_degraded b v = list_any (λ m. not (is_in_sync b m)) (members v)

abbrev pub level_of : ℕ → ℕ → Option Level
level_of byte count =
    if byte == 1 && count == 2 then Some One
    else (if byte == 1 && count == 4 then Some Ten
    else (if byte == 5 && nat_le 3 count && nat_le count 8 then Some Five else None))

abbrev pub volume_level : Volume → Option Level
volume_level v = level_of (level_byte_of (first_map v)) (member_count_of (first_map v))

abbrev pub can_run : Block → Volume → Bool
can_run b v = suffices (volume_level v) (map (is_in_sync b) (members v)) && not (map_state_of (first_map v) == 3)

abbrev pub volume_rows : Volume → ℕ
volume_rows v = rows_of (volume_level v) (member_count_of (first_map v)) (volume_size_of v) (strip_of (first_map v))

-- a checkpoint counts units; it is honoured where this project's mark stands and the volume is clean
abbrev pub is_honoured : Volume → Bool
is_honoured v = checkpoint_of v == CHECKPOINT_SIGNATURE && not (is_dirty v)

abbrev pub pass_start : Volume → ℕ
pass_start v =
    if has_pass v && not (migration_type_of v == 2) && is_honoured v && nat_le (unit_of v * UNIT_ROWS) (volume_rows v)
    then unit_of v * UNIT_ROWS else 0

abbrev pub wants_pass : Block → Volume → Bool
wants_pass b v = is_unfinished v || list_any (λ m. m.is_out && is_expected_at b m.index) (members v)

-- what is not supported of a volume
pub data Fault : Type 0 where
  BadLevel : (byte count : ℕ) → Fault
  BadPolicy : (byte : ℕ) → Fault
  BadMigration : (type : ℕ) → Fault
  BadIndex : (slot : ℕ) → Fault
  BadGeometry : Fault
  Overlaps : (other : ℕ) → Fault

abbrev pub has_policy : Volume → Bool
has_policy v = policy_of v == 0 || policy_of v == 5

abbrev pub has_migration : Volume → Bool
has_migration v = not (has_pass v) || has_pass_of (0 ∷ 1 ∷ 2 ∷ 5 ∷ []) v

-- a slot's index isn't in the table, or an earlier slot has it
abbrev pub is_bad_slot : Block → List Member → ℕ → Bool
is_bad_slot b ms slot =
    let index = slice_index (map (λ m. m.index) ms) slot in
    not (nat_lt index (disk_count_of b)) || list_any (λ m. m.index == index) (take slot ms)

abbrev pub bad_slot : Block → Volume → Option ℕ
bad_slot b v = find (is_bad_slot b (members v)) (slots_of v)

-- a record has the sectors that a member needs
abbrev pub has_sectors : Block → ℕ → Member → Bool
has_sectors b needed m = option_map_or (λ d. nat_le needed (total_blocks_of d)) (slice_get b.disks m.index) false

abbrev pub is_like : Map → Map → Bool
is_like m other =
    pba_of other == pba_of m && blocks_per_member_of other == blocks_per_member_of m && strip_of other == strip_of m
    && level_byte_of other == level_byte_of m && member_count_of other == member_count_of m

abbrev pub is_level_one : Volume → Bool
is_level_one v = level_byte_of (first_map v) == 1 && member_count_of (first_map v) == 2

abbrev pub has_geometry : Block → Volume → Bool
has_geometry b v =
    let m = first_map v in
    nat_le 1 (volume_size_of v) && nat_le (volume_size_of v) MAX_VOLUME_SECTORS
    && (is_level_one v || not (strip_of m == 0))
    && nat_le (volume_rows v) (blocks_per_member_of m)
    && list_all (has_sectors b (pba_of m + volume_rows v + METADATA_SECTORS)) (members v)
    && list_all (is_like m) v.maps

-- two volumes have a disk in common, and their ranges meet
abbrev pub has_index : Volume → Member → Bool
has_index v m = list_any (λ other. other.index == m.index) (members v)

-- a sector of a disk lies in a map's range
pub record IsInRange (sector : ℕ) (m : Map) : Type 0 where
  pub from : pba_of m ≤ sector
  pub to : sector < pba_of m + blocks_per_member_of m

-- ranges meet where some sector lies in both; then the first sector of the later one does
abbrev pub do_meet : Map → Map → Bool
do_meet m other =
    let first = max (pba_of m) (pba_of other) in
    nat_lt first (pba_of m + blocks_per_member_of m) && nat_lt first (pba_of other + blocks_per_member_of other)

abbrev pub is_over : Volume → Volume → Bool
is_over v other = list_any (has_index other) (members v) && do_meet (first_map v) (first_map other)

-- a volume that overlaps with the volume of this number, if it is there and another
abbrev pub overlaps : Block → ℕ → Volume → ℕ → Bool
overlaps b k v other =
    not (other == k) && option_map_or (is_over v) (slice_get b.volumes other) false

-- the fault of volume k, the first of these in order
abbrev pub geometry_fault : Block → ℕ → Volume → Option ℕ → Option Fault
geometry_fault b k v (Some slot) = Some (BadIndex slot)
geometry_fault b k v None =
    if not (has_geometry b v) then Some BadGeometry
    else option_map (λ o. Overlaps o) (find (overlaps b k v) (range_with_len 0 (length b.volumes)))

abbrev pub volume_fault : Block → ℕ → Volume → Option Fault
volume_fault b k v =
    if is_none (volume_level v) then Some (BadLevel (level_byte_of (first_map v)) (member_count_of (first_map v)))
    else (if not (has_policy v) then Some (BadPolicy (policy_of v))
    else (if not (has_migration v) then Some (BadMigration (migration_type_of v))
    else geometry_fault b k v (bad_slot b v)))
