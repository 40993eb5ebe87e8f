-- Slots that are called out of sync, or in sync again, by bit 24 of their entries in a volume's maps.
-- Source: IMSM_ORD_REBUILD, set_imsm_ord_tbl_ent and end_migration of super-intel.c; which slots are in sync when a
-- pass is over is this project's own.
use Rattle.std.specs.Prelude.{ℕ, suc, ◌+◌, ◌*◌, ◌/◌, ◌%◌, ◌^◌, Bool, false, if◌then◌else◌, List, [], ◌∷◌, map}
use Rattle.byteorder.specs.Endian.{little_bytes}
use Rattle.imsm_base.specs.declared.values.TheConstants.{INDEX_RANGE}
use Rattle.imsm_base.specs.Fields.{number}
use Rattle.imsm_base.specs.Layout.{Block, Volume, Map}
use Rattle.imsm_base.specs.Volumes.{members}
use Rattle.imsm_base.specs.EditsOfTables.{changed_at, volume_without_migration}
use Rattle.imsm_view.specs.declared.volume.SlotView.{SlotView}
use Rattle.imsm_edit.specs.Meanings.{is_told, edited}

-- an entry with bit 24 set or cleared, and the other bits as they are
abbrev pub with_rebuild_bit : Bool → ℕ → ℕ
with_rebuild_bit on order = order / 2 ^ 25 * 2 ^ 25 + (if on then INDEX_RANGE else 0) + order % INDEX_RANGE

-- the bytes of an entry, of which the bit is set or cleared where it is named
abbrev pub entry_marked : Bool → Bool → List ℕ → List ℕ
entry_marked on named entry = if named then little_bytes 4 (with_rebuild_bit on (number entry)) else entry

-- each element of a list is changed, by its number too
abbrev pub changed_each : {A : Type 0} → (ℕ → A → A) → List A → List A
changed_each f [] = []
changed_each f (x ∷ xs) = f 0 x ∷ changed_each (λ k. f (suc k)) xs

-- a map of which one slot, or each slot that is named, has the bit set or cleared
abbrev pub slot_marked : Bool → ℕ → Bool → Map → Map
slot_marked on slot named m = record m { entries = changed_at slot (entry_marked on named) m.entries }

abbrev pub map_marked : Bool → List Bool → Map → Map
map_marked on named m = record m { entries = changed_each (λ slot. entry_marked on (is_told named slot)) m.entries }

abbrev pub maps_marked : Bool → List Bool → Volume → Volume
maps_marked on named v = record v { maps = map (map_marked on named) v.maps }

-- the slots whose disks' indices, by the first map, pass a test, and a volume with these marked in each map
abbrev pub slots_with : (ℕ → Bool) → Volume → List Bool
slots_with test v = map (λ m. test m.index) (members v)

abbrev pub volume_marked : Bool → (ℕ → Bool) → Volume → Volume
volume_marked on test v = maps_marked on (slots_with test v) v

-- the same slots by views of them, where the test is a list
abbrev pub seen_with : List Bool → List SlotView → List Bool
seen_with disks slots = map (λ s. is_told disks s.index) slots

-- the pass is over: each slot whose disk is working is in sync
abbrev pub with_pass_over : List Bool → Volume → Volume
with_pass_over working v = volume_without_migration (volume_marked false (is_told working) v)

abbrev pub marked_in_sync : Block → ℕ → Bool → List Bool → Block
marked_in_sync b k broken working = edited b k broken (with_pass_over working)
