-- What the edits of a round and of an update make of a small block. Source: the updates of super-intel.c
-- (imsm_set_array_state, mark_failure, imsm_process_update); which states a volume's map gets, and the units of passes,
-- are this project's own.
use Rattle.std.specs.Prelude.{ℕ, zero, suc, ◌+◌, ◌-◌, ◌/◌, ◌==◌, ◌&&◌, ◌||◌, not, nat_lt, Bool, true, false, List, [], ◌∷◌, ◌++◌, map, filter, length, slice_index, Option, Some, None, if◌then◌else◌}
use Rattle.std.specs.List.{list_any}
use Rattle.std.specs.Option.{option_map_or}
use Rattle.units.specs.declared.bounds.TheConstants.{MAX_DISKS, UNIT_ROWS}
use Rattle.array_model.specs.Blocks.{Laid, laid_eq}
use Rattle.array_machine.specs.Setting.{Facts, Edit, TakesGeneration, FailsDisk, CountsOut, MakesDirty, MakesClean, RecordsUnit, ClosesPass, StartsVolume, ActivatesDisk, RemovesDisk, NamesVolume, BlockTests}
use Rattle.array_rows.specs.SmallBlocks.{SmallRecord, SmallSlot, SmallVolume, SmallBlock, lay, read_laid, has_letter, record_at, is_unfinished_volume, start_of_pass}

-- which volumes are of a level that is known, and which of them were started
pub record Known : Type 0 where
  pub supported : ℕ → Bool
  pub started : ℕ → Bool

-- EACH VOLUME

-- those from number v on, each changed by its number
abbrev pub each_volume : (ℕ → SmallVolume → SmallVolume) → ℕ → List SmallVolume → List SmallVolume
each_volume change v [] = []
each_volume change v (x ∷ xs) = change v x ∷ each_volume change (v + 1) xs

abbrev pub with_volumes : (ℕ → SmallVolume → SmallVolume) → SmallBlock → SmallBlock
with_volumes change b = record b { volumes = each_volume change 0 b.volumes }

abbrev pub only : ℕ → (SmallVolume → SmallVolume) → ℕ → SmallVolume → SmallVolume
only v change w x = if v == w then change x else x

-- STATES

-- out of sync on a disk that is expected: to be rebuilt
abbrev pub to_rebuild : SmallBlock → SmallSlot → Bool
to_rebuild b s = s.out && (record_at b s.index).expected

abbrev pub is_lost : SmallBlock → SmallSlot → Bool
is_lost b s = s.out && not (record_at b s.index).expected

-- With a pass open the first map has the state from which the pass leads, else the volume's own.
abbrev pub state_by : SmallBlock → (broken : Bool) → Option ℕ → List SmallSlot → ℕ
state_by b true pass slots = 3
state_by b false None slots = if list_any (λ s. s.out) slots then 2 else 0
state_by b false (Some kind) slots = if list_any (is_lost b) slots then 2 else 0

abbrev pub with_state : Facts → SmallBlock → ℕ → SmallVolume → SmallVolume
with_state f b v x = record x { state = state_by b (f.is_broken v) x.pass x.slots }

-- a volume that is called uninitialised is called so until it starts
abbrev pub with_state_later : Facts → SmallBlock → ℕ → SmallVolume → SmallVolume
with_state_later f b v x = if x.state == 1 then x else with_state f b v x

-- A DISK DROPS OUT

-- the record of this index is expected, and has the serial
abbrev pub is_of : SmallBlock → List ℕ → ℕ → Bool
is_of b serial i = (record_at b i).expected && has_letter (record_at b i) serial

abbrev pub mark_slot : SmallBlock → List ℕ → SmallSlot → SmallSlot
mark_slot b serial s = record s { out = s.out || is_of b serial s.index }

abbrev pub mark_slots : SmallBlock → List ℕ → List SmallSlot → List SmallSlot
mark_slots b serial slots = map (mark_slot b serial) slots

-- a rebuild without a slot that is left to rebuild ends
abbrev pub drop_rebuild : SmallBlock → SmallVolume → SmallVolume
drop_rebuild b x =
    if option_map_or (λ kind. kind == 1) x.pass false && not (list_any (to_rebuild b) x.slots)
    then record x { pass = None; unit = 0 } else x

abbrev pub fail_record : List ℕ → SmallRecord → SmallRecord
fail_record serial r = if has_letter r serial then record r { expected = false } else r

abbrev pub fail_disk : Known → Facts → SmallBlock → List ℕ → SmallBlock
fail_disk K f b serial =
    let c = record b { records = map (fail_record serial) b.records } in
    with_volumes (λ v x.
    let y = if K.supported v then record x { slots = mark_slots b serial x.slots } else x in
    if K.started v then with_state_later f c v (drop_rebuild c y) else y)
    c

-- its slots are out of sync, and open passes begin anew
abbrev pub count_out : Known → Facts → SmallBlock → List ℕ → SmallBlock
count_out K f b serial =
    with_volumes (λ v x.
    let y = if K.supported v then record x { slots = mark_slots b serial x.slots } else x in
    if K.started v then with_state_later f b v (record y { unit = 0 }) else y)
    b

-- PASSES

-- a pass that is over has made all slots in sync whose disks work
abbrev pub fill_slot : Facts → SmallBlock → SmallSlot → SmallSlot
fill_slot f b s = record s { out = s.out && not (f.works ((record_at b s.index).letter ∷ [])) }

abbrev pub close_pass : Facts → SmallBlock → ℕ → SmallVolume → SmallVolume
close_pass f b v x = with_state f b v (record x { pass = None; unit = 0; slots = map (fill_slot f b) x.slots })

-- an uninitialised volume, or one in its first resync, goes on with that; another one gets a repair
abbrev pub resync_kind : SmallVolume → ℕ
resync_kind x = if (x.state == 1) || option_map_or (λ kind. kind == 0) x.pass false then 0 else 5

-- unfinished: a resync, and clean; else a slot to rebuild: a rebuild; else no pass
abbrev pub start_volume : Facts → SmallBlock → ℕ → SmallVolume → SmallVolume
start_volume f b v x =
    let unit = start_of_pass x / UNIT_ROWS in
    with_state f b v
    (if is_unfinished_volume x then record x { pass = Some (resync_kind x); unit = unit; dirty = false }
    else (if list_any (to_rebuild b) x.slots then record x { pass = Some 1; unit = unit }
    else record x { pass = None; unit = 0 }))

-- SPARES AND RECORDS

-- each slot of this index gets the last record's, out of sync
abbrev pub take_slot : (index new : ℕ) → SmallSlot → SmallSlot
take_slot index new s = if s.index == index then record { index = new; out = true } else s

abbrev pub rebuild_kind : Option ℕ → ℕ
rebuild_kind None = 1
rebuild_kind (Some kind) = kind

-- a new record, and the slots of a failed index get it, in each started volume that isn't broken
abbrev pub activate : Known → Facts → SmallBlock → List ℕ → ℕ → SmallBlock
activate K f b serial index =
    let new = length b.records in
    let c = record b { records = b.records ++ record { letter = slice_index serial 0; expected = true } ∷ [] } in
    with_volumes (λ v x.
    if K.started v && not (f.is_broken v) && list_any (λ s. s.index == index) x.slots
    then with_state f c v
    (record x { slots = map (take_slot index new) x.slots; pass = Some (rebuild_kind x.pass); unit = 0 })
    else x)
    c

-- the indices behind the record fall by one
abbrev pub index_without : SmallBlock → List ℕ → ℕ → ℕ
index_without b serial i = if is_before b.records serial i then i - 1 else i
  where
    is_before : List SmallRecord → List ℕ → ℕ → Bool
    is_before [] serial i = false
    is_before (r ∷ rs) serial zero = false
    is_before (r ∷ rs) serial (suc i) = has_letter r serial || is_before rs serial i

abbrev pub slot_without : SmallBlock → List ℕ → SmallSlot → SmallSlot
slot_without b serial s = record s { index = index_without b serial s.index }

abbrev pub remove_disk : SmallBlock → List ℕ → SmallBlock
remove_disk b serial = with_volumes (λ v x.
    record x { slots = map (slot_without b serial) x.slots })
    (record b { records = filter (λ r. not (has_letter r serial)) b.records })

-- ALL EDITS

abbrev pub edit_block : Known → Facts → SmallBlock → Edit → SmallBlock
edit_block K f b (TakesGeneration g) = record b { generation = g }
edit_block K f b (FailsDisk serial) = fail_disk K f b serial
edit_block K f b (CountsOut serial) = count_out K f b serial
edit_block K f b (MakesDirty v) = with_volumes (only v (λ x. with_state f b v (record x { dirty = true }))) b
edit_block K f b (MakesClean v) = with_volumes (only v (λ x. with_state f b v (record x { dirty = false }))) b
edit_block K f b (RecordsUnit v unit) = with_volumes (only v (λ x. with_state f b v (record x { unit = unit }))) b
edit_block K f b (ClosesPass v) = with_volumes (only v (close_pass f b v)) b
edit_block K f b (StartsVolume v) = with_volumes (only v (start_volume f b v)) b
edit_block K f b (ActivatesDisk serial index) = activate K f b serial index
edit_block K f b (RemovesDisk serial) = remove_disk b serial
edit_block K f b (NamesVolume v name) = with_volumes (only v (λ x. record x { name = name })) b

abbrev pub small_edit : Known → Facts → Laid → Edit → Laid
small_edit K f m e = lay (edit_block K f (read_laid m) e)

-- TESTS

-- the record of an index is there and isn't expected; a slot has the record of a serial
abbrev pub has_failed : SmallBlock → ℕ → Bool
has_failed b i = nat_lt i (length b.records) && not (record_at b i).expected

abbrev pub has_used : SmallBlock → List ℕ → Bool
has_used b serial =
    list_any (λ x. list_any (λ s. has_letter (record_at b s.index) serial) x.slots) b.volumes

abbrev pub small_tests : BlockTests
small_tests = record {
  same_block = laid_eq;
  is_full = λ m. not (nat_lt (length (read_laid m).records) MAX_DISKS);
  is_failed = λ m i. has_failed (read_laid m) i;
  is_used = λ m serial. has_used (read_laid m) serial;
}
