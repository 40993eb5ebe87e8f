-- The pass that a volume has: one that is opened, and the one with which the volume starts.
-- Source: imsm_process_update, imsm_set_array_state and the MIGR_ types of super-intel.c; which pass a volume starts with
-- is this project's own.
use Rattle.std.specs.Prelude.{ℕ, ◌/◌, ◌==◌, ◌&&◌, ◌||◌, Bool, false, if◌then◌else◌, [], ◌∷◌}
use Rattle.std.specs.Option.{option_map_or}
use Rattle.std.specs.List.{list_any}
use Rattle.units.specs.declared.bounds.TheConstants.{UNIT_ROWS}
use Rattle.imsm_base.specs.Layout.{Block, Volume, map_state_of}
use Rattle.imsm_base.specs.Volumes.{first_map, members, is_expected_at, has_pass, has_pass_of, is_unfinished, pass_start}
use Rattle.imsm_base.specs.Edits.{volume_with_dirty}
use Rattle.imsm_base.specs.EditsOfTables.{volume_with_pass, volume_with_migration, volume_without_migration}
use Rattle.imsm_view.specs.declared.volume.Volume.{Volume as View}
use Rattle.imsm_edit.specs.Meanings.{is_init, edited}

-- a pass of this type is open, from a unit on
abbrev pub with_migration : Volume → Volume
with_migration v = if has_pass v then v else volume_with_migration v

abbrev pub with_pass : ℕ → ℕ → Volume → Volume
with_pass kind unit v = volume_with_pass kind unit (with_migration v)

abbrev pub started_pass : Block → ℕ → Bool → ℕ → Block
started_pass b k broken kind = edited b k broken (with_pass kind 0)

-- The pass that makes the members of an unfinished volume agree: an init (0) where none has come to its end yet, else a
-- repair (5).
abbrev pub resync_type : Volume → ℕ
resync_type v = if map_state_of (first_map v) == 1 || has_pass_of (0 ∷ []) v then 0 else 5

-- the same by a view
abbrev pub seen_resync : View → ℕ
seen_resync view = if view.state == 1 || option_map_or is_init view.pass false then 0 else 5

-- some slot is to be rebuilt: it is out of sync, and its disk is expected
abbrev pub has_to_rebuild : Block → Volume → Bool
has_to_rebuild b v = list_any (λ m. m.is_out && is_expected_at b m.index) (members v)

-- A volume as it starts. An unfinished one gets a pass over its rows, which says from then on that they may differ, so
-- the dirty bit is cleared; else a slot is rebuilt, if one is to be. Either goes on from the checkpoint of an open pass
-- where that is honoured, else from the first row. A pass that has nothing to do is closed.
abbrev pub with_start : Block → Volume → Volume
with_start b v =
    let unit = pass_start v / UNIT_ROWS in
    if is_unfinished v then volume_with_pass (resync_type v) unit (volume_with_dirty false (with_migration v))
    else (if has_to_rebuild b v then with_pass 1 unit v
    else (if has_pass v then volume_without_migration v else v))

abbrev pub marked_started : Block → ℕ → Bool → Block
marked_started b k broken = edited b k broken (with_start b)
