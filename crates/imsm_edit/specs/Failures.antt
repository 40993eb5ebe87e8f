-- A disk's failure: what it means for its record, and for each supported volume that has the disk in a slot.
-- Source: mark_failure and imsm_set_array_state of super-intel.c. That the serial and failed_disk_num stay, that a
-- rebuild is closed which has lost its disk, and that an uninitialised volume keeps its states is this project's own.
use Rattle.std.specs.Prelude.{◌≡◌, ℕ, ◌+◌, ◌*◌, ◌/◌, ◌%◌, ◌==◌, ◌&&◌, not, Bool, true, false, if◌then◌else◌, [], ◌∷◌, map, is_none}
use Rattle.std.specs.Option.{option_map_or}
use Rattle.std.specs.List.{list_any}
use Rattle.imsm_base.specs.Layout.{Block, Volume, status_of, map_state_of}
use Rattle.imsm_base.specs.Volumes.{first_map, members, has_pass_of, pass_of, volume_fault}
use Rattle.imsm_base.specs.EditsOfTables.{block_with_status, volume_without_migration}
use Rattle.imsm_codec.specs.Mpb.{disk_at}
use Rattle.imsm_view.specs.declared.volume.Volume.{Volume as View}
use Rattle.imsm_view.specs.declared.volume.SlotView.{SlotView}
use Rattle.imsm_view.specs.Views.{slot_view}
use Rattle.imsm_edit.specs.declared.facts.EditFacts.{EditFacts}
use Rattle.imsm_edit.specs.Meanings.{is_told, with_states}
use Rattle.imsm_edit.specs.Passes.{has_to_rebuild}
use Rattle.imsm_edit.specs.Slots.{changed_each, volume_marked}

-- a status with the failed bit set (FAILED_DISK), and the other bits as they are
abbrev pub with_failed_bit : ℕ → ℕ
with_failed_bit status = status / 8 * 8 + 4 + status % 4

abbrev pub record_failed : Block → ℕ → Block
record_failed b i = block_with_status b i (with_failed_bit (status_of (disk_at i b)))

-- the slot of the disk is out of sync
abbrev pub without_member : ℕ → Volume → Volume
without_member i v = volume_marked true (λ index. index == i) v

-- a rebuild that has no slot to rebuild is closed
abbrev pub is_idle_rebuild : Block → Volume → Bool
is_idle_rebuild b v = has_pass_of (1 ∷ []) v && not (has_to_rebuild b v)

abbrev pub without_idle_rebuild : Block → Volume → Volume
without_idle_rebuild b v = if is_idle_rebuild b v then volume_without_migration v else v

-- Then the states are set. An uninitialised volume keeps its own, by which its start knows that it needs an init.
abbrev pub settled : Block → Bool → Volume → Volume
settled b broken v =
    let w = without_idle_rebuild b v in
    if map_state_of (first_map v) == 1 then w else with_states b broken w

-- volume k, of a block whose record says that its disk failed: one that isn't started keeps its pass and its states
abbrev pub volume_failed : Block → ℕ → EditFacts → ℕ → Volume → Volume
volume_failed b i facts k v =
    if is_told facts.started.items k then settled b (is_told facts.broken.items k) (without_member i v)
    else without_member i v

-- the block after the failure; whether a volume is supported is asked of the block before
abbrev pub marked_failed : Block → ℕ → EditFacts → Block
marked_failed b i facts = record (record_failed b i) {
  volumes = changed_each
      (λ k v. if is_none (volume_fault b k v) then volume_failed (record_failed b i) i facts k v else v) b.volumes;
}

-- a slot's view after the failure
abbrev pub lost : ℕ → SlotView → SlotView
lost i s = if s.index == i then record { index = s.index; out = true; expected = false } else s

-- a view tells a volume's first state and its pass, and its slots as they are after the failure
pub record TellsLost (b : Block) (i : ℕ) (v : Volume) (view : View) : Type 0 where
  pub state : view.state ≡ map_state_of (first_map v)
  pub pass : view.pass ≡ pass_of v
  pub slots : view.slots.items ≡ map (λ m. lost i (slot_view b m)) (members v)

-- the same by a view
abbrev pub is_rebuild : ℕ → Bool
is_rebuild type = list_any (λ t. t == type) (1 ∷ [])

abbrev pub seen_idle_rebuild : View → Bool
seen_idle_rebuild view =
    option_map_or is_rebuild view.pass false && not (list_any (λ s. s.out && s.expected) view.slots.items)
