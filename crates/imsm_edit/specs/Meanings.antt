-- What edits mean for a started volume: each changes what it names, and then the states of the volume's maps are set.
-- Source: imsm_set_array_state, imsm_process_update and end_migration of super-intel.c; when a map has which state is
-- this project's own.
use Rattle.std.specs.Prelude.{◌≡◌, ◌<◌, ℕ, ◌==◌, ◌&&◌, not, Bool, true, false, if◌then◌else◌, List, [], ◌∷◌, length, map, slice_get, None}
use Rattle.std.specs.Option.{option_map_or}
use Rattle.std.specs.List.{list_any}
use Rattle.imsm_base.specs.Layout.{Block, Volume, migration_type_of}
use Rattle.imsm_base.specs.Volumes.{members, is_expected_at, has_pass, has_pass_of, volume_fault, pass_of}
use Rattle.imsm_base.specs.Edits.{volume_with_dirty}
use Rattle.imsm_base.specs.EditsOfTables.{with_volume, with_map, map_with_state, volume_with_pass}
use Rattle.imsm_codec.specs.Mpb.{volume_at}
use Rattle.imsm_view.specs.declared.volume.Volume.{Volume as View}
use Rattle.imsm_view.specs.Views.{slot_view}
use Rattle.imsm_edit.specs.declared.facts.EditFacts.{EditFacts}

-- what a list says of a number, and false where it says nothing
abbrev pub is_told : List Bool → ℕ → Bool
is_told told k = option_map_or (λ t. t) (slice_get told k) false

-- the facts are of this block: they speak of each volume and each record, and what is started is supported
pub record AreFacts (b : Block) (facts : EditFacts) : Type 0 where
  pub started : length facts.started.items ≡ length b.volumes
  pub broken : length facts.broken.items ≡ length b.volumes
  pub working : length facts.working.items ≡ length b.disks
  pub supported : (k : ℕ) → k < length b.volumes → is_told facts.started.items k ≡ true
      → volume_fault b k (volume_at k b) ≡ None

-- some slot is out of sync, and one whose disk isn't expected
abbrev pub has_out : Volume → Bool
has_out v = list_any (λ m. m.is_out) (members v)

abbrev pub has_lost : Block → Volume → Bool
has_lost b v = list_any (λ m. m.is_out && not (is_expected_at b m.index)) (members v)

-- The state that a volume has (0 normal, 1 uninitialised, 2 degraded, 3 failed), and while a pass is open the state
-- that it comes from.
abbrev pub state_now : Bool → Volume → ℕ
state_now broken v = if broken then 3 else (if has_out v then 2 else (if has_pass_of (0 ∷ []) v then 1 else 0))

abbrev pub state_before : Block → Bool → Volume → ℕ
state_before b broken v = if broken then 3 else (if has_lost b v then 2 else 0)

-- the same by a view of the volume
abbrev pub is_init : ℕ → Bool
is_init type = list_any (λ t. t == type) (0 ∷ [])

abbrev pub seen_now : Bool → View → ℕ
seen_now broken view =
    if broken then 3
    else (if list_any (λ s. s.out) view.slots.items then 2
    else (if option_map_or is_init view.pass false then 1 else 0))

abbrev pub seen_before : Bool → View → ℕ
seen_before broken view =
    if broken then 3 else (if list_any (λ s. s.out && not s.expected) view.slots.items then 2 else 0)

-- a view tells a volume's pass and its slots
pub record Tells (b : Block) (v : Volume) (view : View) : Type 0 where
  pub pass : view.pass ≡ pass_of v
  pub slots : view.slots.items ≡ map (slot_view b) (members v)

-- with a pass the second map has the state now, and without one the first
abbrev pub with_states : Block → Bool → Volume → Volume
with_states b broken v =
    if has_pass v
    then with_map 1 (map_with_state (state_now broken v)) (with_map 0 (map_with_state (state_before b broken v)) v)
    else with_map 0 (map_with_state (state_now broken v)) v

-- the block with volume k edited, and its states set
abbrev pub edited : Block → ℕ → Bool → (Volume → Volume) → Block
edited b k broken edit = with_volume k (λ v. with_states b broken (edit v)) b

abbrev pub marked_dirty : Block → ℕ → Bool → Block
marked_dirty b k broken = edited b k broken (volume_with_dirty true)

abbrev pub marked_clean : Block → ℕ → Bool → Block
marked_clean b k broken = edited b k broken (volume_with_dirty false)

-- the pass goes on with its type, and has come so far
abbrev pub at_point : ℕ → Volume → Volume
at_point unit v = volume_with_pass (migration_type_of v) unit v

abbrev pub marked_point : Block → ℕ → Bool → ℕ → Block
marked_point b k broken unit = edited b k broken (at_point unit)
