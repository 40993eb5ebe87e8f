-- The questions that a view answers, of its own fields alone, and that they are the words of the volume.
-- Source: `Volumes` of imsm_base, and the kernel's md.rst.
use Rattle.std.specs.Prelude.{◌≡◌, ◌<◌, ℕ, ◌*◌, ◌==◌, ◌&&◌, ◌||◌, nat_le, not, Bool, false, if◌then◌else◌, [], ◌∷◌, map, slice_get, Some}
use Rattle.std.specs.Option.{option_map_or}
use Rattle.std.specs.List.{list_any}
use Rattle.imsm_base.specs.Layout.{Block, Volume, member_count_of}
use Rattle.imsm_base.specs.Volumes.{first_map, member}
use Rattle.units.specs.declared.bounds.TheConstants.{UNIT_ROWS}
use Rattle.units.specs.Levels.{suffices}
use Rattle.imsm_base.specs.declared.values.TheConstants.{CHECKPOINT_SIGNATURE}
use Rattle.imsm_base.specs.Volumes as word
use Rattle.imsm_view.specs.declared.volume.Volume.{Volume as View}
use Rattle.imsm_view.specs.declared.volume.SlotView.{SlotView}

abbrev pub is_slot_in_sync : SlotView → Bool
is_slot_in_sync s = not s.out && s.expected

abbrev pub is_in_sync_at : View → ℕ → Bool
is_in_sync_at view slot = option_map_or is_slot_in_sync (slice_get view.slots.items slot) false

-- a pass that makes the members agree: 0 init, 2 verify, 5 repair
abbrev pub is_resync : ℕ → Bool
is_resync type = list_any (λ t. t == type) (0 ∷ 2 ∷ 5 ∷ [])

abbrev pub is_unfinished : View → Bool
is_unfinished view = view.dirty || view.state == 1 || option_map_or is_resync view.pass false

abbrev pub is_degraded : View → Bool
is_degraded view = list_any (λ s. not (is_slot_in_sync s)) view.slots.items

abbrev pub can_run : View → Bool
can_run view = suffices (Some view.geometry.level) (map is_slot_in_sync view.slots.items) && not (view.state == 3)

-- the checkpoint tells where the open pass goes on: the pass is no verify, this project's mark stands, and the volume
-- is clean
abbrev pub is_resumed : View → Bool
is_resumed view =
    option_map_or (λ t. not (t == 2)) view.pass false && (view.checkpoint == CHECKPOINT_SIGNATURE && not view.dirty)

abbrev pub pass_start : View → ℕ
pass_start view =
    if is_resumed view && nat_le (view.unit * UNIT_ROWS) view.geometry.rows then view.unit * UNIT_ROWS else 0

abbrev pub wants_pass : View → Bool
wants_pass view = is_unfinished view || list_any (λ s. s.out && s.expected) view.slots.items

-- what the view answers are the words of this volume of the block
pub record HasWords (b : Block) (v : Volume) (view : View) : Type 0 where
  pub in_sync : (slot : ℕ) → slot < member_count_of (first_map v)
      → is_in_sync_at view slot ≡ word.is_in_sync b (member v slot)
  pub unfinished : is_unfinished view ≡ word.is_unfinished v
  pub degraded : is_degraded view ≡ word.is_degraded b v
  pub runs : can_run view ≡ word.can_run b v
  pub start : pass_start view ≡ word.pass_start v
  pub wants : wants_pass view ≡ word.wants_pass b v
