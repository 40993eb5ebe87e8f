-- The blocks of rounds: each is the block of the round before, edited. Source: super-intel.c (write_super_imsm edits
-- the block that it has); that nothing else changes is this project's own.
use Rattle.std.specs.Prelude.{◌≡◌, ℕ, Bool, List, take, ⊤}
use Rattle.device_log.specs.Log.{Call}
use Rattle.array_model.specs.declared.script.Op.{Op}
use Rattle.array_model.specs.declared.journal.Entry.{Entry}
use Rattle.array_model.specs.declared.journal.Event.{Event}
use Rattle.array_model.specs.declared.journal.Event.TheVariants.{Begin}
use Rattle.array_model.specs.Blocks.{Laid}
use Rattle.array_model.specs.Events.{AtEach}
use Rattle.array_model.specs.Rounds.{IsFinished, IsRound}
use Rattle.array_model.specs.Causes.{array_state_of, needs_dirty}
use Rattle.array_model.specs.Start.{Start}

-- The block of a round that begins, whether or not the round ends, is that of the last finished round with the round's
-- generation, and with volume 0 dirty where its state needs that: `renew` is that edit, which leaves all else.
abbrev pub BeginsRenewed : (Laid → ℕ → Bool → Laid) → Start → List Op → List Call → List Entry → ℕ → Event → Type 0
BeginsRenewed renew start ops log front stamp (Begin g) =
    (m last : Laid) → IsRound start log stamp g m → IsFinished start (take stamp log) front last
    → m ≡ renew last g (needs_dirty (array_state_of start ops front 0))
BeginsRenewed renew start ops log front stamp _ = ⊤

abbrev pub RoundsAreRenewed : (Laid → ℕ → Bool → Laid) → Start → List Op → List Call → List Entry → Type 0
RoundsAreRenewed renew start ops log journal =
    AtEach (λ front e. BeginsRenewed renew start ops log front e.stamp e.event) journal
