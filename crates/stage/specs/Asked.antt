-- What a round asks of a disk. Source: this project's own.
use Rattle.std.specs.Prelude.{ℕ, [], ◌∷◌}
use Rattle.units.specs.Places.{anchor_place}
use Rattle.device_log.specs.Log.{What, Write, Sync}
use Rattle.array_model.specs.Blocks.{Laid}
use Rattle.control_state.specs.declared.round.Step.{Step}
use Rattle.control_state.specs.declared.round.Step.TheVariants as steps

-- on a disk of so many sectors, of which so many of a write were stored
abbrev pub asked_of : ℕ → Laid → Step → ℕ → What
asked_of sectors m steps.Anchor stored = Write (anchor_place sectors) (m.anchor ∷ []) stored
asked_of sectors m steps.Sync stored = Sync
