-- What the call of an effect does to the blocks of the disks, while the control state is still the one before it.
-- Source: this project's own.
use Rattle.std.specs.Prelude.{◌≡◌, ℕ, Bool, List, ◌∷◌}
use Rattle.array_model.specs.Blocks.{Laid}
use Rattle.array_model.specs.Candidates.{Disk}
use Rattle.array_disks.specs.Changes.{Narrows, Adds}
use Rattle.array_machine.specs.Setting.{Setting}
use Rattle.array_machine.specs.Rounds.{AtAnchor, Aim, Phase, Going}

-- Candidates narrow and no block is new; or the block of what goes on comes to the first target left.
pub data CallDoes (S : Setting) (phase : Phase) (ks ls : ℕ → Disk) : Type 0 where
  narrows : Narrows S.start.words ks ls → CallDoes S phase ks ls
  brings : (aim : Aim) (m : Laid) (d : ℕ) (ds late : List ℕ) (done : Bool)
      → phase ≡ Going aim m AtAnchor (d ∷ ds) late done → Adds d m ks ls → CallDoes S phase ks ls
