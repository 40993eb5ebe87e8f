-- The slots of volumes have the disks that the last finished round's block gives them, once a turn has made the changes
-- that are still to come in it. Source: this project's own.
use Rattle.std.specs.Prelude.{◌≡◌, ℕ, true, false, List, [], ◌∷◌, ◌⊎◌}
use Rattle.array_model.specs.Blocks.{Laid}
use Rattle.array_machine.specs.Setting.{Setting}
use Rattle.array_machine.specs.Volumes.{volume_at}
use Rattle.array_machine.specs.RoundEnds.{has_other}
use Rattle.array_machine.specs.Control.{Control}
use Rattle.array_machine.specs.Changes.{Change, PassMoves}
use Rattle.array_paths.specs.PassMove.{slots_of}

module _ (S : Setting) where
  -- one of these changes gives volume u slots of which the words give none another disk
  abbrev pub Seats : Laid → (u : ℕ) → List Change → Type 0
  Seats m u [] = ⊥
  Seats m u (PassMoves w slots pass word ∷ more) =
      ((w ≡ u) × (has_other S (S.start.words.slots m u) slots ≡ false)) ⊎ Seats m u more
  Seats m u (_ ∷ more) = Seats m u more

  -- each started volume's slots have the disks that the last finished round's block gives them
  abbrev pub AreSeated : Control → Type 0
  AreSeated c =
      (u : ℕ) → (volume_at c.volumes u).started ≡ true
      → has_other S (S.start.words.slots c.round.last u) (slots_of c u) ≡ false

  -- or get slots that do
  abbrev pub WillBeSeated : Control → List Change → Type 0
  WillBeSeated c more =
      (u : ℕ) → (volume_at c.volumes u).started ≡ true
      → (has_other S (S.start.words.slots c.round.last u) (slots_of c u) ≡ false) ⊎ Seats c.round.last u more
