-- What disks hold of metadata, in the words of a reader: durable blocks of working disks, and the block of a round on
-- the targets that finished. Source: this project's own.
use Rattle.std.specs.Prelude.{◌≡◌, ℕ, ◌≤◌, ◌&&◌, Bool, true, false, List}
use Rattle.array_model.specs.Blocks.{Laid}
use Rattle.array_model.specs.Candidates.{Durable}
use Rattle.array_disks.specs.Held.{IsSole}
use Rattle.array_machine.specs.Setting.{Setting}
use Rattle.array_machine.specs.Numbers.{has}
use Rattle.array_machine.specs.Rounds.{Step, OfRound, Going, expects, works}
use Rattle.array_machine.specs.Machine.{World}
use Rattle.array_base.specs.Premises.{generation_of, IsContainer}
use Rattle.array_base.specs.Opening.{counts_out}
use Rattle.array_base.specs.Base.{disks_by, is_left}

-- a container's block, no older than the last finished round's, that expects the disk
pub record IsTrustworthy (S : Setting) (last : Laid) (d : ℕ) (m : Laid) : Type 0 where
  pub container : IsContainer S m
  pub young : generation_of S last ≤ generation_of S m
  pub expected : expects S m d ≡ true

-- each working disk holds nothing else: it has candidates, and each is such a block; before the first round has
-- finished, a disk that counts out is excepted
abbrev pub WorkingDisksHoldMetadata : Setting → World → Type 0
WorkingDisksHoldMetadata S w =
    (d : ℕ) → works S w.control.round d ≡ true → (w.control.round.first && counts_out S d) ≡ false
    → Durable (IsTrustworthy S w.control.round.last d) (disks_by S w.log d)

-- while a round goes on, each disk that its block expects, without a fault and no target left any more, holds it alone
abbrev pub FinishedTargetsHoldTheBlock : Setting → World → Type 0
FinishedTargetsHoldTheBlock S w =
    (m : Laid) (step : Step) (left late : List ℕ) (done : Bool)
    → w.control.round.phase ≡ Going OfRound m step left late done → (d : ℕ) → expects S m d ≡ true
    → has d w.control.round.faults ≡ false → is_left S left late d ≡ false → IsSole (disks_by S w.log d) m
