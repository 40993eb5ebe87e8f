-- Which calls raise the best generation of a disk, and with it the mark. Source: this project's own.
use Rattle.std.specs.Prelude.{◌≡◌, ℕ, ◌<◌, Bool, true}
use Rattle.device_log.specs.Log.{What}
use Rattle.array_model.specs.Blocks.{Laid, Words, is_container}
use Rattle.array_model.specs.Candidates.{Disk}
use Rattle.array_model.specs.Start.{Disks}
use Rattle.array_disks.specs.Held.{IsStanding, IsWholeOn}
use Rattle.array_disks.specs.Calls.{IsSettled}

-- On disk d, which is k before it, the call is a sync that goes through and finds the block of a container standing,
-- known and whole there, of this generation, which is above the best so far.
pub record Raises (W : Words) (disks : Disks) (d : ℕ) (k : Disk) (what : What) (went : Bool) (g : ℕ) : Type 0 where
  pub settled : IsSettled what went
  pub block : Laid
  pub standing : IsStanding W (disks.sectors d) k block
  pub whole : IsWholeOn W disks d block
  pub container : is_container W block ≡ true
  pub generation : W.generation block.anchor ≡ g
  pub above : k.best < g
