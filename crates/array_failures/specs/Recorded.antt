-- What a run keeps of disks that failed: until a finished round says so they are blocked, and from then on no block
-- that may count expects them. And of volumes: their slots have the disks that the last finished round gives them.
-- Source: mdmon-design.txt (a disk that failed is blocked until the metadata says so); the rest is this project's own.
use Rattle.std.specs.Prelude.{⊤, ◌≡◌, ℕ, ◌<◌, true, false, slice_get, Option, Some, None, ◌⊎◌}
use Rattle.std.specs.List.{AllZip}
use Rattle.array_model.specs.Blocks.{Laid, SlotWords}
use Rattle.array_model.specs.Candidates.{Disk}
use Rattle.array_machine.specs.Setting.{Setting}
use Rattle.array_machine.specs.Numbers.{has}
use Rattle.array_machine.specs.States.{IsReadonly}
use Rattle.array_machine.specs.Volumes.{Slot, Volume, volume_at}
use Rattle.array_machine.specs.Rounds.{Round, Life, Lives, Phase, Rest, Going, expects}
use Rattle.array_machine.specs.RoundEnds.{seat_of}
use Rattle.array_machine.specs.Control.{Control}
use Rattle.array_paths.specs.InTurn.{state_of}
use Rattle.array_gate.specs.Gate.{round_in}
use Rattle.array_failures.specs.Members.{OfEachCurrent}

-- what goes on, goes on while the monitor lives
abbrev pub GoesWhileLiving : Life → Phase → Type 0
GoesWhileLiving life Rest = ⊤
GoesWhileLiving life (Going aim m step left late done) = life ≡ Lives

module _ (S : Setting) where
  -- FAILURES

  -- a disk that failed is blocked, or the block doesn't expect it
  abbrev pub BlocksOrSays : Round → Laid → Type 0
  BlocksOrSays r m = (d : ℕ) → has d r.faults ≡ true → has d r.blocked ≡ false → expects S m d ≡ false

  -- the block of a round, if there is one
  abbrev pub BlocksOrSaysIf : Round → Option Laid → Type 0
  BlocksOrSaysIf r None = ⊤
  BlocksOrSaysIf r (Some m) = BlocksOrSays r m

  -- Disks that failed are of the bank. Each is blocked, or the last finished round's block doesn't expect it; the same
  -- of the round that goes on.
  pub record FailuresAreKept (c : Control) : Type 0 where
    pub there : (d : ℕ) → has d c.round.faults ≡ true → d < S.start.disks.count
    pub last : BlocksOrSays c.round c.round.last
    pub going : BlocksOrSaysIf c.round (round_in c.round.phase)
    pub living : GoesWhileLiving c.round.life c.round.phase

  -- a disk that failed, and that no block that may count expects
  pub record IsGone (ks : ℕ → Disk) (c : Control) (d : ℕ) : Type 0 where
    pub failed : has d c.round.faults ≡ true
    pub blocks : OfEachCurrent S (λ m. expects S m d ≡ false) ks c.round.book c.round.last

  -- SLOTS

  -- a slot of the last finished round expects the same disk
  pub record HasStill (last : Laid) (v s : ℕ) (w : SlotWords) : Type 0 where
    pub words : SlotWords
    pub there : slice_get (S.start.words.slots last v) s ≡ Some words
    pub same : words.serial ≡ w.serial
    pub expected : words.is_expected ≡ true

  -- its disk is gone
  pub record IsOfGone (ks : ℕ → Disk) (c : Control) (w : SlotWords) : Type 0 where
    pub disk : ℕ
    pub same : w.serial ≡ S.start.disks.serial disk
    pub gone : IsGone ks c disk

  -- A block that was the last finished round's once: each disk that it expects in a slot of a started volume has that
  -- slot still, or it is gone.
  pub record WasFinished (ks : ℕ → Disk) (c : Control) (m : Laid) : Type 0 where
    pub shape : (v : ℕ) → S.start.words.shape m v ≡ S.start.words.shape S.start.newest v
    pub slots : (v s : ℕ) (w : SlotWords) → S.start.is_started v ≡ true
        → slice_get (S.start.words.slots m v) s ≡ Some w → w.is_expected ≡ true
        → HasStill c.round.last v s w ⊎ IsOfGone ks c w

  -- SEATS

  -- a slot has the disk that these words give it
  abbrev pub HasSeat : SlotWords → Slot → Type 0
  HasSeat w x = (d : ℕ) → seat_of S w ≡ Some d → x.disk ≡ Some d

  -- each slot of a volume, if it was started
  abbrev pub IsSeated : (last : Laid) → (v : ℕ) → Volume → Type 0
  IsSeated last v x = x.started ≡ true → AllZip HasSeat (S.start.words.slots last v) x.slots

  -- each slot of a started volume has the disk that the last finished round gives it
  abbrev pub AreSeated : Control → Type 0
  AreSeated c = (v : ℕ) → IsSeated c.round.last v (volume_at c.volumes v)

-- a volume that is ready was started, and a round has finished
pub record IsServed (c : Control) (v : ℕ) : Type 0 where
  pub started : (volume_at c.volumes v).started ≡ true
  pub later : c.round.first ≡ false

-- so it is of each
abbrev pub ReadyAreServed : Control → Type 0
ReadyAreServed c = (v : ℕ) → (state_of c v ≡ IsReadonly → ⊥) → IsServed c v
