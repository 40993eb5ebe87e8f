-- What holds at every moment of a run of the volumes that writes go to: which blocks call them dirty, and which writes
-- may be under way. Source: mdmon-design.txt (write-pending waits until the metadata says dirty); that it is said of
-- every block that a disk may hold is this project's own.
use Rattle.std.specs.Prelude.{⊤, ◌≡◌, ℕ, ◌≤◌, true, false, Option, Some, None}
use Rattle.array_model.specs.Blocks.{Laid}
use Rattle.array_model.specs.Candidates.{Disk}
use Rattle.array_disks.specs.Changes.{EachKnown}
use Rattle.array_machine.specs.Setting.{Setting}
use Rattle.array_machine.specs.States.{is_live}
use Rattle.array_machine.specs.Operations.{volume_of, is_write}
use Rattle.array_machine.specs.Clients.{Row, Busy}
use Rattle.array_machine.specs.Rounds.{Aim, OfRound, OfSpare, Phase, Rest, Going}
use Rattle.array_machine.specs.Control.{Control}
use Rattle.array_paths.specs.InTurn.{state_of, is_broken, job_of}
use Rattle.array_paths.specs.ClientMove.{TakesWrites}
use Rattle.array_base.specs.Premises.{generation_of, IsContainer}
use Rattle.array_base.specs.Base.{Ledger, ledger, IsTrusted}

-- the block of the round that goes on, if one does
abbrev pub round_of : Aim → Laid → Option Laid
round_of OfRound m = Some m
round_of (OfSpare d) m = None

abbrev pub round_in : Phase → Option Laid
round_in Rest = None
round_in (Going aim m step left late done) = round_of aim m

module _ (S : Setting) where
  abbrev pub SaysDirty : Laid → (v : ℕ) → Type 0
  SaysDirty m v = S.start.words.is_dirty m v ≡ true

  -- a block, if there is one
  abbrev pub SaysDirtyIf : Option Laid → (v : ℕ) → Type 0
  SaysDirtyIf None v = ⊤
  SaysDirtyIf (Some m) v = SaysDirty m v

  -- A round has finished. While some disk is trusted, the book calls volume v dirty, and so does each known block of a
  -- container that is no older than the last finished round's. The block of the round that goes on calls it dirty.
  pub record IsDirtyAll (ks : ℕ → Disk) (l : Ledger) (phase : Phase) (v : ℕ) : Type 0 where
    pub later : l.first ≡ false
    pub book : (d : ℕ) → IsTrusted S l d → SaysDirty l.book v
    pub known : (d : ℕ) → IsTrusted S l d
        → EachKnown (λ e a. IsContainer S a → generation_of S l.last ≤ generation_of S a → SaysDirty a v) ks
    pub round : SaysDirtyIf (round_in phase) v

  -- so it is of each volume that is active or idle
  abbrev pub LiveAreDirty : (ks : ℕ → Disk) → Control → Type 0
  LiveAreDirty ks c =
      (v : ℕ) → is_live (state_of c v) ≡ true → IsDirtyAll ks (ledger c.round) c.round.phase v

  -- a write that is under way is of a volume that is write-pending or active, or broken
  abbrev pub WritersWait : Control → Type 0
  WritersWait c =
      (k i : ℕ) (r : Row) → job_of c k ≡ Busy i r → is_write S i ≡ true → is_broken c (volume_of S i) ≡ false
      → TakesWrites (state_of c (volume_of S i))
