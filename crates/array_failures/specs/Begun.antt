-- What a run keeps of each round that began: its block, which alone has its generation, and what it kept of the last
-- finished round's. Source: this project's own.
use Rattle.std.specs.Prelude.{⊤, ◌≡◌, ℕ, ◌≤◌, List, length, take, Option, Some, None}
use Rattle.device_log.specs.Log.{Call}
use Rattle.array_model.specs.declared.journal.Entry.{Entry}
use Rattle.array_model.specs.declared.journal.Event.{Event}
use Rattle.array_model.specs.declared.journal.Event.TheVariants.{Begin}
use Rattle.array_model.specs.Blocks.{Laid}
use Rattle.array_model.specs.Candidates.{Disk}
use Rattle.array_model.specs.Rounds.{IsFinished}
use Rattle.array_model.specs.FailureLaw.{KeepsMembers}
use Rattle.array_disks.specs.Changes.{EachKnown}
use Rattle.array_machine.specs.Setting.{Setting}
use Rattle.array_machine.specs.Control.{Control}
use Rattle.array_base.specs.Premises.{generation_of, IsContainer}
use Rattle.array_gate.specs.Gate.{round_in}

module _ (S : Setting) where
  -- the round that goes on is of another generation, or of this block
  abbrev pub IsOnlyRound : Option Laid → ℕ → Laid → Type 0
  IsOnlyRound None g m = ⊤
  IsOnlyRound (Some n) g m = generation_of S n ≡ g → n ≡ m

  -- A round of generation g began at a stamp, behind this front of the journal. No other container's block is known or
  -- goes on under its generation.
  pub record HasBegun (ks : ℕ → Disk) (c : Control) (log : List Call) (front : List Entry) (stamp g : ℕ) : Type 0 where
    pub block : Laid
    pub below : g ≤ c.round.note
    pub only : EachKnown (λ e a. IsContainer S a → generation_of S a ≡ g → a ≡ block) ks
    pub going : IsOnlyRound (round_in c.round.phase) g block
    pub inside : stamp ≤ length log
    pub keeps : (last : Laid) → IsFinished S.start (take stamp log) front last
        → KeepsMembers S.start front last block

  -- of an entry
  abbrev pub HasBegunAt : (ℕ → Disk) → Control → List Call → List Entry → ℕ → Event → Type 0
  HasBegunAt ks c log front stamp (Begin g) = HasBegun ks c log front stamp g
  HasBegunAt ks c log front stamp _ = ⊤
