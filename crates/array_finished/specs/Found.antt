-- Where the block of a round is found: the journal says when the round began, and the log behind that writes the block
-- to some disk. Source: this project's own.
use Rattle.std.specs.Prelude.{⊤, ◌≡◌, ℕ, ◌≤◌, Bool, true, false, List, [], ◌∷◌, length, Some, drop}
use Rattle.device_log.specs.Log.{Call}
use Rattle.array_model.specs.declared.journal.Entry.{Entry}
use Rattle.array_model.specs.Blocks.{Laid}
use Rattle.array_model.specs.Candidates.{In, writes}
use Rattle.array_model.specs.Rounds.{IsRound, begun}
use Rattle.array_disks.specs.Held.{IsPending}
use Rattle.array_disks.specs.Brought.{disk_since}
use Rattle.array_machine.specs.Setting.{Setting}
use Rattle.array_machine.specs.Rounds.{Step, AtExtended, AtAnchor, AtSync, OfRound, OfSpare, Phase, Rest, Going}
use Rattle.array_machine.specs.Control.{Control}
use Rattle.array_base.specs.Premises.{generation_of}

module _ (S : Setting) (log : List Call) (journal : List Entry) where
  -- its round began at a stamp, and some disk was given it since
  pub record IsWritten (m : Laid) : Type 0 where
    pub stamp : ℕ
    pub begun : begun (generation_of S m) journal ≡ Some stamp
    pub inside : stamp ≤ length log
    pub round : IsRound S.start log stamp (generation_of S m) m

  -- what the calls on disk d since the stamp have brought about before a step: at the anchor the extended sectors wait
  -- for it, at the sync the block was written
  abbrev pub AwaitsOn : (stamp d : ℕ) → Laid → Step → Type 0
  AwaitsOn stamp d m AtExtended = ⊤
  AwaitsOn stamp d m AtAnchor = IsPending (disk_since S.start.words S.start.disks log stamp d) m
  AwaitsOn stamp d m AtSync = In m (writes S.start.words S.start.disks d (drop stamp log))

  abbrev pub AwaitsFirst : (stamp : ℕ) → Laid → Step → (left : List ℕ) → Type 0
  AwaitsFirst stamp m step [] = ⊤
  AwaitsFirst stamp m step (d ∷ ds) = AwaitsOn stamp d m step

  -- The round that goes on began at a stamp; the next call stands so; once a target finished, its block was written.
  pub record GoesSince (m : Laid) (step : Step) (left : List ℕ) (done : Bool) : Type 0 where
    pub stamp : ℕ
    pub begun : begun (generation_of S m) journal ≡ Some stamp
    pub inside : stamp ≤ length log
    pub awaits : AwaitsFirst stamp m step left
    pub written : done ≡ true → IsRound S.start log stamp (generation_of S m) m

  abbrev pub RoundSince : Phase → Type 0
  RoundSince Rest = ⊤
  RoundSince (Going OfRound m step left late done) = GoesSince m step left done
  RoundSince (Going (OfSpare d) m step left late done) = ⊤

  -- the last finished round's block, and that of the round that goes on
  pub record IsFound (first : Bool) (last : Laid) (phase : Phase) : Type 0 where
    pub finished : first ≡ false → IsWritten last
    pub going : RoundSince phase

-- of a control state
abbrev pub IsFoundIn : Setting → List Call → List Entry → Control → Type 0
IsFoundIn S log journal c = IsFound S log journal c.round.first c.round.last c.round.phase
