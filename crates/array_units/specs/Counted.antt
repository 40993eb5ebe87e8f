-- What holds at every moment of a run between the beginning of a volume's pass and the next update, failure or kill: of
-- the pass, of the book, and of the calls made since. Source: this project's own.
use Rattle.std.specs.Prelude.{⊤, ◌≡◌, ℕ, ◌+◌, ◌<◌, ◌≤◌, true, false, List, is_some, Some, None, IsSome, ◌⊎◌}
use Rattle.device_log.specs.Log.{Call, Read}
use Rattle.array_model.specs.declared.journal.Entry.{Entry}
use Rattle.array_model.specs.declared.journal.Event.{Event}
use Rattle.array_model.specs.declared.journal.Event.TheVariants.{Begin}
use Rattle.array_model.specs.Moments.{EachCall}
use Rattle.array_model.specs.Blocks.{Laid}
use Rattle.array_model.specs.Candidates.{Disk}
use Rattle.array_model.specs.FailureLaw.{pass_from, IsElsewhere, ReadsRow}
use Rattle.array_machine.specs.Setting.{Setting}
use Rattle.array_machine.specs.Volumes.{Pass, volume_at}
use Rattle.array_machine.specs.Operations.{shape_of}
use Rattle.array_machine.specs.Rounds.{Lives, Rest}
use Rattle.array_machine.specs.Control.{Control}
use Rattle.array_paths.specs.InTurn.{is_broken}
use Rattle.array_base.specs.Base.{ledger, IsTrusted}
use Rattle.array_gate.specs.Gate.{round_in}
use Rattle.array_failures.specs.Begun.{HasBegun}
use Rattle.array_units.specs.Passes.{checkpoint_unit, StandsAt, HasPassed}

module _ (S : Setting) where
  -- EACH PASS

  abbrev pub PassesStand : Control → Type 0
  PassesStand c = (v : ℕ) (p : Pass) → (volume_at c.volumes v).pass ≡ Some p → StandsAt (shape_of S v).rows p

  -- THE MONITOR'S LIFE

  -- a round that goes on, or one that ended since the opening or the last takeover, is of a monitor that lives
  pub record LivesOn (c : Control) : Type 0 where
    pub going : (c.round.phase ≡ Rest → ⊥) → c.round.life ≡ Lives
    pub ended : c.round.ended ≡ true → c.round.life ≡ Lives

  -- CALLS SINCE A PASS BEGAN

  -- the pass of volume v has come past a row's checkpoint, and the volume isn't broken
  pub record IsPassed (c : Control) (v row : ℕ) : Type 0 where
    pub sound : is_broken c v ≡ false
    pub passed : (p : Pass) → (volume_at c.volumes v).pass ≡ Some p → HasPassed (shape_of S v).rows p row

  -- a call that reads a row of volume v that no operation names
  abbrev pub IsCounted : Control → ℕ → Call → Type 0
  IsCounted c v call =
      (row : ℕ) → call.what ≡ Read ((shape_of S v).pba + row) → row < (shape_of S v).rows
      → IsElsewhere S.start S.asked.ops S.start.newest v row → IsPassed c v row

  -- THE BOOK

  -- a round goes on, or some disk is trusted
  abbrev pub IsServed : Control → Type 0
  IsServed c = round_in c.round.phase ≡ None → (d : ℕ) × IsTrusted S (ledger c.round) d

  -- ALL

  -- The pass of volume v began when so many calls were made. The volume is started, and a round has ended. While a
  -- round may begin, a pass that the book has open goes on. Of each row read since the pass has come past its
  -- checkpoint.
  pub record IsSince (c : Control) (log : List Call) (v since : ℕ) : Type 0 where
    pub started : (volume_at c.volumes v).started ≡ true
    pub ended : c.round.ended ≡ true
    pub opened : IsServed c
        → (S.start.words.pass c.round.book v ≡ None) ⊎ (is_some (volume_at c.volumes v).pass ≡ true)
    pub calls : EachCall (λ before call. since ≤ before → IsCounted c v call) log

  -- ROUNDS THAT BEGAN

  -- a block counts what was read of a volume's rows between two numbers of calls
  abbrev pub CountsRead : List Call → (v since stamp : ℕ) → Laid → Type 0
  CountsRead log v since stamp m =
      EachCall (λ before call. since ≤ before → before < stamp → (row : ℕ) → ReadsRow S.start m v row call
      → IsElsewhere S.start S.asked.ops m v row → IsSome (S.start.words.pass m v)
      → checkpoint_unit row ≤ S.start.words.unit m v) log

  -- a round began behind this front of the journal, and its block counts what the passes had read by then
  pub record HasCounted (ks : ℕ → Disk) (c : Control) (log : List Call) (front : List Entry) (stamp g : ℕ) : Type 0
    where
      pub begun : HasBegun S ks c log front stamp g
      pub counts : (v since : ℕ) → pass_from v None front ≡ Some since → CountsRead log v since stamp begun.block

  -- of an entry
  abbrev pub HasCountedAt : (ℕ → Disk) → Control → List Call → List Entry → ℕ → Event → Type 0
  HasCountedAt ks c log front stamp (Begin g) = HasCounted ks c log front stamp g
  HasCountedAt ks c log front stamp _ = ⊤
