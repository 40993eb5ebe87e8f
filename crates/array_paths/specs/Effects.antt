-- A turn as a path of effects: its call, if it makes one, with the first change, then changes without a call. This is
-- all that a law sees of a turn. Source: this project's own.
use Rattle.std.specs.Prelude.{◌≡◌, ℕ, Bool, true, false, List, [], ◌∷◌, ◌++◌, Option, Some, None}
use Rattle.device_log.specs.Log.{Call, What}
use Rattle.array_model.specs.Blocks.{Laid}
use Rattle.array_disks.specs.Calls.{RowCall, call_on}
use Rattle.array_machine.specs.Setting.{Setting}
use Rattle.array_machine.specs.Rounds.{Ended, Step, Aim, Going, what_of}
use Rattle.array_machine.specs.Control.{Control}
use Rattle.array_machine.specs.Changes.{Change, StepsOn, DiskFails, entry_of}
use Rattle.array_machine.specs.Puts.{put}
use Rattle.array_machine.specs.Machine.{World, calls_after, log_after, entered}
use Rattle.array_paths.specs.InTurn.{InTurn}
use Rattle.array_paths.specs.Comes.{Comes, MayFail}
use Rattle.array_paths.specs.AtRows.{AtRows, LostAtRows}

-- The call of what goes on: on the first target left, which is there and has no fault.
pub record AtTarget (S : Setting) (c : Control) (d : ℕ) (m : Laid) (step : Step) : Type 0 where
  pub may : MayFail S c d
  pub aim : Aim
  pub left : List ℕ
  pub late : List ℕ
  pub done : Bool
  pub is : c.round.phase ≡ Going aim m step (d ∷ left) late done

-- A change alone; a call at rows, gone through or failed; a call of what goes on, gone through or failed.
pub data Effect (S : Setting) (t : InTurn) (c : Control) : Option Call → Ended → Change → Type 0 where
  quiet : (x : Ended) (a : Change) → Comes S t c a → Effect S t c None x a
  row : (d : ℕ) (what : What) (x : Ended) (a : Change) → MayFail S c d → RowCall (S.start.disks.sectors d) what
      → x.went ≡ true → AtRows S c d what x a → Effect S t c (Some (call_on d what true)) x a
  row_fails : (d : ℕ) (what : What) (x : Ended) → MayFail S c d → RowCall (S.start.disks.sectors d) what
      → x.went ≡ false → LostAtRows S c d what → Effect S t c (Some (call_on d what false)) x (DiskFails d)
  steps : (d : ℕ) (m : Laid) (step : Step) (x : Ended) → AtTarget S c d m step → x.went ≡ true
      → Effect S t c (Some (call_on d (what_of S x m step d) true)) x StepsOn
  step_fails : (d : ℕ) (m : Laid) (step : Step) (x : Ended) → AtTarget S c d m step → x.went ≡ false
      → Effect S t c (Some (call_on d (what_of S x m step d) false)) x (DiskFails d)

-- The changes of a turn, one after the other: the call, if there is one, comes with the first.
pub data Path (S : Setting) (t : InTurn) : Control → Option Call → Ended → List Change → Type 0 where
  ends_here : {c : Control} (x : Ended) → Path S t c None x []
  goes_on : {c : Control} {call : Option Call} {x : Ended} {a : Change} {more : List Change} → Effect S t c call x a
      → Path S t (put S a c) None x more → Path S t c call x (a ∷ more)

-- A RUN IN SMALL STEPS

-- a world after one effect
abbrev pub after_effect : Setting → World → Option Call → Change → World
after_effect S w call a = record {
  control = put S a w.control;
  calls = calls_after w.calls call;
  log = log_after w.log call;
  journal = w.journal ++ entered (calls_after w.calls call) (entry_of S a);
}
