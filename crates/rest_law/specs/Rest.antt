-- Where a run rests, and what has come of its script there. Source: this project's own.
use Rattle.std.specs.Prelude.{◌≡◌, ℕ, ◌<◌, ◌≤◌, Bool, true, false, [], length, None}
use Rattle.std.specs.List.{AllByRecursion}
use Rattle.units.specs.declared.disk.Sector.{Sector}
use Rattle.array_model.specs.declared.script.OpKind.{OpKind}
use Rattle.array_model.specs.declared.script.OpKind.TheVariants.{Write, Read, Whole}
use Rattle.array_model.specs.Events.{has, is_ack_of}
use Rattle.array_model.specs.Rounds.{DurableOnWorking}
use Rattle.stage_machine.specs.Setting.{Setting}
use Rattle.stage_machine.specs.Rounds.{Ended, Rest}
use Rattle.stage_machine.specs.Machine.{Control, World, Action, Monitors, Asks, Quiets, turned, call_of}

-- a turn makes no call and enters nothing
pub record IsStill (S : Setting) (c : Control) (a : Action) : Type 0 where
  pub calls : call_of S c a ≡ None
  pub enters : (turned S c a).events ≡ []

-- no turn has anything to do, however its call would end: the monitor's, a client's, or quiet's
pub record IsAtRest (S : Setting) (c : Control) : Type 0 where
  pub monitor : (x : Ended) → IsStill S c (Monitors x)
  pub clients : (k : ℕ) → k < 16 → (x : Ended) (got : Sector) → IsStill S c (Asks k x got)
  pub quiet : IsStill S c Quiets

abbrev pub is_whole : OpKind → Bool
is_whole (Write v s value) = false
is_whole (Read v s) = false
is_whole (Whole v) = true

-- the script reads and writes rows alone, rounds have a disk to write to, and the volume has a member
pub record CanEnd (S : Setting) : Type 0 where
  pub rows_alone : AllByRecursion (λ op. is_whole op.kind ≡ false) S.asked.ops
  pub target : 1 ≤ length S.targets
  pub member : 1 ≤ length S.members

-- each operation of the script was answered, no round is going on, and the block of the last finished round says that
-- volume 0 is clean
pub record HasEnded (S : Setting) (w : World) : Type 0 where
  pub answered : (i : ℕ) → i < length S.asked.ops → has (is_ack_of i) w.journal ≡ true
  pub no_round : w.control.round.phase ≡ Rest
  pub clean : S.start.words.is_dirty w.control.round.last 0 ≡ false

-- on every working member it is durable that volume 0 is clean
abbrev pub IsDurablyClean : Setting → World → Type 0
IsDurablyClean S w = DurableOnWorking S.start w.log w.journal (λ m. S.start.words.is_dirty m 0 ≡ false)
