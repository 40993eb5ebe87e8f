-- A turn of the machine: the device call that it makes, if any, how that call ended, and the changes that follow.
-- Source: this project's own.
use Rattle.std.specs.Prelude.{ℕ, ◌&&◌, not, nat_lt, Bool, true, false, List, [], Option, Some, None}
use Rattle.device_log.specs.Log.{Call, What}
use Rattle.array_model.specs.Script.{sector_of}
use Rattle.array_machine.specs.Setting.{Setting}
use Rattle.array_machine.specs.Numbers.{has}
use Rattle.array_machine.specs.Rounds.{Ended, Round}
use Rattle.array_machine.specs.Changes.{Change}

-- `ended` has what a read gave, of which a log of calls has nothing: laws on true reads ask for it.
pub record Turn : Type 0 where
  pub call : Option Call
  pub ended : Ended
  pub changes : List Change

-- how it stands where no call was made: nothing is said of it
abbrev pub no_call : Ended
no_call = record { went = true; stored = 0; got = sector_of 0 }

-- nothing happens
abbrev pub idle : Turn
idle = record { call = None; ended = no_call; changes = [] }

-- changes without a call
abbrev pub quietly : List Change → Turn
quietly changes = record { call = None; ended = no_call; changes = changes }

-- a disk is called only where it is there and has no fault
abbrev pub may_call : Setting → Round → ℕ → Bool
may_call S r d = nat_lt d S.start.disks.count && not (has d r.faults)

abbrev pub call_if : Bool → Turn → Turn
call_if true t = t
call_if false t = idle

-- a call on a disk, that ended so, and the changes that follow
abbrev pub calling : ℕ → What → Ended → List Change → Turn
calling d what x changes = record {
  call = Some (record { disk = d; what = what; went = x.went });
  ended = x;
  changes = changes;
}
