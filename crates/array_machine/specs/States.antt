-- The array states of a volume. Source: the values of array_state in the kernel's md.rst; Idle is active_idle.
use Rattle.std.specs.Prelude.{Bool, true, false}

pub data State : Type 0 where
  IsReadonly : State
  IsReadAuto : State
  IsClean : State
  IsPending : State
  IsActive : State
  IsIdle : State

abbrev pub is_readonly : State → Bool
is_readonly IsReadonly = true
is_readonly _ = false

abbrev pub is_pending : State → Bool
is_pending IsPending = true
is_pending _ = false

abbrev pub is_active : State → Bool
is_active IsActive = true
is_active _ = false

abbrev pub is_idle : State → Bool
is_idle IsIdle = true
is_idle _ = false

-- no write was let through since: a book that says dirty is to say clean
abbrev pub is_resting : State → Bool
is_resting IsReadAuto = true
is_resting IsClean = true
is_resting _ = false

-- writes go on, or just ceased
abbrev pub is_live : State → Bool
is_live IsActive = true
is_live IsIdle = true
is_live _ = false

-- WHAT IS WRITTEN TO A STATE

-- The monitor makes a volume ready, lets the writes go on that wait, and calls it clean. A write that comes asks for
-- the volume, or finds it idle and takes it again. A volume falls idle on its own.
pub data StateWord : Type 0 where
  ToReady : StateWord
  ToPending : StateWord
  ToActive : StateWord
  ToActiveAgain : StateWord
  ToIdle : StateWord
  ToClean : StateWord

abbrev pub state_after : StateWord → State
state_after ToReady = IsReadAuto
state_after ToPending = IsPending
state_after ToActive = IsActive
state_after ToActiveAgain = IsActive
state_after ToIdle = IsIdle
state_after ToClean = IsClean
