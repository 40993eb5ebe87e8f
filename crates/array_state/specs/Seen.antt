-- The states and words of the whole machine as the kernel has them. Source: array_state in the kernel's md.rst.
use Rattle.array_machine.specs.States.{State, IsReadonly, IsReadAuto, IsClean, IsPending, IsActive, IsIdle, StateWord, ToReady, ToPending, ToActive, ToActiveAgain, ToIdle, ToClean}
use Rattle.array_state.specs.declared.state.ArrayState.{ArrayState}
use Rattle.array_state.specs.declared.state.ArrayState.TheVariants.{Readonly, ReadAuto, Clean, Active, WritePending, ActiveIdle}
use Rattle.array_state.specs.declared.state.Cause.{Cause}
use Rattle.array_state.specs.declared.state.Cause.TheVariants.{ReadAutoWritten, WriteAsked, ActiveWritten, Quiet, CleanWritten}

abbrev pub kernel_state : State → ArrayState
kernel_state IsReadonly = Readonly
kernel_state IsReadAuto = ReadAuto
kernel_state IsClean = Clean
kernel_state IsPending = WritePending
kernel_state IsActive = Active
kernel_state IsIdle = ActiveIdle

abbrev pub cause_of : StateWord → Cause
cause_of ToReady = ReadAutoWritten
cause_of ToPending = WriteAsked
cause_of ToActive = ActiveWritten
cause_of ToActiveAgain = WriteAsked
cause_of ToIdle = Quiet
cause_of ToClean = CleanWritten
