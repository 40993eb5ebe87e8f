-- Which array state follows which. Source: array_state in the kernel's md.rst, and md_write_start and array_state_store
-- of md.c for what a write and a written word bring about.
use Rattle.std.specs.Prelude.{ℕ, ◌==◌, ◌&&◌, Bool, List, [], ◌∷◌, Option, Some, None, if◌then◌else◌}
use Rattle.array_state.specs.declared.state.ArrayState.{ArrayState}
use Rattle.array_state.specs.declared.state.ArrayState.TheVariants.{Clear, Inactive, Suspended, Readonly, ReadAuto, Clean, Active, WritePending, ActiveIdle}
use Rattle.array_state.specs.declared.state.Cause.{Cause}
use Rattle.array_state.specs.declared.state.Cause.TheVariants.{ReadAutoWritten, WriteAsked, ActiveWritten, Quiet, CleanWritten}

-- an entry: in this state, by this cause, comes that state
pub record Row : Type 0 where
  pub state : ArrayState
  pub cause : Cause
  pub next : ArrayState

abbrev pub row : ArrayState → Cause → ArrayState → Row
row s c n = record { state = s; cause = c; next = n }

-- all entries
abbrev pub table : List Row
table =
    row Readonly ReadAutoWritten ReadAuto
    ∷ row ReadAuto WriteAsked WritePending ∷ row ReadAuto CleanWritten Clean
    ∷ row Clean WriteAsked WritePending ∷ row Clean CleanWritten Clean
    ∷ row WritePending WriteAsked WritePending ∷ row WritePending ActiveWritten Active
    ∷ row Active WriteAsked Active ∷ row Active ActiveWritten Active ∷ row Active Quiet ActiveIdle
    ∷ row Active CleanWritten Clean
    ∷ row ActiveIdle WriteAsked Active ∷ row ActiveIdle ActiveWritten Active ∷ row ActiveIdle Quiet ActiveIdle
    ∷ row ActiveIdle CleanWritten Clean
    ∷ []

-- states and causes by their numbers, in the order of their names above
abbrev pub number_of : ArrayState → ℕ
number_of Clear = 0
number_of Inactive = 1
number_of Suspended = 2
number_of Readonly = 3
number_of ReadAuto = 4
number_of Clean = 5
number_of Active = 6
number_of WritePending = 7
number_of ActiveIdle = 8

abbrev pub cause_number : Cause → ℕ
cause_number ReadAutoWritten = 0
cause_number WriteAsked = 1
cause_number ActiveWritten = 2
cause_number Quiet = 3
cause_number CleanWritten = 4

-- what the first entry of a state and a cause says
abbrev pub entry_in : List Row → ArrayState → Cause → Option ArrayState
entry_in [] s c = None
entry_in (r ∷ rs) s c =
    if (number_of r.state == number_of s) && (cause_number r.cause == cause_number c) then Some r.next
    else entry_in rs s c
