-- The words of array states. Source: array_state in the kernel's md.rst.
use Rattle.std.specs.Prelude.{ℕ, List, [], ◌∷◌, Option, Some, None, if◌then◌else◌, codes}
use Rattle.std.specs.Str.{bytes_eq}
use Rattle.array_state.specs.declared.state.ArrayState.{ArrayState}
use Rattle.array_state.specs.declared.state.ArrayState.TheVariants.{Clear, Inactive, Suspended, Readonly, ReadAuto, Clean, Active, WritePending, ActiveIdle}

abbrev pub spelled : ArrayState → List ℕ
spelled Clear = codes "clear"
spelled Inactive = codes "inactive"
spelled Suspended = codes "suspended"
spelled Readonly = codes "readonly"
spelled ReadAuto = codes "read-auto"
spelled Clean = codes "clean"
spelled Active = codes "active"
spelled WritePending = codes "write-pending"
spelled ActiveIdle = codes "active-idle"

abbrev pub all_states : List ArrayState
all_states =
    Clear ∷ Inactive ∷ Suspended ∷ Readonly ∷ ReadAuto ∷ Clean ∷ Active ∷ WritePending ∷ ActiveIdle ∷ []

-- the first of these states that has the word
abbrev pub first_spelled : List ArrayState → List ℕ → Option ArrayState
first_spelled [] word = None
first_spelled (s ∷ ss) word = if bytes_eq word (spelled s) then Some s else first_spelled ss word
