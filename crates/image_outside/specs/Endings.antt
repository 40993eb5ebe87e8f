-- How a command ends: its lines, what is written of them, and its status. Source: this project's own.
use Rattle.std.specs.Prelude.{◌≡◌, ℕ, ◌⊎◌, List, codes}
use Rattle.image_outside.specs.Outside.{Adds, BreaksOff}
use Rattle.image_outside.specs.Told.{SinkTold}
use Rattle.image_outside.specs.declared.status.TheConstants.Status.{MEMORY, WRITE_FAULT}

-- It ended so, with these lines and this status, and all of the lines were written.
pub record IsWritten (old new : SinkTold) (Outcome : List ℕ → ℕ → Type 0) (status : ℕ) : Type 0 where
  pub lines : List ℕ
  pub ends : Outcome lines status
  pub adds : Adds old.written new.written lines

-- It would have ended so, with these lines and this status, but a write failed, and a front of the lines was written.
pub record IsCutShort (old new : SinkTold) (Outcome : List ℕ → ℕ → Type 0) : Type 0 where
  pub lines : List ℕ
  pub status : ℕ
  pub ends : Outcome lines status
  pub breaks : BreaksOff old.written new.written old.faults new.faults lines

-- it ends so, or with a write fault where the lines were cut short
abbrev pub Ends : (old new : SinkTold) (Outcome : List ℕ → ℕ → Type 0) (status : ℕ) → Type 0
Ends old new Outcome status = IsWritten old new Outcome status ⊎ ((status ≡ WRITE_FAULT.0) × IsCutShort old new Outcome)

-- with these lines and this status
pub record Prints (lines : List ℕ) (status : ℕ) (told : List ℕ) (result : ℕ) : Type 0 where
  pub lines_are : told ≡ lines
  pub status_is : result ≡ status

abbrev pub memory_line : List ℕ
memory_line = codes "memory\n"

-- nothing but this line was written, or a front of it where the sink failed
abbrev pub EndsWithoutMemory : (old new : SinkTold) → Type 0
EndsWithoutMemory old new =
    Adds old.written new.written memory_line ⊎ BreaksOff old.written new.written old.faults new.faults memory_line

-- it ends so, with a write fault where the lines were cut short, or without memory
abbrev pub EndsIfMemory : (old new : SinkTold) (Outcome : List ℕ → ℕ → Type 0) (status : ℕ) → Type 0
EndsIfMemory old new Outcome status = Ends old new Outcome status ⊎ ((status ≡ MEMORY.0) × EndsWithoutMemory old new)
