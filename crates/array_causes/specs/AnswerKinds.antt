-- Which answers an operation may get, by what it asks for. Source: this project's own.
use Rattle.std.specs.Prelude.{⊤, ◌≡◌, ℕ, true, false, Option, Some, None, is_some}
use Rattle.array_model.specs.declared.script.OpKind.{OpKind}
use Rattle.array_model.specs.declared.script.OpKind.TheVariants.{Write, Read, Whole}
use Rattle.array_model.specs.declared.journal.Answer.{Answer}
use Rattle.array_model.specs.declared.journal.Answer.TheVariants.{Done, Value, Past, Failed, NoSpare}
use Rattle.array_model.specs.Placement.{placement_of}
use Rattle.array_model.specs.Start.{Start}

-- the volume has the sector, or it doesn't
abbrev pub IsThere : Start → (v s : ℕ) → Type 0
IsThere start v s = is_some (placement_of (start.words.shape start.newest v) s) ≡ true

abbrev pub IsMissing : Start → (v s : ℕ) → Type 0
IsMissing start v s = is_some (placement_of (start.words.shape start.newest v) s) ≡ false

abbrev pub IsAnswerOfWrite : Start → (v s : ℕ) → Answer → Type 0
IsAnswerOfWrite start v s Done = IsThere start v s
IsAnswerOfWrite start v s (Value x) = ⊥
IsAnswerOfWrite start v s Past = IsMissing start v s
IsAnswerOfWrite start v s Failed = IsThere start v s
IsAnswerOfWrite start v s NoSpare = ⊥

abbrev pub IsAnswerOfRead : Start → (v s : ℕ) → Answer → Type 0
IsAnswerOfRead start v s Done = ⊥
IsAnswerOfRead start v s (Value x) = IsThere start v s
IsAnswerOfRead start v s Past = IsMissing start v s
IsAnswerOfRead start v s Failed = IsThere start v s
IsAnswerOfRead start v s NoSpare = ⊥

abbrev pub IsAnswerOfWhole : Answer → Type 0
IsAnswerOfWhole Done = ⊤
IsAnswerOfWhole (Value x) = ⊥
IsAnswerOfWhole Past = ⊥
IsAnswerOfWhole Failed = ⊤
IsAnswerOfWhole NoSpare = ⊤

-- A write is done and a read has a value; each is past exactly where the volume has no such sector, and fails on one
-- that it has. A volume is whole, finds no spare, or failed.
abbrev pub IsAnswerOf : Start → Answer → Option OpKind → Type 0
IsAnswerOf start answer None = ⊥
IsAnswerOf start answer (Some (Write v s value)) = IsAnswerOfWrite start v.0 s answer
IsAnswerOf start answer (Some (Read v s)) = IsAnswerOfRead start v.0 s answer
IsAnswerOf start answer (Some (Whole v)) = IsAnswerOfWhole answer
