-- How a replay ends. Source: this project's own.
use Rattle.std.specs.Prelude.{◌≡◌, ◌⊎◌, ℕ, ◌==◌, Bool, List}
use Rattle.std.specs.List.{list_any}
use Rattle.array_model.specs.declared.script.Op.{Op}
use Rattle.array_model.specs.declared.script.OpKind.{OpKind}
use Rattle.array_model.specs.declared.script.OpKind.TheVariants.{Write, Read, Whole}
use Rattle.stage.specs.declared.ends.DriveEnd.{DriveEnd}
use Rattle.stage.specs.declared.ends.DriveEnd.TheVariants.{Over, Full, Member}
use Rattle.image_outside.specs.declared.status.TheConstants.Status.{DONE, JOURNAL_FULL, MEMBER_FAULT, UNBUILT, WAITING}

-- the status of a run: all is done, the journal is full, or a call failed
abbrev pub end_status : DriveEnd → ℕ
end_status Over = DONE.0
end_status Full = JOURNAL_FULL.0
end_status (Member d) = MEMBER_FAULT.0

-- no run was made: the images wait for another, or aren't built yet
abbrev pub IsUnstarted : ℕ → Type 0
IsUnstarted status = (status ≡ WAITING.0) ⊎ (status ≡ UNBUILT.0)

-- the volume that an operation names
abbrev pub volume_named : OpKind → ℕ
volume_named (Write v s value) = v.0
volume_named (Read v s) = v.0
volume_named (Whole v) = v.0

-- an operation names the second volume, which no container of the first form has
abbrev pub asks_second : List Op → Bool
asks_second ops = list_any (λ (op : Op). volume_named op.kind == 1) ops
