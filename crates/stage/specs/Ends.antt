-- How a turn that was made is answered. Source: this project's own.
use Rattle.std.specs.Prelude.{Option, Some, None}
use Rattle.units.specs.declared.disk.DiskNo.{DiskNo}
use Rattle.stage.specs.declared.turned.Turned.{Turned}
use Rattle.stage.specs.declared.turned.Turned.TheVariants.{Moved, Member}

-- by the disk whose call failed, if one did
abbrev pub answer_of : Option DiskNo → Turned
answer_of None = Moved
answer_of (Some d) = Member d
