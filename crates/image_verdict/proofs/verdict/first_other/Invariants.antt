use Rattle.std.proofs.Common.{take}
use Rattle.std.specs.List.{AllByRecursion}
use Rattle.image_verdict.specs.Reports.{Holds}
use Rattle.image_verdict.proofs.verdict.first_other.Given as goal

abbrev pub invariant-loop-image : goal.invariant-loop-image
invariant-loop-image l = AllByRecursion (Holds l.block) (take l.image-index l.images)
