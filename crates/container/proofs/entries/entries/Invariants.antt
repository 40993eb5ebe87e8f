use Rattle.std.proofs.Common.{take}
use Rattle.container.specs.Seen.{AreOf, containers_of}
use Rattle.container.proofs.entries.entries.Given as goal

abbrev pub invariant-loop-disk : goal.invariant-loop-disk
invariant-loop-disk l = AreOf l.list.items (containers_of (take l.disk-index l.seen))
