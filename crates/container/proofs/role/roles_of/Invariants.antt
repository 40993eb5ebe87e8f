use Rattle.std.proofs.Common.{take}
use Rattle.imsm_codec.specs.Mpb.{block_of}
use Rattle.container.specs.Roles.{AreRoles}
use Rattle.container.proofs.role.roles_of.Given as goal

abbrev pub invariant-loop-disk : goal.invariant-loop-disk
invariant-loop-disk l = AreRoles (block_of l.mpb) (take l.disk-index l.seen) l.list.items
