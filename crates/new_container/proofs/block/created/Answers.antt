use Rattle.std.proofs.Common.{◌∙◌}
use Rattle.new_container.proofs.Whole.{created_is, created_whole-bytes, unnumbered_long}
use Rattle.new_container.proofs.block.created.Goals as goal

pub number-requires : goal.number-requires
number-requires c =
    unnumbered_long c.deref_mut.result.now c.args.made.now c.args.disks.now c.in_ok-bytes.ensures.disks (c.deref_mut.ensures.value ∙ c.in_ok-bytes.ensures.bytes)

pub returns-clause-bytes : goal.returns-clause-bytes
returns-clause-bytes c =
    created_is c.in_ok-bytes.bytes c.deref_mut.result.now c.number.new.bytes c.args.made.now c.args.disks.now
    c.in_ok-bytes.ensures.disks c.in_ok-bytes.ensures.bytes c.deref_mut.ensures.value c.number.ensures

pub returns-clause-whole : goal.returns-clause-whole
returns-clause-whole c =
    created_whole-bytes _ c.args.made.now c.args.disks.now c.requires c.in_ok-bytes.ensures.disks
    (created_is c.in_ok-bytes.bytes c.deref_mut.result.now c.number.new.bytes c.args.made.now c.args.disks.now
    c.in_ok-bytes.ensures.disks c.in_ok-bytes.ensures.bytes c.deref_mut.ensures.value c.number.ensures)
