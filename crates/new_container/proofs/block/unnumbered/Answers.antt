use Rattle.new_container.proofs.Pushed.{unnumbered_is}
use Rattle.new_container.proofs.block.unnumbered.Goals as goal

pub returns-clause-bytes : goal.returns-clause-bytes
returns-clause-bytes c =
    unnumbered_is _ _ _ _ c.args.made.now c.args.disks.now c.created_size.result c.volume_count-volumes.result
    c.new-bytes.ensures.items c.volume_count-volumes.ensures.count c.created_size.ensures
    c.in_ok-push_header.ensures c.in_ok-push_disks.ensures.bytes c.in_ok-push_volumes.ensures
