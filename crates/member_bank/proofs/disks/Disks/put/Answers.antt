use Rattle.std.proofs.Common.{arith}
use Rattle.member_bank.proofs.Laying.{put_contents}
use Rattle.member_bank.proofs.disks.Disks.put.Goals as goal

pub returns : goal.returns
returns c =
    put_contents c.self.inside.disks.items c.args.d c.args.place c.index_mut-disk.result.now c.lay.new.disk c.args.from.now c.deref_mut.result.now c.args.self.now
    c.self.view_is c.requires.disk c.index_mut-disk.ensures.value c.deref_mut.ensures.value c.lay.ensures (omega arith)
