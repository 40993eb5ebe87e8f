use Rattle.std.proofs.Common.{◌≡◌, ◌≤◌, ℕ, length, sym, subst, arith}
use Rattle.std.proofs.lemmas.Option.{IfSome_then}
use Rattle.imsm_base.specs.Layout.{Block}
use Rattle.imsm_codec.specs.Mpb.{volume_at}
use Rattle.imsm_codec.proofs.Found.{volumes_counted, disks_counted}
use Rattle.imsm_buffer.specs.Buffer.{parts_of}
use Rattle.imsm_view.specs.declared.volume.Volume.{Volume as View}
use Rattle.imsm_edit.specs.Failures.{record_failed, TellsLost}
use Rattle.imsm_edit.proofs.Lost.{lost_stays, lost_second, both_failed}
use Rattle.imsm_edit.proofs.failures.mark_failed.Goals as goal

-- what a view tells stays when the record says that its disk failed
recorded : (b c : Block) (k i : ℕ) (view : View) → c ≡ record_failed b i → TellsLost b i (volume_at k b) view → TellsLost c i (volume_at k c) view
recorded b c k i view made told = subst (λ (x : Block). TellsLost x i (volume_at k x) view) (sym made) (lost_stays b i (volume_at k b) view told)

pub fail_seen-requires-clause-index : goal.fail_seen-requires-clause-index
fail_seen-requires-clause-index c = let disks = disks_counted c.args.book.now.bytes in omega (arith, c.requires.record, c.requires.facts.working, c.are_few.ensures.disks)

pub fail_seen-requires-clause-told : goal.fail_seen-requires-clause-told
fail_seen-requires-clause-told c =
    IfSome_then c.lost_view-first.result c.lost_view-first.ensures.view
    (λ view told. recorded (parts_of c.args.book.now) (parts_of c.fail_record.new.book) 0 c.args.i view c.fail_record.ensures.block told)

pub fail_seen-requires-2-clause-index : goal.fail_seen-requires-2-clause-index
fail_seen-requires-2-clause-index c = let disks = disks_counted c.args.book.now.bytes in omega (arith, c.requires.record, c.requires.facts.working, c.are_few.ensures.disks)

pub fail_seen-requires-2-clause-told : goal.fail_seen-requires-2-clause-told
fail_seen-requires-2-clause-told c =
    IfSome_then c.lost_view-second.result c.lost_view-second.ensures.view
    (λ view told. lost_second (parts_of c.fail_record.new.book) (parts_of c.fail_seen.new.book) c.args.i _ view
    (recorded (parts_of c.args.book.now) (parts_of c.fail_record.new.book) 1 c.args.i view c.fail_record.ensures.block told) c.fail_seen.ensures.block)

pub returns-clause-block : goal.returns-clause-block
returns-clause-block c =
    let b : Block = parts_of c.args.book.now in
    let volumes = volumes_counted c.args.book.now.bytes in
    let few : length b.volumes ≤ 2 = omega (arith, c.requires.facts.started, c.are_few.ensures.volumes) in
    both_failed b (parts_of c.fail_record.new.book) (parts_of c.fail_seen.new.book) (parts_of c.fail_seen-2.new.book) c.args.i c.args.facts.now _ _ few
    (λ below. c.lost_view-first.ensures.some (omega arith)) (λ below. c.lost_view-second.ensures.some (omega arith))
    c.fail_record.ensures.block c.fail_seen.ensures.block c.fail_seen-2.ensures.block
