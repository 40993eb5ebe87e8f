use Rattle.std.proofs.Common.{◌<◌, arith}
use Rattle.container.proofs.Lists.{if_ok_map}
use Rattle.container.specs.Verdicts.{IsVerdict}
use Rattle.incremental.proofs.More.{kept_by, sound_one, with_kept}
use Rattle.incremental.proofs.adding.see_with.Goals as goal

pub judge_with-requires-clause-sound : goal.judge_with-requires-clause-sound
judge_with-requires-clause-sound g c = sound_one c.in_ok-disk.ensures.seen.0

pub returns-clause-added : goal.returns-clause-added
returns-clause-added g c = if_ok_map c.judge_with.result (λ verdict is. (c.in_ok-disk.disk, c.in_ok-disk.ensures.seen, is.0, is.1)) c.judge_with.ensures.added

pub returns-clause-kept : goal.returns-clause-kept
returns-clause-kept g c =
    let seen = c.in_ok-disk.ensures.seen.0 in
    let below : c.in_ok-disk.disk.disk.0 < 16 = omega (arith, seen.disk, c.requires.disk, c.disks-disks.ensures.count, c.disks-disks.ensures.few) in
    kept_by (λ verdict. IsVerdict c.judge_with.new.seen.items c.args.run verdict) c.judge_with.result c.in_ok-disk.disk c.args.seen.now.items c.judge_with.new.seen.items c.judge_with.ensures.added c.judge_with.ensures.as_before
    c.requires.kept (with_kept c.in_ok-disk.disk c.args.seen.now.items c.requires.kept below (sound_one seen))
