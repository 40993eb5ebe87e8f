use Rattle.std.proofs.lemmas.Result.{on_ok_weaker}
use Rattle.new_container.proofs.Pushed.{six}
use Rattle.new_container.proofs.parts.push_disk.Goals as goal

pub returns-clause-bytes : goal.returns-clause-bytes
returns-clause-bytes c =
    on_ok_weaker c.push-4.result
    (six _ _ _ _ _ _ _ _ _ _ _ _ _ c.in_ok-push.ensures c.in_ok-push_low_half.ensures c.in_ok-push-2.ensures c.in_ok-push-3.ensures c.in_ok-push_high_half.ensures)
    c.push-4.ensures
