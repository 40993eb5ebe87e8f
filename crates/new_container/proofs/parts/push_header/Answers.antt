use Rattle.std.proofs.lemmas.Result.{on_ok_weaker}
use Rattle.new_container.proofs.Pushed.{six}
use Rattle.new_container.proofs.parts.push_header.Goals as goal

pub returns : goal.returns
returns c =
    on_ok_weaker c.push-5.result
    (six _ _ _ _ _ _ _ _ _ _ _ _ _ c.in_ok-push.ensures c.in_ok-push_u32.ensures c.in_ok-push-2.ensures c.in_ok-push-3.ensures c.in_ok-push-4.ensures)
    c.push-5.ensures
