use Rattle.std.proofs.lemmas.Result.{on_ok_weaker}
use Rattle.new_container.proofs.Pushed.{second_alone}
use Rattle.new_container.proofs.parts.push_second.Goals as goal

pub returns-in-Some : goal.returns-in-Some
returns-in-Some c = on_ok_weaker c.push_volume.result (second_alone _ _ _ _ _ _ c.in-Some.is) c.push_volume.ensures
