use Rattle.std.proofs.Common.{◌∙◌}
use Rattle.std.proofs.lemmas.Result.{on_ok_weaker}
use Rattle.new_container.proofs.Pushed.{four, same_six}
use Rattle.new_container.proofs.parts.push_map.Goals as goal

pub returns : goal.returns
returns c =
    on_ok_weaker c.push-2.result
    (four _ _ _ _ _ _ _ _ _ c.in_ok-push_low_halves.ensures
    (c.in_ok-push.ensures ∙ same_six _ _ _ _ _ _ c.level_byte-level.ensures c.domain_count-domains.ensures)
    c.in_ok-push_high_halves.ensures)
    c.push-2.ensures
