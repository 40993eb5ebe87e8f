use Rattle.std.proofs.Common.{ℕ, ◌∙◌, ap}
use Rattle.std.proofs.lemmas.Result.{on_ok_weaker}
use Rattle.new_container.specs.Fits.{rows_over}
use Rattle.new_container.proofs.Pushed.{volume_pushed}
use Rattle.new_container.proofs.parts.push_volume.Goals as goal

pub returns : goal.returns
returns c =
    on_ok_weaker c.push_entries.result
    (volume_pushed _ _ _ _ _ c.args.number c.args.pba c.rows-rows.result c.args.disks c.args.volume.now
    (c.rows-rows.ensures.rows ∙ ap (λ (n : ℕ). rows_over c.args.volume.now n) c.from.ensures)
    c.in_ok-push_device.ensures c.in_ok-push.ensures c.in_ok-push_map.ensures)
    c.push_entries.ensures
