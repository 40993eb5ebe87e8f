use Rattle.std.proofs.Common.{ℕ, ◌∙◌, ap}
use Rattle.std.specs.List.{flat_map}
use Rattle.std.proofs.lemmas.Result.{on_ok_weaker}
use Rattle.imsm_base.specs.Layout.{volume_bytes}
use Rattle.new_container.specs.Created.{second_volume}
use Rattle.new_container.specs.Fits.{rows_over}
use Rattle.new_container.proofs.Pushed.{volume_first}
use Rattle.new_container.proofs.parts.push_volumes.Goals as goal

pub returns : goal.returns
returns c =
    on_ok_weaker c.push_second.result
    (volume_first _ _ _ _ _ _
    (ap (λ (n : ℕ). flat_map volume_bytes (second_volume n c.args.made.now.second c.args.disks))
    (c.rows-pba.ensures.rows ∙ ap (λ (n : ℕ). rows_over c.args.made.now.first n) c.from.ensures))
    c.in_ok-push_volume.ensures)
    c.push_second.ensures
