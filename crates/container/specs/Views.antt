-- The verdict on a volume in the words of its view, some slots of which count out. Source: `Volumes` beside this.
use Rattle.std.specs.Prelude.{ℕ, ◌||◌, Bool, Some}
use Rattle.imsm_view.specs.declared.volume.Volume.{Volume as View}
use Rattle.imsm_view.specs.declared.volume.SlotView.{SlotView}
use Rattle.imsm_view.specs.Questions as view
use Rattle.container.specs.declared.volume.VolumeVerdict.{VolumeVerdict}
use Rattle.container.specs.Volumes.{pass_from, verdict_by}

abbrev pub count_out : (ℕ → Bool) → SlotView → SlotView
count_out out s = record { index = s.index; out = s.out || out s.index; expected = s.expected }

abbrev pub view_verdict : View → VolumeVerdict
view_verdict v =
    verdict_by (view.can_run v) (view.is_unfinished v) (view.is_degraded v) (Some v.geometry.level)
    (pass_from (view.wants_pass v) (view.pass_start v))
