use Rattle.std.proofs.Common.{List, ℕ, inl, inr, refl, subst, sym}
use Rattle.std.specs.Fmt.{digits}
use Rattle.image_outside.specs.Endings.{Prints}
use Rattle.image_outside.specs.Views.{sink_told}
use Rattle.image_outside.proofs.Ended.{ends_as}
use Rattle.image_run.specs.declared.script.ScriptStop.{ScriptStop}
use Rattle.image_run.specs.declared.script.ScriptStop.TheVariants.{Bytes}
use Rattle.image_run.specs.Scripts.{IsStopped, stop_line, stop_status}
use Rattle.image_run.proofs.script.end_stopped.Goals as goal

pub returns-in-Bytes : goal.returns-in-Bytes
unfolding digits
returns-in-Bytes g c =
    let stopped : ScriptStop → List ℕ → ℕ → Type 0 = λ stop lines status. IsStopped status × Prints (stop_line stop) (stop_status stop) lines status in
    inl (ends_as (sink_told g.K.Sink c.args.sink.now) (sink_told g.K.Sink c.end-in-Bytes.new.sink) (stop_line Bytes) 10 (stopped c.args.stop) c.end-in-Bytes.result.0
    (subst (λ (stop : ScriptStop). stopped stop (stop_line Bytes) 10) (sym c.in-Bytes.is) (inr (inr refl), record { lines_are = refl; status_is = refl }))
    c.end-in-Bytes.ensures)
