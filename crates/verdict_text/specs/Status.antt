-- The status with which a verdict is printed. Source: this project's own.
use Rattle.std.specs.Prelude.{ℕ, if◌then◌else◌}
use Rattle.container.specs.declared.verdict.Verdict.{Verdict}
use Rattle.container.specs.declared.verdict.Verdict.TheVariants.{Refused, Large, GenerationEnd, Waiting, Ready}
use Rattle.container.specs.Volumes.{is_any_started}
use Rattle.image_outside.specs.declared.status.TheConstants.Status.{DONE, REFUSED, WAITING}

-- a container of which no volume starts is refused too
abbrev pub verdict_status : Verdict → ℕ
verdict_status (Refused fault) = REFUSED.0
verdict_status (Large family generation size) = REFUSED.0
verdict_status (GenerationEnd family generation) = REFUSED.0
verdict_status (Waiting family generation list) = WAITING.0
verdict_status (Ready opening) = if is_any_started opening.volumes.items then DONE.0 else REFUSED.0
