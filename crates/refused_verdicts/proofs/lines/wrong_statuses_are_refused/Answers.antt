use Rattle.std.proofs.Common.{◌≡◌, ℕ, Bool, true, cond, List, Some, refl, ◌∙◌, ap, arith}
use Rattle.std.specs.Prelude.{slice_get}
use Rattle.container.specs.declared.volume.VolumeVerdict.{VolumeVerdict}
use Rattle.container.specs.Volumes.{is_any_started, starts}
use Rattle.verdict_text.specs.Status.{verdict_status}
use Rattle.refused_verdicts.proofs.Places.{at_contains}
use Rattle.refused_verdicts.proofs.Said.{line_of_verdict, says_refused, says_volume, says_waiting}
use Rattle.refused_verdicts.proofs.Starting.{any_in, same_start}
use Rattle.refused_verdicts.proofs.lines.wrong_statuses_are_refused.Goals as goal

started_status : (list : List VolumeVerdict) (k : ℕ) (v : VolumeVerdict) → slice_get list k ≡ Some v → starts v ≡ true → ◌≡◌ {A = ℕ} (cond (is_any_started list) 0 3) 0
started_status list k v there is = ap (λ (b : Bool). cond {A = ℕ} b 0 3) (any_in starts list v (at_contains list k v there) is)

pub returns-clause-waiting : goal.returns-clause-waiting
returns-clause-waiting c run bank lines status words has other does =
    let (f, g, list, is, m, there, says) = says_waiting bank.serials bank.serials _ does.verdict refl (line_of_verdict bank.serials bank.serials does.verdict lines _ 119 does.lines_are refl (omega arith) has) in
    other (does.status_is ∙ ap verdict_status is)

pub returns-clause-refused : goal.returns-clause-refused
returns-clause-refused c run bank lines status words has other does =
    other (does.status_is ∙ says_refused bank.serials bank.serials _ does.verdict refl (line_of_verdict bank.serials bank.serials does.verdict lines _ 114 does.lines_are refl (omega arith) has))

pub returns-clause-started : goal.returns-clause-started
returns-clause-started c run bank lines status k says has starts_so other does =
    let (o, is, volume) = says_volume bank.serials bank.serials _ does.verdict refl (line_of_verdict bank.serials bank.serials does.verdict lines _ 118 does.lines_are refl (omega arith) has) in
    other (does.status_is ∙ ap verdict_status is ∙ started_status o.volumes.items volume.place volume.verdict volume.there (same_start _ k volume.verdict says volume.says starts_so))
