use Rattle.std.proofs.Common.{◌≡◌, ℕ, Bool, true, false, cond, inl, inr, refl, arith}
use Rattle.std.proofs.lemmas.Bool.{false≢true}
use Rattle.std.proofs.lemmas.Option.{slice_get_within}
use Rattle.container.specs.declared.verdict.Verdict.{Verdict}
use Rattle.container.specs.declared.verdict.Verdict.TheVariants.{Refused, Large, GenerationEnd, Waiting, Ready}
use Rattle.container.specs.Volumes.{is_any_started}
use Rattle.incremental.specs.Arrivals.{is_ready}
use Rattle.verdict_text.specs.Status.{verdict_status}
use Rattle.verdict_lines_law.specs.Words.{words_in}
use Rattle.refused_verdicts.specs.Arrivals.{late_says}
use Rattle.refused_verdicts.proofs.LineKinds.{Unopened, all_later, late_at}
use Rattle.refused_verdicts.proofs.Later.{later_at}
use Rattle.refused_verdicts.proofs.arrivals.hasty_openings_are_refused.Goals as goal

-- an opening doesn't end as one that waits
ready_status : (v : Verdict) → is_ready v ≡ true → 2 ≡ verdict_status v → ⊥
ready_status (Refused fault) ready two = false≢true ready
ready_status (Large f g size) ready two = false≢true ready
ready_status (GenerationEnd f g) ready two = false≢true ready
ready_status (Waiting f g list) ready two = false≢true ready
ready_status (Ready o) ready two = at (is_any_started o.volumes.items) two where
  at : (b : Bool) → ◌≡◌ {A = ℕ} 2 (cond b 0 3) → ⊥
  at true two = cc two
  at false two = cc two

pub returns-clause-waiting : goal.returns-clause-waiting
returns-clause-waiting c run bank lines s has does =
    let late = late_at bank.serials does.verdicts lines (late_says s) does.lines_are refl has in
    elim does.over [
      | inl ready ↦ ready_status does.last ready does.status_is
      | inr all ↦
          let within = slice_get_within bank.serials late.0 late.2 late.3 in
          let count = does.are.count in
          let low = late.1 in
          omega (arith, all, within, count, low)
    ]

pub returns-clause-behind : goal.returns-clause-behind
returns-clause-behind c run bank lines status i j role name below at there does =
    later_at Unopened (words_in lines) i j _ _ (all_later bank.serials does.verdicts lines does.lines_are does.are.waits) below at there refl refl
