use Rattle.std.proofs.Common.{◌≡◌, ℕ, false, List, [], inl, inr, subst}
use Rattle.imsm_base.specs.Parts.{block_in}
use Rattle.generation_pick.specs.declared.fault.PickFault.{PickFault}
use Rattle.generation_pick.specs.declared.found.Pick.{Pick}
use Rattle.container.specs.declared.missing.Missing.{Missing}
use Rattle.container.specs.declared.seen.Seen.{Seen}
use Rattle.container.specs.declared.verdict.Verdict.{Verdict}
use Rattle.container.specs.declared.verdict.Verdict.TheVariants.{Refused, Large, GenerationEnd, Waiting, Ready}
use Rattle.container.specs.Lacking.{AreMissing}
use Rattle.container.specs.Verdicts.{IsReady, IsVerdict, IsVerdictBy}
use Rattle.verdict_text.specs.Status.{verdict_status}
use Rattle.refused_verdicts.proofs.Assembled.{assembled, by_newest, not_none}
use Rattle.refused_verdicts.proofs.openings.heedless_openings_are_refused.Goals as goal

-- a verdict of status 0 opens, and without a start that does without disks none lacks
none_lack : (bytes : List ℕ) (p : Pick) (seen : List Seen) (missing : List Missing) (v : Verdict) → 0 ≡ verdict_status v → IsVerdictBy bytes p seen false missing v → missing ≡ []
none_lack bytes p seen missing (Refused fault) zero is = absurd is
none_lack bytes p seen missing (Large f g s) zero is = absurd (cc zero)
none_lack bytes p seen missing (GenerationEnd f g) zero is = absurd (cc zero)
none_lack bytes p seen missing (Waiting f g list) zero is = absurd (cc zero)
none_lack bytes p seen missing (Ready o) zero is = at is.1 where
  at : IsReady false missing o.volumes.items → missing ≡ []
  at (inl none) = none
  at (inr asked) = absurd (let yes_asked = asked.0 in cc yes_asked)

not_refused : (v : Verdict) (fault : PickFault) → 0 ≡ verdict_status v → v ≡ Refused fault → ⊥
not_refused v fault zero is = let three : 0 ≡ verdict_status (Refused fault) = subst (λ (w : Verdict). 0 ≡ verdict_status w) is zero in cc three

pub returns : goal.returns
returns c opening log bank bytes lines entry tells newest expects useless does = at does.says where
  at : IsVerdict does.seen false does.verdict → ⊥
  at (inl (fault, refused, is)) = not_refused does.verdict fault does.status_is is
  at (inr by) =
      let none = none_lack by.bytes by.pick does.seen by.missing does.verdict does.status_is by.says in
      let same = by_newest opening log bank tells false lines 0 does bytes newest by in
      not_none opening log bank tells does.seen (assembled opening log bank tells false lines 0 does) bytes entry expects useless
      (subst (λ (b : List ℕ). AreMissing does.seen (block_in b).disks []) same (subst (AreMissing does.seen (block_in by.bytes).disks) none by.lack))
