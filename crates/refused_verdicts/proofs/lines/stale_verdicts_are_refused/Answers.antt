use Rattle.std.proofs.Common.{◌≡◌, ℕ, Bool, List, [], refl, sym, ◌∙◌, ap, subst, arith}
use Rattle.std.specs.Prelude.{slice_index_or}
use Rattle.std.specs.Fmt.{decimal}
use Rattle.imsm_base.specs.Layout.{generation_of}
use Rattle.imsm_base.specs.Parts.{block_in}
use Rattle.generation_pick.specs.declared.fault.PickFault.{PickFault}
use Rattle.generation_pick.specs.declared.found.Pick.{Pick}
use Rattle.container.specs.declared.missing.Missing.{Missing}
use Rattle.container.specs.declared.seen.Seen.{Seen}
use Rattle.container.specs.declared.verdict.Verdict.{Verdict}
use Rattle.container.specs.declared.verdict.Verdict.TheVariants.{Refused, Large, GenerationEnd, Waiting, Ready}
use Rattle.container.specs.Verdicts.{IsVerdictBy}
use Rattle.refused_verdicts.proofs.Assembled.{by_block}
use Rattle.refused_verdicts.proofs.Said.{IsBy, line_of_verdict, says_family}
use Rattle.refused_verdicts.proofs.lines.stale_verdicts_are_refused.Goals as goal

not_by_none : (v : Verdict) (family generation : ℕ) (fault : PickFault) → IsBy v family generation → v ≡ Refused fault → ⊥
not_by_none v family generation fault by is = subst (λ (w : Verdict). IsBy w family generation) is by

picked : (bytes : List ℕ) (p : Pick) (seen : List Seen) (run : Bool) (missing : List Missing) (v : Verdict) (family generation : ℕ) → IsVerdictBy bytes p seen run missing v → IsBy v family generation → generation ≡ p.generation
picked bytes p seen run missing (Refused fault) family generation is by = absurd by
picked bytes p seen run missing (Large f g size) family generation is by = sym by.1 ∙ is.1
picked bytes p seen run missing (GenerationEnd f g) family generation is by = sym by.1 ∙ is.1
picked bytes p seen run missing (Waiting f g list) family generation is by = sym by.1 ∙ is.1
picked bytes p seen run missing (Ready o) family generation is by = sym by.1 ∙ is.2.generation

pub returns : goal.returns
returns c opening log bank bytes lines run status family generation tells newest differs has does =
    let (f, g, says_by, says) = says_family bank.serials bank.serials _ does.verdict refl (line_of_verdict bank.serials bank.serials does.verdict lines _ 102 does.lines_are refl (omega arith) has) in
    let by = by_block opening log bank tells bytes newest run lines status does (λ fault is. not_by_none does.verdict f g fault says_by is) in
    let newest_is : g ≡ generation_of (block_in bytes) = picked bytes by.pick does.seen run by.missing does.verdict f g by.says says_by ∙ by.generation in
    let printed : decimal g ≡ decimal generation = ap (λ (ws : List (List ℕ)). slice_index_or ws 3 []) says in
    differs (sym printed ∙ ap decimal newest_is)
