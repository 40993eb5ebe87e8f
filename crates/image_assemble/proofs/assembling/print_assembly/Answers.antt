use Rattle.std.proofs.Common.{◌≡◌, List, ◌∙◌, subst}
use Rattle.units.specs.declared.disk.Serial.{Serial}
use Rattle.image_outside.specs.Endings.{EndsIfMemory, Prints}
use Rattle.image_outside.specs.Told.{bank_told}
use Rattle.image_outside.specs.Views.{sink_told}
use Rattle.image_outside.proofs.Ended.{ends_map}
use Rattle.image_assemble.specs.Endings.{Assembles}
use Rattle.image_assemble.proofs.Fresh.{seen_fresh}
use Rattle.verdict_text.specs.Lines.{verdict_lines}
use Rattle.verdict_text.specs.Status.{verdict_status}
use Rattle.image_assemble.proofs.assembling.print_assembly.Goals as goal

pub returns-clause-ends : goal.returns-clause-ends
returns-clause-ends g c =
    let B = g.B.Bank in
    let old = c.args.bank.now in
    let new = c.assemble.new.bank in
    let bank = bank_told B new in
    let verdict = c.in-Ok.verdict in
    let before = sink_told g.K.Sink c.args.sink.now in
    let after = sink_told g.K.Sink c.print_verdict.new.sink in
    let status = c.print_verdict.result.0 in
    let named : c.as_slice.result.now ≡ bank.serials = c.as_slice.ensures.value ∙ c.serials_of-serials.ensures in
    ends_map before after (Prints (verdict_lines bank.serials bank.serials verdict) (verdict_status verdict)) (Assembles c.args.run bank) status
    (λ lines status printed. record {
      before = B.log old;
      fresh = c.requires.fresh;
      seen = c.in-Ok.ensures.verdict.0;
      sees = seen_fresh (B.serials old) bank.serials (B.sizes old) bank.sizes bank.opening (B.log old) bank.log (B.faults_of old) bank.faults c.in-Ok.ensures.verdict.0
          c.in-Ok.ensures.serials c.in-Ok.ensures.sizes c.requires.sound c.in-Ok.ensures.verdict.1;
      verdict = verdict;
      says = c.in-Ok.ensures.verdict.2;
      lines_are = printed.lines_are;
      status_is = printed.status_is;
    })
    (subst (λ (l : List Serial). EndsIfMemory before after (Prints (verdict_lines l l verdict) (verdict_status verdict)) status) named c.print_verdict.ensures)
