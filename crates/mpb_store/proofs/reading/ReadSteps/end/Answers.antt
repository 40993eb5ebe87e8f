use Rattle.std.proofs.Common.{◌≡◌, List, ℕ, sym, ◌∙◌, ap, subst}
use Rattle.imsm_codec.specs.Given.{given_block}
use Rattle.imsm_codec.specs.Faults.{HasFault}
use Rattle.mpb_store.specs.Reading.{Reading, places_left}
use Rattle.mpb_store.specs.Answers.{IsFound, IsPastFront}
use Rattle.mpb_store.proofs.Judged.{answer_of, fault_found, fault_behind}
use Rattle.mpb_store.proofs.reading.ReadSteps.end.Goals as goal

pub returns-in-Err-clause-answer : goal.returns-in-Err-clause-answer
returns-in-Err-clause-answer c =
    let r : Reading = record { sectors = c.self.inside.sectors; bytes = c.self.inside.bytes.items; failed = c.self.inside.failed } in
    let is : r ≡ c.args.self.now = c.self.view_is in
    let fault = c.in-Err.fault in
    let has : HasFault r.bytes fault = subst (λ (x : List ℕ). HasFault x fault) c.as_slice.ensures.value ((c.check.ensures.fault fault).0 c.in-Err.is) in
    answer_of c.args.own.0 r c.args.self.now c.found_by.result is c.if-self.false
    (subst (IsFound c.args.own.0 r.sectors r.bytes) (sym c.found_by.ensures)
    (fault_found c.args.own.0 r fault c.if-self.false c.self.invariant (ap places_left is ∙ c.requires.over) has))

pub returns-in-Err-clause-behind : goal.returns-in-Err-clause-behind
returns-in-Err-clause-behind c =
    let r : Reading = record { sectors = c.self.inside.sectors; bytes = c.self.inside.bytes.items; failed = c.self.inside.failed } in
    let is : r ≡ c.args.self.now = c.self.view_is in
    let fault = c.in-Err.fault in
    let has : HasFault r.bytes fault = subst (λ (x : List ℕ). HasFault x fault) c.as_slice.ensures.value ((c.check.ensures.fault fault).0 c.in-Err.is) in
    subst IsPastFront (sym c.found_by.ensures) (fault_behind r fault c.if-self.false c.self.invariant (ap places_left is ∙ c.requires.over) has)

pub returns-in-Ok-clause-answer : goal.returns-in-Ok-clause-answer
returns-in-Ok-clause-answer c =
    let r : Reading = record { sectors = c.self.inside.sectors; bytes = c.self.inside.bytes.items; failed = c.self.inside.failed } in
    let is : r ≡ c.args.self.now = c.self.view_is in
    let block = sym (c.in-Ok.ensures.bytes ∙ ap given_block c.as_slice.ensures.value) in
    answer_of c.args.own.0 r c.args.self.now c.judge.result is c.if-self.false (c.judge.ensures.found r.bytes block)
