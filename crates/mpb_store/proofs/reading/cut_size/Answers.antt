use Rattle.std.proofs.Common.{sym, ◌∙◌, arith}
use Rattle.mpb_store.proofs.Placing.{cut_found, not_cut, other_fault, no_fault}
use Rattle.mpb_store.proofs.reading.cut_size.Goals as goal

pub overflow_cast-result : goal.overflow_cast-result
overflow_cast-result c =
    let cut = cut_found c.args.bytes.now c.check.result c.in-Err.fault c.in-Some.size c.check.ensures.fault c.in-Err.is (sym c.cut_size_of.ensures ∙ c.in-Some.is) in
    let most = cut.0.sized.sized.most in
    omega arith

pub returns-in-Ok : goal.returns-in-Ok
returns-in-Ok c = not_cut c.args.bytes.now c.check.result c.check.ensures.fault (no_fault c.check.result _ c.in-Ok.is)

pub returns-in-Some : goal.returns-in-Some
returns-in-Some c =
    cut_found c.args.bytes.now c.check.result c.in-Err.fault c.in-Some.size c.check.ensures.fault c.in-Err.is (sym c.cut_size_of.ensures ∙ c.in-Some.is)

pub returns-in-None : goal.returns-in-None
returns-in-None c =
    not_cut c.args.bytes.now c.check.result c.check.ensures.fault (other_fault c.check.result c.in-Err.fault c.in-Err.is (sym c.cut_size_of.ensures ∙ c.in-None.is))
