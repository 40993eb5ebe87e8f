use Rattle.imsm_text.proofs.Trimmed.{take-without_zeros, last_of, none_last}
use Rattle.imsm_text.proofs.bytes.name_bytes.Goals as goal
use Rattle.imsm_text.proofs.bytes.name_bytes.Goals.{then-loop-end-test+else-bytes-end-eq0, else-loop-end-test}

pub returns : goal.returns
returns c =
    take-without_zeros c.args.bytes.now c.loop-end.end c.loop-end.invariant.within c.loop-end.invariant.zeros
    (elim c.loop-end-test.branch [
      | then-loop-end-test+else-bytes-end-eq0 w ↦ last_of c.args.bytes.now c.loop-end.end w.if-bytes-end-eq0.false
      | else-loop-end-test w ↦ none_last c.args.bytes.now c.loop-end.end w.loop-end-test.false
    ])
