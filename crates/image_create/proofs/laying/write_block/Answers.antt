use Rattle.std.specs.Prelude.{slice_index}
use Rattle.mpb_store.specs.Writing.{steps_of}
use Rattle.image_create.proofs.Making.{kept_both}
use Rattle.image_create.proofs.Stepping.{next_is, placed_rest, step_made, step_stopped}
use Rattle.image_create.proofs.laying.write_block.Goals as goal
use Rattle.image_outside.proofs.Written.{on_err}

pub loop-step-preserved : goal.loop-step-preserved
loop-step-preserved g c =
    let n = slice_index (g.B.Bank.sizes c.args.bank.now) c.args.d.0 in
    let next = next_is c.loop-step.steps c.next.result c.next.ensures.step c.in_default.not-Over in
    let before = c.loop-step.invariant.made in
    record {
      made = step_made c.args.d.0 c.args.sectors.now (steps_of c.args.size n) before.0 c.loop-step.steps c.next.new.self c.next.result before.1 next c.next.ensures.rest before.2
          c.in_ok-take_step-in_default.ensures.ok;
      placed = placed_rest n c.loop-step.steps c.next.new.self c.next.ensures.rest c.loop-step.invariant.placed;
      kept = kept_both c.loop-step.invariant.kept c.take_step.ensures.kept;
    }

pub returns-in_err-take_step-in_default-clause-err : goal.returns-in_err-take_step-in_default-clause-err
returns-in_err-take_step-in_default-clause-err g c =
    let n = slice_index (g.B.Bank.sizes c.args.bank.now) c.args.d.0 in
    let next = next_is c.loop-step.steps c.next.result c.next.ensures.step c.in_default.not-Over in
    let before = c.loop-step.invariant.made in
    on_err c.from_residual.result _
    (step_stopped c.args.d.0 c.args.sectors.now (steps_of c.args.size n) before.0 c.loop-step.steps c.next.result before.1 next before.2 c.in_err-take_step-in_default.ensures.err)
