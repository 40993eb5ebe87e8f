use Rattle.std.proofs.Common.{◌≡◌, ℕ, false, length, set, sym, ◌∙◌, ap, arith, add-one}
use Rattle.imsm_base.specs.EditsOfTables.{changed_at}
use Rattle.imsm_buffer.proofs.Lowered.{changed_to, changed_next, changed_whole}
use Rattle.imsm_edit.specs.Failures.{lost}
use Rattle.imsm_edit.proofs.Marking.{set_is}
use Rattle.imsm_edit.proofs.failures.lose.Goals as goal

pub loop-slot-preserved : goal.loop-slot-preserved
loop-slot-preserved c =
    let k : ℕ = c.loop-slot.slot-index in
    ap (set c.loop-slot.slots k) c.lost.ensures ∙ set_is k (lost c.args.i) c.loop-slot.slots (record { index = 0; out = false; expected = false })
    ∙ ap (changed_at k (lost c.args.i)) c.loop-slot.invariant ∙ changed_next k (lost c.args.i) c.args.slots.now
    ∙ ap (λ (n : ℕ). changed_to n (lost c.args.i) c.args.slots.now) (sym (add-one k))

pub returns : goal.returns
returns c =
    let whole : c.loop-slot.slot-index ≡ length c.args.slots.now = omega arith in
    c.loop-slot.invariant ∙ ap (λ (n : ℕ). changed_to n (lost c.args.i) c.args.slots.now) whole ∙ changed_whole (lost c.args.i) c.args.slots.now
