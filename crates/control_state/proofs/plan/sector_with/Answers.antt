use Rattle.std.proofs.Common.{List, ℕ, ap, arith, refl}
use Rattle.byteorder.specs.Endian.{big_bytes}
use Rattle.control_state.proofs.Eights.{eights_more, eights_all, eights_long}
use Rattle.control_state.proofs.plan.sector_with.Goals as goal

pub loop-i-preserved : goal.loop-i-preserved
loop-i-preserved c = record {
  long = eights_long c.loop-i.i (big_bytes 8 c.args.value) c.loop-i.bytes c.put_eight.new.bytes refl (omega (arith, c.loop-i-test.true)) c.loop-i.invariant.long c.put_eight.ensures;
  stand = eights_more c.loop-i.i (big_bytes 8 c.args.value) c.loop-i.bytes c.put_eight.new.bytes refl (omega (arith, c.loop-i-test.true, c.loop-i.invariant.long)) c.loop-i.invariant.stand c.put_eight.ensures;
}

pub returns : goal.returns
returns c = ap (λ (bytes : List ℕ). record { 0 = bytes }) (eights_all c.loop-i.i (big_bytes 8 c.args.value) c.loop-i.bytes (omega (arith, c.loop-i-test.false, c.loop-i.auto.i-end)) c.loop-i.invariant.long c.loop-i.invariant.stand)
