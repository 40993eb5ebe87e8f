use Rattle.std.proofs.Common.{◌≡◌, ◌≤◌, drop, length, true}
use Rattle.std.specs.Prelude.{◌==◌}
use Rattle.std.specs.List.{list_all}
use Rattle.imsm_text.proofs.bytes.name_bytes.Given as goal

abbrev pub invariant-loop-end : goal.invariant-loop-end
invariant-loop-end l = record {
  within : l.end ≤ length l.bytes;
  zeros : list_all (λ b. b == 0) (drop l.end l.bytes) ≡ true;
}

abbrev pub decreases-loop-end : goal.decreases-loop-end
decreases-loop-end l = l.end
