use Rattle.std.proofs.Common.{◌≡◌, ◌++◌, take, drop}
use Rattle.array_model.specs.AnswerLaw.{xor_bytes}
use Rattle.raid_map.proofs.parity.xor_into.Given as goal

abbrev pub invariant-loop-i : goal.invariant-loop-i
invariant-loop-i l =
    l.into.0 ≡ xor_bytes (take l.i l.initial.into.0) (take l.i l.from.0) ++ drop l.i l.initial.into.0
