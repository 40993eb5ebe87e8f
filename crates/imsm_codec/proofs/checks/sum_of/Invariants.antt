use Rattle.std.proofs.Common.{◌≡◌, ◌%◌, ◌^◌}
use Rattle.imsm_base.specs.Whole.{words_sum}
use Rattle.imsm_codec.proofs.checks.sum_of.Given as goal

abbrev pub invariant-loop-word : goal.invariant-loop-word
invariant-loop-word l = l.sum ≡ words_sum l.bytes l.word % 2 ^ 32
