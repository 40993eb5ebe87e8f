use Rattle.std.proofs.Common.{ℕ, true, false, set, replicate, ◌∙◌, ap}
use Rattle.imsm_edit.specs.Meanings.{is_told}
use Rattle.imsm_edit.proofs.Lost.{one_told}
use Rattle.imsm_edit.proofs.failures.only.Goals as goal

pub returns : goal.returns
returns c = λ k. ap (λ (j : ℕ). is_told (set (replicate 16 false) j true) k) c.from.ensures ∙ one_told 16 c.args.i k c.requires
