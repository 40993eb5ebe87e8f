use Rattle.array_edits.proofs.Meant.{real_edits_mean, form_of}
use Rattle.array_edits.proofs.law.real_edits_mean.Goals as goal

pub returns : goal.returns
returns c = λ S r. (real_edits_mean S r, form_of S r)
