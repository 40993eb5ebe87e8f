use Rattle.std.proofs.Common.{◌≡◌, true, false, take, refl, subst, sym, None, Some}
use Rattle.array_model.specs.declared.journal.Answer.TheVariants.{Done}
use Rattle.array_model.specs.Blocks.{Laid}
use Rattle.array_model.specs.AnswerLaw.{IsVolumeWhole}
use Rattle.array_model.specs.Small.{small_start}
use Rattle.array_model.specs.SmallFailures.{degraded_start, passing_from, answered}
use Rattle.array_model.proofs.SmallVolumes.{in_order}
use Rattle.array_model.proofs.failure_examples.example_of_whole.Goals as goal

is_whole : IsVolumeWhole small_start (take 1 (answered Done)) small_start.newest 0
is_whole = record { slots = ((refl, refl), ((refl, refl), tt)); idle = refl }

pub returns-clause-meets : goal.returns-clause-meets
returns-clause-meets c = record {
  order = in_order Done;
  values = (tt, (tt, tt));
  reads = tt;
  whole = (tt, ((λ m finished. subst (λ (m : Laid). IsVolumeWhole small_start (take 1 (answered Done)) m 0) (sym finished) is_whole), tt));
}

pub returns-clause-degraded : goal.returns-clause-degraded
returns-clause-degraded c law =
    let sync : false ≡ true = (law.whole.1.0 degraded_start.newest refl).slots.1.0.0 in
    cc sync

pub returns-clause-passing : goal.returns-clause-passing
returns-clause-passing c law =
    let idle : Some 0 ≡ None = (law.whole.1.0 (passing_from (Some 0)).newest refl).idle in
    cc idle
