use Rattle.std.proofs.Common.{refl}
use Rattle.array_causes.proofs.examples.example_of_update_causes.Goals as goal

pub returns-clause-meets : goal.returns-clause-meets
returns-clause-meets c = (
  tt,
  (
    refl,
    (
      tt,
      (
        record { lives = refl; alone = refl },
        (
          record { update = 0; applied = refl; ask = 0; adds = refl },
          (refl, (record { lives = refl; alone = refl }, tt)),
        ),
      ),
    ),
  ),
)
