use Rattle.std.proofs.Common.{refl, arith, inl}
use Rattle.array_model.specs.Script.{sector_of}
use Rattle.array_model.specs.Small.{the_value, puts, fails}
use Rattle.array_causes.proofs.examples.example_of_failure_causes.Goals as goal

pub returns-clause-meets : goal.returns-clause-meets
returns-clause-meets c = (
  tt,
  (
    tt,
    (
      tt,
      (
        tt,
        (
          tt,
          (
            tt,
            (
              tt,
              (
                tt,
                (
                  record {
                    there = omega arith;
                    once = refl;
                    cause = inl (record {
                      before = 9;
                      at = refl;
                      call = fails (puts 1 5 (sector_of the_value));
                      is = refl;
                      on = refl;
                      lost = refl;
                    });
                  },
                  (tt, (tt, (record { faulty = refl; once = refl; settled = refl }, (tt, tt)))),
                ),
              ),
            ),
          ),
        ),
      ),
    ),
  ),
)
