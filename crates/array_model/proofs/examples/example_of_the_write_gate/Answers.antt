use Rattle.std.proofs.Common.{◌≡◌, true, false, List, [], take, refl, arith, inl}
use Rattle.array_model.specs.declared.journal.Entry.{Entry}
use Rattle.array_model.specs.WriteGate.{DirtyWhileLive}
use Rattle.array_model.specs.Events.{is_live}
use Rattle.array_model.specs.Blocks.{Laid}
use Rattle.array_model.specs.Small.{block, small_start, worked_log, worked_journal}
use Rattle.array_model.proofs.Splits.{EachSplit, AtSplit, always_by}
use Rattle.array_model.proofs.SmallFacts.{OnlyZero, quiet, live_one, worked_dirty, zero_active}
use Rattle.array_model.proofs.examples.example_of_the_write_gate.Goals as goal

still : (front rest : List Entry) → is_live 0 front ≡ false → OnlyZero front → AtSplit (DirtyWhileLive small_start) worked_log front rest
still front rest here only = record { holds = λ c le below above. quiet (take c worked_log) front here only }

always : EachSplit (AtSplit (DirtyWhileLive small_start) worked_log) [] worked_journal
always = (
  still _ _ refl (λ v. inl refl),
  (
    still _ _ refl (λ v. inl refl),
    (
      still _ _ refl (λ v. inl refl),
      (
        still _ _ refl (λ v. inl refl),
        (
          still _ _ refl (λ v. inl refl),
          (
            still _ _ refl (λ v. inl refl),
            (
              still _ _ refl (λ v. inl refl),
              (
                still _ _ refl (λ v. inl refl),
                (
                  record { holds = λ c le below above. live_one _ _ (worked_dirty c (omega (arith, below)) (omega (arith, above)) _) zero_active },
                  (
                    record { holds = λ c le below above. live_one _ _ (worked_dirty c (omega (arith, below)) (omega (arith, above)) _) zero_active },
                    (
                      record { holds = λ c le below above. live_one _ _ (worked_dirty c (omega (arith, below)) (omega (arith, above)) _) zero_active },
                      (
                        record { holds = λ c le below above. live_one _ _ (worked_dirty c (omega (arith, below)) (omega (arith, above)) _) zero_active },
                        (
                          record { holds = λ c le below above. live_one _ _ (worked_dirty c (omega (arith, below)) (omega (arith, above)) _) zero_active },
                          (still _ _ refl zero_active, (still _ _ refl zero_active, still _ _ refl zero_active)),
                        ),
                      ),
                    ),
                  ),
                ),
              ),
            ),
          ),
        ),
      ),
    ),
  ),
)

pub returns-clause-meets : goal.returns-clause-meets
returns-clause-meets c = record {
  at_active = (tt, (tt, (tt, (tt, (tt, (tt, (tt, (worked_dirty 8 (omega arith) (omega arith) _, (tt, (tt, (tt, (tt, (tt, (tt, (tt, tt)))))))))))))));
  at_ack = search;
  always = always_by (DirtyWhileLive small_start) worked_log worked_journal always;
}

pub returns-clause-early : goal.returns-clause-early
returns-clause-early c law =
    let second : Laid = record { anchor = block 2 0 0; extended = [] } in
    let durable = law.at_active.1.1.1.1.1.1.0 second (0, refl, record { disk = 1; written = inl refl; generation = refl; container = refl }) 1 (record { expected = refl; sound = refl }) in
    let dirty : false ≡ true = durable.each.0 in
    cc dirty
