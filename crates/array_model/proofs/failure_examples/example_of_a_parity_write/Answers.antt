use Rattle.std.proofs.Common.{rules, ◌≡◌, true, false, [], ◌∷◌, take, drop, refl, arith, inl}
use Rattle.array_model.specs.Script.{sector_of}
use Rattle.array_model.specs.FailureLaw.{WasMeant}
use Rattle.array_model.specs.Small.{the_value, small_slot}
use Rattle.array_model.specs.SmallFailures.{parity_start, parity_hasty}
use Rattle.array_model.proofs.failure_examples.example_of_a_parity_write.Goals as goal

meant : WasMeant (parity_start 0) [] (take 2 parity_hasty) (record { volume = 0; sector = 5; value = sector_of the_value }) 0
meant = record {
  calls = 0;
  early = take 1 parity_hasty;
  late = drop 1 (take 2 parity_hasty);
  block = (parity_start 0).newest;
  moment = record { parts = refl; calls = omega arith; none_above = search rules; all_below = search rules };
  finished = refl;
  slot = inl (record { words = small_slot (parity_start 0).newest 0 (65 ∷ []); there = refl; same = refl; expected = refl });
}

pub returns : goal.returns
returns c law =
    let durable = law.acks.1.1.0 refl 0 meant refl (parity_start 0).newest refl 1 (record { expected = refl; sound = refl }) in
    let failed : true ≡ false = durable.each.0 in
    cc failed
