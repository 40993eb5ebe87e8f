use Rattle.std.proofs.Common.{rules, ◌≡◌, Bool, true, false, [], refl, arith, inl, inr}
use Rattle.std.specs.Prelude.{not, ◌&&◌}
use Rattle.array_model.specs.Events.{has, is_end}
use Rattle.array_model.specs.Small.{small_start}
use Rattle.array_model.specs.SmallFailures.{third_disk, third_slot, one_fault, two_faults, third_fault, doubted_start, parity_start}
use Rattle.array_model.proofs.SmallVolumes.{not_broken}
use Rattle.array_model.proofs.failure_examples.example_of_broken_volumes.Goals as goal

pub returns-clause-two : goal.returns-clause-two
returns-clause-two c = record {
  calls = 0;
  front = two_faults;
  rest = [];
  block = small_start.newest;
  moment = record { parts = refl; calls = omega arith; none_above = search rules; all_below = tt };
  finished = refl;
  cause = inl refl;
}

pub returns-clause-one : goal.returns-clause-one
returns-clause-one c = not_broken small_start _ 0 refl refl refl (λ front torn. absurd (let five = torn.five in cc five))

pub returns-clause-doubted : goal.returns-clause-doubted
returns-clause-doubted c = record {
  calls = 0;
  front = one_fault;
  rest = [];
  block = doubted_start.newest;
  moment = record { parts = refl; calls = omega arith; none_above = search rules; all_below = tt };
  finished = refl;
  cause = inl refl;
}

pub returns-clause-doubt : goal.returns-clause-doubt
returns-clause-doubt c = not_broken doubted_start _ 0 refl refl refl (λ front torn. absurd (let five = torn.five in cc five))

pub returns-clause-torn : goal.returns-clause-torn
returns-clause-torn c = record {
  calls = 0;
  front = third_fault;
  rest = [];
  block = (parity_start 1).newest;
  moment = record { parts = refl; calls = omega arith; none_above = search rules; all_below = tt };
  finished = refl;
  cause = inr (record {
    front = [];
    stamp = 0;
    disk = third_disk;
    last = refl;
    five = refl;
    slot = 2;
    member = record { words = third_slot; there = refl; same = refl };
    loose = refl;
  });
}

pub returns-clause-clean : goal.returns-clause-clean
returns-clause-clean c = not_broken (parity_start 0) _ 0 refl refl refl (λ front torn. at (not (has is_end torn.front)) torn.loose)
  where
    at : (b : Bool) → (b && false) ≡ true → ⊥
    at true h = cc h
    at false h = cc h
