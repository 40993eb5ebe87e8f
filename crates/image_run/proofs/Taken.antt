-- A source that was read to its end.
use Rattle.std.proofs.Common.{◌≤◌, ◌+◌, ◌++◌, ◌∙◌, ℕ, List, Some, length, ap, arith, refl, sym}
use Rattle.std.proofs.lemmas.List.{append-nil}
use Rattle.image_outside.specs.declared.source.TheConstants.{MAX_SOURCE_BYTES}
use Rattle.image_outside.specs.Outside.{TakesAll, TakesFront}
use Rattle.image_outside.specs.Told.{SourceTold}
use Rattle.image_run.specs.Scripts.{TakesSome}

-- all of its bytes are some first ones
pub all_some : (old new : SourceTold) (text : List ℕ) → TakesAll old.left new.left text → length text ≤ MAX_SOURCE_BYTES → TakesSome old new
all_some old new text all few = record {
  count = length text;
  few = omega (arith, few);
  taken = record {
    front = text;
    counted = refl;
    takes = λ now is.
        let was = all now is in
        was.0 ∙ ap (λ (l : List ℕ). Some l) (sym (ap (λ (l : List ℕ). text ++ l) was.1 ∙ append-nil text));
  };
}

-- a front of them is, where it isn't too long
pub front_some : (old new : SourceTold) → (count : ℕ) × (count ≤ MAX_SOURCE_BYTES + 1) × TakesFront old.left new.left count → TakesSome old new
front_some old new (count, few, taken) = record { count = count; few = few; taken = taken }
