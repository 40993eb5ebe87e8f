use Rattle.std.proofs.Common.{◌≡◌, ℕ, not, Bool, true, false, [], ◌∷◌, drop, take, refl, sym, subst, Some, inl}
use Rattle.array_model.specs.Blocks.{Laid}
use Rattle.array_model.specs.Rounds.{IsRound}
use Rattle.array_model.specs.Small.{block, small_start, small_words, small_disks, small_expects, failing_log}
use Rattle.array_model.proofs.Written.{written_passes}
use Rattle.array_causes.proofs.examples.example_of_unblock_causes.Goals as goal

-- the last round writes no block that expects the second disk
not_expected : (m : Laid) → IsRound small_start (take 13 failing_log) 11 4 m → small_expects m (66 ∷ []) ≡ false
not_expected m round =
    turned (small_expects m (66 ∷ []))
    (written_passes small_words small_disks (λ s. refl) (λ x. not (small_expects x (66 ∷ []))) round.disk
    (drop 11 (take 13 failing_log)) m refl round.written)
  where
    turned : (b : Bool) → not b ≡ true → b ≡ false
    turned true is = absurd cc
    turned false is = refl

from_begin : (stamp : ℕ) (m : Laid) → Some 11 ≡ Some stamp → IsRound small_start (take 13 failing_log) stamp 4 m
    → IsRound small_start (take 13 failing_log) 11 4 m
from_begin stamp m is round =
    let same : 11 ≡ stamp = cc is in
    subst (λ s. IsRound small_start (take 13 failing_log) s 4 m) (sym same) round

pub returns-clause-meets : goal.returns-clause-meets
returns-clause-meets c = (
  tt,
  (
    tt,
    (
      tt,
      (
        tt,
        (
          tt,
          (
            tt,
            (
              tt,
              (
                tt,
                (
                  tt,
                  (
                    tt,
                    (
                      tt,
                      (
                        λ m finished. not_expected m (from_begin finished.0 m finished.1 finished.2),
                        (tt, tt),
                      ),
                    ),
                  ),
                ),
              ),
            ),
          ),
        ),
      ),
    ),
  ),
)

pub returns-clause-hasty : goal.returns-clause-hasty
returns-clause-hasty c = λ h.
    let before : Laid = record { anchor = block 3 1 0; extended = [] } in
    absurd (let expected : true ≡ false = h.1.1.1.1.1.1.1.1.1.1.0 before
    (4, refl, record { disk = 0; written = inl refl; generation = refl; container = refl }) in cc expected)
