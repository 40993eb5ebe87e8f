use Rattle.std.proofs.Common.{rules, ◌≡◌, ℕ, ◌+◌, ◌*◌, ◌/◌, ◌≤◌, ◌==◌, Bool, true, List, [], ◌∷◌, drop, refl, subst, sym, arith, inl, Some}
use Rattle.std.proofs.lemmas.Bool.Decides.{nat_tests}
use Rattle.array_model.specs.declared.journal.Entry.{Entry}
use Rattle.array_model.specs.Blocks.{Laid}
use Rattle.array_model.specs.Rounds.{IsRound}
use Rattle.array_model.specs.FailureLaw.{KeepsMembers, ReadsRow}
use Rattle.array_model.specs.Small.{small_disks, small_expects, small_slot, bytes_at, gets}
use Rattle.array_model.specs.SmallFailures.{passing_words, passing_from, passing_log, with_fourth}
use Rattle.array_model.proofs.Written.{written_passes}
use Rattle.array_model.proofs.SmallKeeps.{keeps_small}
use Rattle.array_model.proofs.failure_examples.example_of_a_checkpoint.Goals as goal

round_passes : (P : Laid → Bool) (m : Laid) → P (record { anchor = with_fourth 2 8; extended = [] }) ≡ true → IsRound (passing_from (Some 0)) (passing_log 8) 1 2 m → P m ≡ true
round_passes P m passes round =
    written_passes passing_words small_disks (λ s. refl) P round.disk (drop 1 (passing_log 8)) m (rw passes refl) round.written

keeps_passing : (front : List Entry) (last m : Laid) → IsRound (passing_from (Some 0)) (passing_log 8) 1 2 m → KeepsMembers (passing_from (Some 0)) front last m
keeps_passing front last m round =
    let kept = keeps_small front last m (inl (round_passes (λ m. small_expects m (65 ∷ [])) m refl round)) (inl (round_passes (λ m. small_expects m (66 ∷ [])) m refl round)) in
    record { expected = kept.expected; in_sync = kept.in_sync }

-- the read is at row 1,024, and the unit is 8
counts : (m : Laid) (row : ℕ) → IsRound (passing_from (Some 0)) (passing_log 8) 1 2 m → ReadsRow (passing_from (Some 0)) m 0 row (gets 0 1024) → 8 * (row / 1024) ≤ bytes_at 3 m
counts m row round reads =
    let there : 1024 ≡ 0 + row = cc reads.what in
    let test : (bytes_at 3 m == 8) ≡ true = round_passes (λ m. bytes_at 3 m == 8) m refl round in
    let unit : bytes_at 3 m ≡ 8 = grind (arith, nat_tests, test) in
    let at : row ≡ 1024 = omega (arith, there) in
    subst (λ r. 8 * (r / 1024) ≤ bytes_at 3 m) (sym at) (omega (arith, unit))

pub returns-clause-meets : goal.returns-clause-meets
returns-clause-meets c = record {
  acks = search;
  calls = ((λ bad early. absurd cc), ((λ bad early. absurd cc), tt));
  keeps = (tt, ((λ m last round finished. keeps_passing _ last m round), tt));
  units = (
    tt,
    (
      (λ v since m here round. ((λ from until row reads elsewhere passing. counts m row round (record { what = reads.what; below = reads.below; slot = 0; member = record { words = small_slot m 0 (65 ∷ []); there = refl; same = refl } })), ((λ from until row reads elsewhere passing. absurd cc), tt))),
      tt,
    ),
  );
}

pub returns-clause-behind : goal.returns-clause-behind
returns-clause-behind c law =
    let m : Laid = record { anchor = with_fourth 2 0; extended = [] } in
    let counted = law.units.1.0 0 0 m refl (record { disk = 0; written = inl refl; generation = refl; container = refl }) in
    let reads : ReadsRow (passing_from (Some 0)) m 0 1024 (gets 0 1024) = record { what = refl; below = omega arith; slot = 0; member = record { words = small_slot m 0 (65 ∷ []); there = refl; same = refl } } in
    let least : 8 * (1024 / 1024) ≤ 0 = counted.0 (omega arith) (omega arith) 1024 reads (λ i s kind none. absurd cc) (search rules) in
    omega (arith, least)
