use Rattle.std.proofs.Common.{◌≡◌, ℕ, zero, suc, ◌==◌, nat_lt, true, false, List, [], ◌∷◌, refl, sym, subst, arith, inl, inr}
use Rattle.std.specs.List.{list_all}
use Rattle.std.proofs.lemmas.Bool.{and_parts}
use Rattle.std.proofs.lemmas.Bool.Decides.{nat_tests}
use Rattle.device_log.specs.Log.{Call}
use Rattle.array_model.specs.Blocks.{Laid, is_container}
use Rattle.array_model.specs.Candidates.{Disk, In, disk_from, writes}
use Rattle.array_model.specs.Rounds.{IsFinished, IsRound}
use Rattle.array_model.specs.Small.{block}
use Rattle.array_model.specs.SmallFailures.{spare_block, sparing_words, sparing_start, sparing_log, spares_log, forgetful_journal}
use Rattle.array_model.proofs.failure_examples.example_of_a_spare.Goals as goal

abbrev rounds_block : Laid
rounds_block = record { anchor = block 2 0 0; extended = [] }

abbrev spares_block : Laid
spares_block = record { anchor = spare_block 2; extended = [] }

-- the spare's block is no container's
not_a_round : (log : List Call) (m : Laid) → m ≡ spares_block → IsRound sparing_start log 0 2 m → ⊥
not_a_round log m same round =
    let none : false ≡ true = subst (λ z. is_container sparing_words z ≡ true) same round.container in
    cc none

-- no other disk is written
elsewhere : (log : List Call) (d : ℕ) (k : Disk) → list_all (λ call. nat_lt call.disk 2) log ≡ true → disk_from sparing_words sparing_start.disks (suc (suc d)) k log ≡ k
elsewhere [] d k near = refl
elsewhere (call ∷ log) d k near =
    let both = and_parts (nat_lt call.disk 2) (list_all (λ call. nat_lt call.disk 2) log) near in
    let other : (call.disk == suc (suc d)) ≡ false = grind (arith, nat_tests, both.0) in
    rw other (elsewhere log d k both.1)

none_else : (log : List Call) (d : ℕ) (m : Laid) → list_all (λ call. nat_lt call.disk 2) log ≡ true → In m (writes sparing_words sparing_start.disks (suc (suc d)) log) → ⊥
none_else log d m near there = subst (λ (k : Disk). In m k.known) (elsewhere log d _ near) there

-- what is written to each disk
of_disk : (d : ℕ) (m : Laid) → In m (writes sparing_words sparing_start.disks d sparing_log) → IsRound sparing_start sparing_log 0 2 m → m ≡ rounds_block
of_disk zero m (inl same) round = same
of_disk zero m (inr none) round = absurd none
of_disk (suc zero) m (inl same) round = absurd (not_a_round sparing_log m same round)
of_disk (suc zero) m (inr none) round = absurd none
of_disk (suc (suc d)) m there round = absurd (none_else sparing_log d m refl there)

of_spare : (d : ℕ) (m : Laid) → In m (writes sparing_words sparing_start.disks d spares_log) → IsRound sparing_start spares_log 0 2 m → ⊥
of_spare zero m none round = none
of_spare (suc zero) m (inl same) round = not_a_round spares_log m same round
of_spare (suc zero) m (inr none) round = none
of_spare (suc (suc d)) m there round = none_else spares_log d m refl there

from_start : (log : List Call) (m : Laid) → IsFinished sparing_start log forgetful_journal m → IsRound sparing_start log 0 2 m
from_start log m (stamp, begun, round) =
    let here : 0 ≡ stamp = cc begun in
    subst (λ z. IsRound sparing_start log z 2 m) (sym here) round

pub returns-clause-one : goal.returns-clause-one
returns-clause-one c = record {
  block = rounds_block;
  is = (0, refl, record { disk = 0; written = inl refl; generation = refl; container = refl });
  one = λ m finished. let round = from_start sparing_log m finished in of_disk round.disk m round.written round;
}

pub returns-clause-none : goal.returns-clause-none
returns-clause-none c found =
    let round = from_start spares_log found.block found.is in
    of_spare round.disk found.block round.written round

pub returns-clause-begins : goal.returns-clause-begins
returns-clause-begins c all = let none : false ≡ true = all spares_block 1 (inl refl) refl in cc none
