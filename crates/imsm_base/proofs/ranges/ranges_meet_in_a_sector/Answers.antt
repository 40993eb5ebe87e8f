use Rattle.std.proofs.Common.{◌≡◌, ℕ, ◌+◌, ◌<◌, ◌≤◌, max, true, arith}
use Rattle.std.specs.Prelude.{nat_lt}
use Rattle.std.proofs.lemmas.Bool.{and_parts, and_from, false_from_ne_true, lt-ltb, ltb-true}
use Rattle.imsm_base.specs.Layout.{Map, pba_of, blocks_per_member_of}
use Rattle.imsm_base.specs.Volumes.{IsInRange, do_meet}
use Rattle.imsm_base.proofs.ranges.ranges_meet_in_a_sector.Goals as goal

pub returns : goal.returns
returns c = record {
  met = λ m other. (first m other, behind m other);
  empty = λ m other none. false_from_ne_true (do_meet m other) (λ meets. nowhere m other none (first m other meets));
}
  where
    first : (m other : Map) → do_meet m other ≡ true → (sector : ℕ) × IsInRange sector m × IsInRange sector other
    first m other meets =
        let start : ℕ = max (pba_of m) (pba_of other) in
        let is = and_parts (nat_lt start (pba_of m + blocks_per_member_of m)) (nat_lt start (pba_of other + blocks_per_member_of other)) meets in
        let one = ltb-true start (pba_of m + blocks_per_member_of m) is.0 in
        let two = ltb-true start (pba_of other + blocks_per_member_of other) is.1 in
        (start, record { from = omega arith; to = one }, record { from = omega arith; to = two })

    behind : (m other : Map) → ((sector : ℕ) × IsInRange sector m × IsInRange sector other) → do_meet m other ≡ true
    behind m other is =
        let one = is.1 in
        let two = is.2 in
        let here : pba_of m ≤ is.0 = one.from in
        let here_to : is.0 < pba_of m + blocks_per_member_of m = one.to in
        let there : pba_of other ≤ is.0 = two.from in
        let there_to : is.0 < pba_of other + blocks_per_member_of other = two.to in
        let start : ℕ = max (pba_of m) (pba_of other) in
        and_from (nat_lt start (pba_of m + blocks_per_member_of m)) (nat_lt start (pba_of other + blocks_per_member_of other))
        (lt-ltb start (pba_of m + blocks_per_member_of m) (omega arith))
        (lt-ltb start (pba_of other + blocks_per_member_of other) (omega arith))

    nowhere : (m other : Map) → blocks_per_member_of other ≡ 0 → ((sector : ℕ) × IsInRange sector m × IsInRange sector other) → ⊥
    nowhere m other none is =
        let two = is.2 in
        let from : pba_of other ≤ is.0 = two.from in
        let to : is.0 < pba_of other + blocks_per_member_of other = two.to in
        omega arith
