use Rattle.std.proofs.Common.{◌≡◌, ℕ, zero, suc, [], drop, slice_index, refl, ap, sym, ◌∙◌, subst, inl, Some}
use Rattle.array_model.specs.Blocks.{Laid, laid_eq}
use Rattle.array_model.specs.Candidates.{In, writes}
use Rattle.array_model.specs.Rounds.{IsRound}
use Rattle.array_model.specs.Small.{block, small_start, small_words, small_disks}
use Rattle.array_model.proofs.Written.{written_passes}
use Rattle.array_disks.proofs.Members.{laid_is}
use Rattle.array_finished.specs.Small.{round_log}
use Rattle.array_finished.proofs.example_of_a_finished_round.Goals as goal

abbrev the_block : Laid
the_block = record { anchor = block 2 0 0; extended = [] }

abbrev other_block : Laid
other_block = record { anchor = block 2 1 0; extended = [] }

only : (d : ℕ) (m : Laid) → In m (writes small_words small_disks d round_log) → m ≡ the_block
only d m written =
    laid_is m the_block
    (written_passes small_words small_disks (λ s. refl) (λ x. laid_eq x the_block) d round_log m refl written)

begun_at_first : (stamp : ℕ) (m : Laid) → Some 0 ≡ Some stamp → IsRound small_start round_log stamp 2 m
    → IsRound small_start round_log 0 2 m
begun_at_first stamp m is r =
    let same : 0 ≡ stamp = cc is in subst (λ s. IsRound small_start round_log s 2 m) (sym same) r

pub returns-clause-meets : goal.returns-clause-meets
returns-clause-meets c = record {
  block = the_block;
  is = (0, refl, record { disk = 0; written = inl refl; generation = refl; container = refl });
  one = λ m finished.
      let r = begun_at_first finished.0 m finished.1 finished.2 in
      only r.disk m r.written;
}

none_written : (stamp d : ℕ) (m : Laid) → In m (writes small_words small_disks d (drop stamp [])) → ⊥
none_written zero d m i = i
none_written (suc stamp) d m i = i

pub returns-clause-unwritten : goal.returns-clause-unwritten
returns-clause-unwritten c has = let r = has.is.2 in none_written has.is.0 r.disk has.block r.written

pub returns-clause-two : goal.returns-clause-two
returns-clause-two c has =
    let first = has.one the_block
    (0, refl, record { disk = 0; written = inl refl; generation = refl; container = refl }) in
    let second = has.one other_block
    (0, refl, record { disk = 1; written = inl refl; generation = refl; container = refl }) in
    let same : the_block ≡ other_block = first ∙ sym second in
    let dirty : 0 ≡ 1 = ap (λ (m : Laid). slice_index m.anchor.0 1) same in
    cc dirty
