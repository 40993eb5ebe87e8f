use Rattle.std.proofs.Common.{rules, ◌≡◌, ℕ, zero, suc, true, false, List, [], ◌∷◌, drop, length, Some, None, refl, ap, ◌∙◌, sym, subst, arith, inl, inr}
use Rattle.units.specs.declared.disk.Sector.{Sector}
use Rattle.array_model.specs.declared.journal.Entry.{Entry}
use Rattle.array_model.specs.declared.journal.Event.TheVariants.{Begin, End}
use Rattle.array_model.specs.Script.{VolumeWrite, write_at, sector_of}
use Rattle.array_model.specs.Candidates.{In, writes}
use Rattle.array_model.specs.Blocks.{Laid}
use Rattle.array_model.specs.Causes.{GoesOn, Over}
use Rattle.array_model.specs.Rounds.{IsFinished, HasFinished}
use Rattle.array_model.specs.Small.{small_start, small_words, small_disks, write_and_read, the_value, block, at}
use Rattle.refused_runs.specs.Wrong.{callless_journal, rows_journal}
use Rattle.refused_runs.proofs.forged_rounds_are_refused.Goals as goal

abbrev first_round : List Entry
first_round = at 0 (Begin 2) ∷ at 0 (End 2) ∷ []

-- before a call no block of a round is written
unwritten : (block : Laid) → IsFinished small_start [] first_round block → ⊥
unwritten block (stamp, begun, round) =
    let none : 0 ≡ stamp = cc begun in
    subst (λ z. In block (writes small_words small_disks round.disk (drop z []))) (sym none) round.written

no_block : HasFinished small_start [] first_round → ⊥
no_block found = unwritten found.block found.is

pub returns-clause-callless : goal.returns-clause-callless
returns-clause-callless c ended limit calls admitted =
    no_block (admitted.kept.rounds 0 first_round (drop 2 (callless_journal 2))
    (record { parts = refl; calls = omega arith; none_above = search rules; all_below = search rules }))

pub returns-clause-blockless : goal.returns-clause-blockless
returns-clause-blockless c ended limit calls admitted =
    no_block (admitted.kept.rounds 0 first_round (drop 2 rows_journal)
    (record { parts = refl; calls = omega arith; none_above = search rules; all_below = search rules }))

pub returns-clause-skipping : goal.returns-clause-skipping
returns-clause-skipping c log ended limit calls admitted = let next : 99 ≡ 2 = admitted.form.causes.0.1 in cc next

pub returns-clause-unended : goal.returns-clause-unended
returns-clause-unended c log ended limit calls admitted = admitted.form.causes.1.1.1.1.1.1.1.1.1.1.1.1.0.0

-- the data of a write of the script has 512 bytes
data_is : (i : ℕ) (target : VolumeWrite) → write_at write_and_read i ≡ Some target → sector_of the_value ≡ target.value
data_is zero target h = cc h
data_is (suc zero) target h = absurd (let none : None ≡ Some target = h in cc none)
data_is (suc (suc i)) target h = absurd (let none : None ≡ Some target = h in cc none)

pub returns-clause-unnamed : goal.returns-clause-unnamed
returns-clause-unnamed c ended limit calls admitted = elim admitted.kept.calls.1.1.1.1.0 [
  | inl anchor ↦ let none : Over ≡ GoesOn anchor.round.generation = anchor.round.goes_on in cc none
  | inr row ↦ (
      let brings : block 3 1 0 ∷ [] ≡ row.0.target.value ∷ [] = row.1 in
      let same : block 3 1 0 ≡ row.0.target.value = cc brings in
      let three : 3 ≡ 512 = ap (λ (s : Sector). length s.0) (same ∙ sym (data_is row.0.op row.0.target row.0.asks)) in
      cc three
      )
]

pub returns-clause-unspread : goal.returns-clause-unspread
returns-clause-unspread c ended limit calls admitted = c.example_of_the_rounds.ensures.unspread admitted.kept.endings

pub returns-clause-unsettled : goal.returns-clause-unsettled
returns-clause-unsettled c ended limit calls admitted = c.example_of_the_rounds.ensures.unsettled admitted.kept.endings

pub returns-clause-needless : goal.returns-clause-needless
returns-clause-needless c log ended limit calls admitted = let due : false ≡ true = admitted.form.causes.1.1.1.0.0 in cc due

pub returns-clause-twins : goal.returns-clause-twins
returns-clause-twins c ended limit calls admitted = c.example_of_the_rounds.ensures.twins admitted.kept.renewed
