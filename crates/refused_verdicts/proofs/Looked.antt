-- The calls that a bank's log has from looks at its disks.
use Rattle.std.proofs.Common.{◌≡◌, ℕ, ◌+◌, Bool, true, false, List, [], ◌∷◌, ◌++◌, map, take, Option, Some, refl, sym, ◌∙◌, ap, append_assoc, subst}
use Rattle.std.specs.Prelude.{slice_index, slice_index_or}
use Rattle.std.proofs.lemmas.List.{append-nil}
use Rattle.units.specs.declared.disk.Sector.{Sector}
use Rattle.units.specs.Places.{anchor_place}
use Rattle.device_log.specs.Cells.{resting}
use Rattle.device_log.specs.Log.{Call, OnlyReads}
use Rattle.device_log.proofs.Cells.{cell_after-reads}
use Rattle.mpb_store.specs.Banks.{AreRead, blank_sector, places_read, read_of, sector_after}
use Rattle.assembly.specs.Seen.{Looks}
use Rattle.refused_verdicts.specs.Told.{block_places, stood_on}

-- what stands after reads stood before them
pub stood_so : (opening : List (List Sector)) (log : List Call) (k : ℕ) → OnlyReads log → sector_after opening log k ≡ stood_on opening k
stood_so opening log k reads =
    λ i place. (cell_after-reads k place (resting (slice_index_or (slice_index_or opening k []) place blank_sector)) log reads i).stood

pub reads_append : (log more : List Call) → OnlyReads log → OnlyReads more → OnlyReads (log ++ more)
reads_append [] more first rest = rest
reads_append (call ∷ log) more first rest = (first.0, reads_append log more first.1 rest)

pub reads_front : (log more : List Call) → OnlyReads (log ++ more) → OnlyReads log
reads_front [] more reads = tt
reads_front (call ∷ log) more reads = (reads.0, reads_front log more reads.1)

these_read : (d : ℕ) (went : Bool) (places : List ℕ) → OnlyReads (map (read_of d went) places)
these_read d went [] = tt
these_read d went (p ∷ places) = (tt, these_read d went places)

pub are_reads : (d : ℕ) (places : List ℕ) (failed : Bool) (calls : List Call) → AreRead d places failed calls → OnlyReads calls
are_reads d places false calls reads = subst OnlyReads (sym reads) (these_read d true places)
are_reads d places true calls (k, stops) =
    subst OnlyReads (sym stops.reads) (reads_append _ _ (these_read d true (take k places)) (tt, tt))

-- these are the calls of looks at disks from disk k on, of which this says whether a read failed
abbrev pub LooksAre : List ℕ → List (List Sector) → ℕ → List Bool → List Call → Type 0
LooksAre sizes opening k [] calls = calls ≡ []
LooksAre sizes opening k (failed ∷ more) calls =
    (one rest : List Call) × (calls ≡ one ++ rest) × AreRead k (block_places opening sizes k) failed one
    × LooksAre sizes opening (k + 1) more rest

pub looks_read : (sizes : List ℕ) (opening : List (List Sector)) (k : ℕ) (failed : List Bool) (calls : List Call) → LooksAre sizes opening k failed calls → OnlyReads calls
looks_read sizes opening k [] calls none = subst OnlyReads (sym none) tt
looks_read sizes opening k (f ∷ failed) calls (one, rest, laid, reads, more) =
    subst OnlyReads (sym laid) (reads_append one rest (are_reads k (block_places opening sizes k) f one reads) (looks_read sizes opening (k + 1) failed rest more))

-- a log that is told behind looks
pub record ToldLooks (sizes : List ℕ) (opening : List (List Sector)) (k : ℕ) (old : Option (List Call)) (failed : List Bool) (all : List Call) : Type 0 where
  pub first : List Call
  pub calls : List Call
  pub was : old ≡ Some first
  pub laid : all ≡ first ++ calls
  pub are : OnlyReads first → LooksAre sizes opening k failed calls

pub looks_told : (sizes : List ℕ) (opening : List (List Sector)) (told : Option (List (List Sector))) (k : ℕ) (old : Option (List Call)) (failed : List Bool) (new : Option (List Call)) (all : List Call)
    → told ≡ Some opening → new ≡ Some all → Looks sizes told k old failed new → ToldLooks sizes opening k old failed all
looks_told sizes opening told k old [] new all stood logged keeps =
    record { first = all; calls = []; was = keeps all logged; laid = sym (append-nil all); are = λ reads. refl }
looks_told sizes opening told k old (f ∷ failed) new all stood logged (between, look, rest) =
    let more = looks_told sizes opening told (k + 1) between failed new all stood logged rest in
    let (first, calls, anchor, was, laid, reads, stands) = look more.first more.was in
    let n = slice_index sizes k in
    let one_reads : OnlyReads calls = are_reads k (places_read n anchor) f calls reads in
    record {
      first = first;
      calls = calls ++ more.calls;
      was = was;
      laid = more.laid ∙ ap (λ (l : List Call). l ++ more.calls) laid ∙ append_assoc first calls more.calls;
      are = λ first_reads.
          let mid_reads : OnlyReads more.first = subst OnlyReads (sym laid) (reads_append first calls first_reads one_reads) in
          let same : anchor ≡ (stood_on opening k (anchor_place n)).0 =
          stands opening stood ∙ ap (λ (at : ℕ → Sector). (at (anchor_place n)).0) (stood_so opening more.first k mid_reads) in
          (calls, more.calls, refl, subst (λ (a : List ℕ). AreRead k (places_read n a) f calls) same reads, more.are mid_reads);
    }
