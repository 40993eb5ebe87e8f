-- What stands on each disk after a block is laid down, and what is found there.
use Rattle.std.proofs.Common.{◌≡◌, ◌≢◌, ℕ, ◌+◌, ◌-◌, ◌<◌, ◌≤◌, ◌&&◌, ◌⊎◌, inl, inr, Bool, true, false, cond, List, [], ◌++◌, length, Option, Some, None, refl, sym, ◌∙◌, ap, subst, arith}
use Rattle.std.specs.Prelude.{◌==◌, nat_lt, nat_le, slice_index, slice_index_or, All}
use Rattle.std.proofs.lemmas.Bool.{ne_eqb, cases_lt, ltb-true, lt-ltb}
use Rattle.std.proofs.lemmas.Bool.Decides.{nat_tests}
use Rattle.std.proofs.lemmas.List.Elements.{All-get_or}
use Rattle.units.specs.declared.disk.Sector.{Sector}
use Rattle.imsm_base.specs.Parts.{block_in}
use Rattle.imsm_base.specs.Whole.{IsWholeDisk}
use Rattle.units.specs.Places.{anchor_place, extended_count}
use Rattle.device_log.specs.Log.{Call}
use Rattle.device_log.specs.Cells.{Cell, cell_after, resting}
use Rattle.member_bank.specs.Told.{LogsAll}
use Rattle.mpb_store.specs.declared.answer.Found.TheVariants.{Whole}
use Rattle.mpb_store.specs.Banks.{blank_sector, sector_after, IsAnswerOn}
use Rattle.mpb_store.specs.Sectors.{block_sector, block_sectors}
use Rattle.mpb_store.proofs.Standing.{answer_standing}
use Rattle.image_create.specs.Calls.{zero_calls, block_calls, calls_on, create_calls}
use Rattle.image_create.specs.Laid.{first_place, laid_sector, IsLaidDown, LaysDown}
use Rattle.image_create.proofs.Places.{zeroed, unzeroed, zeros_other, block_anchor, block_extended, block_over, block_other}
use Rattle.image_create.proofs.Turned.{Stays, Becomes, stays_both, becomes_behind, becomes_before, stays_all, becomes_all}
use Rattle.device_log.proofs.Cells.{cell_after-append}

-- PLACE P OF DISK D

pub record IsRoomy (sizes : List ℕ) (rows : ℕ) (bytes : List ℕ) (d : ℕ) : Type 0 where
  pub there : d < length sizes
  pub room : rows + 18 ≤ slice_index sizes d
  pub most : length bytes ≤ 8192

abbrev all_zeros : List ℕ → ℕ → List Call
all_zeros sizes rows = calls_on (zero_calls rows) sizes (length sizes)

abbrev all_blocks : List ℕ → List ℕ → List Call
all_blocks sizes bytes = calls_on (block_calls (block_sectors bytes) (length bytes)) sizes (length sizes)

block_becomes : (sizes : List ℕ) (rows : ℕ) (bytes : List ℕ) (d p : ℕ) (x : Sector) → IsRoomy sizes rows bytes d
    → Becomes d p (block_calls (block_sectors bytes) (length bytes) d (slice_index sizes d)) x → Becomes d p (create_calls sizes rows bytes) x
block_becomes sizes rows bytes d p x roomy own =
    becomes_behind (all_zeros sizes rows) (all_blocks sizes bytes)
    (becomes_all (block_calls (block_sectors bytes) (length bytes)) sizes (length sizes) (λ k m other. block_other d p (block_sectors bytes) (length bytes) k m other) own roomy.there)

block_stays : (sizes : List ℕ) (rows : ℕ) (bytes : List ℕ) (d p : ℕ) → IsRoomy sizes rows bytes d
    → (p < first_place (slice_index sizes d) bytes) ⊎ (anchor_place (slice_index sizes d) < p) → Stays d p (all_blocks sizes bytes)
block_stays sizes rows bytes d p roomy away =
    stays_all (block_calls (block_sectors bytes) (length bytes)) sizes (length sizes) (λ k m other. block_other d p (block_sectors bytes) (length bytes) k m other)
    (block_over d (slice_index sizes d) p bytes roomy.most (let room : rows + 18 ≤ slice_index sizes d = roomy.room in omega arith) away) roomy.there

row_becomes : (sizes : List ℕ) (rows : ℕ) (bytes : List ℕ) (d p : ℕ) → IsRoomy sizes rows bytes d → p < rows → Becomes d p (create_calls sizes rows bytes) blank_sector
row_becomes sizes rows bytes d p roomy below =
    let room : rows + 18 ≤ slice_index sizes d = roomy.room in
    let most : length bytes ≤ 8192 = roomy.most in
    let low : p < first_place (slice_index sizes d) bytes = omega arith in
    becomes_before (all_zeros sizes rows) (all_blocks sizes bytes)
    (becomes_all (zero_calls rows) sizes (length sizes) (λ k m other. zeros_other d p rows k m other) (zeroed d rows (slice_index sizes d) p room below) roomy.there)
    (block_stays sizes rows bytes d p roomy (inl low))

place_stays : (sizes : List ℕ) (rows : ℕ) (bytes : List ℕ) (d p : ℕ) → IsRoomy sizes rows bytes d → rows ≤ p
    → (p < first_place (slice_index sizes d) bytes) ⊎ (anchor_place (slice_index sizes d) < p) → Stays d p (create_calls sizes rows bytes)
place_stays sizes rows bytes d p roomy above away =
    stays_both (all_zeros sizes rows) (all_blocks sizes bytes)
    (stays_all (zero_calls rows) sizes (length sizes) (λ k m other. zeros_other d p rows k m other) (unzeroed d rows (slice_index sizes d) p above (other away)) roomy.there)
    (block_stays sizes rows bytes d p roomy away)
  where
    other : (p < first_place (slice_index sizes d) bytes) ⊎ (anchor_place (slice_index sizes d) < p) → p ≢ anchor_place (slice_index sizes d)
    other (inl low) same = omega arith
    other (inr high) same = omega arith

-- what stands there is as it is to be
laid_at : (sizes : List ℕ) (rows : ℕ) (bytes : List ℕ) (d p : ℕ) (c : Cell) → IsRoomy sizes rows bytes d
    → (cell_after d p c (create_calls sizes rows bytes)).stood ≡ laid_sector (slice_index sizes d) rows bytes c.stood p
laid_at sizes rows bytes d p c roomy = in_rows (nat_lt p rows) refl where
  n : ℕ
  n = slice_index sizes d

  stood : Sector
  stood = (cell_after d p c (create_calls sizes rows bytes)).stood

  elsewhere : (b : Bool) → rows ≤ p → p ≢ anchor_place n → (nat_le (first_place n bytes) p && nat_lt p (anchor_place n)) ≡ b → stood ≡ cond b (block_sector bytes (p - first_place n bytes + 1)) c.stood
  elsewhere true above other is =
      let from : first_place n bytes ≤ p = grind (arith, nat_tests) in
      let below : p < anchor_place n = grind (arith, nat_tests) in
      (block_becomes sizes rows bytes d p _ roomy (block_extended d n p bytes roomy.most from below)).becomes c
  elsewhere false above other is = (place_stays sizes rows bytes d p roomy above (at (cases_lt p (first_place n bytes)))).stays c where
    at : (p < first_place n bytes) ⊎ (first_place n bytes ≤ p) → (p < first_place n bytes) ⊎ (anchor_place n < p)
    at (inl low) = inl low
    at (inr from) = inr (grind (arith, nat_tests))

  in_anchor : (b : Bool) → rows ≤ p → (p == anchor_place n) ≡ b
      → stood ≡ cond b (block_sector bytes 0) (cond (nat_le (first_place n bytes) p && nat_lt p (anchor_place n)) (block_sector bytes (p - first_place n bytes + 1)) c.stood)
  in_anchor true above is =
      let same : anchor_place n ≡ p = grind (arith, nat_tests) in
      (block_becomes sizes rows bytes d p _ roomy
      (subst (λ (q : ℕ). Becomes d q (block_calls (block_sectors bytes) (length bytes) d n) (block_sector bytes 0)) same (block_anchor d n bytes))).becomes c
  in_anchor false above is = elsewhere (nat_le (first_place n bytes) p && nat_lt p (anchor_place n)) above (grind (arith, nat_tests)) refl

  in_rows : (b : Bool) → nat_lt p rows ≡ b
      → stood ≡ cond b blank_sector (cond (p == anchor_place n) (block_sector bytes 0) (cond (nat_le (first_place n bytes) p && nat_lt p (anchor_place n)) (block_sector bytes (p - first_place n bytes + 1)) c.stood))
  in_rows true is = (row_becomes sizes rows bytes d p roomy (ltb-true p rows is)).becomes c
  in_rows false is = in_anchor (p == anchor_place n) (grind (arith, nat_tests)) refl

-- AFTER A LOG

sector_laid : (sizes : List ℕ) (rows : ℕ) (bytes : List ℕ) (opening : List (List Sector)) (before : List Call) (d p : ℕ) → IsRoomy sizes rows bytes d
    → sector_after opening (before ++ create_calls sizes rows bytes) d p ≡ laid_sector (slice_index sizes d) rows bytes (sector_after opening before d p) p
sector_laid sizes rows bytes opening before d p roomy =
    let first : Cell = resting (slice_index_or (slice_index_or opening d []) p blank_sector) in
    ap (λ (k : Cell). k.stood) (cell_after-append d p first before (create_calls sizes rows bytes)) ∙ laid_at sizes rows bytes d p (cell_after d p first before) roomy

-- the places of a block have its sectors
pub laid_anchor : (n rows : ℕ) (bytes : List ℕ) (before : Sector) → rows + 18 ≤ n → laid_sector n rows bytes before (anchor_place n) ≡ block_sector bytes 0
laid_anchor n rows bytes before room =
    let over : nat_lt (anchor_place n) rows ≡ false = grind (arith, nat_tests) in
    let here : (anchor_place n == anchor_place n) ≡ true = grind (arith, nat_tests) in
    ap (λ (b : Bool). cond b blank_sector (behind (anchor_place n == anchor_place n))) over ∙ ap behind here
  where
    behind : Bool → Sector
    behind b = cond b (block_sector bytes 0) (cond (nat_le (first_place n bytes) (anchor_place n) && nat_lt (anchor_place n) (anchor_place n)) (block_sector bytes (anchor_place n - first_place n bytes + 1)) before)

pub laid_extended : (n rows : ℕ) (bytes : List ℕ) (before : Sector) (k : ℕ) → rows + 18 ≤ n → length bytes ≤ 8192 → k < extended_count (length bytes)
    → laid_sector n rows bytes before (first_place n bytes + k) ≡ block_sector bytes (k + 1)
laid_extended n rows bytes before k room most few =
    let over : nat_lt p rows ≡ false = grind (arith, nat_tests) in
    let other : (p == anchor_place n) ≡ false = ne_eqb p (anchor_place n) (λ same. omega arith) in
    let from : nat_le (first_place n bytes) p ≡ true = grind (arith, nat_tests) in
    let below : nat_lt p (anchor_place n) ≡ true = lt-ltb p (anchor_place n) (omega arith) in
    ap (λ (b : Bool). cond b blank_sector (behind (p == anchor_place n) (nat_le (first_place n bytes) p && nat_lt p (anchor_place n)))) over
    ∙ ap (λ (b : Bool). behind b (nat_le (first_place n bytes) p && nat_lt p (anchor_place n))) other
    ∙ ap (λ (b : Bool). behind false (b && nat_lt p (anchor_place n))) from
    ∙ ap (λ (b : Bool). behind false (true && b)) below
    ∙ ap (block_sector bytes) (let same : p - first_place n bytes + 1 ≡ k + 1 = omega arith in same)
  where
    p : ℕ
    p = first_place n bytes + k

    behind : Bool → Bool → Sector
    behind anchor extended = cond anchor (block_sector bytes 0) (cond extended (block_sector bytes (p - first_place n bytes + 1)) before)

found_laid : (sizes : List ℕ) (rows : ℕ) (bytes : List ℕ) (opening : List (List Sector)) (before : List Call) (d : ℕ) (own : List ℕ) → IsRoomy sizes rows bytes d
    → IsWholeDisk own (slice_index sizes d) bytes (block_in bytes) → IsAnswerOn own (slice_index sizes d) (sector_after opening (before ++ create_calls sizes rows bytes) d) Whole bytes
found_laid sizes rows bytes opening before d own roomy whole =
    let n : ℕ = slice_index sizes d in
    answer_standing own n (sector_after opening (before ++ create_calls sizes rows bytes) d) bytes whole
    (sector_laid sizes rows bytes opening before d (anchor_place n) roomy ∙ laid_anchor n rows bytes (sector_after opening before d (anchor_place n)) roomy.room)
    (λ k few.
    sector_laid sizes rows bytes opening before d (first_place n bytes + k) roomy
    ∙ laid_extended n rows bytes (sector_after opening before d (first_place n bytes + k)) k roomy.room roomy.most few)

-- THE LAW: calls of this list, all gone through, lay the block down
pub laid_down : (sizes : List ℕ) (rows : ℕ) (bytes : List ℕ) (opening : List (List Sector)) (before : List Call) → ((d : ℕ) → d < length sizes → rows + 18 ≤ slice_index sizes d) → length bytes ≤ 8192
    → IsLaidDown sizes rows bytes opening before (before ++ create_calls sizes rows bytes)
laid_down sizes rows bytes opening before room most = record {
  sectors = λ d p there. sector_laid sizes rows bytes opening before d p (record { there = there; room = room d there; most = most });
  found = λ d own there whole. found_laid sizes rows bytes opening before d own (record { there = there; room = room d there; most = most }) whole;
}

-- the same of what a bank tells
pub lays_down : (sizes : List ℕ) (rows : ℕ) (bytes : List ℕ) (opening : Option (List (List Sector))) (old new : Option (List Call)) → All (λ n. rows + 18 ≤ n) sizes → length bytes ≤ 8192
    → LogsAll old new (create_calls sizes rows bytes) → LaysDown sizes rows bytes opening old new
lays_down sizes rows bytes None old new room most logs = tt
lays_down sizes rows bytes (Some o) None new room most logs = tt
lays_down sizes rows bytes (Some o) (Some before) None room most logs = tt
lays_down sizes rows bytes (Some o) (Some before) (Some now) room most logs =
    let told = logs now refl in
    subst (IsLaidDown sizes rows bytes o before) (sym (told.2 ∙ ap (λ (x : List Call). x ++ create_calls sizes rows bytes) (same_log told.0 before (sym told.1))))
    (laid_down sizes rows bytes o before (λ d there. All-get_or (λ n. rows + 18 ≤ n) sizes d 0 there room) most)
  where
    same_log : (x y : List Call) → Some x ≡ Some y → x ≡ y
    same_log x y same = cc
