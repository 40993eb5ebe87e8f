-- What the calls of a block that is laid down leave on each disk.
use Rattle.std.proofs.Common.{◌≡◌, ◌≢◌, ℕ, zero, suc, ◌+◌, ◌-◌, ◌*◌, ◌/◌, ◌<◌, ◌≤◌, min, Bool, true, false, cond, ◌⊎◌, inl, inr, List, [], ◌∷◌, ◌++◌, length, map, drop, get_or, refl, sym, ◌∙◌, ap, subst, arith}
use Rattle.std.specs.Prelude.{◌==◌}
use Rattle.std.specs.List.{range_with_len, flat_map, slice_range}
use Rattle.std.proofs.lemmas.Bool.{ne_eqb, cases_lt}
use Rattle.std.proofs.lemmas.Bool.Decides.{nat_tests}
use Rattle.std.proofs.lemmas.List.{length-replicate, get_or-replicate, get_or-take, get_or-drop, length-take, length-drop}
use Rattle.std.proofs.lemmas.List.FromFn.{length-map-range_with_len, get_or-map-range_with_len}
use Rattle.units.specs.declared.disk.Sector.{Sector}
use Rattle.units.specs.Places.{anchor_place, extended_count}
use Rattle.device_log.specs.Log.{Call}
use Rattle.mpb_store.specs.declared.writing.Step.{Step}
use Rattle.mpb_store.specs.declared.writing.Step.TheVariants.{Extended, Anchor, Sync, Over}
use Rattle.mpb_store.specs.Banks.{blank_sector}
use Rattle.mpb_store.specs.Sectors.{block_sector, block_sectors}
use Rattle.mpb_store.specs.Writing.{steps_of}
use Rattle.image_create.specs.Calls.{write_call, sync_call, zero_sectors, piece_call, piece_count, row_calls, zero_calls, step_calls, block_calls}
use Rattle.image_create.specs.Laid.{first_place}
use Rattle.image_create.proofs.Turned.{Stays, Becomes, stays_none, stays_both, becomes_behind, becomes_before, stays_other, stays_sync, stays_below, stays_above, becomes_here, stays_map, stays_each}
use Rattle.image_create.proofs.Zeroed.{rows_at}

-- ZEROS

zeros_here : (d place p count : ℕ) → place ≤ p → p < place + count → Becomes d p (write_call d place (zero_sectors count) ∷ []) blank_sector
zeros_here d place p count from below =
    subst (Becomes d p (write_call d place (zero_sectors count) ∷ [])) (get_or-replicate count (p - place) blank_sector blank_sector (omega arith))
    (becomes_here d place p (p - place) (zero_sectors count) blank_sector (omega arith) (omega (arith, length-replicate count blank_sector)))

zeros_above : (d place p count : ℕ) → place + count ≤ p → Stays d p (write_call d place (zero_sectors count) ∷ [])
zeros_above d place p count above = stays_above d place p (zero_sectors count) (omega (arith, length-replicate count blank_sector))

rows_zeroed : (d rows p : ℕ) → p < rows → Becomes d p (row_calls d rows) blank_sector
rows_zeroed d rows p below =
    let k : ℕ = p / 16 in
    let inside : k < piece_count rows = omega arith in
    let rest : List Call = map (piece_call d rows) (range_with_len (k + 1) (piece_count rows - k - 1)) in
    subst (λ (x : List Call). Becomes d p x blank_sector) (sym (rows_at d rows k inside))
    (becomes_behind (map (piece_call d rows) (range_with_len 0 k)) (piece_call d rows k ∷ rest)
    (becomes_before (piece_call d rows k ∷ []) rest (zeros_here d (16 * k) p (min 16 (rows - 16 * k)) (omega arith) (omega arith))
    (stays_map (piece_call d rows) (k + 1) (piece_count rows - k - 1)
    (λ j from to. stays_below d (16 * j) p (zero_sectors (min 16 (rows - 16 * j))) (omega arith)))))

rows_over : (d rows p : ℕ) → rows ≤ p → Stays d p (row_calls d rows)
rows_over d rows p above =
    stays_map (piece_call d rows) 0 (piece_count rows) (λ j from to. zeros_above d (16 * j) p (min 16 (rows - 16 * j)) (omega arith))

-- disk k's zeros are on disk k
pub zeros_other : (d p rows k m : ℕ) → k ≢ d → Stays d p (zero_calls rows k m)
zeros_other d p rows k m other =
    stays_both (row_calls k rows) (write_call k (anchor_place m) (zero_sectors 1) ∷ sync_call k ∷ [])
    (stays_map (piece_call k rows) 0 (piece_count rows) (λ j from to. stays_other k d p (piece_call k rows j).what other))
    (stays_both (write_call k (anchor_place m) (zero_sectors 1) ∷ []) (sync_call k ∷ []) (stays_other k d p (write_call k (anchor_place m) (zero_sectors 1)).what other) (stays_sync d k p))

pub zeroed : (d rows n p : ℕ) → rows + 18 ≤ n → p < rows → Becomes d p (zero_calls rows d n) blank_sector
zeroed d rows n p room below =
    becomes_before (row_calls d rows) (write_call d (anchor_place n) (zero_sectors 1) ∷ sync_call d ∷ []) (rows_zeroed d rows p below)
    (stays_both (write_call d (anchor_place n) (zero_sectors 1) ∷ []) (sync_call d ∷ []) (stays_below d (anchor_place n) p (zero_sectors 1) (omega arith)) (stays_sync d d p))

pub unzeroed : (d rows n p : ℕ) → rows ≤ p → p ≢ anchor_place n → Stays d p (zero_calls rows d n)
unzeroed d rows n p above other =
    stays_both (row_calls d rows) (write_call d (anchor_place n) (zero_sectors 1) ∷ sync_call d ∷ []) (rows_over d rows p above)
    (stays_both (write_call d (anchor_place n) (zero_sectors 1) ∷ []) (sync_call d ∷ []) (at (cases_lt p (anchor_place n))) (stays_sync d d p))
  where
    at : (p < anchor_place n) ⊎ (anchor_place n ≤ p) → Stays d p (write_call d (anchor_place n) (zero_sectors 1) ∷ [])
    at (inl low) = stays_below d (anchor_place n) p (zero_sectors 1) low
    at (inr high) = zeros_above d (anchor_place n) p 1 (omega arith)

-- THE BLOCK

length-sectors : (bytes : List ℕ) → length (block_sectors bytes) ≡ 16
unfolding block_sectors
length-sectors bytes = length-map-range_with_len (block_sector bytes) 0 16

sector_at : (bytes : List ℕ) (j : ℕ) → j < 16 → get_or (block_sectors bytes) j blank_sector ≡ block_sector bytes j
unfolding block_sectors
sector_at bytes j few = get_or-map-range_with_len (block_sector bytes) 0 16 j j blank_sector few (omega arith)

-- the sectors of a step
part_long : (bytes : List ℕ) (a b : ℕ) → a ≤ b → b ≤ 16 → length (slice_range (block_sectors bytes) a b) ≡ b - a
part_long bytes a b order few =
    omega (arith, length-take (b - a) (drop a (block_sectors bytes)), length-drop a (block_sectors bytes), length-sectors bytes)

part_at : (bytes : List ℕ) (a b j : ℕ) → a + j < b → b ≤ 16 → get_or (slice_range (block_sectors bytes) a b) j blank_sector ≡ block_sector bytes (a + j)
part_at bytes a b j below few =
    get_or-take (b - a) (drop a (block_sectors bytes)) j blank_sector (omega arith)
    ∙ get_or-drop a (block_sectors bytes) j blank_sector
    ∙ sector_at bytes (a + j) (omega arith)

-- disk k's block is on disk k
step_other : (d p k : ℕ) (sectors : List Sector) (step : Step) → k ≢ d → Stays d p (step_calls k sectors step)
step_other d p k sectors (Extended place count) other = stays_other k d p (write_call k place (slice_range sectors 1 (1 + count))).what other
step_other d p k sectors (Anchor place) other = stays_other k d p (write_call k place (slice_range sectors 0 1)).what other
step_other d p k sectors Sync other = stays_sync d k p
step_other d p k sectors Over other = stays_none d p

pub block_other : (d p : ℕ) (sectors : List Sector) (size k m : ℕ) → k ≢ d → Stays d p (block_calls sectors size k m)
block_other d p sectors size k m other = stays_each (step_calls k sectors) (steps_of size m) (λ step. step_other d p k sectors step other)

-- the calls of a block without and with an extended part
block_short : (d : ℕ) (sectors : List Sector) (size n : ℕ) → extended_count size ≡ 0
    → block_calls sectors size d n ≡ write_call d (anchor_place n) (slice_range sectors 0 1) ∷ sync_call d ∷ []
block_short d sectors size n none =
    ap (λ (b : Bool). flat_map (step_calls d sectors) ((cond b [] (Extended (anchor_place n - extended_count size) (extended_count size) ∷ [])) ++ Anchor (anchor_place n) ∷ Sync ∷ []))
    (let same : (extended_count size == 0) ≡ true = grind (arith, nat_tests) in same)

block_long : (d : ℕ) (sectors : List Sector) (size n : ℕ) → 0 < extended_count size
    → block_calls sectors size d n ≡ write_call d (anchor_place n - extended_count size) (slice_range sectors 1 (1 + extended_count size)) ∷ write_call d (anchor_place n) (slice_range sectors 0 1) ∷ sync_call d ∷ []
block_long d sectors size n some =
    ap (λ (b : Bool). flat_map (step_calls d sectors) ((cond b [] (Extended (anchor_place n - extended_count size) (extended_count size) ∷ [])) ++ Anchor (anchor_place n) ∷ Sync ∷ []))
    (let same : (extended_count size == 0) ≡ false = ne_eqb (extended_count size) 0 (λ is. omega arith) in same)

by_count : (e : ℕ) (P : Type 0) → (e ≡ 0 → P) → (0 < e → P) → P
by_count zero P none some = none refl
by_count (suc k) P none some = some (omega arith)

anchor_written : (d n : ℕ) (bytes : List ℕ) → Becomes d (anchor_place n) (write_call d (anchor_place n) (slice_range (block_sectors bytes) 0 1) ∷ sync_call d ∷ []) (block_sector bytes 0)
anchor_written d n bytes =
    becomes_before (write_call d (anchor_place n) (slice_range (block_sectors bytes) 0 1) ∷ []) (sync_call d ∷ [])
    (subst (Becomes d (anchor_place n) (write_call d (anchor_place n) (slice_range (block_sectors bytes) 0 1) ∷ [])) (part_at bytes 0 1 0 (omega arith) (omega arith))
    (becomes_here d (anchor_place n) (anchor_place n) 0 (slice_range (block_sectors bytes) 0 1) blank_sector (omega arith) (omega (arith, part_long bytes 0 1 (omega arith) (omega arith)))))
    (stays_sync d d (anchor_place n))

anchor_over : (d n p : ℕ) (bytes : List ℕ) → p ≢ anchor_place n → Stays d p (write_call d (anchor_place n) (slice_range (block_sectors bytes) 0 1) ∷ sync_call d ∷ [])
anchor_over d n p bytes other =
    stays_both (write_call d (anchor_place n) (slice_range (block_sectors bytes) 0 1) ∷ []) (sync_call d ∷ []) (at (cases_lt p (anchor_place n))) (stays_sync d d p)
  where
    at : (p < anchor_place n) ⊎ (anchor_place n ≤ p) → Stays d p (write_call d (anchor_place n) (slice_range (block_sectors bytes) 0 1) ∷ [])
    at (inl low) = stays_below d (anchor_place n) p (slice_range (block_sectors bytes) 0 1) low
    at (inr high) = stays_above d (anchor_place n) p (slice_range (block_sectors bytes) 0 1) (omega (arith, part_long bytes 0 1 (omega arith) (omega arith)))

pub block_anchor : (d n : ℕ) (bytes : List ℕ) → Becomes d (anchor_place n) (block_calls (block_sectors bytes) (length bytes) d n) (block_sector bytes 0)
block_anchor d n bytes = by_count e _ short long where
  e : ℕ
  e = extended_count (length bytes)

  short : e ≡ 0 → Becomes d (anchor_place n) (block_calls (block_sectors bytes) (length bytes) d n) (block_sector bytes 0)
  short none =
      subst (λ (x : List Call). Becomes d (anchor_place n) x (block_sector bytes 0)) (sym (block_short d (block_sectors bytes) (length bytes) n none)) (anchor_written d n bytes)

  long : 0 < e → Becomes d (anchor_place n) (block_calls (block_sectors bytes) (length bytes) d n) (block_sector bytes 0)
  long some =
      subst (λ (x : List Call). Becomes d (anchor_place n) x (block_sector bytes 0)) (sym (block_long d (block_sectors bytes) (length bytes) n some))
      (becomes_behind (write_call d (anchor_place n - e) (slice_range (block_sectors bytes) 1 (1 + e)) ∷ []) (write_call d (anchor_place n) (slice_range (block_sectors bytes) 0 1) ∷ sync_call d ∷ [])
      (anchor_written d n bytes))

pub block_extended : (d n p : ℕ) (bytes : List ℕ) → length bytes ≤ 8192 → first_place n bytes ≤ p → p < anchor_place n
    → Becomes d p (block_calls (block_sectors bytes) (length bytes) d n) (block_sector bytes (p - first_place n bytes + 1))
block_extended d n p bytes most from below =
    subst (λ (x : List Call). Becomes d p x (block_sector bytes (p - first_place n bytes + 1))) (sym (block_long d (block_sectors bytes) (length bytes) n (omega arith)))
    (becomes_before (write_call d (anchor_place n - e) part ∷ []) (write_call d (anchor_place n) (slice_range (block_sectors bytes) 0 1) ∷ sync_call d ∷ [])
    (subst (Becomes d p (write_call d (anchor_place n - e) part ∷ []))
    (part_at bytes 1 (1 + e) (p - first_place n bytes) (omega arith) (omega arith) ∙ ap (block_sector bytes) (let same : 1 + (p - first_place n bytes) ≡ p - first_place n bytes + 1 = omega arith in same))
    (becomes_here d (anchor_place n - e) p (p - first_place n bytes) part blank_sector (omega arith) (omega (arith, part_long bytes 1 (1 + e) (omega arith) (omega arith)))))
    (anchor_over d n p bytes (λ same. omega arith)))
  where
    e : ℕ
    e = extended_count (length bytes)

    part : List Sector
    part = slice_range (block_sectors bytes) 1 (1 + extended_count (length bytes))

pub block_over : (d n p : ℕ) (bytes : List ℕ) → length bytes ≤ 8192 → 17 ≤ n → (p < first_place n bytes) ⊎ (anchor_place n < p) → Stays d p (block_calls (block_sectors bytes) (length bytes) d n)
block_over d n p bytes most room away = by_count e _ short long where
  e : ℕ
  e = extended_count (length bytes)

  part : List Sector
  part = slice_range (block_sectors bytes) 1 (1 + extended_count (length bytes))

  other : (p < first_place n bytes) ⊎ (anchor_place n < p) → p ≢ anchor_place n
  other (inl low) same = omega arith
  other (inr high) same = omega arith

  extended : (p < first_place n bytes) ⊎ (anchor_place n < p) → Stays d p (write_call d (anchor_place n - e) part ∷ [])
  extended (inl low) = stays_below d (anchor_place n - e) p part low
  extended (inr high) = stays_above d (anchor_place n - e) p part (omega (arith, part_long bytes 1 (1 + e) (omega arith) (omega arith)))

  short : e ≡ 0 → Stays d p (block_calls (block_sectors bytes) (length bytes) d n)
  short none = subst (Stays d p) (sym (block_short d (block_sectors bytes) (length bytes) n none)) (anchor_over d n p bytes (other away))

  long : 0 < e → Stays d p (block_calls (block_sectors bytes) (length bytes) d n)
  long some =
      subst (Stays d p) (sym (block_long d (block_sectors bytes) (length bytes) n some))
      (stays_both (write_call d (anchor_place n - e) part ∷ []) (write_call d (anchor_place n) (slice_range (block_sectors bytes) 0 1) ∷ sync_call d ∷ []) (extended away) (anchor_over d n p bytes (other away)))
