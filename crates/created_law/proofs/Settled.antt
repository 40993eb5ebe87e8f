-- Behind the calls that make a container no place of its disks is loose.
use Rattle.std.proofs.Common.{◌≡◌, ◌≢◌, ℕ, zero, suc, ◌+◌, ◌-◌, ◌<◌, ◌≤◌, Bool, true, if◌then◌else◌, List, [], ◌∷◌, ◌++◌, length, refl, ap, ◌∙◌, arith}
use Rattle.std.specs.Prelude.{slice_index}
use Rattle.std.specs.List.{flat_map, range_with_len, slice_range}
use Rattle.std.proofs.lemmas.Bool.{eq-eqb, ne_eqb}
use Rattle.std.proofs.lemmas.Grind.{flat_map-append}
use Rattle.units.specs.declared.disk.Sector.{Sector}
use Rattle.units.specs.Places.{anchor_place}
use Rattle.device_log.specs.Log.{Call, What}
use Rattle.device_log.specs.Cells.{Cell, cell_after, cell_at, cell_called, resting}
use Rattle.device_log.proofs.Cells.{cell_after-append}
use Rattle.mpb_store.specs.declared.writing.Step.{Step}
use Rattle.mpb_store.specs.declared.writing.Step.TheVariants.{Extended, Anchor, Sync, Over}
use Rattle.mpb_store.specs.Sectors.{block_sectors}
use Rattle.mpb_store.specs.Writing.{extended_steps, steps_of}
use Rattle.image_create.specs.Calls.{block_calls, calls_on, create_calls, step_calls, sync_call, write_call, zero_calls}
use Rattle.image_create.proofs.Disks.{calls_on-at}

module _ (d p : ℕ) where
  -- calls that leave the place as it is
  record Passes (calls : List Call) : Type 0 where
    passes : (c : Cell) → cell_after d p c calls ≡ c

  passes_both : (xs ys : List Call) → Passes xs → Passes ys → Passes (xs ++ ys)
  passes_both xs ys first second = record { passes = λ c. cell_after-append d p c xs ys ∙ second.passes (cell_after d p c xs) ∙ first.passes c }

  passes_one : (k : ℕ) (what : What) → k ≢ d → Passes (record { disk = k; what = what; went = true } ∷ [])
  passes_one k what other = record { passes = λ c. ap (λ (b : Bool). if b then cell_at p c what true else c) (ne_eqb k d other) }

  passes_step : (k : ℕ) (sectors : List Sector) (step : Step) → k ≢ d → Passes (step_calls k sectors step)
  passes_step k sectors (Extended place count) other = passes_one k _ other
  passes_step k sectors (Anchor place) other = passes_one k _ other
  passes_step k sectors Sync other = passes_one k _ other
  passes_step k sectors Over other = record { passes = λ c. refl }

  passes_steps : (k : ℕ) (sectors : List Sector) (steps : List Step) → k ≢ d → Passes (flat_map (step_calls k sectors) steps)
  passes_steps k sectors [] other = record { passes = λ c. refl }
  passes_steps k sectors (step ∷ steps) other = passes_both (step_calls k sectors step) (flat_map (step_calls k sectors) steps) (passes_step k sectors step other) (passes_steps k sectors steps other)

  passes_range : (f : ℕ → List Call) (a n : ℕ) → ((k : ℕ) → a ≤ k → Passes (f k)) → Passes (flat_map f (range_with_len a n))
  passes_range f a zero each = record { passes = λ c. refl }
  passes_range f a (suc n) each = passes_both (f a) (flat_map f (range_with_len (a + 1) n)) (each a (omega arith)) (passes_range f (a + 1) n (λ k from. each k (omega (arith, from))))

  -- a sync leaves nothing loose
  synced : (c : Cell) (call : Call) → (cell_after d p c (call ∷ sync_call d ∷ [])).since ≡ []
  synced c call = ap (λ (b : Bool). (if b then resting (cell_called d p c call).stood else cell_called d p c call).since) (eq-eqb d d refl)

  block_synced : (c : Cell) (sectors : List Sector) (size n : ℕ) → (cell_after d p c (block_calls sectors size d n)).since ≡ []
  block_synced c sectors size n =
      let front : List Call = flat_map (step_calls d sectors) (extended_steps size n) in
      let last : List Call = flat_map (step_calls d sectors) (Anchor (anchor_place n) ∷ Sync ∷ []) in
      ap (λ (calls : List Call). (cell_after d p c calls).since) (flat_map-append (step_calls d sectors) (extended_steps size n) (Anchor (anchor_place n) ∷ Sync ∷ []))
      ∙ ap (λ (x : Cell). x.since) (cell_after-append d p c front last)
      ∙ synced (cell_after d p c front) (write_call d (anchor_place n) (slice_range sectors 0 1))

  pub create_synced : (c : Cell) (sizes : List ℕ) (rows : ℕ) (bytes : List ℕ) → d < length sizes → (cell_after d p c (create_calls sizes rows bytes)).since ≡ []
  create_synced c sizes rows bytes below =
      let calls : ℕ → ℕ → List Call = block_calls (block_sectors bytes) (length bytes) in
      let zeros : List Call = calls_on (zero_calls rows) sizes (length sizes) in
      let front : List Call = calls_on calls sizes d in
      let own : List Call = calls d (slice_index sizes d) in
      let rest : List Call = flat_map (λ k. calls k (slice_index sizes k)) (range_with_len (d + 1) (length sizes - d - 1)) in
      let now : Cell = cell_after d p (cell_after d p c zeros) front in
      ap (λ (x : Cell). x.since)
      (cell_after-append d p c zeros (calls_on calls sizes (length sizes))
      ∙ ap (cell_after d p (cell_after d p c zeros)) (calls_on-at calls sizes (length sizes) d below)
      ∙ cell_after-append d p (cell_after d p c zeros) front (own ++ rest)
      ∙ cell_after-append d p now own rest
      ∙ (passes_range (λ k. calls k (slice_index sizes k)) (d + 1) (length sizes - d - 1) (λ k from. passes_steps k (block_sectors bytes) (steps_of (length bytes) (slice_index sizes k)) (λ same. omega (arith, from, same)))).passes (cell_after d p now own))
      ∙ block_synced now (block_sectors bytes) (length bytes) (slice_index sizes d)
