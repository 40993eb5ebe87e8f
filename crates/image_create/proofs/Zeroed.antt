-- The pieces of zeros, one more at a time.
use Rattle.std.proofs.Common.{◌≡◌, ℕ, ◌+◌, ◌-◌, ◌*◌, ◌<◌, min, List, [], ◌∷◌, ◌++◌, map, take, Option, sym, ◌∙◌, ap, subst, arith}
use Rattle.std.specs.List.{range_with_len}
use Rattle.std.proofs.lemmas.List.{append_assoc, map-append, take-replicate}
use Rattle.units.specs.declared.disk.Sector.{Sector}
use Rattle.units.specs.Places.{anchor_place}
use Rattle.device_log.specs.Log.{Call}
use Rattle.member_bank.specs.Told.{LogsAll}
use Rattle.mpb_store.specs.Banks.{blank_sector}
use Rattle.image_create.specs.Calls.{write_call, sync_call, zero_sectors, piece_call, piece_count, row_calls, zero_calls}
use Rattle.image_create.specs.Stops.{StopsAt}
use Rattle.image_create.proofs.Disks.{range_split, range_at}
use Rattle.image_create.proofs.Making.{logs_both, stops_behind, stops_before}

pub rows_at : (d rows k : ℕ) → k < piece_count rows
    → row_calls d rows ≡ map (piece_call d rows) (range_with_len 0 k) ++ (piece_call d rows k ∷ map (piece_call d rows) (range_with_len (k + 1) (piece_count rows - k - 1)))
rows_at d rows k below =
    ap (map (piece_call d rows)) (range_at (piece_count rows) k below)
    ∙ map-append (piece_call d rows) (range_with_len 0 k) (k ∷ range_with_len (k + 1) (piece_count rows - k - 1))

piece_zeros : (rows k count : ℕ) (zeros : List Sector) → zeros ≡ zero_sectors 16 → count ≡ min 16 (rows - 16 * k) → take count zeros ≡ zero_sectors (min 16 (rows - 16 * k))
piece_zeros rows k count zeros blank is =
    ap (take count) blank ∙ take-replicate count 16 blank_sector (omega arith) ∙ ap zero_sectors is

-- one more piece went through
pub piece_made : {a b c : Option (List Call)} (d rows k : ℕ) (count : ℕ) (zeros : List Sector) → zeros ≡ zero_sectors 16 → count ≡ min 16 (rows - 16 * k)
    → LogsAll a b (map (piece_call d rows) (range_with_len 0 k)) → LogsAll b c (write_call d (16 * k) (take count zeros) ∷ []) → LogsAll a c (map (piece_call d rows) (range_with_len 0 (k + 1)))
piece_made {a} {b} {c} d rows k count zeros blank is before now =
    let piece : LogsAll b c (piece_call d rows k ∷ []) = subst (λ (x : List Sector). LogsAll b c (write_call d (16 * k) x ∷ [])) (piece_zeros rows k count zeros blank is) now in
    let here : 0 + k ≡ k = omega arith in
    subst (LogsAll a c)
    (sym (ap (map (piece_call d rows)) (range_split 0 k 1 ∙ ap (λ (x : ℕ). range_with_len 0 k ++ x ∷ []) here) ∙ map-append (piece_call d rows) (range_with_len 0 k) (k ∷ [])))
    (logs_both (map (piece_call d rows) (range_with_len 0 k)) (piece_call d rows k ∷ []) before piece)

-- one more piece failed
pub piece_stopped : {a b c : Option (List Call)} (d rows k : ℕ) (count : ℕ) (zeros : List Sector) → zeros ≡ zero_sectors 16 → count ≡ min 16 (rows - 16 * k) → k < piece_count rows
    → LogsAll a b (map (piece_call d rows) (range_with_len 0 k)) → StopsAt b c (write_call d (16 * k) (take count zeros) ∷ []) d → StopsAt a c (row_calls d rows) d
piece_stopped {a} {b} {c} d rows k count zeros blank is below before now =
    let piece : StopsAt b c (piece_call d rows k ∷ []) d = subst (λ (x : List Sector). StopsAt b c (write_call d (16 * k) x ∷ []) d) (piece_zeros rows k count zeros blank is) now in
    let rest : List Call = map (piece_call d rows) (range_with_len (k + 1) (piece_count rows - k - 1)) in
    subst (λ (x : List Call). StopsAt a c x d) (sym (rows_at d rows k below))
    (stops_behind (map (piece_call d rows) (range_with_len 0 k)) (piece_call d rows k ∷ rest) before (stops_before (piece_call d rows k ∷ []) rest piece))

-- A WHOLE DISK

-- the write of zeros at the anchor's place
anchor_zeros : (d n place : ℕ) (zeros : List Sector) → place ≡ anchor_place n → zeros ≡ zero_sectors 16 → write_call d place (take 1 zeros) ≡ write_call d (anchor_place n) (zero_sectors 1)
anchor_zeros d n place zeros there blank =
    ap (λ (p : ℕ). write_call d p (take 1 zeros)) there ∙ ap (λ (x : List Sector). write_call d (anchor_place n) (take 1 x)) blank

pub rows_stopped : {a b : Option (List Call)} (rows d n : ℕ) → StopsAt a b (row_calls d rows) d → StopsAt a b (zero_calls rows d n) d
rows_stopped rows d n now = stops_before (row_calls d rows) (write_call d (anchor_place n) (zero_sectors 1) ∷ sync_call d ∷ []) now

pub anchor_stopped : {a b c : Option (List Call)} (rows d n place : ℕ) (zeros : List Sector) → place ≡ anchor_place n → zeros ≡ zero_sectors 16
    → LogsAll a b (row_calls d rows) → StopsAt b c (write_call d place (take 1 zeros) ∷ []) d → StopsAt a c (zero_calls rows d n) d
anchor_stopped {a} {b} {c} rows d n place zeros there blank before now =
    stops_behind (row_calls d rows) (write_call d (anchor_place n) (zero_sectors 1) ∷ sync_call d ∷ []) before
    (stops_before (write_call d (anchor_place n) (zero_sectors 1) ∷ []) (sync_call d ∷ [])
    (subst (λ (x : Call). StopsAt b c (x ∷ []) d) (anchor_zeros d n place zeros there blank) now))

-- the rows and the anchor's place have their zeros
unsynced : {a b c : Option (List Call)} (rows d n place : ℕ) (zeros : List Sector) → place ≡ anchor_place n → zeros ≡ zero_sectors 16
    → LogsAll a b (row_calls d rows) → LogsAll b c (write_call d place (take 1 zeros) ∷ []) → LogsAll a c (row_calls d rows ++ write_call d (anchor_place n) (zero_sectors 1) ∷ [])
unsynced {a} {b} {c} rows d n place zeros there blank before now =
    logs_both (row_calls d rows) (write_call d (anchor_place n) (zero_sectors 1) ∷ []) before
    (subst (λ (x : Call). LogsAll b c (x ∷ [])) (anchor_zeros d n place zeros there blank) now)

joined : (rows d n : ℕ) → (row_calls d rows ++ write_call d (anchor_place n) (zero_sectors 1) ∷ []) ++ sync_call d ∷ [] ≡ zero_calls rows d n
joined rows d n = append_assoc (row_calls d rows) (write_call d (anchor_place n) (zero_sectors 1) ∷ []) (sync_call d ∷ [])

pub disk_zeroed : {a b c e : Option (List Call)} (rows d n place : ℕ) (zeros : List Sector) → place ≡ anchor_place n → zeros ≡ zero_sectors 16
    → LogsAll a b (row_calls d rows) → LogsAll b c (write_call d place (take 1 zeros) ∷ []) → LogsAll c e (sync_call d ∷ []) → LogsAll a e (zero_calls rows d n)
disk_zeroed {a} {b} {c} {e} rows d n place zeros there blank before now last =
    subst (LogsAll a e) (joined rows d n)
    (logs_both (row_calls d rows ++ write_call d (anchor_place n) (zero_sectors 1) ∷ []) (sync_call d ∷ []) (unsynced rows d n place zeros there blank before now) last)

pub disk_unsynced : {a b c e : Option (List Call)} (rows d n place : ℕ) (zeros : List Sector) → place ≡ anchor_place n → zeros ≡ zero_sectors 16
    → LogsAll a b (row_calls d rows) → LogsAll b c (write_call d place (take 1 zeros) ∷ []) → StopsAt c e (sync_call d ∷ []) d → StopsAt a e (zero_calls rows d n) d
disk_unsynced {a} {b} {c} {e} rows d n place zeros there blank before now last =
    subst (λ (x : List Call). StopsAt a e x d) (joined rows d n)
    (stops_behind (row_calls d rows ++ write_call d (anchor_place n) (zero_sectors 1) ∷ []) (sync_call d ∷ []) (unsynced rows d n place zeros there blank before now) last)
