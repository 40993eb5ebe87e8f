-- What stands at the places of a disk behind a write of several sectors.
use Rattle.std.proofs.Common.{◌≡◌, ℕ, zero, suc, ◌+◌, ◌-◌, ◌<◌, ◌≤◌, ◌==◌, nat_lt, Bool, true, false, cond, List, [], ◌∷◌, length, refl, ap, ◌∙◌, arith}
use Rattle.std.proofs.lemmas.Bool.Decides.{nat_tests}
use Rattle.units.specs.declared.disk.Sector.{Sector}
use Rattle.units.specs.declared.bounds.TheConstants.{METADATA_SECTORS}
use Rattle.units.specs.Places.{anchor_place}
use Rattle.device_log.specs.Log.{What}
use Rattle.device_log.specs.Cells.{Cell, brought, cell_written, cell_at}
use Rattle.device_log.proofs.Cells.{synced_stood}
use Rattle.array_model.specs.Blocks.{Laid, Words}
use Rattle.array_model.specs.Candidates.{standing_from}
use Rattle.array_disks.specs.Calls.{RowCall, row_read, row_write, row_sync, FitsEnd, extended_write, anchor_write}

-- at place p of a cell c, where the first sector of a write at a place is the one for p, or isn't
abbrev written_first : Bool → Cell → (place : ℕ) → Sector → List Sector → (stored p : ℕ) → Cell
written_first here c place s ss stored p =
    cell_written (cond here (brought c s (nat_lt 0 stored)) c) (place + 1) ss (stored - 1) p

-- a write leaves the places before it and behind it
pub written_before : (c : Cell) (place : ℕ) (ss : List Sector) (stored p : ℕ) → p < place
    → cell_written c place ss stored p ≡ c
written_before c place [] stored p lt = refl
written_before c place (s ∷ ss) stored p lt =
    let apart : (place == p) ≡ false = grind (arith, nat_tests, lt) in
    ap (λ b. written_first b c place s ss stored p) apart
    ∙ written_before c (place + 1) ss (stored - 1) p (omega (arith, lt))

-- and those behind it
pub written_behind : (c : Cell) (place : ℕ) (ss : List Sector) (stored p : ℕ) → place + length ss ≤ p
    → cell_written c place ss stored p ≡ c
written_behind c place [] stored p le = refl
written_behind c place (s ∷ ss) stored p le =
    let apart : (place == p) ≡ false = grind (arith, nat_tests, le) in
    ap (λ b. written_first b c place s ss stored p) apart
    ∙ written_behind c (place + 1) ss (stored - 1) p (omega (arith, le))

-- the same stands where each place holds the same
pub standing_alike : (f g : ℕ → Cell) (place count : ℕ)
    → ((p : ℕ) → place ≤ p → p < place + count → (f p).stood ≡ (g p).stood)
    → standing_from f place count ≡ standing_from g place count
standing_alike f g place zero same = refl
standing_alike f g place (suc count) same =
    let first = same place (omega arith) (omega arith) in
    let later = λ (p : ℕ) (from : place + 1 ≤ p) (to : p < place + 1 + count).
    same p (omega (arith, from)) (omega (arith, to)) in
    let rest = standing_alike f g (place + 1) count later in
    cc (first, rest)

-- as many sectors stand as are asked for
pub standing_length : (cells : ℕ → Cell) (place count : ℕ) → length (standing_from cells place count) ≡ count
standing_length cells place zero = refl
standing_length cells place (suc count) = ap suc (standing_length cells (place + 1) count)

-- what was wholly stored stands
pub written_stands : (cells : ℕ → Cell) (place : ℕ) (ss : List Sector) (stored : ℕ) → length ss ≤ stored
    → standing_from (λ p. cell_written (cells p) place ss stored p) place (length ss) ≡ ss
written_stands cells place [] stored le = refl
written_stands cells place (s ∷ ss) stored le =
    let here : (place == place) ≡ true = grind (arith, nat_tests) in
    let some : nat_lt 0 stored ≡ true = grind (arith, nat_tests, le) in
    let now = brought (cells place) s (nat_lt 0 stored) in
    let first : (cell_written (cells place) place (s ∷ ss) stored place).stood ≡ s =
    ap (λ b. (written_first b (cells place) place s ss stored place).stood) here
    ∙ ap (λ (c : Cell). c.stood) (written_before now (place + 1) ss (stored - 1) place (omega arith))
    ∙ ap (λ b. (brought (cells place) s b).stood) some in
    let all : ℕ → Cell = λ p. cell_written (cells p) place (s ∷ ss) stored p in
    let less : ℕ → Cell = λ p. cell_written (cells p) (place + 1) ss (stored - 1) p in
    let same = λ (p : ℕ) (from : place + 1 ≤ p) (to : p < place + 1 + length ss).
    let apart : (place == p) ≡ false = grind (arith, nat_tests, from) in
    ap (λ b. (written_first b (cells p) place s ss stored p).stood) apart in
    let rest : standing_from all (place + 1) (length ss) ≡ ss =
    standing_alike all less (place + 1) (length ss) same
    ∙ written_stands cells (place + 1) ss (stored - 1) (omega (arith, le)) in
    cc (first, rest)

-- CALLS OF A RUN

-- a call at rows leaves what stands in the sectors that are kept for metadata
pub row_stands : (n : ℕ) (c : Cell) (what : What) (went : Bool) → RowCall n what → (p : ℕ) → n ≤ p + METADATA_SECTORS
    → (cell_at p c what went).stood ≡ c.stood
row_stands n c _ went (row_read place) p le = refl
row_stands n c _ went (row_write place ss stored before) p le =
    ap (λ (x : Cell). x.stood) (written_behind c place ss stored p (omega (arith, before, le)))
row_stands n c _ went row_sync p le = synced_stood c went

-- the writes of a block leave the places before those sectors, and that of its extended sectors the anchor's place
pub extended_leaves : (W : Words) (n : ℕ) (c : Cell) (m : Laid) (stored : ℕ) (went : Bool) → FitsEnd W m
    → (p : ℕ) → p + METADATA_SECTORS < n → cell_at p c (extended_write n m stored) went ≡ c
extended_leaves W n c m stored went fits p lt =
    written_before c (anchor_place n - length m.extended) m.extended stored p (omega (arith, lt, fits.few))

-- that of an anchor leaves the places before it
pub anchor_leaves : (n : ℕ) (c : Cell) (m : Laid) (stored : ℕ) (went : Bool) (p : ℕ) → p < anchor_place n
    → cell_at p c (anchor_write n m stored) went ≡ c
anchor_leaves n c m stored went p lt = written_before c (anchor_place n) (m.anchor ∷ []) stored p lt

-- that of extended sectors leaves the place of the anchor
pub extended_stays : (W : Words) (n : ℕ) (c : Cell) (m : Laid) (stored : ℕ) (went : Bool)
    → METADATA_SECTORS ≤ n → FitsEnd W m → cell_at (anchor_place n) c (extended_write n m stored) went ≡ c
extended_stays W n c m stored went room fits =
    let count = length m.extended in
    let ends : anchor_place n - count + count ≤ anchor_place n = omega (arith, room, fits.few) in
    written_behind c (anchor_place n - count) m.extended stored (anchor_place n) ends

-- to which that of an anchor brings it, stored or not
pub anchor_brings : (n : ℕ) (c : Cell) (m : Laid) (stored : ℕ) (went : Bool)
    → cell_at (anchor_place n) c (anchor_write n m stored) went ≡ brought c m.anchor (nat_lt 0 stored)
anchor_brings n c m stored went =
    let here : (n - 2 == n - 2) ≡ true = grind (arith, nat_tests) in
    ap (λ b. cond b (brought c m.anchor (nat_lt 0 stored)) c) here
