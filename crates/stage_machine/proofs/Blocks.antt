-- What a call does to the metadata of one disk, where each block has one sector.
use Rattle.std.proofs.Common.{◌≡◌, ℕ, ◌+◌, ◌-◌, ◌≤◌, ◌==◌, Bool, true, false, nat_lt, nat_le, List, [], ◌∷◌, ◌++◌, refl, ap, sym, ◌∙◌, subst, arith, inl, inr, Some}
use Rattle.std.specs.Str.{bytes_eq}
use Rattle.std.proofs.lemmas.Bool.Decides.{nat_tests}
use Rattle.std.proofs.lemmas.Bool.{or_right}
use Rattle.units.specs.declared.disk.Sector.{Sector}
use Rattle.units.specs.declared.bounds.TheConstants.{METADATA_SECTORS}
use Rattle.units.specs.Places.{anchor_place}
use Rattle.device_log.specs.Log.{Call, Write}
use Rattle.device_log.specs.Cells.{Cell, brought, cell_at}
use Rattle.array_model.specs.Blocks.{Laid, Words, sectors_eq, laid_eq, block_of}
use Rattle.array_model.specs.Start.{Disks}
use Rattle.array_model.specs.Candidates.{Disk, In, is_among, NoPart, AnchorPart, part_of, with_block, written, standing, noted, disk_called, disk_from}

-- A LOG WITH ONE CALL MORE

pub disk-snoc : (W : Words) (disks : Disks) (d : ℕ) (k : Disk) (log : List Call) (call : Call)
    → disk_from W disks d k (log ++ call ∷ []) ≡ disk_called W disks d (disk_from W disks d k log) call
disk-snoc W disks d k [] call = refl
disk-snoc W disks d k (x ∷ log) call = disk-snoc W disks d (disk_called W disks d k x) log call

-- EQUAL BLOCKS

bytes_self : (xs : List ℕ) → bytes_eq xs xs ≡ true
bytes_self [] = refl
bytes_self (x ∷ xs) = let first : (x == x) ≡ true = grind (arith, nat_tests) in rw (first, bytes_self xs) refl

sectors_self : (ss : List Sector) → sectors_eq ss ss ≡ true
sectors_self [] = refl
sectors_self (s ∷ ss) = rw (bytes_self s.0, sectors_self ss) refl

laid_self : (m : Laid) → laid_eq m m ≡ true
laid_self m = rw (bytes_self m.anchor.0, sectors_self m.extended) refl

pub in_among : (m : Laid) (ms : List Laid) → In m ms → is_among m ms ≡ true
in_among m [] i = absurd i
in_among m (x ∷ xs) (inl same) = subst (λ y. is_among m (y ∷ xs) ≡ true) same (rw (laid_self m) refl)
in_among m (x ∷ xs) (inr i) = or_right (laid_eq m x) (is_among m xs) (in_among m xs i)

-- ONE SECTOR

pub record IsAlone (W : Words) (m : Laid) : Type 0 where
  pub extra : W.extra m.anchor ≡ 0
  pub short : m.extended ≡ []

pub is_alone : (W : Words) (m : Laid) → IsAlone W m → m ≡ record { anchor = m.anchor; extended = [] }
is_alone W m h = ap (λ (x : List Sector). record { anchor = m.anchor; extended = x }) h.short

-- the block that stands where this anchor does
pub standing_is : (W : Words) (n : ℕ) (cells : ℕ → Cell) (m : Laid) → IsAlone W m → (cells (anchor_place n)).stood ≡ m.anchor → standing W n cells ≡ m
standing_is W n cells m h is =
    let none : W.extra (cells (anchor_place n)).stood ≡ 0 = rw is h.extra in
    rw (none, is) (sym (is_alone W m h))

block_alone : (W : Words) (pend : List Sector) (m : Laid) → IsAlone W m → block_of W pend m.anchor ≡ Some m
block_alone W pend m h = rw h.extra (ap (λ (x : Laid). Some x) (sym (is_alone W m h)))

-- PLACES

-- a row's sector ends before the sectors that are kept for metadata
abbrev pub IsRow : ℕ → ℕ → Type 0
IsRow n place = place + 1 + METADATA_SECTORS ≤ n

part_row : (n place : ℕ) (s : Sector) → IsRow n place → part_of n place (s ∷ []) ≡ NoPart
part_row n place s le =
    let before : nat_le (place + 1) (n - METADATA_SECTORS) ≡ true = grind (arith, nat_tests, le) in
    rw before refl

part_anchor : (n : ℕ) (s : Sector) → METADATA_SECTORS ≤ n → part_of n (anchor_place n) (s ∷ []) ≡ AnchorPart s
part_anchor n s le =
    let behind : nat_le (n - 2 + 1) (n - METADATA_SECTORS) ≡ false = grind (arith, nat_tests, le) in
    let here : (n - 2 == n - 2) ≡ true = grind (arith, nat_tests) in
    rw (behind, here) refl

pub noted_row : (W : Words) (serial : List ℕ) (n : ℕ) (k : Disk) (place stored : ℕ) (s : Sector) (went : Bool) → IsRow n place → noted W serial n k (Write place (s ∷ []) stored) went ≡ k
noted_row W serial n k place stored s went le = ap (written W k) (part_row n place s le)

pub noted_anchor : (W : Words) (serial : List ℕ) (n : ℕ) (k : Disk) (m : Laid) (stored : ℕ) (went : Bool) → METADATA_SECTORS ≤ n → IsAlone W m
    → noted W serial n k (Write (anchor_place n) (m.anchor ∷ []) stored) went ≡ with_block k (Some m)
noted_anchor W serial n k m stored went le h = ap (written W k) (part_anchor n m.anchor le) ∙ ap (with_block k) (block_alone W k.pend m h)

pub cell_row : (n : ℕ) (c : Cell) (place stored : ℕ) (s : Sector) (went : Bool) → IsRow n place → cell_at (anchor_place n) c (Write place (s ∷ []) stored) went ≡ c
cell_row n c place stored s went le =
    let apart : (place == n - 2) ≡ false = grind (arith, nat_tests, le) in
    rw apart refl

pub cell_anchor : (n : ℕ) (c : Cell) (stored : ℕ) (s : Sector) (went : Bool) → cell_at (anchor_place n) c (Write (anchor_place n) (s ∷ []) stored) went ≡ brought c s (nat_lt 0 stored)
cell_anchor n c stored s went =
    let here : (n - 2 == n - 2) ≡ true = grind (arith, nat_tests) in
    rw here refl
