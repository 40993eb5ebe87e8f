-- The sectors of a block, joined, are its bytes and zeros.
use Rattle.std.proofs.Common.{◌≡◌, min, ℕ, zero, suc, ◌+◌, ◌*◌, ◌-◌, ◌<◌, ◌≤◌, ◌⊎◌, inl, inr, List, [], ◌∷◌, ◌++◌, length, map, take, drop, set, replicate, refl, sym, ◌∙◌, ap, arith}
use Rattle.std.specs.List.{range_with_len}
use Rattle.std.proofs.lemmas.Bool.{cases_order}
use Rattle.std.proofs.Math.Seq.{take-append-add, drop-append-add}
use Rattle.std.proofs.lemmas.List.{append-nil, take_all, drop_all, drop-replicate, take-replicate, take-append-le, drop-append-le, take-append-drop, take-take, drop-take, length-drop, take_more_set}
use Rattle.std.proofs.lemmas.List.FromFn.{map-range_with_len_more}
use Rattle.std.proofs.lemmas.Grind.{flat_map-append}
use Rattle.imsm_base.specs.Edits.{first_sector}
use Rattle.units.specs.declared.disk.Sector.{Sector}
use Rattle.mpb_store.specs.Sectors.{block_sector, block_sectors, bytes_in, filled}

-- the first bytes of bytes with zeros behind them
front-short : (n m : ℕ) (bytes : List ℕ) → length bytes ≤ n → n ≤ m → take n (bytes ++ replicate m 0) ≡ bytes ++ replicate (n - length bytes) 0
front-short n m bytes short below =
    ap (λ (k : ℕ). take k (bytes ++ replicate m 0)) (let same : n ≡ length bytes + (n - length bytes) = omega arith in same)
    ∙ take-append-add bytes (replicate m 0) (n - length bytes)
    ∙ ap (λ (x : List ℕ). bytes ++ x) (take-replicate (n - length bytes) m 0 (omega arith))

front-long : (n m : ℕ) (bytes : List ℕ) → n ≤ length bytes → take n (bytes ++ replicate m 0) ≡ take n bytes
front-long n m bytes long = take-append-le n bytes (replicate m 0) long

at-most : (n m : ℕ) → (n ≡ m) ⊎ ((n < m) ⊎ (m < n)) → (n ≤ m) ⊎ (m ≤ n)
at-most n m (inl same) = inl (omega arith)
at-most n m (inr (inl below)) = inl (omega arith)
at-most n m (inr (inr above)) = inr (omega arith)

either : (n m : ℕ) → (n ≤ m) ⊎ (m ≤ n)
either n m = at-most n m (cases_order n m)

drop-min : (place : ℕ) (bytes : List ℕ) → drop (min place (length bytes)) bytes ≡ drop place bytes
drop-min place bytes = at (either place (length bytes)) where
  at : (place ≤ length bytes) ⊎ (length bytes ≤ place) → drop (min place (length bytes)) bytes ≡ drop place bytes
  at (inl below) = ap (λ (n : ℕ). drop n bytes) (let same : min place (length bytes) ≡ place = omega arith in same)
  at (inr above) = drop_all (min place (length bytes)) bytes (omega arith) ∙ sym (drop_all place bytes above)

-- a piece of at most one sector, and the zeros that are left of a blank one
padded : (n : ℕ) (rest : List ℕ) → n ≡ min (length rest) 512 → take n rest ++ drop n (replicate 512 0) ≡ first_sector rest
padded n rest is = at (either (length rest) 512) where
  at : (length rest ≤ 512) ⊎ (512 ≤ length rest) → take n rest ++ drop n (replicate 512 0) ≡ first_sector rest
  at (inl short) =
      let same : length rest ≡ n = omega arith in
      ap (λ (x : List ℕ). x ++ drop n (replicate 512 0)) (take_all n rest (omega arith))
      ∙ ap (λ (x : List ℕ). rest ++ x) (drop-replicate n 512 0 ∙ ap (λ (k : ℕ). replicate (512 - k) 0) (sym same))
      ∙ sym (front-short 512 512 rest short (omega arith))
  at (inr long) =
      let same : n ≡ 512 = omega arith in
      ap (λ (k : ℕ). take k rest ++ drop k (replicate 512 0)) same
      ∙ ap (λ (x : List ℕ). take 512 rest ++ x) (drop-replicate 512 512 0)
      ∙ append-nil (take 512 rest)
      ∙ sym (front-long 512 512 rest long)

pub sector-made : (n place : ℕ) (copied zeros rest bytes : List ℕ) → copied ≡ take n rest
    → rest ≡ take (length bytes - min place (length bytes)) (drop (min place (length bytes)) bytes)
    → zeros ≡ replicate 512 0 → n ≡ min (length rest) 512 → copied ++ drop n zeros ≡ first_sector (drop place bytes)
sector-made n place copied zeros rest bytes is from blank least =
    let m : ℕ = min place (length bytes) in
    let whole : rest ≡ drop place bytes = from ∙ take_all (length bytes - m) (drop m bytes) (omega (arith, length-drop m bytes)) ∙ drop-min place bytes in
    ap (λ (x : List ℕ). x ++ drop n zeros) is
    ∙ ap (λ (x : List ℕ). take n rest ++ drop n x) blank
    ∙ padded n rest least
    ∙ ap first_sector whole

-- the bytes with zeros enough for every sector behind them
abbrev ample : List ℕ → List ℕ
ample bytes = bytes ++ replicate 8192 0

-- each sector is a piece of them
piece : (at : ℕ) (bytes : List ℕ) → at ≤ 7680 → first_sector (drop at bytes) ≡ take 512 (drop at (ample bytes))
piece place bytes below = at (either place (length bytes)) where
  same-front : (rest : List ℕ) → first_sector rest ≡ take 512 (ample rest)
  same-front rest = with-length (either (length rest) 512) where
    with-length : (length rest ≤ 512) ⊎ (512 ≤ length rest) → first_sector rest ≡ take 512 (ample rest)
    with-length (inl short) = front-short 512 512 rest short (omega arith) ∙ sym (front-short 512 8192 rest short (omega arith))
    with-length (inr long) = front-long 512 512 rest long ∙ sym (front-long 512 8192 rest long)

  at : (place ≤ length bytes) ⊎ (length bytes ≤ place) → first_sector (drop place bytes) ≡ take 512 (drop place (ample bytes))
  at (inl inside) =
      same-front (drop place bytes) ∙ ap (take 512) (sym (drop-append-le place bytes (replicate 8192 0) inside))
  at (inr past) =
      let over : ℕ = place - length bytes in
      let place-is : length bytes + over ≡ place = omega arith in
      let behind : drop place (ample bytes) ≡ replicate (8192 - over) 0 =
      ap (λ (k : ℕ). drop k (ample bytes)) (sym place-is) ∙ drop-append-add bytes (replicate 8192 0) over ∙ drop-replicate over 8192 0 in
      ap first_sector (drop_all place bytes past)
      ∙ take-replicate 512 512 0 (omega arith)
      ∙ sym (ap (take 512) behind ∙ take-replicate 512 (8192 - over) 0 (omega arith))

front-more : (n m : ℕ) (bytes : List ℕ) → take n bytes ++ take m (drop n bytes) ≡ take (n + m) bytes
front-more n m bytes =
    ap (λ (x : List ℕ). x ++ take m (drop n bytes)) (sym (take-take n (n + m) bytes (omega arith)))
    ∙ ap (λ (x : List ℕ). take n (take (n + m) bytes) ++ x) (sym (drop-take n m bytes))
    ∙ take-append-drop n (take (n + m) bytes)

bytes-more : (sectors : List Sector) (s : Sector) → bytes_in (sectors ++ s ∷ []) ≡ bytes_in sectors ++ s.0
bytes-more sectors s =
    flat_map-append (λ (x : Sector). x.0) sectors (s ∷ []) ∙ ap (λ (x : List ℕ). bytes_in sectors ++ x) (append-nil s.0)

-- the bytes of a block's first sectors
pub bytes_in-front : (bytes : List ℕ) (k : ℕ) → k ≤ 16 → bytes_in (map (block_sector bytes) (range_with_len 0 k)) ≡ take (512 * k) (bytes ++ replicate 8192 0)
bytes_in-front bytes zero few = refl
bytes_in-front bytes (suc k) few =
    ap (λ (n : ℕ). bytes_in (map (block_sector bytes) (range_with_len 0 n))) (let same : suc k ≡ k + 1 = omega arith in same)
    ∙ ap bytes_in (map-range_with_len_more (block_sector bytes) 0 k k (omega arith))
    ∙ bytes-more (map (block_sector bytes) (range_with_len 0 k)) (block_sector bytes k)
    ∙ ap (λ (x : List ℕ). x ++ first_sector (drop (512 * k) bytes)) (bytes_in-front bytes k (omega arith))
    ∙ ap (λ (x : List ℕ). take (512 * k) (ample bytes) ++ x) (piece (512 * k) bytes (omega arith))
    ∙ front-more (512 * k) 512 (ample bytes)
    ∙ ap (λ (n : ℕ). take n (ample bytes)) (let same : 512 * k + 512 ≡ 512 * suc k = omega arith in same)

-- one more sector is filled in
pub sectors-more : (k : ℕ) (sectors : List Sector) (s : Sector) (bytes : List ℕ) → k < 16 → length sectors ≡ 16 → s.0 ≡ first_sector (drop (512 * k) bytes)
    → take k sectors ≡ map (block_sector bytes) (range_with_len 0 k) → take (k + 1) (set sectors k s) ≡ map (block_sector bytes) (range_with_len 0 (k + 1))
sectors-more k sectors s bytes few len is before =
    take_more_set sectors k s (omega arith)
    ∙ ap (λ (x : List Sector). x ++ s ∷ []) before
    ∙ ap (λ (x : Sector). map (block_sector bytes) (range_with_len 0 k) ++ x ∷ []) (sector_is is)
    ∙ sym (map-range_with_len_more (block_sector bytes) 0 k k (omega arith))
  where
    sector_is : s.0 ≡ first_sector (drop (512 * k) bytes) → s ≡ block_sector bytes k
    sector_is same = let made : List ℕ → Sector = λ b. record { 0 = b } in ap made same

pub sectors-all : (k : ℕ) (sectors : List Sector) (bytes : List ℕ) → k ≡ 16 → length sectors ≡ 16
    → take k sectors ≡ map (block_sector bytes) (range_with_len 0 k) → sectors ≡ block_sectors bytes
unfolding block_sectors
sectors-all k sectors bytes last len is =
    sym (take_all k sectors (omega arith)) ∙ is ∙ ap (λ (n : ℕ). map (block_sector bytes) (range_with_len 0 n)) last

pub bytes_in-block_sectors : (bytes : List ℕ) → length bytes ≤ 8192 → bytes_in (block_sectors bytes) ≡ filled bytes
unfolding block_sectors
bytes_in-block_sectors bytes few = bytes_in-front bytes 16 (omega arith) ∙ front-short 8192 8192 bytes few (omega arith)
