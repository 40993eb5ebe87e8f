-- A reading follows what stands on the disk.
use Rattle.std.proofs.Common.{◌≡◌, ℕ, zero, suc, ◌+◌, ◌-◌, ◌/◌, ◌%◌, ◌<◌, ◌≤◌, ◌&&◌, ◌⊎◌, inl, inr, Bool, true, false, cond, List, [], ◌∷◌, ◌++◌, length, take, drop, get_or, Option, Some, None, refl, sym, ◌∙◌, ap, subst, arith}
use Rattle.std.specs.Prelude.{◌||◌, not, slice_get, slice_index_or}
use Rattle.std.specs.List.{AllByRecursion, range_with_len}
use Rattle.std.specs.Option.{IsSomeAnd}
use Rattle.std.specs.Str.{bytes_eq}
use Rattle.std.proofs.lemmas.Bool.{cases_order}
use Rattle.std.proofs.lemmas.Grind.{flat_map-append}
use Rattle.std.proofs.lemmas.List.Folds.{list_any-append}
use Rattle.std.proofs.lemmas.Option.{get_or_from_slice_get}
use Rattle.std.proofs.lemmas.List.{append-nil, append_assoc, nil_from_length, length-append, length-drop, take_all, take_more, drop_more, take-append-le, drop-append-le}
use Rattle.std.proofs.lemmas.List.FromFn.{get_or-range_with_len}
use Rattle.units.specs.declared.disk.Sector.{Sector}
use Rattle.imsm_base.specs.Fields.{number}
use Rattle.imsm_base.specs.Whole.{the_signature, is_size}
use Rattle.units.specs.Places.{anchor_place, extended_count}
use Rattle.imsm_codec.specs.Given.{size_in}
use Rattle.device_log.specs.Log.{Call, Read as LoggedRead}
use Rattle.device_log.specs.Cells.{Cell, Stands, cell_after, resting}
use Rattle.member_bank.specs.Told.{Keeps, Logs, Gives}
use Rattle.mpb_store.specs.declared.reading.ReadStep.TheVariants.{Read, Over}
use Rattle.mpb_store.specs.Reading.{Reading, extended_by, places_of, places_left, first_read, bytes_at}
use Rattle.mpb_store.specs.Banks.{has_failed, blank_sector, sector_after, IsReadOf, LogsReads, StandsSo, IsReadFrom, bytes_left}
use Rattle.mpb_store.proofs.Placing.{extended_few, length-places_of, left_is, left_open, left_below, room_left}
use Rattle.device_log.proofs.Cells.{cell_after-append, cell_called-read}

-- THE PLACE THAT IS NEXT

not_over : (p : ℕ) → Read p ≡ Over → ⊥
not_over p same = cc

same_read : (p q : ℕ) → Read p ≡ Read q → p ≡ q
same_read p q same = cc

pub some_left : (r : Reading) (p : ℕ) → Read p ≡ first_read (places_left r) → places_left r ≡ [] → ⊥
some_left r p next none = not_over p (next ∙ ap first_read none)

pub next_is : (r : Reading) (p : ℕ) → Read p ≡ first_read (places_left r) → p ≡ get_or (places_of r.sectors r.bytes) (length r.bytes / 512) 0
next_is r p next =
    let open_is = left_open r (some_left r p next) in
    let below = left_below r (some_left r p next) in
    let places : List ℕ = places_of r.sectors r.bytes in
    let left = left_is r open_is.0 open_is.1 ∙ drop_more places (length r.bytes / 512) 0 (omega (arith, length-places_of r.sectors r.bytes)) in
    same_read p _ (next ∙ ap first_read left)

place_at : (n : ℕ) (bytes : List ℕ) (k : ℕ) → 18 ≤ n → k < extended_by bytes + 1 → get_or (places_of n bytes) k 0 < n
place_at n bytes zero room below = omega arith
place_at n bytes (suc j) room below =
    let few = extended_few bytes in
    let is = get_or-range_with_len (anchor_place n - extended_by bytes) (extended_by bytes) j 0 (omega arith) in
    omega arith

pub next_inside : (r : Reading) (p : ℕ) → Read p ≡ first_read (places_left r) → p < r.sectors
next_inside r p next =
    let open_is = left_open r (some_left r p next) in
    subst (λ (x : ℕ). x < r.sectors) (sym (next_is r p next)) (place_at r.sectors r.bytes (length r.bytes / 512) open_is.1 (left_below r (some_left r p next)))

-- ONE MORE SECTOR

-- the header alone says how many sectors follow
pub extended_same : (xs ys : List ℕ) → take 24 xs ≡ take 24 ys → size_in xs ≡ size_in ys → extended_by xs ≡ extended_by ys
extended_same xs ys front size =
    ap (λ (t : List ℕ). cond (bytes_eq t the_signature && is_size (size_in xs)) (extended_count (size_in xs)) 0) front
    ∙ ap (λ (s : ℕ). cond (bytes_eq (take 24 ys) the_signature && is_size s) (extended_count s) 0) size

size_append : (bytes more : List ℕ) → 512 ≤ length bytes → size_in (bytes ++ more) ≡ size_in bytes
size_append bytes more long =
    ap (λ (x : List ℕ). number (take 4 x)) (drop-append-le 36 bytes more (omega arith))
    ∙ ap number (take-append-le 4 (drop 36 bytes) more (omega (arith, length-drop 36 bytes)))

extended_append : (bytes more : List ℕ) → 512 ≤ length bytes → extended_by (bytes ++ more) ≡ extended_by bytes
extended_append bytes more long = extended_same (bytes ++ more) bytes (take-append-le 24 bytes more (omega arith)) (size_append bytes more long)

abbrev places_by : ℕ → ℕ → List ℕ
places_by n count = anchor_place n ∷ range_with_len (anchor_place n - count) count

-- nothing was read, or a whole sector
some_sector : (bytes : List ℕ) (P : Type 0) → length bytes % 512 ≡ 0 → (length bytes ≡ 0 → P) → (512 ≤ length bytes → P) → P
some_sector bytes P whole none some = at (cases_order (length bytes) 512) where
  at : (length bytes ≡ 512) ⊎ ((length bytes < 512) ⊎ (512 < length bytes)) → P
  at (inl same) = some (omega arith)
  at (inr (inl below)) = none (omega arith)
  at (inr (inr above)) = some (omega arith)

pub taken_more : (n : ℕ) (bytes more : List ℕ) (p : ℕ) → length bytes % 512 ≡ 0 → length more ≡ 512 → p ≡ get_or (places_of n bytes) (length bytes / 512) 0
    → length bytes / 512 < extended_by bytes + 1
    → take (length (bytes ++ more) / 512) (places_of n (bytes ++ more)) ≡ take (length bytes / 512) (places_of n bytes) ++ p ∷ []
taken_more n bytes more p whole sector is below =
    let count : length (bytes ++ more) / 512 ≡ length bytes / 512 + 1 = omega (arith, length-append bytes more) in
    ap (λ (k : ℕ). take k (places_of n (bytes ++ more))) count ∙ some_sector bytes _ whole first later
  where
    k : ℕ
    k = length bytes / 512

    first : length bytes ≡ 0 → take (length bytes / 512 + 1) (places_of n (bytes ++ more)) ≡ take (length bytes / 512) (places_of n bytes) ++ p ∷ []
    first empty =
        let anchor : p ≡ anchor_place n = is ∙ ap (λ (j : ℕ). get_or (places_of n bytes) (j / 512) 0) empty in
        ap (λ (j : ℕ). take (j / 512 + 1) (places_of n (bytes ++ more))) empty
        ∙ sym (ap (λ (j : ℕ). take (j / 512) (places_of n bytes) ++ p ∷ []) empty ∙ ap (λ (q : ℕ). q ∷ []) anchor)

    later : 512 ≤ length bytes → take (length bytes / 512 + 1) (places_of n (bytes ++ more)) ≡ take (length bytes / 512) (places_of n bytes) ++ p ∷ []
    later long =
        ap (λ (c : ℕ). take (length bytes / 512 + 1) (places_by n c)) (extended_append bytes more long)
        ∙ take_more (places_of n bytes) (length bytes / 512) 0 (omega (arith, length-places_of n bytes))
        ∙ ap (λ (q : ℕ). take (length bytes / 512) (places_of n bytes) ++ q ∷ []) (sym is)

bytes_at-more : (at : ℕ → Sector) (places : List ℕ) (p : ℕ) → bytes_at at (places ++ p ∷ []) ≡ bytes_at at places ++ (at p).0
bytes_at-more at places p = flat_map-append (λ (q : ℕ). (at q).0) places (p ∷ []) ∙ ap (λ (x : List ℕ). bytes_at at places ++ x) (append-nil (at p).0)

stands_more : (n : ℕ) (at : ℕ → Sector) (bytes : List ℕ) (p : ℕ) (s : Sector) → length bytes % 512 ≡ 0 → length s.0 ≡ 512
    → p ≡ get_or (places_of n bytes) (length bytes / 512) 0 → length bytes / 512 < extended_by bytes + 1 → at p ≡ s → StandsSo n at bytes → StandsSo n at (bytes ++ s.0)
stands_more n at bytes p s whole sector is below there so = record {
  anchor = λ some. some_sector bytes _ whole first later;
  sectors =
      ap (λ (x : List ℕ). x ++ s.0) so.sectors
      ∙ ap (λ (x : Sector). bytes_at at (take (length bytes / 512) (places_of n bytes)) ++ x.0) (sym there)
      ∙ sym (bytes_at-more at (take (length bytes / 512) (places_of n bytes)) p)
      ∙ ap (bytes_at at) (sym (taken_more n bytes s.0 p whole sector is below));
}
  where
    first : length bytes ≡ 0 → take 512 (bytes ++ s.0) ≡ (at (anchor_place n)).0
    first empty =
        let anchor : p ≡ anchor_place n = is ∙ ap (λ (j : ℕ). get_or (places_of n bytes) (j / 512) 0) empty in
        ap (λ (x : List ℕ). take 512 (x ++ s.0)) (nil_from_length bytes empty)
        ∙ take_all 512 s.0 (omega arith)
        ∙ ap (λ (x : Sector). x.0) (sym there)
        ∙ ap (λ (q : ℕ). (at q).0) anchor

    later : 512 ≤ length bytes → take 512 (bytes ++ s.0) ≡ (at (anchor_place n)).0
    later long = take-append-le 512 bytes s.0 long ∙ so.anchor (omega arith)

-- READS CHANGE NOTHING

after_reads : (d p : ℕ) (c : Cell) (reads : List Call) → AllByRecursion (IsReadOf d) reads → cell_after d p c reads ≡ c
after_reads d p c [] all = refl
after_reads d p c (call ∷ reads) all =
    ap (λ (k : Cell). cell_after d p k reads) (cell_called-read d p c call all.0.read) ∙ after_reads d p c reads all.1

pub sector_same : (o : List (List Sector)) (log reads : List Call) (d p : ℕ) → AllByRecursion (IsReadOf d) reads → sector_after o (log ++ reads) d p ≡ sector_after o log d p
sector_same o log reads d p all =
    let c : Cell = resting (slice_index_or (slice_index_or o d []) p blank_sector) in
    ap (λ (k : Cell). k.stood) (cell_after-append d p c log reads ∙ after_reads d p (cell_after d p c log) reads all)

sector_given : (o : List (List Sector)) (log : List Call) (d p : ℕ) (s : Sector) → Stands o log d p s → sector_after o log d p ≡ s
sector_given o log d p s stands = at (slice_get (slice_index_or o d []) p) refl stands where
  at : (first : Option Sector) → slice_get (slice_index_or o d []) p ≡ first
      → IsSomeAnd first (λ (f : Sector). (cell_after d p (resting f) log).stood ≡ s) → sector_after o log d p ≡ s
  at None is there = absurd there
  at (Some f) is there =
      ap (λ (x : Sector). (cell_after d p (resting x) log).stood) (get_or_from_slice_get (slice_index_or o d []) p f blank_sector is) ∙ there

gives_told : (opening : Option (List (List Sector))) (log : Option (List Call)) (o : List (List Sector)) (l : List Call) (d p : ℕ) (s : Sector)
    → opening ≡ Some o → log ≡ Some l → Gives opening log d p s → Stands o l d p s
gives_told opening log o l d p s a b gives =
    subst (λ (x : Option (List Call)). Gives (Some o) x d p s) b (subst (λ (x : Option (List (List Sector))). Gives x log d p s) a gives)

one_read : (d p : ℕ) (went : Bool) → AllByRecursion (IsReadOf d) (record { disk = d; what = LoggedRead p; went = went } ∷ [])
one_read d p went = (record { disk = refl; read = tt }, tt)

all_both : (d : ℕ) (xs ys : List Call) → AllByRecursion (IsReadOf d) xs → AllByRecursion (IsReadOf d) ys → AllByRecursion (IsReadOf d) (xs ++ ys)
all_both d [] ys a b = b
all_both d (x ∷ xs) ys a b = (a.0, all_both d xs ys a.1 b)

bytes_at-same : (at other : ℕ → Sector) → ((p : ℕ) → at p ≡ other p) → (places : List ℕ) → bytes_at at places ≡ bytes_at other places
bytes_at-same at other same [] = refl
bytes_at-same at other same (p ∷ ps) =
    ap (λ (s : Sector). s.0 ++ bytes_at at ps) (same p) ∙ ap (λ (x : List ℕ). (other p).0 ++ x) (bytes_at-same at other same ps)

stands_along : (n : ℕ) (at other : ℕ → Sector) (bytes : List ℕ) → ((p : ℕ) → at p ≡ other p) → StandsSo n at bytes → StandsSo n other bytes
stands_along n at other bytes same so = record {
  anchor = λ some. so.anchor some ∙ ap (λ (s : Sector). s.0) (same (anchor_place n));
  sectors = so.sectors ∙ bytes_at-same at other same (take (length bytes / 512) (places_of n bytes));
}

-- ONE READ

-- what stood before a read stands after it
stands_after : (n d : ℕ) (opening opening' : Option (List (List Sector))) (log log' : Option (List Call)) (bytes : List ℕ) (p : ℕ) (went : Bool)
    → ((o : List (List Sector)) (l : List Call) → opening ≡ Some o → log ≡ Some l → StandsSo n (sector_after o l d) bytes)
    → Keeps opening opening' → Logs log log' (record { disk = d; what = LoggedRead p; went = went })
    → (o : List (List Sector)) (l : List Call) → opening' ≡ Some o → log' ≡ Some l → StandsSo n (sector_after o l d) bytes
stands_after n d opening opening' log log' bytes p went told keeps logs o l a b =
    let call : Call = record { disk = d; what = LoggedRead p; went = went } in
    let before = logs l b in
    let so = told o before.0 (keeps o a) before.1 in
    subst (λ (x : List Call). StandsSo n (sector_after o x d) bytes) (sym before.2)
    (stands_along n (sector_after o before.0 d) (sector_after o (before.0 ++ call ∷ []) d) bytes
    (λ q. sym (sector_same o before.0 (call ∷ []) d q (one_read d p went))) so)

one_failed : (call : Call) → has_failed (call ∷ []) ≡ not call.went
one_failed call = at call.went where
  at : (b : Bool) → (not b || false) ≡ not b
  at true = refl
  at false = refl

pub reads_one : (d p : ℕ) (log log' : Option (List Call)) (went failed : Bool) → failed ≡ not went → Logs log log' (record { disk = d; what = LoggedRead p; went = went }) → LogsReads log log' d failed
reads_one d p log log' went failed is logs now told =
    let call : Call = record { disk = d; what = LoggedRead p; went = went } in
    let before = logs now told in
    (before.0, call ∷ [], before.1, before.2, one_read d p went, one_failed call ∙ sym is)

pub reads_both : (d : ℕ) (first second third : Option (List Call)) (before failed : Bool) → before ≡ false → LogsReads first second d before → LogsReads second third d failed → LogsReads first third d failed
reads_both d first second third before failed well a b now is =
    let later = b now is in
    let earlier = a later.0 later.2 in (
      earlier.0,
      earlier.1 ++ later.1,
      earlier.2,
      later.3 ∙ ap (λ (x : List Call). x ++ later.1) earlier.3 ∙ append_assoc earlier.0 earlier.1 later.1,
      all_both d earlier.1 later.1 earlier.4 later.4,
      list_any-append (λ (c : Call). not c.went) earlier.1 later.1 ∙ ap (λ (x : Bool). x || has_failed later.1) (earlier.5 ∙ well) ∙ later.5,
    )

pub from_got : (n d : ℕ) (opening opening' : Option (List (List Sector))) (log log' : Option (List Call)) (r r' : Reading) (p : ℕ) (s : Sector) (went : Bool)
    → IsReadFrom n d opening log r → Read p ≡ first_read (places_left r) → Keeps opening opening' → Logs log log' (record { disk = d; what = LoggedRead p; went = went })
    → Gives opening' log' d p s → length s.0 ≡ 512 → r' ≡ record r { bytes = r.bytes ++ s.0 } → IsReadFrom n d opening' log' r'
from_got n d opening opening' log log' r r' p s went from next keeps logs gives sector is =
    subst (IsReadFrom n d opening' log') (sym is)
    (record {
      sized = from.sized;
      whole = let whole : length r.bytes % 512 ≡ 0 = from.whole in omega (arith, length-append r.bytes s.0);
      small = λ few. absurd (let room = (left_open r (some_left r p next)).1 in let sized = from.sized in omega arith);
      told = told;
    })
  where
    place : p ≡ get_or (places_of n r.bytes) (length r.bytes / 512) 0
    place = subst (λ (k : ℕ). p ≡ get_or (places_of k r.bytes) (length r.bytes / 512) 0) from.sized (next_is r p next)

    told : (o : List (List Sector)) (l : List Call) → opening' ≡ Some o → log' ≡ Some l → StandsSo n (sector_after o l d) (r.bytes ++ s.0)
    told o l a b =
        stands_more n (sector_after o l d) r.bytes p s from.whole sector place (left_below r (some_left r p next))
        (sector_given o l d p s (gives_told opening' log' o l d p s a b gives))
        (stands_after n d opening opening' log log' r.bytes p went from.told keeps logs o l a b)

pub from_lost : (n d : ℕ) (opening opening' : Option (List (List Sector))) (log log' : Option (List Call)) (r r' : Reading) (p : ℕ) (went : Bool)
    → IsReadFrom n d opening log r → Read p ≡ first_read (places_left r) → Keeps opening opening' → Logs log log' (record { disk = d; what = LoggedRead p; went = went })
    → r' ≡ record r { failed = true } → IsReadFrom n d opening' log' r'
from_lost n d opening opening' log log' r r' p went from next keeps logs is =
    subst (IsReadFrom n d opening' log') (sym is)
    (record {
      sized = from.sized;
      whole = from.whole;
      small = λ few. absurd (let room = (left_open r (some_left r p next)).1 in let sized = from.sized in omega arith);
      told = stands_after n d opening opening' log log' r.bytes p went from.told keeps logs;
    })

-- EACH READ LEAVES LESS

left_well : (r : Reading) → r.failed ≡ false → bytes_left r ≡ 8193 - length r.bytes
left_well r well = ap (λ (b : Bool). cond b 0 (8193 - length r.bytes)) well

pub less_got : (r r' : Reading) (p : ℕ) (s : Sector) → length r.bytes % 512 ≡ 0 → Read p ≡ first_read (places_left r) → length s.0 ≡ 512 → r' ≡ record r { bytes = r.bytes ++ s.0 } → bytes_left r' < bytes_left r
less_got r r' p s whole next sector is =
    let well = (left_open r (some_left r p next)).0 in
    let room = room_left r (some_left r p next) whole in
    let more : Reading = record r { bytes = r.bytes ++ s.0 } in
    subst (λ (x : Reading). bytes_left x < bytes_left r) (sym is) (omega (arith, left_well r well, left_well more well, length-append r.bytes s.0))

pub less_lost : (r r' : Reading) (p : ℕ) → length r.bytes % 512 ≡ 0 → Read p ≡ first_read (places_left r) → r' ≡ record r { failed = true } → bytes_left r' < bytes_left r
less_lost r r' p whole next is =
    let well = (left_open r (some_left r p next)).0 in
    let room = room_left r (some_left r p next) whole in
    subst (λ (x : Reading). bytes_left x < bytes_left r) (sym is) (omega (arith, left_well r well))
