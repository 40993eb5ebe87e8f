-- The reads of a look at a disk, in order.
use Rattle.std.proofs.Common.{◌≡◌, ℕ, zero, suc, ◌-◌, ◌/◌, ◌%◌, ◌<◌, ◌≤◌, Bool, true, false, cond, List, [], ◌∷◌, ◌++◌, length, take, drop, get_or, Option, Some, None, refl, sym, ◌∙◌, ap, subst, arith}
use Rattle.std.specs.Prelude.{map, nat_lt}
use Rattle.std.specs.List.{range_with_len}
use Rattle.std.proofs.lemmas.List.{append_assoc, map-append, length-drop, take_all}
use Rattle.std.proofs.lemmas.Bool.{false≢true}
use Rattle.std.proofs.lemmas.Bool.Decides.{nat_tests}
use Rattle.units.specs.declared.disk.Sector.{Sector}
use Rattle.units.specs.Places.{anchor_place}
use Rattle.device_log.specs.Log.{Call, Read as LoggedRead}
use Rattle.member_bank.specs.Told.{Logs}
use Rattle.mpb_store.specs.declared.reading.ReadStep.TheVariants.{Read}
use Rattle.mpb_store.specs.Reading.{Reading, places_of, places_left, first_read}
use Rattle.mpb_store.specs.Banks.{sector_after, read_of, AreRead, places_read, IsSoFar, IsReadFrom, LogsReading, LogsLook}
use Rattle.mpb_store.proofs.Placing.{by_room, left_is, left_open, left_below, length-places_of}
use Rattle.mpb_store.proofs.Followed.{next_is, some_left, taken_more}
use Rattle.mpb_store.proofs.Told.{front-extended, some_read}

-- ONE READ MORE

-- while no read has failed
so_well : (d : ℕ) (places : List ℕ) (k : ℕ) (failed : Bool) (calls : List Call) → failed ≡ false → IsSoFar d places k failed calls → calls ≡ map (read_of d true) (take k places)
so_well d places k failed calls well so = subst (λ (b : Bool). IsSoFar d places k b calls) well so

pub reading_got : (d : ℕ) (first old new : Option (List Call)) (r r' : Reading) (p : ℕ) (s : Sector) (went : Bool) → length r.bytes % 512 ≡ 0
    → Read p ≡ first_read (places_left r) → went ≡ true → length s.0 ≡ 512 → r' ≡ record r { bytes = r.bytes ++ s.0 }
    → Logs old new (record { disk = d; what = LoggedRead p; went = went }) → LogsReading d first old r → LogsReading d first new r'
reading_got d first old new r r' p s went whole next ok sector is logs so now told =
    let mid = logs now told in
    let begun = so mid.0 mid.1 in
    let calls : List Call = begun.1 in
    let k : ℕ = length r.bytes / 512 in
    let well = (left_open r (some_left r p next)).0 in
    let below = left_below r (some_left r p next) in
    let last : Call = read_of d went p in
    let more = taken_more r.sectors r.bytes s.0 p whole sector (next_is r p next) below in
    let is_more : calls ++ last ∷ [] ≡ map (read_of d true) (take (length (r.bytes ++ s.0) / 512) (places_of r.sectors (r.bytes ++ s.0))) =
    ap (λ (x : List Call). x ++ last ∷ []) (so_well d (places_of r.sectors r.bytes) k r.failed calls well begun.4)
    ∙ ap (λ (b : Bool). map (read_of d true) (take k (places_of r.sectors r.bytes)) ++ read_of d b p ∷ []) ok
    ∙ sym (map-append (read_of d true) (take k (places_of r.sectors r.bytes)) (p ∷ []))
    ∙ ap (map (read_of d true)) (sym more) in (
      begun.0,
      calls ++ last ∷ [],
      begun.2,
      mid.2 ∙ ap (λ (x : List Call). x ++ last ∷ []) begun.3 ∙ append_assoc begun.0 calls (last ∷ []),
      subst (λ (x : Reading). IsSoFar d (places_of x.sectors x.bytes) (length x.bytes / 512) x.failed (calls ++ last ∷ [])) (sym is)
          (subst (λ (b : Bool). IsSoFar d (places_of r.sectors (r.bytes ++ s.0)) (length (r.bytes ++ s.0) / 512) b (calls ++ last ∷ [])) (sym well) is_more),
    )

pub reading_lost : (d : ℕ) (first old new : Option (List Call)) (r r' : Reading) (p : ℕ) (went : Bool)
    → Read p ≡ first_read (places_left r) → went ≡ false → r' ≡ record r { failed = true }
    → Logs old new (record { disk = d; what = LoggedRead p; went = went }) → LogsReading d first old r → LogsReading d first new r'
reading_lost d first old new r r' p went next lost is logs so now told =
    let mid = logs now told in
    let begun = so mid.0 mid.1 in
    let calls : List Call = begun.1 in
    let k : ℕ = length r.bytes / 512 in
    let places : List ℕ = places_of r.sectors r.bytes in
    let well = (left_open r (some_left r p next)).0 in
    let below : k < length places = omega (arith, left_below r (some_left r p next), length-places_of r.sectors r.bytes) in
    let last : Call = read_of d went p in
    let is_last : last ≡ read_of d false (get_or places k 0) = ap (λ (b : Bool). read_of d b p) lost ∙ ap (read_of d false) (next_is r p next) in
    let is_more : calls ++ last ∷ [] ≡ map (read_of d true) (take k places) ++ read_of d false (get_or places k 0) ∷ [] =
    ap (λ (x : List Call). x ++ last ∷ []) (so_well d places k r.failed calls well begun.4)
    ∙ ap (λ (c : Call). map (read_of d true) (take k places) ++ c ∷ []) is_last in (
      begun.0,
      calls ++ last ∷ [],
      begun.2,
      mid.2 ∙ ap (λ (x : List Call). x ++ last ∷ []) begun.3 ∙ append_assoc begun.0 calls (last ∷ []),
      subst (λ (x : Reading). IsSoFar d (places_of x.sectors x.bytes) (length x.bytes / 512) x.failed (calls ++ last ∷ [])) (sym is) (record { there = below; reads = is_more }),
    )

-- ALL READS

places_here : (n : ℕ) (anchor : List ℕ) → 18 ≤ n → places_read n anchor ≡ places_of n anchor
places_here n anchor room = ap (λ (b : Bool). cond b [] (places_of n anchor)) small where
  small : nat_lt n 18 ≡ false
  small = grind (arith, nat_tests)

places_none : (n : ℕ) (anchor : List ℕ) → n < 18 → places_read n anchor ≡ []
places_none n anchor few = ap (λ (b : Bool). cond b [] (places_of n anchor)) small where
  small : nat_lt n 18 ≡ true
  small = grind (arith, nat_tests)

-- the places of a block are those that its first sector speaks of
places_front : (n : ℕ) (bytes : List ℕ) → places_of n (take 512 bytes) ≡ places_of n bytes
places_front n bytes = ap (λ (c : ℕ). anchor_place n ∷ range_with_len (anchor_place n - c) c) (front-extended bytes)

-- the anchor that a look is by: what was read of it, else what stands there
abbrev anchor_for : ℕ → ℕ → Option (List (List Sector)) → List Call → List ℕ → List ℕ
anchor_for n d None now bytes = take 512 bytes
anchor_for n d (Some o) now bytes = (sector_after o now d (anchor_place n)).0

are_read : (d n k : ℕ) (bytes anchor : List ℕ) (failed : Bool) (calls : List Call) → places_of n anchor ≡ places_of n bytes → (failed ≡ false → length (places_of n bytes) ≤ k)
    → IsSoFar d (places_of n bytes) k failed calls → AreRead d (places_of n anchor) failed calls
are_read d n k bytes anchor false calls same all so = so ∙ ap (map (read_of d true)) (take_all k (places_of n bytes) (all refl) ∙ sym same)
are_read d n k bytes anchor true calls same all so = subst (λ (ps : List ℕ). AreRead d ps true calls) (sym same) (k, so)

-- where the anchor's read failed
first_lost : (d n : ℕ) (bytes anchor : List ℕ) (failed : Bool) (calls : List Call) → failed ≡ true → length bytes ≡ 0
    → IsSoFar d (places_of n bytes) (length bytes / 512) failed calls → AreRead d (places_of n anchor) failed calls
first_lost d n bytes anchor false calls lost empty so = absurd (false≢true lost)
first_lost d n bytes anchor true calls lost empty so = (
  0,
  record {
    there = omega (arith, length-places_of n anchor);
    reads = so.reads ∙ ap (λ (j : ℕ). map (read_of d true) (take (j / 512) (places_of n bytes)) ++ read_of d false (get_or (places_of n bytes) (j / 512) 0) ∷ []) empty;
  },
)

-- an anchor that is the one that was read, if one was
look_by : (d n : ℕ) (bytes anchor : List ℕ) (failed : Bool) (calls : List Call) → (n < 18 → (failed ≡ false) × (bytes ≡ []))
    → (failed ≡ false → 18 ≤ n → (0 < length bytes) × (length (places_of n bytes) ≤ length bytes / 512)) → (0 < length bytes → take 512 bytes ≡ anchor)
    → IsSoFar d (places_of n bytes) (length bytes / 512) failed calls → AreRead d (places_read n anchor) failed calls
look_by d n bytes anchor failed calls small all front so = by_room n _ none some where
  none : n < 18 → AreRead d (places_read n anchor) failed calls
  none few =
      let is = small few in
      let empty : calls ≡ [] =
      subst (λ (b : Bool). IsSoFar d (places_of n bytes) (length bytes / 512) b calls) is.0 so ∙ ap (λ (x : List ℕ). map (read_of d true) (take (length x / 512) (places_of n bytes))) is.1 in
      subst (λ (b : Bool). AreRead d (places_read n anchor) b calls) (sym is.0)
      (empty ∙ sym (ap (map (read_of d true)) (places_none n anchor few)))

  some : 18 ≤ n → AreRead d (places_read n anchor) failed calls
  some room = subst (λ (ps : List ℕ). AreRead d ps failed calls) (sym (places_here n anchor room)) (at (length bytes) refl) where
    at : (len : ℕ) → length bytes ≡ len → AreRead d (places_of n anchor) failed calls
    at zero empty = lost failed refl where
      lost : (b : Bool) → failed ≡ b → AreRead d (places_of n anchor) failed calls
      lost true failed-is = first_lost d n bytes anchor failed calls failed-is empty so
      lost false well = absurd (let more = (all well room).0 in omega arith)
    at (suc len) more =
        are_read d n (length bytes / 512) bytes anchor failed calls (ap (places_of n) (sym (front (omega arith))) ∙ places_front n bytes)
        (λ well. (all well room).1) so

all_read : (r : Reading) → places_left r ≡ [] → r.failed ≡ false → 18 ≤ r.sectors → (0 < length r.bytes) × (length (places_of r.sectors r.bytes) ≤ length r.bytes / 512)
all_read r none well room =
    let places : List ℕ = places_of r.sectors r.bytes in
    let k : ℕ = length r.bytes / 512 in
    let past : length (drop k places) ≡ 0 = ap (λ (x : List ℕ). length x) (sym (left_is r well room) ∙ none) in
    (some_read r well room none, omega (arith, length-drop k places))

pub looked : (n d : ℕ) (opening : Option (List (List Sector))) (first log : Option (List Call)) (r : Reading) → places_left r ≡ [] → IsReadFrom n d opening log r → LogsReading d first log r
    → LogsLook n d opening first log r.failed
looked n d opening first log r none from so now told =
    let begun = so now told in (
      begun.0,
      begun.1,
      anchor_for n d opening now r.bytes,
      begun.2,
      begun.3,
      look_by d n r.bytes (anchor_for n d opening now r.bytes) r.failed begun.1 from.small
          (λ well room. subst (λ (m : ℕ). (0 < length r.bytes) × (length (places_of m r.bytes) ≤ length r.bytes / 512)) from.sized (all_read r none well (let sized = from.sized in omega arith)))
          (front now told opening refl)
          (subst (λ (m : ℕ). IsSoFar d (places_of m r.bytes) (length r.bytes / 512) r.failed begun.1) from.sized begun.4),
      λ o is. ap (λ (x : Option (List (List Sector))). anchor_for n d x now r.bytes) is,
    )
  where
    front : (now : List Call) → log ≡ Some now → (x : Option (List (List Sector))) → opening ≡ x → 0 < length r.bytes → take 512 r.bytes ≡ anchor_for n d x now r.bytes
    front now told None is some = refl
    front now told (Some o) is some = (from.told o now is told).anchor some
