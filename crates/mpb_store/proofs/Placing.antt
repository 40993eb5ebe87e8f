-- The places of a block on a disk, and those that are left to be read.
use Rattle.std.proofs.Common.{◌≡◌, ℕ, suc, ◌+◌, ◌-◌, ◌/◌, ◌%◌, ◌<◌, ◌≤◌, ◌&&◌, ◌||◌, ◌⊎◌, inl, inr, Bool, true, false, cond, List, [], ◌∷◌, length, take, drop, get_or, Some, None, Result, Ok, Err, refl, sym, ◌∙◌, ap, arith}
use Rattle.std.specs.Prelude.{nat_le, nat_lt, ◌==◌, ◌↔◌, IsErrOf}
use Rattle.std.specs.List.{range_with_len}
use Rattle.std.specs.Str.{bytes_eq}
use Rattle.std.proofs.lemmas.Bool.{cases_order, and_parts, and_from}
use Rattle.std.proofs.lemmas.Bool.Decides.{nat_tests}
use Rattle.std.proofs.lemmas.Slice.Eq.{bytes_eq-Decides}
use Rattle.std.proofs.lemmas.List.{drop_more, drop_all}
use Rattle.std.proofs.lemmas.List.FromFn.{length-range_with_len, get_or-range_with_len}
use Rattle.imsm_base.specs.Whole.{the_signature, IsSize, is_size}
use Rattle.units.specs.Places.{anchor_place, extended_count}
use Rattle.imsm_codec.specs.Given.{size_in, IsSized}
use Rattle.imsm_codec.specs.Faults.{HasFault}
use Rattle.imsm_codec.specs.declared.fault.MpbFault.{MpbFault}
use Rattle.imsm_codec.specs.declared.fault.MpbFault.TheVariants.{Cut}
use Rattle.mpb_store.specs.Reading.{cut_size_of, Reading, is_sized, extended_by, places_of, places_left, IsCut}

is_size_from : (n : ℕ) → IsSize n → is_size n ≡ true
is_size_from n s =
    let least : 216 ≤ n = s.least in
    let most : n ≤ 8192 = s.most in
    let words : n % 4 ≡ 0 = s.words in
    and_from (nat_le 216 n && nat_le n 8192) (n % 4 == 0)
    (and_from (nat_le 216 n) (nat_le n 8192) (grind (arith, nat_tests)) (grind (arith, nat_tests)))
    (grind (arith, nat_tests))

size_from_is : (n : ℕ) → is_size n ≡ true → IsSize n
size_from_is n is =
    let bounds : (nat_le 216 n && nat_le n 8192) ≡ true = (and_parts (nat_le 216 n && nat_le n 8192) (n % 4 == 0) is).0 in
    let least : nat_le 216 n ≡ true = (and_parts (nat_le 216 n) (nat_le n 8192) bounds).0 in
    let most : nat_le n 8192 ≡ true = (and_parts (nat_le 216 n) (nat_le n 8192) bounds).1 in
    let words : (n % 4 == 0) ≡ true = (and_parts (nat_le 216 n && nat_le n 8192) (n % 4 == 0) is).1 in
    record { least = grind (arith, nat_tests); most = grind (arith, nat_tests); words = grind (arith, nat_tests) }

pub sized_is : (bytes : List ℕ) → IsSized bytes → is_sized bytes ≡ true
sized_is bytes s =
    and_from (bytes_eq (take 24 bytes) the_signature) (is_size (size_in bytes)) ((bytes_eq-Decides (take 24 bytes) the_signature).1 s.signed.signed) (is_size_from (size_in bytes) s.sized)

pub sized_from : (bytes : List ℕ) → 216 ≤ length bytes → is_sized bytes ≡ true → IsSized bytes
sized_from bytes long is = record {
  signed = record {
    long = long;
    signed = (bytes_eq-Decides (take 24 bytes) the_signature).0 (and_parts (bytes_eq (take 24 bytes) the_signature) (is_size (size_in bytes)) is).0;
  };
  sized = size_from_is (size_in bytes) (and_parts (bytes_eq (take 24 bytes) the_signature) (is_size (size_in bytes)) is).1;
}

pub extended_sized : (bytes : List ℕ) → IsSized bytes → extended_by bytes ≡ extended_count (size_in bytes)
extended_sized bytes s = ap (λ (b : Bool). cond b (extended_count (size_in bytes)) 0) (sized_is bytes s)

-- either the anchor speaks of a size in the bounds, or of no sectors
by_size : (bytes : List ℕ) (P : ℕ → Type 0) → (is_sized bytes ≡ true → IsSize (size_in bytes) → P (extended_count (size_in bytes))) → P 0 → P (extended_by bytes)
by_size bytes P sized none = at (is_sized bytes) refl where
  at : (b : Bool) → is_sized bytes ≡ b → P (cond b (extended_count (size_in bytes)) 0)
  at true is = sized is (size_from_is (size_in bytes) (and_parts (bytes_eq (take 24 bytes) the_signature) (is_size (size_in bytes)) is).1)
  at false is = none

pub extended_few : (bytes : List ℕ) → extended_by bytes ≤ 15
extended_few bytes = by_size bytes (λ (n : ℕ). n ≤ 15) (λ is size. let most : size_in bytes ≤ 8192 = size.most in omega arith) (omega arith)

pub length-places_of : (n : ℕ) (bytes : List ℕ) → length (places_of n bytes) ≡ extended_by bytes + 1
length-places_of n bytes = omega (arith, length-range_with_len (anchor_place n - extended_by bytes) (extended_by bytes))

-- what is left of a disk with room for metadata, while no read has failed
pub left_is : (r : Reading) → r.failed ≡ false → 18 ≤ r.sectors → places_left r ≡ drop (length r.bytes / 512) (places_of r.sectors r.bytes)
left_is r well room =
    ap (λ (b : Bool). cond b [] (drop (length r.bytes / 512) (places_of r.sectors r.bytes))) closed
  where
    small : nat_lt r.sectors 18 ≡ false
    small = grind (arith, nat_tests)

    closed : (r.failed || nat_lt r.sectors 18) ≡ false
    closed = rw (well, small) refl

pub none_failed : (r : Reading) → r.failed ≡ true → places_left r ≡ []
none_failed r failed = ap (λ (b : Bool). cond (b || nat_lt r.sectors 18) [] (drop (length r.bytes / 512) (places_of r.sectors r.bytes))) failed

pub none_small : (r : Reading) → r.sectors < 18 → places_left r ≡ []
none_small r few = at r.failed where
  small : nat_lt r.sectors 18 ≡ true
  small = grind (arith, nat_tests)

  at : (b : Bool) → cond (b || nat_lt r.sectors 18) [] (drop (length r.bytes / 512) (places_of r.sectors r.bytes)) ≡ []
  at true = refl
  at false = ap (λ (b : Bool). cond b [] (drop (length r.bytes / 512) (places_of r.sectors r.bytes))) small

behind_first : (p k j : ℕ) (ps : List ℕ) → k ≡ suc j → get_or (p ∷ ps) k 0 ≡ get_or ps j 0
behind_first p k j ps e = ap (λ (n : ℕ). get_or (p ∷ ps) n 0) e

-- while a block goes on, the next of its places is left
pub left_cut : (r : Reading) → r.failed ≡ false → 18 ≤ r.sectors → length r.bytes % 512 ≡ 0 → IsCut r.bytes
    → places_left r ≡ (r.sectors - 2 - extended_count (size_in r.bytes) + (length r.bytes / 512 - 1)) ∷ drop (length r.bytes / 512 + 1) (places_of r.sectors r.bytes)
left_cut r well room whole cut =
    let bytes : List ℕ = r.bytes in
    let k : ℕ = length bytes / 512 in
    let j : ℕ = k - 1 in
    let long : 216 ≤ length bytes = cut.sized.signed.long in
    let most : size_in bytes ≤ 8192 = cut.sized.sized.most in
    let more : length bytes < size_in bytes = cut.more in
    let next : k ≡ suc j = omega arith in
    let count : extended_by bytes ≡ extended_count (size_in bytes) = extended_sized bytes cut.sized in
    let from : ℕ = anchor_place r.sectors - extended_by bytes in
    let below : j < extended_by bytes = omega arith in
    let inside : k < length (places_of r.sectors bytes) = omega (arith, length-places_of r.sectors bytes) in
    let here : get_or (places_of r.sectors bytes) k 0 ≡ r.sectors - 2 - extended_count (size_in bytes) + (k - 1) =
    behind_first (anchor_place r.sectors) k j (range_with_len from (extended_by bytes)) next
    ∙ get_or-range_with_len from (extended_by bytes) j 0 below
    ∙ ap (λ (n : ℕ). r.sectors - 2 - n + (k - 1)) count in
    left_is r well room ∙ drop_more (places_of r.sectors bytes) k 0 inside ∙ ap (λ (p : ℕ). p ∷ drop (k + 1) (places_of r.sectors bytes)) here

-- where no block goes on, nothing is left behind the anchor
pub left_whole : (r : Reading) → length r.bytes % 512 ≡ 0 → 0 < length r.bytes → (IsCut r.bytes → ⊥) → r.failed ≡ false → 18 ≤ r.sectors → places_left r ≡ []
left_whole r whole some uncut well room =
    let bytes : List ℕ = r.bytes in
    let long : 512 ≤ length bytes = omega arith in
    let all : extended_by bytes + 1 ≤ length bytes / 512 =
    by_size bytes (λ (n : ℕ). n + 1 ≤ length bytes / 512)
    (λ is size. all_sectors (length bytes) (size_in bytes) whole size (λ more. uncut (record { sized = sized_from bytes (omega arith) is; more = more })))
    (omega arith) in
    left_is r well room ∙ drop_all (length bytes / 512) (places_of r.sectors bytes) (omega (arith, length-places_of r.sectors bytes))
  where
    all_sectors : (len size : ℕ) → len % 512 ≡ 0 → IsSize size → (len < size → ⊥) → extended_count size + 1 ≤ len / 512
    all_sectors len size even is inside =
        let least : 216 ≤ size = is.least in
        let enough : size ≤ len = omega arith in
        omega arith

-- a disk has room for metadata, or none is read
pub by_room : (n : ℕ) (P : Type 0) → (n < 18 → P) → (18 ≤ n → P) → P
by_room n P small large = at (cases_order n 18) where
  at : (n ≡ 18) ⊎ ((n < 18) ⊎ (18 < n)) → P
  at (inl same) = large (omega arith)
  at (inr (inl below)) = small below
  at (inr (inr above)) = large (omega arith)

-- where places are left, no read failed, and the disk has room for metadata
pub left_open : (r : Reading) → (places_left r ≡ [] → ⊥) → (r.failed ≡ false) × (18 ≤ r.sectors)
left_open r some = (at r.failed refl, by_room r.sectors (18 ≤ r.sectors) (λ few. absurd (some (none_small r few))) (λ room. room)) where
  at : (b : Bool) → r.failed ≡ b → b ≡ false
  at true failed = absurd (some (none_failed r failed))
  at false well = refl

-- and fewer were read than there are
pub left_below : (r : Reading) → (places_left r ≡ [] → ⊥) → length r.bytes / 512 < extended_by r.bytes + 1
left_below r some = at (cases_order (length r.bytes / 512) (extended_by r.bytes + 1)) where
  past : extended_by r.bytes + 1 ≤ length r.bytes / 512 → ⊥
  past all =
      let is = left_open r some in
      some (left_is r is.0 is.1 ∙ drop_all (length r.bytes / 512) (places_of r.sectors r.bytes) (omega (arith, length-places_of r.sectors r.bytes)))

  at : (length r.bytes / 512 ≡ extended_by r.bytes + 1) ⊎ ((length r.bytes / 512 < extended_by r.bytes + 1) ⊎ (extended_by r.bytes + 1 < length r.bytes / 512)) → length r.bytes / 512 < extended_by r.bytes + 1
  at (inl same) = absurd (past (omega arith))
  at (inr (inl below)) = below
  at (inr (inr above)) = absurd (past (omega arith))

pub room_left : (r : Reading) → (places_left r ≡ [] → ⊥) → length r.bytes % 512 ≡ 0 → length r.bytes + 512 ≤ 8192
room_left r some whole = omega (arith, left_below r some, extended_few r.bytes)

-- BY THE CHECK

cut_from : (bytes : List ℕ) (e : MpbFault) (n : ℕ) → cut_size_of e ≡ Some n → HasFault bytes e → IsCut bytes × (n ≡ size_in bytes)
cut_from bytes (Cut m given) n is f =
    let size : m ≡ size_in bytes = f.1 in
    let len : given ≡ length bytes = f.2 in
    let below : given < m = f.3 in
    let same : n ≡ m = cc in
    (record { sized = f.0; more = omega arith }, same ∙ size)
cut_from bytes _ n is f = absurd (cc)

-- where the check names a cut block, it is cut
pub cut_found : {T : Type 0} (bytes : List ℕ) (r : Result T MpbFault) (e : MpbFault) (n : ℕ) → ((f : MpbFault) → IsErrOf r f ↔ HasFault bytes f) → r ≡ Err e → cut_size_of e ≡ Some n → IsCut bytes × (n ≡ size_in bytes)
cut_found bytes r e n exact is size = cut_from bytes e n size ((exact e).0 is)

-- and where it names none, it isn't
pub not_cut : {T : Type 0} (bytes : List ℕ) (r : Result T MpbFault) → ((f : MpbFault) → IsErrOf r f ↔ HasFault bytes f) → ((n given : ℕ) → r ≡ Err (Cut n given) → ⊥) → IsCut bytes → ⊥
not_cut bytes r exact other cut =
    other (size_in bytes) (length bytes) ((exact (Cut (size_in bytes) (length bytes))).1 (cut.sized, refl, refl, cut.more))

pub other_fault : {T : Type 0} (r : Result T MpbFault) (e : MpbFault) → r ≡ Err e → cut_size_of e ≡ None → (n given : ℕ) → r ≡ Err (Cut n given) → ⊥
other_fault r e is none n given cut =
    let same : e ≡ Cut n given = cc in
    let size : Some n ≡ None = ap cut_size_of (sym same) ∙ none in
    cc

pub no_fault : {T : Type 0} (r : Result T MpbFault) (x : T) → r ≡ Ok x → (n given : ℕ) → r ≡ Err (Cut n given) → ⊥
no_fault r x is n given cut = cc

-- where nothing is left and nothing was read, there is no room for metadata
pub unread_small : (r : Reading) → r.failed ≡ false → places_left r ≡ [] → length r.bytes ≡ 0 → r.sectors < 18
unread_small r well none empty = by_room r.sectors (r.sectors < 18) (λ few. few) (λ room. absurd (some room)) where
  no_cons : (p : ℕ) (ps : List ℕ) → p ∷ ps ≡ [] → ⊥
  no_cons p ps same = cc

  some : 18 ≤ r.sectors → ⊥
  some room =
      let first : drop (length r.bytes / 512) (places_of r.sectors r.bytes) ≡ places_of r.sectors r.bytes =
      ap (λ (n : ℕ). drop (n / 512) (places_of r.sectors r.bytes)) empty in
      no_cons _ _ (sym first ∙ sym (left_is r well room) ∙ none)

-- nor is a block cut, where nothing is left
pub left_uncut : (r : Reading) → r.failed ≡ false → 18 ≤ r.sectors → length r.bytes % 512 ≡ 0 → places_left r ≡ [] → IsCut r.bytes → ⊥
left_uncut r well room whole none cut = no_cons _ _ (sym (left_cut r well room whole cut) ∙ none) where
  no_cons : (p : ℕ) (ps : List ℕ) → p ∷ ps ≡ [] → ⊥
  no_cons p ps same = cc
