-- The answer of a reading is that of what stands on the disk.
use Rattle.std.proofs.Common.{◌≡◌, ◌≢◌, ℕ, zero, suc, ◌+◌, ◌-◌, ◌/◌, ◌<◌, ◌≤◌, Bool, true, false, List, [], ◌∷◌, ◌++◌, length, take, drop, Option, Some, None, inl, refl, sym, ◌∙◌, ap, subst, arith}
use Rattle.std.specs.Prelude.{◌↔◌, IfSome, slice_get}
use Rattle.std.specs.List.{range_with_len}
use Rattle.std.proofs.lemmas.List.{length-drop, take_all, take-take}
use Rattle.std.proofs.lemmas.Bool.{false≢true}
use Rattle.units.specs.declared.disk.Sector.{Sector}
use Rattle.units.specs.declared.disk.Serial.{Serial}
use Rattle.imsm_base.specs.Parts.{block_in}
use Rattle.imsm_base.specs.Whole.{sectors_from, standing, IsWholeDisk}
use Rattle.units.specs.Places.{anchor_place, extended_count}
use Rattle.imsm_base.proofs.Spliced.{number_at-take}
use Rattle.imsm_codec.specs.Given.{size_in, given_block}
use Rattle.imsm_codec.proofs.Wholeness.{checks_from_whole}
use Rattle.device_log.specs.Log.{Call}
use Rattle.mpb_store.specs.declared.answer.Found.{Found}
use Rattle.mpb_store.specs.declared.answer.Found.TheVariants.{Whole, Blank, Torn, Unread}
use Rattle.mpb_store.specs.declared.reading.ReadStep.TheVariants.{Read, Over}
use Rattle.mpb_store.specs.Reading.{Reading, first_read, extended_by, places_of, places_left, bytes_at}
use Rattle.mpb_store.specs.Answers.{IsFound, IsAnswer, bytes_on}
use Rattle.mpb_store.specs.Banks.{is_unread, sector_after, StandsSo, IsReadFrom, IsAnswerOn}
use Rattle.mpb_store.proofs.Placing.{by_room, unread_small, left_is, extended_sized}
use Rattle.mpb_store.proofs.Judged.{found_is_one, found_from, block_of_disk}
use Rattle.mpb_store.proofs.Followed.{extended_same}

abbrev pub places_by : ℕ → ℕ → List ℕ
places_by n count = anchor_place n ∷ range_with_len (anchor_place n - count) count

front-size : (bytes : List ℕ) → size_in (take 512 bytes) ≡ size_in bytes
front-size bytes = number_at-take 4 36 512 bytes (omega arith)

pub front-extended : (bytes : List ℕ) → extended_by (take 512 bytes) ≡ extended_by bytes
front-extended bytes = extended_same (take 512 bytes) bytes (take-take 24 512 bytes (omega arith)) (front-size bytes)

pub some_read : (r : Reading) → r.failed ≡ false → 18 ≤ r.sectors → places_left r ≡ [] → 0 < length r.bytes
some_read r well room none = at (length r.bytes) refl where
  at : (k : ℕ) → length r.bytes ≡ k → 0 < length r.bytes
  at zero empty = absurd (let few = unread_small r well none empty in omega arith)
  at (suc k) more = omega arith

-- where nothing is left, all places were read
all_read : (r : Reading) (at : ℕ → Sector) → r.failed ≡ false → 18 ≤ r.sectors → places_left r ≡ [] → StandsSo r.sectors at r.bytes → r.bytes ≡ bytes_at at (places_of r.sectors r.bytes)
all_read r at well room none so =
    let places : List ℕ = places_of r.sectors r.bytes in
    let k : ℕ = length r.bytes / 512 in
    let past : length (drop k places) ≡ 0 = ap (λ (x : List ℕ). length x) (sym (left_is r well room) ∙ none) in
    so.sectors ∙ ap (bytes_at at) (take_all k places (omega (arith, length-drop k places)))

bytes_read : (r : Reading) (at : ℕ → Sector) → r.failed ≡ false → 18 ≤ r.sectors → places_left r ≡ [] → StandsSo r.sectors at r.bytes → r.bytes ≡ bytes_on r.sectors at
bytes_read r at well room none so =
    let anchor = so.anchor (some_read r well room none) in
    all_read r at well room none so
    ∙ ap (λ (c : ℕ). bytes_at at (places_by r.sectors c)) (sym (front-extended r.bytes) ∙ ap extended_by anchor)

-- the block is the one that stands there by its definition
pub from_places : (at : ℕ → Sector) (place count : ℕ) → bytes_at at (range_with_len place count) ≡ sectors_from at place count
from_places at place zero = refl
from_places at place (suc k) = ap (λ (x : List ℕ). (at place).0 ++ x) (from_places at (place + 1) k)

block_read : (own : List ℕ) (r : Reading) (at : ℕ → Sector) → r.failed ≡ false → places_left r ≡ [] → StandsSo r.sectors at r.bytes → IsFound own r.sectors r.bytes Whole → given_block r.bytes ≡ standing r.sectors at
block_read own r at well none so whole =
    let n : ℕ = r.sectors in
    let bytes : List ℕ = r.bytes in
    let block = block_of_disk own n bytes whole in
    let anchor = so.anchor (some_read r well block.room none) in
    let size : size_in bytes ≡ size_in (at (anchor_place n)).0 = sym (front-size bytes) ∙ ap size_in anchor in
    let count : extended_by bytes ≡ extended_count (size_in bytes) = extended_sized bytes (checks_from_whole bytes block.whole).0.sized in
    ap (take (size_in bytes))
    (all_read r at well block.room none so
    ∙ ap (λ (c : ℕ). bytes_at at (places_by n c)) count
    ∙ ap (λ (x : List ℕ). (at (anchor_place n)).0 ++ x) (from_places at (anchor_place n - extended_count (size_in bytes)) (extended_count (size_in bytes))))
    ∙ ap (λ (s : ℕ). take s ((at (anchor_place n)).0 ++ sectors_from at (anchor_place n - extended_count s) (extended_count s))) size

-- what is found by what was read is found by what stands there
found_there : (own : List ℕ) (r : Reading) (at : ℕ → Sector) (f : Found) → r.failed ≡ false → places_left r ≡ [] → StandsSo r.sectors at r.bytes
    → IsFound own r.sectors r.bytes f → IsFound own r.sectors (bytes_on r.sectors at) f
found_there own r at f well none so is = by_room r.sectors _ small large where
  small : r.sectors < 18 → IsFound own r.sectors (bytes_on r.sectors at) f
  small few = subst (IsFound own r.sectors (bytes_on r.sectors at)) (found_is_one own r.sectors r.bytes Blank f (inl few) is) (inl few)

  large : 18 ≤ r.sectors → IsFound own r.sectors (bytes_on r.sectors at) f
  large room = subst (λ (x : List ℕ). IsFound own r.sectors x f) (bytes_read r at well room none so) is

well_read : (own : List ℕ) (r : Reading) (f : Found) → ((g : Found) → (f ≡ g) ↔ IsAnswer own r g) → f ≢ Unread → r.failed ≡ false
well_read own r f exact read = at r.failed refl where
  at : (b : Bool) → r.failed ≡ b → b ≡ false
  at true failed = absurd (read ((exact Unread).1 failed))
  at false well = refl

pub answer_there : (own : List ℕ) (r : Reading) (at : ℕ → Sector) (f : Found) (block : List ℕ) → places_left r ≡ [] → StandsSo r.sectors at r.bytes
    → ((g : Found) → (f ≡ g) ↔ IsAnswer own r g) → (f ≡ Whole → block ≡ given_block r.bytes) → IsAnswerOn own r.sectors at f block
answer_there own r at f block none so exact loaded = record {
  exact = λ read g. (
    λ same. subst (IsFound own r.sectors (bytes_on r.sectors at)) same (there read),
    λ is. found_is_one own r.sectors (bytes_on r.sectors at) f g (there read) is,
  );
  loaded = λ is.
      let well = well_read own r f exact (whole_read is) in
      loaded is ∙ block_read own r at well none so (found_from own r Whole well ((exact Whole).0 is));
}
  where
    whole_read : f ≡ Whole → f ≡ Unread → ⊥
    whole_read a b = not_both (sym a ∙ b) where
      not_both : Whole ≡ Unread → ⊥
      not_both same = cc

    there : f ≢ Unread → IsFound own r.sectors (bytes_on r.sectors at) f
    there read =
        let well = well_read own r f exact read in
        found_there own r at f well none so (found_from own r f well ((exact f).0 refl))

-- whatever is told
pub whole_there : (own : List ℕ) (r : Reading) (f : Found) (block : List ℕ) → ((g : Found) → (f ≡ g) ↔ IsAnswer own r g) → (f ≡ Whole → block ≡ given_block r.bytes)
    → f ≡ Whole → IsWholeDisk own r.sectors block (block_in block)
whole_there own r f block exact loaded is =
    subst (λ (x : List ℕ). IsWholeDisk own r.sectors x (block_in x)) (sym (loaded is)) ((exact Whole).0 is).1

pub small_there : (own : List ℕ) (r : Reading) (f : Found) → ((g : Found) → (f ≡ g) ↔ IsAnswer own r g) → r.failed ≡ false → r.sectors < 18 → f ≡ Blank
small_there own r f exact well few = (exact Blank).1 (well, inl few)

-- THE LOOP

read_then : (f : Found) → f ≢ Unread → is_unread f ≡ false
read_then Unread read = absurd (read refl)
read_then Whole read = refl
read_then Blank read = refl
read_then (Torn fault) read = refl

-- the answer is Unread exactly where a read failed
pub unread_is : (own : List ℕ) (r : Reading) (f : Found) → ((g : Found) → (f ≡ g) ↔ IsAnswer own r g) → r.failed ≡ is_unread f
unread_is own r f exact = at r.failed refl where
  at : (b : Bool) → r.failed ≡ b → b ≡ is_unread f
  at true failed = sym (ap is_unread ((exact Unread).1 failed))
  at false well = sym (read_then f (λ unread. false≢true (sym well ∙ (exact Unread).0 unread)))

pub if_told : {A : Type 0} (o : Option A) (P : A → Type 0) → ((x : A) → o ≡ Some x → P x) → IfSome o P
if_told None P told = tt
if_told (Some x) P told = told x refl

pub none_left : (places : List ℕ) → Over ≡ first_read places → places ≡ []
none_left [] is = refl
none_left (p ∷ ps) is = absurd (other is) where
  other : Over ≡ Read p → ⊥
  other same = cc

-- the answer of a disk of the size that the reading is of
pub answer_told : (own : Serial) (serials : List Serial) (d n : ℕ) (opening : Option (List (List Sector))) (log : Option (List Call)) (r : Reading) (f : Found) (block : List ℕ)
    → places_left r ≡ [] → IsReadFrom n d opening log r → ((g : Found) → (f ≡ g) ↔ IsAnswer own.0 r g) → (f ≡ Whole → block ≡ given_block r.bytes)
    → slice_get serials d ≡ Some own → (other : Serial) → slice_get serials d ≡ Some other
    → IfSome opening (λ o. IfSome log (λ l. IsAnswerOn other.0 n (sector_after o l d) f block))
answer_told own serials d n opening log r f block none from exact loaded own-is other other-is =
    if_told opening (λ o. IfSome log (λ l. IsAnswerOn other.0 n (sector_after o l d) f block))
    (λ o a. if_told log (λ l. IsAnswerOn other.0 n (sector_after o l d) f block) (λ l b. by_size o l (from.told o l a b)))
  where
    same : own ≡ other
    same = cc

    by_size : (o : List (List Sector)) (l : List Call) → StandsSo n (sector_after o l d) r.bytes → IsAnswerOn other.0 n (sector_after o l d) f block
    by_size o l so =
        subst (λ (s : Serial). IsAnswerOn s.0 n (sector_after o l d) f block) same
        (subst (λ (k : ℕ). IsAnswerOn own.0 k (sector_after o l d) f block) from.sized
        (answer_there own.0 r (sector_after o l d) f block none
        (subst (λ (k : ℕ). StandsSo k (sector_after o l d) r.bytes) (sym from.sized) so) exact loaded))

pub whole_told : (own : Serial) (serials : List Serial) (d n : ℕ) (r : Reading) (f : Found) (block : List ℕ) → r.sectors ≡ n → ((g : Found) → (f ≡ g) ↔ IsAnswer own.0 r g)
    → (f ≡ Whole → block ≡ given_block r.bytes) → slice_get serials d ≡ Some own → (other : Serial) → slice_get serials d ≡ Some other → f ≡ Whole
    → IsWholeDisk other.0 n block (block_in block)
whole_told own serials d n r f block sized exact loaded own-is other other-is whole =
    let same : own ≡ other = cc in
    subst (λ (s : Serial). IsWholeDisk s.0 n block (block_in block)) same
    (subst (λ (k : ℕ). IsWholeDisk own.0 k block (block_in block)) sized (whole_there own.0 r f block exact loaded whole))
