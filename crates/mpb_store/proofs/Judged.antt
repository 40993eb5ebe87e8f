-- What is found on a disk is one answer.
use Rattle.std.proofs.Common.{◌≡◌, ◌≢◌, ℕ, ◌<◌, ◌≤◌, ◌⊎◌, inl, inr, ◌%◌, false, true, List, [], length, take, Option, Some, None, Ok, Err, refl, sym, ◌∙◌, ap, subst, arith}
use Rattle.std.specs.Prelude.{◌↔◌}
use Rattle.std.specs.Option.{IsSomeAnd}
use Rattle.std.proofs.lemmas.Bool.{false≢true}
use Rattle.imsm_base.specs.Fields.{Part}
use Rattle.imsm_base.specs.Layout.{total_blocks_of}
use Rattle.imsm_base.specs.Parts.{block_in}
use Rattle.imsm_base.specs.Whole.{the_signature, IsWhole, IsWholeDisk}
use Rattle.imsm_codec.specs.Given.{size_in, given_block, IsSigned}
use Rattle.imsm_codec.specs.Faults.{HasFault}
use Rattle.imsm_codec.specs.declared.fault.MpbFault.{MpbFault}
use Rattle.imsm_codec.specs.declared.fault.MpbFault.TheVariants.{Short, Signature, Size, Cut, Checksum, Counts, Serials, Volume as VolumeFault, BadBlocks}
use Rattle.imsm_codec.proofs.Wholeness.{checks_from_whole}
use Rattle.imsm_codec.proofs.Exact.{found_once, found_from_fault, exact_ok}
use Rattle.mpb_store.specs.declared.answer.Found.{Found}
use Rattle.mpb_store.specs.declared.answer.Found.TheVariants.{Whole, Blank, Torn, Unread}
use Rattle.mpb_store.specs.declared.answer.StoreFault.TheVariants.{Mpb, NoOwn, Small}
use Rattle.mpb_store.specs.Reading.{Reading, IsReading, places_left}
use Rattle.mpb_store.specs.Answers.{IsMarked, HasBlock, own_in, IsFound, IsAnswer, IsPastFront, found_by}
use Rattle.mpb_store.proofs.Placing.{by_room, unread_small, left_uncut}

pub signed_whole : (bytes : List ℕ) → IsWhole (given_block bytes) → take 24 bytes ≡ the_signature
signed_whole bytes w = (checks_from_whole bytes w).0.sized.signed.signed

ok_err : (x : ℕ) (e : MpbFault) → Ok x ≡ Err e → ⊥
ok_err x e same = cc

-- a fault isn't a whole block's
pub fault_whole : (bytes : List ℕ) (e : MpbFault) → HasFault bytes e → IsWhole (given_block bytes) → ⊥
fault_whole bytes e f w =
    let checks = checks_from_whole bytes w in
    ok_err 0 e ((exact_ok {T = ℕ} bytes 0 e checks.0 checks.1).1 f)

blank_marked : (n : ℕ) (bytes : List ℕ) → (n < 18) ⊎ (take 24 bytes ≢ the_signature) → 18 ≤ n → take 24 bytes ≡ the_signature → ⊥
blank_marked n bytes (inl few) room signed = omega arith
blank_marked n bytes (inr other) room signed = other signed

blank_block : (n : ℕ) (bytes : List ℕ) → (n < 18) ⊎ (take 24 bytes ≢ the_signature) → HasBlock n bytes → ⊥
blank_block n bytes blank b = blank_marked n bytes blank b.room (signed_whole bytes b.whole)

pub block_of_disk : (own : List ℕ) (n : ℕ) (bytes : List ℕ) → IsWholeDisk own n (given_block bytes) (block_in (given_block bytes)) → HasBlock n bytes
block_of_disk own n bytes w = record { room = w.enough; whole = (block_in (given_block bytes), w.whole) }

none_some : (o : Option Part) (P : Part → Type 0) → o ≡ None → IsSomeAnd o P → ⊥
none_some None P none is = absurd is
none_some (Some d) P none is = absurd (cc)

fits_small : (o : Option Part) (n named : ℕ) → IsSomeAnd o (λ d. total_blocks_of d ≤ n) → IsSomeAnd o (λ d. total_blocks_of d ≡ named) → n < named → ⊥
fits_small None n named fits is less = absurd is
fits_small (Some d) n named fits is less = omega arith

one_name : (o : Option Part) (named other : ℕ) → IsSomeAnd o (λ d. total_blocks_of d ≡ named) → IsSomeAnd o (λ d. total_blocks_of d ≡ other) → named ≡ other
one_name None named other a b = absurd a
one_name (Some d) named other a b = sym a ∙ b

same_small : (named has other had : ℕ) → named ≡ other → has ≡ had → Torn (Small named has) ≡ Torn (Small other had)
same_small named has other had p q = ap (λ (k : ℕ). Torn (Small k has)) p ∙ ap (λ (k : ℕ). Torn (Small other k)) q

whole_once : (own : List ℕ) (n : ℕ) (bytes : List ℕ) (g : Found) → IsFound own n bytes Whole → IsFound own n bytes g → Whole ≡ g
whole_once own n bytes Whole a b = refl
whole_once own n bytes Blank a b = absurd (blank_block n bytes b (block_of_disk own n bytes a))
whole_once own n bytes (Torn (Mpb e)) a b = absurd (fault_whole bytes e b.1 (block_of_disk own n bytes a).whole)
whole_once own n bytes (Torn NoOwn) a b = absurd (none_some (own_in own bytes) (λ d. total_blocks_of d ≤ n) b.1 a.own_fits)
whole_once own n bytes (Torn (Small named has)) a b = absurd (fits_small (own_in own bytes) n named a.own_fits b.1 b.3)
whole_once own n bytes Unread a b = absurd b

blank_once : (own : List ℕ) (n : ℕ) (bytes : List ℕ) (g : Found) → IsFound own n bytes Blank → IsFound own n bytes g → Blank ≡ g
blank_once own n bytes Whole a b = sym (whole_once own n bytes Blank b a)
blank_once own n bytes Blank a b = refl
blank_once own n bytes (Torn (Mpb e)) a b = absurd (blank_marked n bytes a b.0.room b.0.signed)
blank_once own n bytes (Torn NoOwn) a b = absurd (blank_block n bytes a b.0)
blank_once own n bytes (Torn (Small named has)) a b = absurd (blank_block n bytes a b.0)
blank_once own n bytes Unread a b = absurd b

fault_once : (own : List ℕ) (n : ℕ) (bytes : List ℕ) (e : MpbFault) (g : Found) → IsFound own n bytes (Torn (Mpb e)) → IsFound own n bytes g → Torn (Mpb e) ≡ g
fault_once own n bytes e Whole a b = sym (whole_once own n bytes (Torn (Mpb e)) b a)
fault_once own n bytes e Blank a b = sym (blank_once own n bytes (Torn (Mpb e)) b a)
fault_once own n bytes e (Torn (Mpb f)) a b =
    ap (λ (x : MpbFault). Torn (Mpb x)) (found_once bytes e f (found_from_fault bytes e a.1) (found_from_fault bytes f b.1))
fault_once own n bytes e (Torn NoOwn) a b = absurd (fault_whole bytes e a.1 b.0.whole)
fault_once own n bytes e (Torn (Small named has)) a b = absurd (fault_whole bytes e a.1 b.0.whole)
fault_once own n bytes e Unread a b = absurd b

unowned_once : (own : List ℕ) (n : ℕ) (bytes : List ℕ) (g : Found) → IsFound own n bytes (Torn NoOwn) → IsFound own n bytes g → Torn NoOwn ≡ g
unowned_once own n bytes Whole a b = sym (whole_once own n bytes (Torn NoOwn) b a)
unowned_once own n bytes Blank a b = sym (blank_once own n bytes (Torn NoOwn) b a)
unowned_once own n bytes (Torn (Mpb e)) a b = sym (fault_once own n bytes e (Torn NoOwn) b a)
unowned_once own n bytes (Torn NoOwn) a b = refl
unowned_once own n bytes (Torn (Small named has)) a b = absurd (none_some (own_in own bytes) (λ d. total_blocks_of d ≡ named) a.1 b.1)
unowned_once own n bytes Unread a b = absurd b

small_once : (own : List ℕ) (n : ℕ) (bytes : List ℕ) (named has : ℕ) (g : Found) → IsFound own n bytes (Torn (Small named has)) → IsFound own n bytes g → Torn (Small named has) ≡ g
small_once own n bytes named has Whole a b = sym (whole_once own n bytes (Torn (Small named has)) b a)
small_once own n bytes named has Blank a b = sym (blank_once own n bytes (Torn (Small named has)) b a)
small_once own n bytes named has (Torn (Mpb e)) a b = sym (fault_once own n bytes e (Torn (Small named has)) b a)
small_once own n bytes named has (Torn NoOwn) a b = sym (unowned_once own n bytes (Torn (Small named has)) b a)
small_once own n bytes named has (Torn (Small other had)) a b =
    same_small named has other had (one_name (own_in own bytes) named other a.1 b.1) (a.2 ∙ sym b.2)
small_once own n bytes named has Unread a b = absurd b

pub found_is_one : (own : List ℕ) (n : ℕ) (bytes : List ℕ) (f g : Found) → IsFound own n bytes f → IsFound own n bytes g → f ≡ g
found_is_one own n bytes Whole g a b = whole_once own n bytes g a b
found_is_one own n bytes Blank g a b = blank_once own n bytes g a b
found_is_one own n bytes (Torn (Mpb e)) g a b = fault_once own n bytes e g a b
found_is_one own n bytes (Torn NoOwn) g a b = unowned_once own n bytes g a b
found_is_one own n bytes (Torn (Small named has)) g a b = small_once own n bytes named has g a b
found_is_one own n bytes Unread g a b = absurd a

-- THE ANSWER OF A READING

answer_from : (own : List ℕ) (r : Reading) (f : Found) → r.failed ≡ false → IsFound own r.sectors r.bytes f → IsAnswer own r f
answer_from own r Unread well is = absurd is
answer_from own r _ well is = (well, is)

pub found_from : (own : List ℕ) (r : Reading) (f : Found) → r.failed ≡ false → IsAnswer own r f → IsFound own r.sectors r.bytes f
found_from own r Unread well is = absurd (false≢true (sym well ∙ is))
found_from own r Whole well is = is.1
found_from own r Blank well is = is.1
found_from own r (Torn fault) well is = is.1

-- what is found is the answer, and no other is
pub exact_answer : (own : List ℕ) (r : Reading) (f : Found) → r.failed ≡ false → IsFound own r.sectors r.bytes f → (g : Found) → (f ≡ g) ↔ IsAnswer own r g
exact_answer own r f well is g =
    (λ same. subst (IsAnswer own r) same (answer_from own r f well is), λ a. found_is_one own r.sectors r.bytes f g is (found_from own r g well a))

-- where bytes were read there is room for metadata
room_from : (r : Reading) → IsReading r.sectors r.bytes → 216 ≤ length r.bytes → 18 ≤ r.sectors
room_from r reading long = by_room r.sectors (18 ≤ r.sectors) (λ few. absurd (none (reading.none few))) (λ room. room) where
  none : r.bytes ≡ [] → ⊥
  none empty = let len : length r.bytes ≡ 0 = ap (λ (x : List ℕ). length x) empty in omega arith

marked : (r : Reading) → IsReading r.sectors r.bytes → IsSigned r.bytes → IsMarked r.sectors r.bytes
marked r reading s = record { room = room_from r reading s.long; signed = s.signed }

-- what a fault of the sectors that were read says
pub fault_found : (own : List ℕ) (r : Reading) (e : MpbFault) → r.failed ≡ false → IsReading r.sectors r.bytes → places_left r ≡ [] → HasFault r.bytes e → IsFound own r.sectors r.bytes (found_by e)
fault_found own r (Short given) well reading over f =
    inl (unread_small r well over (let len : given ≡ length r.bytes = f.0 in let few : given < 216 = f.1 in let whole : length r.bytes % 512 ≡ 0 = reading.whole in omega arith))
fault_found own r Signature well reading over f = inr f.1
fault_found own r (Size n) well reading over f = (marked r reading f.0, f)
fault_found own r (Cut n given) well reading over f = (marked r reading f.0.signed, f)
fault_found own r (Checksum n m) well reading over f = (marked r reading f.0.sized.signed, f)
fault_found own r (Counts n m) well reading over f = (marked r reading f.0.sized.signed, f)
fault_found own r (Serials i j) well reading over f = (marked r reading f.0.sized.signed, f)
fault_found own r (VolumeFault i) well reading over f = (marked r reading f.0.sized.signed, f)
fault_found own r (BadBlocks n) well reading over f = (marked r reading f.0.sized.signed, f)

-- and it is none of the front's
pub fault_behind : (r : Reading) (e : MpbFault) → r.failed ≡ false → IsReading r.sectors r.bytes → places_left r ≡ [] → HasFault r.bytes e → IsPastFront (found_by e)
fault_behind r (Short given) well reading over f = tt
fault_behind r Signature well reading over f = tt
fault_behind r (Cut n given) well reading over f =
    let size : n ≡ size_in r.bytes = f.1 in
    let len : given ≡ length r.bytes = f.2 in
    let less : given < n = f.3 in
    left_uncut r well (room_from r reading f.0.signed.long) reading.whole over (record { sized = f.0; more = omega arith })
fault_behind r (Size n) well reading over f = tt
fault_behind r (Checksum n m) well reading over f = tt
fault_behind r (Counts n m) well reading over f = tt
fault_behind r (Serials i j) well reading over f = tt
fault_behind r (VolumeFault i) well reading over f = tt
fault_behind r (BadBlocks n) well reading over f = tt

-- an answer of the fields is one of what is seen of them
pub answer_of : (own : List ℕ) (r now : Reading) (f : Found) → r ≡ now → r.failed ≡ false → IsFound own r.sectors r.bytes f → (g : Found) → (f ≡ g) ↔ IsAnswer own now g
answer_of own r now f is well found = subst (λ (x : Reading). (g : Found) → (f ≡ g) ↔ IsAnswer own x g) is (exact_answer own r f well found)
