-- A fault that the steps find is the fault, and there is no other.
use Rattle.std.proofs.Common.{◌≡◌, ℕ, zero, suc, ◌+◌, ◌-◌, ◌<◌, ◌≤◌, inl, inr, List, [], length, drop, Result, Ok, Err, refl, sym, ◌∙◌, ap, subst, arith}
use Rattle.std.specs.Prelude.{◌↔◌, IsErrOf, ⊤}
use Rattle.std.proofs.lemmas.Bool.{both_ways, cases_order}
use Rattle.units.specs.declared.bounds.TheConstants.{HEADER_BYTES}
use Rattle.imsm_base.specs.Fields.{Part, number_at}
use Rattle.imsm_base.specs.Whole.{IsSize}
use Rattle.imsm_base.specs.Parts.{volumes_in, behind_disks, behind_volumes, block_in}
use Rattle.imsm_base.proofs.Apart.{length-volumes_in}
use Rattle.imsm_base.proofs.At.{place_of, place_of-below}
use Rattle.imsm_codec.specs.Given.{given_block, IsSigned, IsSized, IsGiven}
use Rattle.imsm_codec.specs.Table.{IsSummed, IsTabled, HasNoTwins, AreFirstTwins, are_twins_at}
use Rattle.imsm_codec.specs.Checked.{IsDistinct, IsFilled, IsChecked, HasRoomFor, HasFrontFault, HasBlockFault}
use Rattle.imsm_codec.specs.Faults.{HasTwins, EndsPast, HasBadTail, HasFault}
use Rattle.imsm_codec.specs.declared.fault.MpbFault.{MpbFault}
use Rattle.imsm_codec.specs.declared.fault.MpbFault.TheVariants.{Short, Signature, Size, Cut, Checksum, Counts, Serials, Volume as VolumeFault, BadBlocks}
use Rattle.imsm_codec.proofs.Laying.{begins_disks, begins_room, begins_rest, begins_apart, laid_ends, ends_laid, tail_of, tail_laid}

-- what the steps find, of the bytes
abbrev pub HasFound : List ℕ → MpbFault → Type 0
HasFound bytes (Short given) = HasFrontFault bytes (Short given)
HasFound bytes Signature = HasFrontFault bytes Signature
HasFound bytes (Size n) = HasFrontFault bytes (Size n)
HasFound bytes (Cut n given) = HasFrontFault bytes (Cut n given)
HasFound bytes e = IsGiven bytes × HasBlockFault (given_block bytes) e

pub found_front : (bytes : List ℕ) (e : MpbFault) → HasFrontFault bytes e → HasFound bytes e
found_front bytes (Short given) f = f
found_front bytes Signature f = f
found_front bytes (Size n) f = f
found_front bytes (Cut n given) f = f
found_front bytes _ f = absurd f

pub found_block : (bytes : List ℕ) (e : MpbFault) → IsGiven bytes → HasBlockFault (given_block bytes) e → HasFound bytes e
found_block bytes (Short given) g f = absurd f
found_block bytes Signature g f = absurd f
found_block bytes (Size n) g f = absurd f
found_block bytes (Cut n given) g f = absurd f
found_block bytes _ g f = (g, f)

-- twins of laid records, and of the records that are taken apart
twins_laid : (bytes : List ℕ) (i j : ℕ) → HasBlockFault bytes (Serials i j) → HasTwins bytes i j
twins_laid bytes i j (tabled, twins) = record {
  tabled = tabled;
  disks = (block_in bytes).disks;
  rest = behind_disks bytes;
  begins = begins_apart bytes 0 tabled.table (omega arith);
  twins = twins;
}

twins_found : (bytes : List ℕ) (i j : ℕ) → HasTwins bytes i j → HasBlockFault bytes (Serials i j)
twins_found bytes i j t = (t.tabled, subst (λ (ds : List Part). AreFirstTwins ds i j) (begins_disks bytes t.disks [] t.rest t.begins) t.twins)

-- the first volume that isn't laid inside
past_laid : (bytes : List ℕ) (i : ℕ) → HasBlockFault bytes (VolumeFault i) → EndsPast bytes i
past_laid bytes i (distinct, more, room, past) = record {
  tabled = distinct.tabled;
  disks = (block_in bytes).disks;
  volumes = volumes_in i (behind_disks bytes);
  rest = drop (place_of i (behind_disks bytes)) (behind_disks bytes);
  begins = begins_apart bytes i distinct.tabled.table room;
  apart = distinct.apart;
  count = length-volumes_in i (behind_disks bytes);
  more = more;
  past = λ v behind is at. past (laid_ends i (behind_disks bytes) v behind room is at);
}

none_behind : (bytes : List ℕ) (i k : ℕ) (rest : List ℕ) → k ≡ i → rest ≡ drop (place_of k (behind_disks bytes)) (behind_disks bytes) → rest ≡ drop (place_of i (behind_disks bytes)) (behind_disks bytes)
none_behind bytes i k rest e at = at ∙ ap (λ (n : ℕ). drop (place_of n (behind_disks bytes)) (behind_disks bytes)) e

past_found : (bytes : List ℕ) (i : ℕ) → EndsPast bytes i → HasBlockFault bytes (VolumeFault i)
past_found bytes i p =
    let room : HasRoomFor i bytes = subst (λ (n : ℕ). HasRoomFor n bytes) p.count (begins_room bytes p.disks p.volumes p.rest p.begins) in
    let at = none_behind bytes i (length p.volumes) p.rest p.count (begins_rest bytes p.disks p.volumes p.rest p.begins) in (
      record { tabled = p.tabled; apart = subst HasNoTwins (begins_disks bytes p.disks p.volumes p.rest p.begins) p.apart },
      p.more,
      room,
      λ more. let v = ends_laid i (behind_disks bytes) room more in p.past v.0 v.1 v.2 (at ∙ v.3),
    )

-- the tail behind the volumes
tail_past : (bytes : List ℕ) (n : ℕ) → HasBlockFault bytes (BadBlocks n) → HasBadTail bytes n
tail_past bytes n (filled, size, bad) = record {
  tabled = filled.distinct.tabled;
  disks = (block_in bytes).disks;
  volumes = volumes_in (number_at 1 57 bytes) (behind_disks bytes);
  rest = behind_volumes bytes;
  begins = begins_apart bytes (number_at 1 57 bytes) filled.distinct.tabled.table filled.room;
  apart = filled.distinct.apart;
  count = length-volumes_in (number_at 1 57 bytes) (behind_disks bytes);
  size = size;
  bad = λ gap tail len at accepted. bad (tail_of bytes gap tail (len ∙ size) at accepted);
}

tail_found : (bytes : List ℕ) (n : ℕ) → HasBadTail bytes n → HasBlockFault bytes (BadBlocks n)
tail_found bytes n t =
    let at = none_behind bytes (number_at 1 57 bytes) (length t.volumes) t.rest t.count (begins_rest bytes t.disks t.volumes t.rest t.begins) in (
      record {
        distinct = record { tabled = t.tabled; apart = subst HasNoTwins (begins_disks bytes t.disks t.volumes t.rest t.begins) t.apart };
        room = subst (λ (k : ℕ). HasRoomFor k bytes) t.count (begins_room bytes t.disks t.volumes t.rest t.begins);
      },
      t.size,
      λ has. let p = tail_laid bytes has in t.bad p.0 p.1 (p.2 ∙ sym t.size) (at ∙ p.3) p.4,
    )

pub fault_from_found : (bytes : List ℕ) (e : MpbFault) → HasFound bytes e → HasFault bytes e
fault_from_found bytes (Short given) f = f
fault_from_found bytes Signature f = f
fault_from_found bytes (Size n) f = f
fault_from_found bytes (Cut n given) f = f
fault_from_found bytes (Checksum kept summed) f = f
fault_from_found bytes (Counts disks volumes) f = f
fault_from_found bytes (Serials i j) f = (f.0, twins_laid (given_block bytes) i j f.1)
fault_from_found bytes (VolumeFault i) f = (f.0, past_laid (given_block bytes) i f.1)
fault_from_found bytes (BadBlocks n) f = (f.0, tail_past (given_block bytes) n f.1)

pub found_from_fault : (bytes : List ℕ) (e : MpbFault) → HasFault bytes e → HasFound bytes e
found_from_fault bytes (Short given) f = f
found_from_fault bytes Signature f = f
found_from_fault bytes (Size n) f = f
found_from_fault bytes (Cut n given) f = f
found_from_fault bytes (Checksum kept summed) f = f
found_from_fault bytes (Counts disks volumes) f = f
found_from_fault bytes (Serials i j) f = (f.0, twins_found (given_block bytes) i j f.1)
found_from_fault bytes (VolumeFault i) f = (f.0, past_found (given_block bytes) i f.1)
found_from_fault bytes (BadBlocks n) f = (f.0, tail_found (given_block bytes) n f.1)

-- the steps in their order: each fault has passed those before it, and not its own
abbrev rank : MpbFault → ℕ
rank (Short given) = 0
rank Signature = 1
rank (Size n) = 2
rank (Cut n given) = 3
rank (Checksum kept summed) = 4
rank (Counts disks volumes) = 5
rank (Serials i j) = 6
rank (VolumeFault i) = 7
rank (BadBlocks n) = 8

abbrev Passed : ℕ → List ℕ → Type 0
Passed zero bytes = ⊤
Passed (suc zero) bytes = HEADER_BYTES ≤ length bytes
Passed (suc (suc zero)) bytes = IsSigned bytes
Passed (suc (suc (suc zero))) bytes = IsSized bytes
Passed (suc (suc (suc (suc zero)))) bytes = IsGiven bytes
Passed (suc (suc (suc (suc (suc zero))))) bytes = IsGiven bytes × IsSummed (given_block bytes)
Passed (suc (suc (suc (suc (suc (suc zero)))))) bytes = IsGiven bytes × IsTabled (given_block bytes)
Passed (suc (suc (suc (suc (suc (suc (suc zero))))))) bytes = IsGiven bytes × IsDistinct (given_block bytes)
Passed (suc (suc (suc (suc (suc (suc (suc (suc zero)))))))) bytes = IsGiven bytes × IsFilled (given_block bytes)
Passed (suc (suc (suc (suc (suc (suc (suc (suc (suc k))))))))) bytes = IsGiven bytes × IsChecked (given_block bytes)

step_back : (k : ℕ) (bytes : List ℕ) → Passed (suc k) bytes → Passed k bytes
step_back zero bytes p = tt
step_back (suc zero) bytes p = p.long
step_back (suc (suc zero)) bytes p = p.signed
step_back (suc (suc (suc zero))) bytes p = p.sized
step_back (suc (suc (suc (suc zero)))) bytes p = p.0
step_back (suc (suc (suc (suc (suc zero))))) bytes p = (p.0, p.1.summed)
step_back (suc (suc (suc (suc (suc (suc zero)))))) bytes p = (p.0, p.1.tabled)
step_back (suc (suc (suc (suc (suc (suc (suc zero))))))) bytes p = (p.0, p.1.distinct)
step_back (suc (suc (suc (suc (suc (suc (suc (suc zero)))))))) bytes p = (p.0, p.1.filled)
step_back (suc (suc (suc (suc (suc (suc (suc (suc (suc k))))))))) bytes p = p

steps_back : (d k : ℕ) (bytes : List ℕ) → Passed (d + k) bytes → Passed k bytes
steps_back zero k bytes p = let same : 0 + k ≡ k = omega arith in subst (λ (n : ℕ). Passed n bytes) same p
steps_back (suc d) k bytes p =
    let same : suc d + k ≡ suc (d + k) = omega arith in
    steps_back d k bytes (step_back (d + k) bytes (subst (λ (n : ℕ). Passed n bytes) same p))

passed : (bytes : List ℕ) (e : MpbFault) → HasFound bytes e → Passed (rank e) bytes
passed bytes (Short given) f = tt
passed bytes Signature f = f.0
passed bytes (Size n) f = f.0
passed bytes (Cut n given) f = f.0
passed bytes (Checksum kept summed) f = f.0
passed bytes (Counts disks volumes) f = (f.0, f.1.0)
passed bytes (Serials i j) f = (f.0, f.1.0)
passed bytes (VolumeFault i) f = (f.0, f.1.0)
passed bytes (BadBlocks n) f = (f.0, f.1.0)

all_volumes : (bytes : List ℕ) (i : ℕ) → i < number_at 1 57 bytes → HasRoomFor (number_at 1 57 bytes) bytes → HasRoomFor (i + 1) bytes
all_volumes bytes i below room = let more = place_of-below (i + 1) (number_at 1 57 bytes) (behind_disks bytes) (omega arith) in omega arith

not_passed : (bytes : List ℕ) (e : MpbFault) → HasFound bytes e → Passed (suc (rank e)) bytes → ⊥
not_passed bytes (Short given) f p = let long : HEADER_BYTES ≤ length bytes = p in omega (arith, f.0, f.1)
not_passed bytes Signature f p = f.1 p.signed
not_passed bytes (Size n) f p = f.2 (subst IsSize (sym f.1) p.sized)
not_passed bytes (Cut n given) f p = omega (arith, f.1, f.2, f.3, p.given)
not_passed bytes (Checksum kept summed) f p = f.1.2 (f.1.0 ∙ p.1 ∙ sym f.1.1)
not_passed bytes (Counts disks volumes) f p = f.1.3 p.1.table
not_passed bytes (Serials i j) f p =
    both_ways (are_twins_at (block_in (given_block bytes)).disks i j) (p.1.apart i j f.1.1.order f.1.1.inside) f.1.1.twins
not_passed bytes (VolumeFault i) f p = f.1.3 (all_volumes (given_block bytes) i f.1.1 p.1.room)
not_passed bytes (BadBlocks n) f p = f.1.2 p.1.tail

not_below : (bytes : List ℕ) (e f : MpbFault) → HasFound bytes e → HasFound bytes f → rank e < rank f → ⊥
not_below bytes e f a b below =
    let n : ℕ = rank e in
    let m : ℕ = rank f in
    let d : ℕ = m - suc n in
    let sum : m ≡ d + suc n = omega arith in
    not_passed bytes e a (steps_back d (suc n) bytes (subst (λ (k : ℕ). Passed k bytes) sum (passed bytes f b)))

same_rank : (bytes : List ℕ) (e f : MpbFault) → HasFound bytes e → HasFound bytes f → rank e ≡ rank f
same_rank bytes e f a b =
    elim (cases_order (rank e) (rank f)) [
      | inl same ↦ same
      | inr (inl below) ↦ absurd (not_below bytes e f a b below)
      | inr (inr above) ↦ absurd (not_below bytes f e b a above)
    ]

-- two faults of one step are one
pairs_once : (ds : List Part) (i j k l : ℕ) → AreFirstTwins ds i j → AreFirstTwins ds k l → i < k → ⊥
pairs_once ds i j k l a b below = both_ways (are_twins_at ds i j) (b.rows i j below a.order a.inside) a.twins

ends_once : (ds : List Part) (i j l : ℕ) → AreFirstTwins ds i j → AreFirstTwins ds i l → j < l → ⊥
ends_once ds i j l a b below = both_ways (are_twins_at ds i j) (b.before j a.order below) a.twins

same_end : (ds : List Part) (i j l : ℕ) → AreFirstTwins ds i j → AreFirstTwins ds i l → j ≡ l
same_end ds i j l a b =
    elim (cases_order j l) [
      | inl same ↦ same
      | inr (inl below) ↦ absurd (ends_once ds i j l a b below)
      | inr (inr above) ↦ absurd (ends_once ds i l j b a above)
    ]

same_start : (ds : List Part) (i j k l : ℕ) → AreFirstTwins ds i j → AreFirstTwins ds k l → i ≡ k
same_start ds i j k l a b =
    elim (cases_order i k) [
      | inl same ↦ same
      | inr (inl below) ↦ absurd (pairs_once ds i j k l a b below)
      | inr (inr above) ↦ absurd (pairs_once ds k l i j b a above)
    ]

same_twins : (ds : List Part) (i j k l : ℕ) → AreFirstTwins ds i j → AreFirstTwins ds k l → Serials i j ≡ Serials k l
same_twins ds i j k l a b =
    let start : i ≡ k = same_start ds i j k l a b in
    let end : j ≡ l = same_end ds i j l a (subst (λ (n : ℕ). AreFirstTwins ds n l) (sym start) b) in
    ap (λ (n : ℕ). Serials n j) start ∙ ap (Serials k) end

ends_before : (bytes : List ℕ) (i k : ℕ) → HasRoomFor k bytes → (HasRoomFor (i + 1) bytes → ⊥) → i < k → ⊥
ends_before bytes i k room past below = past (let more = place_of-below (i + 1) k (behind_disks bytes) (omega arith) in omega arith)

same_volume : (bytes : List ℕ) (i k : ℕ) → HasRoomFor i bytes → (HasRoomFor (i + 1) bytes → ⊥) → HasRoomFor k bytes → (HasRoomFor (k + 1) bytes → ⊥) → i ≡ k
same_volume bytes i k a p b q =
    elim (cases_order i k) [
      | inl same ↦ same
      | inr (inl below) ↦ absurd (ends_before bytes i k b p below)
      | inr (inr above) ↦ absurd (ends_before bytes k i a q above)
    ]

two : {a b c d : ℕ} (f : ℕ → ℕ → MpbFault) → a ≡ c → b ≡ d → f a b ≡ f c d
two {a} {b} {c} {d} f p q = ap (λ (n : ℕ). f n b) p ∙ ap (f c) q

as_short : (bytes : List ℕ) (n : ℕ) (f : MpbFault) → HasFound bytes (Short n) → HasFound bytes f → 0 ≡ rank f → Short n ≡ f
as_short bytes n (Short m) a b same = ap Short (a.0 ∙ sym b.0)
as_short bytes n _ a b same = absurd (omega arith)

as_signature : (bytes : List ℕ) (f : MpbFault) → HasFound bytes f → 1 ≡ rank f → Signature ≡ f
as_signature bytes Signature b same = refl
as_signature bytes _ b same = absurd (omega arith)

as_size : (bytes : List ℕ) (n : ℕ) (f : MpbFault) → HasFound bytes (Size n) → HasFound bytes f → 2 ≡ rank f → Size n ≡ f
as_size bytes n (Size m) a b same = ap Size (a.1 ∙ sym b.1)
as_size bytes n _ a b same = absurd (omega arith)

as_cut : (bytes : List ℕ) (n m : ℕ) (f : MpbFault) → HasFound bytes (Cut n m) → HasFound bytes f → 3 ≡ rank f → Cut n m ≡ f
as_cut bytes n m (Cut k l) a b same = two Cut (a.1 ∙ sym b.1) (a.2 ∙ sym b.2)
as_cut bytes n m _ a b same = absurd (omega arith)

as_checksum : (bytes : List ℕ) (n m : ℕ) (f : MpbFault) → HasFound bytes (Checksum n m) → HasFound bytes f → 4 ≡ rank f → Checksum n m ≡ f
as_checksum bytes n m (Checksum k l) a b same = two Checksum (a.1.0 ∙ sym b.1.0) (a.1.1 ∙ sym b.1.1)
as_checksum bytes n m _ a b same = absurd (omega arith)

as_counts : (bytes : List ℕ) (n m : ℕ) (f : MpbFault) → HasFound bytes (Counts n m) → HasFound bytes f → 5 ≡ rank f → Counts n m ≡ f
as_counts bytes n m (Counts k l) a b same = two Counts (a.1.1 ∙ sym b.1.1) (a.1.2 ∙ sym b.1.2)
as_counts bytes n m _ a b same = absurd (omega arith)

as_serials : (bytes : List ℕ) (i j : ℕ) (f : MpbFault) → HasFound bytes (Serials i j) → HasFound bytes f → 6 ≡ rank f → Serials i j ≡ f
as_serials bytes i j (Serials k l) a b same = same_twins (block_in (given_block bytes)).disks i j k l a.1.1 b.1.1
as_serials bytes i j _ a b same = absurd (omega arith)

as_volume : (bytes : List ℕ) (i : ℕ) (f : MpbFault) → HasFound bytes (VolumeFault i) → HasFound bytes f → 7 ≡ rank f → VolumeFault i ≡ f
as_volume bytes i (VolumeFault k) a b same = ap VolumeFault (same_volume (given_block bytes) i k a.1.2 a.1.3 b.1.2 b.1.3)
as_volume bytes i _ a b same = absurd (omega arith)

as_tail : (bytes : List ℕ) (n : ℕ) (f : MpbFault) → HasFound bytes (BadBlocks n) → HasFound bytes f → 8 ≡ rank f → BadBlocks n ≡ f
as_tail bytes n (BadBlocks m) a b same = ap BadBlocks (a.1.1 ∙ sym b.1.1)
as_tail bytes n _ a b same = absurd (omega arith)

same_found : (bytes : List ℕ) (e f : MpbFault) → HasFound bytes e → HasFound bytes f → rank e ≡ rank f → e ≡ f
same_found bytes (Short n) f a b same = as_short bytes n f a b same
same_found bytes Signature f a b same = as_signature bytes f b same
same_found bytes (Size n) f a b same = as_size bytes n f a b same
same_found bytes (Cut n m) f a b same = as_cut bytes n m f a b same
same_found bytes (Checksum n m) f a b same = as_checksum bytes n m f a b same
same_found bytes (Counts n m) f a b same = as_counts bytes n m f a b same
same_found bytes (Serials i j) f a b same = as_serials bytes i j f a b same
same_found bytes (VolumeFault i) f a b same = as_volume bytes i f a b same
same_found bytes (BadBlocks n) f a b same = as_tail bytes n f a b same

pub found_once : (bytes : List ℕ) (e f : MpbFault) → HasFound bytes e → HasFound bytes f → e ≡ f
found_once bytes e f a b = same_found bytes e f a b (same_rank bytes e f a b)

-- an error that the steps found is exactly the fault
pub exact_error : {T : Type 0} (bytes : List ℕ) (r : Result T MpbFault) (found e : MpbFault) → r ≡ Err found → HasFound bytes found → IsErrOf r e ↔ HasFault bytes e
exact_error bytes r found e is has = (there, back)
  where
    there : r ≡ Err e → HasFault bytes e
    there other = let same : found ≡ e = cc in fault_from_found bytes e (subst (HasFound bytes) same has)

    back : HasFault bytes e → r ≡ Err e
    back fault = is ∙ ap Err (found_once bytes found e has (found_from_fault bytes e fault))

all_passed : (bytes : List ℕ) (f : MpbFault) → IsGiven bytes → IsChecked (given_block bytes) → Passed (suc (rank f)) bytes
all_passed bytes (Short n) g c = g.sized.signed.long
all_passed bytes Signature g c = g.sized.signed
all_passed bytes (Size n) g c = g.sized
all_passed bytes (Cut n m) g c = g
all_passed bytes (Checksum n m) g c = (g, c.filled.distinct.tabled.summed)
all_passed bytes (Counts n m) g c = (g, c.filled.distinct.tabled)
all_passed bytes (Serials i j) g c = (g, c.filled.distinct)
all_passed bytes (VolumeFault i) g c = (g, c.filled)
all_passed bytes (BadBlocks n) g c = (g, c)

-- where all steps pass there is no fault
pub exact_ok : {T : Type 0} (bytes : List ℕ) (x : T) (e : MpbFault) → IsGiven bytes → IsChecked (given_block bytes) → Ok x ≡ Err e ↔ HasFault bytes e
exact_ok bytes x e given checked =
    (λ same. cc, λ fault. absurd (not_passed bytes e (found_from_fault bytes e fault) (all_passed bytes e given checked)))
