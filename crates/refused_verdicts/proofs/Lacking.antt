-- The disks that the newest block expects and that are of no use lack.
use Rattle.std.proofs.Common.{◌≡◌, ◌<◌, ◌+◌, ◌⊎◌, inl, inr, ℕ, zero, suc, Bool, true, false, List, [], ◌∷◌, map, take, slice_index_or, Some, refl, sym, ◌∙◌, ap, subst, arith}
use Rattle.std.specs.Prelude.{Contains, slice_get, slice_index}
use Rattle.std.specs.Option.{option_map}
use Rattle.std.proofs.lemmas.Bool.{false≢true}
use Rattle.std.proofs.lemmas.List.Elements.{Contains-append_cases}
use Rattle.std.proofs.lemmas.Option.{slice_get-map}
use Rattle.units.specs.declared.disk.Sector.{Sector}
use Rattle.units.specs.declared.disk.Serial.{Serial}
use Rattle.imsm_base.specs.Fields.{Part}
use Rattle.imsm_base.specs.Layout.{serial_of, volume_count_of}
use Rattle.imsm_base.specs.Parts.{block_in}
use Rattle.imsm_base.specs.Whole.{is_expected, standing}
use Rattle.imsm_text.specs.Text.{serial_text}
use Rattle.device_log.specs.Log.{Call}
use Rattle.mpb_store.specs.declared.answer.Found.TheVariants as found
use Rattle.mpb_store.specs.Banks.{AreRead, is_unread, read_of}
use Rattle.container.specs.declared.missing.Missing.{Missing}
use Rattle.container.specs.declared.seen.Seen.{Seen}
use Rattle.container.specs.declared.seen.SeenAs.{SeenAs}
use Rattle.container.specs.Lacking.{AreMissing, IsGood, IsMissing, IsServed}
use Rattle.container.specs.Seen.{HasDisk}
use Rattle.assembly.specs.Seen.{are_unread, found_of}
use Rattle.image_outside.specs.Told.{BankTold}
use Rattle.refused_verdicts.specs.Told.{IsOfNoUse, Tells, block_places, stood_on}
use Rattle.refused_verdicts.specs.Told.IsOfNoUse.{Absent, Unwhole, Spare, Unread, Small}
use Rattle.refused_verdicts.proofs.Newest.{container_there, found_so, whole_read}
use Rattle.refused_verdicts.proofs.Places.{at_place, in_cons, in_nil}
use Rattle.refused_verdicts.proofs.Looked.{LooksAre}
use Rattle.refused_verdicts.proofs.Seeing.{AreSeenSo, IsSeenSo}

-- THE LIST

-- a record that is expected is served, or its disk is listed
abbrev pub IsAnswered : List Seen → List Missing → Part → Type 0
IsAnswered seen list entry = HasDisk seen (serial_of entry) (IsGood entry) ⊎ ((m : Missing) × Contains list m × IsMissing seen entry m)

more_listed : (seen : List Seen) (list : List Missing) (first : Missing) (entry : Part) → IsAnswered seen list entry → IsAnswered seen (first ∷ list) entry
more_listed seen list first entry (inl good) = inl good
more_listed seen list first entry (inr (m, (k, below, is), lacks)) = inr (m, (suc k, omega (arith, below), is), lacks)

served_good : (seen : List Seen) (entry : Part) → is_expected entry ≡ true → IsServed seen entry → HasDisk seen (serial_of entry) (IsGood entry)
served_good seen entry expected (inl out) = absurd (false≢true (sym out ∙ expected))
served_good seen entry expected (inr good) = good

pub answered : (seen : List Seen) (disks : List Part) (list : List Missing) → AreMissing seen disks list → (i : ℕ) (entry : Part) → slice_get disks i ≡ Some entry → is_expected entry ≡ true
    → IsAnswered seen list entry
answered seen [] list are i entry at expected = absurd (cc at)
answered seen (d ∷ disks) [] are zero entry at expected =
    let same : d ≡ entry = cc at in
    inl (served_good seen entry expected (subst (IsServed seen) same are.0))
answered seen (d ∷ disks) [] are (suc i) entry at expected = answered seen disks [] are.1 i entry at expected
answered seen (d ∷ disks) (m ∷ list) (inl (served, rest)) zero entry at expected =
    let same : d ≡ entry = cc at in
    inl (served_good seen entry expected (subst (IsServed seen) same served))
answered seen (d ∷ disks) (m ∷ list) (inl (served, rest)) (suc i) entry at expected = answered seen disks (m ∷ list) rest i entry at expected
answered seen (d ∷ disks) (m ∷ list) (inr (lacks, rest)) zero entry at expected =
    let same : d ≡ entry = cc at in
    inr (m, (0, omega arith, refl), subst (λ (x : Part). IsMissing seen x m) same lacks)
answered seen (d ∷ disks) (m ∷ list) (inr (lacks, rest)) (suc i) entry at expected =
    more_listed seen list m entry (answered seen disks list rest i entry at expected)

-- a listed disk is that of a record
pub record IsListedBy (seen : List Seen) (disks : List Part) (m : Missing) : Type 0 where
  pub place : ℕ
  pub entry : Part
  pub there : slice_get disks place ≡ Some entry
  pub lacks : IsMissing seen entry m

further : (seen : List Seen) (d : Part) (disks : List Part) (m : Missing) → IsListedBy seen disks m → IsListedBy seen (d ∷ disks) m
further seen d disks m by = record { place = suc by.place; entry = by.entry; there = by.there; lacks = by.lacks }

pub listed_by : (seen : List Seen) (disks : List Part) (list : List Missing) → AreMissing seen disks list → (m : Missing) → Contains list m → IsListedBy seen disks m
listed_by seen [] [] are m there = absurd (in_nil m there)
listed_by seen [] (x ∷ list) are m there = absurd are
listed_by seen (d ∷ disks) [] are m there = absurd (in_nil m there)
listed_by seen (d ∷ disks) (x ∷ list) (inl (served, rest)) m there = further seen d disks m (listed_by seen disks (x ∷ list) rest m there)
listed_by seen (d ∷ disks) (x ∷ list) (inr (lacks, rest)) m there =
    at (in_cons x list m there) (λ behind. listed_by seen disks list rest m behind)
  where
    at : (x ≡ m) ⊎ Contains list m → (Contains list m → IsListedBy seen disks m) → IsListedBy seen (d ∷ disks) m
    at (inl same) more = record { place = 0; entry = d; there = refl; lacks = subst (IsMissing seen d) same lacks }
    at (inr behind) more = further seen d disks m (more behind)

-- CALLS THAT FAILED

went_well : (d : ℕ) (places : List ℕ) (call : Call) → Contains (map (read_of d true) places) call → call.went ≡ true
went_well d [] call there = absurd (in_nil call there)
went_well d (p ∷ places) call there = at (in_cons _ _ call there) (λ behind. went_well d places call behind) where
  at : (read_of d true p ≡ call) ⊎ Contains (map (read_of d true) places) call → (Contains (map (read_of d true) places) call → call.went ≡ true) → call.went ≡ true
  at (inl same) more = sym (ap (λ (c : Call). c.went) same)
  at (inr behind) more = more behind

of_disk : (d : ℕ) (went : Bool) (places : List ℕ) (call : Call) → Contains (map (read_of d went) places) call → call.disk ≡ d
of_disk d went [] call there = absurd (in_nil call there)
of_disk d went (p ∷ places) call there = at (in_cons _ _ call there) (λ behind. of_disk d went places call behind) where
  at : (read_of d went p ≡ call) ⊎ Contains (map (read_of d went) places) call → (Contains (map (read_of d went) places) call → call.disk ≡ d) → call.disk ≡ d
  at (inl same) more = sym (ap (λ (c : Call). c.disk) same)
  at (inr behind) more = more behind

-- each call of a look is of its disk
pub look_of : (d : ℕ) (places : List ℕ) (failed : Bool) (calls : List Call) → AreRead d places failed calls → (call : Call) → Contains calls call → call.disk ≡ d
look_of d places false calls reads call there = of_disk d true places call (subst (λ (l : List Call). Contains l call) reads there)
look_of d places true calls (k, stops) call there =
    elim (Contains-append_cases (map (read_of d true) (take k places)) (read_of d false (slice_index_or places k 0) ∷ []) call (subst (λ (l : List Call). Contains l call) stops.reads there)) [
      | inl front ↦ of_disk d true (take k places) call front
      | inr last ↦ of_disk d false (slice_index_or places k 0 ∷ []) call last
    ]

-- a call of a look failed only where a read failed
look_failed : (d : ℕ) (places : List ℕ) (failed : Bool) (calls : List Call) → AreRead d places failed calls → (call : Call) → Contains calls call → call.went ≡ false → failed ≡ true
look_failed d places false calls reads call there lost = absurd (false≢true (sym lost ∙ went_well d places call (subst (λ (l : List Call). Contains l call) reads there)))
look_failed d places true calls reads call there lost = refl

pub failed_at : (sizes : List ℕ) (opening : List (List Sector)) (k : ℕ) (failed : List Bool) (calls : List Call) → LooksAre sizes opening k failed calls
    → (call : Call) → Contains calls call → call.went ≡ false → (i : ℕ) × (call.disk ≡ k + i) × (slice_get failed i ≡ Some true)
failed_at sizes opening k [] calls none call there lost = absurd (in_nil call (subst (λ (l : List Call). Contains l call) none there))
failed_at sizes opening k (f ∷ failed) calls (one, rest, laid, reads, more) call there lost =
    at (Contains-append_cases one rest call (subst (λ (l : List Call). Contains l call) laid there)) (λ behind. failed_at sizes opening (k + 1) failed rest more call behind lost)
  where
    at : Contains one call ⊎ Contains rest call → (Contains rest call → (i : ℕ) × (call.disk ≡ k + 1 + i) × (slice_get failed i ≡ Some true)) → (i : ℕ) × (call.disk ≡ k + i) × (slice_get (f ∷ failed) i ≡ Some true)
    at (inl here) next = (0, look_of k (block_places opening sizes k) f one reads call here ∙ omega arith, ap Some (look_failed k (block_places opening sizes k) f one reads call here lost))
    at (inr behind) next = let is = next behind in (suc is.0, is.1 ∙ omega arith, is.2)

-- OF NO USE

module _ (opening : List (List Sector)) (log : List Call) (bank : BankTold) (tells : Tells opening log bank) (seen : List Seen) (so : AreSeenSo opening log bank seen) where
  pub record IsSeenAt (k : ℕ) (P : Seen → Type 0) : Type 0 where
    pub disk : Seen
    pub there : slice_get seen k ≡ Some disk
    pub is : IsSeenSo opening bank k disk
    pub holds : P disk

  -- the disk of a serial is that of its number
  pub seen_at : (k : ℕ) (s : Serial) (serial : List ℕ) (P : Seen → Type 0) → slice_get bank.serials k ≡ Some s → s.0 ≡ serial → HasDisk seen serial P → IsSeenAt k P
  seen_at k s serial P named same has =
      let j = at_place seen has.disk has.there in
      let is = so.each j.0 has.disk j.1 in
      let serials : has.disk.serial ≡ s = ap (λ (l : List ℕ). record { 0 = l }) (has.named ∙ sym same) in
      let one : j.0 ≡ k = tells.own j.0 k has.disk.serial s is.serial named (ap serial_text serials) in
      record {
        disk = has.disk;
        there = subst (λ (i : ℕ). slice_get seen i ≡ Some has.disk) one j.1;
        is = subst (λ (i : ℕ). IsSeenSo opening bank i has.disk) one is;
        holds = has.holds;
      }

  -- a disk on which a call failed is unread
  pub unread_seen : (k : ℕ) (call : Call) (t : Seen) → Contains log call → call.disk ≡ k → call.went ≡ false → slice_get seen k ≡ Some t → is_unread (found_of t.holds) ≡ true
  unread_seen k call t there on lost at =
      let failed = failed_at bank.sizes opening 0 (are_unread seen) log so.calls call there lost in
      let here : failed.0 ≡ k = omega (arith, failed.1, on) in
      let mapped : slice_get (are_unread seen) k ≡ Some (is_unread (found_of t.holds)) =
      slice_get-map (λ (s : Seen). is_unread (found_of s.holds)) seen k ∙ ap (option_map (λ (s : Seen). is_unread (found_of s.holds))) at in
      let is : slice_get (are_unread seen) k ≡ Some true = subst (λ (i : ℕ). slice_get (are_unread seen) i ≡ Some true) here failed.2 in
      cc (mapped, is)

  pub not_good : (entry : Part) → IsOfNoUse opening log bank entry → HasDisk seen (serial_of entry) (IsGood entry) → ⊥
  not_good entry (Absent none) has =
      let j = at_place seen has.disk has.there in
      none j.0 has.disk.serial (so.each j.0 has.disk j.1).serial has.named
  not_good entry (Unwhole k s f same holds other) has =
      let at = seen_at k s (serial_of entry) (IsGood entry) holds.named same has in
      let whole : found_of at.disk.holds ≡ found.Whole = ap found_of at.holds.container.whole in
      other (sym (found_so opening bank k at.disk at.is s f (whole_read (found_of at.disk.holds) whole) holds) ∙ whole)
  not_good entry (Spare k s same holds) has =
      let at = seen_at k s (serial_of entry) (IsGood entry) holds.whole.named same has in
      let there = container_there opening bank k at.disk at.is at.holds.container in
      let some : 0 < volume_count_of (block_in (standing (slice_index bank.sizes k) (stood_on opening k))) = subst (λ (b : List ℕ). 0 < volume_count_of (block_in b)) there.block there.volume in
      omega (arith, holds.none, some)
  not_good entry (Unread k s call same named there on lost) has =
      let at = seen_at k s (serial_of entry) (IsGood entry) named same has in
      let unread = unread_seen k call at.disk there on lost at.there in
      false≢true (sym (ap (λ (h : SeenAs). is_unread (found_of h)) at.holds.container.whole) ∙ unread)
  not_good entry (Small k s same named less) has =
      let at = seen_at k s (serial_of entry) (IsGood entry) named same has in
      omega (arith, at.holds.large, at.is.sectors, less)
