-- The cause for which a disk is waited for is what was seen of it.
use Rattle.std.proofs.Common.{◌<◌, ◌≡◌, ◌≢◌, ◌≤◌, ℕ, Bool, List, [], ◌∷◌, drop, Some, inl, inr, refl, sym, ◌∙◌, ap, subst, arith}
use Rattle.std.specs.Prelude.{Contains, codes, slice_get, slice_index_or}
use Rattle.std.proofs.lemmas.List.Elements.{All-contains, All-from_recursion}
use Rattle.units.specs.declared.disk.Sector.{Sector}
use Rattle.units.specs.declared.disk.Serial.{Serial}
use Rattle.imsm_base.specs.Fields.{Part}
use Rattle.imsm_base.specs.Layout.{serial_of, total_blocks_of, volume_count_of}
use Rattle.imsm_base.specs.Parts.{block_in}
use Rattle.imsm_text.specs.Text.{name_text, serial_text}
use Rattle.imsm_buffer.specs.Buffer.{Buffer, parts_of}
use Rattle.device_log.specs.Log.{Call}
use Rattle.mpb_store.specs.declared.answer.Found.TheVariants as found
use Rattle.mpb_store.specs.declared.answer.StoreFault.{StoreFault}
use Rattle.mpb_store.specs.declared.answer.StoreFault.TheVariants.{Mpb, NoOwn, Small}
use Rattle.fault_text.specs.Words.{torn_words}
use Rattle.generation_pick.specs.declared.fault.PickFault.{PickFault}
use Rattle.container.specs.declared.missing.Lack.{Lack}
use Rattle.container.specs.declared.missing.Lack.TheVariants as lack
use Rattle.container.specs.declared.missing.Missing.{Missing}
use Rattle.container.specs.declared.seen.Seen.{Seen}
use Rattle.container.specs.declared.seen.SeenAs.TheVariants as seen_as
use Rattle.container.specs.declared.verdict.Verdict.{Verdict}
use Rattle.container.specs.declared.verdict.Verdict.TheVariants.{Refused, Waiting}
use Rattle.container.specs.Lacking.{IsTooSmall, Lacks}
use Rattle.container.specs.Seen.{HasDisk, IsContainer, IsSpare}
use Rattle.container.specs.Verdicts.{IsVerdictBy}
use Rattle.assembly.specs.Seen.{found_of}
use Rattle.image_outside.specs.Told.{BankTold}
use Rattle.image_assemble.specs.Endings.{Assembles}
use Rattle.verdict_text.specs.Lines.{lack_words}
use Rattle.verdict_lines_law.specs.Words.{waiting_says}
use Rattle.refused_verdicts.specs.Told.{HoldsNewest, Tells}
use Rattle.refused_verdicts.specs.Wrong.{HasLine, TellsByName, waits_line}
use Rattle.refused_verdicts.proofs.Assembled.{by_block}
use Rattle.refused_verdicts.proofs.Lacking.{listed_by, seen_at}
use Rattle.refused_verdicts.proofs.Places.{at_contains, same_at}
use Rattle.refused_verdicts.proofs.Said.{line_of_verdict, says_waiting}
use Rattle.refused_verdicts.proofs.Seeing.{AreSeenSo, IsSeenSo}

waiting_not_refused : (v : Verdict) (f g : ℕ) (list : List Missing) (fault : PickFault) → v ≡ Waiting f g (record { items = list }) → v ≡ Refused fault → ⊥
waiting_not_refused v f g list fault waiting refused = let same : Waiting f g (record { items = list }) ≡ Refused fault = sym waiting ∙ refused in cc same

-- WHAT WAS SEEN

torn_lacks : (entry : Part) (t : Seen) (f fault : StoreFault) → found_of t.holds ≡ found.Torn f → IsTooSmall entry t fault → ⊥
torn_lacks entry t f (Mpb e) is small = small
torn_lacks entry t f NoOwn is small = small
torn_lacks entry t f (Small named has) is small = let same : found.Whole ≡ found.Torn f = sym (ap found_of small.container.whole) ∙ is in cc same

blank_lacks : (entry : Part) (t : Seen) (fault : StoreFault) → found_of t.holds ≡ found.Blank → IsTooSmall entry t fault → ⊥
blank_lacks entry t (Mpb e) is small = small
blank_lacks entry t NoOwn is small = small
blank_lacks entry t (Small named has) is small = let same : found.Whole ≡ found.Blank = sym (ap found_of small.container.whole) ∙ is in cc same

one_block : (a b : Buffer) → seen_as.Whole a ≡ seen_as.Whole b → a ≡ b
one_block a b same = cc same

spare_lacks : (entry : Part) (t : Seen) → IsSpare t.holds → (fault : StoreFault) → IsTooSmall entry t fault → ⊥
spare_lacks entry t is (Mpb e) small = small
spare_lacks entry t is NoOwn small = small
spare_lacks entry t is (Small named has) small =
    let same : is.block ≡ small.container.block = one_block is.block small.container.block (sym is.whole ∙ small.container.whole) in
    let some : 0 < volume_count_of (parts_of is.block) = subst (λ (b : Buffer). 0 < volume_count_of (parts_of b)) (sym same) small.container.volume in
    omega (arith, is.none, some)

unread_lacks : (entry : Part) (t : Seen) (fault : StoreFault) → t.holds ≡ seen_as.Unread → IsTooSmall entry t fault → ⊥
unread_lacks entry t (Mpb e) is small = small
unread_lacks entry t NoOwn is small = small
unread_lacks entry t (Small named has) is small = let same : found.Whole ≡ found.Unread = sym (ap found_of small.container.whole) ∙ ap found_of is in cc same

whole_lacks : (entry : Part) (t : Seen) (fault : StoreFault) → total_blocks_of entry ≤ t.sectors → IsTooSmall entry t fault → ⊥
whole_lacks entry t (Mpb e) large small = small
whole_lacks entry t NoOwn large small = small
whole_lacks entry t (Small named has) large small = omega (arith, large, small.named_is, small.has_is, small.less)

module _ (opening : List (List Sector)) (log : List Call) (bank : BankTold) (tells : Tells opening log bank) (seen : List Seen) (so : AreSeenSo opening log bank seen)
    (k : ℕ) (s : Serial) (named : slice_get bank.serials k ≡ Some s) (t : Seen) (at : slice_get seen k ≡ Some t) (entry : Part) (same : serial_of entry ≡ s.0) where
  -- what is said of the disk of the record is said of this one
  holds_so : {P : Seen → Type 0} → HasDisk seen (serial_of entry) P → P t
  holds_so {P} has =
      let is = seen_at opening log bank tells seen so k s (serial_of entry) P named (sym same) has in
      subst P (same_at seen k is.disk t is.there at) is.holds

  is_so : IsSeenSo opening bank k t
  is_so = so.each k t at

  not_absent : Lacks seen entry lack.Absent → ⊥
  not_absent none =
      All-contains (λ (x : Seen). x.serial.0 ≢ serial_of entry) seen t (All-from_recursion (λ (x : Seen). x.serial.0 ≢ serial_of entry) seen none) (at_contains seen k t at)
      (ap (λ (x : Serial). x.0) (same_at bank.serials k t.serial s is_so.serial named) ∙ sym same)

  pub lacks_torn : (f : StoreFault) → found_of t.holds ≡ found.Torn f → (cause : Lack) → Lacks seen entry cause → lack_words cause ≡ torn_words f
  lacks_torn f is lack.Absent lacks = absurd (not_absent lacks)
  lacks_torn f is lack.Blank lacks = absurd (let other : found.Blank ≡ found.Torn f = sym (ap found_of (holds_so lacks)) ∙ is in cc other)
  lacks_torn f is lack.Spare lacks = absurd (let other : found.Whole ≡ found.Torn f = sym (ap found_of (holds_so lacks).whole) ∙ is in cc other)
  lacks_torn f is lack.Unread lacks = absurd (let other : found.Unread ≡ found.Torn f = sym (ap found_of (holds_so lacks)) ∙ is in cc other)
  lacks_torn f is (lack.Torn fault) lacks = elim (holds_so lacks) [
    | inl torn ↦ ap torn_words (let one : found.Torn fault ≡ found.Torn f = sym (ap found_of torn) ∙ is in cc one)
    | inr small ↦ absurd (torn_lacks entry t f fault is small)
  ]

  pub lacks_blank : found_of t.holds ≡ found.Blank → (cause : Lack) → Lacks seen entry cause → lack_words cause ≡ codes "blank" ∷ []
  lacks_blank is lack.Absent lacks = absurd (not_absent lacks)
  lacks_blank is lack.Blank lacks = refl
  lacks_blank is lack.Spare lacks = absurd (let other : found.Whole ≡ found.Blank = sym (ap found_of (holds_so lacks).whole) ∙ is in cc other)
  lacks_blank is lack.Unread lacks = absurd (let other : found.Unread ≡ found.Blank = sym (ap found_of (holds_so lacks)) ∙ is in cc other)
  lacks_blank is (lack.Torn fault) lacks = elim (holds_so lacks) [
    | inl torn ↦ absurd (let other : found.Torn fault ≡ found.Blank = sym (ap found_of torn) ∙ is in cc other)
    | inr small ↦ absurd (blank_lacks entry t fault is small)
  ]

  pub lacks_spare : IsSpare t.holds → (cause : Lack) → Lacks seen entry cause → lack_words cause ≡ codes "spare" ∷ []
  lacks_spare is lack.Absent lacks = absurd (not_absent lacks)
  lacks_spare is lack.Blank lacks = absurd (let other : seen_as.Whole is.block ≡ seen_as.Blank = sym is.whole ∙ holds_so lacks in cc other)
  lacks_spare is lack.Spare lacks = refl
  lacks_spare is lack.Unread lacks = absurd (let other : seen_as.Whole is.block ≡ seen_as.Unread = sym is.whole ∙ holds_so lacks in cc other)
  lacks_spare is (lack.Torn fault) lacks = elim (holds_so lacks) [
    | inl torn ↦ absurd (let other : seen_as.Whole is.block ≡ seen_as.Torn fault = sym is.whole ∙ torn in cc other)
    | inr small ↦ absurd (spare_lacks entry t is fault small)
  ]

  pub lacks_unread : t.holds ≡ seen_as.Unread → (cause : Lack) → Lacks seen entry cause → lack_words cause ≡ codes "unread" ∷ []
  lacks_unread is lack.Absent lacks = absurd (not_absent lacks)
  lacks_unread is lack.Blank lacks = absurd (let other : seen_as.Unread ≡ seen_as.Blank = sym is ∙ holds_so lacks in cc other)
  lacks_unread is lack.Spare lacks = absurd (let other : found.Unread ≡ found.Whole = sym (ap found_of is) ∙ ap found_of (holds_so lacks).whole in cc other)
  lacks_unread is lack.Unread lacks = refl
  lacks_unread is (lack.Torn fault) lacks = elim (holds_so lacks) [
    | inl torn ↦ absurd (let other : seen_as.Unread ≡ seen_as.Torn fault = sym is ∙ torn in cc other)
    | inr small ↦ absurd (unread_lacks entry t fault is small)
  ]

  pub lacks_nothing : IsContainer t.holds → total_blocks_of entry ≤ t.sectors → (cause : Lack) → Lacks seen entry cause → ⊥
  lacks_nothing c large lack.Absent lacks = not_absent lacks
  lacks_nothing c large lack.Blank lacks = let other : seen_as.Whole c.block ≡ seen_as.Blank = sym c.whole ∙ holds_so lacks in cc other
  lacks_nothing c large lack.Spare lacks =
      let spare = holds_so lacks in
      let one : c.block ≡ spare.block = (let same_block : seen_as.Whole c.block ≡ seen_as.Whole spare.block = sym c.whole ∙ spare.whole in cc same_block) in
      let none : volume_count_of (parts_of c.block) ≡ 0 = ap (λ (b : Buffer). volume_count_of (parts_of b)) one ∙ spare.none in
      omega (arith, none, c.volume)
  lacks_nothing c large lack.Unread lacks = let other : seen_as.Whole c.block ≡ seen_as.Unread = sym c.whole ∙ holds_so lacks in cc other
  lacks_nothing c large (lack.Torn fault) lacks = elim (holds_so lacks) [
    | inl torn ↦ let other : seen_as.Whole c.block ≡ seen_as.Torn fault = sym c.whole ∙ torn in cc other
    | inr small ↦ whole_lacks entry t fault large small
  ]

-- WHAT IS SAID

-- a line of a disk that is waited for is by a record that expects it, and for what it lacks
pub record WaitsBy (seen : List Seen) (bytes : List ℕ) (s : Serial) (cause : List (List ℕ)) : Type 0 where
  pub place : ℕ
  pub entry : Part
  pub there : slice_get (block_in bytes).disks place ≡ Some entry
  pub same : serial_of entry ≡ s.0
  pub lacking : Lack
  pub lacks : Lacks seen entry lacking
  pub printed : lack_words lacking ≡ cause

own_name : (entry : Part) (m : Missing) → m.serial.0 ≡ serial_of entry → serial_text (record { 0 = serial_of entry }) ≡ serial_text m.serial
own_name entry m same = ap name_text (sym same)

same_name : (m : Missing) (s : Serial) (cause : List (List ℕ)) → waiting_says m ≡ waits_line s cause → serial_text m.serial ≡ serial_text s
same_name m s cause says = ap (λ (ws : List (List ℕ)). slice_index_or ws 1 []) says

one_name : (entry : Part) (m : Missing) (s : Serial) (cause : List (List ℕ)) → m.serial.0 ≡ serial_of entry → waiting_says m ≡ waits_line s cause → serial_text (record { 0 = serial_of entry }) ≡ serial_text s
one_name entry m s cause same says = own_name entry m same ∙ same_name m s cause says

same_cause : (m : Missing) (s : Serial) (cause : List (List ℕ)) → waiting_says m ≡ waits_line s cause → lack_words m.cause ≡ cause
same_cause m s cause says = ap (drop 2) says

pub waits_by : (opening : List (List Sector)) (log : List Call) (bank : BankTold) (tells : Tells opening log bank) (bytes : List ℕ) (newest : HoldsNewest opening bank bytes) (run : Bool) (lines : List ℕ) (status : ℕ)
    (does : Assembles run bank lines status) (s : Serial) (cause : List (List ℕ)) → TellsByName bytes s → HasLine lines (waits_line s cause) → WaitsBy does.seen bytes s cause
waits_by opening log bank tells bytes newest run lines status does s cause by_name has =
    let (f, g, list, waiting, m, there, says) = says_waiting bank.serials bank.serials _ does.verdict refl (line_of_verdict bank.serials bank.serials does.verdict lines _ 119 does.lines_are refl (omega arith) has) in
    let by = by_block opening log bank tells bytes newest run lines status does (λ fault is. waiting_not_refused does.verdict f g list fault waiting is) in
    let listed : list ≡ by.missing = (subst (IsVerdictBy bytes by.pick does.seen run by.missing) waiting by.says).3 in
    let is = listed_by does.seen (block_in bytes).disks by.missing by.lack m (subst (λ (l : List Missing). Contains l m) listed there) in
    record {
      place = is.place;
      entry = is.entry;
      there = is.there;
      same = by_name is.place is.entry is.there (one_name is.entry m s cause is.lacks.serial says);
      lacking = m.cause;
      lacks = is.lacks.cause;
      printed = same_cause m s cause says;
    }
