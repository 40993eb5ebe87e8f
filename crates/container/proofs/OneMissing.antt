-- The disks that lack are those that the steps list, where no two disks have one serial.
use Rattle.std.proofs.Common.{◌≡◌, ◌≢◌, ◌<◌, ◌≤◌, ◌==◌, ◌⊎◌, ℕ, Bool, true, false, cond, List, [], ◌∷◌, ◌++◌, nat_le, Option, Some, None, bytes_eq, inl, inr, refl, sym, ◌∙◌, ap, arith}
use Rattle.std.proofs.lemmas.Bool.Decides.{nat_tests}
use Rattle.std.proofs.lemmas.List.Elements.{All-contains, All-from_recursion}
use Rattle.std.proofs.lemmas.Slice.Eq.{bytes_eq-Decides}
use Rattle.imsm_base.specs.Fields.{Part}
use Rattle.imsm_base.specs.Layout.{serial_of, total_blocks_of, volume_count_of}
use Rattle.imsm_base.specs.Whole.{is_expected}
use Rattle.imsm_buffer.specs.Buffer.{Buffer, parts_of}
use Rattle.mpb_store.specs.declared.answer.StoreFault.{StoreFault}
use Rattle.mpb_store.specs.declared.answer.StoreFault.TheVariants.{Mpb, NoOwn, Small}
use Rattle.container.specs.declared.seen.Seen.{Seen}
use Rattle.container.specs.declared.seen.SeenAs.{SeenAs}
use Rattle.container.specs.declared.seen.SeenAs.TheVariants as seen_torn
use Rattle.container.specs.declared.seen.SeenAs.TheVariants.{Whole}
use Rattle.container.specs.declared.missing.Lack.{Lack}
use Rattle.container.specs.declared.missing.Lack.TheVariants as lack
use Rattle.container.specs.declared.missing.Missing.{Missing}
use Rattle.container.specs.Lacking.{AreMissing, IsGood, IsMissing, IsServed, IsTooSmall, Lacks}
use Rattle.container.specs.Seen.{HasDisk, HaveOwnSerials}
use Rattle.container.specs.Steps.{disk_of, lack_by, lack_in, missing_as, missing_by, missing_of}
use Rattle.container.proofs.Alike.{found_disk}
use Rattle.container.proofs.Lists.{find_holds}

-- a whole block with no volume is a spare's; with one it is a container's, on a disk that is large enough or not
spare : (block : Buffer) (named has : ℕ) → volume_count_of (parts_of block) ≡ 0 → lack_in (Whole block) named has ≡ Some lack.Spare
spare block named has none = let is : (volume_count_of (parts_of block) == 0) ≡ true = grind (arith, nat_tests, none) in rw is refl

good : (block : Buffer) (named has : ℕ) → 0 < volume_count_of (parts_of block) → named ≤ has → lack_in (Whole block) named has ≡ None
good block named has some large =
    let one : (volume_count_of (parts_of block) == 0) ≡ false = grind (arith, nat_tests, some) in
    let two : nat_le named has ≡ true = grind (arith, nat_tests, large) in
    rw (one, two) refl

small : (block : Buffer) (named has : ℕ) → 0 < volume_count_of (parts_of block) → has < named → lack_in (Whole block) named has ≡ Some (lack.Torn (Small named has))
small block named has some less =
    let one : (volume_count_of (parts_of block) == 0) ≡ false = grind (arith, nat_tests, some) in
    let two : nat_le named has ≡ false = grind (arith, nat_tests, less) in
    rw (one, two) refl

module _ (seen : List Seen) (own : HaveOwnSerials seen) (disk : Part) where
  -- what is said of some disk with the serial is said of the one that is found
  of_disk : {P : Seen → Type 0} (o : Option Lack) → ((s : Seen) → P s → lack_in s.holds (total_blocks_of disk) s.sectors ≡ o) → HasDisk seen (serial_of disk) P → lack_by disk (disk_of (serial_of disk) seen) ≡ o
  of_disk o goes has = ap (lack_by disk) (found_disk seen own (serial_of disk) has.disk has.there has.named) ∙ goes has.disk has.holds

  too_small : (fault : StoreFault) (s : Seen) → IsTooSmall disk s fault → lack_in s.holds (total_blocks_of disk) s.sectors ≡ Some (lack.Torn fault)
  too_small (Mpb fault) s is = absurd is
  too_small NoOwn s is = absurd is
  too_small (Small named has) s is =
      ap (λ (h : SeenAs). lack_in h (total_blocks_of disk) s.sectors) is.container.whole
      ∙ small is.container.block (total_blocks_of disk) s.sectors is.container.volume (omega (arith, is.less, is.named_is, is.has_is))
      ∙ ap (λ (n : ℕ). Some (lack.Torn (Small n s.sectors))) (sym is.named_is) ∙ ap (λ (n : ℕ). Some (lack.Torn (Small named n))) (sym is.has_is)

  torn : (fault : StoreFault) (s : Seen) → (s.holds ≡ seen_torn.Torn fault) ⊎ IsTooSmall disk s fault → lack_in s.holds (total_blocks_of disk) s.sectors ≡ Some (lack.Torn fault)
  torn fault s (inl is) = ap (λ (h : SeenAs). lack_in h (total_blocks_of disk) s.sectors) is
  torn fault s (inr is) = too_small fault s is

  absent : (o : Option Seen) → disk_of (serial_of disk) seen ≡ o → Lacks seen disk lack.Absent → lack_by disk o ≡ Some lack.Absent
  absent None is none = refl
  absent (Some s) is none =
      let found = find_holds (λ (s : Seen). bytes_eq s.serial.0 (serial_of disk)) seen s is in
      absurd (All-contains other seen s (All-from_recursion other seen none) found.0 ((bytes_eq-Decides s.serial.0 (serial_of disk)).0 found.1))
    where
      other : Seen → Type 0
      other s = s.serial.0 ≢ serial_of disk

  lack_is : (cause : Lack) → Lacks seen disk cause → lack_by disk (disk_of (serial_of disk) seen) ≡ Some cause
  lack_is lack.Absent lacks = absent (disk_of (serial_of disk) seen) refl lacks
  lack_is lack.Blank lacks = of_disk (Some lack.Blank) (λ s is. ap (λ (h : SeenAs). lack_in h (total_blocks_of disk) s.sectors) is) lacks
  lack_is lack.Spare lacks = of_disk (Some lack.Spare) (λ s is. ap (λ (h : SeenAs). lack_in h (total_blocks_of disk) s.sectors) is.whole ∙ spare is.block (total_blocks_of disk) s.sectors is.none) lacks
  lack_is lack.Unread lacks = of_disk (Some lack.Unread) (λ s is. ap (λ (h : SeenAs). lack_in h (total_blocks_of disk) s.sectors) is) lacks
  lack_is (lack.Torn fault) lacks = of_disk (Some (lack.Torn fault)) (torn fault) lacks

  good_is : HasDisk seen (serial_of disk) (IsGood disk) → lack_by disk (disk_of (serial_of disk) seen) ≡ None
  good_is has = of_disk None (λ s is. ap (λ (h : SeenAs). lack_in h (total_blocks_of disk) s.sectors) is.container.whole ∙ good is.container.block (total_blocks_of disk) s.sectors is.container.volume is.large) has

  pub served_is : IsServed seen disk → missing_as disk seen ≡ []
  served_is (inl unexpected) = rw unexpected refl
  served_is (inr has) = at (is_expected disk)
    where
      at : (b : Bool) → cond b (missing_by disk (lack_by disk (disk_of (serial_of disk) seen))) [] ≡ []
      at true = ap (missing_by disk) (good_is has)
      at false = refl

  missing_one : (m : Missing) → IsMissing seen disk m → missing_as disk seen ≡ m ∷ []
  missing_one m is =
      ap (λ (b : Bool). cond b (missing_by disk (lack_by disk (disk_of (serial_of disk) seen))) []) is.expected
      ∙ ap (missing_by disk) (lack_is m.cause is.cause)
      ∙ ap (λ (serial : List ℕ). record { serial = record { 0 = serial }; cause = m.cause } ∷ []) (sym is.serial)

pub one_missing : (seen : List Seen) → HaveOwnSerials seen → (disks : List Part) (list : List Missing) → AreMissing seen disks list → list ≡ missing_of disks seen
one_missing seen own [] [] are = refl
one_missing seen own [] (m ∷ list) are = absurd are
one_missing seen own (disk ∷ disks) [] are = ap (λ (xs : List Missing). xs ++ []) (sym (served_is seen own disk are.0)) ∙ ap (λ (xs : List Missing). missing_as disk seen ++ xs) (one_missing seen own disks [] are.1)
one_missing seen own (disk ∷ disks) (m ∷ list) (inl (served, rest)) =
    one_missing seen own disks (m ∷ list) rest ∙ ap (λ (xs : List Missing). xs ++ missing_of disks seen) (sym (served_is seen own disk served))
one_missing seen own (disk ∷ disks) (m ∷ list) (inr (lacks, rest)) =
    ap (λ (xs : List Missing). m ∷ xs) (one_missing seen own disks list rest) ∙ ap (λ (xs : List Missing). xs ++ missing_of disks seen) (sym (missing_one seen own disk m lacks))
