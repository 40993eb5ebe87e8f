-- The disks that the steps list are those that lack.
use Rattle.std.proofs.Common.{◌≡◌, ◌≢◌, ◌==◌, Bool, true, false, cond, List, [], ◌∷◌, ◌++◌, nat_le, Option, Some, None, bytes_eq, inl, inr, refl, sym, ◌∙◌, subst, arith}
use Rattle.std.specs.Prelude.{Contains}
use Rattle.std.proofs.lemmas.Bool.{false≢true}
use Rattle.std.proofs.lemmas.Bool.Decides.{nat_tests}
use Rattle.std.proofs.lemmas.Slice.Eq.{bytes_eq-Decides}
use Rattle.imsm_base.specs.Fields.{Part}
use Rattle.imsm_base.specs.Layout.{serial_of, total_blocks_of, volume_count_of}
use Rattle.imsm_base.specs.Whole.{is_expected}
use Rattle.imsm_buffer.specs.Buffer.{Buffer, parts_of}
use Rattle.mpb_store.specs.declared.answer.StoreFault.TheVariants.{Small}
use Rattle.container.specs.declared.seen.Seen.{Seen}
use Rattle.container.specs.declared.seen.SeenAs.{SeenAs}
use Rattle.container.specs.declared.seen.SeenAs.TheVariants.{Whole, Blank, Torn, Unread}
use Rattle.container.specs.declared.missing.Lack.{Lack}
use Rattle.container.specs.declared.missing.Lack.TheVariants as lack
use Rattle.container.specs.declared.missing.Missing.{Missing}
use Rattle.container.specs.Lacking.{AreMissing, IsGood, IsServed, Lacks}
use Rattle.container.specs.Seen.{HasDisk}
use Rattle.container.specs.Steps.{disk_of, lack_by, lack_in, missing_by, missing_of}
use Rattle.container.proofs.Lists.{all_weaker, find_holds, find_none}

module _ (seen : List Seen) (disk : Part) where
  -- ONE DISK

  module _ (s : Seen) (there : Contains seen s) (named : s.serial.0 ≡ serial_of disk) where
    has : {P : Seen → Type 0} → P s → HasDisk seen (serial_of disk) P
    has holds = record { disk = s; there = there; named = named; holds = holds }

    whole_lacks : (block : Buffer) → s.holds ≡ Whole block → (cause : Lack) → lack_in (Whole block) (total_blocks_of disk) s.sectors ≡ Some cause → Lacks seen disk cause
    whole_lacks block is cause lacks = by (volume_count_of (parts_of block) == 0) refl lacks
      where
        small : (b : Bool) → nat_le (total_blocks_of disk) s.sectors ≡ b → (volume_count_of (parts_of block) == 0) ≡ false
            → cond b None (Some (lack.Torn (Small (total_blocks_of disk) s.sectors))) ≡ Some cause → Lacks seen disk cause
        small true fits some lacks = absurd (cc lacks)
        small false fits some lacks = let same : lack.Torn (Small (total_blocks_of disk) s.sectors) ≡ cause = cc lacks in subst (Lacks seen disk) same (has (inr (record {
          container = record { block = block; whole = is; volume = grind (arith, nat_tests, some) };
          named_is = refl;
          has_is = refl;
          less = grind (arith, nat_tests, fits);
        })))

        by : (b : Bool) → (volume_count_of (parts_of block) == 0) ≡ b
            → cond b (Some lack.Spare) (cond (nat_le (total_blocks_of disk) s.sectors) None (Some (lack.Torn (Small (total_blocks_of disk) s.sectors)))) ≡ Some cause → Lacks seen disk cause
        by true none lacks = let same : lack.Spare ≡ cause = cc lacks in subst (Lacks seen disk) same (has (record { block = block; whole = is; none = grind (arith, nat_tests, none) }))
        by false some lacks = small (nat_le (total_blocks_of disk) s.sectors) refl some lacks

    disk_lacks : (holds : SeenAs) → s.holds ≡ holds → (cause : Lack) → lack_in holds (total_blocks_of disk) s.sectors ≡ Some cause → Lacks seen disk cause
    disk_lacks (Whole block) is cause lacks = whole_lacks block is cause lacks
    disk_lacks Blank is cause lacks = let same : lack.Blank ≡ cause = cc lacks in subst (Lacks seen disk) same (has is)
    disk_lacks (Torn fault) is cause lacks = let same : lack.Torn fault ≡ cause = cc lacks in subst (Lacks seen disk) same (has (inl is))
    disk_lacks Unread is cause lacks = let same : lack.Unread ≡ cause = cc lacks in subst (Lacks seen disk) same (has is)

    whole_serves : (block : Buffer) → s.holds ≡ Whole block → lack_in (Whole block) (total_blocks_of disk) s.sectors ≡ None → HasDisk seen (serial_of disk) (IsGood disk)
    whole_serves block is none = by (volume_count_of (parts_of block) == 0) (nat_le (total_blocks_of disk) s.sectors) refl refl none
      where
        by : (b c : Bool) → (volume_count_of (parts_of block) == 0) ≡ b → nat_le (total_blocks_of disk) s.sectors ≡ c
            → cond b (Some lack.Spare) (cond c None (Some (lack.Torn (Small (total_blocks_of disk) s.sectors)))) ≡ None → HasDisk seen (serial_of disk) (IsGood disk)
        by true c one two none = absurd (cc none)
        by false false one two none = absurd (cc none)
        by false true one two none = has (record {
          container = record { block = block; whole = is; volume = grind (arith, nat_tests, one) };
          large = grind (arith, nat_tests, two);
        })

    disk_serves : (holds : SeenAs) → s.holds ≡ holds → lack_in holds (total_blocks_of disk) s.sectors ≡ None → HasDisk seen (serial_of disk) (IsGood disk)
    disk_serves (Whole block) is none = whole_serves block is none
    disk_serves Blank is none = absurd (cc none)
    disk_serves (Torn fault) is none = absurd (cc none)
    disk_serves Unread is none = absurd (cc none)

  absent : disk_of (serial_of disk) seen ≡ None → Lacks seen disk lack.Absent
  absent is = all_weaker (λ (s : Seen). bytes_eq s.serial.0 (serial_of disk) ≡ false) (λ (s : Seen). s.serial.0 ≢ serial_of disk) seen (λ s other same. false≢true (sym other ∙ (bytes_eq-Decides s.serial.0 (serial_of disk)).1 same)) (find_none (λ (s : Seen). bytes_eq s.serial.0 (serial_of disk)) seen is)

  -- ONE RECORD

  served : (disks : List Part) (list : List Missing) → IsServed seen disk → AreMissing seen disks list → AreMissing seen (disk ∷ disks) list
  served disks [] is rest = (is, rest)
  served disks (m ∷ list) is rest = inl (is, rest)

  by_lack : (disks : List Part) → is_expected disk ≡ true → AreMissing seen disks (missing_of disks seen) → (s : Seen) → Contains seen s → s.serial.0 ≡ serial_of disk
      → (o : Option Lack) → lack_in s.holds (total_blocks_of disk) s.sectors ≡ o → AreMissing seen (disk ∷ disks) (missing_by disk o ++ missing_of disks seen)
  by_lack disks expected rest s there named None is = served disks (missing_of disks seen) (inr (disk_serves s there named s.holds refl is)) rest
  by_lack disks expected rest s there named (Some cause) is = inr (record { expected = expected; serial = refl; cause = disk_lacks s there named s.holds refl cause is }, rest)

  by_disk : (disks : List Part) → is_expected disk ≡ true → AreMissing seen disks (missing_of disks seen) → (o : Option Seen) → disk_of (serial_of disk) seen ≡ o
      → AreMissing seen (disk ∷ disks) (missing_by disk (lack_by disk o) ++ missing_of disks seen)
  by_disk disks expected rest None is = inr (record { expected = expected; serial = refl; cause = absent is }, rest)
  by_disk disks expected rest (Some s) is =
      let found = find_holds (λ (s : Seen). bytes_eq s.serial.0 (serial_of disk)) seen s is in
      by_lack disks expected rest s found.0 ((bytes_eq-Decides s.serial.0 (serial_of disk)).0 found.1) (lack_in s.holds (total_blocks_of disk) s.sectors) refl

  by_record : (disks : List Part) → AreMissing seen disks (missing_of disks seen) → (b : Bool) → is_expected disk ≡ b
      → AreMissing seen (disk ∷ disks) (cond b (missing_by disk (lack_by disk (disk_of (serial_of disk) seen))) [] ++ missing_of disks seen)
  by_record disks rest true is = by_disk disks is rest (disk_of (serial_of disk) seen) refl
  by_record disks rest false is = served disks (missing_of disks seen) (inl is) rest

pub missing_is : (seen : List Seen) (disks : List Part) → AreMissing seen disks (missing_of disks seen)
missing_is seen [] = tt
missing_is seen (disk ∷ disks) = by_record seen disk disks (missing_is seen disks) (is_expected disk) refl
