-- A bank of one disk, and what its log says after it was looked at.
use Rattle.std.proofs.Common.{◌≡◌, ℕ, Bool, List, [], ◌∷◌, ◌++◌, length, Option, Some, refl, sym, ◌∙◌, ap, subst, arith}
use Rattle.std.specs.Prelude.{IfSome}
use Rattle.std.specs.List.{AllByRecursion}
use Rattle.units.specs.declared.disk.Sector.{Sector}
use Rattle.units.specs.Places.{anchor_place}
use Rattle.device_log.specs.Log.{Call}
use Rattle.mpb_store.specs.Banks.{AreRead, IsReadOf, LogsLook, LogsReads, has_failed, places_read, sector_after}
use Rattle.image_examine.specs.Endings.{IsLook}
use Rattle.mpb_store.proofs.Told.{if_told}

-- the one element of a list
pub one_of : {A : Type 0} (xs : List A) → length xs ≡ 1 → (x : A) × (xs ≡ x ∷ [])
one_of [] one = cc
one_of (x ∷ []) one = (x, refl)
one_of (x ∷ y ∷ more) one = absurd (omega arith)

-- a log that was empty has the reads alone
all_new : (old : Option (List Call)) (before reads now : List Call) → IfSome old (λ l. l ≡ []) → old ≡ Some before → now ≡ before ++ reads → reads ≡ now
all_new old before reads now fresh was is =
    let empty : before ≡ [] = subst (λ (o : Option (List Call)). IfSome o (λ l. l ≡ [])) was fresh in
    sym (is ∙ ap (λ (b : List Call). b ++ reads) empty)

pub record Reads (d : ℕ) (failed : Bool) (log : List Call) : Type 0 where
  pub each : AllByRecursion (IsReadOf d) log
  pub outcome : has_failed log ≡ failed

pub reads_alone : (old new : Option (List Call)) (d : ℕ) (failed : Bool) → IfSome old (λ l. l ≡ []) → LogsReads old new d failed → (now : List Call) → new ≡ Some now → Reads d failed now
reads_alone old new d failed fresh logs now told =
    let (before, reads, was, is, each, outcome) = logs now told in
    subst (Reads d failed) (all_new old before reads now fresh was is) (record { each = each; outcome = outcome })

pub look_alone : (n : ℕ) (opening : Option (List (List Sector))) (old new : Option (List Call)) (failed : Bool) → IfSome old (λ l. l ≡ []) → LogsLook n 0 opening old new failed
    → (now : List Call) → new ≡ Some now → IsLook n opening failed now
look_alone n opening old new failed fresh logs now told =
    let (before, reads, anchor, was, is, each, stands) = logs now told in
    record {
      anchor = anchor;
      reads = subst (AreRead 0 (places_read n anchor) failed) (all_new old before reads now fresh was is) each;
      stands = if_told opening (λ o. anchor ≡ (sector_after o now 0 (anchor_place n)).0) stands;
    }
