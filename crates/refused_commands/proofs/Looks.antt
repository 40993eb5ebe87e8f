-- A look reads the anchor of a disk once.
use Rattle.std.proofs.Common.{◌≡◌, ◌≤◌, ◌-◌, ℕ, zero, suc, Bool, true, false, List, [], ◌∷◌, ◌++◌, length, map, take, Option, Some, refl, sym, subst, ◌∙◌, ap, arith}
use Rattle.std.specs.Prelude.{IfSome, if◌then◌else◌, nat_lt, slice_index_or}
use Rattle.std.specs.List.{range_with_len}
use Rattle.std.proofs.lemmas.Bool.{false≢true}
use Rattle.std.proofs.lemmas.Bool.Decides.{nat_tests}
use Rattle.units.specs.declared.bounds.TheConstants.{METADATA_SECTORS}
use Rattle.units.specs.declared.disk.Sector.{Sector}
use Rattle.units.specs.Places.{anchor_place}
use Rattle.device_log.specs.Log.{Call}
use Rattle.mpb_store.specs.Banks.{AreRead, places_read, read_of as reading}
use Rattle.mpb_store.specs.Reading.{extended_by, places_of}
use Rattle.image_outside.specs.Told.{BankTold}
use Rattle.assembly.specs.Seen.{Looks, LooksAtFront}
use Rattle.image_assemble.specs.Endings.{HasLookedFirst}
use Rattle.refused_commands.specs.Wrong.{TellsOfOne, read_of}
use Rattle.refused_commands.proofs.First.{first_place}

-- a call that went through is none that failed
went_not_failed : (p q : ℕ) (ps : List ℕ) → read_of p ∷ read_of p ∷ [] ≡ map (reading 0 true) ps ++ reading 0 false q ∷ [] → ⊥
went_not_failed p q [] same = cc same
went_not_failed p q (a ∷ []) same =
    let second : read_of p ≡ reading 0 false q = cc same in
    false≢true (sym (ap (λ (call : Call). call.went) second))
went_not_failed p q (a ∷ b ∷ []) same = cc same
went_not_failed p q (a ∷ b ∷ c ∷ ps) same = cc same

-- the places of a disk with room for metadata: its anchor's, and others
read_large : (n : ℕ) (anchor : List ℕ) → METADATA_SECTORS ≤ n → places_read n anchor ≡ places_of n anchor
read_large n anchor large =
    let is_large : nat_lt n METADATA_SECTORS ≡ false = grind (arith, nat_tests, large) in
    subst (λ b. (if b then [] else places_of n anchor) ≡ places_of n anchor) (sym is_large) refl

lower : (n e : ℕ) → METADATA_SECTORS ≤ n → anchor_place n ≡ anchor_place n - suc e → ⊥
lower n e large same = omega (arith, large, same)

others : (n e : ℕ) → METADATA_SECTORS ≤ n → read_of (anchor_place n) ∷ [] ≡ map (reading 0 true) (range_with_len (anchor_place n - e) e) → ⊥
others n zero large same = cc same
others n (suc e) large same =
    let call : read_of (anchor_place n) ≡ reading 0 true (anchor_place n - suc e) = cc same in
    lower n e large (ap (λ (c : Call). first_place (c ∷ [])) call)

not_read_twice : (n : ℕ) (anchor : List ℕ) (failed : Bool) → METADATA_SECTORS ≤ n → AreRead 0 (places_read n anchor) failed (read_of (anchor_place n) ∷ read_of (anchor_place n) ∷ []) → ⊥
not_read_twice n anchor true large (k, stops) =
    went_not_failed (anchor_place n) (slice_index_or (places_read n anchor) k 0) (take k (places_read n anchor)) stops.reads
not_read_twice n anchor false large reads =
    let all : read_of (anchor_place n) ∷ read_of (anchor_place n) ∷ [] ≡ map (reading 0 true) (places_of n anchor) = reads ∙ ap (map (reading 0 true)) (read_large n anchor large) in
    others n (extended_by anchor) large (cc all)

abbrev twice : ℕ → List Call
twice n = read_of (anchor_place n) ∷ read_of (anchor_place n) ∷ []

module _ (n : ℕ) (opening : Option (List (List Sector))) (before log : Option (List Call)) (large : METADATA_SECTORS ≤ n) (fresh : IfSome before (λ calls. calls ≡ [])) (told : log ≡ Some (twice n)) where
  looked_twice : (failed : List Bool) → length failed ≤ 1 → Looks (n ∷ []) opening 0 before failed log → ⊥
  looked_twice [] few keeps =
      let none : twice n ≡ [] = subst (λ l. IfSome l (λ calls. calls ≡ [])) (keeps (twice n) told) fresh in
      cc none
  looked_twice (f ∷ []) few (between, look, keeps) =
      let (first, calls, anchor, was, laid, read, stands) = look (twice n) (keeps (twice n) told) in
      let empty : first ≡ [] = subst (λ l. IfSome l (λ calls. calls ≡ [])) was fresh in
      let all : twice n ≡ calls = laid ∙ ap (λ (l : List Call). l ++ calls) empty in
      not_read_twice n anchor f large (subst (λ (l : List Call). AreRead 0 (places_read n anchor) f l) (sym all) read)
  looked_twice (f ∷ g ∷ more) few looks = absurd (omega (arith, few))

-- the anchor of the one disk of a bank isn't read twice
pub not_looked_twice : (n : ℕ) (bank : BankTold) → TellsOfOne n (twice n) bank → HasLookedFirst bank → ⊥
not_looked_twice n bank tells looked =
    let front : LooksAtFront (n ∷ []) bank.opening looked.before bank.log = subst (λ (sizes : List ℕ). LooksAtFront sizes bank.opening looked.before bank.log) tells.sized looked.looks in
    looked_twice n bank.opening looked.before bank.log tells.large looked.fresh tells.told front.failed front.few front.looks
