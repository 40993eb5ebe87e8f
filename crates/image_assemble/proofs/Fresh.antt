-- What was seen of a bank on which no call had been made, and the serials of its disks one after the other.
use Rattle.std.proofs.Common.{◌≡◌, ℕ, ◌+◌, ◌<◌, List, [], ◌∷◌, ◌++◌, length, take, get_or, Option, Some, subst, sym, ◌∙◌, ap}
use Rattle.std.specs.Prelude.{slice_get}
use Rattle.std.proofs.lemmas.List.{take_more}
use Rattle.std.proofs.lemmas.Option.{slice_get-get_or, slice_get_within}
use Rattle.units.specs.declared.disk.Sector.{Sector}
use Rattle.units.specs.declared.disk.Serial.{Serial}
use Rattle.device_log.specs.Log.{Call}
use Rattle.member_bank.specs.Faults.{Rose}
use Rattle.container.specs.declared.seen.Seen.{Seen}
use Rattle.assembly.specs.Seen.{AreSeen, IsSeen}

-- no call on its disks had failed
pub seen_fresh : (serials others : List Serial) (sizes news : List ℕ) (opening : Option (List (List Sector))) (old new : Option (List Call)) (before now : ℕ → ℕ) (seen : List Seen)
    → others ≡ serials → news ≡ sizes → ((d : ℕ) → d < length serials → before d ≡ 0) → AreSeen serials sizes opening old new before now seen → AreSeen others news opening old new (λ d. 0) now seen
seen_fresh serials others sizes news opening old new before now seen named sized sound are =
    subst (λ (l : List Serial). AreSeen l news opening old new (λ d. 0) now seen) (sym named)
    (subst (λ (l : List ℕ). AreSeen serials l opening old new (λ d. 0) now seen) (sym sized) (record {
      count = are.count;
      each = λ k s at. one k s at (are.each k s at);
      looks = are.looks;
    }))
  where
    one : (k : ℕ) (s : Seen) → slice_get seen k ≡ Some s → IsSeen serials sizes opening old new before now k s → IsSeen serials sizes opening old new (λ d. 0) now k s
    one k s at is = record {
      disk = is.disk;
      serial = is.serial;
      sectors = is.sectors;
      whole = is.whole;
      possible = is.possible;
      small = is.small;
      unread = λ unread. subst (λ (n : ℕ). Rose n (now k)) (sound k (slice_get_within serials k s.serial is.serial)) (is.unread unread);
      told = is.told;
    }

-- one element more of a list
pub taken_more : {A : Type 0} (xs : List A) (k : ℕ) (x : A) (before after : List A) → slice_get xs k ≡ Some x → before ≡ take k xs → after ≡ before ++ x ∷ [] → after ≡ take (k + 1) xs
taken_more {A} xs k x before after is so_far more =
    let below = slice_get_within xs k x is in
    let here : get_or xs k x ≡ x = let there : Some (get_or xs k x) ≡ Some x = sym (slice_get-get_or xs k x below) ∙ is in cc there in
    more ∙ ap (λ (l : List A). l ++ x ∷ []) so_far ∙ sym (take_more xs k x below ∙ ap (λ (y : A). take k xs ++ y ∷ []) here)
