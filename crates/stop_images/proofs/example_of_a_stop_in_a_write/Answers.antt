use Rattle.std.proofs.Common.{◌≡◌, ℕ, zero, suc, ◌<◌, ◌⊎◌, inl, inr, List, [], ◌∷◌, take, slice_get, Some, refl, sym, ◌∙◌, subst, arith}
use Rattle.std.proofs.lemmas.Option.{none-some, same_Some}
use Rattle.units.specs.declared.disk.Sector.{Sector}
use Rattle.device_log.specs.Log.{Call}
use Rattle.device_log.specs.Cells.{MayLeave}
use Rattle.array_model.specs.Start.{Disks}
use Rattle.sound_images.specs.Images.{Image}
use Rattle.stop_images.specs.Left.{AreLeft, IsLeftOf, cell_on}
use Rattle.stop_images.specs.Small.{image, sync, two_disks, write}
use Rattle.stop_images.proofs.example_of_a_stop_in_a_write.Goals as goal

both_left : (disks : Disks) (log : List Call) (i j : Image) → disks.count ≡ 2 → IsLeftOf disks log 0 i → IsLeftOf disks log 1 j → AreLeft disks log (i ∷ j ∷ [])
both_left disks log i j two first second = record { count = sym two; each = each }
  where
    each : (d : ℕ) (x : Image) → slice_get (i ∷ j ∷ []) d ≡ Some x → IsLeftOf disks log d x
    each zero x is = subst (IsLeftOf disks log 0) (same_Some i x is) first
    each (suc zero) x is = subst (IsLeftOf disks log 1) (same_Some j x is) second
    each (suc (suc d)) x is = absurd (none-some x is)

-- at both places
both_places : (P : ℕ → Type 0) → P 0 → P 1 → (p : ℕ) → p < 2 → P p
both_places P first second zero below = first
both_places P first second (suc zero) below = second
both_places P first second (suc (suc p)) below = absurd (omega (arith, below))

module _ (a b c d : Sector) (log : List Call) where
  abbrev disks : Disks
  disks = two_disks a b c d

  left_of : (number serial : ℕ) (first second : Sector) → serial ∷ [] ≡ disks.serial number → 2 ≡ disks.sectors number
      → MayLeave (cell_on disks log number 0) first → MayLeave (cell_on disks log number 1) second → IsLeftOf disks log number (image serial first second)
  left_of number serial first second named sized one other = record {
    serial = named;
    sectors = sized;
    places = λ p below. both_places (λ p. MayLeave (cell_on disks log number p) ((image serial first second).at p)) one other p (omega (arith, below, sized));
  }

pub returns-clause-part : goal.returns-clause-part
returns-clause-part r a b c d x y first second one other =
    both_left (two_disks a b c d) (write x y ∷ []) (image 1 first second) (image 2 c d) refl
    (left_of a b c d (write x y ∷ []) 0 1 first second refl refl (λ settled. old_or_new one settled.0) (λ settled. old_or_new other settled.0))
    (left_of a b c d (write x y ∷ []) 1 2 c d refl refl (λ settled. refl) (λ settled. refl))
  where
    old_or_new : {now old new : Sector} → (now ≡ old) ⊎ (now ≡ new) → new ≡ old → now ≡ new
    old_or_new (inl is) same = is ∙ sym same
    old_or_new (inr is) same = is

pub returns-clause-loose : goal.returns-clause-loose
returns-clause-loose r a b c d x y first second one other =
    both_left (two_disks a b c d) (write x y ∷ []) (image 1 first second) (image 2 c d) refl
    (left_of a b c d (write x y ∷ []) 0 1 first second refl refl (λ settled. absurd (one settled.0)) (λ settled. absurd (other settled.0)))
    (left_of a b c d (write x y ∷ []) 1 2 c d refl refl (λ settled. refl) (λ settled. refl))

pub returns-clause-before : goal.returns-clause-before
returns-clause-before r a b c d x y = record {
  made = 0;
  some = omega arith;
  left = both_left (two_disks a b c d) [] (image 1 a b) (image 2 c d) refl
      (left_of a b c d [] 0 1 a b refl refl (λ settled. refl) (λ settled. refl))
      (left_of a b c d [] 1 2 c d refl refl (λ settled. refl) (λ settled. refl));
}

pub returns-clause-synced : goal.returns-clause-synced
returns-clause-synced r a b c d x y first second e f left =
    let on = left.each 0 (image 1 first second) refl in
    (on.places 0 (omega arith) tt, on.places 1 (omega arith) tt)

pub returns-clause-others : goal.returns-clause-others
returns-clause-others r a b c d x y first second e f stop = at stop.made (stop.left.each 1 (image 2 e f) refl)
  where
    at : (made : ℕ) → IsLeftOf (two_disks a b c d) (take made (write x y ∷ sync ∷ [])) 1 (image 2 e f) → (e ≡ c) × (f ≡ d)
    at zero on = (on.places 0 (omega arith) tt, on.places 1 (omega arith) tt)
    at (suc zero) on = (on.places 0 (omega arith) tt, on.places 1 (omega arith) tt)
    at (suc (suc zero)) on = (on.places 0 (omega arith) tt, on.places 1 (omega arith) tt)
    at (suc (suc (suc made))) on = (on.places 0 (omega arith) tt, on.places 1 (omega arith) tt)

pub returns-clause-all : goal.returns-clause-all
returns-clause-all r a b c d x y left = let none : 0 ≡ 2 = left.count in omega (arith, none)
