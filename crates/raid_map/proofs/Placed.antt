-- Sectors by divisions: which stripe, which of its pairs of slots and which of its rows.
use Rattle.std.proofs.Common.{◌≡◌, ℕ, suc, ◌+◌, ◌-◌, ◌*◌, ◌/◌, ◌%◌, ◌<◌, ◌≤◌, zero, List, [], ◌∷◌, map, slice_get, Some, ◌⊎◌, inl, inr, refl, sym, ap, ◌∙◌, subst, arith}
use Rattle.std.proofs.lemmas.Option.{none-some, same_Some}
use Rattle.std.proofs.lemmas.Nat.{div-add-mod'}
use Rattle.std.proofs.Math.Nat.{mod-lt}
use Rattle.units.specs.declared.volume.Geometry.{Geometry}
use Rattle.units.specs.declared.volume.Level.{Level}
use Rattle.units.specs.declared.volume.Level.TheVariants.{One, Five, Ten}
use Rattle.array_model.specs.Placement.{others, parity_slot, stripe_slots, stripe_rows}
use Rattle.units.specs.Levels.{data_members}
use Rattle.raid_map.specs.Layouts.{LiesAt, IsLaidOut}
use Rattle.raid_map.specs.Mapped.{shape_of, FitsLevel, IsMapped}
use Rattle.raid_map.proofs.Items.{other_below, other_above}

strips : (s strip pairs : ℕ) → s ≡ (s / strip / pairs * pairs + s / strip % pairs) * strip + s % strip
strips s strip pairs =
    let inner : s / strip / pairs * pairs + s / strip % pairs ≡ s / strip = div-add-mod' (s / strip) pairs in
    sym (div-add-mod' s strip) ∙ ap (λ c. c * strip + s % strip) (sym inner)

pub mapped_at : {A B : Type 0} (f : A → B) (xs : List A) (k : ℕ) (x : A) → slice_get xs k ≡ Some x
    → slice_get (map f xs) k ≡ Some (f x)
mapped_at f [] k x is = absurd (none-some x is)
mapped_at f (y ∷ xs) zero x is = ap Some (ap f (same_Some y x is))
mapped_at f (y ∷ xs) (suc k) x is = mapped_at f xs k x is

-- a sector of a volume with parity lies on this of the slots that aren't its stripe's parity
pub parity_lies : (n strip s main : ℕ) → 2 ≤ n → 1 ≤ strip
    → slice_get (others n (parity_slot n (s / strip / (n - 1)))) (s / strip % (n - 1)) ≡ Some main
    → LiesAt Five n strip s (record {
      main = main;
      other = parity_slot n (s / strip / (n - 1));
      row = s / strip / (n - 1) * strip + s % strip;
    })
parity_lies n strip s main some one is = record {
  in_stripe = s / strip / (n - 1);
  on_pair = s / strip % (n - 1);
  at_row = s % strip;
  pair_below = mod-lt (s / strip) (omega (arith, some));
  row_below = mod-lt s (omega (arith, one));
  slots = mapped_at (λ k. record { main = k; other = parity_slot n (s / strip / (n - 1)) })
      (others n (parity_slot n (s / strip / (n - 1)))) (s / strip % (n - 1)) main is;
  row = refl;
  sector = strips s strip (n - 1);
}

-- the same with numbers that are equal to those
pub parity_found : (n strip s main m q parity : ℕ) → 2 ≤ n → 1 ≤ strip → m ≡ n → q ≡ strip
    → parity ≡ parity_slot n (s / q / (m - 1)) → slice_get (others n parity) (s / q % (m - 1)) ≡ Some main
    → LiesAt Five n strip s (record { main = main; other = parity; row = s / q / (m - 1) * q + s % q })
parity_found n strip s main m q parity some one members widths slot is =
    subst (λ x. parity ≡ parity_slot n (s / x / (m - 1)) → slice_get (others n parity) (s / x % (m - 1)) ≡ Some main
    → Found x m parity) (sym widths)
    (subst (λ y. parity ≡ parity_slot n (s / strip / (y - 1)) → slice_get (others n parity) (s / strip % (y - 1)) ≡ Some main
    → Found strip y parity) (sym members)
    (λ slot_is at. subst (λ z. slice_get (others n z) (s / strip % (n - 1)) ≡ Some main → Found strip n z) (sym slot_is)
    (λ there. parity_lies n strip s main some one there) at))
    slot is
  where
    Found : ℕ → ℕ → ℕ → Type 0
    Found x y z = LiesAt Five n strip s (record { main = main; other = z; row = s / x / (y - 1) * x + s % x })

pub slot_below : (n p d : ℕ) → d < p → p < n → slice_get (others n p) d ≡ Some d
slot_below n p d low lt =
    other_below 0 n p d (omega (arith, low)) (omega (arith, lt)) ∙ ap Some (omega arith)

pub slot_above : (n p d : ℕ) → p ≤ d → d < n - 1 → slice_get (others n p) d ≡ Some (d + 1)
slot_above n p d low lt =
    other_above 0 n p d (omega arith) (omega (arith, low)) (omega (arith, lt)) ∙ ap Some (omega arith)

-- a sector of a volume with two pairs of copies lies on one of the pairs
pub pair_lies : (n strip s : ℕ) → 1 ≤ strip
    → LiesAt Ten n strip s (record {
      main = 2 * (s / strip % 2);
      other = 2 * (s / strip % 2) + 1;
      row = s / strip / 2 * strip + s % strip;
    })
pair_lies n strip s one = record {
  in_stripe = s / strip / 2;
  on_pair = s / strip % 2;
  at_row = s % strip;
  pair_below = mod-lt (s / strip) (omega arith);
  row_below = mod-lt s (omega (arith, one));
  slots = pair (s / strip % 2) (mod-lt (s / strip) (omega arith));
  row = refl;
  sector = strips s strip 2;
}
  where
    pair : (d : ℕ) → d < 2
        → slice_get (stripe_slots Ten n (s / strip / 2)) d ≡ Some (record { main = 2 * d; other = 2 * d + 1 })
    pair zero lt = refl
    pair (suc zero) lt = refl
    pair (suc (suc d)) lt = absurd (omega (arith, lt))

pub pair_found : (n strip s q : ℕ) → 1 ≤ strip → q ≡ strip
    → LiesAt Ten n strip s (record {
      main = 2 * (s / q % 2);
      other = 2 * (s / q % 2) + 1;
      row = s / q / 2 * q + s % q;
    })
pair_found n strip s q one same =
    subst (λ x. LiesAt Ten n strip s (record {
      main = 2 * (s / x % 2);
      other = 2 * (s / x % 2) + 1;
      row = s / x / 2 * x + s % x;
    })) (sym same) (pair_lies n strip s one)

-- a geometry that has a map has an item in each stripe
pub laid_out : (g : Geometry) (level : Level) → IsMapped g → g.level ≡ level → IsLaidOut (shape_of g) level
laid_out g level mapped is = record {
  is = ap Some is;
  data_slots = slots level (subst (λ l. FitsLevel l g.members) is mapped.members);
  rows = strip level (subst (λ l. (l ≡ One) ⊎ (1 ≤ g.strip)) is mapped.strip);
}
  where
    slots : (level : Level) → FitsLevel level g.members → 1 ≤ data_members level g.members
    slots One fits = omega arith
    slots Five fits = omega (arith, fits.0)
    slots Ten fits = omega arith

    strip : (level : Level) → (level ≡ One) ⊎ (1 ≤ g.strip) → 1 ≤ stripe_rows level g.strip
    strip One some = omega arith
    strip Five (inl one) = absurd (cc one)
    strip Five (inr some) = some
    strip Ten (inl one) = absurd (cc one)
    strip Ten (inr some) = some
