-- The slots that a sector of a started volume is read from are in sync.
use Rattle.std.proofs.Common.{◌≡◌, ℕ, zero, suc, ◌+◌, ◌<◌, ◌≤◌, ◌==◌, ◌&&◌, ◌||◌, not, Bool, true, false, cond, if◌then◌else◌, List, [], ◌∷◌, length, map, filter, take, drop, slice_index_or, count_by, Option, Some, None, refl, sym, ap, ◌∙◌, subst, arith, ◌⊎◌, inl, inr}
use Rattle.std.specs.List.{AllByRecursion, list_any, range_with_len}
use Rattle.std.proofs.lemmas.Bool.{and_parts, leb-true, eqb-false, not-true}
use Rattle.std.proofs.lemmas.List.{length-map}
use Rattle.std.proofs.lemmas.List.Sums.{sum_by-cons}
use Rattle.units.specs.declared.volume.Level.{Level}
use Rattle.units.specs.declared.volume.Level.TheVariants.{One, Five, Ten}
use Rattle.units.specs.Levels.{suffices}
use Rattle.array_model.specs.Blocks.{Laid, Words, SlotWords}
use Rattle.array_model.specs.Placement.{Placement, others}
use Rattle.container.specs.Volumes.{has_parity, pass_from}
use Rattle.container.specs.declared.volume.VolumeVerdict.{VolumeVerdict}
use Rattle.container.specs.declared.volume.VolumeVerdict.TheVariants.{Broken, Unfinished, Degraded, Started}
use Rattle.raid_map.specs.Layouts.{sector_placement}
use Rattle.raid_map.proofs.Stripes.{lies_at, mirror_is, five_below, ten_pair}
use Rattle.sound_images.specs.Volumes.{slot_at, is_degraded, has_slot_to_fill, AgreesOnVolumes, HasMembers, StartsFrom}
use Rattle.sound_images.specs.Rows.{first_in_sync, slots_read_at, slots_read}
use Rattle.sound_images.specs.Keeps.{IsTrusted}

-- VERDICTS

abbrev verdict : (runs odd degraded : Bool) → Option ℕ → VolumeVerdict
verdict runs odd degraded pass = if not runs then Broken else (if odd then Unfinished else (if degraded then Degraded pass else Started pass))

-- what is started can run, and has the pass of its verdict
started_by : (runs odd degraded : Bool) (has pass : Option ℕ) → (verdict runs odd degraded has ≡ Started pass) ⊎ (verdict runs odd degraded has ≡ Degraded pass) → (runs ≡ true) × (has ≡ pass)
started_by false odd degraded has pass (inl h) = absurd cc
started_by false odd degraded has pass (inr h) = absurd cc
started_by true true degraded has pass (inl h) = absurd cc
started_by true true degraded has pass (inr h) = absurd cc
started_by true false true has pass (inl h) = absurd cc
started_by true false true has pass (inr h) = (refl, cc)
started_by true false false has pass (inl h) = (refl, cc)
started_by true false false has pass (inr h) = absurd cc

pub started : (W : Words) (m : Laid) (v : ℕ) (pass : Option ℕ) → StartsFrom W m v pass → (W.can_run m v ≡ true) × (pass_from (W.is_unfinished m v || has_slot_to_fill W m v) (W.pass_start m v) ≡ pass)
started W m v pass starts =
    started_by (W.can_run m v) (has_parity (W.shape m v).level && (W.is_unfinished m v && is_degraded W m v)) (is_degraded W m v)
    (pass_from (W.is_unfinished m v || has_slot_to_fill W m v) (W.pass_start m v)) pass starts.verdict

-- ENOUGH SLOTS

-- one of two
either : (bs : List Bool) → length bs ≡ 2 → list_any (λ b. b) bs ≡ true → (slice_index_or bs 0 false ≡ true) ⊎ (slice_index_or bs 1 false ≡ true)
either [] two h = absurd (omega (arith, two))
either (a ∷ []) two h = absurd (omega (arith, two))
either (true ∷ b ∷ []) two h = inl refl
either (false ∷ true ∷ []) two h = inr refl
either (false ∷ false ∷ []) two h = absurd cc
either (a ∷ b ∷ c ∷ bs) two h = absurd (omega (arith, two))

-- one of each pair of four
one_of_each : (bs : List Bool) → length bs ≡ 4 → (list_any (λ b. b) (take 2 bs) && list_any (λ b. b) (drop 2 bs)) ≡ true
    → ((slice_index_or bs 0 false ≡ true) ⊎ (slice_index_or bs 1 false ≡ true)) × ((slice_index_or bs 2 false ≡ true) ⊎ (slice_index_or bs 3 false ≡ true))
one_of_each [] four h = absurd (omega (arith, four))
one_of_each (a ∷ []) four h = absurd (omega (arith, four))
one_of_each (a ∷ b ∷ []) four h = absurd (omega (arith, four))
one_of_each (a ∷ b ∷ c ∷ []) four h = absurd (omega (arith, four))
one_of_each (a ∷ b ∷ c ∷ d ∷ []) four h =
    let both = and_parts _ _ h in
    (either (a ∷ b ∷ []) refl both.0, either (c ∷ d ∷ []) refl both.1)
one_of_each (a ∷ b ∷ c ∷ d ∷ e ∷ bs) four h = absurd (omega (arith, four))

-- all, where none is out, and all but the one that is
none_out : (bs : List Bool) (k : ℕ) → count_by not bs ≡ 0 → k < length bs → slice_index_or bs k false ≡ true
none_out [] k none below = absurd (omega (arith, below))
none_out (true ∷ bs) zero none below = refl
none_out (false ∷ bs) zero none below = absurd (omega (arith, none, sum_by-cons (λ b. cond (not b) 1 0) false bs))
none_out (b ∷ bs) (suc k) none below = none_out bs k (omega (arith, none, sum_by-cons (λ b. cond (not b) 1 0) b bs)) (omega (arith, below))

one_out : (bs : List Bool) (i k : ℕ) → count_by not bs ≤ 1 → i < length bs → slice_index_or bs i false ≡ false → k < length bs → (k ≡ i → ⊥) → slice_index_or bs k false ≡ true
one_out [] i k one here is below apart = absurd (omega (arith, below))
one_out (b ∷ bs) zero zero one here is below apart = absurd (apart refl)
one_out (true ∷ bs) zero (suc k) one here is below apart = absurd cc
one_out (false ∷ bs) zero (suc k) one here is below apart = none_out bs k (omega (arith, one, sum_by-cons (λ b. cond (not b) 1 0) false bs)) (omega (arith, below))
one_out (true ∷ bs) (suc i) zero one here is below apart = refl
one_out (false ∷ bs) (suc i) zero one here is below apart =
    absurd (let none = none_out bs i (omega (arith, one, sum_by-cons (λ b. cond (not b) 1 0) false bs)) (omega (arith, here)) in cc (none, is))
one_out (b ∷ bs) (suc i) (suc k) one here is below apart =
    one_out bs i k (omega (arith, one, sum_by-cons (λ b. cond (not b) 1 0) b bs)) (omega (arith, here)) is (omega (arith, below)) (λ same. apart (ap suc same))

-- READ

all_kept : (P : ℕ → Type 0) (test : ℕ → Bool) (a n : ℕ) → ((k : ℕ) → a ≤ k → k < a + n → test k ≡ true → P k) → AllByRecursion P (filter test (range_with_len a n))
all_kept P test a zero each = tt
all_kept P test a (suc n) each = at (test a) refl (all_kept P test (a + 1) n (λ k from until passes. each k (omega (arith, from)) (omega (arith, until)) passes))
  where
    at : (b : Bool) → test a ≡ b → AllByRecursion P (filter test (range_with_len (a + 1) n)) → AllByRecursion P (cond b (a ∷ filter test (range_with_len (a + 1) n)) (filter test (range_with_len (a + 1) n)))
    at true is more = (each a (omega arith) (omega arith) is, more)
    at false is more = more

-- what a slot is that is said of a list
at_slot : (slots : List SlotWords) (k : ℕ) (other : SlotWords) → (slice_index_or slots k other).is_in_sync ≡ slice_index_or (map (λ slot. slot.is_in_sync) slots) k other.is_in_sync
at_slot [] k other = refl
at_slot (x ∷ slots) zero other = refl
at_slot (x ∷ slots) (suc k) other = at_slot slots k other

module _ (W : Words) (m : Laid) (v : ℕ) (agrees : AgreesOnVolumes W m) (supported : W.is_supported m v ≡ true) where
  abbrev in_sync : List Bool
  in_sync = map (λ slot. slot.is_in_sync) (W.slots m v)

  said : (k : ℕ) → slice_index_or in_sync k false ≡ true → (slot_at W m v k).is_in_sync ≡ true
  said k is = at_slot (W.slots m v) k _ ∙ is

  trusted : (k : ℕ) → (slot_at W m v k).is_in_sync ≡ true → IsTrusted W m v k
  trusted k is = record { expected = agrees.expected v k is; in_sync = is }

  count : length in_sync ≡ (W.shape m v).members
  count = length-map (W.slots m v) (λ slot. slot.is_in_sync) ∙ agrees.count v supported

  -- the first in sync of two, of which one is
  first : (a b : ℕ) → (slice_index_or in_sync a false ≡ true) ⊎ (slice_index_or in_sync b false ≡ true) → IsTrusted W m v (first_in_sync W m v (record { main = a; other = b }))
  first a b one = trusted _ (at (slot_at W m v a).is_in_sync refl one)
    where
      at : (t : Bool) → (slot_at W m v a).is_in_sync ≡ t → (slice_index_or in_sync a false ≡ true) ⊎ (slice_index_or in_sync b false ≡ true) → (slot_at W m v (if t then a else b)).is_in_sync ≡ true
      at true is one = is
      at false is (inl main) = absurd (let yes_sync : true ≡ false = sym (said a main) ∙ is in cc yes_sync)
      at false is (inr other) = said b other

  -- at level five: the slot itself, or all others
  others_read : (main : ℕ) → main < (W.shape m v).members → count_by not in_sync ≤ 1
      → AllByRecursion (IsTrusted W m v) (if (slot_at W m v main).is_in_sync then main ∷ [] else others (W.shape m v).members main)
  others_read main below one = at (slot_at W m v main).is_in_sync refl
    where
      at : (t : Bool) → (slot_at W m v main).is_in_sync ≡ t → AllByRecursion (IsTrusted W m v) (if t then main ∷ [] else others (W.shape m v).members main)
      at true is = (trusted main is, tt)
      at false is = all_kept (IsTrusted W m v) (λ k. not (k == main)) 0 (W.shape m v).members (λ k from until other.
          let out : slice_index_or in_sync main false ≡ false = sym (at_slot (W.slots m v) main _) ∙ is in
          trusted k (said k (one_out in_sync main k one (subst (λ n. main < n) (sym count) below) out (subst (λ n. k < n) (sym count) (omega (arith, until))) (eqb-false k main (not-true (k == main) other)))))

  pub all_trusted : W.can_run m v ≡ true → (s : ℕ) (lies : Placement) → sector_placement (W.shape m v) s ≡ Some lies → AllByRecursion (IsTrusted W m v) (slots_read W m v lies)
  all_trusted runs s lies placed = at (W.shape m v).level refl (agrees.members v supported) (agrees.redundant v supported runs)
    where
      at : (o : Option Level) → (W.shape m v).level ≡ o → HasMembers o (W.shape m v).members → suffices o in_sync ≡ true → AllByRecursion (IsTrusted W m v) (slots_read_at o W m v lies)
      at None is members enough = absurd members
      at (Some One) is members enough =
          let lies_is = mirror_is (W.shape m v).members (W.shape m v).strip s lies (lies_at (W.shape m v) One s lies is placed) in
          subst (λ (p : Placement). AllByRecursion (IsTrusted W m v) (slots_read_at (Some One) W m v p)) (sym lies_is)
          (first 0 1 (either in_sync (count ∙ members) enough), tt)
      at (Some Five) is members enough =
          others_read lies.main (five_below (W.shape m v).members (W.shape m v).strip s lies (lies_at (W.shape m v) Five s lies is placed)) (leb-true (count_by not in_sync) 1 enough)
      at (Some Ten) is members enough =
          let each = one_of_each in_sync (count ∙ members) enough in
          elim (ten_pair (W.shape m v).members (W.shape m v).strip s lies (lies_at (W.shape m v) Ten s lies is placed)) [
            | inl pair ↦ (rw (pair.0, pair.1) (first 0 1 each.0), tt)
            | inr pair ↦ (rw (pair.0, pair.1) (first 2 3 each.1), tt)
          ]
