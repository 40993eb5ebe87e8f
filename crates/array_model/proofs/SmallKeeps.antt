-- What a small block keeps of another.
use Rattle.std.proofs.Common.{◌≡◌, ℕ, zero, suc, ◌==◌, ◌||◌, Bool, true, false, List, [], ◌∷◌, refl, sym, subst, ◌⊎◌, inl, inr, Some, arith}
use Rattle.std.specs.Prelude.{slice_get}
use Rattle.std.specs.Str.{bytes_eq}
use Rattle.std.proofs.lemmas.Bool.Decides.{nat_tests}
use Rattle.std.proofs.lemmas.Bool.{and_parts}
use Rattle.array_model.specs.declared.journal.Entry.{Entry}
use Rattle.array_model.specs.Blocks.{Laid, SlotWords}
use Rattle.array_model.specs.Rounds.{is_lost}
use Rattle.array_model.specs.FailureLaw.{KeepsMembers, does_count_out}
use Rattle.array_model.specs.Small.{small_start, small_disks, is_either, small_expects, small_slot, small_slots}

-- expected, or lost by a fault
abbrev pub Stays : List Entry → Laid → List ℕ → Type 0
Stays front m serial = (small_expects m serial ≡ true) ⊎ (is_lost small_disks serial front ≡ true)

one_byte : (b : ℕ) (serial : List ℕ) → bytes_eq serial (b ∷ []) ≡ true → serial ≡ b ∷ []
one_byte b [] h = absurd cc
one_byte b (x ∷ []) h =
    let same : (x == b) ≡ true = (and_parts (x == b) true h).0 in
    let is : x ≡ b = grind (arith, nat_tests, same) in
    cc is
one_byte b (x ∷ y ∷ more) h = absurd (let none : false ≡ true = (and_parts (x == b) false h).1 in cc none)

either : (serial : List ℕ) → is_either serial ≡ true → (serial ≡ 65 ∷ []) ⊎ (serial ≡ 66 ∷ [])
either serial h = at (bytes_eq serial (65 ∷ [])) refl (bytes_eq serial (66 ∷ [])) refl h
  where
    at : (a : Bool) → bytes_eq serial (65 ∷ []) ≡ a → (b : Bool) → bytes_eq serial (66 ∷ []) ≡ b → (a || b) ≡ true → (serial ≡ 65 ∷ []) ⊎ (serial ≡ 66 ∷ [])
    at true is b other h = inl (one_byte 65 serial is)
    at false is true other h = inr (one_byte 66 serial other)
    at false is false other h = absurd cc

stays : (front : List Entry) (m : Laid) → Stays front m (65 ∷ []) → Stays front m (66 ∷ []) → (serial : List ℕ) → is_either serial ≡ true → Stays front m serial
stays front m first second serial h = elim (either serial h) [
  | inl a ↦ subst (λ s. Stays front m s) (sym a) first
  | inr b ↦ subst (λ s. Stays front m s) (sym b) second
]

abbrev After : List Entry → Laid → Laid → ℕ → ℕ → SlotWords → Type 0
After front last m v slot before =
    ((after : SlotWords) × (slice_get (small_slots m v) slot ≡ Some after) × (after.is_in_sync ≡ true))
    ⊎ (is_lost small_disks before.serial front ≡ true) ⊎ ((last ≡ small_start.newest) × (does_count_out small_start before.serial ≡ true))

slot_stays : (front : List Entry) (m last : Laid) → Stays front m (65 ∷ []) → Stays front m (66 ∷ []) → (slot : ℕ) (before : SlotWords)
    → slice_get (small_slots last 0) slot ≡ Some before → After front last m 0 slot before
slot_stays front m last (inl e) second zero before h = inl (small_slot m 0 (65 ∷ []), refl, e)
slot_stays front m last (inr lost) second zero before h =
    let is : small_slot last 0 (65 ∷ []) ≡ before = cc h in
    inr (inl (subst (λ (s : SlotWords). is_lost small_disks s.serial front ≡ true) is lost))
slot_stays front m last first (inl e) (suc zero) before h = inl (small_slot m 1 (66 ∷ []), refl, e)
slot_stays front m last first (inr lost) (suc zero) before h =
    let is : small_slot last 1 (66 ∷ []) ≡ before = cc h in
    inr (inl (subst (λ (s : SlotWords). is_lost small_disks s.serial front ≡ true) is lost))
slot_stays front m last first second (suc (suc k)) before h = absurd cc

pub keeps_small : (front : List Entry) (last m : Laid) → Stays front m (65 ∷ []) → Stays front m (66 ∷ []) → KeepsMembers small_start front last m
keeps_small front last m first second = record {
  expected = λ serial h. stays front m first second serial (and_parts (is_either serial) _ h).0;
  in_sync = λ v slot before there h sync.
      let zero_is : 0 ≡ v = grind (arith, nat_tests, there) in
      let moved = subst (λ w. slice_get (small_slots last w) slot ≡ Some before) (sym zero_is) h in
      subst (λ w. After front last m w slot before) zero_is (slot_stays front m last first second slot before moved);
}
