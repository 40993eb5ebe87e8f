-- The edits of the small setting mean what their names say.
use Rattle.std.proofs.Common.{◌≡◌, ℕ, zero, suc, ◌<◌, ◌==◌, ◌||◌, ◌&&◌, not, Bool, true, false, List, refl, ap, sym, ◌∙◌, subst, arith, inl, eqb-true, Option, Some, None, cond, ◌⊎◌, inr}
use Rattle.std.specs.List.{AllByRecursion}
use Rattle.std.specs.Prelude.{⊤}
use Rattle.std.specs.Str.{bytes_eq}
use Rattle.std.proofs.lemmas.Slice.Eq.{bytes_eq-Decides}
use Rattle.std.proofs.lemmas.Bool.Decides.{nat_tests}
use Rattle.array_model.specs.Blocks.{Laid, SlotWords}
use Rattle.array_machine.specs.Setting.{Facts, Edit, TakesGeneration, FailsDisk, CountsOut, MakesDirty, MakesClean, ClosesPass, StartsVolume, ActivatesDisk}
use Rattle.array_machine.specs.EditWords.{generation_after, dirty_after, expects_after, KeepsSlot, LosesSlot, OutOfSlot, FillsSlot, FillsIf, SlotsAfter, IsApt, EditsMean, NeedsNoRebuild, HasNoPass}
use Rattle.array_base.specs.Toy.{Said, said, bit, says_yes, serial_of, is_at, expected_in, recorded_in, slot_of, slots_in, has_none, unless_of, also_of, changed, toy, is_to_rebuild, pass_in}

-- BITS

bit_is : (b : Bool) → says_yes (bit b) ≡ b
bit_is true = refl
bit_is false = refl

-- SERIALS

pub same_serial : (s t : List ℕ) → bytes_eq s t ≡ true → s ≡ t
same_serial s t is = (bytes_eq-Decides s t).0 is

differ : (s t : List ℕ) → bytes_eq s t ≡ false → s ≡ t → ⊥
differ s t is same = let yes = (bytes_eq-Decides s t).1 same in cc (yes, is)

-- OF ONE DISK

-- what fails isn't expected any more
at_less : (s serial : List ℕ) (d n : ℕ)
    → is_at serial d (unless_of s d n) ≡ (not (bytes_eq s serial) && is_at serial d n)
at_less s serial d n = at (bytes_eq serial (serial_of d)) refl
  where
    never : (b : Bool) → false ≡ (not b && false)
    never true = refl
    never false = refl

    at : (b : Bool) → bytes_eq serial (serial_of d) ≡ b
        → (b && says_yes (unless_of s d n)) ≡ (not (bytes_eq s serial) && (b && says_yes n))
    at false is = never (bytes_eq s serial)
    at true is =
        let same = same_serial serial (serial_of d) is in
        bit_is (not (bytes_eq s (serial_of d)) && says_yes n)
        ∙ ap (λ t. not (bytes_eq s t) && says_yes n) (sym same)

-- the three together
or_less : (c a b d : Bool) → ((c && a) || (c && b) || (c && d)) ≡ (c && (a || b || d))
or_less true a b d = refl
or_less false a b d = refl

-- a disk without a record that is activated is the third
is_third : (x : Said) (s : List ℕ) (d : ℕ) → s ≡ serial_of d → d < 3 → recorded_in x s ≡ false → s ≡ serial_of 2
is_third x s zero is below none = absurd (let bad = subst (λ t. recorded_in x t ≡ false) is none in cc bad)
is_third x s (suc zero) is below none = absurd (let bad = subst (λ t. recorded_in x t ≡ false) is none in cc bad)
is_third x s (suc (suc zero)) is below none = is
is_third x s (suc (suc (suc d))) is below none = absurd (omega (arith, below))

-- the third is expected then
also_third : (x : Said) (serial : List ℕ)
    → (is_at serial 0 x.first || is_at serial 1 x.second || is_at serial 2 (also_of (serial_of 2) 2 x.third))
    ≡ (bytes_eq (serial_of 2) serial || expected_in x serial)
also_third x serial = at (bytes_eq serial (serial_of 2)) refl (bytes_eq (serial_of 2) serial) refl
  where
    first_two : Bool
    first_two = is_at serial 0 x.first || is_at serial 1 x.second

    either : (a : Bool) → (a || true) ≡ true
    either true = refl
    either false = refl

    at : (b : Bool) → bytes_eq serial (serial_of 2) ≡ b → (c : Bool) → bytes_eq (serial_of 2) serial ≡ c
        → (is_at serial 0 x.first || is_at serial 1 x.second || (b && true))
        ≡ (c || (is_at serial 0 x.first || is_at serial 1 x.second || (b && says_yes x.third)))
    at true is true back = either (is_at serial 0 x.first || is_at serial 1 x.second)
    at true is false back = absurd (differ (serial_of 2) serial back (sym (same_serial serial (serial_of 2) is)))
    at false is true back = absurd (differ serial (serial_of 2) is (sym (same_serial (serial_of 2) serial back)))
    at false is false back = refl

-- WORDS

pub expects_mean : (f : Facts) (m : Laid) (e : Edit) (serial : List ℕ) → IsApt toy m e
    → expected_in (changed f (said m) e) serial ≡ expects_after e serial (expected_in (said m) serial)
expects_mean f m (FailsDisk s) serial apt =
    let x = said m in
    let first = at_less s serial 0 x.first in
    let second = at_less s serial 1 x.second in
    let third = at_less s serial 2 x.third in
    rw (first, second, third)
    (or_less (not (bytes_eq s serial)) (is_at serial 0 x.first) (is_at serial 1 x.second) (is_at serial 2 x.third))
expects_mean f m (ActivatesDisk s i) serial apt =
    let third = is_third (said m) s apt.2.disk apt.2.is apt.2.below apt.1 in
    subst (λ t. expected_in (changed f (said m) (ActivatesDisk t i)) serial
    ≡ expects_after (ActivatesDisk t i) serial (expected_in (said m) serial))
    (sym third) (also_third (said m) serial)
expects_mean f m _ serial apt = refl

zero_first : (v : ℕ) → (0 == v) ≡ (v == 0)
zero_first zero = refl
zero_first (suc v) =
    let front : (0 == suc v) ≡ false = grind (arith, nat_tests) in
    let back : (suc v == 0) ≡ false = grind (arith, nat_tests) in
    front ∙ sym back

-- of volume v; the volume of an edit is the only one
pub dirty_mean : (f : Facts) (m : Laid) (e : Edit) (v : ℕ) → IsApt toy m e
    → ((v == 0) && says_yes (changed f (said m) e).dirty)
    ≡ dirty_after e v false ((v == 0) && says_yes (said m).dirty)
dirty_mean f m (MakesDirty w) v apt =
    let zero_is : w ≡ 0 = eqb-true w 0 apt in
    subst (λ u. ((v == 0) && true) ≡ ((u == v) || ((v == 0) && says_yes (said m).dirty))) (sym zero_is)
    (subst (λ b. ((v == 0) && true) ≡ (b || ((v == 0) && says_yes (said m).dirty))) (sym (zero_first v)) (at (v == 0)))
  where
    at : (b : Bool) → (b && true) ≡ (b || (b && says_yes (said m).dirty))
    at true = refl
    at false = refl
dirty_mean f m (MakesClean w) v apt =
    let zero_is : w ≡ 0 = eqb-true w 0 apt in
    subst (λ u. ((v == 0) && false) ≡ (not (u == v) && ((v == 0) && says_yes (said m).dirty))) (sym zero_is)
    (subst (λ b. ((v == 0) && false) ≡ (not b && ((v == 0) && says_yes (said m).dirty))) (sym (zero_first v))
    (at (v == 0)))
  where
    at : (b : Bool) → (b && false) ≡ (not b && (b && says_yes (said m).dirty))
    at true = refl
    at false = refl
dirty_mean f m (StartsVolume w) v apt = at (w == v)
  where
    at : (b : Bool) → ((v == 0) && says_yes (said m).dirty)
        ≡ (not (b && false) && ((v == 0) && says_yes (said m).dirty))
    at true = refl
    at false = refl
dirty_mean f m _ v apt = refl

-- SLOTS

keeps_slot : (w : SlotWords) → KeepsSlot w w
keeps_slot w = record { serial = refl; expected = refl; in_sync = refl }

-- a number that stays 1 unless its disk has the serial, beside another that does or doesn't
both_less : (e a b : Bool) → (says_yes (bit (not e && a)) && says_yes (bit (not e && b))) ≡ (not e && (a && b))
both_less true a b = refl
both_less false a b = rw (bit_is a, bit_is b) refl

one_less : (e a b : Bool) → (says_yes (bit (not e && a)) && b) ≡ (not e && (a && b))
one_less true a b = refl
one_less false a b = rw (bit_is a) refl

one_more : (w s e : Bool) → (says_yes (bit ((w && e) || s)) && e) ≡ ((w && e) || (s && e))
one_more true s true = refl
one_more true true false = refl
one_more true false false = refl
one_more false s e = rw (bit_is s) refl

loses_slot : (s : List ℕ) (d expected in_sync : ℕ)
    → LosesSlot s (slot_of d expected in_sync) (slot_of d (unless_of s d expected) (unless_of s d in_sync))
loses_slot s d expected in_sync = record {
  serial = refl;
  expected = bit_is (not (bytes_eq s (serial_of d)) && says_yes expected);
  in_sync = both_less (bytes_eq s (serial_of d)) (says_yes in_sync) (says_yes expected);
}

out_of_slot : (s : List ℕ) (d expected in_sync : ℕ)
    → OutOfSlot s (slot_of d expected in_sync) (slot_of d expected (unless_of s d in_sync))
out_of_slot s d expected in_sync = record {
  serial = refl;
  expected = refl;
  in_sync = one_less (bytes_eq s (serial_of d)) (says_yes in_sync) (says_yes expected);
}

fills_slot : (f : Facts) (d expected in_sync : ℕ)
    → FillsSlot f (slot_of d expected in_sync)
    (slot_of d expected (bit ((f.works (serial_of d) && says_yes expected) || says_yes in_sync)))
fills_slot f d expected in_sync = record {
  serial = refl;
  expected = refl;
  in_sync = one_more (f.works (serial_of d)) (says_yes in_sync) (says_yes expected);
}

pub slots_mean : (f : Facts) (m : Laid) (e : Edit) (v : ℕ) → IsApt toy m e → (v == 0) ≡ true
    → SlotsAfter f e v (slots_in (said m)) (slots_in (changed f (said m) e))
slots_mean f m (FailsDisk s) v apt started =
    let x = said m in (loses_slot s 0 x.first x.first_sync, (loses_slot s 1 x.second x.second_sync, tt))
slots_mean f m (CountsOut s) v apt started =
    let x = said m in (out_of_slot s 0 x.first x.first_sync, (out_of_slot s 1 x.second x.second_sync, tt))
slots_mean f m (ClosesPass u) v apt started =
    let x = said m in
    let same : (u == v) ≡ true = grind (arith, nat_tests, apt, started) in
    let first = bit ((f.works (serial_of 0) && says_yes x.first) || says_yes x.first_sync) in
    let second = bit ((f.works (serial_of 1) && says_yes x.second) || says_yes x.second_sync) in
    subst (λ b. FillsIf b f (slot_of 0 x.first x.first_sync) (slot_of 0 x.first first)
    × (FillsIf b f (slot_of 1 x.second x.second_sync) (slot_of 1 x.second second) × ⊤))
    (sym same) (fills_slot f 0 x.first x.first_sync, (fills_slot f 1 x.second x.second_sync, tt))
slots_mean f m (ActivatesDisk s i) v apt started = (inl (keeps_slot _), (inl (keeps_slot _), tt))
slots_mean f m _ v apt started = (keeps_slot _, (keeps_slot _, tt))

-- where no pass is open there is nothing to rebuild
none_of : (e s : Bool) → (e && not s) ≡ false → ((s && e) ≡ true) ⊎ (e ≡ false)
none_of true true h = inl refl
none_of true false h = absurd cc
none_of false s h = inr refl

abbrev rebuild : Option ℕ
rebuild = Some 1

closed : (a b : Bool) → cond (a || b) rebuild None ≡ None → (a ≡ false) × (b ≡ false)
closed true b h = absurd cc
closed false true h = absurd cc
closed false false h = (refl, refl)

no_rebuild : (x : Said) → pass_in x ≡ None → AllByRecursion NeedsNoRebuild (slots_in x)
no_rebuild x none =
    let both = closed (is_to_rebuild x.first x.first_sync) (is_to_rebuild x.second x.second_sync) none in (
      none_of (says_yes x.first) (says_yes x.first_sync) both.0,
      (none_of (says_yes x.second) (says_yes x.second_sync) both.1, tt),
    )

-- what counts out has nothing less to rebuild
still_none : (e c s : Bool) → (e && not (says_yes (bit (not c && s)))) ≡ false → (e && not s) ≡ false
still_none false c s h = refl
still_none true true s h = absurd cc
still_none true false s h = ap not (sym (bit_is s)) ∙ h

counted_none : (x : Said) (s : List ℕ) (f : Facts) → pass_in (changed f x (CountsOut s)) ≡ None → pass_in x ≡ None
counted_none x s f none =
    let first_open = is_to_rebuild x.first (unless_of s 0 x.first_sync) in
    let second_open = is_to_rebuild x.second (unless_of s 1 x.second_sync) in
    let both = closed first_open second_open none in
    let first = still_none (says_yes x.first) (bytes_eq s (serial_of 0)) (says_yes x.first_sync) both.0 in
    let second = still_none (says_yes x.second) (bytes_eq s (serial_of 1)) (says_yes x.second_sync) both.1 in
    rw (first, second) refl

pub passes_mean : (f : Facts) (m : Laid) (e : Edit) (v : ℕ) → (v == 0) ≡ true → IsApt toy m e
    → pass_in (changed f (said m) e) ≡ None
    → HasNoPass e v (pass_in (said m)) (slots_in (said m)) (slots_in (changed f (said m) e))
passes_mean f m (FailsDisk s) v started apt none = inr (no_rebuild (changed f (said m) (FailsDisk s)) none)
passes_mean f m (CountsOut s) v started apt none = counted_none (said m) s f none
passes_mean f m (ClosesPass u) v started apt none = inr (grind (arith, nat_tests, apt, started))
passes_mean f m (StartsVolume u) v started apt none = inr (no_rebuild (said m) none)
passes_mean f m (ActivatesDisk s i) v started apt none = (none, (keeps_slot _, (keeps_slot _, tt)))
passes_mean f m _ v started apt none = none

-- the generation, and whose block it is
pub generation_mean : (f : Facts) (m : Laid) (e : Edit)
    → (changed f (said m) e).generation ≡ generation_after e (said m).generation
generation_mean f m (TakesGeneration g) = refl
generation_mean f m _ = refl

pub kind_mean : (f : Facts) (m : Laid) (e : Edit) → (changed f (said m) e).kind ≡ (said m).kind
kind_mean f m (FailsDisk s) = refl
kind_mean f m _ = refl

-- ALL OF THEM

abbrev pub toy_edits : EditsMean toy
toy_edits = record {
  formed = λ m. has_none m.extended;
  served = λ m v form started. started;
  keeps = λ f m e apt form. refl;
  generation = λ f m e apt form. generation_mean f m e;
  volumes = λ f m e apt form. kind_mean f m e;
  shape = λ f m e v apt form. refl;
  dirty = λ f m e v apt form. dirty_mean f m e v apt;
  expects = λ f m e serial apt form. expects_mean f m e serial apt;
  supported = λ f m e v apt form is. is;
  slots = λ f m e v apt form is. slots_mean f m e v apt is;
  pass = λ f m e v apt form started none. passes_mean f m e v started apt none;
}
