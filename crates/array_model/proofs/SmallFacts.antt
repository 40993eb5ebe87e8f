-- Facts on the small traces.
use Rattle.std.proofs.Common.{◌≡◌, ℕ, zero, suc, ◌+◌, ◌<◌, ◌≤◌, ◌==◌, ◌||◌, ◌&&◌, Bool, true, false, if◌then◌else◌, nat_le, List, [], ◌∷◌, length, take, Some, None, refl, ap, ◌∙◌, subst, arith, ◌⊎◌, inl, inr}
use Rattle.std.specs.List.{AllByRecursion, list_all, range_with_len}
use Rattle.std.proofs.lemmas.Bool.Decides.{nat_tests}
use Rattle.device_log.specs.Log.{Call}
use Rattle.array_model.specs.declared.journal.Entry.{Entry}
use Rattle.array_model.specs.Blocks.{Laid, SlotWords}
use Rattle.array_model.specs.FailureLaw.{HasInSlot}
use Rattle.array_model.specs.Candidates.{Disk, Durable, disk_after}
use Rattle.array_model.specs.declared.journal.Event.{Event}
use Rattle.array_model.specs.declared.journal.Event.TheVariants.{Ready, Pending, Active, Clean}
use Rattle.array_model.specs.Events.{has, is_active, is_live, live_at}
use Rattle.array_model.specs.Rounds.{DurableOnWorking}
use Rattle.array_model.specs.WriteGate.{IsDirty, DirtyWhileLive}
use Rattle.array_model.specs.Small.{small_start, small_slot, small_words, small_disks, worked_log}

each_of : (P : Laid → Bool) (ms : List Laid) → list_all P ms ≡ true → AllByRecursion (λ m. P m ≡ true) ms
each_of P [] h = tt
each_of P (m ∷ ms) h = at (P m) refl (list_all P ms) (each_of P ms) h
  where
    at : (b : Bool) → P m ≡ b → (t : Bool) → (t ≡ true → AllByRecursion (λ m. P m ≡ true) ms) → (b && t) ≡ true → AllByRecursion (λ m. P m ≡ true) (m ∷ ms)
    at true is true more h = (is, more refl)
    at true is false more h = absurd cc
    at false is t more h = absurd cc

-- the disk has a candidate, and each passes the test
abbrev pub says : (Laid → Bool) → Disk → Bool
says P k = nat_le 1 (length k.candidates) && list_all P k.candidates

pub durable_of : (P : Laid → Bool) (k : Disk) → says P k ≡ true → Durable (λ m. P m ≡ true) k
durable_of P k h = at (nat_le 1 (length k.candidates)) refl (list_all P k.candidates) refl h
  where
    at : (b : Bool) → nat_le 1 (length k.candidates) ≡ b → (t : Bool) → list_all P k.candidates ≡ t → (b && t) ≡ true → Durable (λ m. P m ≡ true) k
    at true is true more h = record { some = grind (arith, nat_tests, is); each = each_of P k.candidates more }
    at true is false more h = absurd cc
    at false is t more h = absurd cc

-- the disks in the slots of the volume
pub slot_disk : (slot d : ℕ) → HasInSlot small_start small_start.newest 0 slot d → (d ≡ 0) ⊎ (d ≡ 1)
slot_disk slot zero h = inl refl
slot_disk slot (suc zero) h = inr refl
slot_disk zero (suc (suc d)) h = absurd (let first : small_slot small_start.newest 0 (65 ∷ []) ≡ h.words = cc h.there in let none : 65 ∷ [] ≡ [] = ap (λ (w : SlotWords). w.serial) first ∙ h.same in cc none)
slot_disk (suc zero) (suc (suc d)) h = absurd (let second : small_slot small_start.newest 1 (66 ∷ []) ≡ h.words = cc h.there in let none : 66 ∷ [] ≡ [] = ap (λ (w : SlotWords). w.serial) second ∙ h.same in cc none)
slot_disk (suc (suc slot)) (suc (suc d)) h = absurd (let none : None ≡ Some h.words = h.there in cc none)

first : (a c : ℕ) → a ≤ c → (a ≡ c) ⊎ (a + 1 ≤ c)
first a c le = grind arith

-- a test that passes on a range passes on each number of it
pub in_range : (test : ℕ → Bool) (n a c : ℕ) → a ≤ c → c < a + n → list_all test (range_with_len a n) ≡ true → test c ≡ true
in_range test zero a c from until h = absurd (omega arith)
in_range test (suc n) a c from until h =
    at (test a) refl (list_all test (range_with_len (a + 1) n)) (λ above more. in_range test n (a + 1) c above (omega (arith, until)) more) h
  where
    at : (b : Bool) → test a ≡ b → (t : Bool) → (a + 1 ≤ c → t ≡ true → test c ≡ true) → (b && t) ≡ true → test c ≡ true
    at true is true more h = elim (first a c from) [
      | inl same ↦ subst (λ z. test z ≡ true) same is
      | inr above ↦ more above refl
    ]
    at true is false more h = absurd cc
    at false is t more h = absurd cc

abbrev pub dirty_on : List Call → ℕ → Bool
dirty_on log d = says (λ m. small_words.is_dirty m 0) (disk_after small_words small_disks log d)

-- no member works but the two disks
pub on_both : (P : Laid → Type 0) (log : List Call) (journal : List Entry) → Durable P (disk_after small_words small_disks log 0)
    → Durable P (disk_after small_words small_disks log 1) → DurableOnWorking small_start log journal P
on_both P log journal first second m finished zero working = first
on_both P log journal first second m finished (suc zero) working = second
on_both P log journal first second m finished (suc (suc d)) working = absurd (let no_such : false ≡ true = working.expected in cc no_such)

pub dirty_on_both : (log : List Call) (journal : List Entry) → dirty_on log 0 ≡ true → dirty_on log 1 ≡ true → IsDirty small_start log journal 0
dirty_on_both log journal first second =
    on_both (λ m. small_words.is_dirty m 0 ≡ true) log journal
    (durable_of (λ m. small_words.is_dirty m 0) (disk_after small_words small_disks log 0) first)
    (durable_of (λ m. small_words.is_dirty m 0) (disk_after small_words small_disks log 1) second)

live_at_false : (v : ℕ) (e : Event) → is_active v e ≡ false → live_at v false e ≡ false
live_at_false v (Ready w) h = at (w.0 == v)
  where
    at : (b : Bool) → (if b then false else false) ≡ false
    at true = refl
    at false = refl
live_at_false v (Pending w) h = at (w.0 == v)
  where
    at : (b : Bool) → (if b then false else false) ≡ false
    at true = refl
    at false = refl
live_at_false v (Clean w) h = at (w.0 == v)
  where
    at : (b : Bool) → (if b then false else false) ≡ false
    at true = refl
    at false = refl
live_at_false v (Active w) h = at (w.0 == v) h
  where
    at : (b : Bool) → b ≡ false → (if b then true else false) ≡ false
    at true is = absurd cc
    at false is = refl
live_at_false v _ h = refl

-- a volume that was never active isn't live
pub never_live : (v : ℕ) (journal : List Entry) → has (is_active v) journal ≡ false → is_live v journal ≡ false
never_live v [] h = refl
never_live v (e ∷ es) h = at (is_active v e.event) refl (has (is_active v) es) (never_live v es) h
  where
    at : (b : Bool) → is_active v e.event ≡ b → (t : Bool) → (t ≡ false → is_live v es ≡ false) → (b || t) ≡ false → is_live v (e ∷ es) ≡ false
    at true is t more h = absurd cc
    at false is true more h = absurd cc
    at false is false more h = rw (live_at_false v e.event is) (more refl)

-- the only volume that is active in this front is 0
abbrev pub OnlyZero : List Entry → Type 0
OnlyZero front = (v : ℕ) → (has (is_active v) front ≡ false) ⊎ (0 ≡ v)

pub zero_active : (v : ℕ) → (((0 == v) || false) ≡ false) ⊎ (0 ≡ v)
zero_active v = at (0 == v) refl
  where
    at : (b : Bool) → (0 == v) ≡ b → ((b || false) ≡ false) ⊎ (0 ≡ v)
    at true is = inr (grind (arith, nat_tests, is))
    at false is = inl refl

pub quiet : (log : List Call) (front : List Entry) → is_live 0 front ≡ false → OnlyZero front → DirtyWhileLive small_start log front
quiet log front here only v live = absurd (elim (only v) [
  | inl none ↦ let dead : is_live v front ≡ false = never_live v front none in cc (dead, live)
  | inr first ↦ let dead : is_live v front ≡ false = subst (λ z. is_live z front ≡ false) first here in cc (dead, live)
])

pub live_one : (log : List Call) (front : List Entry) → IsDirty small_start log front 0 → OnlyZero front → DirtyWhileLive small_start log front
live_one log front dirty only v live = elim (only v) [
  | inl none ↦ absurd (let dead : is_live v front ≡ false = never_live v front none in cc (dead, live))
  | inr first ↦ subst (λ z. IsDirty small_start log front z) first dirty
]

pub worked_dirty : (c : ℕ) → 8 ≤ c → c ≤ 13 → (journal : List Entry) → IsDirty small_start (take c worked_log) journal 0
worked_dirty c from until journal =
    dirty_on_both (take c worked_log) journal
    (in_range (λ c. dirty_on (take c worked_log) 0) 6 8 c from (omega arith) refl)
    (in_range (λ c. dirty_on (take c worked_log) 1) 6 8 c from (omega arith) refl)
