-- Disks in the order of their numbers, and one more.
use Rattle.std.proofs.Common.{◌≡◌, ◌≢◌, ◌≤◌, ◌<◌, ℕ, zero, suc, not, List, [], ◌∷◌, ◌++◌, length, take, drop, get_or, refl, sym, ◌∙◌, ap, subst, inl, inr, arith, ltb, Option, Some, Result, Ok, Err}
use Rattle.std.specs.Prelude.{IfOk, OnErr, slice_get}
use Rattle.std.specs.List.{All, AllPairs, insert}
use Rattle.std.proofs.lemmas.Bool.{cases_order, le-ltb, lt-ltb, ltb-true}
use Rattle.std.proofs.lemmas.List.{drop_at, get_or_default, take_at}
use Rattle.std.proofs.lemmas.List.Elements.{All-append, All-cons, All-filter, All-from_recursion, All-head, All-tail, All-weaker, filter_passes, recursion_from_All}
use Rattle.std.proofs.lemmas.List.Filters.{length-filter_both}
use Rattle.std.proofs.lemmas.List.Kept.{AllPairs-cons, AllPairs-filter}
use Rattle.units.specs.declared.bounds.TheConstants.{MAX_DISKS}
use Rattle.units.specs.declared.disk.DiskNo.{DiskNo}
use Rattle.units.specs.declared.disk.Sector.{Sector}
use Rattle.units.specs.declared.disk.Serial.{Serial}
use Rattle.device_log.specs.Log.{Call}
use Rattle.container.specs.declared.seen.Seen.{Seen}
use Rattle.container.specs.Seen.{IsSound}
use Rattle.assembly.specs.Seen.{IsSeen}
use Rattle.assembly.proofs.Seen.{all_sound}
use Rattle.incremental.specs.Arrivals.{AreKept, HasArrived, IsRising, higher, lower, with_disk}

-- PAIRS

pub pairs_head : {X : Type 0} (R : X → X → Type 0) (x : X) (xs : List X) → AllPairs R (x ∷ xs) → All (R x) xs
pairs_head R x xs pairs = λ j d within. pairs 0 (suc j) d (omega arith) (omega arith)

pub pairs_tail : {X : Type 0} (R : X → X → Type 0) (x : X) (xs : List X) → AllPairs R (x ∷ xs) → AllPairs R xs
pairs_tail R x xs pairs = λ i j d lt within. pairs (suc i) (suc j) d (omega arith) (omega arith)

pairs_append : {X : Type 0} (R : X → X → Type 0) (xs ys : List X) → AllPairs R xs → AllPairs R ys → All (λ x. All (R x) ys) xs → AllPairs R (xs ++ ys)
pairs_append R [] ys low high across = high
pairs_append R (x ∷ xs) ys low high across =
    AllPairs-cons R x (xs ++ ys) (All-append (R x) xs ys (pairs_head R x xs low) (All-head (λ x. All (R x) ys) x xs across))
    (pairs_append R xs ys (pairs_tail R x xs low) high (All-tail (λ x. All (R x) ys) x xs across))

-- A DISK MORE

pub with_all : (P : Seen → Type 0) (s : Seen) (seen : List Seen) → P s → All P seen → All P (with_disk s seen)
with_all P s seen one all = All-append P (lower s.disk seen) (s ∷ higher s.disk seen) (All-filter _ P seen all) (All-cons P s (higher s.disk seen) one (All-filter _ P seen all))

lower_all : (d : DiskNo) (seen : List Seen) → All (λ (s : Seen). s.disk.0 < d.0) (lower d seen)
lower_all d seen = All-weaker _ _ (λ s is. ltb-true s.disk.0 d.0 is) (lower d seen) (filter_passes (λ (s : Seen). ltb s.disk.0 d.0) seen)

higher_all : (d : DiskNo) (seen : List Seen) → All (λ (s : Seen). d.0 < s.disk.0) (higher d seen)
higher_all d seen = All-weaker _ _ (λ s is. ltb-true d.0 s.disk.0 is) (higher d seen) (filter_passes (λ (s : Seen). ltb d.0 s.disk.0) seen)

abbrev pub Rises : Seen → Seen → Type 0
Rises s t = s.disk.0 < t.disk.0

pub with_rising : (s : Seen) (seen : List Seen) → IsRising seen → IsRising (with_disk s seen)
with_rising s seen rising =
    let high : All (Rises s) (higher s.disk seen) = higher_all s.disk seen in
    let across : (t : Seen) → t.disk.0 < s.disk.0 → All (Rises t) (s ∷ higher s.disk seen) = λ t low.
    All-cons (Rises t) s (higher s.disk seen) low (All-weaker (Rises s) (Rises t) (λ u up. omega (arith, low, up)) (higher s.disk seen) high) in
    pairs_append Rises (lower s.disk seen) (s ∷ higher s.disk seen) (AllPairs-filter Rises _ seen rising) (AllPairs-cons Rises s (higher s.disk seen) high (AllPairs-filter Rises _ seen rising))
    (All-weaker (λ (t : Seen). t.disk.0 < s.disk.0) (λ t. All (Rises t) (s ∷ higher s.disk seen)) across (lower s.disk seen) (lower_all s.disk seen))

-- what has arrived is as it has to be with one disk more too
pub with_kept : (s : Seen) (seen : List Seen) → AreKept seen → s.disk.0 < MAX_DISKS → IsSound s.holds → AreKept (with_disk s seen)
with_kept s seen kept below sound =
    let Holds : Seen → Type 0 = λ t. IsSound t.holds in
    record {
      rising = with_rising s seen kept.rising;
      below = with_all (λ (t : Seen). t.disk.0 < MAX_DISKS) s seen below kept.below;
      sound = recursion_from_All Holds (with_disk s seen) (with_all Holds s seen sound (All-from_recursion Holds seen kept.sound));
    }

pub kept_by : {T E : Type 0} (P : T → Type 0) (r : Result T E) (s : Seen) (seen new : List Seen) → IfOk r (λ (t : T). (new ≡ with_disk s seen) × P t) → OnErr r (new ≡ seen)
    → AreKept seen → AreKept (with_disk s seen) → AreKept new
kept_by P (Ok t) s seen new added before kept more = subst (λ (l : List Seen). AreKept l) (sym added.0) more
kept_by P (Err e) s seen new added before kept more = subst (λ (l : List Seen). AreKept l) (sym before) kept

-- a disk that was seen so is sound
pub sound_one : {serials : List Serial} {sizes : List ℕ} {opening : Option (List (List Sector))} {old log : Option (List Call)} {before now : ℕ → ℕ} {d : ℕ} {s : Seen}
    → IsSeen serials sizes opening old log before now d s → IsSound s.holds
sound_one {serials} {sizes} {opening} {old} {log} {before} {now} {d} {s} seen = (all_sound (λ k. d) (s ∷ []) only).0
  where
    only : (k : ℕ) (t : Seen) → slice_get (s ∷ []) k ≡ Some t → IsSeen serials sizes opening old log before now d t
    only zero t at = subst (λ (u : Seen). IsSeen serials sizes opening old log before now d u) (cc at) seen
    only (suc k) t at = absurd (cc at)

-- numbers that rise and are below 16 are those of 16 disks at most
at_least : (seen : List Seen) → IsRising seen → (k : ℕ) (d : Seen) → k < length seen → k ≤ (get_or seen k d).disk.0
at_least seen rising zero d within = omega arith
at_least seen rising (suc k) d within =
    let before = at_least seen rising k d (omega arith) in
    let up = rising k (suc k) d (omega arith) within in
    omega (arith, before, up)

pub few_of : (seen : List Seen) → AreKept seen → length seen ≤ MAX_DISKS
few_of [] kept = omega arith
few_of (s ∷ seen) kept =
    let low = at_least (s ∷ seen) kept.rising (length seen) s (omega arith) in
    let high = kept.below (length seen) s (omega arith) in
    omega (arith, low, high)

-- WHERE IT IS PUT

none_lower : (d : DiskNo) (seen : List Seen) → All (λ (s : Seen). d.0 < s.disk.0) seen → lower d seen ≡ []
none_lower d [] all = refl
none_lower d (s ∷ seen) all =
    let up : d.0 < s.disk.0 = All-head (λ (s : Seen). d.0 < s.disk.0) s seen all in
    rw (le-ltb s.disk.0 d.0 (omega arith)) (none_lower d seen (All-tail (λ (s : Seen). d.0 < s.disk.0) s seen all))

parted : (d : DiskNo) (seen : List Seen) → IsRising seen → All (λ (s : Seen). s.disk.0 ≢ d.0) seen → seen ≡ lower d seen ++ higher d seen
parted d [] rising others = refl
parted d (s ∷ seen) rising others =
    let Other : Seen → Type 0 = λ s. s.disk.0 ≢ d.0 in
    let rest = parted d seen (pairs_tail Rises s seen rising) (All-tail Other s seen others) in
    elim (cases_order s.disk.0 d.0) [
      | inl same ↦ absurd (All-head Other s seen others same)
      | inr (inl low) ↦ rw (lt-ltb s.disk.0 d.0 low, le-ltb d.0 s.disk.0 (omega arith)) (ap (λ l. s ∷ l) rest)
      | inr (inr up) ↦
          let none = none_lower d seen (All-weaker (Rises s) (λ (t : Seen). d.0 < t.disk.0) (λ t above. omega (arith, up, above)) seen (pairs_head Rises s seen rising)) in
          rw (le-ltb s.disk.0 d.0 (omega arith), lt-ltb d.0 s.disk.0 up, none) (ap (λ l. s ∷ l) (rest ∙ ap (λ l. l ++ higher d seen) none))
    ]

others_of : (d : DiskNo) (seen : List Seen) → ¬ HasArrived seen d → All (λ (s : Seen). s.disk.0 ≢ d.0) seen
others_of d seen new = λ k e within same.
    new (k, get_or seen k e, within, get_or_default seen k (get_or seen k e) e within, ap (λ (n : ℕ). record { 0 = n }) same)

pub lower_few : (d : DiskNo) (seen : List Seen) → length (lower d seen) ≤ length seen
lower_few d seen =
    let both = length-filter_both (λ (s : Seen). ltb s.disk.0 d.0) (λ (s : Seen). not (ltb s.disk.0 d.0)) (λ s. refl) seen in
    omega (arith, both)

pub placed : (s : Seen) (seen : List Seen) (n : ℕ) → IsRising seen → ¬ HasArrived seen s.disk → n ≡ length (lower s.disk seen) → insert seen n s ≡ with_disk s seen
placed s seen n rising new count =
    let parts = parted s.disk seen rising (others_of s.disk seen new) in
    ap (λ l. l ++ s ∷ drop n seen) (ap (λ l. take n l) parts ∙ take_at (lower s.disk seen) (higher s.disk seen) n (sym count))
    ∙ ap (λ l. lower s.disk seen ++ s ∷ l) (ap (λ l. drop n l) parts ∙ drop_at (lower s.disk seen) (higher s.disk seen) n (sym count))
