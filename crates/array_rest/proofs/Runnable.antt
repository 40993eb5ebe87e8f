-- Whether a volume can run goes by the slots that are in sync on disks without a fault: with more of them it still can.
use Rattle.std.proofs.Common.{◌≡◌, ℕ, zero, suc, ◌+◌, ◌≤◌, not, Bool, true, false, List, [], ◌∷◌, length, map, take, drop, refl, ap, sym, ◌∙◌, arith, Option, Some, None, inl, inr, cond}
use Rattle.std.specs.Prelude.{⊤}
use Rattle.std.specs.List.{list_any, count_by}
use Rattle.std.specs.Option.{option_map_or}
use Rattle.std.proofs.lemmas.Bool.{and_parts}
use Rattle.std.proofs.lemmas.Bool.Decides.{nat_tests}
use Rattle.std.proofs.lemmas.List.Sums.{sum_by-cons}
use Rattle.units.specs.declared.volume.Level.{Level}
use Rattle.units.specs.declared.volume.Level.TheVariants.{One, Five, Ten}
use Rattle.units.specs.Levels.{suffices}
use Rattle.array_machine.specs.Numbers.{has}
use Rattle.array_machine.specs.Volumes.{Slot, slot_at, is_usable, member_of, members_of, can_run}
use Rattle.array_base.proofs.Targets.{or_first, or_second, or_cases}

-- each that holds in the one list holds in the other
abbrev pub Grows : List Bool → List Bool → Type 0
Grows [] [] = ⊤
Grows [] (b ∷ ys) = ⊥
Grows (a ∷ xs) [] = ⊥
Grows (a ∷ xs) (b ∷ ys) = (a ≡ true → b ≡ true) × Grows xs ys

any_grows : (xs ys : List Bool) → Grows xs ys → list_any (λ s. s) xs ≡ true → list_any (λ s. s) ys ≡ true
any_grows [] [] g is = is
any_grows [] (b ∷ ys) g is = absurd g
any_grows (a ∷ xs) [] g is = absurd g
any_grows (a ∷ xs) (b ∷ ys) g is = elim (or_cases a (list_any (λ s. s) xs) is) [
  | inl here ↦ or_first b (list_any (λ s. s) ys) (g.0 here)
  | inr later ↦ or_second b (list_any (λ s. s) ys) (any_grows xs ys g.1 later)
]

take_grows : (n : ℕ) (xs ys : List Bool) → Grows xs ys → Grows (take n xs) (take n ys)
take_grows zero xs ys g = tt
take_grows (suc n) [] [] g = tt
take_grows (suc n) [] (b ∷ ys) g = absurd g
take_grows (suc n) (a ∷ xs) [] g = absurd g
take_grows (suc n) (a ∷ xs) (b ∷ ys) g = (g.0, take_grows n xs ys g.1)

drop_grows : (n : ℕ) (xs ys : List Bool) → Grows xs ys → Grows (drop n xs) (drop n ys)
drop_grows zero xs ys g = g
drop_grows (suc n) [] [] g = tt
drop_grows (suc n) [] (b ∷ ys) g = absurd g
drop_grows (suc n) (a ∷ xs) [] g = absurd g
drop_grows (suc n) (a ∷ xs) (b ∷ ys) g = drop_grows n xs ys g.1

-- one that doesn't hold, and one that does
pub counted : (bs : List Bool) → count_by not (false ∷ bs) ≡ 1 + count_by not bs
counted bs = sum_by-cons (λ b. cond (not b) 1 0) false bs

pub passed_by : (bs : List Bool) → count_by not (true ∷ bs) ≡ 0 + count_by not bs
passed_by bs = sum_by-cons (λ b. cond (not b) 1 0) true bs

count_grows : (xs ys : List Bool) → Grows xs ys → count_by not ys ≤ count_by not xs
count_grows [] [] g = omega arith
count_grows [] (b ∷ ys) g = absurd g
count_grows (a ∷ xs) [] g = absurd g
count_grows (a ∷ xs) (b ∷ ys) g = at a b g.0 (count_grows xs ys g.1)
  where
    at : (a b : Bool) → (a ≡ true → b ≡ true) → count_by not ys ≤ count_by not xs
        → count_by not (b ∷ ys) ≤ count_by not (a ∷ xs)
    at true true h le = let one = passed_by xs in let other = passed_by ys in omega (arith, le, one, other)
    at true false h le = absurd (let bad = h refl in cc bad)
    at false true h le = let one = counted xs in let other = passed_by ys in omega (arith, le, one, other)
    at false false h le = let one = counted xs in let other = counted ys in omega (arith, le, one, other)

pub suffices_more : (level : Option Level) (xs ys : List Bool) → Grows xs ys → suffices level xs ≡ true
    → suffices level ys ≡ true
suffices_more None xs ys g is = absurd (cc is)
suffices_more (Some One) xs ys g is = any_grows xs ys g is
suffices_more (Some Five) xs ys g is =
    let le = count_grows xs ys g in
    let few : count_by not xs ≤ 1 = grind (arith, nat_tests, is) in
    let fewer : count_by not ys ≤ 1 = omega (arith, le, few) in
    grind (arith, nat_tests, fewer)
suffices_more (Some Ten) xs ys g is =
    let parts = and_parts (list_any (λ s. s) (take 2 xs)) (list_any (λ s. s) (drop 2 xs)) is in
    let front = any_grows (take 2 xs) (take 2 ys) (take_grows 2 xs ys g) parts.0 in
    let back = any_grows (drop 2 xs) (drop 2 ys) (drop_grows 2 xs ys g) parts.1 in
    rw (front, back) refl

-- A SLOT THAT IS IN SYNC

-- one of some slots is
pub record SomeUsable (faults : List ℕ) (slots : List Slot) : Type 0 where
  pub slot : ℕ
  pub is : is_usable (member_of faults [] (slot_at slots slot)) ≡ true

any_usable : (faults : List ℕ) (slots : List Slot)
    → list_any (λ s. s) (map is_usable (members_of faults [] slots)) ≡ true → SomeUsable faults slots
any_usable faults [] is = absurd (cc is)
any_usable faults (x ∷ xs) is =
    elim (or_cases (is_usable (member_of faults [] x)) (list_any (λ s. s) (map is_usable (members_of faults [] xs))) is) [
      | inl here ↦ record { slot = 0; is = here }
      | inr later ↦ let more = any_usable faults xs later in record { slot = suc more.slot; is = more.is }
    ]

any_first : (n : ℕ) (ys : List Bool) → list_any (λ s. s) (take n ys) ≡ true → list_any (λ s. s) ys ≡ true
any_first zero ys is = absurd (cc is)
any_first (suc n) [] is = is
any_first (suc n) (b ∷ ys) is = elim (or_cases b (list_any (λ s. s) (take n ys)) is) [
  | inl here ↦ or_first b (list_any (λ s. s) ys) here
  | inr later ↦ or_second b (list_any (λ s. s) ys) (any_first n ys later)
]

-- of two at least one is in sync where all but one are
few_any : (ys : List Bool) → 2 ≤ length ys → count_by not ys ≤ 1 → list_any (λ s. s) ys ≡ true
few_any [] long few = absurd (omega (arith, long))
few_any (true ∷ ys) long few = refl
few_any (false ∷ []) long few = absurd (omega (arith, long))
few_any (false ∷ true ∷ ys) long few = refl
few_any (false ∷ false ∷ ys) long few =
    absurd (let one = counted (false ∷ ys) in let other = counted ys in omega (arith, few, one, other))

pub mapped_long : (faults blocked : List ℕ) (slots : List Slot)
    → length (map is_usable (members_of faults blocked slots)) ≡ length slots
mapped_long faults blocked [] = refl
mapped_long faults blocked (x ∷ xs) = ap suc (mapped_long faults blocked xs)

pub runs_on_one : (level : Option Level) (faults : List ℕ) (slots : List Slot) → 2 ≤ length slots
    → can_run level (members_of faults [] slots) ≡ true → SomeUsable faults slots
runs_on_one None faults slots long is = absurd (cc is)
runs_on_one (Some One) faults slots long is = any_usable faults slots is
runs_on_one (Some Five) faults slots long is =
    let same = mapped_long faults [] slots in
    let few : count_by not (map is_usable (members_of faults [] slots)) ≤ 1 = grind (arith, nat_tests, is) in
    any_usable faults slots
    (few_any (map is_usable (members_of faults [] slots)) (omega (arith, long, same)) few)
runs_on_one (Some Ten) faults slots long is =
    let ys = map is_usable (members_of faults [] slots) in
    any_usable faults slots
    (any_first 2 ys (and_parts (list_any (λ s. s) (take 2 ys)) (list_any (λ s. s) (drop 2 ys)) is).0)

-- the disk of a slot that is in sync, which has no fault
pub record UsableDisk (faults : List ℕ) (x : Slot) : Type 0 where
  pub disk : ℕ
  pub is : x.disk ≡ Some disk
  pub sound : has disk faults ≡ false
  pub in_sync : x.in_sync ≡ true

pub usable_disk : (faults blocked : List ℕ) (x : Slot) → is_usable (member_of faults blocked x) ≡ true
    → UsableDisk faults x
usable_disk faults blocked x is = at x.disk refl
  where
    parts : (option_map_or (λ d. not (has d faults)) x.disk false ≡ true) × (x.in_sync ≡ true)
    parts = and_parts (option_map_or (λ d. not (has d faults)) x.disk false) x.in_sync is

    flips : (b : Bool) → not b ≡ true → b ≡ false
    flips true h = absurd (cc h)
    flips false h = refl

    at : (disk : Option ℕ) → x.disk ≡ disk → UsableDisk faults x
    at None none = absurd (let bad = ap (λ o. option_map_or (λ d. not (has d faults)) o false) (sym none) ∙ parts.0 in cc bad)
    at (Some d) has_it = record {
      disk = d;
      is = has_it;
      sound = flips (has d faults)
          (ap (λ o. option_map_or (λ d. not (has d faults)) o false) (sym has_it) ∙ parts.0);
      in_sync = parts.1;
    }

-- and back
pub disk_usable : (faults blocked : List ℕ) (x : Slot) (d : ℕ) → x.disk ≡ Some d → has d faults ≡ false
    → x.in_sync ≡ true → is_usable (member_of faults blocked x) ≡ true
disk_usable faults blocked x d is sound synced =
    let working : option_map_or (λ d. not (has d faults)) x.disk false ≡ true
    = ap (λ o. option_map_or (λ d. not (has d faults)) o false) is ∙ ap not sound in
    rw (working, synced) refl

-- WHICH DISKS ARE BLOCKED DOESN'T MATTER

pub usable_same : (faults blocked : List ℕ) (slots : List Slot)
    → map is_usable (members_of faults blocked slots) ≡ map is_usable (members_of faults [] slots)
usable_same faults blocked [] = refl
usable_same faults blocked (x ∷ xs) = ap (λ ys. is_usable (member_of faults [] x) ∷ ys) (usable_same faults blocked xs)
