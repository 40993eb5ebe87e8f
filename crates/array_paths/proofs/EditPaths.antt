-- The edits that a round makes of the book are those that it may make, and they fit.
use Rattle.std.proofs.Common.{◌≡◌, ℕ, zero, suc, ◌+◌, ◌<◌, ◌≤◌, ◌||◌, ◌&&◌, not, nat_lt, Bool, true, false, cond, List, [], ◌∷◌, ◌++◌, filter, map, flat_map, length, refl, ap, sym, ◌∙◌, arith, Option, Some, None, is_some, ◌⊎◌, inl, inr}
use Rattle.std.specs.List.{AllByRecursion, range_with_len}
use Rattle.std.specs.Str.{bytes_eq}
use Rattle.std.proofs.lemmas.Bool.{and_parts, or_left, or_right}
use Rattle.std.proofs.lemmas.Bool.Decides.{nat_tests}
use Rattle.std.proofs.lemmas.Slice.Eq.{bytes_eq-Decides}
use Rattle.array_model.specs.Blocks.{Laid}
use Rattle.array_model.specs.Renewal.{FitsGeneration}
use Rattle.array_model.proofs.Journals.{all-append, all_map}
use Rattle.array_machine.specs.Numbers.{has, is_empty, has_serial}
use Rattle.array_machine.specs.Setting.{Setting, Facts, Edit, TakesGeneration, FailsDisk, CountsOut, MakesDirty, MakesClean, RecordsUnit, ClosesPass, StartsVolume, edited}
use Rattle.array_machine.specs.EditWords.{IsApt, AreApt}
use Rattle.array_machine.specs.EditFacts.{is_sound, facts_of}
use Rattle.array_machine.specs.States.{is_pending, is_resting}
use Rattle.array_machine.specs.Volumes.{Pass, Volume, volume_at}
use Rattle.array_machine.specs.Rounds.{expects}
use Rattle.array_machine.specs.Control.{Control}
use Rattle.array_machine.specs.MonitorTurns.{volumes_where, failed_now, edit_if, owes_dirty, owes_clean, has_own_pass, pass_edits, volume_edits, due_edits, is_due, failure_edits, still_fits, first_edits, next_block}
use Rattle.array_paths.specs.InTurn.{InTurn}
use Rattle.array_paths.specs.MayEdit.{Runs, MayEdit, IsOneOf, round_order, AreInOrder, IsNext}
use Rattle.array_paths.specs.Ready.{Ready}
use Rattle.array_paths.proofs.Tests.{pending_is, sound_runs}

-- LISTS

-- what passes a test has what all have
pub all_filter : {X : Type 0} (P : X → Type 0) (p : X → Bool) (xs : List X) → AllByRecursion P xs
    → AllByRecursion P (filter p xs)
all_filter P p [] h = tt
all_filter P p (x ∷ xs) h = at (p x) (all_filter P p xs h.1)
  where
    at : (b : Bool) → AllByRecursion P (filter p xs) → AllByRecursion P (cond b (x ∷ filter p xs) (filter p xs))
    at true more = (h.0, more)
    at false more = more

-- what passes a test, of n numbers from a on
pub all_where : (P : ℕ → Type 0) (p : ℕ → Bool) (a n : ℕ) → ((d : ℕ) → p d ≡ true → d < a + n → P d)
    → AllByRecursion P (filter p (range_with_len a n))
all_where P p a zero h = tt
all_where P p a (suc n) h = at (p a) refl (all_where P p (a + 1) n (λ d is lt. h d is (omega (arith, lt))))
  where
    at : (b : Bool) → p a ≡ b → AllByRecursion P (filter p (range_with_len (a + 1) n))
        → AllByRecursion P (cond b (a ∷ filter p (range_with_len (a + 1) n)) (filter p (range_with_len (a + 1) n)))
    at true is more = (h a is (omega arith), more)
    at false is more = more

all_over : {X Y : Type 0} (P : Y → Type 0) (f : X → Y) (xs : List X) → AllByRecursion (λ x. P (f x)) xs
    → AllByRecursion P (map f xs)
all_over P f [] h = tt
all_over P f (x ∷ xs) h = (h.0, all_over P f xs h.1)

all_flat : {X Y : Type 0} (P : Y → Type 0) (f : X → List Y) (xs : List X) → ((x : X) → AllByRecursion P (f x))
    → AllByRecursion P (flat_map f xs)
all_flat P f [] h = tt
all_flat P f (x ∷ xs) h = all-append P (f x) (flat_map f xs) (h x) (all_flat P f xs h)

-- each serial of a list is one of it
own_serials : (P : List ℕ → Type 0) (serials : List (List ℕ)) → ((s : List ℕ) → has_serial s serials ≡ true → P s)
    → AllByRecursion P serials
own_serials P [] h = tt
own_serials P (s ∷ ss) h = (
  h s (or_left (bytes_eq s s) (has_serial s ss) ((bytes_eq-Decides s s).1 refl)),
  own_serials P ss (λ x is. h x (or_right (bytes_eq s x) (has_serial x ss) is)),
)

-- a number that passes a test, of n numbers from a on, gives its edit
one_where : (f : ℕ → Edit) (p : ℕ → Bool) (a n d : ℕ) → a ≤ d → d < a + n → p d ≡ true
    → IsOneOf (f d) (map f (filter p (range_with_len a n)))
one_where f p a zero d from below is = absurd (omega (arith, from, below))
one_where f p a (suc n) d from below is = elim (from_here a d from) [
  | inl here ↦
      let passes : p a ≡ true = ap p here ∙ is in rw passes (inl (ap f (sym here)))
  | inr later ↦ at (p a) (one_where f p (a + 1) n d later (omega (arith, below)) is)
]
  where
    at : (b : Bool) → IsOneOf (f d) (map f (filter p (range_with_len (a + 1) n)))
        → IsOneOf (f d) (map f (cond b (a ∷ filter p (range_with_len (a + 1) n)) (filter p (range_with_len (a + 1) n))))
    at true more = inr more
    at false more = more

    from_here : (a d : ℕ) → a ≤ d → (a ≡ d) ⊎ (a + 1 ≤ d)
    from_here a d le = grind (arith, le)

-- so that where none passes it doesn't
none_where : (p : ℕ → Bool) (a n d : ℕ) → a ≤ d → d < a + n → p d ≡ true
    → is_empty (filter p (range_with_len a n)) ≡ true → ⊥
none_where p a n d from below is none =
    at (filter p (range_with_len a n)) none (one_where (λ e. FailsDisk (e ∷ [])) p a n d from below is)
  where
    at : (ds : List ℕ) → is_empty ds ≡ true → IsOneOf (FailsDisk (d ∷ [])) (map (λ e. FailsDisk (e ∷ [])) ds) → ⊥
    at [] none one = one
    at (e ∷ es) none one = cc none

one_before : (e : Edit) (xs ys : List Edit) → IsOneOf e xs → IsOneOf e (xs ++ ys)
one_before e [] ys one = absurd one
one_before e (x ∷ xs) ys (inl here) = inl here
one_before e (x ∷ xs) ys (inr later) = inr (one_before e xs ys later)

-- EDITS THAT FIT

-- an edit fits each block
abbrev pub FitsAll : Setting → Edit → Type 0
FitsAll S e = (m : Laid) → IsApt S m e

-- those that fit each block, and then the next generation
pub apt_all : (S : Setting) (f : Facts) (m : Laid) (edits : List Edit) (g : ℕ) → AllByRecursion (FitsAll S) edits
    → FitsGeneration g → AreApt S f m (edits ++ TakesGeneration g ∷ [])
apt_all S f m [] g fit next = (next, tt)
apt_all S f m (e ∷ es) g fit next = (fit.0 m, apt_all S f (S.edit f m e) es g fit.1 next)

-- THE EDITS OF A ROUND

-- an edit that may be made, and that fits
abbrev Good : Setting → Control → Edit → Type 0
Good S c e = MayEdit S c e × FitsAll S e

module _ (S : Setting) (c : Control) (ready : Ready S c) where
  edit_good : (b : Bool) (e : Edit) → (b ≡ true → Good S c e) → AllByRecursion (Good S c) (edit_if b e)
  edit_good true e good = (good refl, tt)
  edit_good false e good = tt

  failure_good : AllByRecursion (Good S c) (failure_edits S c.round)
  failure_good =
      all_over (Good S c) (λ d. FailsDisk (S.start.disks.serial d)) (failed_now S c.round)
      (all_where (λ d. Good S c (FailsDisk (S.start.disks.serial d)))
      (λ d. has d c.round.faults && expects S c.round.book d) 0 S.start.disks.count one)
    where
      one : (d : ℕ) → (has d c.round.faults && expects S c.round.book d) ≡ true → d < 0 + S.start.disks.count
          → Good S c (FailsDisk (S.start.disks.serial d))
      one d is lt =
          let failed = (and_parts (has d c.round.faults) (expects S c.round.book d) is).0 in
          (record { disk = d; is = refl; failed = failed; below = omega (arith, lt) }, λ m. tt)

  -- what the book owes to volume v
  module _ (v : ℕ) where
    abbrev x : Volume
    x = volume_at c.volumes v

    fits_started : Runs c v → S.start.is_started v ≡ true
    fits_started runs = ready.started v runs.started

    dirty_good : owes_dirty S c.round.book v x ≡ true → Good S c (MakesDirty v)
    dirty_good h =
        let front = (and_parts (is_sound x && is_pending x.state) _ h).0 in
        let both = and_parts (is_sound x) (is_pending x.state) front in
        let runs = sound_runs c v both.0 in
        ((runs, pending_is x.state both.1), λ m. fits_started runs)

    clean_good : owes_clean S c.round.book v x ≡ true → Good S c (MakesClean v)
    clean_good h =
        let front = (and_parts (is_sound x && is_resting x.state) _ h).0 in
        let both = and_parts (is_sound x) (is_resting x.state) front in
        let runs = sound_runs c v both.0 in
        ((runs, both.1), λ m. fits_started runs)

    pass_good : Runs c v → (pass : Option Pass) → x.pass ≡ pass
        → AllByRecursion (Good S c) (pass_edits S c.round.book v pass)
    pass_good runs None is = tt
    pass_good runs (Some p) is = at p.over refl
      where
        at : (b : Bool) → p.over ≡ b
            → AllByRecursion (Good S c)
            (cond b (ClosesPass v ∷ [])
            (edit_if (nat_lt (S.start.words.unit c.round.book v) p.ready) (RecordsUnit v p.ready)))
        at true over = ((record { runs = runs; pass = p; is = is; over = over }, λ m. fits_started runs), tt)
        at false over = edit_good (nat_lt (S.start.words.unit c.round.book v) p.ready) (RecordsUnit v p.ready)
            (λ less.
            let above : S.start.words.unit c.round.book v < p.ready = grind (arith, nat_tests, less) in (
              record { runs = runs; pass = p; is = is; at = refl; goes_on = over; above = above },
              λ m. fits_started runs,
            ))

    volume_good : AllByRecursion (Good S c) (volume_edits S c.round.book v x)
    volume_good =
        let dirty = edit_if (owes_dirty S c.round.book v x) (MakesDirty v) in
        let clean = edit_if (owes_clean S c.round.book v x) (MakesClean v) in
        all-append (Good S c) (dirty ++ clean) _
        (all-append (Good S c) dirty clean (edit_good _ _ dirty_good) (edit_good _ _ clean_good))
        (at (has_own_pass S c.round.book v x) refl)
      where
        at : (b : Bool) → has_own_pass S c.round.book v x ≡ b
            → AllByRecursion (Good S c) (cond b (pass_edits S c.round.book v x.pass) [])
        at false is = tt
        at true is =
            let front = (and_parts (is_sound x && is_some (S.start.words.pass c.round.book v)) _ is).0 in
            pass_good (sound_runs c v (and_parts (is_sound x) _ front).0) x.pass refl

  due_good : AllByRecursion (Good S c) (due_edits S c)
  due_good =
      all_flat (Good S c) (λ v. volume_edits S c.round.book v (volume_at c.volumes v))
      (range_with_len 0 (length c.volumes)) volume_good

  first_good : (b : Bool) → c.round.first ≡ b → AllByRecursion (Good S c) (first_edits S c b)
  first_good false is = tt
  first_good true is =
      let started = volumes_where (λ v y. y.started) c.volumes in
      all-append (Good S c) (map CountsOut S.start.counts_out) (map StartsVolume started)
      (all_over (Good S c) CountsOut S.start.counts_out
      (own_serials (λ s. Good S c (CountsOut s)) S.start.counts_out (λ s out. ((is, out), λ m. tt))))
      (all_over (Good S c) StartsVolume started
      (all_where (λ v. Good S c (StartsVolume v)) (λ v. (volume_at c.volumes v).started) 0 (length c.volumes)
      (λ v has lt. ((is, has), λ m. ready.started v has))))

  front_good : AllByRecursion (Good S c) (round_order S c)
  front_good =
      let failed = failure_edits S c.round in
      let due = filter (still_fits S (edited S (facts_of S c) c.round.book failed)) (due_edits S c) in
      all-append (Good S c) (failed ++ due) (first_edits S c c.round.first)
      (all-append (Good S c) failed due failure_good (all_filter (Good S c) _ (due_edits S c) due_good))
      (first_good c.round.first refl)

  -- the block of a round that begins
  pub is_next : (t : InTurn) → FitsGeneration (c.round.note + 1) → is_due S c ≡ true → IsNext S t c (next_block S c)
  is_next t next due = record {
    edits = round_order S c;
    order = inl refl;
    may = all_map (Good S c) (MayEdit S c) (λ e good. good.0) (round_order S c) front_good;
    apt = apt_all S (facts_of S c) c.round.book (round_order S c) (c.round.note + 1)
        (all_map (Good S c) (FitsAll S) (λ e good. good.1) (round_order S c) front_good) next;
    is = refl;
    asked = inl due;
  }

-- THE FAILURES AMONG THEM

module _ (S : Setting) (c : Control) where
  -- a round's edits say each failure that the book doesn't say
  order_failures : (d : ℕ) → d < S.start.disks.count → has d c.round.faults ≡ true
      → expects S c.round.book d ≡ true → IsOneOf (FailsDisk (S.start.disks.serial d)) (round_order S c)
  order_failures d below failed is =
      let edit = FailsDisk (S.start.disks.serial d) in
      let lost = failure_edits S c.round in
      let due = filter (still_fits S (edited S (facts_of S c) c.round.book lost)) (due_edits S c) in
      one_before edit (lost ++ due) (first_edits S c c.round.first)
      (one_before edit lost due
      (one_where (λ e. FailsDisk (S.start.disks.serial e)) (λ e. has e c.round.faults && expects S c.round.book e)
      0 S.start.disks.count d (omega arith) (omega (arith, below)) (rw (failed, is) refl)))

  -- where nothing is due there is no such failure
  none_failed : (d : ℕ) → d < S.start.disks.count → has d c.round.faults ≡ true
      → expects S c.round.book d ≡ true → is_due S c ≡ false → ⊥
  none_failed d below failed is none =
      none_where (λ e. has e c.round.faults && expects S c.round.book e) 0 S.start.disks.count d
      (omega arith) (omega (arith, below)) (rw (failed, is) refl)
      (at c.round.fresh (is_empty (failed_now S c.round)) _ none)
    where
      at : (a b c : Bool) → (a || not b || c) ≡ false → b ≡ true
      at true b c h = absurd cc
      at false true c h = refl
      at false false c h = absurd cc

  -- so a block that is begun says each
  pub failures_among : (edits : List Edit) → AreInOrder S c edits → (d : ℕ) → d < S.start.disks.count
      → has d c.round.faults ≡ true → expects S c.round.book d ≡ true
      → IsOneOf (FailsDisk (S.start.disks.serial d)) edits
  failures_among edits (inl order) d below failed is = rw order (order_failures d below failed is)
  failures_among edits (inr update) d below failed is = absurd (none_failed d below failed is update.1)
