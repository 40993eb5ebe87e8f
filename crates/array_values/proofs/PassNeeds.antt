-- What the need of a pass says of what it read and wrote in its row, and what its sets are where slots hold copies.
use Rattle.std.proofs.Common.{◌≡◌, ℕ, ◌+◌, ◌==◌, ◌||◌, not, Bool, true, false, List, [], ◌∷◌, ◌++◌, refl, ap, sym, ◌∙◌, subst, arith, Option, Some, None, ◌⊎◌, inl, inr, cond}
use Rattle.std.specs.Prelude.{filter}
use Rattle.std.specs.List.{AllByRecursion}
use Rattle.std.proofs.lemmas.Bool.Decides.{nat_tests}
use Rattle.units.specs.declared.disk.Sector.{Sector}
use Rattle.units.specs.declared.volume.Level.{Level}
use Rattle.units.specs.declared.volume.Level.TheVariants.{One, Five, Ten}
use Rattle.array_model.specs.Placement.{Shape, Placement}
use Rattle.array_model.proofs.Journals.{all-append}
use Rattle.array_machine.specs.Setting.{Setting}
use Rattle.array_machine.specs.Numbers.{has}
use Rattle.array_machine.specs.Volumes.{Member, member_at, is_usable, Got, Pass}
use Rattle.array_machine.specs.RowJobs.{NoNeed, Reads, Writes, usable_of, targets_in, first_only, got_slots, unread, sync_or, xor_got}
use Rattle.array_machine.specs.SyncTurns.{Work, work_if, pair_work, work_by, unwritten_of, need_set, need_sets, pass_need, new_sector, all_written}
use Rattle.array_values.specs.Copies.{has_copies, InPair}
use Rattle.array_values.proofs.Rows.{read_of}
use Rattle.array_values.proofs.Pairs.{PairIs}
use Rattle.array_values.proofs.Needs.{filter_first, filter_none, to_filter, from_filter, not_true, not_false, both_true}
use Rattle.array_values.proofs.Settled.{pair_from, has_first, filter_passes}

-- WHERE IT STANDS

-- a pass that reads or writes isn't over, and is in a row
pub reads_in_row : (p : Pass) (work : List Work) (s : ℕ) → pass_need p work p.over p.syncing ≡ Reads s
    → (p.over ≡ false) × (need_sets p work ≡ Reads s)
reads_in_row p work s is = at p.over p.syncing refl is
  where
    sync_no : (xs : List ℕ) → sync_or xs NoNeed ≡ Reads s → ⊥
    sync_no [] e = cc
    sync_no (x ∷ xs) e = cc

    at : (a b : Bool) → p.over ≡ a → pass_need p work a b ≡ Reads s → (p.over ≡ false) × (need_sets p work ≡ Reads s)
    at true b over e = absurd cc
    at false true over e = absurd (sync_no p.touched e)
    at false false over e = (over, e)

pub writes_in_row : (p : Pass) (work : List Work) (s : ℕ) → pass_need p work p.over p.syncing ≡ Writes s
    → (p.over ≡ false) × (need_sets p work ≡ Writes s)
writes_in_row p work s is = at p.over p.syncing refl is
  where
    sync_no : (xs : List ℕ) → sync_or xs NoNeed ≡ Writes s → ⊥
    sync_no [] e = cc
    sync_no (x ∷ xs) e = cc

    at : (a b : Bool) → p.over ≡ a → pass_need p work a b ≡ Writes s → (p.over ≡ false) × (need_sets p work ≡ Writes s)
    at true b over e = absurd cc
    at false true over e = absurd (sync_no p.touched e)
    at false false over e = (over, e)

-- WHAT WAS READ

-- a slot that is read wasn't read
pub read_unread : (p : Pass) (work : List Work) (s : ℕ) → need_sets p work ≡ Reads s → has s (got_slots p.got) ≡ false
read_unread p [] s is = absurd cc
read_unread p (w ∷ ws) s is = at (unread w.reads p.got) refl (unwritten_of p.written w) is (read_unread p ws s)
  where
    at : (left : List ℕ) → unread w.reads p.got ≡ left → (to_write : List ℕ)
        → need_set left to_write (need_sets p ws) ≡ Reads s → (need_sets p ws ≡ Reads s → has s (got_slots p.got) ≡ false)
        → has s (got_slots p.got) ≡ false
    at left e [] is more = more is
    at [] e (t ∷ ts) is more = absurd cc
    at (x ∷ xs) e (t ∷ ts) is more =
        let same : x ≡ s = cc is in
        let first = filter_first (λ u. not (has u (got_slots p.got))) w.reads x xs e in
        ap (λ u. has u (got_slots p.got)) (sym same) ∙ not_true (has x (got_slots p.got)) first.0

-- nothing of it was read
pub none_read : (got : List Got) (s : ℕ) → has s (got_slots got) ≡ false → read_of s got ≡ []
none_read [] s h = refl
none_read (g ∷ gs) s h = at (g.slot == s) (s == g.slot) (grind (arith, nat_tests)) h (none_read gs s)
  where
    at : (a b : Bool) → a ≡ b → (a || has s (got_slots gs)) ≡ false → (has s (got_slots gs) ≡ false → read_of s gs ≡ [])
        → cond (b || false) (g ∷ read_of s gs) (read_of s gs) ≡ []
    at true b e h more = absurd cc
    at false true e h more = absurd cc
    at false false e h more = more h

pub read_more : (got : List Got) (s : ℕ) (g : Got) → read_of s (got ++ g ∷ []) ≡ read_of s got ++ read_of s (g ∷ [])
read_more [] s g = refl
read_more (x ∷ xs) s g = at (has x.slot (s ∷ [])) (read_more xs s g)
  where
    at : (b : Bool) → read_of s (xs ++ g ∷ []) ≡ read_of s xs ++ read_of s (g ∷ [])
        → cond b (x ∷ read_of s (xs ++ g ∷ [])) (read_of s (xs ++ g ∷ [])) ≡ cond b (x ∷ read_of s xs) (read_of s xs) ++ read_of s (g ∷ [])
    at true e = ap (λ l. x ∷ l) e
    at false e = e

pub read_one : (s t : ℕ) (x : Sector) → (t == s) ≡ true → read_of t (record { slot = s; sector = x } ∷ []) ≡ record { slot = s; sector = x } ∷ []
read_one s t x is = rw is refl

pub read_other : (s t : ℕ) (x : Sector) → (t == s) ≡ false → read_of t (record { slot = s; sector = x } ∷ []) ≡ []
read_other s t x is = rw is refl

-- SETS

-- a set of a pair: it reads one slot of it, and writes slots of it
pub record IsPairWork (ms : List Member) (w : Work) : Type 0 where
  pub base : ℕ
  pub source : ℕ
  pub reads : w.reads ≡ source ∷ []
  pub among : has source (pair_from base) ≡ true
  pub writes : (s : ℕ) → has s w.writes ≡ true → has s (pair_from base) ≡ true
  pub which : (base ≡ 0) ⊎ (base ≡ 2)

one_first : (xs : List ℕ) (s : ℕ) (more : List ℕ) → first_only xs ≡ s ∷ more → (more ≡ []) × (has s xs ≡ true)
one_first [] s more is = absurd cc
one_first (x ∷ xs) s more is =
    let same : x ≡ s = cc is in
    let here : (x == s) ≡ true = grind (arith, nat_tests, same) in (cc is, rw here refl)

pair_works : (ms : List Member) (b : ℕ) → (b ≡ 0) ⊎ (b ≡ 2) → AllByRecursion (IsPairWork ms) (pair_work ms b)
pair_works ms b which =
    at (first_only (usable_of ms (pair_from b))) refl
    (filter (λ t. not (has t (first_only (usable_of ms (pair_from b))))) (targets_in ms (pair_from b))) refl
  where
    at : (source : List ℕ) → first_only (usable_of ms (pair_from b)) ≡ source → (writes : List ℕ)
        → filter (λ t. not (has t (first_only (usable_of ms (pair_from b))))) (targets_in ms (pair_from b)) ≡ writes
        → AllByRecursion (IsPairWork ms) (work_if source writes)
    at [] e writes f = tt
    at (s ∷ ss) e [] f = tt
    at (s ∷ ss) e (w ∷ ws) f =
        let one = one_first (usable_of ms (pair_from b)) s ss e in (
          record {
            base = b;
            source = s;
            reads = ap (λ l. s ∷ l) one.0;
            among = from_filter (λ t. is_usable (member_at ms t)) (pair_from b) s one.1;
            writes = λ t h.
                from_filter (λ u. (member_at ms u).working) (pair_from b) t
                (from_filter (λ u. not (has u (first_only (usable_of ms (pair_from b))))) (targets_in ms (pair_from b)) t
                (subst (λ l. has t l ≡ true) (sym f) h));
            which = which;
          },
          tt,
        )

pub works_are : (level : Option Level) (shape : Shape) (row : ℕ) (ms : List Member) → has_copies level ≡ true
    → AllByRecursion (IsPairWork ms) (work_by level shape row ms)
works_are None shape row ms h = absurd cc
works_are (Some One) shape row ms h = pair_works ms 0 (inl refl)
works_are (Some Five) shape row ms h = absurd cc
works_are (Some Ten) shape row ms h =
    all-append (IsPairWork ms) (pair_work ms 0) (pair_work ms 2) (pair_works ms 0 (inl refl)) (pair_works ms 2 (inr refl))

-- what is written to a slot: what was read of its set
pub record WritesOf (S : Setting) (ms : List Member) (work : List Work) (got : List Got) (s : ℕ) : Type 0 where
  pub base : ℕ
  pub source : ℕ
  pub among : has source (pair_from base) ≡ true
  pub own : has s (pair_from base) ≡ true
  pub which : (base ≡ 0) ⊎ (base ≡ 2)
  pub is_read : has source (got_slots got) ≡ true
  pub sector : new_sector S work got s ≡ xor_got S (read_of source got)

pub writes_of : (S : Setting) (ms : List Member) (p : Pass) (work : List Work) (s : ℕ)
    → AllByRecursion (IsPairWork ms) work → need_sets p work ≡ Writes s → WritesOf S ms work p.got s
writes_of S ms p [] s all is = absurd cc
writes_of S ms p (w ∷ ws) s all is =
    at (unread w.reads p.got) refl (unwritten_of p.written w) refl is (writes_of S ms p ws s all.1)
  where
    fresh : (ws : List Work) → need_sets p ws ≡ Writes s → has s p.written ≡ false
    fresh [] e = absurd cc
    fresh (u ∷ us) e = by (unread u.reads p.got) (unwritten_of p.written u) refl e (fresh us)
      where
        by : (left to_write : List ℕ) → unwritten_of p.written u ≡ to_write
            → need_set left to_write (need_sets p us) ≡ Writes s → (need_sets p us ≡ Writes s → has s p.written ≡ false)
            → has s p.written ≡ false
        by left [] f e more = more e
        by (x ∷ xs) (t ∷ ts) f e more = absurd cc
        by [] (t ∷ ts) f e more =
            let same : t ≡ s = cc e in
            ap (λ z. has z p.written) (sym same) ∙ not_true (has t p.written) (filter_first (λ z. not (has z p.written)) u.writes t ts f).0

    mine : has s w.writes ≡ true → unread w.reads p.got ≡ [] → WritesOf S ms (w ∷ ws) p.got s
    mine own left =
        let set : IsPairWork ms w = all.0 in
        record {
          base = set.base;
          source = set.source;
          among = set.among;
          own = set.writes s own;
          which = set.which;
          is_read =
              let here : (set.source == set.source) ≡ true = grind (arith, nat_tests) in
              not_false (has set.source (got_slots p.got))
              (filter_none (λ u. not (has u (got_slots p.got))) w.reads set.source left
              (subst (λ l. has set.source l ≡ true) (sym set.reads) (rw here refl)));
          sector = ap (λ b. cond b (xor_got S (filter (λ g. has g.slot w.reads) p.got)) (new_sector S ws p.got s)) own
              ∙ ap (λ l. xor_got S (filter (λ g. has g.slot l) p.got)) set.reads;
        }

    at : (left : List ℕ) → unread w.reads p.got ≡ left → (to_write : List ℕ) → unwritten_of p.written w ≡ to_write
        → need_set left to_write (need_sets p ws) ≡ Writes s → (need_sets p ws ≡ Writes s → WritesOf S ms ws p.got s)
        → WritesOf S ms (w ∷ ws) p.got s
    at (x ∷ xs) e (t ∷ ts) f is more = absurd cc
    at [] e (t ∷ ts) f is more =
        let same : t ≡ s = cc is in
        mine (subst (λ z. has z w.writes ≡ true) same (filter_first (λ z. not (has z p.written)) w.writes t ts f).1) e
    at left e [] f is more = by (has s w.writes) refl
      where
        later : WritesOf S ms ws p.got s
        later = more is

        by : (b : Bool) → has s w.writes ≡ b → WritesOf S ms (w ∷ ws) p.got s
        by true own = absurd (let done = filter_none (λ z. not (has z p.written)) w.writes s f own in
            let not_yet = fresh ws is in let it = not_false (has s p.written) done in cc (it, not_yet))
        by false other = record {
          base = later.base;
          source = later.source;
          among = later.among;
          own = later.own;
          which = later.which;
          is_read = later.is_read;
          sector = ap (λ b. cond b (xor_got S (filter (λ g. has g.slot w.reads) p.got)) (new_sector S ws p.got s)) other
              ∙ later.sector;
        }

-- DONE

parts_written : (written : List ℕ) (xs ys : List Work) → all_written written (xs ++ ys) ≡ true
    → (all_written written xs ≡ true) × (all_written written ys ≡ true)
parts_written written [] ys h = (refl, h)
parts_written written (x ∷ xs) ys h =
    let both = both_true (Rattle.array_machine.specs.Numbers.is_empty (unwritten_of written x)) (all_written written (xs ++ ys)) h in
    let more = parts_written written xs ys both.1 in (rw both.0 more.0, more.1)

none_in : (xs : List ℕ) → Rattle.array_machine.specs.Numbers.is_empty xs ≡ true → xs ≡ []
none_in [] h = refl
none_in (x ∷ xs) h = absurd cc

-- once all is written, each slot of a pair that works was written, or may be read
pair_written : (ms : List Member) (written : List ℕ) (b s t : ℕ) → all_written written (pair_work ms b) ≡ true
    → has s (pair_from b) ≡ true → is_usable (member_at ms s) ≡ true → has t (pair_from b) ≡ true
    → (member_at ms t).working ≡ true → (is_usable (member_at ms t) ≡ true) ⊎ (has t written ≡ true)
pair_written ms written b s t all pair usable also works =
    at (has t (first_only (usable_of ms (pair_from b)))) refl
  where
    there : has s (usable_of ms (pair_from b)) ≡ true
    there = to_filter (λ u. is_usable (member_at ms u)) (pair_from b) s pair usable

    target : has t (targets_in ms (pair_from b)) ≡ true
    target = to_filter (λ u. (member_at ms u).working) (pair_from b) t also works

    by : (source : List ℕ) → first_only (usable_of ms (pair_from b)) ≡ source → (writes : List ℕ)
        → has t writes ≡ true → all_written written (work_if source writes) ≡ true → has t written ≡ true
    by [] e writes h done =
        absurd (let none : has s (usable_of ms (pair_from b)) ≡ false = ap (has s) (no_first (usable_of ms (pair_from b)) e) in let it = there in cc (it, none))
      where
        no_first : (xs : List ℕ) → first_only xs ≡ [] → xs ≡ []
        no_first [] is = refl
        no_first (x ∷ xs) is = absurd cc
    by (u ∷ us) e [] h done = absurd cc
    by (u ∷ us) e (w ∷ ws) h done =
        let empty = both_true (Rattle.array_machine.specs.Numbers.is_empty (filter (λ z. not (has z written)) (w ∷ ws))) true done in
        not_false (has t written) (filter_none (λ z. not (has z written)) (w ∷ ws) t (none_in _ empty.0) h)

    at : (x : Bool) → has t (first_only (usable_of ms (pair_from b))) ≡ x
        → (is_usable (member_at ms t) ≡ true) ⊎ (has t written ≡ true)
    at true h = inl (filter_passes (λ u. is_usable (member_at ms u)) (pair_from b) t (has_first (usable_of ms (pair_from b)) t h))
    at false h = inr (by (first_only (usable_of ms (pair_from b))) refl
        (filter (λ u. not (has u (first_only (usable_of ms (pair_from b))))) (targets_in ms (pair_from b)))
        (to_filter (λ u. not (has u (first_only (usable_of ms (pair_from b))))) (targets_in ms (pair_from b)) t target (rw h refl)) all)

pub row_written : (level : Option Level) (shape : Shape) (row : ℕ) (p : Placement) (ms : List Member) (written : List ℕ)
    → has_copies level ≡ true → (pair : PairIs level p) → all_written written (work_by level shape row ms) ≡ true
    → (s t : ℕ) → has s (pair_from pair.base) ≡ true → is_usable (member_at ms s) ≡ true
    → has t (pair_from pair.base) ≡ true → (member_at ms t).working ≡ true
    → (is_usable (member_at ms t) ≡ true) ⊎ (has t written ≡ true)
row_written None shape row p ms written h pair all s t = absurd cc
row_written (Some One) shape row p ms written h pair all s t = pair_written ms written pair.base s t (at pair.which)
  where
    at : (pair.base ≡ 0) ⊎ ((pair.base ≡ 2) × (Some One ≡ Some Ten)) → all_written written (pair_work ms pair.base) ≡ true
    at (inl zero_is) = subst (λ b. all_written written (pair_work ms b) ≡ true) (sym zero_is) all
    at (inr two_is) = absurd (let wrong = two_is.1 in cc wrong)
row_written (Some Five) shape row p ms written h pair all s t = absurd cc
row_written (Some Ten) shape row p ms written h pair all s t = pair_written ms written pair.base s t (at pair.which)
  where
    both : (all_written written (pair_work ms 0) ≡ true) × (all_written written (pair_work ms 2) ≡ true)
    both = parts_written written (pair_work ms 0) (pair_work ms 2) all

    at : (pair.base ≡ 0) ⊎ ((pair.base ≡ 2) × (Some Ten ≡ Some Ten)) → all_written written (pair_work ms pair.base) ≡ true
    at (inl zero_is) = subst (λ b. all_written written (pair_work ms b) ≡ true) (sym zero_is) both.0
    at (inr two_is) = subst (λ b. all_written written (pair_work ms b) ≡ true) (sym two_is.0) both.1

-- slots of one pair
pub one_pair : (level : Option Level) (p : Placement) (pair : PairIs level p) (b s t : ℕ) → (b ≡ 0) ⊎ (b ≡ 2)
    → has s (pair_from b) ≡ true → InPair p s → has t (pair_from b) ≡ true → InPair p t
one_pair level p pair b s t which own at other =
    by pair.which which (in_from b s own) (in_from b t other) at
  where
    in_from : (b s : ℕ) → has s (pair_from b) ≡ true → (s ≡ b) ⊎ (s ≡ b + 1)
    in_from b s h = by (b == s) (b + 1 == s) refl refl h
      where
        by : (x y : Bool) → (b == s) ≡ x → (b + 1 == s) ≡ y → (x || (y || false)) ≡ true → (s ≡ b) ⊎ (s ≡ b + 1)
        by true y e f h = inl (grind (arith, nat_tests, e))
        by false true e f h = inr (grind (arith, nat_tests, f))
        by false false e f h = absurd cc

    same_base : (pair.base ≡ 0) ⊎ ((pair.base ≡ 2) × (level ≡ Some Ten)) → (b ≡ 0) ⊎ (b ≡ 2) → (s ≡ b) ⊎ (s ≡ b + 1)
        → InPair p s → b ≡ pair.base
    same_base (inl z) (inl y) x a = y ∙ sym z
    same_base (inl z) (inr y) x a = absurd (let m = pair.main in let o = pair.other in grind (arith, z, y, x, a, m, o))
    same_base (inr z) (inl y) x a = absurd (let m = pair.main in let o = pair.other in let two = z.0 in grind (arith, two, y, x, a, m, o))
    same_base (inr z) (inr y) x a = y ∙ sym z.0

    by : (pair.base ≡ 0) ⊎ ((pair.base ≡ 2) × (level ≡ Some Ten)) → (b ≡ 0) ⊎ (b ≡ 2) → (s ≡ b) ⊎ (s ≡ b + 1)
        → (t ≡ b) ⊎ (t ≡ b + 1) → InPair p s → InPair p t
    by w y x (inl u) a = inl (u ∙ same_base w y x a ∙ sym pair.main)
    by w y x (inr u) a = inr (u ∙ ap (λ z. z + 1) (same_base w y x a) ∙ sym pair.other)
