-- How far a pass goes without a call: past rows that want nothing, where each slot that works is in sync.
use Rattle.std.proofs.Common.{◌≡◌, ℕ, ◌+◌, ◌≤◌, ◌==◌, ◌||◌, not, Bool, true, false, List, [], ◌∷◌, ◌++◌, refl, ap, sym, ◌∙◌, subst, arith, Option, Some, None, ◌⊎◌, inl, inr, cond}
use Rattle.std.specs.Prelude.{filter}
use Rattle.std.proofs.lemmas.Bool.Decides.{nat_tests}
use Rattle.units.specs.declared.volume.Level.{Level}
use Rattle.units.specs.declared.volume.Level.TheVariants.{One, Five, Ten}
use Rattle.array_model.specs.Placement.{Shape, Placement}
use Rattle.array_machine.specs.Numbers.{has}
use Rattle.array_machine.specs.Volumes.{Member, member_at, is_usable, Pass}
use Rattle.array_machine.specs.RowJobs.{usable_of, targets_in, first_only}
use Rattle.array_machine.specs.Faults.{past_syncs}
use Rattle.array_machine.specs.SyncTurns.{Work, work_if, pair_work, work_by, row_work, moves_to, past_checkpoint, past_rows, settled}
use Rattle.array_values.specs.Copies.{has_copies, InPair}
use Rattle.array_values.proofs.Pairs.{PairIs}
use Rattle.array_values.proofs.Needs.{filter_none, to_filter, not_false, or_none}

-- ROWS THAT WANT NOTHING

abbrev pub pair_from : ℕ → List ℕ
pair_from b = b ∷ (b + 1) ∷ []

pub has_first : (xs : List ℕ) (s : ℕ) → has s (first_only xs) ≡ true → has s xs ≡ true
has_first [] s h = h
has_first (x ∷ xs) s h = at (x == s) h
  where
    at : (b : Bool) → (b || false) ≡ true → (b || has s xs) ≡ true
    at true h = refl
    at false h = absurd cc

pub filter_passes : (f : ℕ → Bool) (xs : List ℕ) (s : ℕ) → has s (filter f xs) ≡ true → f s ≡ true
filter_passes f [] s h = absurd cc
filter_passes f (x ∷ xs) s h = at (f x) refl h (filter_passes f xs s)
  where
    at : (b : Bool) → f x ≡ b → has s (cond b (x ∷ filter f xs) (filter f xs)) ≡ true
        → (has s (filter f xs) ≡ true → f s ≡ true) → f s ≡ true
    at true is h more = by (x == s) refl h
      where
        by : (u : Bool) → (x == s) ≡ u → (u || has s (filter f xs)) ≡ true → f s ≡ true
        by true here h = let same : x ≡ s = grind (arith, nat_tests, here) in ap f (sym same) ∙ is
        by false here h = more h
    at false is h more = more h

work_none : (source writes : List ℕ) → work_if source writes ≡ [] → (source ≡ []) ⊎ (writes ≡ [])
work_none [] writes is = inl refl
work_none (s ∷ ss) [] is = inr refl
work_none (s ∷ ss) (w ∷ ws) is = absurd cc

first_none : (xs : List ℕ) → first_only xs ≡ [] → xs ≡ []
first_none [] is = refl
first_none (x ∷ xs) is = absurd cc

module _ (ms : List Member) where
  -- where a pair wants nothing and one of its slots may be read, each that works may be
  pub pair_rests : (b s t : ℕ) → pair_work ms b ≡ [] → has s (pair_from b) ≡ true
      → is_usable (member_at ms s) ≡ true → has t (pair_from b) ≡ true → (member_at ms t).working ≡ true
      → is_usable (member_at ms t) ≡ true
  pair_rests b s t is pair usable also works =
      at (work_none (first_only (usable_of ms (pair_from b)))
      (filter (λ u. not (has u (first_only (usable_of ms (pair_from b))))) (targets_in ms (pair_from b))) is)
    where
      source : List ℕ
      source = first_only (usable_of ms (pair_from b))

      at : (first_only (usable_of ms (pair_from b)) ≡ [])
          ⊎ (filter (λ u. not (has u (first_only (usable_of ms (pair_from b))))) (targets_in ms (pair_from b)) ≡ [])
          → is_usable (member_at ms t) ≡ true
      at (inl none) =
          absurd (let no_one : usable_of ms (pair_from b) ≡ [] = first_none _ none in
          let it : has s (usable_of ms (pair_from b)) ≡ true = to_filter (λ u. is_usable (member_at ms u)) (pair_from b) s pair usable in
          let not_it : has s (usable_of ms (pair_from b)) ≡ false = ap (has s) no_one in cc (it, not_it))
      at (inr none) =
          let target = to_filter (λ u. (member_at ms u).working) (pair_from b) t also works in
          let there = not_false _ (filter_none (λ u. not (has u (first_only (usable_of ms (pair_from b))))) (targets_in ms (pair_from b)) t none target) in
          filter_passes (λ u. is_usable (member_at ms u)) (pair_from b) t
          (has_first (usable_of ms (pair_from b)) t there)

  both_none : (xs ys : List Work) → xs ++ ys ≡ [] → (xs ≡ []) × (ys ≡ [])
  both_none [] ys is = (refl, is)
  both_none (x ∷ xs) ys is = absurd cc

  -- so it is where all pairs want nothing
  pub rows_rest : (level : Option Level) (shape : Shape) (row : ℕ) (p : Placement) → has_copies level ≡ true
      → (pair : PairIs level p) → work_by level shape row ms ≡ [] → pair_work ms pair.base ≡ []
  rows_rest None shape row p h pair is = absurd cc
  rows_rest (Some One) shape row p h pair is = at pair.which
    where
      at : (pair.base ≡ 0) ⊎ ((pair.base ≡ 2) × (Some One ≡ Some Ten)) → pair_work ms pair.base ≡ []
      at (inl zero_is) = subst (λ b. pair_work ms b ≡ []) (sym zero_is) is
      at (inr two_is) = absurd (let wrong = two_is.1 in cc wrong)
  rows_rest (Some Five) shape row p h pair is = absurd cc
  rows_rest (Some Ten) shape row p h pair is = at pair.which
    where
      both : (pair_work ms 0 ≡ []) × (pair_work ms 2 ≡ [])
      both = both_none (pair_work ms 0) (pair_work ms 2) is

      at : (pair.base ≡ 0) ⊎ ((pair.base ≡ 2) × (Some Ten ≡ Some Ten)) → pair_work ms pair.base ≡ []
      at (inl zero_is) = subst (λ b. pair_work ms b ≡ []) (sym zero_is) both.0
      at (inr two_is) = subst (λ b. pair_work ms b ≡ []) (sym two_is.0) both.1

pub in_pair_from : (level : Option Level) (p : Placement) (pair : PairIs level p) (s : ℕ) → InPair p s
    → has s (pair_from pair.base) ≡ true
in_pair_from level p pair s (inl is) =
    let e : (pair.base == s) ≡ true = let m = pair.main in grind (arith, nat_tests, m, is) in rw e refl
in_pair_from level p pair s (inr is) =
    let e : (pair.base + 1 == s) ≡ true = let m = pair.other in grind (arith, nat_tests, m, is) in
    at (pair.base == s) (pair.base + 1 == s) e
  where
    at : (a b : Bool) → b ≡ true → (a || (b || false)) ≡ true
    at true b h = refl
    at false true h = refl
    at false false h = absurd cc

-- A PASS

module _ (shape : Shape) (ms : List Member) where
  -- It stays in its row, or is past rows that want nothing.
  pub record StaysInRow (old new : Pass) : Type 0 where
    pub row : new.row ≡ old.row
    pub lock : new.lock ≡ old.lock
    pub got : new.got ≡ old.got
    pub written : new.written ≡ old.written
    pub syncing : new.syncing ≡ true → old.syncing ≡ true
    pub over : new.over ≡ true → (old.over ≡ true) ⊎ (shape.rows ≤ old.row)

  pub record GoesPast (old new : Pass) : Type 0 where
    pub got : new.got ≡ []
    pub written : new.written ≡ []
    pub over : new.over ≡ true → shape.rows ≤ new.row
    pub none : row_work shape ms old.row ≡ []

  pub past_checkpoint_stays : (p : Pass) (syncing : Bool) (touched : List ℕ) → p.syncing ≡ syncing
      → StaysInRow p (past_checkpoint shape syncing touched p)
  past_checkpoint_stays p true [] is = at (p.row == shape.rows) refl
    where
      at : (b : Bool) → (p.row == shape.rows) ≡ b → StaysInRow p (past_syncs shape p)
      at true here = rw here (record {
        row = refl;
        lock = refl;
        got = refl;
        written = refl;
        syncing = λ h. absurd cc;
        over = λ h. inr (grind (arith, nat_tests, here));
      })
      at false here = rw here (record {
        row = refl;
        lock = refl;
        got = refl;
        written = refl;
        syncing = λ h. absurd cc;
        over = λ h. inl h;
      })
  past_checkpoint_stays p true (t ∷ ts) is = record {
    row = refl;
    lock = refl;
    got = refl;
    written = refl;
    syncing = λ h. h;
    over = λ h. inl h;
  }
  past_checkpoint_stays p false touched is = record {
    row = refl;
    lock = refl;
    got = refl;
    written = refl;
    syncing = λ h. h;
    over = λ h. inl h;
  }

  past_rows_go : (p q : Pass) (stays : Bool) (work : List Work) (touched : List ℕ) → (q.over || q.syncing) ≡ stays
      → row_work shape ms q.row ≡ work → StaysInRow p q
      → StaysInRow p (past_rows shape stays work touched q) ⊎ GoesPast p (past_rows shape stays work touched q)
  past_rows_go p q true work touched is wants old = inl old
  past_rows_go p q false (w ∷ ws) touched is wants old = inl old
  past_rows_go p q false [] [] is wants old = inr (at (shape.rows == shape.rows) refl)
    where
      none : row_work shape ms p.row ≡ []
      none = ap (row_work shape ms) (sym old.row) ∙ wants

      at : (b : Bool) → (shape.rows == shape.rows) ≡ b → GoesPast p (past_syncs shape (moves_to shape q shape.rows))
      at true here = rw here (record {
        got = refl;
        written = refl;
        over = λ h. omega arith;
        none = ap (row_work shape ms) (sym old.row) ∙ wants;
      })
      at false here = absurd (let yes_it : (shape.rows == shape.rows) ≡ true = grind (arith, nat_tests) in cc (yes_it, here))
  past_rows_go p q false [] (t ∷ ts) is wants old = inr (record {
    got = refl;
    written = refl;
    over = λ h. absurd (let not_over = (or_none q.over q.syncing is).0 in cc (h, not_over));
    none = ap (row_work shape ms) (sym old.row) ∙ wants;
  })

  pub settled_goes : (p : Pass) → StaysInRow p (settled shape ms p) ⊎ GoesPast p (settled shape ms p)
  settled_goes p =
      let q : Pass = past_checkpoint shape p.syncing p.touched p in
      past_rows_go p q (q.over || q.syncing) (row_work shape ms q.row) q.touched refl refl
      (past_checkpoint_stays p p.syncing p.touched refl)
