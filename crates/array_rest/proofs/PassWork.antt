-- What a pass has to do: where it stands once all is done that takes no call, and what each set of slots in a row asks.
use Rattle.std.proofs.Common.{◌≡◌, ℕ, ◌+◌, ◌*◌, ◌/◌, ◌%◌, ◌<◌, ◌==◌, ◌||◌, ◌&&◌, not, nat_lt, min, Bool, true, false, List, [], ◌∷◌, filter, refl, ap, sym, ◌∙◌, subst, arith, Option, Some, None, ◌⊎◌, inl, inr, cond, eqb-true, eq-eqb}
use Rattle.std.specs.List.{AllByRecursion, range_with_len}
use Rattle.std.proofs.lemmas.Bool.{and_parts}
use Rattle.std.proofs.lemmas.Nat.{mod-mul-add}
use Rattle.units.specs.declared.bounds.TheConstants.{UNIT_ROWS}
use Rattle.units.specs.declared.volume.Level.{Level}
use Rattle.units.specs.declared.volume.Level.TheVariants.{One, Five, Ten}
use Rattle.array_model.specs.Placement.{Shape}
use Rattle.array_model.proofs.Journals.{all-append}
use Rattle.array_machine.specs.Numbers.{has, is_empty}
use Rattle.array_machine.specs.Volumes.{Member, member_at, is_usable, Pass}
use Rattle.array_machine.specs.RowJobs.{others_of, usable_of, targets_in, first_only, got_slots, unread, Need, Reads, Writes}
use Rattle.array_machine.specs.SyncTurns.{Work, work_if, pair_work, parity_of, gone_of, rebuilt_of, parity_work, work_by, row_work, checkpoint_rows, is_checkpoint, next_checkpoint, moves_to, past_checkpoint, past_rows, settled, unwritten_of, need_set, need_sets, all_written}
use Rattle.array_base.proofs.Targets.{or_cases, or_neither, or_first, or_second, has_passes, passes_has}
use Rattle.array_rest.proofs.Failures.{filter_has}
use Rattle.array_rest.proofs.Parts.{not_true}
use Rattle.array_rest.proofs.RoundStands.{has_below}

-- WHERE A PASS STANDS

-- the next checkpoint is one
checkpoint_next : (shape : Shape) (row : ℕ) → is_checkpoint shape (next_checkpoint shape row) ≡ true
checkpoint_next shape row =
    elim (either ((row / checkpoint_rows + 1) * checkpoint_rows) shape.rows) [
      | inl first ↦
          or_second (next_checkpoint shape row == shape.rows) (next_checkpoint shape row % checkpoint_rows == 0)
          (ap (λ n. n % checkpoint_rows == 0) first ∙ multiple (row / checkpoint_rows + 1))
      | inr last ↦
          or_first (next_checkpoint shape row == shape.rows) (next_checkpoint shape row % checkpoint_rows == 0)
          (eq-eqb (next_checkpoint shape row) shape.rows last)
    ]
  where
    either : (a b : ℕ) → (min a b ≡ a) ⊎ (min a b ≡ b)
    either a b = grind arith

    multiple : (a : ℕ) → ((a * 1024) % 1024 == 0) ≡ true
    multiple a =
        let same : a * 1024 ≡ a * 1024 + 0 = omega arith in
        eq-eqb ((a * 1024) % 1024) 0 (ap (λ n. n % 1024) same ∙ mod-mul-add a 1024 0 (omega arith))

-- over, at a checkpoint with slots to sync, or in a row that asks something
pub data SettlesTo (shape : Shape) (members : List Member) (q : Pass) : Type 0 where
  is_over : q.over ≡ true → SettlesTo shape members q
  is_syncing : q.syncing ≡ true → (q.touched ≡ [] → ⊥) → SettlesTo shape members q
  in_row : q.over ≡ false → q.syncing ≡ false → (row_work shape members q.row ≡ [] → ⊥) → SettlesTo shape members q

rows_settle : (shape : Shape) (members : List Member) (stays : Bool) (work : List Work) (touched : List ℕ) (q : Pass)
    → (q.over || q.syncing) ≡ stays → row_work shape members q.row ≡ work → q.touched ≡ touched
    → (q.syncing ≡ true → q.touched ≡ [] → ⊥)
    → SettlesTo shape members (past_rows shape stays work touched q)
rows_settle shape members true work touched q stays is same some = elim (or_cases q.over q.syncing stays) [
  | inl over ↦ is_over over
  | inr syncs ↦ is_syncing syncs (some syncs)
]
rows_settle shape members false (w ∷ ws) touched q stays is same some =
    let neither = or_neither q.over q.syncing stays in
    in_row neither.0 neither.1 (λ none. let bad = sym is ∙ none in cc bad)
rows_settle shape members false [] [] q stays is same some =
    let end : (shape.rows == shape.rows) ≡ true = eq-eqb shape.rows shape.rows refl in
    is_over (ap (λ b. (cond b (record (moves_to shape q shape.rows) { syncing = false; over = true })
    (record (moves_to shape q shape.rows) { syncing = false; ready = shape.rows / UNIT_ROWS })).over) end)
rows_settle shape members false [] (t ∷ ts) q stays is same some =
    is_syncing (checkpoint_next shape q.row) (λ none. let bad = sym same ∙ none in cc bad)

checkpoint_some : (shape : Shape) (syncing : Bool) (touched : List ℕ) (p : Pass) → p.syncing ≡ syncing
    → p.touched ≡ touched
    → (past_checkpoint shape syncing touched p).syncing ≡ true
    → (past_checkpoint shape syncing touched p).touched ≡ [] → ⊥
checkpoint_some shape true [] p syncs touched is none = at (p.row == shape.rows) is
  where
    at : (b : Bool)
        → (cond b (record p { syncing = false; over = true })
        (record p { syncing = false; ready = p.row / UNIT_ROWS })).syncing ≡ true → ⊥
    at true is = cc is
    at false is = cc is
checkpoint_some shape true (t ∷ ts) p syncs touched is none = let bad = sym touched ∙ none in cc bad
checkpoint_some shape false touched p syncs same is none = cc (syncs, is)

pub settles : (shape : Shape) (members : List Member) (p : Pass) → SettlesTo shape members (settled shape members p)
settles shape members p =
    let q = past_checkpoint shape p.syncing p.touched p in
    rows_settle shape members (q.over || q.syncing) (row_work shape members q.row) q.touched q refl refl refl
    (checkpoint_some shape p.syncing p.touched p refl refl)

-- SETS OF SLOTS

pub first_in : (xs : List ℕ) (s : ℕ) → has s (first_only xs) ≡ true → has s xs ≡ true
first_in [] s h = absurd (cc h)
first_in (x ∷ xs) s h = elim (or_cases (x == s) false h) [
  | inl here ↦ or_first (x == s) (has s xs) here
  | inr none ↦ absurd (cc none)
]

only_one : (t s : ℕ) → has s (t ∷ []) ≡ true → t ≡ s
only_one t s h = elim (or_cases (t == s) false h) [
  | inl here ↦ eqb-true t s here
  | inr none ↦ absurd (cc none)
]

module _ (members : List Member) where
  -- what a set reads can be read, what it writes works, and it writes something
  pub record CanWork (w : Work) : Type 0 where
    pub reads : (s : ℕ) → has s w.reads ≡ true → is_usable (member_at members s) ≡ true
    pub writes : (s : ℕ) → has s w.writes ≡ true → (member_at members s).working ≡ true
    pub some : w.writes ≡ [] → ⊥

  work_can : (reads writes : List ℕ) → ((s : ℕ) → has s reads ≡ true → is_usable (member_at members s) ≡ true)
      → ((r s : ℕ) → has r reads ≡ true → has s writes ≡ true → (member_at members s).working ≡ true)
      → AllByRecursion CanWork (work_if reads writes)
  work_can [] writes can works = tt
  work_can (r ∷ rs) [] can works = tt
  work_can (r ∷ rs) (w ∷ ws) can works = (
    record {
      reads = can;
      writes = λ s is. works r s (let here : (r == r) ≡ true = eq-eqb r r refl in rw here refl) is;
      some = λ none. cc none;
    },
    tt,
  )

  pair_can : (s : ℕ) → AllByRecursion CanWork (pair_work members s)
  pair_can s =
      let pair = s ∷ (s + 1) ∷ [] in
      let source = first_only (usable_of members pair) in
      work_can source (filter (λ t. not (has t source)) (targets_in members pair))
      (λ t is. has_passes (λ e. is_usable (member_at members e)) pair t (first_in (usable_of members pair) t is))
      (λ r t there is. has_passes (λ e. (member_at members e).working) pair t
      (filter_has (λ e. not (has e source)) (targets_in members pair) t is))

  module _ (shape : Shape) where
    none_gone : (ds : List ℕ) → gone_of shape members ≡ ds → ds ≡ [] → (s : ℕ) → s < shape.members
        → (member_at members s).working ≡ true
    none_gone ds is none s lt = at (member_at members s).working refl
      where
        at : (b : Bool) → (member_at members s).working ≡ b → b ≡ true
        at true works = refl
        at false fails =
            let there = passes_has (λ e. not (member_at members e).working) 0 shape.members s (omega arith)
            (omega (arith, lt)) (ap not fails) in
            absurd (let bad = sym (ap (has s) (is ∙ none)) ∙ there in cc bad)

    -- a slot that works and isn't to be rebuilt is in sync
    in_sync_by : (s : ℕ) → s < shape.members → (member_at members s).working ≡ true
        → has s (rebuilt_of shape members) ≡ false → is_usable (member_at members s) ≡ true
    in_sync_by s lt works kept = at (member_at members s).in_sync refl
      where
        at : (b : Bool) → (member_at members s).in_sync ≡ b → is_usable (member_at members s) ≡ true
        at true synced = rw (works, synced) refl
        at false lags =
            let there = passes_has (λ e. (member_at members e).working && not (member_at members e).in_sync) 0
            shape.members s (omega arith) (omega (arith, lt)) (rw (works, lags) refl) in
            absurd (cc (there, kept))

    other_of : (t s : ℕ) → has s (others_of shape t) ≡ true → (s < shape.members) × ((t ≡ s) → ⊥)
    other_of t s is = (
      let lt = has_below 0 shape.members s (filter_has (λ e. not (e == t)) (range_with_len 0 shape.members) s is) in
          omega (arith, lt),
      λ same.
          let passes = has_passes (λ e. not (e == t)) (range_with_len 0 shape.members) s is in
          let here : (s == t) ≡ true = eq-eqb s t (sym same) in
          cc (passes, here),
    )

    parity_can : (row : ℕ) (gone rebuilt : List ℕ) → gone_of shape members ≡ gone → rebuilt_of shape members ≡ rebuilt
        → AllByRecursion CanWork (parity_work shape row gone rebuilt)
    parity_can row [] [] none lags =
        work_can (others_of shape (parity_of shape row)) (parity_of shape row ∷ [])
        (λ s is.
        let lt = (other_of (parity_of shape row) s is).0 in
        in_sync_by s lt (none_gone [] none refl s lt) (ap (has s) lags))
        (λ r s there is.
        let lt = (other_of (parity_of shape row) r there).0 in
        none_gone [] none refl s (let same = only_one (parity_of shape row) s is in omega (arith, lt, same)))
    parity_can row [] (t ∷ []) none lags =
        let listed : has t (rebuilt_of shape members) ≡ true
        = ap (has t) lags ∙ (let here : (t == t) ≡ true = eq-eqb t t refl in rw here refl) in
        work_can (others_of shape t) (t ∷ [])
        (λ s is.
        let other = other_of t s is in
        in_sync_by s other.0 (none_gone [] none refl s other.0)
        (ap (has s) lags ∙ not_true (has s (t ∷ [])) (λ same. other.1 (only_one t s same))))
        (λ r s there is.
        let works = (and_parts (member_at members t).working (not (member_at members t).in_sync)
        (has_passes (λ e. (member_at members e).working && not (member_at members e).in_sync)
        (range_with_len 0 shape.members) t listed)).0 in
        subst (λ e. (member_at members e).working ≡ true) (only_one t s is) works)
    parity_can row [] (t ∷ u ∷ more) none lags = tt
    parity_can row (g ∷ gs) rebuilt none lags = tt

    by_can : (level : Option Level) (row : ℕ) → AllByRecursion CanWork (work_by level shape row members)
    by_can None row = tt
    by_can (Some One) row = pair_can 0
    by_can (Some Five) row = parity_can row (gone_of shape members) (rebuilt_of shape members) refl refl
    by_can (Some Ten) row = all-append CanWork (pair_work members 0) (pair_work members 2) (pair_can 0) (pair_can 2)

    pub row_can : (row : ℕ) → AllByRecursion CanWork (row_work shape members row)
    row_can row = at (nat_lt row shape.rows)
      where
        at : (b : Bool) → AllByRecursion CanWork (cond b (work_by shape.level shape row members) [])
        at true = by_can shape.level row
        at false = tt

  -- WHAT A ROW ASKS NEXT

  -- a slot is read that can be, or one is written that works
  pub data Asks : Need → Type 0 where
    reads_one : (s : ℕ) → is_usable (member_at members s) ≡ true → Asks (Reads s)
    writes_one : (s : ℕ) → (member_at members s).working ≡ true → Asks (Writes s)

  pub asks : (p : Pass) (work : List Work) → AllByRecursion CanWork work → all_written p.written work ≡ false
      → Asks (need_sets p work)
  asks p [] can left = absurd (cc left)
  asks p (w ∷ ws) can left =
      at (unwritten_of p.written w) refl (unread w.reads p.got) refl left (asks p ws can.1)
    where
      at : (us : List ℕ) → unwritten_of p.written w ≡ us → (rs : List ℕ) → unread w.reads p.got ≡ rs
          → (is_empty us && all_written p.written ws) ≡ false
          → (all_written p.written ws ≡ false → Asks (need_sets p ws))
          → Asks (need_set rs us (need_sets p ws))
      at [] none rs is left more = more left
      at (u ∷ us) some [] is left more =
          writes_one u (can.0.writes u
          (filter_has (λ s. not (has s p.written)) w.writes u
          (ap (has u) some ∙ (let here : (u == u) ≡ true = eq-eqb u u refl in rw here refl))))
      at (u ∷ us) some (r ∷ rs) is left more =
          reads_one r (can.0.reads r
          (filter_has (λ s. not (has s (got_slots p.got))) w.reads r
          (ap (has r) is ∙ (let here : (r == r) ≡ true = eq-eqb r r refl in rw here refl))))

  -- a row of which nothing was written isn't all written
  pub none_written : (work : List Work) → AllByRecursion CanWork work → (work ≡ [] → ⊥)
      → all_written [] work ≡ false
  none_written [] can some = absurd (some refl)
  none_written (w ∷ ws) can some = at w.writes refl
    where
      at : (us : List ℕ) → w.writes ≡ us → (is_empty (unwritten_of [] w) && all_written [] ws) ≡ false
      at [] none = absurd (can.0.some none)
      at (u ∷ us) is = ap (λ xs. is_empty (filter (λ s. not (has s [])) xs) && all_written [] ws) is
