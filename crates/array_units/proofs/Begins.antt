-- A round that begins where something is due records the unit of each pass, and closes those that are over.
use Rattle.std.proofs.Common.{◌≡◌, ℕ, zero, suc, ◌+◌, ◌*◌, ◌<◌, ◌≤◌, nat_lt, Bool, true, false, List, [], ◌∷◌, ◌++◌, filter, map, flat_map, length, is_some, refl, ap, sym, ◌∙◌, subst, arith, append_assoc, Option, Some, None, ◌⊎◌, inl, inr, if◌then◌else◌}
use Rattle.std.specs.List.{AllByRecursion}
use Rattle.std.proofs.lemmas.Bool.Decides.{nat_tests}
use Rattle.array_model.specs.Blocks.{Laid}
use Rattle.array_model.proofs.Journals.{all-append, all_map}
use Rattle.array_machine.specs.Setting.{Facts, Edit, TakesGeneration, FailsDisk, CountsOut, MakesDirty, MakesClean, RecordsUnit, ClosesPass, StartsVolume, ActivatesDisk, RemovesDisk, NamesVolume, Setting, edited}
use Rattle.array_machine.specs.EditWords.{AreApt}
use Rattle.array_machine.specs.EditFacts.{facts_of}
use Rattle.array_machine.specs.Volumes.{Pass, Volume, volume_at}
use Rattle.array_machine.specs.Operations.{shape_of}
use Rattle.array_machine.specs.RoundEnds.{has_other}
use Rattle.array_machine.specs.Control.{Control}
use Rattle.array_machine.specs.MonitorTurns.{edit_if, owes_dirty, owes_clean, has_own_pass, pass_edits, volume_edits, due_edits, failure_edits, still_fits, first_edits}
use Rattle.array_paths.specs.InTurn.{InTurn, is_broken}
use Rattle.array_paths.specs.MayEdit.{MayEdit, IsOneOf, round_order, IsNext}
use Rattle.array_paths.specs.PassMove.{slots_of}
use Rattle.array_paths.proofs.EditPaths.{all_filter}
use Rattle.array_base.specs.Premises.{MayBeBook, Premises}
use Rattle.array_units.specs.Passes.{checkpoint_unit, HasPassed}
use Rattle.array_units.specs.EditUnits.{EditsKeepUnits}
use Rattle.array_units.specs.Counted.{IsPassed}
use Rattle.array_units.proofs.Edits.{IsLater, RecordsAlone, Keeps, list_keeps, list_records, list_closes, in_first, in_second, in_filter, in_flat}

-- A ROUND'S EDITS

later_fails : (serial : ℕ → List ℕ) (ds : List ℕ) → AllByRecursion IsLater (map (λ d. FailsDisk (serial d)) ds)
later_fails serial [] = tt
later_fails serial (d ∷ ds) = (tt, later_fails serial ds)

later_flat : (g : ℕ → List Edit) → ((u : ℕ) → AllByRecursion IsLater (g u)) → (ds : List ℕ)
    → AllByRecursion IsLater (flat_map g ds)
later_flat g each [] = tt
later_flat g each (d ∷ ds) = all-append IsLater (g d) (flat_map g ds) (each d) (later_flat g each ds)

later_if : (b : Bool) (e : Edit) → IsLater e → AllByRecursion IsLater (edit_if b e)
later_if true e later = (later, tt)
later_if false e later = tt

module _ (S : Setting) where
  later_pass : (book : Laid) (u : ℕ) (p : Option Pass) → AllByRecursion IsLater (pass_edits S book u p)
  later_pass book u None = tt
  later_pass book u (Some p) = at p.over
    where
      at : (b : Bool) → AllByRecursion IsLater
          (if b then ClosesPass u ∷ []
          else edit_if (nat_lt (S.start.words.unit book u) p.ready) (RecordsUnit u p.ready))
      at true = (tt, tt)
      at false = later_if _ (RecordsUnit u p.ready) tt

  later_volume : (book : Laid) (u : ℕ) (x : Volume) → AllByRecursion IsLater (volume_edits S book u x)
  later_volume book u x =
      let own = at (has_own_pass S book u x) in
      let dirty = edit_if (owes_dirty S book u x) (MakesDirty u) in
      let clean = edit_if (owes_clean S book u x) (MakesClean u) in
      all-append IsLater (dirty ++ clean) _
      (all-append IsLater dirty clean (later_if (owes_dirty S book u x) (MakesDirty u) tt)
      (later_if (owes_clean S book u x) (MakesClean u) tt))
      own
    where
      at : (b : Bool) → AllByRecursion IsLater (if b then pass_edits S book u x.pass else [])
      at true = later_pass book u x.pass
      at false = tt

  later_round : (c : Control) → c.round.first ≡ false → AllByRecursion IsLater (round_order S c)
  later_round c later =
      let lost = failure_edits S c.round in
      let due = filter (still_fits S (edited S (facts_of S c) c.round.book lost)) (due_edits S c) in
      all-append IsLater (lost ++ due) (first_edits S c c.round.first)
      (all-append IsLater lost due (later_fails S.start.disks.serial _)
      (all_filter IsLater _ (due_edits S c)
      (later_flat (λ u. volume_edits S c.round.book u (volume_at c.volumes u))
      (λ u. later_volume c.round.book u (volume_at c.volumes u)) _)))
      (subst (λ b. AllByRecursion IsLater (first_edits S c b)) (sym later) tt)

-- a volume that is started is one of the list
inside : (volumes : List Volume) (v : ℕ) → (volume_at volumes v).started ≡ true → v < length volumes
inside [] v is = absurd cc
inside (x ∷ xs) zero is = omega arith
inside (x ∷ xs) (suc v) is = let le = inside xs v is in omega (arith, le)

-- WHERE IT BEGINS

module _ (S : Setting) (P : Premises S) (units : EditsKeepUnits S P.edits.formed) (t : InTurn) (c : Control) (m : Laid)
    (next : IsNext S t c m) (order : next.edits ≡ round_order S c) (later : c.round.first ≡ false)
    (book : MayBeBook S P.edits.formed c.round.book) (v : ℕ) (started : (volume_at c.volumes v).started ≡ true)
    (begun : S.start.is_started v ≡ true)
    (own : has_other S (S.start.words.slots c.round.book v) (slots_of c v) ≡ false) where
  abbrev f : Facts
  f = facts_of S c

  abbrev lost : List Edit
  lost = failure_edits S c.round

  abbrev due : List Edit
  due = filter (still_fits S (edited S f c.round.book lost)) (due_edits S c)

  abbrev number : List Edit
  number = TakesGeneration (c.round.note + 1) ∷ []

  abbrev rest : List Edit
  rest = due ++ (first_edits S c c.round.first ++ number)

  abbrev bound : ℕ
  bound = (shape_of S v).rows

  abbrev is_open : Laid → Bool
  is_open x = is_some (S.start.words.pass x v)

  all_is : next.edits ++ number ≡ lost ++ rest
  all_is =
      ap (λ es. es ++ number) order ∙ append_assoc (lost ++ due) (first_edits S c c.round.first) number
      ∙ append_assoc lost due (first_edits S c c.round.first ++ number)

  block_is : m ≡ edited S f c.round.book (lost ++ rest)
  block_is = next.is ∙ ap (edited S f c.round.book) all_is

  apt : AreApt S f c.round.book (lost ++ rest)
  apt = subst (AreApt S f c.round.book) all_is next.apt

  rows_are : (S.start.words.shape c.round.book v).rows ≡ bound
  rows_are = ap (λ x. x.rows) (book.shape v)

  module _ (ready : ℕ) (alone : (e : Edit) → MayEdit S c e → RecordsAlone v ready bound e) where
    abbrev Plain : Edit → Type 0
    Plain e = IsLater e × RecordsAlone v ready bound e

    both : (es : List Edit) → AllByRecursion IsLater es → AllByRecursion (RecordsAlone v ready bound) es
        → AllByRecursion Plain es
    both [] a b = tt
    both (e ∷ es) a b = ((a.0, b.0), both es a.1 b.1)

    plain : AllByRecursion Plain (lost ++ rest)
    plain =
        let first : AllByRecursion Plain next.edits = both next.edits
        (subst (AllByRecursion IsLater) (sym order) (later_round S c later))
        (all_map (MayEdit S c) (RecordsAlone v ready bound) alone next.edits next.may) in
        subst (AllByRecursion Plain) all_is (all-append Plain next.edits number first ((tt, tt), tt))

    -- a pass that is open in the end was open behind the failures
    front_open : (b : Laid) (xs ys : List Edit) → AreApt S f b (xs ++ ys) → P.edits.formed b ≡ true
        → (S.start.words.shape b v).rows ≡ bound → AllByRecursion Plain (xs ++ ys)
        → is_open (edited S f b (xs ++ ys)) ≡ true → is_open (edited S f b xs) ≡ true
    front_open b [] ys fit form rows each there =
        (list_keeps S P.edits units f v begun ready bound b ys fit form rows each there).had
    front_open b (x ∷ xs) ys fit form rows each there =
        front_open (S.edit f b x) xs ys fit.1 (P.edits.keeps f b x fit.0 form)
        (ap (λ z. z.rows) (P.edits.shape f b x v fit.0 form) ∙ rows) each.1 there

    module _ (there : is_open m ≡ true) where
      open_in_end : is_open (edited S f c.round.book (lost ++ rest)) ≡ true
      open_in_end = ap is_open (sym block_is) ∙ there

      fits : is_open (edited S f c.round.book lost) ≡ true
      fits = front_open c.round.book lost rest apt book.form rows_are plain open_in_end

      had : is_open c.round.book ≡ true
      had =
          (list_keeps S P.edits units f v begun ready bound c.round.book (lost ++ rest) apt book.form rows_are plain
          open_in_end).had

  -- WITHOUT A PASS THAT GOES ON

  alone_none : (volume_at c.volumes v).pass ≡ None → (e : Edit) → MayEdit S c e → RecordsAlone v 0 bound e
  alone_none none (RecordsUnit w u) may = λ same.
      let there = subst (λ n. (volume_at c.volumes n).pass ≡ Some may.pass) same may.is in absurd (cc (none, there))
  alone_none none (TakesGeneration g) may = tt
  alone_none none (FailsDisk s) may = tt
  alone_none none (CountsOut s) may = tt
  alone_none none (MakesDirty w) may = tt
  alone_none none (MakesClean w) may = tt
  alone_none none (ClosesPass w) may = tt
  alone_none none (StartsVolume w) may = tt
  alone_none none (ActivatesDisk s i) may = tt
  alone_none none (RemovesDisk s) may = tt
  alone_none none (NamesVolume w name) may = tt

  -- a pass that the block has open goes on, where that of the book does
  pub opened_next : (S.start.words.pass c.round.book v ≡ None) ⊎ (is_some (volume_at c.volumes v).pass ≡ true)
      → (S.start.words.pass m v ≡ None) ⊎ (is_some (volume_at c.volumes v).pass ≡ true)
  opened_next (inr goes) = inr goes
  opened_next (inl none) = at (volume_at c.volumes v).pass refl (S.start.words.pass m v) refl
    where
      at : (p : Option Pass) → (volume_at c.volumes v).pass ≡ p → (o : Option ℕ) → S.start.words.pass m v ≡ o
          → (S.start.words.pass m v ≡ None) ⊎ (is_some (volume_at c.volumes v).pass ≡ true)
      at (Some p) is o there = inr (ap is_some is)
      at None is None there = inl there
      at None is (Some kind) there =
          let was = had 0 (alone_none is) (ap is_some there) in absurd (cc (ap is_some none, was))

  -- WITH ONE

  module _ (p : Pass) (is : (volume_at c.volumes v).pass ≡ Some p)
      (within : (p.over ≡ true) ⊎ (p.ready * 128 ≤ bound)) where
    alone : (e : Edit) → MayEdit S c e → RecordsAlone v p.ready bound e
    alone (RecordsUnit w u) may = λ same.
        let there = subst (λ n. (volume_at c.volumes n).pass ≡ Some may.pass) same may.is in
        let one : may.pass ≡ p = cc (there, is) in
        let unit : u ≡ p.ready = sym may.at ∙ ap (λ q. q.ready) one in
        let going : p.over ≡ false = sym (ap (λ q. q.over) one) ∙ may.goes_on in
        (unit, at going unit within)
      where
        at : p.over ≡ false → u ≡ p.ready → (p.over ≡ true) ⊎ (p.ready * 128 ≤ bound) → u * 128 ≤ bound
        at going unit (inl over) = absurd (cc (going, over))
        at going unit (inr le) = omega (arith, le, unit)
    alone (TakesGeneration g) may = tt
    alone (FailsDisk s) may = tt
    alone (CountsOut s) may = tt
    alone (MakesDirty w) may = tt
    alone (MakesClean w) may = tt
    alone (ClosesPass w) may = tt
    alone (StartsVolume w) may = tt
    alone (ActivatesDisk s i) may = tt
    alone (RemovesDisk s) may = tt
    alone (NamesVolume w name) may = tt

    module _ (sound : is_broken c v ≡ false) (there : is_open m ≡ true) where
      each : AllByRecursion (Plain p.ready alone) (lost ++ rest)
      each = plain p.ready alone

      ends_open : is_open (edited S f c.round.book (lost ++ rest)) ≡ true
      ends_open = open_in_end p.ready alone there

      owns : has_own_pass S c.round.book v (volume_at c.volumes v) ≡ true
      owns = let was = had p.ready alone there in rw (started, sound, was, own) refl

      -- what is due of the pass is one of the round's edits
      among : (e : Edit) → still_fits S (edited S f c.round.book lost) e ≡ true
          → IsOneOf e (pass_edits S c.round.book v (Some p)) → IsOneOf e (lost ++ rest)
      among e fit one =
          let x = volume_at c.volumes v in
          let tail : IsOneOf e (if has_own_pass S c.round.book v x then pass_edits S c.round.book v x.pass else [])
          = rw (owns, is) one in
          let here : IsOneOf e (volume_edits S c.round.book v x) =
          in_second e
          (edit_if (owes_dirty S c.round.book v x) (MakesDirty v)
          ++ edit_if (owes_clean S c.round.book v x) (MakesClean v)) _ tail in
          let owed : IsOneOf e (due_edits S c) =
          in_flat e (λ u. volume_edits S c.round.book u (volume_at c.volumes u)) 0 (length c.volumes) v (omega arith)
          (let le = inside c.volumes v started in omega (arith, le)) here in
          in_second e lost rest
          (in_first e due (first_edits S c c.round.first ++ number)
          (in_filter e (still_fits S (edited S f c.round.book lost)) (due_edits S c) owed fit))

      closed : p.over ≡ true → ⊥
      closed over =
          list_closes S P.edits units f v begun p.ready bound c.round.book (lost ++ rest) apt book.form rows_are each
          (among (ClosesPass v) (fits p.ready alone there) (rw over (inl refl))) ends_open

      -- so the unit of the block is no lower than that of the pass
      least : p.over ≡ false → p.ready * 128 ≤ bound → p.ready ≤ S.start.words.unit m v
      least going le = at (nat_lt (S.start.words.unit c.round.book v) p.ready) refl
        where
          in_end : S.start.words.unit m v ≡ S.start.words.unit (edited S f c.round.book (lost ++ rest)) v
          in_end = ap (λ x. S.start.words.unit x v) block_is

          kept : Keeps S P.edits units f v begun p.ready c.round.book (edited S f c.round.book (lost ++ rest))
          kept =
              list_keeps S P.edits units f v begun p.ready bound c.round.book (lost ++ rest) apt book.form rows_are
              each ends_open

          at : (b : Bool) → nat_lt (S.start.words.unit c.round.book v) p.ready ≡ b → p.ready ≤ S.start.words.unit m v
          at true above =
              let is_one : IsOneOf (RecordsUnit v p.ready) (pass_edits S c.round.book v (Some p)) =
              rw (going, above) (inl refl) in
              let same =
              list_records S P.edits units f v begun p.ready bound c.round.book (lost ++ rest) apt book.form rows_are
              each (among (RecordsUnit v p.ready) (fits p.ready alone there) is_one) le ends_open in
              omega (arith, same, in_end)
          at false below = elim kept.unit [
            | inl same ↦ grind (arith, nat_tests, below, same, in_end)
            | inr recorded ↦ omega (arith, recorded, in_end)
          ]

    -- a row whose checkpoint the pass has come past
    pub passed_counted : (row : ℕ) → IsPassed S c v row → is_open m ≡ true
        → checkpoint_unit row ≤ S.start.words.unit m v
    passed_counted row passed there = by_pass (passed.passed p is) p.over refl
      where
        by_pass : HasPassed bound p row → (b : Bool) → p.over ≡ b → checkpoint_unit row ≤ S.start.words.unit m v
        by_pass had true over = absurd (closed passed.sound there over)
        by_pass (inl over) false going = absurd (cc (over, going))
        by_pass (inr had) false going =
            let most = had.0 in
            let more = least passed.sound there going had.1 in
            omega (arith, most, more)
