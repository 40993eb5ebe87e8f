-- What the edits of a round leave of a volume's pass and its unit.
use Rattle.std.proofs.Common.{◌≡◌, ℕ, zero, suc, ◌+◌, ◌*◌, ◌<◌, ◌≤◌, ◌==◌, Bool, true, false, cond, List, [], ◌∷◌, ◌++◌, filter, flat_map, is_some, refl, ap, sym, ◌∙◌, subst, arith, Option, Some, None, ◌⊎◌, inl, inr}
use Rattle.std.specs.Prelude.{⊤}
use Rattle.std.specs.List.{AllByRecursion, range_with_len}
use Rattle.std.proofs.lemmas.Bool.Decides.{nat_tests}
use Rattle.array_model.specs.Blocks.{Laid}
use Rattle.array_machine.specs.Setting.{Facts, Edit, TakesGeneration, FailsDisk, CountsOut, MakesDirty, MakesClean, RecordsUnit, ClosesPass, StartsVolume, ActivatesDisk, RemovesDisk, NamesVolume, Setting, edited}
use Rattle.array_machine.specs.EditWords.{IsApt, AreApt, EditsMean}
use Rattle.array_paths.specs.MayEdit.{IsOneOf}
use Rattle.array_units.specs.EditUnits.{RecordedIf, UnitAfter, EditsKeepUnits}

-- an edit of a round behind the first that finished
abbrev pub IsLater : Edit → Type 0
IsLater (CountsOut s) = ⊥
IsLater (StartsVolume w) = ⊥
IsLater (ActivatesDisk s i) = ⊥
IsLater _ = ⊤

-- it records no other unit of volume v than this one, which lies in the volume's rows
abbrev pub RecordsAlone : (v ready rows : ℕ) → Edit → Type 0
RecordsAlone v ready rows (RecordsUnit w unit) = (w ≡ v) → (unit ≡ ready) × (unit * 128 ≤ rows)
RecordsAlone v ready rows _ = ⊤

module _ (S : Setting) (mean : EditsMean S) (units : EditsKeepUnits S mean.formed) (f : Facts) (v : ℕ)
    (started : S.start.is_started v ≡ true) where
  abbrev pass : Laid → Option ℕ
  pass m = S.start.words.pass m v

  abbrev unit : Laid → ℕ
  unit m = S.start.words.unit m v

  abbrev rows : Laid → ℕ
  rows m = (S.start.words.shape m v).rows

  -- an open pass was open before, and its unit stays or is the recorded one
  pub record Keeps (ready : ℕ) (m n : Laid) : Type 0 where
    pub had : is_some (pass m) ≡ true
    pub unit : (unit n ≡ unit m) ⊎ (unit n ≡ ready)

  some_is : (o : Option ℕ) → is_some o ≡ true → (kind : ℕ) × (o ≡ Some kind)
  some_is None h = absurd cc
  some_is (Some kind) h = (kind, refl)

  one_keeps : (ready : ℕ) (m : Laid) (e : Edit) → IsApt S m e → mean.formed m ≡ true → IsLater e
      → RecordsAlone v ready (rows m) e → is_some (pass (S.edit f m e)) ≡ true → Keeps ready m (S.edit f m e)
  one_keeps ready m e apt form later alone is =
      let kind = some_is (pass (S.edit f m e)) is in
      at e later alone (units f m e v kind.0 apt form started kind.1)
    where
      at : (e : Edit) → IsLater e → RecordsAlone v ready (rows m) e
          → UnitAfter e v (rows m) (pass m) (unit m) (unit (S.edit f m e))
          → Keeps ready m (S.edit f m e)
      at (RecordsUnit w u) later alone after = record {
        had = after.0;
        unit = by_volume (w == v) refl after.1;
      }
        where
          by_volume : (b : Bool) → (w == v) ≡ b
              → RecordedIf b u (rows m) (unit m) (unit (S.edit f m (RecordsUnit w u)))
              → (unit (S.edit f m (RecordsUnit w u)) ≡ unit m) ⊎ (unit (S.edit f m (RecordsUnit w u)) ≡ ready)
          by_volume true is recorded =
              let same = alone (grind (arith, nat_tests, is)) in inr (recorded same.1 ∙ same.0)
          by_volume false is kept = inl kept
      at (ClosesPass w) later alone after = record { had = after.1.had; unit = inl after.1.unit }
      at (TakesGeneration g) later alone after = record { had = after.had; unit = inl after.unit }
      at (FailsDisk s) later alone after = record { had = after.had; unit = inl after.unit }
      at (MakesDirty w) later alone after = record { had = after.had; unit = inl after.unit }
      at (MakesClean w) later alone after = record { had = after.had; unit = inl after.unit }
      at (RemovesDisk s) later alone after = record { had = after.had; unit = inl after.unit }
      at (NamesVolume w name) later alone after = record { had = after.had; unit = inl after.unit }
      at (CountsOut s) later alone after = absurd later
      at (StartsVolume w) later alone after = absurd later
      at (ActivatesDisk s i) later alone after = absurd later

  -- ALL EDITS OF A LIST

  module _ (ready bound : ℕ) where
    abbrev Plain : Edit → Type 0
    Plain e = IsLater e × RecordsAlone v ready bound e

    same_rows : (m : Laid) (e : Edit) → IsApt S m e → mean.formed m ≡ true → rows m ≡ bound
        → rows (S.edit f m e) ≡ bound
    same_rows m e apt form is = ap (λ x. x.rows) (mean.shape f m e v apt form) ∙ is

    on_by : (m : Laid) → is_some (pass m) ≡ true → Keeps ready m m
    on_by m is = record { had = is; unit = inl refl }

    both_keep : (a b d : Laid) → Keeps ready a b → Keeps ready b d → Keeps ready a d
    both_keep a b d first second = record {
      had = first.had;
      unit = elim second.unit [
        | inl same ↦ elim first.unit [
          | inl before ↦ inl (same ∙ before)
          | inr recorded ↦ inr (same ∙ recorded)
        ]
        | inr recorded ↦ inr recorded
      ];
    }

    step_keeps : (m : Laid) (e : Edit) → IsApt S m e → mean.formed m ≡ true → rows m ≡ bound → Plain e
        → is_some (pass (S.edit f m e)) ≡ true → Keeps ready m (S.edit f m e)
    step_keeps m e apt form is plain there =
        one_keeps ready m e apt form plain.0
        (subst (λ n. RecordsAlone v ready n e) (sym is) plain.1) there

    pub list_keeps : (m : Laid) (es : List Edit) → AreApt S f m es → mean.formed m ≡ true → rows m ≡ bound
        → AllByRecursion Plain es → is_some (pass (edited S f m es)) ≡ true → Keeps ready m (edited S f m es)
    list_keeps m [] apt form is plain there = on_by m there
    list_keeps m (e ∷ es) apt form is plain there =
        let n = S.edit f m e in
        let rest = list_keeps n es apt.1 (mean.keeps f m e apt.0 form) (same_rows m e apt.0 form is) plain.1 there in
        both_keep m n (edited S f n es) (step_keeps m e apt.0 form is plain.0 rest.had) rest

    -- a unit that is recorded stands in the end
    pub list_records : (m : Laid) (es : List Edit) → AreApt S f m es → mean.formed m ≡ true → rows m ≡ bound
        → AllByRecursion Plain es → IsOneOf (RecordsUnit v ready) es → ready * 128 ≤ bound
        → is_some (pass (edited S f m es)) ≡ true → S.start.words.unit (edited S f m es) v ≡ ready
    list_records m [] apt form is plain one le there = absurd one
    list_records m (e ∷ es) apt form is plain one le there =
        let n = S.edit f m e in
        let form2 = mean.keeps f m e apt.0 form in
        let is2 = same_rows m e apt.0 form is in
        let rest = list_keeps n es apt.1 form2 is2 plain.1 there in
        elim one [
          | inl here ↦ elim rest.unit [
            | inl same ↦ same ∙ at e here rest.had
            | inr recorded ↦ recorded
          ]
          | inr later ↦ list_records n es apt.1 form2 is2 plain.1 later le there
        ]
      where
        at : (e : Edit) → RecordsUnit v ready ≡ e → is_some (pass (S.edit f m e)) ≡ true
            → unit (S.edit f m e) ≡ ready
        at e here had =
            subst (λ (x : Edit). is_some (pass (S.edit f m x)) ≡ true → IsApt S m x → unit (S.edit f m x) ≡ ready) here
            (λ had apt.
            let kind = some_is (pass (S.edit f m (RecordsUnit v ready))) had in
            let after = units f m (RecordsUnit v ready) v kind.0 apt form started kind.1 in
            let same : (v == v) ≡ true = grind (arith, nat_tests) in
            let inside : ready * 128 ≤ rows m = omega (arith, le, is) in
            subst (λ b. RecordedIf b ready (rows m) (unit m) (unit (S.edit f m (RecordsUnit v ready)))) same after.1
            inside) had (subst (λ (x : Edit). IsApt S m x) here started)

    -- a pass that is closed isn't open in the end
    pub list_closes : (m : Laid) (es : List Edit) → AreApt S f m es → mean.formed m ≡ true → rows m ≡ bound
        → AllByRecursion Plain es → IsOneOf (ClosesPass v) es → is_some (pass (edited S f m es)) ≡ true → ⊥
    list_closes m [] apt form is plain one there = absurd one
    list_closes m (e ∷ es) apt form is plain one there =
        let n = S.edit f m e in
        let form2 = mean.keeps f m e apt.0 form in
        let is2 = same_rows m e apt.0 form is in
        elim one [
          | inl here ↦ at e here (list_keeps n es apt.1 form2 is2 plain.1 there).had
          | inr later ↦ list_closes n es apt.1 form2 is2 plain.1 later there
        ]
      where
        at : (e : Edit) → ClosesPass v ≡ e → is_some (pass (S.edit f m e)) ≡ true → ⊥
        at e here had =
            subst (λ (x : Edit). is_some (pass (S.edit f m x)) ≡ true → ⊥) here
            (λ had.
            let kind = some_is (pass (S.edit f m (ClosesPass v))) had in
            let after = units f m (ClosesPass v) v kind.0 started form started kind.1 in
            let other = after.0 in
            grind (arith, nat_tests, other)) had

-- ONE OF A LIST

pub in_first : (e : Edit) (xs ys : List Edit) → IsOneOf e xs → IsOneOf e (xs ++ ys)
in_first e [] ys one = absurd one
in_first e (x ∷ xs) ys (inl here) = inl here
in_first e (x ∷ xs) ys (inr later) = inr (in_first e xs ys later)

pub in_second : (e : Edit) (xs ys : List Edit) → IsOneOf e ys → IsOneOf e (xs ++ ys)
in_second e [] ys one = one
in_second e (x ∷ xs) ys one = inr (in_second e xs ys one)

pub in_filter : (e : Edit) (test : Edit → Bool) (xs : List Edit) → IsOneOf e xs → test e ≡ true
    → IsOneOf e (filter test xs)
in_filter e test [] one is = absurd one
in_filter e test (x ∷ xs) (inl here) is =
    let passes : test x ≡ true = ap test (sym here) ∙ is in rw passes (inl here)
in_filter e test (x ∷ xs) (inr later) is = at (test x) (in_filter e test xs later is)
  where
    at : (b : Bool) → IsOneOf e (filter test xs) → IsOneOf e (cond b (x ∷ filter test xs) (filter test xs))
    at true more = inr more
    at false more = more

pub in_flat : (e : Edit) (g : ℕ → List Edit) (a n d : ℕ) → a ≤ d → d < a + n → IsOneOf e (g d)
    → IsOneOf e (flat_map g (range_with_len a n))
in_flat e g a zero d from below one = absurd (omega (arith, from, below))
in_flat e g a (suc n) d from below one = elim (from_here a d from) [
  | inl here ↦
      in_first e (g a) (flat_map g (range_with_len (a + 1) n)) (subst (λ k. IsOneOf e (g k)) (sym here) one)
  | inr later ↦
      in_second e (g a) (flat_map g (range_with_len (a + 1) n))
      (in_flat e g (a + 1) n d later (omega (arith, below)) one)
]
  where
    from_here : (a d : ℕ) → a ≤ d → (a ≡ d) ⊎ (a + 1 ≤ d)
    from_here a d le = grind (arith, le)
