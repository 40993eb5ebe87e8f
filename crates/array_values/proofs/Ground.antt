-- Which rows a write touches: a place of a disk is one row of one slot of one volume.
use Rattle.std.proofs.Common.{◌≡◌, ℕ, ◌+◌, ◌<◌, ◌==◌, Bool, true, false, List, [], ◌∷◌, refl, ap, sym, ◌∙◌, subst, arith, Some, ◌⊎◌, inl, inr}
use Rattle.std.proofs.lemmas.Bool.Decides.{nat_tests}
use Rattle.units.specs.declared.disk.Sector.{Sector}
use Rattle.device_log.specs.Log.{Call, Write}
use Rattle.array_disks.specs.Calls.{call_on}
use Rattle.array_machine.specs.Setting.{Setting}
use Rattle.array_machine.specs.Numbers.{has}
use Rattle.array_machine.specs.Operations.{volume_of, shape_of, the_place, place_on}
use Rattle.array_machine.specs.Control.{Control}
use Rattle.array_machine.specs.Machine.{log_after}
use Rattle.array_paths.specs.InTurn.{is_broken}
use Rattle.array_paths.specs.Ready.{RowsInside}
use Rattle.array_values.specs.Copies.{row_at, IsCopied}
use Rattle.array_values.proofs.Cells.{write_spares, spared, other_disk}
use Rattle.array_values.proofs.Rows.{disk_of, stood}
use Rattle.array_values.proofs.Fails.{AreStarted, HaveFewSlots}

module _ (S : Setting) where
  -- no two volumes that were started share a place
  abbrev pub AreApart : Type 0
  AreApart = (v w row other : ℕ) → S.start.is_started v ≡ true → S.start.is_started w ≡ true
      → row < (shape_of S v).rows → other < (shape_of S w).rows
      → (shape_of S v).pba + row ≡ (shape_of S w).pba + other → v ≡ w

  -- what is known of the volumes at each moment: which were started, that only those have slots, few of them, and that a
  -- working disk is in one slot of a volume
  pub record Ground (c : Control) : Type 0 where
    pub started : AreStarted S c
    pub few : HaveFewSlots S c
    pub begun : (v s d : ℕ) → disk_of c v s ≡ Some d → S.start.is_started v ≡ true
    pub distinct : (v s t d : ℕ) → is_broken c v ≡ false → disk_of c v s ≡ Some d → disk_of c v t ≡ Some d
        → has d c.round.faults ≡ false → s ≡ t

  -- operation j's row in slot t is the one that is touched
  pub record Touches (v row s d j t e : ℕ) : Type 0 where
    pub volume : v ≡ volume_of S j
    pub row_is : row ≡ row_at S j
    pub slot : s ≡ t
    pub disk : d ≡ e

  module _ (inside : RowsInside S) (apart : AreApart) (c : Control) (g : Ground c) (v row s d : ℕ)
      (below : row < (shape_of S v).rows) (has_it : disk_of c v s ≡ Some d) where
    -- a write of row `row` in slot s of volume v
    pub touched_or_not : (log : List Call) (place : ℕ) (x : Sector) (stored : ℕ) (went : Bool)
        → place ≡ (shape_of S v).pba + row
        → (j t e : ℕ) → IsCopied S j → is_broken c (volume_of S j) ≡ false → disk_of c (volume_of S j) t ≡ Some e
        → has e c.round.faults ≡ false
        → (stood S (log_after log (Some (call_on d (Write place (x ∷ []) stored) went))) j e ≡ stood S log j e)
        ⊎ Touches v row s d j t e
    touched_or_not log place x stored went at_row j t e copied sound is works =
        at (d == e) refl (place == place_on S j) refl
      where
        at : (a : Bool) → (d == e) ≡ a → (b : Bool) → (place == place_on S j) ≡ b
            → (stood S (log_after log (Some (call_on d (Write place (x ∷ []) stored) went))) j e ≡ stood S log j e)
            ⊎ Touches v row s d j t e
        at false other b eb = inl (other_disk S log d (Write place (x ∷ []) stored) went e (place_on S j) other)
        at true same false other =
            inl (spared S log d (Write place (x ∷ []) stored) went e (place_on S j)
            (λ q. write_spares (place_on S j) place x stored went other))
        at true same true here =
            let disk : d ≡ e = grind (arith, nat_tests, same) in
            let place_is : place ≡ place_on S j = grind (arith, nat_tests, here) in
            let spot : (shape_of S v).pba + row ≡ (shape_of S (volume_of S j)).pba + row_at S j = sym at_row ∙ place_is in
            let lies_below = inside j (the_place S j) copied.placed in
            let volume = apart v (volume_of S j) row (row_at S j) (g.begun v s d has_it)
            (g.begun (volume_of S j) t e is) below lies_below spot in
            let first : (shape_of S v).pba ≡ (shape_of S (volume_of S j)).pba = ap (λ w. (shape_of S w).pba) volume in
            let mine : disk_of c (volume_of S j) s ≡ Some e =
            subst (λ w. disk_of c w s ≡ Some e) volume (has_it ∙ ap (λ n. Some n) disk) in
            inr (record {
              volume = volume;
              row_is = omega (arith, spot, first);
              slot = g.distinct (volume_of S j) s t e sound mine is works;
              disk = disk;
            })
