-- Where a pass stands: the unit that it may have recorded is no further than its row, and has come to the checkpoint
-- at or before it. Source: this project's own, over curr_migr_unit of super-intel.c and resync_start of the kernel's
-- md.rst.
use Rattle.std.specs.Prelude.{◌≡◌, ℕ, ◌*◌, ◌/◌, ◌≤◌, true, false, ◌⊎◌}
use Rattle.units.specs.declared.bounds.TheConstants.{UNIT_ROWS}
use Rattle.array_machine.specs.Volumes.{Pass}

-- the unit of the checkpoint at or before a row: checkpoints are 1,024 rows apart, eight units
abbrev pub checkpoint_unit : ℕ → ℕ
checkpoint_unit row = 8 * (row / 1024)

-- A pass over so many rows that isn't over: the unit that may be recorded lies before its row, unless it is at the
-- end; in a row, the unit is no lower than that of the checkpoint at or before it; and syncs are made before a row of
-- the volume or at its end.
pub record StandsAt (rows : ℕ) (p : Pass) : Type 0 where
  pub below : p.over ≡ false → (p.ready * UNIT_ROWS ≤ p.row) ⊎ (p.row ≡ rows)
  pub reached : p.over ≡ false → p.syncing ≡ false → checkpoint_unit p.row ≤ p.ready
  pub inside : p.syncing ≡ true → p.row ≤ rows

-- A pass goes on to another: its unit doesn't fall, and stays inside the rows.
pub record Rises (rows : ℕ) (p q : Pass) : Type 0 where
  pub going : p.over ≡ false
  pub ready : p.ready ≤ q.ready
  pub inside : p.ready * UNIT_ROWS ≤ rows → q.ready * UNIT_ROWS ≤ rows

-- it is over behind it, or it goes on
abbrev pub ComesTo : (rows : ℕ) → (p q : Pass) → Type 0
ComesTo rows p q = (q.over ≡ true) ⊎ Rises rows p q

-- the pass has come past a row's checkpoint: it is over, or may record its unit
abbrev pub HasPassed : (rows : ℕ) → Pass → (row : ℕ) → Type 0
HasPassed rows p row =
    (p.over ≡ true) ⊎ ((checkpoint_unit row ≤ p.ready) × (p.ready * UNIT_ROWS ≤ rows))
