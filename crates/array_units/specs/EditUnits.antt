-- What edits leave of the pass that a volume has open and of its unit, and how the rows of volumes lie to each other.
-- Source: imsm_process_update and curr_migr_unit of super-intel.c, and the volumes of one matrix, which share its
-- disks; what an edit leaves alone is this project's own.
use Rattle.std.specs.Prelude.{⊤, ◌≡◌, ℕ, ◌+◌, ◌*◌, ◌<◌, ◌≤◌, ◌==◌, Bool, true, false, is_some, Option, Some}
use Rattle.units.specs.declared.bounds.TheConstants.{UNIT_ROWS}
use Rattle.array_model.specs.Blocks.{Laid}
use Rattle.array_machine.specs.Setting.{Facts, Edit, TakesGeneration, FailsDisk, CountsOut, MakesDirty, MakesClean, RecordsUnit, ClosesPass, StartsVolume, ActivatesDisk, RemovesDisk, NamesVolume, Setting}
use Rattle.array_machine.specs.EditWords.{IsApt}
use Rattle.array_machine.specs.Operations.{shape_of}

-- A pass was open and has the unit that it had.
pub record KeepsPass (was : Option ℕ) (old new : ℕ) : Type 0 where
  pub had : is_some was ≡ true
  pub unit : new ≡ old

-- a unit is recorded of the volume itself, or of another
abbrev pub RecordedIf : Bool → (unit rows old new : ℕ) → Type 0
RecordedIf true unit rows old new = unit * UNIT_ROWS ≤ rows → new ≡ unit
RecordedIf false unit rows old new = new ≡ old

-- Of volume v with so many rows, where an edit leaves its pass open: by the pass and the unit before it, and the unit
-- behind it. Of edits that open passes, or begin them anew, nothing is said.
abbrev pub UnitAfter : Edit → (v rows : ℕ) → (was : Option ℕ) → (old new : ℕ) → Type 0
UnitAfter (RecordsUnit w unit) v rows was old new = (is_some was ≡ true) × RecordedIf (w == v) unit rows old new
UnitAfter (ClosesPass w) v rows was old new = ((w == v) ≡ false) × KeepsPass was old new
UnitAfter (CountsOut s) v rows was old new = ⊤
UnitAfter (StartsVolume w) v rows was old new = ⊤
UnitAfter (ActivatesDisk s i) v rows was old new = ⊤
UnitAfter (TakesGeneration g) v rows was old new = KeepsPass was old new
UnitAfter (FailsDisk s) v rows was old new = KeepsPass was old new
UnitAfter (MakesDirty w) v rows was old new = KeepsPass was old new
UnitAfter (MakesClean w) v rows was old new = KeepsPass was old new
UnitAfter (RemovesDisk s) v rows was old new = KeepsPass was old new
UnitAfter (NamesVolume w name) v rows was old new = KeepsPass was old new

-- so it is of each edit that fits, on blocks of a form that edits keep
abbrev pub EditsKeepUnits : (S : Setting) → (formed : Laid → Bool) → Type 0
EditsKeepUnits S formed =
    (f : Facts) (m : Laid) (e : Edit) (v kind : ℕ) → IsApt S m e → formed m ≡ true → S.start.is_started v ≡ true
    → S.start.words.pass (S.edit f m e) v ≡ Some kind
    → UnitAfter e v (S.start.words.shape m v).rows (S.start.words.pass m v) (S.start.words.unit m v)
    (S.start.words.unit (S.edit f m e) v)

-- no sector of a disk is in a row of two started volumes
abbrev pub RowsLieApart : Setting → Type 0
RowsLieApart S =
    (v w r s : ℕ) → S.start.is_started v ≡ true → S.start.is_started w ≡ true → (v ≡ w → ⊥)
    → r < (shape_of S v).rows → s < (shape_of S w).rows
    → (shape_of S v).pba + r ≡ (shape_of S w).pba + s → ⊥
