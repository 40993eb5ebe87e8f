-- A run over a bank that held a container of the first form when the run began. Source: this project's own.
use Rattle.std.specs.Prelude.{◌≡◌, ℕ, Bool, true, List, [], false}
use Rattle.std.specs.List.{AllByRecursion, list_all}
use Rattle.units.specs.declared.disk.Sector.{Sector}
use Rattle.array_model.specs.declared.script.Op.{Op}
use Rattle.array_model.specs.Script.{Asked}
use Rattle.array_model.specs.Placement.{Shape}
use Rattle.array_model.specs.Start.{Start}
use Rattle.block_meaning.specs.Reading.{block_words}
use Rattle.rest_law.specs.Rest.{is_whole}
use Rattle.first_opening.specs.Opened.{Opened, IsOpening, newest_of, targets_of, members_of, setting_of, is_first_op}
use Rattle.first_opening.specs.Copies.{first_copy, differs}
use Rattle.stage.specs.Stages.{Given}

-- how volume 0 lies on its disks
abbrev pub shape_on : Opened → Shape
shape_on o = block_words.shape (newest_of o) 0

-- what a run of these operations takes as given
abbrev pub given_on : Opened → List Op → Given
given_on o ops = record {
  ops = ops;
  targets = targets_of o;
  members = members_of o;
  pba = (shape_on o).pba;
  size = (shape_on o).size;
  newest = newest_of o;
  sizes = o.sizes;
}

-- the run of a script, of clients below 16 and volume 0, takes as given what was found on the disks
pub record IsRunOn (o : Opened) (asked : Asked) (given : Given) : Type 0 where
  pub opens : IsOpening o
  pub found : given ≡ given_on o asked.ops
  pub asks : list_all is_first_op asked.ops ≡ true

-- the script reads and writes rows alone
abbrev pub AsksRows : List Op → Type 0
AsksRows ops = AllByRecursion (λ op. is_whole op.kind ≡ false) ops

-- how a run starts, with the content that the volumes held and the sectors that were unsure
abbrev pub start_on : Opened → (content : ℕ → ℕ → Sector) → (unsure : ℕ → ℕ → Bool) → Start
start_on o content unsure = (setting_of o (record { ops = []; asks = [] }) content unsure).start

-- the same with the content that the first disk held; unsure are the sectors of which another disk held something else
abbrev pub start_of : Opened → Start
start_of o = start_on o (first_copy o) (differs o)
