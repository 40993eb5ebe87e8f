-- What is known of a volume while a run goes on: its array state, its slots, its pass, and whether it is broken.
-- Source: the kernel's md.rst (array_state, dev-*/state, sync_action).
use Rattle.std.specs.Prelude.{ℕ, ◌==◌, ◌&&◌, not, Bool, true, false, List, [], map, Option, Some, None, slice_index_or}
use Rattle.std.specs.List.{list_any}
use Rattle.std.specs.Option.{option_map_or}
use Rattle.units.specs.declared.disk.Sector.{Sector}
use Rattle.units.specs.declared.volume.Level.{Level}
use Rattle.units.specs.Levels.{suffices}
use Rattle.array_machine.specs.Numbers.{has}
use Rattle.array_machine.specs.States.{State, IsReadonly}

-- SLOTS

-- the disk that a slot has, and whether the slot is in sync
pub record Slot : Type 0 where
  pub disk : Option ℕ
  pub in_sync : Bool

abbrev pub no_slot : Slot
no_slot = record { disk = None; in_sync = false }

abbrev pub slot_at : List Slot → ℕ → Slot
slot_at slots s = slice_index_or slots s no_slot

abbrev pub disk_in : List Slot → ℕ → Option ℕ
disk_in slots s = (slot_at slots s).disk

abbrev pub same_disk : Option ℕ → Option ℕ → Bool
same_disk None None = true
same_disk None (Some e) = false
same_disk (Some d) None = false
same_disk (Some d) (Some e) = d == e

abbrev pub has_disk : ℕ → List Slot → Bool
has_disk d slots = list_any (λ s. same_disk (Some d) s.disk) slots

abbrev pub disks_of : List Slot → List (Option ℕ)
disks_of slots = map (λ s. s.disk) slots

-- MEMBERS

-- a slot as jobs and passes see it: its disk is there without a fault, it is in sync, and its disk is blocked
pub record Member : Type 0 where
  pub working : Bool
  pub in_sync : Bool
  pub blocked : Bool

abbrev pub no_member : Member
no_member = record { working = false; in_sync = false; blocked = false }

abbrev pub member_at : List Member → ℕ → Member
member_at members s = slice_index_or members s no_member

abbrev pub is_usable : Member → Bool
is_usable m = m.working && m.in_sync

-- by the disks that failed and those that are blocked
abbrev pub member_of : List ℕ → List ℕ → Slot → Member
member_of faults blocked s = record {
  working = option_map_or (λ d. not (has d faults)) s.disk false;
  in_sync = s.in_sync;
  blocked = option_map_or (λ d. has d blocked) s.disk false;
}

abbrev pub members_of : List ℕ → List ℕ → List Slot → List Member
members_of faults blocked slots = map (member_of faults blocked) slots

-- enough slots are usable
abbrev pub can_run : Option Level → List Member → Bool
can_run level members = suffices level (map is_usable members)

-- PASSES

-- a sector that was read in a slot
pub record Got : Type 0 where
  pub slot : ℕ
  pub sector : Sector

-- A pass over the rows of a volume: the row that it is at, what it read and wrote there (by slot), the slots written
-- since the last syncs, whether the syncs at this row are due, the unit that may be recorded, whether the pass is over,
-- and the row whose lock it holds.
pub record Pass : Type 0 where
  pub row : ℕ
  pub got : List Got
  pub written : List ℕ
  pub touched : List ℕ
  pub syncing : Bool
  pub ready : ℕ
  pub over : Bool
  pub lock : Option ℕ

-- VOLUMES

pub record Volume : Type 0 where
  pub started : Bool
  pub state : State
  pub broken : Bool
  pub slots : List Slot
  pub pass : Option Pass

abbrev pub no_volume : Volume
no_volume = record { started = false; state = IsReadonly; broken = false; slots = []; pass = None }

abbrev pub volume_at : List Volume → ℕ → Volume
volume_at volumes v = slice_index_or volumes v no_volume

-- the disk that may be read in a slot: of a volume that is started, in sync
abbrev pub source_if : Bool → Option ℕ → Option ℕ
source_if true disk = disk
source_if false disk = None

abbrev pub source_in : Volume → ℕ → Option ℕ
source_in x s = source_if (x.started && (slot_at x.slots s).in_sync) (disk_in x.slots s)
