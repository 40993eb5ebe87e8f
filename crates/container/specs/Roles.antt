-- The role of each disk that is there, by a container's newest block: the word of its table comes first, and else what
-- was seen on the disk counts. Source: this project's own, over the disk table of super-intel.c (imsm_disk).
use Rattle.std.specs.Prelude.{◌≡◌, ℕ, ◌<◌, Bool, true, false, List, length, slice_get, Some}
use Rattle.std.specs.Option.{IsSomeAnd}
use Rattle.imsm_base.specs.Fields.{Part}
use Rattle.imsm_base.specs.Layout.{Block, serial_of}
use Rattle.imsm_base.specs.Whole.{is_expected}
use Rattle.container.specs.declared.seen.Seen.{Seen}
use Rattle.container.specs.declared.seen.SeenAs.{SeenAs}
use Rattle.container.specs.declared.seen.SeenAs.TheVariants as seen_as
use Rattle.container.specs.declared.role.DiskRole.{DiskRole}
use Rattle.container.specs.declared.role.DiskRole.TheVariants.{Member, Failed, Spare, Stranger, Blank, Torn, Unread}
use Rattle.container.specs.Seen.{IsContainer, IsSpare}

-- a record has a serial, and one that is expected has it
abbrev pub Names : List ℕ → Part → Type 0
Names serial disk = serial_of disk ≡ serial

abbrev pub Expects : List ℕ → Part → Type 0
Expects serial disk = (is_expected disk ≡ true) × Names serial disk

-- the one or the other
abbrev pub NamesAs : (only_expected : Bool) → List ℕ → Part → Type 0
NamesAs true serial disk = Expects serial disk
NamesAs false serial disk = Names serial disk

-- this holds of the record of an index, and of none before it
pub record IsFirst (P : Part → Type 0) (disks : List Part) (i : ℕ) : Type 0 where
  pub here : IsSomeAnd (slice_get disks i) P
  pub before : (k : ℕ) → k < i → IsSomeAnd (slice_get disks k) P → ⊥

abbrev pub HasNone : (Part → Type 0) → List Part → Type 0
HasNone P disks = (k : ℕ) → IsSomeAnd (slice_get disks k) P → ⊥

-- the role of a disk that the table doesn't name, by what was seen on it
abbrev pub IsRoleBy : SeenAs → DiskRole → Type 0
IsRoleBy holds (Member i) = ⊥
IsRoleBy holds (Failed i) = ⊥
IsRoleBy holds Spare = IsSpare holds
IsRoleBy holds Stranger = IsContainer holds
IsRoleBy holds Blank = holds ≡ seen_as.Blank
IsRoleBy holds (Torn fault) = holds ≡ seen_as.Torn fault
IsRoleBy holds Unread = holds ≡ seen_as.Unread

-- the first record that expects the disk; where none does, the first that has its serial; where none has, what was seen
abbrev pub IsRole : Block → Seen → DiskRole → Type 0
IsRole b s (Member i) = IsFirst (Expects s.serial.0) b.disks i
IsRole b s (Failed i) = HasNone (Expects s.serial.0) b.disks × IsFirst (Names s.serial.0) b.disks i
IsRole b s role = HasNone (Names s.serial.0) b.disks × IsRoleBy s.holds role

-- one role for each disk, in their order
pub record AreRoles (b : Block) (seen : List Seen) (roles : List DiskRole) : Type 0 where
  pub count : length roles ≡ length seen
  pub each : (k : ℕ) (s : Seen) → slice_get seen k ≡ Some s → IsSomeAnd (slice_get roles k) (IsRole b s)
