-- What the making of a container leaves of a bank. Source: this project's own.
use Rattle.std.specs.Prelude.{◌≡◌, ℕ, ◌+◌, ◌⊎◌, List, [], ◌∷◌, All, codes, length, slice_get, slice_index, Some, IfSome}
use Rattle.std.specs.Fmt.{decimal}
use Rattle.units.specs.declared.bounds.TheConstants.{METADATA_SECTORS}
use Rattle.units.specs.declared.disk.Serial.{Serial}
use Rattle.imsm_base.specs.Layout.{family_of}
use Rattle.device_log.specs.Log.{Call}
use Rattle.member_bank.specs.Faults.{Rose}
use Rattle.new_container.specs.declared.container.NewContainer.{NewContainer}
use Rattle.new_container.specs.declared.disk.NewDisk.{NewDisk}
use Rattle.new_container.specs.Created.{CanCreate, IsDisk, created_block, created_bytes}
use Rattle.new_container.specs.Fits.{total_rows}
use Rattle.image_outside.specs.declared.status.TheConstants.Status.{DONE, MEMBER_FAULT, REFUSED}
use Rattle.image_outside.specs.Told.{BankTold}
use Rattle.image_outside.specs.Shelves.{IsFresh}
use Rattle.image_outside.specs.Lines.{failed_member_line}
use Rattle.imsm_text.specs.Text.{hex_number, line, serial_text}
use Rattle.image_create.specs.Calls.{create_calls}
use Rattle.image_create.specs.Laid.{LaysDown}
use Rattle.image_create.specs.Room.{IsFirstBelow}
use Rattle.image_create.specs.Stops.{IsStopped}

-- this disk has so many sectors, which are too few
abbrev pub small_line : Serial → ℕ → List ℕ
small_line s sectors = line (codes "refused") (codes "small" ∷ serial_text s ∷ decimal sectors ∷ [])

-- a container of this family was made
abbrev pub created_line : ℕ → List ℕ
created_line family = line (codes "created") (hex_number family ∷ [])

-- the disks of a bank, by their serials and sizes
abbrev pub new_disks_of : List Serial → List ℕ → List NewDisk
new_disks_of [] sizes = []
new_disks_of (s ∷ serials) [] = []
new_disks_of (s ∷ serials) (n ∷ sizes) = record { serial = s; sectors = n } ∷ new_disks_of serials sizes

abbrev pub disks_in : BankTold → List NewDisk
disks_in bank = new_disks_of bank.serials bank.sizes

-- how many rows of each disk a container takes, how many sectors each must have, the block, and the calls that make it
abbrev pub rows_on : NewContainer → BankTold → ℕ
rows_on made bank = total_rows made (length bank.serials)

abbrev pub least_on : NewContainer → BankTold → ℕ
least_on made bank = rows_on made bank + METADATA_SECTORS

abbrev pub bytes_on : NewContainer → BankTold → List ℕ
bytes_on made bank = created_bytes made (disks_in bank)

abbrev pub calls_for : NewContainer → BankTold → List Call
calls_for made bank = create_calls bank.sizes (rows_on made bank) (bytes_on made bank)

-- The container stands on all disks, and the line names its family. The disks are those that a block is made for: each
-- has a serial and a size, and both are in their ranges. The calls that make the container are all that were made, in
-- their order, and where the bank tells what it held, all places of its disks have what they are to have.
pub record Creates (made : NewContainer) (bank : BankTold) (lines : List ℕ) : Type 0 where
  pub fits : CanCreate made (disks_in bank)
  pub sized : length bank.serials ≡ length bank.sizes
  pub typed : All IsDisk (disks_in bank)
  pub calls : IfSome bank.log (λ l. l ≡ calls_for made bank)
  pub laid : LaysDown bank.sizes (rows_on made bank) (bytes_on made bank) bank.opening (Some []) bank.log
  pub lines_are : lines ≡ created_line (family_of (created_block made (disks_in bank)))

-- No call was made, and the line says that the first disk that is too small has so many sectors.
pub record Refuses (made : NewContainer) (bank : BankTold) (lines : List ℕ) : Type 0 where
  pub fresh : IsFresh bank.serials bank
  pub d : ℕ
  pub serial : Serial
  pub first : IsFirstBelow (least_on made bank) bank.sizes d
  pub named : slice_get bank.serials d ≡ Some serial
  pub lines_are : lines ≡ small_line serial (slice_index bank.sizes d)

-- A call on a disk failed, as the disk's count of faults says, and the line names the disk. The calls before it are all
-- others that were made.
pub record StopsBy (made : NewContainer) (bank : BankTold) (lines : List ℕ) : Type 0 where
  pub fits : CanCreate made (disks_in bank)
  pub d : ℕ
  pub serial : Serial
  pub named : slice_get bank.serials d ≡ Some serial
  pub cause : Rose 0 (bank.faults d)
  pub run : List Call
  pub stopped : IsStopped (calls_for made bank) d run
  pub calls : IfSome bank.log (λ l. l ≡ run)
  pub lines_are : lines ≡ failed_member_line serial

-- what the making of a container leaves of a bank, its lines and its status
abbrev pub CreatesBy : NewContainer → BankTold → List ℕ → ℕ → Type 0
CreatesBy made bank lines status =
    ((status ≡ DONE.0) × Creates made bank lines)
    ⊎ ((status ≡ REFUSED.0) × Refuses made bank lines)
    ⊎ ((status ≡ MEMBER_FAULT.0) × StopsBy made bank lines)
