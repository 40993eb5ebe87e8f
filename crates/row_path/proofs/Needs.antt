-- What a job is fed, by what it needs.
use Rattle.std.proofs.Common.{◌≡◌, ℕ, refl, ap, sym, arith}
use Rattle.units.specs.declared.disk.Sector.{Sector}
use Rattle.units.specs.declared.volume.Slot.{Slot}
use Rattle.array_model.specs.Script.{sector_of}
use Rattle.array_machine.specs.Clients.{Row}
use Rattle.array_machine.specs.RowJobs as machine
use Rattle.row_path.specs.declared.members.Fed.TheVariants as told
use Rattle.row_path.specs.declared.job.Need.{Need}
use Rattle.row_path.specs.declared.job.Need.TheVariants as need
use Rattle.row_path.specs.Jobs.{need_seen, fed_by}

-- the kinds of needs by number, and the slot of a need
abbrev kind_number : Need → ℕ
kind_number (need.Read s) = 0
kind_number (need.Write s) = 1
kind_number (need.Sync s) = 2
kind_number need.HeldPending = 3
kind_number need.HeldBlocked = 4
kind_number need.Done = 5
kind_number need.Broken = 6

abbrev slot_in : Need → ℕ
slot_in (need.Read s) = s.0
slot_in (need.Write s) = s.0
slot_in (need.Sync s) = s.0
slot_in need.HeldPending = 0
slot_in need.HeldBlocked = 0
slot_in need.Done = 0
slot_in need.Broken = 0

pub fed_read : (x : Sector) (n : machine.Need) (slot : Slot) (begun r : Row) → need.Read slot ≡ need_seen n
    → fed_by (told.Got x) n begun r ≡ machine.went_on (machine.Reads slot.0) x begun
fed_read x machine.NoNeed slot begun r e = absurd (omega (arith, ap kind_number e))
fed_read x (machine.Reads s) slot begun r e = ap (λ i. machine.went_on (machine.Reads i) x begun) (sym (ap slot_in e))
fed_read x (machine.Writes s) slot begun r e = absurd (omega (arith, ap kind_number e))
fed_read x (machine.Syncs s) slot begun r e = absurd (omega (arith, ap kind_number e))
fed_read x (machine.Answers answer) slot begun r e = absurd (omega (arith, ap kind_number e))

pub fed_write : (n : machine.Need) (slot : Slot) (begun r : Row) → need.Write slot ≡ need_seen n
    → fed_by told.Went n begun r ≡ machine.went_on (machine.Writes slot.0) (sector_of 0) begun
fed_write machine.NoNeed slot begun r e = absurd (omega (arith, ap kind_number e))
fed_write (machine.Reads s) slot begun r e = absurd (omega (arith, ap kind_number e))
fed_write (machine.Writes s) slot begun r e =
    ap (λ i. machine.went_on (machine.Writes i) (sector_of 0) begun) (sym (ap slot_in e))
fed_write (machine.Syncs s) slot begun r e = absurd (omega (arith, ap kind_number e))
fed_write (machine.Answers answer) slot begun r e = absurd (omega (arith, ap kind_number e))

pub fed_sync : (n : machine.Need) (slot : Slot) (begun r : Row) → need.Sync slot ≡ need_seen n
    → fed_by told.Went n begun r ≡ machine.went_on (machine.Syncs slot.0) (sector_of 0) begun
fed_sync machine.NoNeed slot begun r e = absurd (omega (arith, ap kind_number e))
fed_sync (machine.Reads s) slot begun r e = absurd (omega (arith, ap kind_number e))
fed_sync (machine.Writes s) slot begun r e = absurd (omega (arith, ap kind_number e))
fed_sync (machine.Syncs s) slot begun r e =
    ap (λ i. machine.went_on (machine.Syncs i) (sector_of 0) begun) (sym (ap slot_in e))
fed_sync (machine.Answers answer) slot begun r e = absurd (omega (arith, ap kind_number e))

pub fed_no_read : (x : Sector) (n : machine.Need) (begun r : Row)
    → ((slot : Slot) → need_seen n ≡ need.Read slot → ⊥) → fed_by (told.Got x) n begun r ≡ r
fed_no_read x machine.NoNeed begun r other = refl
fed_no_read x (machine.Reads s) begun r other = absurd (other (record { 0 = s }) refl)
fed_no_read x (machine.Writes s) begun r other = refl
fed_no_read x (machine.Syncs s) begun r other = refl
fed_no_read x (machine.Answers answer) begun r other = refl

pub fed_no_call : (n : machine.Need) (begun r : Row) → ((slot : Slot) → need_seen n ≡ need.Write slot → ⊥)
    → ((slot : Slot) → need_seen n ≡ need.Sync slot → ⊥) → fed_by told.Went n begun r ≡ r
fed_no_call machine.NoNeed begun r write sync = refl
fed_no_call (machine.Reads s) begun r write sync = refl
fed_no_call (machine.Writes s) begun r write sync = absurd (write (record { 0 = s }) refl)
fed_no_call (machine.Syncs s) begun r write sync = absurd (sync (record { 0 = s }) refl)
fed_no_call (machine.Answers answer) begun r write sync = refl
