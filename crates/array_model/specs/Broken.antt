-- A volume that its failures broke. Source: md.rst (a volume runs while enough of its members are in sync); that a
-- parity volume also breaks where it isn't consistent yet is this project's own.
use Rattle.std.specs.Prelude.{◌≡◌, ℕ, ◌==◌, ◌&&◌, ◌||◌, not, Bool, true, false, List, [], ◌∷◌, ◌++◌, map, take, Option, Some, None, ◌⊎◌}
use Rattle.units.specs.declared.volume.Level.TheVariants.{Five}
use Rattle.units.specs.declared.disk.DiskNo.{DiskNo}
use Rattle.units.specs.Levels.{suffices}
use Rattle.device_log.specs.Log.{Call}
use Rattle.array_model.specs.declared.journal.Entry.{Entry}
use Rattle.array_model.specs.declared.journal.Event.TheVariants.{Fault}
use Rattle.array_model.specs.Events.{has, is_end}
use Rattle.array_model.specs.Moments.{IsMoment}
use Rattle.array_model.specs.Blocks.{Laid, SlotWords}
use Rattle.array_model.specs.Rounds.{IsFinished, is_lost}
use Rattle.array_model.specs.FailureLaw.{HasInSlot, does_count_out}
use Rattle.array_model.specs.Start.{Start}

-- A slot that is in sync, on a disk without a fault. What the verdict counts out doesn't serve until a round has ended;
-- from then on the blocks say so.
abbrev pub does_work : Start → List Entry → SlotWords → Bool
does_work start journal slot =
    slot.is_in_sync && not (is_lost start.disks slot.serial journal)
    && (has is_end journal || not (does_count_out start slot.serial))

abbrev pub is_short : Start → List Entry → Laid → ℕ → Bool
is_short start journal m v =
    not (suffices (start.words.shape m v).level (map (does_work start journal) (start.words.slots m v)))

-- a pass of type 0 (init) or 5 (repair) is open
abbrev pub is_resync : Option ℕ → Bool
is_resync None = false
is_resync (Some kind) = (kind == 0) || (kind == 5)

-- a parity volume whose parity isn't known to be right: a resync is open, or no round has ended since an opening that
-- found it unfinished
abbrev pub is_loose : Start → List Entry → Laid → ℕ → Bool
is_loose start journal m v =
    is_resync (start.words.pass m v) || (not (has is_end journal) && start.words.is_unfinished start.newest v)

-- a fault of a member, entered while the parity volume was loose
pub record TornParity (start : Start) (journal : List Entry) (m : Laid) (v : ℕ) : Type 0 where
  pub front : List Entry
  pub stamp : ℕ
  pub disk : DiskNo
  pub last : journal ≡ front ++ record { stamp = stamp; event = Fault disk } ∷ []
  pub five : (start.words.shape m v).level ≡ Some Five
  pub slot : ℕ
  pub member : HasInSlot start m v slot disk.0
  pub loose : is_loose start front m v ≡ true

-- at some moment the members that work didn't suffice; it stays so
pub record IsBroken (start : Start) (log : List Call) (journal : List Entry) (v : ℕ) : Type 0 where
  pub calls : ℕ
  pub front : List Entry
  pub rest : List Entry
  pub block : Laid
  pub moment : IsMoment log journal calls front rest
  pub finished : IsFinished start (take calls log) front block
  pub cause : (is_short start front block v ≡ true) ⊎ TornParity start front block v
