-- What contracts see of a bank in memory. Source: this project's own.
use Rattle.std.specs.Prelude.{◌≡◌, ◌≢◌, ◌≤◌, ◌<◌, ℕ, ◌==◌, min, Bool, List, [], ◌∷◌, ◌++◌, length, take, replicate, find, Option, Some, None, IfSome}
use Rattle.std.specs.List.{AllByRecursion, AllPairs}
use Rattle.std.specs.Option.{option_map}
use Rattle.units.specs.declared.bounds.TheConstants.{MAX_DISKS}
use Rattle.units.specs.declared.disk.Sector.{Sector}
use Rattle.units.specs.declared.disk.Serial.{Serial}
use Rattle.device_log.specs.Log.{Call, Write}
use Rattle.member_bank.specs.declared.disks.MemDisk.{MemDisk}
use Rattle.member_bank.specs.declared.history.LogRoom.{LogRoom}
use Rattle.member_bank.specs.declared.memory.FailAt.{FailAt}
use Rattle.member_bank.specs.Faults.{next_count, faults_with}
use Rattle.member_bank.specs.Contents.{contents_of, sizes_of, overwritten_on, Shows}
use Rattle.member_bank.specs.History.{log_with}

-- a bank in memory: each disk's serial, its sectors when it was added and now, and how often it failed; the log where
-- it is told, the fail list, how many calls were made, and the room of the log
pub record MemState : Type 0 where
  pub serials : List Serial
  pub opening : List (List Sector)
  pub present : List (List Sector)
  pub faults : List ℕ
  pub log : Option (List Call)
  pub fails : List FailAt
  pub calls : ℕ
  pub room : LogRoom

-- a bank that was made just now
abbrev pub opened : List MemDisk → List FailAt → LogRoom → MemState
opened disks fails room = record {
  serials = (contents_of disks).serials;
  opening = (contents_of disks).sectors;
  present = (contents_of disks).sectors;
  faults = replicate (length disks) 0;
  log = Some [];
  fails = fails;
  calls = 0;
  room = room;
}

-- a bank with one more disk
abbrev pub with_disk : MemState → MemDisk → MemState
with_disk b disk = record b {
  serials = b.serials ++ disk.serial ∷ [];
  opening = b.opening ++ disk.sectors.items ∷ [];
  present = b.present ++ disk.sectors.items ∷ [];
  faults = b.faults ++ 0 ∷ [];
}

-- what the first entry for a call says: that it fails, and how many sectors of a write are kept
abbrev pub kept_at : List FailAt → ℕ → Option ℕ
kept_at fails call = option_map (λ (f : FailAt). f.kept) (find (λ (f : FailAt). f.call == call) fails)

-- the same of the call that comes next
abbrev pub kept_next : MemState → Option ℕ
kept_next b = kept_at b.fails (next_count b.calls)

-- of a write that fails the first sectors are stored that are kept, and of one that goes through all
abbrev pub stored_of : Option ℕ → ℕ → ℕ
stored_of None count = count
stored_of (Some kept) count = min kept count

-- a bank after a call that changes no contents
abbrev pub called : MemState → Call → MemState
called b call = record b {
  calls = next_count b.calls;
  log = log_with b.room b.log call;
  faults = faults_with b.faults call.disk call.went;
}

-- a bank after a write, of which so many sectors were stored as the fail list says
abbrev pub written : MemState → ℕ → ℕ → List Sector → Bool → MemState
written b d place sectors went =
    let stored : ℕ = stored_of (kept_next b) (length sectors) in
    let call : Call = record { disk = d; what = Write place sectors stored; went = went } in
    record (called b call) { present = overwritten_on b.present d place (take stored sectors) }

-- a log that is told names disks that are there, and leaves what is present
pub record IsLog (opening present : List (List Sector)) (log : List Call) : Type 0 where
  pub named : AllByRecursion (λ (c : Call). c.disk < length present) log
  pub shown : Shows opening log present

-- what is kept of disks, counts and log fits together
pub record IsMemory (serials : List Serial) (opening present : List (List Sector)) (faults : List ℕ)
    (log : Option (List Call)) : Type 0 where
  pub told : IfSome log (IsLog opening present)
  pub few : length present ≤ MAX_DISKS
  pub named : length serials ≡ length present
  pub counted : length faults ≡ length present
  pub sized : sizes_of opening ≡ sizes_of present
  pub distinct : AllPairs (λ a b. a ≢ b) serials
