-- What contracts see of a bank in memory on which no call fails. Source: this project's own.
use Rattle.std.specs.Prelude.{ℕ, true, List, [], ◌∷◌, ◌++◌, length, Option, Some}
use Rattle.units.specs.declared.disk.Sector.{Sector}
use Rattle.units.specs.declared.disk.Serial.{Serial}
use Rattle.device_log.specs.Log.{Call, Write}
use Rattle.member_bank.specs.declared.disks.MemDisk.{MemDisk}
use Rattle.member_bank.specs.declared.history.LogRoom.{LogRoom}
use Rattle.member_bank.specs.Contents.{contents_of, overwritten_on}
use Rattle.member_bank.specs.History.{log_with}
use Rattle.member_bank.specs.Memory.{MemState}

-- each disk's serial, its sectors when it was added and now; the log where it is told, and its room
pub record FreeState : Type 0 where
  pub serials : List Serial
  pub opening : List (List Sector)
  pub present : List (List Sector)
  pub log : Option (List Call)
  pub room : LogRoom

-- a bank in memory without its fail list and what that list needs
abbrev pub free_of : MemState → FreeState
free_of b = record { serials = b.serials; opening = b.opening; present = b.present; log = b.log; room = b.room }

-- a bank that was made just now
abbrev pub free_opened : List MemDisk → LogRoom → FreeState
free_opened disks room = record {
  serials = (contents_of disks).serials;
  opening = (contents_of disks).sectors;
  present = (contents_of disks).sectors;
  log = Some [];
  room = room;
}

-- a bank with one more disk
abbrev pub free_with_disk : FreeState → MemDisk → FreeState
free_with_disk b disk = record b {
  serials = b.serials ++ disk.serial ∷ [];
  opening = b.opening ++ disk.sectors.items ∷ [];
  present = b.present ++ disk.sectors.items ∷ [];
}

-- a bank after a call that changes no contents
abbrev pub free_called : FreeState → Call → FreeState
free_called b call = record b { log = log_with b.room b.log call }

-- a bank after a write, all of which is stored
abbrev pub free_written : FreeState → ℕ → ℕ → List Sector → FreeState
free_written b d place sectors =
    let call : Call = record { disk = d; what = Write place sectors (length sectors); went = true } in
    record (free_called b call) { present = overwritten_on b.present d place sectors }
