-- A log in room that was taken at the start. Source: this project's own.
use Rattle.std.specs.Prelude.{ℕ, ◌+◌, Bool, ◌&&◌, nat_lt, nat_le, if◌then◌else◌, List, [], ◌∷◌, ◌++◌, length, take, drop, sum_by, Option, Some, None}
use Rattle.units.specs.declared.disk.Sector.{Sector}
use Rattle.device_log.specs.Log.{Call, What, Read, Write, Sync}
use Rattle.member_bank.specs.declared.history.LogRoom.{LogRoom}
use Rattle.member_bank.specs.declared.history.Note.{Note}
use Rattle.member_bank.specs.declared.history.NotedCall.{NotedCall}
use Rattle.member_bank.specs.declared.history.NotedCall.TheVariants as asked

-- the log, where it is told, and the room for it
pub record LogState : Type 0 where
  pub log : Option (List Call)
  pub room : LogRoom

-- how many sectors were asked to be written
abbrev pub sectors_asked : What → ℕ
sectors_asked (Read place) = 0
sectors_asked (Write place sectors stored) = length sectors
sectors_asked Sync = 0

abbrev pub sectors_in : List Call → ℕ
sectors_in log = sum_by (λ (c : Call). sectors_asked c.what) log

-- there is room for one more entry, and for the sectors of all writes together
abbrev pub has_room : LogRoom → List Call → Call → Bool
has_room room log call =
    nat_lt (length log) room.calls && nat_le (sectors_in log + sectors_asked call.what) room.sectors

-- a log that is told has the call at its end, where there is room for it; past the room nothing is told any more
abbrev pub log_with : LogRoom → Option (List Call) → Call → Option (List Call)
log_with room None call = None
log_with room (Some log) call = if has_room room log call then Some (log ++ call ∷ []) else None

-- the call that a note spells, with the sectors of its write
abbrev pub what_of : NotedCall → List Sector → What
what_of (asked.Read place) sectors = Read place
what_of (asked.Write place count stored) sectors = Write place sectors stored
what_of asked.Sync sectors = Sync

abbrev pub call_of : Note → List Sector → Call
call_of n sectors = record { disk = n.disk; what = what_of n.asked sectors; went = n.went }

abbrev pub count_of : NotedCall → ℕ
count_of (asked.Read place) = 0
count_of (asked.Write place count stored) = count
count_of asked.Sync = 0

-- the log that notes spell, with the sectors of all their writes in one list
abbrev pub log_of : List Note → List Sector → List Call
log_of [] sectors = []
log_of (n ∷ ns) sectors =
    call_of n (take (count_of n.asked) sectors) ∷ log_of ns (drop (count_of n.asked) sectors)

abbrev pub count_all : List Note → ℕ
count_all ns = sum_by (λ (n : Note). count_of n.asked) ns
