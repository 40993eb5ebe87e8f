-- Small traces for the examples of the laws: two disks, one volume of two copies, blocks of three bytes. Source: this
-- project's own.
use Rattle.std.specs.Prelude.{ℕ, zero, suc, ◌==◌, ◌&&◌, ◌||◌, not, Bool, true, false, List, [], ◌∷◌, ◌++◌, length, take, slice_index, slice_set, Some, None, if◌then◌else◌}
use Rattle.std.specs.Str.{bytes_eq}
use Rattle.units.specs.declared.disk.Sector.{Sector}
use Rattle.units.specs.declared.volume.VolNo.{VolNo}
use Rattle.units.specs.declared.volume.Level.TheVariants.{One}
use Rattle.device_log.specs.Log.{Call, Read, Write, Sync}
use Rattle.array_model.specs.declared.script.Op.{Op}
use Rattle.array_model.specs.declared.script.OpKind.TheVariants.{Write as OpWrite, Read as OpRead}
use Rattle.array_model.specs.declared.journal.Entry.{Entry}
use Rattle.array_model.specs.declared.journal.Event.{Event}
use Rattle.array_model.specs.declared.journal.Event.TheVariants.{Begin, End, Ready, Submit, Pending, Active, Ack, Idle, Clean, Fault, Unblock}
use Rattle.array_model.specs.declared.journal.Answer.TheVariants.{Done, Value, Past}
use Rattle.array_model.specs.Script.{Asked, sector_of}
use Rattle.array_model.specs.Blocks.{Words, Laid, SlotWords}
use Rattle.array_model.specs.Start.{Start, Disks}

-- A block's bytes are its generation, whether it is dirty, and the disk that it calls failed: 65, 66 or none.
abbrev pub bytes_at : ℕ → Laid → ℕ
bytes_at k m = slice_index m.anchor.0 k

abbrev pub is_either : List ℕ → Bool
is_either serial = bytes_eq serial (65 ∷ []) || bytes_eq serial (66 ∷ [])

abbrev pub small_expects : Laid → List ℕ → Bool
small_expects m serial = is_either serial && not (bytes_eq serial (bytes_at 2 m ∷ []))

abbrev pub small_slot : Laid → ℕ → List ℕ → SlotWords
small_slot m index serial = record {
  index = index;
  serial = serial;
  is_expected = small_expects m serial;
  is_in_sync = small_expects m serial;
}

abbrev pub small_slots : Laid → ℕ → List SlotWords
small_slots m v = if v == 0 then small_slot m 0 (65 ∷ []) ∷ small_slot m 1 (66 ∷ []) ∷ [] else []

abbrev pub small_words : Words
small_words = record {
  extra = λ s. 0;
  generation = λ s. slice_index s.0 0;
  is_whole = λ serial n m. length m.anchor.0 == 3;
  volumes = λ m. 1;
  family = λ m. 7;
  has_record = λ m serial. is_either serial;
  expects = small_expects;
  has_room = λ m. true;
  is_supported = λ m v. v == 0;
  is_dirty = λ m v. bytes_at 1 m == 1;
  is_unfinished = λ m v. bytes_at 1 m == 1;
  can_run = λ m v. v == 0;
  pass = λ m v. None;
  unit = λ m v. 0;
  pass_start = λ m v. 0;
  shape = λ m v. record { level = Some One; members = 2; size = 1024; strip = 0; pba = 0; rows = 1024 };
  slots = small_slots;
}

abbrev pub block : (generation dirty failed : ℕ) → Sector
block generation dirty failed = record { 0 = generation ∷ dirty ∷ failed ∷ [] }

abbrev pub small_serial : ℕ → List ℕ
small_serial zero = 65 ∷ []
small_serial (suc zero) = 66 ∷ []
small_serial (suc (suc d)) = []

abbrev pub zeros : Sector
zeros = record { 0 = 0 ∷ [] }

-- disks of 4,096 sectors, with generation 1 in their anchors
abbrev pub small_disks : Disks
small_disks = record {
  count = 2;
  serial = small_serial;
  sectors = λ d. 4096;
  opening = λ d p. if p == 4094 then block 1 0 0 else zeros;
}

abbrev pub small_start : Start
small_start = record {
  words = small_words;
  disks = small_disks;
  newest = record { anchor = block 1 0 0; extended = [] };
  is_started = λ v. v == 0;
  pass_from = λ v. None;
  is_spare = λ d. false;
  counts_out = [];
  content = λ v s. zeros;
  unsure = λ v s. false;
}

-- the edit of a round: another generation, and dirty or not
abbrev pub small_renew : Laid → ℕ → Bool → Laid
small_renew m g y = record { anchor = block g (if y then 1 else 0) (bytes_at 2 m); extended = [] }

-- THE WORKED REPLAY: one write and one read

abbrev pub the_volume : VolNo
the_volume = record { 0 = 0 }

abbrev pub the_value : ℕ
the_value = 0x1122334455667788

abbrev pub write_and_read : List Op
write_and_read =
    record { client = 0; kind = OpWrite the_volume 5 the_value }
    ∷ record { client = 0; kind = OpRead the_volume 5 } ∷ []

abbrev pub the_script : Asked
the_script = record { ops = write_and_read; asks = [] }

abbrev pub puts : ℕ → ℕ → Sector → Call
puts d place s = record { disk = d; what = Write place (s ∷ []) 1; went = true }

abbrev pub syncs : ℕ → Call
syncs d = record { disk = d; what = Sync; went = true }

abbrev pub gets : ℕ → ℕ → Call
gets d place = record { disk = d; what = Read place; went = true }

abbrev pub worked_log : List Call
worked_log =
    puts 0 4094 (block 2 0 0) ∷ syncs 0 ∷ puts 1 4094 (block 2 0 0) ∷ syncs 1
    ∷ puts 0 4094 (block 3 1 0) ∷ syncs 0 ∷ puts 1 4094 (block 3 1 0) ∷ syncs 1
    ∷ puts 0 5 (sector_of the_value) ∷ puts 1 5 (sector_of the_value) ∷ syncs 0 ∷ syncs 1
    ∷ gets 0 5
    ∷ puts 0 4094 (block 4 0 0) ∷ syncs 0 ∷ puts 1 4094 (block 4 0 0) ∷ syncs 1 ∷ []

abbrev pub at : ℕ → Event → Entry
at stamp event = record { stamp = stamp; event = event }

abbrev pub worked_journal : List Entry
worked_journal =
    at 0 (Begin 2) ∷ at 4 (End 2) ∷ at 4 (Ready the_volume) ∷ at 4 (Submit 0) ∷ at 4 (Pending the_volume)
    ∷ at 4 (Begin 3) ∷ at 8 (End 3) ∷ at 8 (Active the_volume) ∷ at 12 (Ack 0 Done)
    ∷ at 12 (Submit 1) ∷ at 13 (Ack 1 (Value (sector_of the_value))) ∷ at 13 (Idle the_volume)
    ∷ at 13 (Clean the_volume)
    ∷ at 13 (Begin 4) ∷ at 17 (End 4) ∷ []

-- `active` stands after the first member's sync
abbrev pub early_journal : List Entry
early_journal =
    at 0 (Begin 2) ∷ at 4 (End 2) ∷ at 4 (Ready the_volume) ∷ at 4 (Submit 0) ∷ at 4 (Pending the_volume)
    ∷ at 4 (Begin 3) ∷ at 6 (Active the_volume) ∷ at 8 (End 3) ∷ at 12 (Ack 0 Done)
    ∷ at 12 (Submit 1) ∷ at 13 (Ack 1 (Value (sector_of the_value))) ∷ at 13 (Idle the_volume)
    ∷ at 13 (Clean the_volume)
    ∷ at 13 (Begin 4) ∷ at 17 (End 4) ∷ []

-- the read is answered with what stood there at opening
abbrev pub stale_journal : List Entry
stale_journal =
    at 0 (Begin 2) ∷ at 4 (End 2) ∷ at 4 (Ready the_volume) ∷ at 4 (Submit 0) ∷ at 4 (Pending the_volume)
    ∷ at 4 (Begin 3) ∷ at 8 (End 3) ∷ at 8 (Active the_volume) ∷ at 12 (Ack 0 Done)
    ∷ at 12 (Submit 1) ∷ at 13 (Ack 1 (Value zeros)) ∷ []

-- a stamp falls
abbrev pub falling_journal : List Entry
falling_journal = at 0 (Begin 2) ∷ at 4 (End 2) ∷ at 3 (Ready the_volume) ∷ []

-- A FAILURE: the write to the second disk fails; its failure is recorded before the write is acknowledged

abbrev pub fails : Call → Call
fails call = record call { went = false }

abbrev pub failing_log : List Call
failing_log =
    puts 0 4094 (block 2 0 0) ∷ syncs 0 ∷ puts 1 4094 (block 2 0 0) ∷ syncs 1
    ∷ puts 0 4094 (block 3 1 0) ∷ syncs 0 ∷ puts 1 4094 (block 3 1 0) ∷ syncs 1
    ∷ puts 0 5 (sector_of the_value) ∷ fails (puts 1 5 (sector_of the_value)) ∷ syncs 0
    ∷ puts 0 4094 (block 4 1 66) ∷ syncs 0 ∷ []

abbrev pub failing_journal : List Entry
failing_journal =
    at 0 (Begin 2) ∷ at 4 (End 2) ∷ at 4 (Ready the_volume) ∷ at 4 (Submit 0) ∷ at 4 (Pending the_volume)
    ∷ at 4 (Begin 3) ∷ at 8 (End 3) ∷ at 8 (Active the_volume) ∷ at 10 (Fault (record { 0 = 1 }))
    ∷ at 11 (Begin 4) ∷ at 13 (End 4) ∷ at 13 (Unblock (record { 0 = 1 })) ∷ at 13 (Ack 0 Done) ∷ []

-- the same with no word of the failed call
abbrev pub hidden_journal : List Entry
hidden_journal =
    at 0 (Begin 2) ∷ at 4 (End 2) ∷ at 4 (Ready the_volume) ∷ at 4 (Submit 0) ∷ at 4 (Pending the_volume)
    ∷ at 4 (Begin 3) ∷ at 8 (End 3) ∷ at 8 (Active the_volume) ∷ at 11 (Ack 0 Done) ∷ []

-- the write is acknowledged when the round that records the failure begins, before it has ended
abbrev pub hasty_journal : List Entry
hasty_journal =
    at 0 (Begin 2) ∷ at 4 (End 2) ∷ at 4 (Ready the_volume) ∷ at 4 (Submit 0) ∷ at 4 (Pending the_volume)
    ∷ at 4 (Begin 3) ∷ at 8 (End 3) ∷ at 8 (Active the_volume) ∷ at 10 (Fault (record { 0 = 1 }))
    ∷ at 11 (Begin 4) ∷ at 11 (Ack 0 Done) ∷ at 13 (End 4) ∷ []

-- ROWS: the worked log with a call that is another, and with one more

-- the second member isn't written: the first is, twice
abbrev pub lone_log : List Call
lone_log = slice_set worked_log 9 (puts 0 5 (sector_of the_value))

-- its last sync fails
abbrev pub unsynced_log : List Call
unsynced_log = slice_set worked_log 11 (fails (syncs 1))

-- no row is read
abbrev pub unread_log : List Call
unread_log = slice_set worked_log 12 (syncs 0)

-- behind the last entry the row is written over
abbrev pub scribbled_log : List Call
scribbled_log = worked_log ++ puts 0 5 zeros ∷ []

-- the row is written while its volume is write-pending
abbrev pub pending_log : List Call
pending_log = take 4 worked_log ++ puts 0 5 (sector_of the_value) ∷ []

abbrev pub pending_journal : List Entry
pending_journal = take 5 worked_journal

-- ROUNDS

-- the first round's block isn't written to the second member
abbrev pub unspread_log : List Call
unspread_log = slice_set worked_log 2 (syncs 0)

-- the first round's last sync fails
abbrev pub unsettled_log : List Call
unsettled_log = slice_set worked_log 3 (fails (syncs 1))

-- the last round breaks off, and its blocks differ
abbrev pub twins_log : List Call
twins_log = slice_set worked_log 15 (puts 1 4094 (block 4 1 0))

abbrev pub twins_journal : List Entry
twins_journal = take 14 worked_journal

-- REST

-- the volume is made clean, and no round has recorded it
abbrev pub unrecorded_journal : List Entry
unrecorded_journal = take 13 worked_journal

-- ENTRIES WITHOUT A CAUSE

-- the first round has another generation than the next one
abbrev pub skipping_journal : List Entry
skipping_journal = at 0 (Begin 99) ∷ at 4 (End 99) ∷ []

-- a round begins that nothing makes due
abbrev pub needless_journal : List Entry
needless_journal = at 0 (Begin 2) ∷ at 4 (End 2) ∷ at 4 (Ready the_volume) ∷ at 4 (Begin 3) ∷ []

-- a disk has a fault, where no run outlives one
abbrev pub faulty_journal : List Entry
faulty_journal = at 0 (Fault (record { 0 = 0 })) ∷ []

-- a write to a sector of the volume is answered as one past its end
abbrev pub refused_journal : List Entry
refused_journal = at 0 (Begin 2) ∷ at 4 (End 2) ∷ at 4 (Ready the_volume) ∷ at 4 (Submit 0) ∷ at 4 (Ack 0 Past) ∷ []

-- a read is answered as a write is
abbrev pub valueless_journal : List Entry
valueless_journal = at 0 (Begin 2) ∷ at 4 (End 2) ∷ at 4 (Ready the_volume) ∷ at 4 (Submit 1) ∷ at 5 (Ack 1 Done) ∷ []

-- a write is submitted before the volume is ready
abbrev pub eager_journal : List Entry
eager_journal = at 0 (Submit 0) ∷ []
