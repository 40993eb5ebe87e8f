-- Runs that a careless or a lazy stage would leave: each is the worked run of one write and one read with something
-- wrong. Source: this project's own.
use Rattle.std.specs.Prelude.{ℕ, ◌+◌, List, [], ◌∷◌, ◌++◌, map, take, drop, slice_set}
use Rattle.units.specs.declared.disk.Sector.{Sector}
use Rattle.device_log.specs.Log.{Call}
use Rattle.array_model.specs.declared.script.OpKind.TheVariants.{Write as OpWrite}
use Rattle.array_model.specs.declared.journal.Entry.{Entry}
use Rattle.array_model.specs.declared.journal.Event.TheVariants.{Begin, End, Ready, Submit, Pending, Active, Ack, Idle, Clean, Fault}
use Rattle.array_model.specs.declared.journal.Answer.{Answer}
use Rattle.array_model.specs.declared.journal.Answer.TheVariants.{Done, Value}
use Rattle.array_model.specs.Script.{Asked, sector_of}
use Rattle.array_model.specs.Small.{the_volume, the_value, block, puts, syncs, gets, fails, at, worked_log, worked_journal, early_journal}

-- a list without its element number k
abbrev pub without : {X : Type 0} → ℕ → List X → List X
without k xs = take k xs ++ drop (k + 1) xs

-- ROUNDS

-- the worked journal with generations from g on, and no call made
abbrev pub callless_journal : ℕ → List Entry
callless_journal g =
    at 0 (Begin g) ∷ at 0 (End g) ∷ at 0 (Ready the_volume) ∷ at 0 (Submit 0) ∷ at 0 (Pending the_volume)
    ∷ at 0 (Begin (g + 1)) ∷ at 0 (End (g + 1)) ∷ at 0 (Active the_volume) ∷ at 0 (Ack 0 Done)
    ∷ at 0 (Submit 1) ∷ at 0 (Ack 1 (Value (sector_of the_value))) ∷ at 0 (Idle the_volume) ∷ at 0 (Clean the_volume)
    ∷ at 0 (Begin (g + 2)) ∷ at 0 (End (g + 2)) ∷ []

-- the rows are written and read, and no block is
abbrev pub rows_log : List Call
rows_log = take 5 (drop 8 worked_log)

abbrev pub rows_journal : List Entry
rows_journal =
    at 0 (Begin 2) ∷ at 0 (End 2) ∷ at 0 (Ready the_volume) ∷ at 0 (Submit 0) ∷ at 0 (Pending the_volume)
    ∷ at 0 (Begin 3) ∷ at 0 (End 3) ∷ at 0 (Active the_volume) ∷ at 4 (Ack 0 Done)
    ∷ at 4 (Submit 1) ∷ at 5 (Ack 1 (Value (sector_of the_value))) ∷ at 5 (Idle the_volume) ∷ at 5 (Clean the_volume)
    ∷ at 5 (Begin 4) ∷ at 5 (End 4) ∷ []

-- the second round begins and doesn't end
abbrev pub unended_journal : List Entry
unended_journal = without 6 worked_journal

-- the second round has no entry at all
abbrev pub unnamed_journal : List Entry
unnamed_journal = without 5 unended_journal

-- the blocks of the second round aren't dirty
abbrev pub undirtied_log : List Call
undirtied_log = slice_set (slice_set worked_log 4 (puts 0 4094 (block 3 0 0))) 6 (puts 1 4094 (block 3 0 0))

-- the last sync, of the round that records the volume as clean, fails
abbrev pub unrecorded_log : List Call
unrecorded_log = slice_set worked_log 16 (fails (syncs 1))

-- the journal breaks off behind an `active` that came before its round had ended
abbrev pub going_log : List Call
going_log = take 6 worked_log

abbrev pub going_journal : List Entry
going_journal = take 7 early_journal

-- FAULTS

abbrev pub fault_of : ℕ → Entry
fault_of d = at 0 (Fault (record { 0 = d }))

-- no call is made, and both members are said to have failed: so none is left that works
abbrev pub memberless_journal : List Entry
memberless_journal = fault_of 0 ∷ fault_of 1 ∷ callless_journal 2

-- ANSWERS

-- the first round ends; then both operations are answered without a call
abbrev pub answered_journal : (write read : Answer) → List Entry
answered_journal write read =
    at 0 (Begin 2) ∷ at 4 (End 2) ∷ at 4 (Ready the_volume)
    ∷ at 4 (Submit 0) ∷ at 4 (Ack 0 write) ∷ at 4 (Submit 1) ∷ at 4 (Ack 1 read) ∷ []

-- the read has another answer
abbrev pub read_journal : Answer → List Entry
read_journal answer = slice_set worked_journal 10 (at 13 (Ack 1 answer))

-- the write is acknowledged, and no data is written
abbrev pub dataless_log : List Call
dataless_log = take 8 worked_log ++ drop 12 worked_log

abbrev pub dataless_journal : List Entry
dataless_journal =
    at 0 (Begin 2) ∷ at 4 (End 2) ∷ at 4 (Ready the_volume) ∷ at 4 (Submit 0) ∷ at 4 (Pending the_volume)
    ∷ at 4 (Begin 3) ∷ at 8 (End 3) ∷ at 8 (Active the_volume) ∷ at 8 (Ack 0 Done)
    ∷ at 8 (Submit 1) ∷ at 9 (Ack 1 (Value (sector_of the_value))) ∷ at 9 (Idle the_volume) ∷ at 9 (Clean the_volume)
    ∷ at 9 (Begin 4) ∷ at 13 (End 4) ∷ []

-- ENDS

-- the read is never submitted: the write alone is answered
abbrev pub half_log : List Call
half_log = without 12 worked_log

abbrev pub half_journal : List Entry
half_journal =
    at 0 (Begin 2) ∷ at 4 (End 2) ∷ at 4 (Ready the_volume) ∷ at 4 (Submit 0) ∷ at 4 (Pending the_volume)
    ∷ at 4 (Begin 3) ∷ at 8 (End 3) ∷ at 8 (Active the_volume) ∷ at 12 (Ack 0 Done)
    ∷ at 12 (Idle the_volume) ∷ at 12 (Clean the_volume) ∷ at 12 (Begin 4) ∷ at 16 (End 4) ∷ []

-- the read is submitted and never answered
abbrev pub silent_journal : List Entry
silent_journal = without 10 worked_journal

-- the last call fails, on the second disk, while the last round goes on
abbrev pub failed_journal : List Entry
failed_journal = take 14 worked_journal

-- the room is spent once the write is acknowledged
abbrev pub short_log : List Call
short_log = take 12 worked_log

abbrev pub short_journal : List Entry
short_journal = take 9 worked_journal

-- the read's call fails, and the run goes on
abbrev pub broken_log : List Call
broken_log = take 12 worked_log ++ fails (gets 0 5) ∷ []

abbrev pub heedless_journal : List Entry
heedless_journal = take 10 worked_journal ++ at 13 (Idle the_volume) ∷ at 13 (Clean the_volume) ∷ at 13 (Begin 4) ∷ []

-- TWO CLIENTS write to one sector

abbrev pub two_writes : Asked
two_writes = record {
  ops =
      record { client = 0; kind = OpWrite the_volume 5 the_value }
      ∷ record { client = 1; kind = OpWrite the_volume 5 1 } ∷ [];
  asks = [];
}

abbrev pub puts_both : Sector → List Call
puts_both s = puts 0 5 s ∷ puts 1 5 s ∷ syncs 0 ∷ syncs 1 ∷ []

-- client 1 writes over the sector of client 0 before that is acknowledged, and is acknowledged first
abbrev pub overwritten_log : List Call
overwritten_log = take 8 worked_log ++ puts_both (sector_of the_value) ++ puts_both (sector_of 1)

abbrev pub overwritten_journal : List Entry
overwritten_journal =
    at 0 (Begin 2) ∷ at 4 (End 2) ∷ at 4 (Ready the_volume) ∷ at 4 (Submit 0) ∷ at 4 (Pending the_volume)
    ∷ at 4 (Submit 1) ∷ at 4 (Begin 3) ∷ at 8 (End 3) ∷ at 8 (Active the_volume)
    ∷ at 16 (Ack 1 Done) ∷ at 16 (Ack 0 Done) ∷ []

-- STAMPS

-- the reads of both anchors that come before a run are counted as calls of it
abbrev pub late_journal : List Entry
late_journal = map {A = Entry} (λ e. record e { stamp = e.stamp + 2 }) worked_journal

abbrev pub anchor_reads : List Call
anchor_reads = gets 0 4094 ∷ gets 1 4094 ∷ []
