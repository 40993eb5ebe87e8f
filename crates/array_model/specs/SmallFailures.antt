-- More small traces: a failed disk, a pass, spares, a parity volume, and blocks of two sectors. Source: this project's
-- own.
use Rattle.std.specs.Prelude.{ℕ, zero, suc, ◌==◌, if◌then◌else◌, not, true, List, [], ◌∷◌, ◌++◌, length, slice_index, Option, Some, None}
use Rattle.units.specs.declared.disk.Sector.{Sector}
use Rattle.units.specs.declared.disk.DiskNo.{DiskNo}
use Rattle.units.specs.declared.volume.Level.TheVariants.{One, Five}
use Rattle.device_log.specs.Log.{Call}
use Rattle.array_model.specs.declared.script.OpKind.TheVariants.{Whole}
use Rattle.array_model.specs.declared.journal.Entry.{Entry}
use Rattle.array_model.specs.declared.journal.Event.TheVariants.{Begin, End, Ready, Pass, Point, Submit, Ack, Fault}
use Rattle.array_model.specs.declared.journal.Answer.{Answer}
use Rattle.array_model.specs.declared.journal.Answer.TheVariants.{Done}
use Rattle.array_model.specs.Script.{Asked}
use Rattle.array_model.specs.Blocks.{Words, Laid, SlotWords}
use Rattle.array_model.specs.Start.{Start, Disks}
use Rattle.array_model.specs.Candidates.{writes, disk_after, mark}
use Rattle.array_model.specs.Small.{small_words, small_disks, small_start, small_slot, bytes_at, block, zeros, the_volume, puts, syncs, gets, fails, at}

abbrev pub nothing_asked : Asked
nothing_asked = record { ops = []; asks = [] }

abbrev pub first_disk : DiskNo
first_disk = record { 0 = 0 }

abbrev pub second_disk : DiskNo
second_disk = record { 0 = 1 }

abbrev pub third_disk : DiskNo
third_disk = record { 0 = 2 }

-- A FAILED DISK: its block, and an opening that finds it

abbrev pub degraded : ℕ → Sector
degraded generation = block generation 0 66

abbrev pub degraded_start : Start
degraded_start = record small_start { newest = record { anchor = degraded 1; extended = [] } }

-- a round whose block calls the second disk failed
abbrev pub dropping_log : List Call
dropping_log = puts 0 4094 (degraded 2) ∷ syncs 0 ∷ []

abbrev pub faulty_journal : List Entry
faulty_journal = at 0 (Fault second_disk) ∷ at 0 (Begin 2) ∷ at 2 (End 2) ∷ []

-- the same with no fault
abbrev pub forgetful_journal : List Entry
forgetful_journal = at 0 (Begin 2) ∷ at 2 (End 2) ∷ []

-- a failed call that the journal ends at, without a word of it
abbrev pub untold_log : List Call
untold_log = puts 0 4094 (block 2 0 0) ∷ fails (syncs 0) ∷ []

abbrev pub untold_journal : List Entry
untold_journal = at 0 (Begin 2) ∷ []

-- its fault comes right behind it; one call later; of the other disk
abbrev pub told_journal : List Entry
told_journal = at 0 (Begin 2) ∷ at 2 (Fault first_disk) ∷ []

abbrev pub late_journal : List Entry
late_journal = at 0 (Begin 2) ∷ at 3 (Fault first_disk) ∷ []

abbrev pub other_journal : List Entry
other_journal = at 0 (Begin 2) ∷ at 2 (Fault second_disk) ∷ []

-- A SPARE: its block has the generation alone, and no volume

abbrev pub spare_block : ℕ → Sector
spare_block generation = record { 0 = generation ∷ [] }

abbrev pub sparing_words : Words
sparing_words = record small_words { volumes = λ m. if length m.anchor.0 == 3 then 1 else 0 }

abbrev pub sparing_start : Start
sparing_start = record small_start { words = sparing_words }

-- the round's block is written to the first disk, and a spare's of the same generation to the second
abbrev pub sparing_log : List Call
sparing_log = puts 0 4094 (block 2 0 0) ∷ syncs 0 ∷ puts 1 4094 (spare_block 2) ∷ syncs 1 ∷ []

-- the same, but for the first disk's block
abbrev pub spares_log : List Call
spares_log = puts 1 4094 (spare_block 2) ∷ syncs 1 ∷ []

-- a block of four bytes
abbrev pub with_fourth : (generation fourth : ℕ) → Sector
with_fourth generation fourth = record { 0 = generation ∷ 0 ∷ 0 ∷ fourth ∷ [] }

-- A SLOT OUT OF SYNC: where the fourth byte of a block is 66, the second slot isn't in sync

abbrev pub second_slot : Laid → SlotWords
second_slot m = record (small_slot m 1 (66 ∷ [])) { is_in_sync = not (bytes_at 3 m == 66) }

abbrev pub rebuilding_slots : Laid → ℕ → List SlotWords
rebuilding_slots m v = if v == 0 then small_slot m 0 (65 ∷ []) ∷ second_slot m ∷ [] else []

abbrev pub rebuilding_start : Start
rebuilding_start = record small_start { words = record small_words { slots = rebuilding_slots } }

-- a round whose block has the second slot out of sync
abbrev pub rebuilding_log : List Call
rebuilding_log = puts 0 4094 (with_fourth 2 66) ∷ syncs 0 ∷ []

-- the verdict counts the second disk out
abbrev pub counting_start : Start
counting_start = record rebuilding_start { counts_out = (66 ∷ []) ∷ [] }

-- a first round that leaves its slot in sync, and a second that doesn't
abbrev pub belated_log : List Call
belated_log = puts 0 4094 (with_fourth 2 0) ∷ syncs 0 ∷ puts 0 4094 (with_fourth 3 66) ∷ syncs 0 ∷ []

abbrev pub belated_journal : List Entry
belated_journal = at 0 (Begin 2) ∷ at 2 (End 2) ∷ at 2 (Begin 3) ∷ at 4 (End 3) ∷ []

-- A PASS over 2,048 rows: the fourth byte of a block is the unit that is recorded

abbrev pub passing_words : Words
passing_words = record small_words {
  pass = λ m v. if v == 0 then Some 0 else None;
  unit = λ m v. bytes_at 3 m;
  shape = λ m v. record { level = Some One; members = 2; size = 2048; strip = 0; pba = 0; rows = 2048 };
}

-- the pass starts at this row, where there is one
abbrev pub passing_from : Option ℕ → Start
passing_from row = record small_start { words = passing_words; pass_from = λ v. if v == 0 then row else None }

-- the pass has come to row 1,024 when a round begins
abbrev pub passing_log : ℕ → List Call
passing_log unit = gets 0 1024 ∷ puts 0 4094 (with_fourth 2 unit) ∷ []

abbrev pub passing_journal : List Entry
passing_journal = at 0 (Pass the_volume 0) ∷ at 1 (Begin 2) ∷ []

abbrev pub ready_journal : List Entry
ready_journal = at 0 (Begin 2) ∷ at 4 (End 2) ∷ at 4 (Ready the_volume) ∷ []

abbrev pub pass_journal : List Entry
pass_journal = ready_journal ++ at 4 (Pass the_volume 0) ∷ []

abbrev pub point_journal : List Entry
point_journal = pass_journal ++ at 9 (Point the_volume 8) ∷ []

-- a point without a pass
abbrev pub early_point_journal : List Entry
early_point_journal = ready_journal ++ at 9 (Point the_volume 8) ∷ []

-- a point at a unit that isn't a multiple of eight
abbrev pub uneven_point_journal : List Entry
uneven_point_journal = pass_journal ++ at 9 (Point the_volume 9) ∷ []

-- a second point that doesn't rise
abbrev pub same_point_journal : List Entry
same_point_journal = point_journal ++ at 13 (Point the_volume 8) ∷ []

-- WHOLE: one client asks whether the volume is whole

abbrev pub whole_script : Asked
whole_script = record { ops = record { client = 0; kind = Whole the_volume } ∷ []; asks = [] }

abbrev pub answered : Answer → List Entry
answered answer = at 0 (Submit 0) ∷ at 0 (Ack 0 answer) ∷ []

abbrev pub three_serials : ℕ → List ℕ
three_serials zero = 65 ∷ []
three_serials (suc zero) = 66 ∷ []
three_serials (suc (suc zero)) = 67 ∷ []
three_serials (suc (suc (suc d))) = []

-- three disks, the third of so many sectors
abbrev pub three_disks : ℕ → Disks
three_disks sectors = record small_disks {
  count = 3;
  serial = three_serials;
  sectors = λ d. if d == 2 then sectors else 4096;
}

-- the second disk failed, and the third is a spare of so many sectors
abbrev pub spare_start : ℕ → Start
spare_start sectors = record degraded_start { disks = three_disks sectors; is_spare = λ d. d == 2 }

-- FAULTS OF MEMBERS

abbrev pub one_fault : List Entry
one_fault = at 0 (Fault first_disk) ∷ []

abbrev pub two_faults : List Entry
two_faults = at 0 (Fault first_disk) ∷ at 0 (Fault second_disk) ∷ []

-- a mirror of which the verdict counts the second disk out, and a fault of that disk
abbrev pub doubted_start : Start
doubted_start = record small_start { counts_out = (66 ∷ []) ∷ [] }

abbrev pub doubted_fault : List Entry
doubted_fault = at 0 (Fault second_disk) ∷ []

abbrev pub third_fault : List Entry
third_fault = at 0 (Fault third_disk) ∷ []

abbrev pub third_slot : SlotWords
third_slot = record { index = 2; serial = 67 ∷ []; is_expected = true; is_in_sync = true }

abbrev pub parity_slots : Laid → ℕ → List SlotWords
parity_slots m v = if v == 0 then small_slot m 0 (65 ∷ []) ∷ small_slot m 1 (66 ∷ []) ∷ third_slot ∷ [] else []

abbrev pub parity_words : Words
parity_words = record small_words {
  shape = λ m v. record { level = Some Five; members = 3; size = 2048; strip = 8; pba = 0; rows = 1024 };
  slots = parity_slots;
}

-- a parity volume over three disks, that was left dirty or clean
abbrev pub parity_start : ℕ → Start
parity_start dirty = record small_start {
  words = parity_words;
  disks = three_disks 4096;
  newest = record { anchor = block 1 dirty 0; extended = [] };
}

-- a write of sector 5, which lies on the first disk with its parity on the third, is acknowledged over a fault of the
-- first that no block records
abbrev pub parity_hasty : List Entry
parity_hasty = at 0 (Submit 0) ∷ at 0 (Fault first_disk) ∷ at 0 (Ack 0 Done) ∷ []

-- AN ACTIVATION: where the fourth byte of a block is 67, the second slot is the third disk's

abbrev pub activated_slot : Laid → SlotWords
activated_slot m = if bytes_at 3 m == 67 then third_slot else small_slot m 1 (66 ∷ [])

abbrev pub activating_slots : Laid → ℕ → List SlotWords
activating_slots m v = if v == 0 then small_slot m 0 (65 ∷ []) ∷ activated_slot m ∷ [] else []

abbrev pub activating_start : Start
activating_start = record small_start {
  words = record small_words { slots = activating_slots; is_whole = λ serial n m. true };
  disks = three_disks 4096;
}

-- the second disk has a fault, a round gives its slot to the third, and then a write is submitted and done: over a block
-- that calls the second failed, or one that goes on to expect it
abbrev pub activating_log : (failed : ℕ) → List Call
activating_log failed = puts 0 4094 (record { 0 = 2 ∷ 0 ∷ failed ∷ 67 ∷ [] }) ∷ syncs 0 ∷ []

abbrev pub activating_journal : List Entry
activating_journal =
    at 0 (Fault second_disk) ∷ at 0 (Begin 2) ∷ at 2 (End 2) ∷ at 2 (Submit 0) ∷ at 2 (Ack 0 Done) ∷ []

-- BLOCKS OF TWO SECTORS: the fourth byte of an anchor is how many extended sectors belong to it

abbrev pub long_words : Words
long_words = record small_words {
  extra = λ s. slice_index s.0 3;
  is_whole = λ serial n m. length m.anchor.0 == 4;
}

abbrev pub long_anchor : ℕ → Sector
long_anchor generation = with_fourth generation 1

abbrev pub long_rest : ℕ → Sector
long_rest generation = record { 0 = generation ∷ [] }

abbrev pub long_block : ℕ → Laid
long_block generation = record { anchor = long_anchor generation; extended = long_rest generation ∷ [] }

-- disks with such a block of generation 1
abbrev pub long_disks : Disks
long_disks = record small_disks {
  opening = λ d p. if p == 4094 then long_anchor 1 else (if p == 4093 then long_rest 1 else zeros);
}

-- after a log: the blocks that it writes to the first disk, that disk's candidates, and the mark
abbrev pub long_writes : List Call → List Laid
long_writes log = writes long_words long_disks 0 log

abbrev pub long_candidates : List Call → List Laid
long_candidates log = (disk_after long_words long_disks log 0).candidates

abbrev pub long_mark : List Call → ℕ
long_mark log = mark long_words long_disks log

abbrev pub whole_block_log : List Call
whole_block_log = puts 0 4093 (long_rest 2) ∷ puts 0 4094 (long_anchor 2) ∷ []

-- the write of the extended part fails
abbrev pub failed_rest_log : List Call
failed_rest_log = fails (puts 0 4093 (long_rest 2)) ∷ puts 0 4094 (long_anchor 2) ∷ []

-- the anchor alone
abbrev pub anchor_log : List Call
anchor_log = puts 0 4094 (long_anchor 2) ∷ []

-- another write into the sectors that are kept for metadata comes between
abbrev pub parted_log : List Call
parted_log = puts 0 4093 (long_rest 2) ∷ puts 0 4090 zeros ∷ puts 0 4094 (long_anchor 2) ∷ []

-- a client's write and its sync come between
abbrev pub synced_between_log : List Call
synced_between_log =
    puts 0 4093 (long_rest 2) ∷ puts 0 5 zeros ∷ syncs 0 ∷ puts 0 4094 (long_anchor 2) ∷ []
