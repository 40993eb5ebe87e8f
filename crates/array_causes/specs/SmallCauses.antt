-- Small journals for the examples of the laws of causes, of the script and the opening of small traces (array_model):
-- some in which each entry has its cause, and others in which one has none. Source: this project's own.
use Rattle.std.specs.Prelude.{List, [], ◌∷◌, ◌++◌, take}
use Rattle.array_model.specs.declared.script.Op.{Op}
use Rattle.array_model.specs.declared.script.OpKind.TheVariants.{Write as OpWrite}
use Rattle.array_model.specs.declared.script.Ask.{Ask}
use Rattle.array_model.specs.declared.script.Ask.TheVariants.{Add}
use Rattle.array_model.specs.declared.journal.Entry.{Entry}
use Rattle.array_model.specs.declared.journal.Event.TheVariants.{Begin, End, Spare, Ready, Pass, Point, PassEnd, Active, Unblock, Posted, Applied, Declined, Submit, Pending, Ack, Idle, Clean, Fault, Kill, Takeover}
use Rattle.array_model.specs.declared.journal.Answer.TheVariants.{Done, Failed}
use Rattle.array_model.specs.declared.journal.DeclinedKind.TheVariants.{Stale}
use Rattle.array_model.specs.Small.{the_volume, the_value, at, worked_journal, failing_journal}
use Rattle.array_model.specs.SmallFailures.{first_disk, second_disk}

-- A FAILURE: the disk is let go when the round that records it begins, before it has ended

abbrev pub hasty_unblock : List Entry
hasty_unblock = take 10 failing_journal ++ at 11 (Unblock second_disk) ∷ []

-- a monitor is killed and taken over, and the next one too
abbrev pub taken_over : List Entry
taken_over = at 0 Kill ∷ at 0 Takeover ∷ at 0 Kill ∷ at 0 Takeover ∷ []

-- it is killed twice; it is taken over without a kill; a disk is let go that has no fault
abbrev pub killed_twice : List Entry
killed_twice = at 0 Kill ∷ at 0 Kill ∷ []

abbrev pub sudden_takeover : List Entry
sudden_takeover = at 0 Takeover ∷ []

abbrev pub healthy_unblock : List Entry
healthy_unblock = at 0 (Begin 2) ∷ at 4 (End 2) ∷ at 4 (Unblock first_disk) ∷ []

-- ANSWERS

-- the write fails behind a disk, and where no disk did
abbrev pub failing_write : List Entry
failing_write = at 4 (Submit 0) ∷ at 5 (Fault first_disk) ∷ at 5 (Ack 0 Failed) ∷ []

abbrev pub faultless_write : List Entry
faultless_write = at 4 (Submit 0) ∷ at 5 (Ack 0 Failed) ∷ []

-- STATES: behind a volume that was made ready

abbrev pub made_ready : List Entry
made_ready = take 3 worked_journal

-- it waits a turn behind the write, and behind no write
abbrev pub belated_pending : List Entry
belated_pending = made_ready ++ at 4 (Submit 0) ∷ at 5 (Pending the_volume) ∷ []

abbrev pub idle_pending : List Entry
idle_pending = made_ready ++ at 4 (Pending the_volume) ∷ []

-- it is active without having waited, and idle while its write is open
abbrev pub hasty_active : List Entry
hasty_active = made_ready ++ at 4 (Submit 0) ∷ at 4 (Active the_volume) ∷ []

abbrev pub open_idle : List Entry
open_idle = take 8 worked_journal ++ at 12 (Idle the_volume) ∷ []

-- it is made ready before a round has ended, and twice
abbrev pub early_ready : List Entry
early_ready = at 0 (Begin 2) ∷ at 2 (Ready the_volume) ∷ []

abbrev pub ready_again : List Entry
ready_again = made_ready ++ at 4 (Ready the_volume) ∷ []

-- an operation is submitted before the volume is ready, where no disk failed and where one did
abbrev pub early_submit : List Entry
early_submit = at 0 (Begin 2) ∷ at 2 (Submit 1) ∷ []

abbrev pub broken_submit : List Entry
broken_submit = at 0 (Begin 2) ∷ at 2 (Fault first_disk) ∷ at 2 (Submit 1) ∷ []

-- two writes, of which the second finds the volume idle; it is answered before the volume is clean, and isn't
abbrev pub two_writes : List Op
two_writes =
    record { client = 0; kind = OpWrite the_volume 5 the_value }
    ∷ record { client = 0; kind = OpWrite the_volume 6 the_value } ∷ []

abbrev pub idle_once : List Entry
idle_once = take 8 worked_journal ++ at 12 (Ack 0 Done) ∷ at 12 (Idle the_volume) ∷ []

abbrev pub active_again : List Entry
active_again =
    idle_once ++ at 12 (Submit 1) ∷ at 16 (Ack 1 Done) ∷ at 16 (Idle the_volume) ∷ at 16 (Clean the_volume) ∷ []

-- it is called clean behind the second write, without having fallen idle again
abbrev pub busy_clean : List Entry
busy_clean = idle_once ++ at 12 (Submit 1) ∷ at 16 (Ack 1 Done) ∷ at 16 (Clean the_volume) ∷ []

abbrev pub open_clean : List Entry
open_clean = idle_once ++ at 12 (Submit 1) ∷ at 12 (Clean the_volume) ∷ []

-- ROUNDS

-- a kill loses a round, and the next monitor begins another
abbrev pub lost_round : List Entry
lost_round = at 0 (Begin 2) ∷ at 2 Kill ∷ at 2 Takeover ∷ at 6 (Begin 3) ∷ at 10 (End 3) ∷ []

-- it ends all the same; two go on at once; one begins while the monitor is killed
abbrev pub ended_after_kill : List Entry
ended_after_kill = at 0 (Begin 2) ∷ at 2 Kill ∷ at 2 (End 2) ∷ []

abbrev pub two_rounds : List Entry
two_rounds = at 0 (Begin 2) ∷ at 2 (Begin 3) ∷ []

abbrev pub killed_begin : List Entry
killed_begin = at 0 Kill ∷ at 0 (Begin 2) ∷ []

-- PASSES

-- a pass opens behind ready and goes on to its end, and another behind the end of a round
abbrev pub passes_in_turn : List Entry
passes_in_turn =
    at 4 (End 2) ∷ at 4 (Ready the_volume) ∷ at 4 (Pass the_volume 8192) ∷ at 9 (Begin 3) ∷ at 13 (End 3)
    ∷ at 13 (Point the_volume 16) ∷ at 14 (Begin 4) ∷ at 18 (End 4) ∷ at 18 (PassEnd the_volume) ∷ at 20 (End 5)
    ∷ at 20 (Pass the_volume 0) ∷ []

-- a pass opens behind an end, but not from row 0; a checkpoint is told a turn too late, and before its round has ended
abbrev pub later_row : List Entry
later_row = at 4 (End 2) ∷ at 4 (Pass the_volume 8192) ∷ []

abbrev pub belated_point : List Entry
belated_point = at 4 (End 2) ∷ at 5 (Point the_volume 8) ∷ []

abbrev pub early_end : List Entry
early_end = at 4 (Begin 2) ∷ at 6 (PassEnd the_volume) ∷ at 8 (End 2) ∷ []

-- UPDATES: the script asks for the second disk to become a spare

abbrev pub adds_second : List Ask
adds_second = Add 1 ∷ []

abbrev pub spare_added : List Entry
spare_added =
    at 0 (Begin 2) ∷ at 2 (Posted 0) ∷ at 4 (End 2) ∷ at 4 (Applied 0) ∷ at 6 (Spare second_disk)
    ∷ at 6 (Posted 1) ∷ at 6 (Declined 1 Stale) ∷ []

-- an update is applied while a round goes on, and posted while the monitor is killed
abbrev pub busy_applied : List Entry
busy_applied = at 0 (Posted 0) ∷ at 0 (Begin 2) ∷ at 2 (Applied 0) ∷ []

abbrev pub killed_posted : List Entry
killed_posted = at 0 Kill ∷ at 0 (Posted 0) ∷ []

-- a spare comes of no update, of one that a kill lost, and of another disk than the script asks for
abbrev pub sudden_spare : List Entry
sudden_spare = at 2 (Spare second_disk) ∷ []

abbrev pub lost_spare : List Entry
lost_spare = at 0 (Applied 0) ∷ at 1 Kill ∷ at 2 (Spare second_disk) ∷ []

abbrev pub other_spare : List Entry
other_spare = at 0 (Applied 0) ∷ at 2 (Spare first_disk) ∷ []
