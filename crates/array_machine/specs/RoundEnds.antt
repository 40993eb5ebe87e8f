-- How a round ends, and what its end makes of the slots and the passes of volumes. A round, or the write of a spare's
-- block, ends in the turn that leaves it without a target, whoever takes that turn.
-- Source: monitor.c and super-intel.c (imsm_process_update, end_migration) of mdadm; that an activation takes effect at
-- the end of its round is this project's own.
use Rattle.std.specs.Prelude.{ℕ, ◌+◌, ◌*◌, ◌||◌, not, nat_lt, Bool, true, false, List, [], ◌∷◌, ◌++◌, filter, map, Option, Some, None, if◌then◌else◌}
use Rattle.std.specs.Option.{option_map_or}
use Rattle.std.specs.Str.{bytes_eq}
use Rattle.units.specs.declared.bounds.TheConstants.{UNIT_ROWS}
use Rattle.array_model.specs.Blocks.{Laid, SlotWords}
use Rattle.array_machine.specs.Numbers.{has, first_of}
use Rattle.array_machine.specs.Setting.{Setting}
use Rattle.array_machine.specs.Volumes.{Slot, same_disk, Pass, Volume}
use Rattle.array_machine.specs.Rounds.{all_disks, Ending, GoesOn, Finishes, MakesSpare, Lapses, ending}
use Rattle.array_machine.specs.Control.{Control}
use Rattle.array_machine.specs.Changes.{PassWord, OpensAt, Reaches, Closes, Change, RoundEnds, SpareEnds, RoundLapses, DiskFails, PassMoves}
use Rattle.array_machine.specs.Puts.{put}

-- SLOTS

-- behind a pass that was closed a slot is in sync whose disk has no fault
abbrev pub synced_slot : List ℕ → Slot → Slot
synced_slot faults s = record s { in_sync = s.in_sync || option_map_or (λ d. not (has d faults)) s.disk false }

abbrev pub all_in_sync : List ℕ → List Slot → List Slot
all_in_sync faults slots = map (synced_slot faults) slots

-- the disk of the bank that has a serial
abbrev pub disk_by : Setting → List ℕ → Option ℕ
disk_by S serial = first_of (filter (λ d. bytes_eq (S.start.disks.serial d) serial) (all_disks S))

-- the disk that a block gives to a slot: the one of its record, where that is expected
abbrev pub seat_of : Setting → SlotWords → Option ℕ
seat_of S w = if w.is_expected then disk_by S w.serial else None

-- a slot is given another disk than it has
abbrev pub is_other : Option ℕ → Option ℕ → Bool
is_other None had = false
is_other (Some d) had = not (same_disk (Some d) had)

-- a block gives some slot of a volume another disk: an activation whose round hasn't ended
abbrev pub has_other : Setting → List SlotWords → List Slot → Bool
has_other S (w ∷ ws) (s ∷ ss) = is_other (seat_of S w) s.disk || has_other S ws ss
has_other S _ _ = false

abbrev pub seated_if : Bool → Option ℕ → Slot → Slot
seated_if true disk s = record { disk = disk; in_sync = false }
seated_if false disk s = s

-- Each slot that is given another disk has it, out of sync. A disk that failed meanwhile takes its slot all the same.
abbrev pub seated : Setting → List SlotWords → List Slot → List Slot
seated S [] slots = slots
seated S (w ∷ ws) [] = []
seated S (w ∷ ws) (s ∷ ss) = seated_if (is_other (seat_of S w) s.disk) (seat_of S w) s ∷ seated S ws ss

-- PASSES

-- a pass that begins at a unit: nothing was written yet, so no sync is due
abbrev pub pass_from : ℕ → Pass
pass_from unit = record {
  row = unit * UNIT_ROWS;
  got = [];
  written = [];
  touched = [];
  syncing = false;
  ready = unit;
  over = false;
  lock = None;
}

-- what becomes of the slots and the pass of a volume, and what is said of it
pub record PassRun : Type 0 where
  pub volume : ℕ
  pub slots : List Slot
  pub pass : Option Pass
  pub word : PassWord

abbrev pub all_runs : List PassRun → List Change
all_runs runs = map (λ x. PassMoves x.volume x.slots x.pass x.word) runs

-- By the pass and the unit in the block of the last finished round and in the round's: the pass was closed, or a higher
-- unit was recorded.
abbrev pub pass_ended : List ℕ → ℕ → Volume → (before now : Option ℕ) → (old new : ℕ) → List PassRun
pass_ended faults v x (Some kind) None old new =
    record { volume = v; slots = all_in_sync faults x.slots; pass = None; word = Closes } ∷ []
pass_ended faults v x (Some kind) (Some now) old new =
    if nat_lt old new then record { volume = v; slots = x.slots; pass = x.pass; word = Reaches new } ∷ [] else []
pass_ended faults v x None now old new = []

-- an activation took effect: the slots get their disks, and a pass goes from row 0; else what became of the pass
abbrev pub slots_ended : Setting → List ℕ → (last m : Laid) → ℕ → Volume → (other : Bool) → List PassRun
slots_ended S faults last m v x true =
    record {
      volume = v;
      slots = seated S (S.start.words.slots m v) x.slots;
      pass = Some (pass_from 0);
      word = OpensAt 0;
    } ∷ []
slots_ended S faults last m v x false =
    pass_ended faults v x (S.start.words.pass last v) (S.start.words.pass m v)
    (S.start.words.unit last v) (S.start.words.unit m v)

abbrev pub volume_ended : Setting → List ℕ → (last m : Laid) → ℕ → Volume → List PassRun
volume_ended S faults last m v x =
    if x.started then slots_ended S faults last m v x (has_other S (S.start.words.slots m v) x.slots) else []

-- of the volumes from number v on, one at most each: by the disks that failed, the block of the round that was the last
-- to finish, and that of the round that ends
abbrev pub volumes_ended : Setting → List ℕ → (last m : Laid) → ℕ → List Volume → List PassRun
volumes_ended S faults last m v [] = []
volumes_ended S faults last m v (x ∷ xs) =
    volume_ended S faults last m v x ++ volumes_ended S faults last m (v + 1) xs

-- THE END

-- the changes of an ending, from the control state that it is found in
abbrev pub ended_by : Setting → Control → Ending → List Change
ended_by S c GoesOn = []
ended_by S c (Finishes m) =
    RoundEnds m ∷ all_runs (volumes_ended S c.round.faults c.round.last m 0 c.volumes)
ended_by S c (MakesSpare d) = SpareEnds d ∷ []
ended_by S c Lapses = RoundLapses ∷ []

-- a change, and the end of what goes on where that change left it no target
abbrev pub and_ended : Setting → Control → Change → List Change
and_ended S c a = a ∷ ended_by S (put S a c) (ending (put S a c).round.phase)

-- the changes of a call on disk d: those given where it went through, else the disk fails
abbrev pub called : Setting → Control → (went : Bool) → ℕ → List Change → List Change
called S c true d changes = changes
called S c false d changes = and_ended S c (DiskFails d)
