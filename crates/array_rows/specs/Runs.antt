-- Runs over disks that answer: what a read gives is what stands there, each call goes through but those that are named,
-- and a run may be cut off behind a call. A run makes the turns of its script, and then drains. Source: this project's
-- own; the idle timer comes last as in the kernel, whose safe mode waits for quiet.
use Rattle.std.specs.Prelude.{ℕ, zero, suc, ◌+◌, ◌||◌, not, nat_le, Bool, true, false, List, [], ◌∷◌, ◌++◌, map, filter, length, Option, Some, None, if◌then◌else◌}
use Rattle.std.specs.List.{range_with_len, list_any}
use Rattle.std.specs.Option.{option_map_or}
use Rattle.units.specs.declared.bounds.TheConstants.{CLIENTS}
use Rattle.units.specs.declared.disk.Sector.{Sector}
use Rattle.device_log.specs.Log.{Call, What, Read, Write, Sync}
use Rattle.device_log.specs.Cells.{resting, cell_after}
use Rattle.array_model.specs.declared.journal.Entry.{Entry}
use Rattle.array_model.specs.Script.{sector_of, is_of_client}
use Rattle.array_machine.specs.Numbers.{has}
use Rattle.array_machine.specs.Setting.{Setting}
use Rattle.array_machine.specs.Rounds.{Ended, Life, Dead}
use Rattle.array_machine.specs.Changes.{Change}
use Rattle.array_machine.specs.Turns.{Turn, no_call}
use Rattle.array_rows.specs.SmallSettings.{Small, setting, opens}
use Rattle.array_machine.specs.Machine.{Actor, Monitor, Manager, Sync as SyncOf, Client, Quiet, Takeover, turn, World, after}

-- CALLS THAT ARE ANSWERED

-- the calls that fail, by their numbers from 1, and the call behind which the run is cut off
pub record Bounds : Type 0 where
  pub failing : List ℕ
  pub stop : Option ℕ

-- each call goes through, and the run goes on to its end
abbrev pub unbounded : Bounds
unbounded = record { failing = []; stop = None }

abbrev pub stopping : ℕ → Bounds
stopping n = record { failing = []; stop = Some n }

abbrev pub failing : List ℕ → Bounds
failing calls = record { failing = calls; stop = None }

-- what stands at a place of a disk
abbrev pub stands : Setting → List Call → ℕ → ℕ → Sector
stands S log d place = (cell_after d place (resting (S.start.disks.opening d place)) log).stood

abbrev pub read_what : Setting → List Call → ℕ → What → Sector
read_what S log d (Read place) = stands S log d place
read_what S log d (Write place sectors stored) = sector_of 0
read_what S log d Sync = sector_of 0

abbrev pub read_call : Setting → List Call → Option Call → Sector
read_call S log None = sector_of 0
read_call S log (Some call) = read_what S log call.disk call.what

-- how a call ends that an actor makes now
abbrev pub answered : Setting → Bounds → World → Actor → Ended
answered S b w actor = record {
  went = not (has (w.calls + 1) b.failing);
  stored = 0;
  got = read_call S w.log (turn S w.control (record { actor = actor; ended = no_call })).call;
}

-- ONE TURN

-- a world, and whether anything was done on the way to it
pub record Went : Type 0 where
  pub world : World
  pub moved : Bool

abbrev pub does_something : Option Call → List Change → Bool
does_something (Some call) changes = true
does_something None [] = false
does_something None (a ∷ more) = true

abbrev pub makes : Setting → World → (moved : Bool) → Turn → Went
makes S w moved t = record { world = after S w t; moved = moved || does_something t.call t.changes }

abbrev pub is_dead : Life → Bool
is_dead Dead = true
is_dead _ = false

-- the call is made behind which the run is cut off, or no metadata was found
abbrev pub is_over : Bounds → World → Bool
is_over b w = option_map_or (λ n. nat_le n w.calls) b.stop false || is_dead w.control.round.life

abbrev pub goes_unless : Setting → Bounds → Went → Actor → (over : Bool) → Went
goes_unless S b x actor true = x
goes_unless S b x actor false =
    makes S x.world x.moved (turn S x.world.control (record { actor = actor; ended = answered S b x.world actor }))

abbrev pub goes : Setting → Bounds → Went → Actor → Went
goes S b x actor = goes_unless S b x actor (is_over b x.world)

-- the turns of these actors, in order
abbrev pub all_go : Setting → Bounds → Went → List Actor → Went
all_go S b x [] = x
all_go S b x (actor ∷ more) = all_go S b (goes S b x actor) more

abbrev pub from : World → Went
from w = record { world = w; moved = false }

-- THE DRAIN

abbrev pub has_ops : Setting → ℕ → Bool
has_ops S k = list_any (is_of_client S.asked.ops k) (range_with_len 0 (length S.asked.ops))

-- the monitor, the manager, the sync worker of each volume, each client that has operations
abbrev pub cycle : Setting → World → List Actor
cycle S w =
    Monitor ∷ Manager
    ∷ (map SyncOf (range_with_len 0 (length w.control.volumes))
    ++ map Client (filter (has_ops S) (range_with_len 0 CLIENTS)))

abbrev pub quiets : World → List Actor
quiets w = map Quiet (range_with_len 0 (length w.control.volumes))

-- how a run ended: all is done, it was cut off, no metadata was found, or the cycles that were allowed didn't suffice
pub data Outcome : Type 0 where
  IsDone : Outcome
  IsStopped : Outcome
  FindsNothing : Outcome
  GoesOn : Outcome

pub record Result : Type 0 where
  pub world : World
  pub outcome : Outcome

-- where nobody moves any more
abbrev pub outcome_of : (dead stopped : Bool) → Outcome
outcome_of true stopped = FindsNothing
outcome_of false true = IsStopped
outcome_of false false = IsDone

abbrev pub ends_at : Bounds → World → Result
ends_at b w = record {
  world = w;
  outcome = outcome_of (is_dead w.control.round.life) (option_map_or (λ n. nat_le n w.calls) b.stop false);
}

-- a cycle in which nobody moved is followed by the idle timer of each volume
abbrev pub quiets_if : Setting → Bounds → Went → Went
quiets_if S b x = if x.moved then x else all_go S b x (quiets x.world)

abbrev pub next_cycle : Setting → Bounds → World → Went
next_cycle S b w = quiets_if S b (all_go S b (from w) (cycle S w))

-- cycles, until one comes in which nobody moves and no volume falls idle
abbrev pub drained : Setting → Bounds → (cycles : ℕ) → World → Result
drained S b zero w = record { world = w; outcome = GoesOn }
drained S b (suc n) w =
    let x = next_cycle S b w in
    if x.moved then drained S b n x.world else ends_at b x.world

-- a monitor that was killed is taken over first
abbrev pub taken_over : Setting → Bounds → World → World
taken_over S b w = (goes S b (from w) Takeover).world

-- the turns of a script, and a drain of at most so many cycles
abbrev pub replayed : Setting → Bounds → (cycles : ℕ) → World → List Actor → Result
replayed S b cycles w turns = drained S b cycles (taken_over S b (all_go S b (from w) turns).world)

-- WHAT A RUN SHOWS

-- its journal, and how it ended
pub record Shown : Type 0 where
  pub journal : List Entry
  pub outcome : Outcome

abbrev pub shows : Result → Shown
shows r = record { journal = r.world.journal; outcome = r.outcome }

-- a small setting's run, of at most a thousand cycles
abbrev pub run_of : Small → Bounds → List Actor → Result
run_of s b turns = replayed (setting s) b 1000 (opens s) turns

abbrev pub shown : Small → Bounds → List Actor → Shown
shown s b turns = shows (run_of s b turns)

abbrev pub done : List Entry → Shown
done journal = record { journal = journal; outcome = IsDone }

abbrev pub stopped : List Entry → Shown
stopped journal = record { journal = journal; outcome = IsStopped }

abbrev pub without_metadata : List Entry → Shown
without_metadata journal = record { journal = journal; outcome = FindsNothing }

abbrev pub log_of : Small → Bounds → List Actor → List Call
log_of s b turns = (run_of s b turns).world.log

-- what stands at a place of a disk behind a run
abbrev pub left_by : Small → Bounds → List Actor → (d place : ℕ) → Sector
left_by s b turns d place = stands (setting s) (log_of s b turns) d place
