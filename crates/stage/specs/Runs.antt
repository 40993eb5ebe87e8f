-- A run of the machine that leads to what a stage is. Source: this project's own.
use Rattle.std.specs.Prelude.{◌≡◌, ℕ, ◌+◌, ◌^◌, ◌≤◌, ◌<◌, true, List, [], ◌++◌, length, slice_index, Option, Some, None}
use Rattle.units.specs.declared.disk.Sector.{Sector}
use Rattle.units.specs.declared.bounds.TheConstants.{METADATA_SECTORS}
use Rattle.device_log.specs.Log.{Call, Read, OnlyReads}
use Rattle.member_bank.specs.Told.{Keeps, Logs, Gives}
use Rattle.array_model.specs.declared.journal.Entry.{Entry}
use Rattle.array_model.specs.Blocks.{Laid}
use Rattle.array_model.specs.Start.{disks_of}
use Rattle.stage_machine.specs.Setting.{Setting, has_disk}
use Rattle.stage_machine.specs.Machine.{Control, Action, Out, Reached, Honest, turned, call_of, calls_after, got_of}
use Rattle.control_state.specs.declared.plan.Plan.{Plan}
use Rattle.control_state.specs.Seen.{plan_setting, numbers}

-- what the machine takes as given: what the plan says, the newest block, and the sizes of the disks
abbrev pub run_setting : Plan → Laid → List ℕ → Setting
run_setting p newest sizes = record (plan_setting p) {
  start = record (plan_setting p).start { newest = newest; disks = disks_of [] sizes [] };
}

-- disks that rounds write to, and members with the rows of a volume on them, are in a bank of these sizes
pub record FitsDisks (targets members : List ℕ) (pba size : ℕ) (sizes : List ℕ) : Type 0 where
  pub some : 0 < size
  pub below : pba + size < 2 ^ 64
  pub targets_there : (d : ℕ) → has_disk d targets ≡ true
      → (d < length sizes) × (METADATA_SECTORS ≤ slice_index sizes d)
  pub members_there : (d : ℕ) → has_disk d members ≡ true → (d < length sizes) × (pba + size ≤ slice_index sizes d)

-- so are those of a plan
abbrev pub FitsBank : Plan → List ℕ → Type 0
FitsBank p sizes = FitsDisks (numbers p.targets.items) (numbers p.members.items) p.pba p.size sizes

-- what a bank tells after the call of a turn, if it makes one
abbrev pub Tells : Option (List Call) → Option Call → Option (List Call) → Type 0
Tells told None now = Keeps told now
Tells told (Some call) now = Logs told now call

-- the action's turn, at this control state, leaves and enters this, and makes these calls
pub record Makes (S : Setting) (told : Option (List Call)) (c : Control) (calls : ℕ) (a : Action) (out : Out)
    (counted : ℕ) (now : Option (List Call)) : Type 0 where
  pub is : out ≡ turned S c a
  pub count : counted ≡ calls_after calls (call_of S c a)
  pub logs : Tells told (call_of S c a) now

-- a read that the action makes, and that goes through, gives what then stands there, as the bank tells it
abbrev pub Gave : Setting → Control → Action → Option (List (List Sector)) → Option (List Call) → Type 0
Gave S c a contents now =
    (call : Call) (place : ℕ) → call_of S c a ≡ Some call → call.what ≡ Read place → call.went ≡ true
    → Gives contents now call.disk place (got_of a)

-- a turn whose read gave what stood there
pub record MakesTrue (S : Setting) (told : Option (List Call)) (c : Control) (calls : ℕ) (a : Action) (out : Out)
    (counted : ℕ) (contents : Option (List (List Sector))) (now : Option (List Call)) : Type 0 where
  pub makes : Makes S told c calls a out counted now
  pub gave : Gave S c a contents now

-- where the log is told, it has only reads so far
abbrev pub TellsOnlyReads : Option (List Call) → Type 0
TellsOnlyReads told = (all : List Call) → told ≡ Some all → OnlyReads all

-- a log that is told has the calls before the run, and then those of the run
abbrev pub Agrees : Option (List Call) → List Call → List Call → Type 0
Agrees told before log = (all : List Call) → told ≡ Some all → all ≡ before ++ log

-- a run of the machine leads to this control state, count of calls and journal, and its calls are those of the log,
-- where it is told, behind reads
pub record Ran (S : Setting) (c : Control) (calls : ℕ) (journal : List Entry) (told : Option (List Call)) : Type 0 where
  pub before : List Call
  pub reads : OnlyReads before
  pub log : List Call
  pub run : Reached S (record { control = c; calls = calls; log = log; journal = journal })
  pub agrees : Agrees told before log

-- the same setting, where the disks held these sectors when the run began
abbrev pub holding : Setting → List (List Sector) → Setting
holding S opening = record S {
  start = record S.start { disks = record S.start.disks { opening = (disks_of [] [] opening).opening } };
}

-- the same of a run in which each read gave what stood there, where the bank tells what it held and its log
pub record RanTrue (S : Setting) (c : Control) (calls : ℕ) (journal : List Entry)
    (contents : Option (List (List Sector))) (told : Option (List Call)) : Type 0 where
  pub ran : Ran S c calls journal told
  pub honest : (opening : List (List Sector)) (all : List Call) → contents ≡ Some opening → told ≡ Some all
      → Honest (holding S opening) (record { control = c; calls = calls; log = ran.log; journal = journal })
