-- What contracts see of a stage, and what a turn leaves of it. Source: this project's own.
use Rattle.std.specs.Prelude.{◌≡◌, ℕ, ◌+◌, ◌^◌, ◌<◌, ◌≤◌, ◌||◌, nat_lt, nat_le, Bool, true, false, List, [], ◌++◌, length, Option, Some, None, ◌⊎◌}
use Rattle.units.specs.declared.volume.Level.TheVariants.{One}
use Rattle.units.specs.declared.disk.Sector.{Sector}
use Rattle.device_log.specs.Log.{Call}
use Rattle.array_model.specs.declared.journal.Entry.{Entry}
use Rattle.array_model.specs.declared.script.Op.{Op}
use Rattle.array_model.specs.Blocks.{Laid}
use Rattle.array_model.specs.Start.{disks_of}
use Rattle.array_model.specs.Room.{BeginsWithRoom}
use Rattle.block_meaning.specs.Reading.{block_words}
use Rattle.block_meaning.specs.Renewed.{renewed}
use Rattle.stage_machine.specs.Setting.{Setting}
use Rattle.stage_machine.specs.Machine.{Control, Action, turned, call_of, calls_after, stamped}
use Rattle.control_state.specs.declared.plan.Plan.{Plan}
use Rattle.control_state.specs.Seen.{numbers, no_sector}
use Rattle.control_state.specs.Still.{is_still}
use Rattle.stage.specs.declared.turned.Turned.{Turned}
use Rattle.stage.specs.declared.turned.Turned.TheVariants.{Moved, Idle, JournalFull, Member}
use Rattle.stage.specs.Runs.{FitsBank, RanTrue}

-- What a run takes as given: the operations, the disks that a round writes to and those of the volume, where the volume
-- begins on them and its size, the newest block, and the sizes of all disks. All are in sectors.
pub record Given : Type 0 where
  pub ops : List Op
  pub targets : List ℕ
  pub members : List ℕ
  pub pba : ℕ
  pub size : ℕ
  pub newest : Laid
  pub sizes : List ℕ

abbrev pub given_of : Plan → Laid → List ℕ → Given
given_of p newest sizes = record {
  ops = p.ops.items;
  targets = numbers p.targets.items;
  members = numbers p.members.items;
  pba = p.pba;
  size = p.size;
  newest = newest;
  sizes = sizes;
}

-- the same as the machine has it
abbrev pub setting_of : Given → Setting
setting_of g = record {
  start = record {
    words = record block_words {
      shape = λ m v. record { level = Some One; members = 2; size = g.size; strip = 0; pba = g.pba; rows = g.size };
    };
    disks = disks_of [] g.sizes [];
    newest = g.newest;
    is_started = λ v. false;
    pass_from = λ v. None;
    is_spare = λ d. false;
    counts_out = [];
    content = λ v s. no_sector;
    unsure = λ v s. false;
  };
  asked = record { ops = g.ops; asks = [] };
  targets = g.targets;
  members = g.members;
  renew = renewed;
}

-- the bank, what the run takes as given, where it stands, how many calls were made, the journal and its room
pub record Seen (B : Type 0) : Type 0 where
  pub bank : B
  pub given : Given
  pub control : Control
  pub calls : ℕ
  pub journal : List Entry
  pub room : ℕ

-- a run leads here, whose reads gave what stood there; the plan's disks are in the bank; the journal has the
-- room that it says; there are numbers left for all that can still be entered; and each turn that entered something
-- began with room for four entries
pub record IsStage (S : Setting) (p : Plan) (sizes : List ℕ) (c : Control) (made : ℕ) (journal : List Entry) (room : ℕ)
    (contents : Option (List (List Sector))) (told : Option (List Call)) : Type 0 where
  pub ran : RanTrue S c made journal contents told
  pub fits : FitsBank p sizes
  pub few : made ≤ 2 ^ 48
  pub within : length journal ≤ room
  pub notes : c.round.note + room + 1 < 2 ^ 32 + length journal
  pub roomy : BeginsWithRoom room journal

-- the journal has fewer than four entries left, or as many calls were made as there may be
abbrev pub is_full : {B : Type 0} → Seen B → Bool
is_full {B} a = nat_lt a.room (length a.journal + 4) || nat_le (2 ^ 48) a.calls

-- b is what the action's turn leaves of a
pub record Turns {B : Type 0} (a b : Seen B) (act : Action) : Type 0 where
  pub given : b.given ≡ a.given
  pub room : b.room ≡ a.room
  pub control : b.control ≡ (turned (setting_of a.given) a.control act).next
  pub calls : b.calls ≡ calls_after a.calls (call_of (setting_of a.given) a.control act)
  pub journal : b.journal ≡ a.journal ++ stamped b.calls (turned (setting_of a.given) a.control act).events

-- there was something to do and room for it, and it was done
abbrev pub Acted : {B : Type 0} → Seen B → Seen B → Action → Type 0
Acted {B} a b act =
    Turns a b act × (a.control.failed ≡ None) × (is_still (setting_of a.given) a.control act ≡ false)
    × (is_full a ≡ false)

-- how the action's turn is answered: each answer has its cause, and all but the first and a failed call leave all as it
-- was
abbrev pub Answered : {B : Type 0} → Seen B → Seen B → Action → Turned → Type 0
Answered {B} a b act Moved = Acted a b act × (b.control.failed ≡ None)
Answered {B} a b act Idle = (b ≡ a) × (a.control.failed ≡ None) × (is_still (setting_of a.given) a.control act ≡ true)
Answered {B} a b act JournalFull =
    (b ≡ a) × (a.control.failed ≡ None) × (is_still (setting_of a.given) a.control act ≡ false) × (is_full a ≡ true)
Answered {B} a b act (Member d) = (b.control.failed ≡ Some d.0) × ((b ≡ a) ⊎ Acted a b act)
