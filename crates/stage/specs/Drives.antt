-- How many turns in a row end, and what they spend. Source: this project's own.
use Rattle.std.specs.Prelude.{◌≡◌, ℕ, ◌+◌, ◌^◌, ◌<◌, ◌≤◌, true, false, length, Some, None, ⊤}
use Rattle.units.specs.declared.disk.Sector.{Sector}
use Rattle.stage_machine.specs.Rounds.{Ended}
use Rattle.stage_machine.specs.Machine.{Action, Monitors, Asks, Quiets}
use Rattle.control_state.specs.Still.{is_still}
use Rattle.stage.specs.declared.ends.DriveEnd.{DriveEnd}
use Rattle.stage.specs.declared.ends.DriveEnd.TheVariants.{Over, Full, Member}
use Rattle.stage.specs.declared.turned.Turned.{Turned}
use Rattle.stage.specs.declared.turned.Turned.TheVariants.{Moved, Idle, JournalFull, Member as Failed}
use Rattle.stage.specs.declared.ends.Cycle.{Cycle}
use Rattle.stage.specs.declared.ends.Cycle.TheVariants.{Rested, Went, Ends}
use Rattle.stage.specs.Stages.{Seen, setting_of, is_full}

-- calls and entries so far: no run makes more than 2 ^ 48 calls, and its journal has so much room
abbrev pub spent : {B : Type 0} → Seen B → ℕ
spent {B} a = a.calls + length a.journal

abbrev pub budget : {B : Type 0} → Seen B → ℕ
budget {B} a = 2 ^ 48 + a.room

-- what is taken as given stays, and nothing is taken back
pub record Follows {B : Type 0} (a b : Seen B) : Type 0 where
  pub given : b.given ≡ a.given
  pub room : b.room ≡ a.room
  pub spends : spent a ≤ spent b

-- the monitor has nothing to do, nor has a client below some number; one way that a call may end tells it
abbrev pub MonitorStill : {B : Type 0} → Seen B → Type 0
MonitorStill {B} a = (x : Ended) × (is_still (setting_of a.given) a.control (Monitors x) ≡ true)

abbrev pub ClientsStill : {B : Type 0} → Seen B → ℕ → Type 0
ClientsStill {B} a n =
    (k : ℕ) → k < n → (x : Ended) × (got : Sector) × (is_still (setting_of a.given) a.control (Asks k x got) ≡ true)

abbrev pub QuietStill : {B : Type 0} → Seen B → Type 0
QuietStill {B} a = is_still (setting_of a.given) a.control Quiets ≡ true

-- no actor has anything to do, and no call has failed
pub record AllStill {B : Type 0} (a : Seen B) : Type 0 where
  pub live : a.control.failed ≡ None
  pub monitor : MonitorStill a
  pub clients : ClientsStill a 16
  pub quiet : QuietStill a

-- the journal is full, or as many calls were made as there may be, and an actor has a turn to take
pub record IsFullWithWork {B : Type 0} (a : Seen B) : Type 0 where
  pub full : is_full a ≡ true
  pub live : a.control.failed ≡ None
  pub actor : Action
  pub waits : is_still (setting_of a.given) a.control actor ≡ false

-- the cause of an early end
abbrev pub EndsBy : {B : Type 0} → Seen B → DriveEnd → Type 0
EndsBy {B} a Over = ⊤
EndsBy {B} a Full = IsFullWithWork a
EndsBy {B} a (Member d) = a.control.failed ≡ Some d.0

-- the cause of a turn's answer that ends a drive
abbrev pub TurnEnds : {B : Type 0} → Seen B → Turned → Type 0
TurnEnds {B} a Moved = ⊤
TurnEnds {B} a Idle = ⊤
TurnEnds {B} a JournalFull = IsFullWithWork a
TurnEnds {B} a (Failed d) = a.control.failed ≡ Some d.0

-- the causes of an early end, of a cycle
abbrev pub CycleEnds : {B : Type 0} → Seen B → DriveEnd → Type 0
CycleEnds {B} a Over = ⊥
CycleEnds {B} a Full = IsFullWithWork a
CycleEnds {B} a (Member d) = a.control.failed ≡ Some d.0

-- something was done, within the budget
abbrev pub Spends : {B : Type 0} → Seen B → Seen B → Type 0
Spends {B} a b = (spent a < budget a) × (spent a < spent b)

-- how a turn of each client leaves a stage: none had anything to do, and nothing changed; or something was done
abbrev pub ClientsCycled : {B : Type 0} → Seen B → Seen B → Cycle → Type 0
ClientsCycled {B} a b Rested = (b ≡ a) × ClientsStill b 16
ClientsCycled {B} a b Went = Spends a b
ClientsCycled {B} a b (Ends end) = CycleEnds b end

-- the same of a turn of the monitor and of each client
abbrev pub Cycled : {B : Type 0} → Seen B → Seen B → Cycle → Type 0
Cycled {B} a b Rested = (b ≡ a) × (b.control.failed ≡ None) × MonitorStill b × ClientsStill b 16
Cycled {B} a b Went = Spends a b
Cycled {B} a b (Ends end) = CycleEnds b end

abbrev pub went_after : Cycle → Cycle
went_after Rested = Went
went_after Went = Went
went_after (Ends end) = Ends end
