-- Changes of the control state. A turn is a device call, or none, and a list of changes; each changes one part, and
-- enters at most one entry into the journal. Laws go by cases on changes, whoever makes them. Source: this project's
-- own.
use Rattle.std.specs.Prelude.{ℕ, List, Option, Some, None}
use Rattle.units.specs.declared.disk.Sector.{Sector}
use Rattle.array_model.specs.declared.journal.Event.{Event}
use Rattle.array_model.specs.declared.journal.Event.TheVariants.{Begin, End, Spare, Ready, Pass as PassOpens, Point, PassEnd, Active, Clean, Unblock, Posted, Applied, Declined, Submit, Pending, Ack, Idle, Fault, Kill, Takeover}
use Rattle.array_model.specs.declared.journal.Answer.{Answer}
use Rattle.array_model.specs.declared.journal.DeclinedKind.{DeclinedKind}
use Rattle.array_model.specs.Blocks.{Laid}
use Rattle.array_machine.specs.Setting.{Setting}
use Rattle.array_machine.specs.States.{StateWord, ToReady, ToPending, ToActive, ToActiveAgain, ToIdle, ToClean}
use Rattle.array_machine.specs.Volumes.{Slot, Pass}
use Rattle.array_machine.specs.Clients.{Client}
use Rattle.array_machine.specs.Managers.{Manager}

-- what a client says with its change
pub data ClientWord : Type 0 where
  IsSilent : ClientWord
  Submits : (op : ℕ) → ClientWord
  Acknowledges : (op : ℕ) → (answer : Answer) → ClientWord

-- what is said of a pass
pub data PassWord : Type 0 where
  GoesOnQuietly : PassWord
  OpensAt : (row : ℕ) → PassWord
  Reaches : (unit : ℕ) → PassWord
  Closes : PassWord

-- what is said of an update
pub data UpdateWord : Type 0 where
  SaysNothing : UpdateWord
  Posts : (number : ℕ) → UpdateWord
  Applies : (number : ℕ) → UpdateWord
  Declines : (number : ℕ) → (kind : DeclinedKind) → UpdateWord

-- The call of what goes on went through; a round, or the write of a spare's block, begins, ends, or ends without a
-- target that finished; a disk fails, or isn't blocked any more; a word is written to an array state; a client, a
-- volume's pass, the manager move; the monitor is killed, starts to read, has read so far, goes on with the block that
-- a disk holds, or finds no metadata.
pub data Change : Type 0 where
  StepsOn : Change
  RoundBegins : (m : Laid) → Change
  SpareBegins : (disk : ℕ) → (m : Laid) → Change
  RoundEnds : (m : Laid) → Change
  SpareEnds : (disk : ℕ) → Change
  RoundLapses : Change
  DiskFails : (disk : ℕ) → Change
  DiskUnblocks : (disk : ℕ) → Change
  StateGoes : (v : ℕ) → (word : StateWord) → Change
  ClientMoves : (k : ℕ) → (client : Client) → (word : ClientWord) → Change
  PassMoves : (v : ℕ) → (slots : List Slot) → (pass : Option Pass) → (word : PassWord) → Change
  ManagerMoves : (manager : Manager) → (word : UpdateWord) → Change
  MonitorKilled : Change
  TakeoverStarts : (left : List ℕ) → Change
  TakeoverReads : (left : List ℕ) → (seen : List Sector) → (found : List ℕ) → Change
  MonitorResumes : (disk : ℕ) → Change
  MonitorDies : Change

-- ENTRIES

abbrev pub state_entry : ℕ → StateWord → Option Event
state_entry v ToReady = Some (Ready (record { 0 = v }))
state_entry v ToPending = Some (Pending (record { 0 = v }))
state_entry v ToActive = Some (Active (record { 0 = v }))
state_entry v ToActiveAgain = None
state_entry v ToIdle = Some (Idle (record { 0 = v }))
state_entry v ToClean = Some (Clean (record { 0 = v }))

abbrev pub client_entry : ClientWord → Option Event
client_entry IsSilent = None
client_entry (Submits i) = Some (Submit i)
client_entry (Acknowledges i answer) = Some (Ack i answer)

abbrev pub pass_entry : ℕ → PassWord → Option Event
pass_entry v GoesOnQuietly = None
pass_entry v (OpensAt row) = Some (PassOpens (record { 0 = v }) row)
pass_entry v (Reaches unit) = Some (Point (record { 0 = v }) unit)
pass_entry v Closes = Some (PassEnd (record { 0 = v }))

abbrev pub update_entry : UpdateWord → Option Event
update_entry SaysNothing = None
update_entry (Posts n) = Some (Posted n)
update_entry (Applies n) = Some (Applied n)
update_entry (Declines n kind) = Some (Declined n kind)

abbrev pub entry_of : Setting → Change → Option Event
entry_of S StepsOn = None
entry_of S (RoundBegins m) = Some (Begin (S.start.words.generation m.anchor))
entry_of S (SpareBegins d m) = None
entry_of S (RoundEnds m) = Some (End (S.start.words.generation m.anchor))
entry_of S (SpareEnds d) = Some (Spare (record { 0 = d }))
entry_of S RoundLapses = None
entry_of S (DiskFails d) = Some (Fault (record { 0 = d }))
entry_of S (DiskUnblocks d) = Some (Unblock (record { 0 = d }))
entry_of S (StateGoes v word) = state_entry v word
entry_of S (ClientMoves k client word) = client_entry word
entry_of S (PassMoves v slots pass word) = pass_entry v word
entry_of S (ManagerMoves manager word) = update_entry word
entry_of S MonitorKilled = Some Kill
entry_of S (TakeoverStarts left) = Some Takeover
entry_of S (TakeoverReads left seen found) = None
entry_of S (MonitorResumes d) = None
entry_of S MonitorDies = None
