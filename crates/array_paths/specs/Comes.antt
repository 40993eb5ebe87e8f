-- Why each change comes that makes no call: one constructor for each kind, with what it rests on. Laws read off it what
-- they need, and never look at a turn. Source: this project's own.
use Rattle.std.specs.Prelude.{⊤, length, ◌≡◌, ℕ, ◌+◌, ◌<◌, nat_le, true, false, List, [], ◌∷◌, ◌++◌, Option, ◌⊎◌}
use Rattle.units.specs.declared.bounds.TheConstants.{METADATA_SECTORS}
use Rattle.array_model.specs.Blocks.{Laid}
use Rattle.array_machine.specs.Numbers.{has}
use Rattle.array_machine.specs.Setting.{Setting}
use Rattle.array_machine.specs.States.{IsReadonly, IsReadAuto, IsClean, IsPending, IsActive, IsIdle, ToReady, ToPending, ToActive, ToActiveAgain, ToIdle, ToClean}
use Rattle.array_machine.specs.Volumes.{Slot, Pass, volume_at}
use Rattle.array_machine.specs.Operations.{volume_of, is_write}
use Rattle.array_machine.specs.Clients.{Client, Submitted}
use Rattle.array_machine.specs.Rounds.{Step, Aim, OfRound, OfSpare, Rest, Going, Life, Lives, Killed, Takes, expects, working_disks, has_target, lives}
use Rattle.array_machine.specs.Managers.{Want, Update, Manager}
use Rattle.array_machine.specs.Control.{Control}
use Rattle.array_machine.specs.Changes.{Change, RoundBegins, SpareBegins, RoundEnds, SpareEnds, RoundLapses, DiskFails, DiskUnblocks, StateGoes, ClientMoves, PassMoves, ManagerMoves, MonitorKilled, TakeoverStarts, MonitorResumes, MonitorDies, ClientWord, PassWord, UpdateWord, SaysNothing, Posts, Applies, Declines}
use Rattle.array_machine.specs.OtherTurns.{any_writing}
use Rattle.array_machine.specs.Machine.{Quiet, Fail, Kill, Takeover}
use Rattle.array_paths.specs.InTurn.{InTurn, state_of, is_broken, job_of}
use Rattle.array_paths.specs.MayEdit.{IsNext, Runs}
use Rattle.array_paths.specs.ClientMove.{ClientMove}
use Rattle.array_paths.specs.PassMove.{PassMove}

-- a client of this very turn has a write of the volume submitted
pub record HasSubmitted (S : Setting) (c : Control) (v : ℕ) : Type 0 where
  pub client : ℕ
  pub op : ℕ
  pub is : job_of c client ≡ Submitted op
  pub writes : is_write S op ≡ true
  pub on : volume_of S op ≡ v

-- a disk that may fail now: it is there, and has no fault
pub record MayFail (S : Setting) (c : Control) (d : ℕ) : Type 0 where
  pub there : d < S.start.disks.count
  pub sound : has d c.round.faults ≡ false

-- The manager posts an update behind the others, of which there are fewer than four, with the next number and the
-- book's generation; the monitor takes the first, and applies or declines it.
pub record IsPosted (S : Setting) (c : Control) (new : Manager) (n : ℕ) : Type 0 where
  pub lives : lives c.round.life ≡ true
  pub few : length c.manager.queue < 4
  pub want : Want
  pub number : n ≡ c.manager.posted
  pub next : new.posted ≡ c.manager.posted + 1
  pub queue : new.queue ≡ c.manager.queue
      ++ record { number = n; seen = S.start.words.generation c.round.book.anchor; want = want } ∷ []

pub record IsTaken (c : Control) (new : Manager) (n : ℕ) : Type 0 where
  pub rests : c.round.phase ≡ Rest
  pub posted : new.posted ≡ c.manager.posted
  pub update : Update
  pub first : c.manager.queue ≡ update ∷ new.queue
  pub number : update.number ≡ n

abbrev pub ManagerMove : Setting → Control → Manager → UpdateWord → Type 0
ManagerMove S c new SaysNothing = (new.queue ≡ c.manager.queue) × (new.posted ≡ c.manager.posted)
ManagerMove S c new (Posts n) = IsPosted S c new n
ManagerMove S c new (Applies n) = IsTaken c new n
ManagerMove S c new (Declines n kind) = IsTaken c new n

-- the monitor lives, or it reads after a kill
abbrev pub IsAwake : Life → Type 0
IsAwake Lives = ⊤
IsAwake (Takes left seen found) = ⊤
IsAwake _ = ⊥

abbrev pub IsTaking : Life → Type 0
IsTaking (Takes left seen found) = ⊤
IsTaking _ = ⊥

-- A round or the write of a spare's block begins, or ends; a disk fails on its own; a failure is recorded and its disk
-- is let go; the words that are written to an array state; what clients, passes and the manager do; a kill, a takeover,
-- and what the monitor makes of what it read.
pub data Comes (S : Setting) (t : InTurn) (c : Control) : Change → Type 0 where
  begins : (m : Laid) → c.round.life ≡ Lives → c.round.phase ≡ Rest → has_target S c.round ≡ true → IsNext S t c m
      → Comes S t c (RoundBegins m)
  begins_spare : (d : ℕ) (m : Laid) → c.round.life ≡ Lives → c.round.phase ≡ Rest → has_target S c.round ≡ true
      → MayFail S c d → m ≡ S.spare c.round.book d
      → S.start.words.has_record c.round.book (S.start.disks.serial d) ≡ false
      → nat_le METADATA_SECTORS (S.start.disks.sectors d) ≡ true → Comes S t c (SpareBegins d m)
  ends : (m : Laid) (step : Step) → c.round.phase ≡ Going OfRound m step [] [] true → Comes S t c (RoundEnds m)
  ends_spare : (d : ℕ) (m : Laid) (step : Step) → c.round.phase ≡ Going (OfSpare d) m step [] [] true
      → Comes S t c (SpareEnds d)
  lapses : (aim : Aim) (m : Laid) (step : Step) (late : List ℕ) → c.round.phase ≡ Going aim m step [] late false
      → Comes S t c RoundLapses
  fails : (d : ℕ) → t.who ≡ Fail d → MayFail S c d → Comes S t c (DiskFails d)
  unblocks : (d : ℕ) → c.round.phase ≡ Rest → has d c.round.blocked ≡ true → c.round.ended ≡ true
      → expects S c.round.last d ≡ false → Comes S t c (DiskUnblocks d)
  readies : (v : ℕ) → (volume_at c.volumes v).started ≡ true → state_of c v ≡ IsReadonly → c.round.phase ≡ Rest
      → c.round.ended ≡ true → Comes S t c (StateGoes v ToReady)
  pends : (v : ℕ) → is_broken c v ≡ false → (state_of c v ≡ IsReadAuto) ⊎ (state_of c v ≡ IsClean)
      → HasSubmitted S c v → Comes S t c (StateGoes v ToPending)
  activates : (v : ℕ) → Runs c v → state_of c v ≡ IsPending → c.round.phase ≡ Rest → c.round.ended ≡ true
      → S.start.words.is_dirty c.round.last v ≡ true → Comes S t c (StateGoes v ToActive)
  again : (v : ℕ) → is_broken c v ≡ false → state_of c v ≡ IsIdle → HasSubmitted S c v
      → Comes S t c (StateGoes v ToActiveAgain)
  idles : (v : ℕ) → t.who ≡ Quiet v → Runs c v → state_of c v ≡ IsActive → any_writing S v c.clients ≡ false
      → Comes S t c (StateGoes v ToIdle)
  cleans : (v : ℕ) → Runs c v → state_of c v ≡ IsIdle → c.round.phase ≡ Rest → Comes S t c (StateGoes v ToClean)
  client : (k : ℕ) (new : Client) (word : ClientWord) → ClientMove S c k new word → Comes S t c (ClientMoves k new word)
  pass : (v : ℕ) (slots : List Slot) (new : Option Pass) (word : PassWord) → PassMove S t c v slots new word
      → Comes S t c (PassMoves v slots new word)
  manages : (new : Manager) (word : UpdateWord) → ManagerMove S c new word → Comes S t c (ManagerMoves new word)
  kills : t.who ≡ Kill → IsAwake c.round.life → Comes S t c MonitorKilled
  takes_over : t.who ≡ Takeover → c.round.life ≡ Killed → Comes S t c (TakeoverStarts (working_disks S c.round))
  resumes : (d : ℕ) → IsTaking c.round.life
      → nat_le (S.start.words.generation c.round.last.anchor) (S.start.words.generation (c.round.given d).anchor) ≡ true
      → Comes S t c (MonitorResumes d)
  dies : IsTaking c.round.life → Comes S t c MonitorDies
