-- Runs in which each read that went through gave what stood there. The machine itself says nothing of what a read
-- gives: laws on content ask for it. Source: this project's own model of a disk (device_log).
use Rattle.std.specs.Prelude.{⊤, ◌≡◌, ℕ, ◌+◌, Bool, true, false, List, Option, Some, None}
use Rattle.units.specs.declared.disk.Sector.{Sector}
use Rattle.device_log.specs.Log.{Call, What, Read, Write, Sync}
use Rattle.array_model.specs.Candidates.{disk_after}
use Rattle.array_model.specs.Renewal.{FitsGeneration}
use Rattle.array_machine.specs.Setting.{Setting}
use Rattle.array_machine.specs.Volumes.{Volume}
use Rattle.array_machine.specs.Rounds.{Ended}
use Rattle.array_machine.specs.Machine.{Action, turn, World, begins_at, happens}

-- the sector that stands at a place of disk d behind a log
abbrev pub stood_at : Setting → List Call → (d place : ℕ) → Sector
stood_at S log d place = ((disk_after S.start.words S.start.disks log d).cells place).stood

-- what was asked of disk d, whether it went through, and what it gave: a read gave the sector that stood there
abbrev pub IsTrue : Setting → List Call → (d : ℕ) → What → (went : Bool) → (got : Sector) → Type 0
IsTrue S log d (Read place) true got = got ≡ stood_at S log d place
IsTrue S log d (Read place) false got = ⊤
IsTrue S log d (Write place sectors stored) went got = ⊤
IsTrue S log d Sync went got = ⊤

-- the call, if there is one, behind this log
abbrev pub GaveWhatStood : Setting → List Call → Option Call → Ended → Type 0
GaveWhatStood S log None x = ⊤
GaveWhatStood S log (Some call) x = IsTrue S log call.disk call.what call.went x.got

-- the turn of an action
abbrev pub IsHonest : Setting → World → Action → Type 0
IsHonest S w a = GaveWhatStood S w.log (turn S w.control a).call (turn S w.control a).ended

-- the worlds that a run may come to whose reads did
pub data HonestRun (S : Setting) (volumes : List Volume) (spares : List ℕ) : World → Type 0 where
  opens : HonestRun S volumes spares (begins_at S volumes spares)
  goes : {w : World} → HonestRun S volumes spares w → (a : Action) → FitsGeneration (w.control.round.note + 1)
      → IsHonest S w a → HonestRun S volumes spares (happens S w a)
