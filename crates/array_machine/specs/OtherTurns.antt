-- Turns without a call: a volume falls idle, a disk fails on its own, the monitor is killed, and a new one takes over.
-- Source: safe_mode_delay and active-idle of the kernel's md.rst, and --takeover of mdmon(8); when each of them comes
-- is this project's own.
use Rattle.std.specs.Prelude.{ℕ, ◌==◌, ◌&&◌, not, Bool, true, false, List, [], ◌∷◌}
use Rattle.std.specs.List.{list_any}
use Rattle.array_machine.specs.Setting.{Setting}
use Rattle.array_machine.specs.States.{is_active, ToIdle}
use Rattle.array_machine.specs.Volumes.{Volume, volume_at}
use Rattle.array_machine.specs.Operations.{volume_of, is_write}
use Rattle.array_machine.specs.Clients.{Job, NoJob, Submitted, Busy, Client}
use Rattle.array_machine.specs.Rounds.{Life, Lives, Killed, Takes, Dead}
use Rattle.array_machine.specs.Control.{Control}
use Rattle.array_machine.specs.Changes.{DiskFails, StateGoes, MonitorKilled, TakeoverStarts}
use Rattle.array_machine.specs.Turns.{Turn, idle, quietly}
use Rattle.array_machine.specs.RoundEnds.{and_ended}

-- QUIET

-- a write on volume v was submitted and isn't answered yet
abbrev pub is_writing : Setting → ℕ → Job → Bool
is_writing S v NoJob = false
is_writing S v (Submitted i) = is_write S i && (volume_of S i == v)
is_writing S v (Busy i r) = is_write S i && (volume_of S i == v)

abbrev pub any_writing : Setting → ℕ → List Client → Bool
any_writing S v clients = list_any (λ c. is_writing S v c.job) clients

abbrev pub idle_if : ℕ → (quiet : Bool) → Turn
idle_if v true = quietly (StateGoes v ToIdle ∷ [])
idle_if v false = idle

-- a volume that is active and isn't broken falls idle where no write is open
abbrev pub is_quiet : Setting → Control → ℕ → Volume → Bool
is_quiet S c v x = x.started && is_active x.state && not x.broken && not (any_writing S v c.clients)

abbrev pub quieted : Setting → Control → ℕ → Turn
quieted S c v = idle_if v (is_quiet S c v (volume_at c.volumes v))

-- A FAILURE ON ITS OWN

-- a disk that may be called fails, which may end what goes on
abbrev pub fails_if : Setting → Control → ℕ → (may : Bool) → Turn
fails_if S c d true = quietly (and_ended S c (DiskFails d))
fails_if S c d false = idle

-- A KILL AND A TAKEOVER

-- a monitor that lives, or reads in a takeover, can be killed
abbrev pub kills : Life → Turn
kills Lives = quietly (MonitorKilled ∷ [])
kills Killed = idle
kills (Takes left seen found) = quietly (MonitorKilled ∷ [])
kills Dead = idle

-- after a kill a takeover begins to read these disks, the working ones
abbrev pub restarts : List ℕ → Life → Turn
restarts left Lives = idle
restarts left Killed = quietly (TakeoverStarts left ∷ [])
restarts left (Takes more seen found) = idle
restarts left Dead = idle
