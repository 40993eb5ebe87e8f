-- The machine: who takes a turn, what the turn does, and the worlds that a run comes to. It has no device: how a call
-- ends comes with the action. Source: this project's own, over mdadm's mdmon-design.txt.
use Rattle.std.specs.Prelude.{ℕ, ◌+◌, true, false, List, [], ◌∷◌, ◌++◌, map, Option, Some, None}
use Rattle.std.specs.List.{range_with_len}
use Rattle.units.specs.declared.bounds.TheConstants.{CLIENTS}
use Rattle.device_log.specs.Log.{Call}
use Rattle.array_model.specs.declared.journal.Entry.{Entry}
use Rattle.array_model.specs.declared.journal.Event.{Event}
use Rattle.array_model.specs.Renewal.{FitsGeneration}
use Rattle.array_machine.specs.Setting.{Setting}
use Rattle.array_machine.specs.Volumes.{Volume}
use Rattle.array_machine.specs.Operations.{ops_of}
use Rattle.array_machine.specs.Clients.{Client as AClient, client_at, with_job, NoJob}
use Rattle.array_machine.specs.Rounds.{Ended, Round, Lives, Rest, lives, working_disks}
use Rattle.array_machine.specs.Managers.{Manager as AManager, IsUnposted}
use Rattle.array_machine.specs.Control.{Control}
use Rattle.array_machine.specs.Changes.{Change, entry_of}
use Rattle.array_machine.specs.Puts.{puts}
use Rattle.array_machine.specs.Turns.{Turn, may_call}
use Rattle.array_machine.specs.ManagerTurns.{managing, living}
use Rattle.array_machine.specs.SyncTurns.{synced}
use Rattle.array_machine.specs.ClientTurns.{client_by}
use Rattle.array_machine.specs.OtherTurns.{quieted, fails_if, kills, restarts}

-- TURNS

-- who takes a turn: the monitor, the manager, the sync worker of a volume, a client; or a volume falls idle, a disk
-- fails on its own, the monitor is killed, and taken over
pub data Actor : Type 0 where
  Monitor : Actor
  Manager : Actor
  Sync : (v : ℕ) → Actor
  Client : (k : ℕ) → Actor
  Quiet : (v : ℕ) → Actor
  Fail : (d : ℕ) → Actor
  Kill : Actor
  Takeover : Actor

-- who takes a turn, and how the call ends that is made in it, if one is
pub record Action : Type 0 where
  pub actor : Actor
  pub ended : Ended

abbrev pub turn_of : Setting → Control → Ended → Actor → Turn
turn_of S c x Monitor = living S c x c.round.life
turn_of S c x Manager = managing S c (lives c.round.life)
turn_of S c x (Sync v) = synced S c v x
turn_of S c x (Client k) = client_by S c k x (client_at c.clients k).left (client_at c.clients k).job
turn_of S c x (Quiet v) = quieted S c v
turn_of S c x (Fail d) = fails_if S c d (may_call S c.round d)
turn_of S c x Kill = kills c.round.life
turn_of S c x Takeover = restarts (working_disks S c.round) c.round.life

abbrev pub turn : Setting → Control → Action → Turn
turn S c a = turn_of S c a.ended a.actor

-- WORLDS

-- the control state, how many calls were made, the log of them, and the journal
pub record World : Type 0 where
  pub control : Control
  pub calls : ℕ
  pub log : List Call
  pub journal : List Entry

abbrev pub calls_after : ℕ → Option Call → ℕ
calls_after n None = n
calls_after n (Some call) = n + 1

abbrev pub log_after : List Call → Option Call → List Call
log_after log None = log
log_after log (Some call) = log ++ call ∷ []

-- an entry has the number of the calls made by then, that of its own turn too
abbrev pub entered : ℕ → Option Event → List Entry
entered n None = []
entered n (Some e) = record { stamp = n; event = e } ∷ []

abbrev pub journal_after : Setting → ℕ → List Entry → List Change → List Entry
journal_after S n journal [] = journal
journal_after S n journal (a ∷ more) = journal_after S n (journal ++ entered n (entry_of S a)) more

abbrev pub after : Setting → World → Turn → World
after S w t = record {
  control = puts S t.changes w.control;
  calls = calls_after w.calls t.call;
  log = log_after w.log t.call;
  journal = journal_after S (calls_after w.calls t.call) w.journal t.changes;
}

-- one turn
abbrev pub happens : Setting → World → Action → World
happens S w a = after S w (turn S w.control a)

-- HOW A RUN BEGINS

-- the newest block is the book and what each disk was given, no round has ended, and one is due
abbrev pub first_round : Setting → Round
first_round S = record {
  book = S.start.newest;
  last = S.start.newest;
  note = S.start.words.generation S.start.newest.anchor;
  first = true;
  ended = false;
  fresh = true;
  faults = [];
  blocked = [];
  given = λ d. S.start.newest;
  life = Lives;
  phase = Rest;
}

-- each client with its operations of the script
abbrev pub clients_of : Setting → List AClient
clients_of S = map (λ k. with_job (ops_of S.asked.ops k) NoJob) (range_with_len 0 CLIENTS)

-- with these spares
abbrev pub first_manager : Setting → List ℕ → AManager
first_manager S spares = record {
  asks = map (λ ask. IsUnposted) S.asked.asks;
  queue = [];
  returned = 0;
  posted = 0;
  applied = None;
  spares = spares;
}

-- with the volumes as the opening gives them, and these spares
abbrev pub begins_at : (S : Setting) → List Volume → List ℕ → World
begins_at S volumes spares = record {
  control = record {
    round = first_round S;
    volumes = volumes;
    clients = clients_of S;
    manager = first_manager S spares;
  };
  calls = 0;
  log = [];
  journal = [];
}

-- RUNS

-- the worlds that a run may come to, as long as the next generation has its place in a block
pub data Reached (S : Setting) (volumes : List Volume) (spares : List ℕ) : World → Type 0 where
  opens : Reached S volumes spares (begins_at S volumes spares)
  goes : {w : World} → Reached S volumes spares w → (a : Action) → FitsGeneration (w.control.round.note + 1)
      → Reached S volumes spares (happens S w a)

-- these actions, one after the other
abbrev pub run : Setting → World → List Action → World
run S w [] = w
run S w (a ∷ more) = run S (happens S w a) more
