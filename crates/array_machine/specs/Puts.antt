-- What a change leaves of the control state. A change of one part leaves the others alone; a disk's failure, a round's
-- end and a kill reach further. Source: the turns of mdadm's monitor.c and managemon.c, and this project's own.
use Rattle.std.specs.Prelude.{ℕ, ◌+◌, true, false, List, [], ◌∷◌, map, slice_set, Option}
use Rattle.array_machine.specs.Numbers.{without}
use Rattle.array_machine.specs.Setting.{Setting}
use Rattle.array_machine.specs.States.{State, state_after}
use Rattle.array_machine.specs.Volumes.{Slot, Pass, Volume, volume_at}
use Rattle.array_machine.specs.Clients.{Client}
use Rattle.array_machine.specs.Rounds.{OfRound, OfSpare, Rest, Lives, Killed, Takes, Dead, Round, targets, late_targets, on_with, stepped, gives}
use Rattle.array_machine.specs.Managers.{AskState, IsUnposted, IsApplied, IsSettled, Want, OfAsk, OfSpareDisk, Manager}
use Rattle.array_machine.specs.Control.{Control}
use Rattle.array_machine.specs.Changes.{Change, StepsOn, RoundBegins, SpareBegins, RoundEnds, SpareEnds, RoundLapses, DiskFails, DiskUnblocks, StateGoes, ClientMoves, PassMoves, ManagerMoves, MonitorKilled, TakeoverStarts, TakeoverReads, MonitorResumes, MonitorDies}
use Rattle.array_machine.specs.Faults.{round_without, volumes_without, clients_without}

-- THE ROUND

-- A round begins with its block as the book. A kill loses the round, and what is recorded; a takeover goes on from the
-- block that a disk was given last, and owes a round.
abbrev pub put_round : Setting → Change → Round → Round
put_round S StepsOn r = record r { given = gives r.phase r.given; phase = stepped r.phase }
put_round S (RoundBegins m) r = record r {
  book = m;
  note = r.note + 1;
  fresh = false;
  phase = on_with OfRound m (targets S r m) (late_targets S r m) false;
}
put_round S (SpareBegins d m) r = record r { phase = on_with (OfSpare d) m (d ∷ []) [] false }
put_round S (RoundEnds m) r = record r { last = m; first = false; ended = true; phase = Rest }
put_round S (SpareEnds d) r = record r { phase = Rest }
put_round S RoundLapses r = record r { phase = Rest }
put_round S (DiskFails d) r = round_without S d r
put_round S (DiskUnblocks d) r = record r { blocked = without d r.blocked }
put_round S MonitorKilled r = record r { ended = false; life = Killed; phase = Rest }
put_round S (TakeoverStarts left) r = record r { life = Takes left [] [] }
put_round S (TakeoverReads left seen found) r = record r { life = Takes left seen found }
put_round S (MonitorResumes d) r = record r {
  book = r.given d;
  ended = false;
  fresh = true;
  life = Lives;
  phase = Rest;
}
put_round S MonitorDies r = record r { life = Dead }
put_round S _ r = r

-- VOLUMES

abbrev pub set_state : List Volume → ℕ → State → List Volume
set_state volumes v state = slice_set volumes v (record (volume_at volumes v) { state = state })

abbrev pub set_pass : List Volume → ℕ → List Slot → Option Pass → List Volume
set_pass volumes v slots pass = slice_set volumes v (record (volume_at volumes v) { slots = slots; pass = pass })

abbrev pub put_volumes : Setting → Change → Control → List Volume
put_volumes S (DiskFails d) c = volumes_without S d (round_without S d c.round) 0 c.volumes
put_volumes S (StateGoes v word) c = set_state c.volumes v (state_after word)
put_volumes S (PassMoves v slots pass word) c = set_pass c.volumes v slots pass
put_volumes S _ c = c.volumes

-- CLIENTS

abbrev pub put_clients : Setting → Change → Control → List Client
put_clients S (DiskFails d) c = clients_without S d c.volumes c.clients
put_clients S (ClientMoves k client word) c = slice_set c.clients k client
put_clients S _ c = c.clients

-- THE MANAGER

-- the ask that an update is of, if it is of one, stands here now
abbrev pub set_ask : List AskState → Want → AskState → List AskState
set_ask asks (OfAsk i) state = slice_set asks i state
set_ask asks (OfSpareDisk d index) state = asks

-- an applied ask is settled with the end of its round or of its spare's write, also where no target finished
abbrev pub ask_ended : AskState → AskState
ask_ended IsApplied = IsSettled
ask_ended state = state

-- a kill loses an applied ask whose round or spare's write hasn't ended: it is to be posted again
abbrev pub ask_killed : AskState → AskState
ask_killed IsApplied = IsUnposted
ask_killed state = state

abbrev pub put_manager : Change → Manager → Manager
put_manager (ManagerMoves manager word) m = manager
put_manager (RoundEnds block) m = record m { asks = map ask_ended m.asks }
put_manager (SpareEnds d) m = record m { asks = map ask_ended m.asks; spares = d ∷ m.spares }
put_manager RoundLapses m = record m { asks = map ask_ended m.asks }
put_manager MonitorKilled m = record m { asks = map ask_killed m.asks }
put_manager _ m = m

-- THE WHOLE

-- what a change leaves, all parts of it as they were before it
abbrev pub put : Setting → Change → Control → Control
put S a c = record {
  round = put_round S a c.round;
  volumes = put_volumes S a c;
  clients = put_clients S a c;
  manager = put_manager a c.manager;
}

-- changes, one after the other
abbrev pub puts : Setting → List Change → Control → Control
puts S [] c = c
puts S (a ∷ more) c = puts S more (put S a c)
