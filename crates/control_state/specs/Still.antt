-- Whether an actor has nothing to do. Source: this project's own.
use Rattle.std.specs.Prelude.{Bool, true, false, ◌&&◌, List, [], ◌∷◌, Option, is_none}
use Rattle.device_log.specs.Log.{Call}
use Rattle.array_model.specs.declared.journal.Event.{Event}
use Rattle.stage_machine.specs.Setting.{Setting}
use Rattle.stage_machine.specs.Machine.{Control, Out, Action, turn, turn_call, call_of, turned}

-- nothing is entered
abbrev pub is_silent : List Event → Bool
is_silent [] = true
is_silent (e ∷ es) = false

-- no call is made and nothing is entered
abbrev pub does_nothing : Option Call → Out → Bool
does_nothing call out = is_none call && is_silent out.events

-- the same of the machine's turn of an actor, where no call has failed
abbrev pub turn_does_nothing : Setting → Control → Action → Bool
turn_does_nothing S c a = does_nothing (turn_call S c a) (turn S c a)

-- the machine's turn of an actor makes no call and enters nothing
abbrev pub is_still : Setting → Control → Action → Bool
is_still S c a = does_nothing (call_of S c a) (turned S c a)
