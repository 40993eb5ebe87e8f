-- The turns of the worked run: a drain of one client that writes and reads. Source: this project's own.
use Rattle.std.specs.Prelude.{true, List, [], ◌∷◌, ◌++◌}
use Rattle.std.specs.List.{repeat}
use Rattle.array_model.specs.Small.{small_start, small_renew, the_script, the_value}
use Rattle.array_model.specs.Script.{sector_of}
use Rattle.stage_machine.specs.Setting.{Setting}
use Rattle.stage_machine.specs.Machine.{Action, Monitors, Asks, Quiets}

abbrev pub small_setting : Setting
small_setting = record {
  start = small_start;
  asked = the_script;
  targets = 0 ∷ 1 ∷ [];
  members = 0 ∷ 1 ∷ [];
  renew = small_renew;
}

abbrev pub monitor : Action
monitor = Monitors (record { went = true; stored = 0 })

abbrev pub client : Action
client = Asks 0 (record { went = true; stored = 0 }) (sector_of the_value)

-- cycles of the monitor and the client, then quiet, and cycles again
abbrev pub the_turns : List Action
the_turns = repeat 20 (monitor ∷ client ∷ []) ++ (Quiets ∷ repeat 7 (monitor ∷ client ∷ []))
