-- The events of a turn as the journal has them, seen in the code's types. Source: this project's own.
use Rattle.std.specs.Prelude.{ℕ, List, [], ◌∷◌, replicate, slice_get, Option, Some, None}
use Rattle.std.specs.Option.{option_map_or}
use Rattle.units.specs.declared.bounds.TheConstants.{SECTOR_BYTES}
use Rattle.units.specs.declared.disk.Sector.{Sector}
use Rattle.array_model.specs.declared.journal.Event.{Event}
use Rattle.array_model.specs.declared.journal.Event.TheVariants as event
use Rattle.array_model.specs.declared.journal.Answer.TheVariants as answer
use Rattle.stage_machine.specs.States.{the_volume}
use Rattle.control_state.specs.declared.event.ShortEvent.{ShortEvent}
use Rattle.control_state.specs.declared.event.ShortEvent.TheVariants.{Begin, End, Ready, Active, Clean, Submit, Pending, Done, Past, Idle}
use Rattle.control_state.specs.declared.event.Events.{Events}
use Rattle.control_state.specs.declared.event.Events.TheVariants.{Zero, One, Two, Value}
use Rattle.control_state.specs.declared.client.Client.{Client}

abbrev pub event_of : ShortEvent → Event
event_of (Begin g) = event.Begin g
event_of (End g) = event.End g
event_of Ready = event.Ready the_volume
event_of Active = event.Active the_volume
event_of Clean = event.Clean the_volume
event_of (Submit op) = event.Submit op
event_of Pending = event.Pending the_volume
event_of (Done op) = event.Ack op answer.Done
event_of (Past op) = event.Ack op answer.Past
event_of Idle = event.Idle the_volume

abbrev pub blank_sector : Sector
blank_sector = record { 0 = replicate SECTOR_BYTES 0 }

-- the sector that stands with a client, if it is there
abbrev pub read_of : List Client → ℕ → Sector
read_of clients k = option_map_or (λ (c : Client). c.read) (slice_get clients k) blank_sector

abbrev pub listed : List Client → Events → List Event
listed clients Zero = []
listed clients (One e) = event_of e ∷ []
listed clients (Two e f) = event_of e ∷ event_of f ∷ []
listed clients (Value op k) = event.Ack op (answer.Value (read_of clients k)) ∷ []
