-- What an entry of a run can hold: numbers of their types, and sectors of 512 bytes. Source: this project's own.
use Rattle.std.specs.Prelude.{◌≡◌, ℕ, ◌<◌, ◌^◌, length, ⊤}
use Rattle.std.specs.List.{All}
use Rattle.units.specs.declared.disk.Sector.{Sector}
use Rattle.array_model.specs.declared.journal.Entry.{Entry}
use Rattle.array_model.specs.declared.journal.Event.{Event}
use Rattle.array_model.specs.declared.journal.Event.TheVariants.{Begin, End, Spare, Ready, Pass, Point, PassEnd, Active, Clean, Unblock, Posted, Applied, Declined, Submit, Pending, Ack, Idle, Fault, Kill, Takeover}
use Rattle.array_model.specs.declared.journal.Answer.{Answer}
use Rattle.array_model.specs.declared.journal.Answer.TheVariants.{Done, Value, Past, Failed, NoSpare}

abbrev pub IsByte : ℕ → Type 0
IsByte n = n < 2 ^ 8

abbrev pub IsSector : Sector → Type 0
IsSector s = (length s.0 ≡ 512) × All IsByte s.0

abbrev pub FitsAnswer : Answer → Type 0
FitsAnswer Done = ⊤
FitsAnswer (Value s) = IsSector s
FitsAnswer Past = ⊤
FitsAnswer Failed = ⊤
FitsAnswer NoSpare = ⊤

abbrev pub FitsEvent : Event → Type 0
FitsEvent (Begin g) = g < 2 ^ 32
FitsEvent (End g) = g < 2 ^ 32
FitsEvent (Spare d) = IsByte d.0
FitsEvent (Ready v) = IsByte v.0
FitsEvent (Pass v row) = IsByte v.0 × (row < 2 ^ 64)
FitsEvent (Point v unit) = IsByte v.0 × (unit < 2 ^ 64)
FitsEvent (PassEnd v) = IsByte v.0
FitsEvent (Active v) = IsByte v.0
FitsEvent (Clean v) = IsByte v.0
FitsEvent (Unblock d) = IsByte d.0
FitsEvent (Posted n) = n < 2 ^ 64
FitsEvent (Applied n) = n < 2 ^ 64
FitsEvent (Declined n kind) = n < 2 ^ 64
FitsEvent (Submit i) = i < 2 ^ 64
FitsEvent (Pending v) = IsByte v.0
FitsEvent (Ack i answer) = (i < 2 ^ 64) × FitsAnswer answer
FitsEvent (Idle v) = IsByte v.0
FitsEvent (Fault d) = IsByte d.0
FitsEvent Kill = ⊤
FitsEvent Takeover = ⊤

abbrev pub FitsEntry : Entry → Type 0
FitsEntry e = (e.stamp < 2 ^ 64) × FitsEvent e.event
