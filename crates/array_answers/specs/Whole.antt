-- What is said to an operation that asks for a whole volume. Source: this project's own.
use Rattle.std.specs.Prelude.{⊤, ◌≡◌, ℕ, false, List}
use Rattle.device_log.specs.Log.{Call}
use Rattle.array_model.specs.declared.journal.Entry.{Entry}
use Rattle.array_model.specs.declared.journal.Event.{Event}
use Rattle.array_model.specs.declared.journal.Event.TheVariants.{Ack}
use Rattle.array_model.specs.declared.journal.Answer.{Answer}
use Rattle.array_model.specs.declared.journal.Answer.TheVariants.{Done}
use Rattle.array_model.specs.Script.{Asked, kind_at}
use Rattle.array_model.specs.Start.{Start}
use Rattle.array_model.specs.AnswerLaw.{WholeFor}
use Rattle.array_machine.specs.Setting.{Setting}
use Rattle.array_machine.specs.Volumes.{volume_at}
use Rattle.array_machine.specs.Operations.{volume_of, is_write}
use Rattle.array_machine.specs.Clients.{Row, Busy}
use Rattle.array_machine.specs.ClientTurns.{is_shut}
use Rattle.array_machine.specs.Control.{Control}
use Rattle.array_paths.specs.InTurn.{job_of}

-- an answer keeps the law on `whole`, where it is `done`
abbrev pub WholeIfDone : Start → Asked → List Call → List Entry → ℕ → Answer → Type 0
WholeIfDone start asked calls front i Done = WholeFor start asked calls front Done (kind_at asked.ops i)
WholeIfDone start asked calls front i _ = ⊤

-- the same of an entry
abbrev pub DoneIsWhole : Start → Asked → List Call → List Entry → Event → Type 0
DoneIsWhole start asked calls front (Ack i answer) = WholeIfDone start asked calls front i answer
DoneIsWhole start asked calls front _ = ⊤

-- an operation that goes on and isn't a write is of a volume that takes operations
abbrev pub JobsAreOpen : Setting → Control → Type 0
JobsAreOpen S c =
    (k i : ℕ) (r : Row) → job_of c k ≡ Busy i r → is_write S i ≡ false
    → is_shut (volume_at c.volumes (volume_of S i)) ≡ false
