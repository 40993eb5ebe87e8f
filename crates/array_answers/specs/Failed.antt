-- Where an operation may be answered as failed. Source: md.rst (a volume runs while enough of its members are in sync).
use Rattle.std.specs.Prelude.{⊤, ℕ, List, [], ◌∷◌, ◌++◌, take}
use Rattle.units.specs.declared.disk.DiskNo.{DiskNo}
use Rattle.device_log.specs.Log.{Call}
use Rattle.array_model.specs.declared.script.Op.{Op}
use Rattle.array_model.specs.declared.journal.Entry.{Entry}
use Rattle.array_model.specs.declared.journal.Event.{Event}
use Rattle.array_model.specs.declared.journal.Event.TheVariants.{Fault, Ack}
use Rattle.array_model.specs.declared.journal.Answer.{Answer}
use Rattle.array_model.specs.declared.journal.Answer.TheVariants.{Failed}
use Rattle.array_model.specs.Script.{kind_at}
use Rattle.array_model.specs.Blocks.{Laid}
use Rattle.array_model.specs.Moments.{IsMoment}
use Rattle.array_model.specs.Rounds.{IsFinished}
use Rattle.array_model.specs.FailureLaw.{HasInSlot}
use Rattle.array_model.specs.Start.{Start}
use Rattle.array_machine.specs.Operations.{volume_in}

-- at some moment a fault was the last entry, of a disk that the last finished round's block had in a slot of the volume
pub record HasLostMember (start : Start) (log : List Call) (journal : List Entry) (v : ℕ) : Type 0 where
  pub calls : ℕ
  pub front : List Entry
  pub stamp : ℕ
  pub disk : DiskNo
  pub rest : List Entry
  pub moment : IsMoment log journal calls (front ++ record { stamp = stamp; event = Fault disk } ∷ []) rest
  pub block : Laid
  pub finished : IsFinished start (take calls log) (front ++ record { stamp = stamp; event = Fault disk } ∷ []) block
  pub slot : ℕ
  pub member : HasInSlot start block v slot disk.0

-- an answer
abbrev pub FailsByMember : Start → List Op → List Call → List Entry → ℕ → Answer → Type 0
FailsByMember start ops log front i Failed = HasLostMember start log front (volume_in (kind_at ops i))
FailsByMember start ops log front i _ = ⊤

-- the same of an entry
abbrev pub FailedLostMember : Start → List Op → List Call → List Entry → Event → Type 0
FailedLostMember start ops log front (Ack i answer) = FailsByMember start ops log front i answer
FailedLostMember start ops log front _ = ⊤
