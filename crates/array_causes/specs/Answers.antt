-- The causes of answers. Source: this project's own; an operation fails only where a disk failed before.
use Rattle.std.specs.Prelude.{⊤, ◌≡◌, true, List}
use Rattle.array_model.specs.declared.script.Op.{Op}
use Rattle.array_model.specs.declared.journal.Entry.{Entry}
use Rattle.array_model.specs.declared.journal.Event.{Event}
use Rattle.array_model.specs.declared.journal.Event.TheVariants.{Ack}
use Rattle.array_model.specs.declared.journal.Answer.{Answer}
use Rattle.array_model.specs.declared.journal.Answer.TheVariants.{Failed}
use Rattle.array_model.specs.Script.{kind_at}
use Rattle.array_model.specs.Events.{AtEach, has, is_any_fault}
use Rattle.array_model.specs.Start.{Start}
use Rattle.array_causes.specs.AnswerKinds.{IsAnswerOf}

-- a failure of an operation comes behind one of a disk
abbrev pub FailsAfterFault : List Entry → Answer → Type 0
FailsAfterFault front Failed = has is_any_fault front ≡ true
FailsAfterFault front _ = ⊤

abbrev pub AnswerCause : Start → List Op → List Entry → Event → Type 0
AnswerCause start ops front (Ack i answer) =
    IsAnswerOf start answer (kind_at ops i) × FailsAfterFault front answer
AnswerCause start ops front _ = ⊤

-- The law: each answer is one that its operation may get, and has its cause.
abbrev pub AnswerCauses : Start → List Op → List Entry → Type 0
AnswerCauses start ops journal = AtEach (λ front e. AnswerCause start ops front e.event) journal
