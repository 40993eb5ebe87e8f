-- A volume is write-pending right behind the submit of a write to it, in the same turn. Source: the state write-pending
-- of the kernel's md.rst, which a first write to a resting array brings.
use Rattle.std.specs.Prelude.{⊤, ◌≡◌, List, Option, Some, None}
use Rattle.std.specs.List.{last_or}
use Rattle.array_model.specs.declared.script.Op.{Op}
use Rattle.array_model.specs.declared.journal.Entry.{Entry}
use Rattle.array_model.specs.declared.journal.Event.TheVariants.{Submit}
use Rattle.array_model.specs.Events.{AtEach}
use Rattle.array_model.specs.Counts.{PendingAfter}
use Rattle.array_machine.specs.Changes.{Change, ClientMoves, Submits}
use Rattle.array_machine.specs.Machine.{World}

-- THE LAW

-- right before each entry that a volume is write-pending stands one of the same turn, by which a write to it is
-- submitted
abbrev pub WaitsBehindSubmits : List Op → List Entry → Type 0
WaitsBehindSubmits ops journal = AtEach (λ front e. PendingAfter ops front e.stamp e.event) journal

-- WHAT A RUN KEEPS

-- a submit that was the last change of this turn is the last entry
abbrev pub SaysLast : Option Change → World → Type 0
SaysLast (Some (ClientMoves k client (Submits i))) w =
    last_or None w.journal ≡ Some (record { stamp = w.calls; event = Submit i })
SaysLast _ w = ⊤

pub record WaitsSo (ops : List Op) (prev : Option Change) (w : World) : Type 0 where
  pub law : WaitsBehindSubmits ops w.journal
  pub last : SaysLast prev w
