-- Room in a journal: a turn is taken only where four entries more have room. Source: this project's own.
use Rattle.std.specs.Prelude.{◌≡◌, ℕ, ◌+◌, ◌≤◌, Bool, true, false, List, length}
use Rattle.array_model.specs.declared.journal.Answer.{Answer}
use Rattle.array_model.specs.declared.journal.Answer.TheVariants.{Past}
use Rattle.array_model.specs.declared.journal.Entry.{Entry}
use Rattle.array_model.specs.declared.journal.Event.{Event}
use Rattle.array_model.specs.declared.journal.Event.TheVariants.{Ack, Pending}
use Rattle.array_model.specs.Events.{AtEach}

abbrev pub is_past : Answer → Bool
is_past Past = true
is_past _ = false

-- an entry of the same turn as the one before it: what comes with a submit
abbrev pub comes_second : Event → Bool
comes_second (Pending v) = true
comes_second (Ack i answer) = is_past answer
comes_second _ = false

-- each turn that entered something began where the journal, of so many entries at most, had room for four
abbrev pub BeginsWithRoom : ℕ → List Entry → Type 0
BeginsWithRoom limit journal = AtEach (λ front e. comes_second e.event ≡ false → length front + 4 ≤ limit) journal
