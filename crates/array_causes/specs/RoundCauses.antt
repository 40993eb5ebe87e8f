-- The causes of rounds. Source: the numbers of super-intel.c (each write of the metadata takes the next generation);
-- that one round goes on at a time, and that a kill loses it, is this project's own.
use Rattle.std.specs.Prelude.{⊤, ◌≡◌, ℕ, ◌+◌, false, List, [], ◌∷◌, Option, Some, None}
use Rattle.array_model.specs.declared.journal.Entry.{Entry}
use Rattle.array_model.specs.declared.journal.Event.{Event}
use Rattle.array_model.specs.declared.journal.Event.TheVariants.{Begin, End, Kill}
use Rattle.array_model.specs.Events.{AtEach}
use Rattle.array_model.specs.Causes.{note_of}
use Rattle.array_model.specs.Start.{Start}
use Rattle.array_causes.specs.Failures.{is_down}

-- the generation of the round that goes on: it was begun and hasn't ended, and no kill came since
abbrev pub going_at : Option ℕ → Event → Option ℕ
going_at going (Begin g) = Some g
going_at going (End g) = None
going_at going Kill = None
going_at going _ = going

abbrev pub going_from : Option ℕ → List Entry → Option ℕ
going_from going [] = going
going_from going (e ∷ es) = going_from (going_at going e.event) es

abbrev pub going_of : List Entry → Option ℕ
going_of journal = going_from None journal

-- The monitor isn't killed, no round goes on, and the round has the generation behind the highest so far.
pub record BeginCause (start : Start) (front : List Entry) (g : ℕ) : Type 0 where
  pub lives : is_down front ≡ false
  pub alone : going_of front ≡ None
  pub next : g ≡ note_of start front + 1

-- a round ends that goes on
abbrev pub RoundCause : Start → List Entry → Event → Type 0
RoundCause start front (Begin g) = BeginCause start front g
RoundCause start front (End g) = going_of front ≡ Some g
RoundCause start front _ = ⊤

-- The law: each round begins and ends where it may.
abbrev pub RoundCauses : Start → List Entry → Type 0
RoundCauses start journal = AtEach (λ front e. RoundCause start front e.event) journal
