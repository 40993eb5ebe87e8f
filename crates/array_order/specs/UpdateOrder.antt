-- The order of the updates that go from the manager to the monitor, in a journal. Source: this project's own, over the
-- update queue of mdadm's monitor.c, which is emptied in order.
use Rattle.std.specs.Prelude.{⊤, ◌≡◌, ℕ, ◌+◌, ◌<◌, List, [], ◌∷◌}
use Rattle.array_model.specs.declared.journal.Entry.{Entry}
use Rattle.array_model.specs.declared.journal.Event.{Event}
use Rattle.array_model.specs.declared.journal.Event.TheVariants.{Posted, Applied, Declined}
use Rattle.array_model.specs.Events.{AtEach, count, is_posted, is_settled}
use Rattle.array_machine.specs.Managers.{Update}

-- behind so many that were posted, and so many that were applied or declined
abbrev pub ComesNext : (posted settled : ℕ) → Event → Type 0
ComesNext posted settled (Posted n) = (n ≡ posted) × (posted < settled + 4)
ComesNext posted settled (Applied n) = (n ≡ settled) × (settled < posted)
ComesNext posted settled (Declined n kind) = (n ≡ settled) × (settled < posted)
ComesNext posted settled _ = ⊤

-- The law: the numbers posted are 0, 1, 2 and so on; each number that is applied or declined is the next one, and was
-- posted; at most four are on their way.
abbrev pub UpdatesInOrder : List Entry → Type 0
UpdatesInOrder journal =
    AtEach (λ front e. ComesNext (count is_posted front) (count is_settled front) e.event) journal

-- the updates on their way have these numbers, one behind the other
abbrev pub AreNumbered : (from : ℕ) → List Update → (to : ℕ) → Type 0
AreNumbered from [] to = from ≡ to
AreNumbered from (u ∷ us) to = (u.number ≡ from) × AreNumbered (from + 1) us to
