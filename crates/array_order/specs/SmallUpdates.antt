-- Journals of updates: one in order, and three that aren't. Source: this project's own.
use Rattle.std.specs.Prelude.{List, [], ◌∷◌}
use Rattle.array_model.specs.declared.journal.Entry.{Entry}
use Rattle.array_model.specs.declared.journal.Event.{Event}
use Rattle.array_model.specs.declared.journal.Event.TheVariants.{Posted, Applied}

abbrev pub enters : Event → Entry
enters event = record { stamp = 0; event = event }

-- two on their way, of which the first is applied before a third is posted
abbrev pub handed_on : List Entry
handed_on = enters (Posted 0) ∷ enters (Posted 1) ∷ enters (Applied 0) ∷ enters (Posted 2) ∷ []

-- the second is applied before the first
abbrev pub out_of_turn : List Entry
out_of_turn = enters (Posted 0) ∷ enters (Posted 1) ∷ enters (Applied 1) ∷ []

-- one is applied twice
abbrev pub applied_twice : List Entry
applied_twice = enters (Posted 0) ∷ enters (Applied 0) ∷ enters (Applied 0) ∷ []

-- five are on their way
abbrev pub too_many : List Entry
too_many =
    enters (Posted 0) ∷ enters (Posted 1) ∷ enters (Posted 2) ∷ enters (Posted 3) ∷ enters (Posted 4) ∷ []
