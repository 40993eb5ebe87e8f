-- What stands right before an entry: the entry before it, and the end of a round behind which only entries on passes
-- stand. Source: this project's own.
use Rattle.std.specs.Prelude.{◌≡◌, ℕ, List, [], ◌∷◌, Option, Some, None}
use Rattle.std.specs.List.{last_or}
use Rattle.array_model.specs.declared.journal.Entry.{Entry}
use Rattle.array_model.specs.declared.journal.Event.{Event}
use Rattle.array_model.specs.declared.journal.Event.TheVariants.{End, Pass, Point, PassEnd}

-- the entry before is this one, of the same turn
abbrev pub IsRightBehind : List Entry → (stamp : ℕ) → Event → Type 0
IsRightBehind front stamp event = last_or None front ≡ Some (record { stamp = stamp; event = event })

-- the stamp of the last end of a round, where nothing but entries on passes stands behind it
abbrev pub end_at : (stamp : ℕ) → Option ℕ → Event → Option ℕ
end_at stamp end (End g) = Some stamp
end_at stamp end (Pass v row) = end
end_at stamp end (Point v unit) = end
end_at stamp end (PassEnd v) = end
end_at stamp end _ = None

abbrev pub end_from : Option ℕ → List Entry → Option ℕ
end_from end [] = end
end_from end (e ∷ es) = end_from (end_at e.stamp end e.event) es

-- a round ended in the same turn, and only entries on passes stand behind its end
abbrev pub IsBehindEnd : List Entry → (stamp : ℕ) → Type 0
IsBehindEnd front stamp = end_from None front ≡ Some stamp
