-- Small journals that runs don't make: each breaks one of the counts, or the order of one turn. Source: this project's
-- own.
use Rattle.std.specs.Prelude.{◌==◌, List, [], ◌∷◌}
use Rattle.std.specs.List.{repeat}
use Rattle.units.specs.declared.disk.DiskNo.{DiskNo}
use Rattle.array_model.specs.declared.journal.Entry.{Entry}
use Rattle.array_model.specs.declared.journal.Event.TheVariants.{Begin, End, Ready, Pass, Point, Posted, Applied, Submit, Pending, Fault}
use Rattle.array_model.specs.Start.{Start}
use Rattle.array_model.specs.Small.{the_volume, at, small_start}

-- a volume is made ready twice
abbrev pub twice_ready : List Entry
twice_ready = at 4 (Ready the_volume) ∷ at 4 (Ready the_volume) ∷ []

abbrev pub the_disk : DiskNo
the_disk = record { 0 = 1 }

-- a disk fails twice
abbrev pub twice_failed : List Entry
twice_failed = at 2 (Fault the_disk) ∷ at 5 (Fault the_disk) ∷ []

-- one round began, and two end
abbrev pub twice_ended : List Entry
twice_ended = at 0 (Begin 2) ∷ at 4 (End 2) ∷ at 4 (End 2) ∷ []

-- the second disk was a spare at opening
abbrev pub spared_start : Start
spared_start = record small_start { is_spare = λ d. d == 1 }

-- a pass begins with the ready, and one for a spare that was activated; there are no asks
abbrev pub passing_journal : List Entry
passing_journal =
    at 4 (Ready the_volume) ∷ at 4 (Pass the_volume 0) ∷ at 6 (Posted 0) ∷ at 6 (Applied 0) ∷ at 6 (Begin 3)
    ∷ at 12 (End 3) ∷ at 12 (Pass the_volume 0) ∷ []

-- the volume was made ready once, no update was applied, and two passes begin
abbrev pub twice_passed : List Entry
twice_passed = at 4 (Ready the_volume) ∷ at 4 (Pass the_volume 0) ∷ at 9 (Pass the_volume 0) ∷ []

-- one round ends, and two points are told
abbrev pub twice_told : List Entry
twice_told = at 4 (End 2) ∷ at 4 (Point the_volume 0) ∷ at 4 (Point the_volume 8) ∷ []

-- the volume waits once more, in a turn that submits nothing
abbrev pub waits_on_its_own : List Entry
waits_on_its_own = at 4 (Ready the_volume) ∷ at 4 (Submit 0) ∷ at 5 (Pending the_volume) ∷ []

-- a third disk fails, of two
abbrev pub names_a_third : List Entry
names_a_third = at 3 (Fault (record { 0 = 2 })) ∷ []

-- round after round begins
abbrev pub endless_journal : List Entry
endless_journal = repeat 145 (at 0 (Begin 2) ∷ [])
