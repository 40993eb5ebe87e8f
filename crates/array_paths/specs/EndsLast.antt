-- Where the end of a round stands in its turn: behind it the turn moves the passes of volumes, as the end of that round
-- moves them, and does nothing else. Laws on the slots of volumes rest on it. Source: this project's own.
use Rattle.std.specs.Prelude.{⊤, ◌≡◌, List, [], ◌∷◌}
use Rattle.array_machine.specs.Setting.{Setting}
use Rattle.array_machine.specs.Control.{Control}
use Rattle.array_machine.specs.Changes.{Change, RoundEnds}
use Rattle.array_machine.specs.Puts.{put}
use Rattle.array_machine.specs.RoundEnds.{all_runs, volumes_ended}

-- changes, one after the other, from this control state
abbrev pub EndsLast : Setting → Control → List Change → Type 0
EndsLast S c [] = ⊤
EndsLast S c (RoundEnds m ∷ more) =
    more ≡ all_runs (volumes_ended S c.round.faults c.round.last m 0 c.volumes)
EndsLast S c (a ∷ more) = EndsLast S (put S a c) more
