-- What the edits of a block are told of the run. Source: this project's own.
use Rattle.std.specs.Prelude.{ℕ, ◌&&◌, not, Bool, List}
use Rattle.std.specs.List.{list_any}
use Rattle.std.specs.Str.{bytes_eq}
use Rattle.array_machine.specs.Numbers.{has}
use Rattle.array_machine.specs.Setting.{Facts, Setting}
use Rattle.array_machine.specs.Volumes.{Volume, volume_at}
use Rattle.array_machine.specs.Rounds.{Round, all_disks}
use Rattle.array_machine.specs.Control.{Control}

-- a volume that was started and isn't broken
abbrev pub is_sound : Volume → Bool
is_sound x = x.started && not x.broken

-- a disk of this serial is there without a fault
abbrev pub is_healthy : Setting → Round → List ℕ → Bool
is_healthy S r serial = list_any (λ d. bytes_eq (S.start.disks.serial d) serial && not (has d r.faults)) (all_disks S)

-- the volumes that are broken, and the serials that the book expects of disks without a fault
abbrev pub facts_of : Setting → Control → Facts
facts_of S c = record {
  is_broken = λ v. (volume_at c.volumes v).broken;
  works = λ serial. S.start.words.expects c.round.book serial && is_healthy S c.round serial;
}
