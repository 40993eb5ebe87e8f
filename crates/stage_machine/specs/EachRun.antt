-- What is said of each run of the machine whose opening the laws can speak of. Source: this project's own.
use Rattle.array_model.specs.Renewal.{FitsGeneration}
use Rattle.stage_machine.specs.Setting.{Setting, Renews}
use Rattle.stage_machine.specs.Opens.{AsksFirst, StandsOnAll, IsFirstVolume}
use Rattle.stage_machine.specs.Machine.{World, Reached}

-- of each run whose rounds renew blocks, whose newest block stands on all disks, whose volume is a first volume, and
-- whose generations fit their four bytes
abbrev pub OfEachRun : (Setting → World → Type 0) → Type 0
OfEachRun Law =
    (S : Setting) (w : World) → Renews S → StandsOnAll S → IsFirstVolume S
    → FitsGeneration w.control.round.note → Reached S w → Law S w

-- of each such run whose script is of clients below 16 and volume 0
abbrev pub OfEachFirstRun : (Setting → World → Type 0) → Type 0
OfEachFirstRun Law =
    (S : Setting) (w : World) → AsksFirst S → Renews S → StandsOnAll S → IsFirstVolume S
    → FitsGeneration w.control.round.note → Reached S w → Law S w
