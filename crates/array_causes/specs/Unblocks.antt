-- When a disk may be let go. Source: the states faulty and blocked of the kernel's md.rst: the disk stays blocked until
-- the metadata on the other disks says that it failed.
use Rattle.std.specs.Prelude.{⊤, ◌≡◌, false, List, take}
use Rattle.device_log.specs.Log.{Call}
use Rattle.array_model.specs.declared.journal.Entry.{Entry}
use Rattle.array_model.specs.declared.journal.Event.{Event}
use Rattle.array_model.specs.declared.journal.Event.TheVariants.{Unblock}
use Rattle.array_model.specs.Events.{AtEach}
use Rattle.array_model.specs.Blocks.{Laid}
use Rattle.array_model.specs.Rounds.{IsFinished}
use Rattle.array_model.specs.Start.{Start}

-- by the calls and the entries so far, the block of the last finished round doesn't expect the disk
abbrev pub IsRecorded : Start → List Call → List Entry → Event → Type 0
IsRecorded start log front (Unblock d) =
    (m : Laid) → IsFinished start log front m → start.words.expects m (start.disks.serial d.0) ≡ false
IsRecorded start log front _ = ⊤

-- The law: each disk that is let go is recorded as failed.
abbrev pub UnblocksAreRecorded : Start → List Call → List Entry → Type 0
UnblocksAreRecorded start log journal =
    AtEach (λ front e. IsRecorded start (take e.stamp log) front e.event) journal
