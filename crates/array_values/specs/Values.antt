-- What a read gives: the value of the last write that was acknowledged, or what stood there at opening; where the sector
-- was unsure at opening and no write to it was acknowledged since, what a read of the row gave meanwhile. Source: this
-- project's own.
use Rattle.std.specs.Prelude.{⊤, ◌≡◌, ℕ, ◌+◌, ◌<◌, true, false, Some, List, []}
use Rattle.device_log.specs.Log.{Call}
use Rattle.array_model.specs.declared.journal.Entry.{Entry}
use Rattle.array_model.specs.declared.journal.Event.{Event}
use Rattle.array_model.specs.declared.journal.Event.TheVariants.{Ack}
use Rattle.array_model.specs.declared.journal.Answer.TheVariants.{Value}
use Rattle.array_model.specs.Script.{kind_at}
use Rattle.array_model.specs.Placement.{Placement, placement_of}
use Rattle.array_model.specs.Events.{AtEach}
use Rattle.array_model.specs.AnswerLaw.{ValueOf}
use Rattle.array_machine.specs.Setting.{Setting}
use Rattle.array_machine.specs.Operations.{volume_of, shape_of}
use Rattle.array_machine.specs.Volumes.{Volume, volume_at, slot_at, disk_in, members_of, can_run}
use Rattle.array_machine.specs.Machine.{World}
use Rattle.array_values.specs.Copies.{HasCopies, InPair}

-- an answer with a value, of a volume that was started and whose slots hold copies
abbrev pub CopyGives : Setting → List Call → List Entry → (stamp : ℕ) → Event → Type 0
CopyGives S log front stamp (Ack i (Value x)) =
    S.start.is_started (volume_of S i) ≡ true → HasCopies S (volume_of S i)
    → ValueOf S.start S.asked.ops log front stamp i x (kind_at S.asked.ops i)
CopyGives S log front stamp _ = ⊤

-- each read of such a volume gives what was written
abbrev pub ReadsGiveWhatWasWritten : Setting → World → Type 0
ReadsGiveWhatWasWritten S w = AtEach (λ front e. CopyGives S w.log front e.stamp e.event) w.journal

-- What a law on values takes as given of the opening: no two volumes share a place of a disk; each volume has enough
-- slots in sync to run; and a slot in sync holds the content, where it isn't unsure.
pub record RowsOpen (S : Setting) (volumes : List Volume) : Type 0 where
  pub apart : (v w row other : ℕ) → S.start.is_started v ≡ true → S.start.is_started w ≡ true
      → row < (shape_of S v).rows → other < (shape_of S w).rows
      → (shape_of S v).pba + row ≡ (shape_of S w).pba + other → v ≡ w
  pub runs : (v : ℕ) → S.start.is_started v ≡ true → HasCopies S v
      → can_run (shape_of S v).level (members_of [] [] (volume_at volumes v).slots) ≡ true
  pub holds : (v s t d : ℕ) (lies : Placement) → HasCopies S v → placement_of (shape_of S v) s ≡ Some lies
      → InPair lies t → (slot_at (volume_at volumes v).slots t).in_sync ≡ true
      → disk_in (volume_at volumes v).slots t ≡ Some d → S.start.unsure v s ≡ false
      → S.start.disks.opening d ((shape_of S v).pba + lies.row) ≡ S.start.content v s
