-- What holds of the rows of volumes whose slots hold copies, at every moment of an honest run: each slot that counts holds
-- the content of each sector that isn't unsure, unless a write of the sector goes on; and what jobs and passes have read
-- and written.
use Rattle.std.proofs.Common.{◌≡◌, ℕ, ◌<◌, ◌≤◌, Bool, true, false, List, [], ◌∷◌, length, Option, Some, None, ◌⊎◌, slice_index_or}
use Rattle.std.specs.Prelude.{⊤, filter}
use Rattle.units.specs.declared.disk.Sector.{Sector}
use Rattle.units.specs.declared.bounds.TheConstants.{CLIENTS}
use Rattle.device_log.specs.Log.{Call}
use Rattle.array_model.specs.declared.journal.Entry.{Entry}
use Rattle.array_model.specs.Placement.{Placement}
use Rattle.array_model.specs.Content.{content, is_still_unsure}
use Rattle.array_model.specs.AnswerLaw.{IsGiven, submitted_from}
use Rattle.array_machine.specs.Setting.{Setting}
use Rattle.array_machine.specs.Numbers.{has}
use Rattle.array_machine.specs.Volumes.{slot_at, disk_in, Got, Pass, volume_at}
use Rattle.array_machine.specs.Operations.{volume_of, shape_of, the_place, place_on, value_at, is_write}
use Rattle.array_machine.specs.Clients.{Row, Busy}
use Rattle.array_machine.specs.Control.{Control}
use Rattle.array_paths.specs.InTurn.{is_broken, job_of}
use Rattle.array_paths.specs.PassMove.{slots_of}
use Rattle.array_paths.specs.Honest.{stood_at}
use Rattle.array_values.specs.Copies.{sector_at, row_at, IsCopied, InPair}

abbrev pub pass_of : Control → ℕ → Option Pass
pass_of c v = (volume_at c.volumes v).pass

abbrev pub disk_of : Control → (v s : ℕ) → Option ℕ
disk_of c v s = disk_in (slots_of c v) s

abbrev pub disk_then : List (Option ℕ) → ℕ → Option ℕ
disk_then disks s = slice_index_or disks s None

-- what was read in a slot
abbrev pub read_of : ℕ → List Got → List Got
read_of s got = filter (λ g. has g.slot (s ∷ [])) got

-- a pass is past a row
pub record IsPast (pass : Option Pass) (row : ℕ) : Type 0 where
  pub at : Pass
  pub is : pass ≡ Some at
  pub above : row < at.row

-- no plan, or one slot of the placement
abbrev pub IsOneSlot : Placement → Option (List ℕ) → Type 0
IsOneSlot p None = ⊤
IsOneSlot p (Some []) = ⊥
IsOneSlot p (Some (s ∷ [])) = InPair p s
IsOneSlot p (Some (s ∷ t ∷ more)) = ⊥

module _ (S : Setting) where
  -- OF AN OPERATION'S SECTOR

  abbrev pub content_at : List Entry → ℕ → Sector
  content_at journal i = content S.start S.asked.ops journal (volume_of S i) (sector_at S i)

  abbrev pub is_unsure_at : List Entry → ℕ → Bool
  is_unsure_at journal i = is_still_unsure S.start S.asked.ops journal (volume_of S i) (sector_at S i)

  abbrev pub IsSure : List Entry → ℕ → Type 0
  IsSure journal i = is_unsure_at journal i ≡ false

  -- what stands in its row on disk d
  abbrev pub stood : List Call → (i d : ℕ) → Sector
  stood log i d = stood_at S log d (place_on S i)

  -- THE SLOTS THAT COUNT

  -- disk d, without a fault, is in a slot of the placement that is in sync, or whose row the pass is past
  pub record Counts (c : Control) (i s d : ℕ) : Type 0 where
    pub sound : is_broken c (volume_of S i) ≡ false
    pub pair : InPair (the_place S i) s
    pub disk : disk_of c (volume_of S i) s ≡ Some d
    pub works : has d c.round.faults ≡ false
    pub why : ((slot_at (slots_of c (volume_of S i)) s).in_sync ≡ true)
        ⊎ IsPast (pass_of c (volume_of S i)) (row_at S i)

  -- a job has begun to write the sector
  pub record IsWriting (c : Control) (i : ℕ) : Type 0 where
    pub client : ℕ
    pub op : ℕ
    pub row : Row
    pub has : job_of c client ≡ Busy op row
    pub begun : row.begun ≡ true
    pub writes : is_write S op ≡ true
    pub volume : volume_of S op ≡ volume_of S i
    pub sector : sector_at S op ≡ sector_at S i

  abbrev pub Tells : List Call → List Entry → (i d : ℕ) → Type 0
  Tells log journal i d = IsSure journal i → stood log i d ≡ content_at journal i

  -- JOBS

  -- A write that hasn't begun wrote nothing. Of one that has, each slot that counts holds its value where it wrote; else
  -- its disk is the one that the job saw.
  pub record WriterHolds (c : Control) (log : List Call) (i : ℕ) (r : Row) : Type 0 where
    pub early : r.begun ≡ false → r.written ≡ []
    pub wrote : r.begun ≡ true → (s d : ℕ) → Counts c i s d → has s r.written ≡ true → stood log i d ≡ value_at S i
    pub saw : r.begun ≡ true → (s d : ℕ) → Counts c i s d → has s r.written ≡ false → disk_then r.disks s ≡ Some d

  -- what a read has read: by a plan of one slot, in the row, since it was submitted
  pub record HasRead (log : List Call) (journal : List Entry) (i : ℕ) (r : Row) : Type 0 where
    pub got : Got
    pub is : r.got ≡ got ∷ []
    pub plan : r.plan ≡ Some (got.slot ∷ [])
    pub begun : r.begun ≡ true
    pub sure : IsSure journal i → got.sector ≡ content_at journal i
    pub given : IsGiven S.start log (volume_of S i) (row_at S i) (submitted_from i 0 journal) (length log) got.sector

  pub record ReaderHolds (log : List Call) (journal : List Entry) (i : ℕ) (r : Row) : Type 0 where
    pub plan : IsOneSlot (the_place S i) r.plan
    pub got : (r.got ≡ []) ⊎ HasRead log journal i r

  -- PASSES

  -- what a pass read in slot s of a row
  abbrev pub GotTells : List Entry → (v row s : ℕ) → Sector → Type 0
  GotTells journal v row s x =
      (i : ℕ) → volume_of S i ≡ v → IsCopied S i → row_at S i ≡ row → InPair (the_place S i) s → IsSure journal i
      → x ≡ content_at journal i

  pub record ReadOnce (journal : List Entry) (v row s : ℕ) (got : List Got) : Type 0 where
    pub one : Got
    pub is : read_of s got ≡ one ∷ []
    pub tells : GotTells journal v row s one.sector

  -- A pass holds the row in which it has read or written. What it read there is the content, and so is what stands where
  -- it wrote. At its end it is past all rows.
  pub record PassHolds (c : Control) (log : List Call) (journal : List Entry) (v : ℕ) (p : Pass) : Type 0 where
    pub lock : (p.lock ≡ Some p.row) ⊎ ((p.got ≡ []) × (p.written ≡ []))
    pub over : p.over ≡ true → (shape_of S v).rows ≤ p.row
    pub got : (s : ℕ) → (read_of s p.got ≡ []) ⊎ ReadOnce journal v p.row s p.got
    pub written : (i s d : ℕ) → volume_of S i ≡ v → IsCopied S i → row_at S i ≡ p.row → InPair (the_place S i) s
        → has s p.written ≡ true → disk_of c v s ≡ Some d → has d c.round.faults ≡ false → Tells log journal i d

  -- VOLUMES THAT RUN

  -- a slot of the placement may be read
  pub record MayRead (c : Control) (i : ℕ) : Type 0 where
    pub slot : ℕ
    pub disk : ℕ
    pub pair : InPair (the_place S i) slot
    pub is : disk_of c (volume_of S i) slot ≡ Some disk
    pub works : has disk c.round.faults ≡ false
    pub in_sync : (slot_at (slots_of c (volume_of S i)) slot).in_sync ≡ true

  -- ALL OF IT

  pub record RowsHold (c : Control) (log : List Call) (journal : List Entry) : Type 0 where
    pub holds : (i s d : ℕ) → IsCopied S i → Counts c i s d → Tells log journal i d ⊎ IsWriting c i
    pub writers : (k i : ℕ) (r : Row) → job_of c k ≡ Busy i r → is_write S i ≡ true → IsCopied S i
        → WriterHolds c log i r
    pub readers : (k i : ℕ) (r : Row) → job_of c k ≡ Busy i r → is_write S i ≡ false → IsCopied S i
        → ReaderHolds log journal i r
    pub passes : (v : ℕ) (p : Pass) → is_broken c v ≡ false → pass_of c v ≡ Some p → PassHolds c log journal v p
    pub runs : (i : ℕ) → IsCopied S i → S.start.is_started (volume_of S i) ≡ true
        → is_broken c (volume_of S i) ≡ false → MayRead c i
    pub clients : length c.clients ≡ CLIENTS
