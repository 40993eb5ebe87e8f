-- What a run starts from: the newest block stands on a disk, each disk that it expects holds a block of its generation,
-- but for those that count out, and volumes are as its words say. Source: load_container_imsm of super-intel.c, and
-- the slots that assemble.c gives to the kernel; that some disks count out is this project's own.
use Rattle.std.specs.Prelude.{◌≡◌, ℕ, ◌≤◌, ◌&&◌, not, Bool, true, false, List, [], map, None, if◌then◌else◌}
use Rattle.array_model.specs.Blocks.{Laid, SlotWords}
use Rattle.array_disks.specs.Held.{first_block}
use Rattle.array_machine.specs.Setting.{Setting}
use Rattle.array_machine.specs.Numbers.{has, has_serial}
use Rattle.array_machine.specs.States.{IsReadonly}
use Rattle.array_machine.specs.Volumes.{Slot, Volume, volume_at}
use Rattle.array_machine.specs.Rounds.{expects}
use Rattle.array_machine.specs.RoundEnds.{seat_of}
use Rattle.array_model.specs.Blocks.{SaysAlike}
use Rattle.array_base.specs.Premises.{generation_of, IsContainer, IsWholeAt, MayBeBook, Premises}

module _ (S : Setting) where
  -- DISKS

  -- the block that stood at the end of disk d
  abbrev pub first_at : ℕ → Laid
  first_at d = first_block S.start.words S.start.disks d

  -- it is a container's, and whole there
  pub record HoldsContainer (d : ℕ) : Type 0 where
    pub whole : IsWholeAt S d (first_at d)
    pub container : IsContainer S (first_at d)

  -- before the first round finishes, slots of the disk don't count as in sync
  abbrev pub counts_out : ℕ → Bool
  counts_out d = has_serial (S.start.disks.serial d) S.start.counts_out

  -- VOLUMES

  -- a slot has the disk of its record, where that is expected; a disk that counts out isn't in sync
  abbrev pub slot_opened : SlotWords → Slot
  slot_opened w = record {
    disk = seat_of S w;
    in_sync = w.is_in_sync && not (has_serial w.serial S.start.counts_out);
  }

  -- volume v is readonly and has no pass yet; if it was started it has the slots that the newest block says
  pub record OpensAs (v : ℕ) (x : Volume) : Type 0 where
    pub started : x.started ≡ S.start.is_started v
    pub state : x.state ≡ IsReadonly
    pub sound : x.broken ≡ false
    pub pass : x.pass ≡ None
    pub slots : x.slots ≡ (if x.started then map slot_opened (S.start.words.slots S.start.newest v) else [])

  -- ALL

  -- The newest block may be the book. It stands on some disk, and each disk that it expects and that doesn't count out
  -- holds a container's block of its generation. Containers' blocks of one generation say alike, and none is above it.
  pub record Opening (P : Premises S) (volumes : List Volume) (spares : List ℕ) : Type 0 where
    pub newest : MayBeBook S P.edits.formed S.start.newest
    pub disk : ℕ
    pub there : HoldsContainer disk
    pub stands : first_at disk ≡ S.start.newest
    pub members : (d : ℕ) → expects S S.start.newest d ≡ true → counts_out d ≡ false → HoldsContainer d
    pub level : (d : ℕ) → expects S S.start.newest d ≡ true → counts_out d ≡ false
        → generation_of S (first_at d) ≡ generation_of S S.start.newest
    pub alike : (d e : ℕ) → HoldsContainer d → HoldsContainer e
        → generation_of S (first_at d) ≡ generation_of S (first_at e)
        → SaysAlike S.start.words (first_at d) (first_at e)
    pub top : (d : ℕ) → HoldsContainer d → generation_of S (first_at d) ≤ generation_of S S.start.newest
    pub volumes_are : (v : ℕ) → OpensAs v (volume_at volumes v)
    pub spares_are : (d : ℕ) → has d spares ≡ S.start.is_spare d
