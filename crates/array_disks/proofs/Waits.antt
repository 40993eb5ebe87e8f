-- What the next call of a block's write waits for: the call before it brings it about, and calls at rows keep it.
use Rattle.std.proofs.Common.{◌≡◌, ℕ, ◌≤◌, max, Bool, true, List, [], ◌∷◌, ◌++◌, length, ◌∙◌, subst, arith, append_assoc}
use Rattle.units.specs.declared.bounds.TheConstants.{METADATA_SECTORS}
use Rattle.device_log.specs.Log.{Call, What, Sync}
use Rattle.array_model.specs.Blocks.{Laid, Words, is_container}
use Rattle.array_model.specs.Start.{Disks}
use Rattle.array_model.specs.Candidates.{Disk, disk_after}
use Rattle.array_disks.specs.Held.{IsPending, IsReady, IsStanding, IsWholeOn, IsSole}
use Rattle.array_disks.specs.Calls.{call_on, after_call, RowCall, FitsEnd, extended_write, anchor_write, block_calls}
use Rattle.array_disks.proofs.Logs.{each_disk, called_has}
use Rattle.array_disks.proofs.Rows.{row_pending, row_ready, row_standing}
use Rattle.array_disks.proofs.Blocks.{extended_pending, extended_ready, anchor_known, anchor_candidates, anchor_stands}
use Rattle.array_disks.proofs.Syncs.{sync_leaves, sync_sole, sync_best}

module _ (W : Words) (disks : Disks) (log : List Call) (d : ℕ) where
  abbrev k : Disk
  k = disk_after W disks log d

  -- CALLS AT ROWS OF ANY DISK

  module _ (what : What) (went : Bool) (row : RowCall (disks.sectors d) what) (e : ℕ) (m : Laid) where
    -- its extended sectors go on to wait for their anchor
    pub pending_stays : IsPending (disk_after W disks log e) m → IsPending (after_call W disks log d what went e) m
    pending_stays =
        each_disk W disks (λ x k l. IsPending k m → IsPending l m) log d what went
        (row_pending W disks d k what went row m) (λ x k h. h) e

    module _ (room : METADATA_SECTORS ≤ disks.sectors e) (fits : FitsEnd W m) where
      abbrev HasRoom : ℕ → Type 0
      HasRoom x = METADATA_SECTORS ≤ disks.sectors x

      abbrev Ready : ℕ → Disk → Type 0
      Ready x k = IsReady (disks.sectors x) k m

      abbrev Stands : ℕ → Disk → Type 0
      Stands x k = IsStanding W (disks.sectors x) k m

      -- and to stand before its place
      pub ready_stays : IsReady (disks.sectors e) (disk_after W disks log e) m
          → IsReady (disks.sectors e) (after_call W disks log d what went e) m
      ready_stays =
          each_disk W disks (λ x k l. HasRoom x → Ready x k → Ready x l) log d what went
          (λ le h. row_ready W disks d k what went row m le fits h) (λ x k le h. h) e room

      -- a block that stands goes on to
      pub standing_stays : IsStanding W (disks.sectors e) (disk_after W disks log e) m
          → IsStanding W (disks.sectors e) (after_call W disks log d what went e) m
      standing_stays =
          each_disk W disks (λ x k l. HasRoom x → Stands x k → Stands x l) log d what went
          (λ le h. row_standing W disks d k what went row m le fits h) (λ x k le h. h) e room

  -- THE WRITE OF A BLOCK

  module _ (m : Laid) (room : METADATA_SECTORS ≤ disks.sectors d) (fits : FitsEnd W m) (stored : ℕ) (went : Bool) where
    abbrev first : What
    first = extended_write (disks.sectors d) m stored

    abbrev second : What
    second = anchor_write (disks.sectors d) m stored

    -- behind the extended sectors they wait for their anchor
    pub pending_behind : IsPending (after_call W disks log d (extended_write (disks.sectors d) m stored) went d) m
    pending_behind =
        called_has W disks (λ k. IsPending k m) log d first went (extended_pending W disks d m room fits k stored went)

    -- and where they were stored they stand
    pub ready_behind : length m.extended ≤ stored
        → IsReady (disks.sectors d) (after_call W disks log d (extended_write (disks.sectors d) m stored) went d) m
    ready_behind all =
        called_has W disks (λ k. IsReady (disks.sectors d) k m) log d first went
        (extended_ready W disks d m room fits k stored went all)

    -- behind the anchor the block is the first that is known
    pub known_behind : IsPending (disk_after W disks log d) m
        → (after_call W disks log d (anchor_write (disks.sectors d) m stored) went d).known
        ≡ m ∷ (disk_after W disks log d).known
    known_behind pending =
        called_has W disks (λ x. x.known ≡ m ∷ (disk_after W disks log d).known) log d second went
        (anchor_known W disks d m room fits k stored went pending)

    -- and the first candidate
    pub candidates_behind : IsPending (disk_after W disks log d) m
        → (after_call W disks log d (anchor_write (disks.sectors d) m stored) went d).candidates
        ≡ m ∷ (disk_after W disks log d).candidates
    candidates_behind pending =
        called_has W disks (λ x. x.candidates ≡ m ∷ (disk_after W disks log d).candidates) log d second went
        (anchor_candidates W disks d m room fits k stored went pending)

    -- and where the anchor was stored it stands
    pub standing_behind : 1 ≤ stored → IsReady (disks.sectors d) (disk_after W disks log d) m
        → IsStanding W (disks.sectors d) (after_call W disks log d (anchor_write (disks.sectors d) m stored) went d) m
    standing_behind some ready =
        called_has W disks (λ k. IsStanding W (disks.sectors d) k m) log d second went
        (anchor_stands W disks d m room fits k stored went some ready)

  -- THE SYNC BEHIND IT

  module _ (m : Laid) (there : IsStanding W (disks.sectors d) (disk_after W disks log d) m)
      (whole : IsWholeOn W disks d m) where
    -- it leaves the block alone
    pub alone_behind : (after_call W disks log d Sync true d).candidates ≡ m ∷ []
    alone_behind =
        called_has W disks (λ x. x.candidates ≡ m ∷ []) log d Sync true (sync_leaves W disks d k m there whole)

    -- as the sole candidate
    pub sole_behind : IsSole (after_call W disks log d Sync true d) m
    sole_behind = called_has W disks (λ x. IsSole x m) log d Sync true (sync_sole W disks d k m there whole)

    -- and the generation of a block of a container is counted
    pub best_behind : is_container W m ≡ true
        → (after_call W disks log d Sync true d).best ≡ max (disk_after W disks log d).best (W.generation m.anchor)
    best_behind container =
        called_has W disks (λ x. x.best ≡ max (disk_after W disks log d).best (W.generation m.anchor)) log d Sync true
        (sync_best W disks d k m there whole container)

-- ALL OF THEM

-- a block that fits is the sole candidate of a disk behind its write, whatever the disk held before
pub sole_behind_all : (W : Words) (disks : Disks) (log : List Call) (d : ℕ) (m : Laid)
    → METADATA_SECTORS ≤ disks.sectors d → FitsEnd W m → IsWholeOn W disks d m
    → IsSole (disk_after W disks (log ++ block_calls d (disks.sectors d) m) d) m
sole_behind_all W disks log d m room fits whole =
    subst (λ calls. IsSole (disk_after W disks calls d) m) joined
    (sole_behind W disks with_anchor d m there whole)
  where
    first : Call
    first = call_on d (extended_write (disks.sectors d) m (length m.extended)) true

    second : Call
    second = call_on d (anchor_write (disks.sectors d) m 1) true

    with_extended : List Call
    with_extended = log ++ first ∷ []

    with_anchor : List Call
    with_anchor = with_extended ++ second ∷ []

    there : IsStanding W (disks.sectors d) (disk_after W disks with_anchor d) m
    there =
        standing_behind W disks with_extended d m room fits 1 true (omega arith)
        (ready_behind W disks log d m room fits (length m.extended) true (omega arith))

    joined : with_anchor ++ call_on d Sync true ∷ [] ≡ log ++ block_calls d (disks.sectors d) m
    joined =
        append_assoc with_extended (second ∷ []) (call_on d Sync true ∷ [])
        ∙ append_assoc log (first ∷ []) (second ∷ call_on d Sync true ∷ [])
