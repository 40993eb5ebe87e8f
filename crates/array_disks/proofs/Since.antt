-- What the calls behind a stamp leave of a block's write, from which the log tells that the block was written.
use Rattle.std.proofs.Common.{◌≡◌, ℕ, ◌≤◌, Bool, List, [], ◌∷◌, ◌++◌, drop, length, refl, sym, ◌∙◌, subst, inl}
use Rattle.units.specs.declared.bounds.TheConstants.{METADATA_SECTORS}
use Rattle.device_log.specs.Log.{Call, What}
use Rattle.array_model.specs.Blocks.{Laid, Words}
use Rattle.array_model.specs.Start.{Disks}
use Rattle.array_model.specs.Candidates.{Disk, In, writes}
use Rattle.array_disks.specs.Held.{IsPending}
use Rattle.array_disks.specs.Calls.{call_on, behind, RowCall, FitsEnd, extended_write, anchor_write}
use Rattle.array_disks.specs.Brought.{disk_since}
use Rattle.array_disks.proofs.Logs.{each_called, called_here}
use Rattle.array_disks.proofs.Known.{disk_since_call}
use Rattle.array_disks.proofs.Rows.{row_pending}
use Rattle.array_disks.proofs.Blocks.{extended_pending, anchor_known}

module _ (W : Words) (disks : Disks) (log : List Call) (stamp : ℕ) (inside : stamp ≤ length log) where
  here_since : (d : ℕ) (what : What) (went : Bool)
      → disk_since W disks (log ++ call_on d what went ∷ []) stamp d
      ≡ behind W disks d (disk_since W disks log stamp d) what went
  here_since d what went =
      disk_since_call W disks d log stamp (call_on d what went) inside
      ∙ called_here W disks d (disk_since W disks log stamp d) what went

  -- a call at rows of any disk leaves which extended sectors wait for their anchor
  pub pending_since_row : (d : ℕ) (what : What) (went : Bool) → RowCall (disks.sectors d) what
      → (e : ℕ) (m : Laid) → IsPending (disk_since W disks log stamp e) m
      → IsPending (disk_since W disks (log ++ call_on d what went ∷ []) stamp e) m
  pending_since_row d what went row e m pending =
      subst (λ k. IsPending k m) (sym (disk_since_call W disks e log stamp (call_on d what went) inside))
      (each_called W disks (λ e k l. IsPending k m → IsPending l m) (call_on d what went) here (λ e k h. h) e
      (disk_since W disks log stamp e) pending)
    where
      here : (e : ℕ) → d ≡ e → (k : Disk) → IsPending k m → IsPending (behind W disks e k what went) m
      here e same k h = row_pending W disks e k what went (subst (λ x. RowCall (disks.sectors x) what) same row) m h

  module _ (d : ℕ) (m : Laid) (room : METADATA_SECTORS ≤ disks.sectors d) (fits : FitsEnd W m)
      (stored : ℕ) (went : Bool) where
    abbrev first : Call
    first = call_on d (extended_write (disks.sectors d) m stored) went

    abbrev second : Call
    second = call_on d (anchor_write (disks.sectors d) m stored) went

    -- behind their write those of a block do
    pub pending_since_behind : IsPending (disk_since W disks (log ++ first ∷ []) stamp d) m
    pending_since_behind =
        subst (λ k. IsPending k m) (sym (here_since d (extended_write (disks.sectors d) m stored) went))
        (extended_pending W disks d m room fits (disk_since W disks log stamp d) stored went)

    -- and behind the anchor the block was written since the stamp
    pub written_since_behind : IsPending (disk_since W disks log stamp d) m
        → In m (writes W disks d (drop stamp (log ++ second ∷ [])))
    written_since_behind pending =
        subst (λ (k : Disk). In m k.known) (sym (here_since d (anchor_write (disks.sectors d) m stored) went))
        (subst (In m) (sym (anchor_known W disks d m room fits (disk_since W disks log stamp d) stored went pending))
        (inl refl))
