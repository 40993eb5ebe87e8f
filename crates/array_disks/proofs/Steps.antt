-- A call at the end of a log: what it changes of the disks' blocks.
use Rattle.std.proofs.Common.{◌≡◌, ℕ, ◌≤◌, Bool, List, [], ◌∷◌, ◌++◌, refl, sym, subst, ◌⊎◌, inl, inr}
use Rattle.units.specs.declared.bounds.TheConstants.{METADATA_SECTORS}
use Rattle.device_log.specs.Log.{Call, What, Read, Write, Sync}
use Rattle.array_model.specs.Blocks.{Laid, Words}
use Rattle.array_model.specs.Start.{Disks}
use Rattle.array_model.specs.Candidates.{Disk, In, disk_after}
use Rattle.array_disks.specs.Held.{HasCandidate, IsPending, AccountForEnd, AccountForEnds}
use Rattle.array_disks.specs.Calls.{call_on, behind, after_call, RowCall, row_read, row_write, row_sync, IsSettled, FitsEnd, extended_write, anchor_write, RunCall, at_rows, of_extended, of_anchor}
use Rattle.array_disks.specs.Changes.{SameBlocks, BestStays, Narrows, Adds, Changes}
use Rattle.array_disks.proofs.Logs.{each_disk, called_has}
use Rattle.array_disks.proofs.Rows.{row_same, row_known}
use Rattle.array_disks.proofs.Blocks.{extended_known, extended_candidates, extended_best, anchor_known, anchor_candidates, anchor_best}
use Rattle.array_disks.proofs.Syncs.{sync_narrows, sync_some, sync_best_stays}
use Rattle.array_disks.proofs.Accounts.{account_call}

module _ (W : Words) (disks : Disks) (log : List Call) (d : ℕ) (what : What) (went : Bool) where
  abbrev k : Disk
  k = disk_after W disks log d

  abbrev l : Disk
  l = behind W disks d (disk_after W disks log d) what went

  -- candidates go on to account for what stands, on each disk, behind any call of a run
  pub account_step : RunCall W (disks.sectors d) (disk_after W disks log d) what → AccountForEnds W disks log
      → AccountForEnds W disks (log ++ call_on d what went ∷ [])
  account_step call account e =
      each_disk W disks (λ x k l. AccountForEnd (disks.sectors x) k → AccountForEnd (disks.sectors x) l) log d what went
      (λ h. account_call W disks d k h what went call) (λ x k h. h) e (account e)

  -- a call at rows that isn't a sync which goes through changes nothing of any disk's blocks
  pub same_blocks : RowCall (disks.sectors d) what → (IsSettled what went → ⊥)
      → (e : ℕ) → SameBlocks (disk_after W disks log e) (after_call W disks log d what went e)
  same_blocks row unsettled =
      each_disk W disks (λ e k l. SameBlocks k l) log d what went (row_same W disks d k what went row unsettled)
      (λ e k. record { pend = refl; known = refl; candidates = refl; best = refl })

  -- CALLS THAT NARROW

  narrows_by : ((a : Laid) → In a l.candidates → In a k.candidates) → l.known ≡ k.known
      → (HasCandidate k → HasCandidate l) → BestStays W k l
      → Narrows W (disk_after W disks log) (after_call W disks log d what went)
  narrows_by candidates known some best = record {
    candidates = each_disk W disks (λ e k l. (a : Laid) → In a l.candidates → In a k.candidates) log d what went
        candidates (λ e k a i. i);
    known = each_disk W disks (λ e k l. l.known ≡ k.known) log d what went known (λ e k. refl);
    some = each_disk W disks (λ e k l. HasCandidate k → HasCandidate l) log d what went some (λ e k h. h);
    best = each_disk W disks (λ e k l. BestStays W k l) log d what went best (λ e k. inl refl);
  }

  narrows_same : l.candidates ≡ k.candidates → l.known ≡ k.known → l.best ≡ k.best
      → Narrows W (disk_after W disks log) (after_call W disks log d what went)
  narrows_same candidates known best =
      narrows_by (λ a i. subst (In a) candidates i) known (λ h. (h.0, subst (In h.0) (sym candidates) h.1)) (inl best)

  -- CALLS THAT ADD

  adds_by : (m : Laid) → l.candidates ≡ m ∷ k.candidates → l.known ≡ m ∷ k.known → l.best ≡ k.best
      → Adds d m (disk_after W disks log) (after_call W disks log d what went)
  adds_by m candidates known best = record {
    candidates = each_disk W disks (λ e k l. (a : Laid) → In a l.candidates → In a k.candidates ⊎ ((e ≡ d) × (a ≡ m)))
        log d what went (λ a i. split a k.candidates (subst (In a) candidates i)) (λ e k a i. inl i);
    known = each_disk W disks (λ e k l. (a : Laid) → In a l.known → In a k.known ⊎ ((e ≡ d) × (a ≡ m)))
        log d what went (λ a i. split a k.known (subst (In a) known i)) (λ e k a i. inl i);
    stay = each_disk W disks (λ e k l. (a : Laid) → In a k.candidates → In a l.candidates) log d what went
        (λ a i. subst (In a) (sym candidates) (inr i)) (λ e k a i. i);
    grow = each_disk W disks (λ e k l. (a : Laid) → In a k.known → In a l.known) log d what went
        (λ a i. subst (In a) (sym known) (inr i)) (λ e k a i. i);
    there = called_has W disks (λ k. In m k.candidates) log d what went (subst (In m) (sym candidates) (inl refl));
    is_known = called_has W disks (λ k. In m k.known) log d what went (subst (In m) (sym known) (inl refl));
    best = each_disk W disks (λ e k l. l.best ≡ k.best) log d what went best (λ e k. refl);
  }
    where
      split : (a : Laid) (xs : List Laid) → In a (m ∷ xs) → In a xs ⊎ ((d ≡ d) × (a ≡ m))
      split a xs (inl new) = inr (refl, new)
      split a xs (inr old) = inl old

module _ (W : Words) (disks : Disks) (log : List Call) (d : ℕ) where
  -- a call at rows narrows
  pub narrows_row : (what : What) (went : Bool) → RowCall (disks.sectors d) what
      → AccountForEnd (disks.sectors d) (disk_after W disks log d)
      → Narrows W (disk_after W disks log) (after_call W disks log d what went)
  narrows_row _ went (row_read place) account = narrows_same W disks log d (Read place) went refl refl refl
  narrows_row _ went (row_write place sectors stored ends) account =
      let what : What = Write place sectors stored in
      let row : RowCall (disks.sectors d) what = row_write place sectors stored ends in
      let same = row_same W disks d (disk_after W disks log d) what went row (λ settled. settled) in
      narrows_same W disks log d what went same.candidates same.known same.best
  narrows_row _ went row_sync account =
      let k = disk_after W disks log d in
      narrows_by W disks log d Sync went (sync_narrows W disks d k account went)
      (row_known W disks d k Sync went row_sync) (sync_some W disks d k went) (sync_best_stays W disks d k account went)

  module _ (m : Laid) (room : METADATA_SECTORS ≤ disks.sectors d) (fits : FitsEnd W m) (stored : ℕ) (went : Bool) where
    -- so does the write of extended sectors
    pub narrows_extended
        : Narrows W (disk_after W disks log) (after_call W disks log d (extended_write (disks.sectors d) m stored) went)
    narrows_extended =
        let k = disk_after W disks log d in
        narrows_same W disks log d (extended_write (disks.sectors d) m stored) went
        (extended_candidates W disks d m room fits k stored went) (extended_known W disks d m room fits k stored went)
        (extended_best W disks d m room fits k stored went)

    -- the write of an anchor behind its extended sectors adds its block
    pub adds_anchor : IsPending (disk_after W disks log d) m
        → Adds d m (disk_after W disks log) (after_call W disks log d (anchor_write (disks.sectors d) m stored) went)
    adds_anchor pending =
        let k = disk_after W disks log d in
        adds_by W disks log d (anchor_write (disks.sectors d) m stored) went m
        (anchor_candidates W disks d m room fits k stored went pending)
        (anchor_known W disks d m room fits k stored went pending) (anchor_best W disks d m room fits k stored went)

  -- any call of a run narrows, or adds a block
  pub changes_step : (what : What) (went : Bool) → RunCall W (disks.sectors d) (disk_after W disks log d) what
      → AccountForEnd (disks.sectors d) (disk_after W disks log d)
      → Changes W d (disk_after W disks log) (after_call W disks log d what went)
  changes_step _ went (at_rows what row) account = inl (narrows_row what went row account)
  changes_step _ went (of_extended m stored room fits) account = inl (narrows_extended m room fits stored went)
  changes_step _ went (of_anchor m stored room fits pending fresh) account =
      inr (m, adds_anchor m room fits stored went pending)
