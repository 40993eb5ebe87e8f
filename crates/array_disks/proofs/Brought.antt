-- What is known on a disk: what was known at opening, and each block that the log completed there.
use Rattle.std.proofs.Common.{◌≡◌, ℕ, ◌==◌, ◌&&◌, Bool, true, false, cond, List, [], ◌∷◌, ◌++◌, refl, ap, sym, ◌∙◌, Option, Some, None, append_assoc}
use Rattle.units.specs.declared.disk.Sector.{Sector}
use Rattle.device_log.specs.Log.{Call, What, Read, Write, Sync}
use Rattle.device_log.specs.Cells.{resting}
use Rattle.array_model.specs.Blocks.{Laid, Words, block_of}
use Rattle.array_model.specs.Start.{Disks}
use Rattle.array_model.specs.Candidates.{Disk, Part, NoPart, ExtendedPart, AnchorPart, OtherPart, part_of, with_block, written, standing, counted, is_among, disk_called, disk_from, disk_after, opened, opened_with, writes}
use Rattle.array_model.proofs.Written.{counted_known}
use Rattle.array_disks.specs.Held.{first_block}
use Rattle.array_disks.specs.Calls.{behind}
use Rattle.array_disks.specs.Brought.{blank, as_list, completed, brought_by, brought_to}
use Rattle.array_disks.proofs.Logs.{disk_from-append}

-- ONE CALL

abbrev pub pend_behind : List Sector → Part → List Sector
pend_behind pend NoPart = pend
pend_behind pend (ExtendedPart sectors) = sectors
pend_behind pend (AnchorPart s) = []
pend_behind pend OtherPart = []

-- the extended sectors that wait for their anchor behind a call
abbrev pub pend_by : (n : ℕ) → (pend : List Sector) → What → List Sector
pend_by n pend (Read place) = pend
pend_by n pend (Write place sectors stored) = pend_behind pend (part_of n place sectors)
pend_by n pend Sync = pend

module _ (W : Words) where
  block_pend : (k : Disk) (b : Option Laid) → (with_block k b).pend ≡ []
  block_pend k None = refl
  block_pend k (Some m) = refl

  block_known : (k : Disk) (b : Option Laid) → (with_block k b).known ≡ as_list b ++ k.known
  block_known k None = refl
  block_known k (Some m) = refl

  block_candidates : (k : Disk) (b : Option Laid) → (with_block k b).candidates ≡ as_list b ++ k.candidates
  block_candidates k None = refl
  block_candidates k (Some m) = refl

  block_best : (k : Disk) (b : Option Laid) → (with_block k b).best ≡ k.best
  block_best k None = refl
  block_best k (Some m) = refl

  written_pend : (k : Disk) (p : Part) → (written W k p).pend ≡ pend_behind k.pend p
  written_pend k NoPart = refl
  written_pend k (ExtendedPart sectors) = refl
  written_pend k (AnchorPart s) = block_pend k (block_of W k.pend s)
  written_pend k OtherPart = refl

  written_known : (k : Disk) (p : Part) → (written W k p).known ≡ completed W k.pend p ++ k.known
  written_known k NoPart = refl
  written_known k (ExtendedPart sectors) = refl
  written_known k (AnchorPart s) = block_known k (block_of W k.pend s)
  written_known k OtherPart = refl

  -- a completed block is put in front of the candidates
  pub written_candidates : (k : Disk) (p : Part) → (written W k p).candidates ≡ completed W k.pend p ++ k.candidates
  written_candidates k NoPart = refl
  written_candidates k (ExtendedPart sectors) = refl
  written_candidates k (AnchorPart s) = block_candidates k (block_of W k.pend s)
  written_candidates k OtherPart = refl

  -- no write changes the best generation
  pub written_best : (k : Disk) (p : Part) → (written W k p).best ≡ k.best
  written_best k NoPart = refl
  written_best k (ExtendedPart sectors) = refl
  written_best k (AnchorPart s) = block_best k (block_of W k.pend s)
  written_best k OtherPart = refl

  counted_pend : (k : Disk) (m : Laid) (b : Bool) → (counted W k m b).pend ≡ k.pend
  counted_pend k m true = refl
  counted_pend k m false = refl

module _ (W : Words) (disks : Disks) (d : ℕ) where
  -- a sync on disk k finds the block that stands there whole, and known
  abbrev finds : Disk → Bool
  finds k =
      let m = standing W (disks.sectors d) k.cells in
      W.is_whole (disks.serial d) (disks.sectors d) m && is_among m k.known

  -- what waits for its anchor behind a call depends on what did before it, and on the call alone
  pub pend_behind_call : (k : Disk) (what : What) (went : Bool)
      → (behind W disks d k what went).pend ≡ pend_by (disks.sectors d) k.pend what
  pend_behind_call k (Read place) went = refl
  pend_behind_call k (Write place sectors stored) went = written_pend W k (part_of (disks.sectors d) place sectors)
  pend_behind_call k Sync false = refl
  pend_behind_call k Sync true = counted_pend W k (standing W (disks.sectors d) k.cells) (finds k)

  -- what is known: what was, with the block that the call completes in front
  pub known_behind_call : (k : Disk) (what : What) (went : Bool)
      → (behind W disks d k what went).known ≡ brought_by W (disks.sectors d) k.pend what ++ k.known
  known_behind_call k (Read place) went = refl
  known_behind_call k (Write place sectors stored) went = written_known W k (part_of (disks.sectors d) place sectors)
  known_behind_call k Sync false = refl
  known_behind_call k Sync true = counted_known W k (standing W (disks.sectors d) k.cells) (finds k)

  -- ANY CALL, ANY LOG

  abbrev pub pend_to : List Sector → Call → List Sector
  pend_to pend call = cond (call.disk == d) (pend_by (disks.sectors d) pend call.what) pend

  -- the same of a call on any disk
  pub pend_called : (k : Disk) (call : Call) → (disk_called W disks d k call).pend ≡ pend_to k.pend call
  pend_called k call = at (call.disk == d)
    where
      at : (b : Bool) → (cond b (behind W disks d k call.what call.went) k).pend
          ≡ cond b (pend_by (disks.sectors d) k.pend call.what) k.pend
      at true = pend_behind_call k call.what call.went
      at false = refl

  -- what is known behind a call: what was known, with the block that the call completes in front
  pub known_called : (k : Disk) (call : Call)
      → (disk_called W disks d k call).known ≡ brought_to W disks d k.pend call ++ k.known
  known_called k call = at (call.disk == d)
    where
      at : (b : Bool) → (cond b (behind W disks d k call.what call.went) k).known
          ≡ cond b (brought_by W (disks.sectors d) k.pend call.what) [] ++ k.known
      at true = known_behind_call k call.what call.went
      at false = refl

  same_pend : (k l : Disk) (call : Call) → k.pend ≡ l.pend
      → (disk_called W disks d k call).pend ≡ (disk_called W disks d l call).pend
  same_pend k l call same =
      pend_called k call ∙ ap (λ pend. pend_to pend call) same ∙ sym (pend_called l call)

  same_known : (k l : Disk) (old : List Laid) (call : Call) → k.pend ≡ l.pend → k.known ≡ l.known ++ old
      → (disk_called W disks d k call).known ≡ (disk_called W disks d l call).known ++ old
  same_known k l old call same more =
      known_called k call
      ∙ ap (λ pend. brought_to W disks d pend call ++ k.known) same
      ∙ ap (λ known. brought_to W disks d l.pend call ++ known) more
      ∙ sym (append_assoc (brought_to W disks d l.pend call) l.known old)
      ∙ ap (λ known. known ++ old) (sym (known_called l call))

  -- disks on which the same sectors wait for their anchor go on alike
  pub pend_alike : (k l : Disk) (log : List Call) → k.pend ≡ l.pend
      → (disk_from W disks d k log).pend ≡ (disk_from W disks d l log).pend
  pend_alike k l [] same = same
  pend_alike k l (call ∷ log) same =
      pend_alike (disk_called W disks d k call) (disk_called W disks d l call) log (same_pend k l call same)

  -- and what is known of them differs by what was known of one alone
  pub known_alike : (k l : Disk) (old : List Laid) (log : List Call) → k.pend ≡ l.pend → k.known ≡ l.known ++ old
      → (disk_from W disks d k log).known ≡ (disk_from W disks d l log).known ++ old
  known_alike k l old [] same more = more
  known_alike k l old (call ∷ log) same more =
      known_alike (disk_called W disks d k call) (disk_called W disks d l call) old log
      (same_pend k l call same) (same_known k l old call same more)

  opened_pend : (opened W disks d).pend ≡ []
  opened_pend = at (W.is_whole (disks.serial d) (disks.sectors d) (first_block W disks d))
    where
      at : (b : Bool) → (opened_with W (λ p. resting (disks.opening d p)) (first_block W disks d) b).pend ≡ []
      at true = refl
      at false = refl

  -- what is known behind a log: what it wrote, and what was known at opening
  pub known_is : (log : List Call)
      → (disk_after W disks log d).known ≡ writes W disks d log ++ (opened W disks d).known
  known_is log = known_alike (opened W disks d) blank (opened W disks d).known log opened_pend refl

  -- what waits for its anchor is told by the log alone
  pub pend_is : (log : List Call) → (disk_after W disks log d).pend ≡ (disk_from W disks d blank log).pend
  pend_is log = pend_alike (opened W disks d) blank log opened_pend

  -- a log with one call more writes the same, and the block that the call completes
  pub writes_call : (log : List Call) (call : Call)
      → writes W disks d (log ++ call ∷ [])
      ≡ brought_to W disks d (disk_after W disks log d).pend call ++ writes W disks d log
  writes_call log call =
      ap (λ (k : Disk). k.known) (disk_from-append W disks d blank log (call ∷ []))
      ∙ known_called (disk_from W disks d blank log) call
      ∙ ap (λ pend. brought_to W disks d pend call ++ writes W disks d log) (sym (pend_is log))
