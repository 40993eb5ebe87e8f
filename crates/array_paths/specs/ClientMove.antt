-- How a client's record comes to be another: by which operation, and why an answer may be given. Source: this project's
-- own.
use Rattle.std.specs.Prelude.{⊤, ◌≡◌, ℕ, Bool, true, false, List, [], ◌∷◌, Option, Some, None, ◌⊎◌}
use Rattle.device_log.specs.Log.{What, Read, Write, Sync}
use Rattle.array_model.specs.declared.script.OpKind.{OpKind}
use Rattle.array_model.specs.declared.script.OpKind.TheVariants.{Write as OpWrite, Read as OpRead, Whole as OpWhole}
use Rattle.array_model.specs.declared.journal.Answer.{Answer}
use Rattle.array_model.specs.declared.journal.Answer.TheVariants.{Done, Past, Failed, NoSpare}
use Rattle.array_model.specs.Script.{kind_at}
use Rattle.array_model.specs.Placement.{Placement}
use Rattle.array_machine.specs.Setting.{Setting}
use Rattle.array_machine.specs.States.{State, IsPending, IsActive}
use Rattle.array_machine.specs.Volumes.{volume_at, disk_in, source_in}
use Rattle.array_machine.specs.Operations.{volume_of, shape_of, place_at, the_place, place_on, value_at, is_write}
use Rattle.array_machine.specs.Clients.{Row, no_row, NoJob, Submitted, Busy, Client, with_job}
use Rattle.array_machine.specs.RowJobs.{Need, Reads, Writes, Syncs, Answers, sector_to, went_on, disks_begun}
use Rattle.array_machine.specs.Rounds.{Ended}
use Rattle.array_machine.specs.Control.{Control}
use Rattle.array_machine.specs.Changes.{Change, ClientMoves, ClientWord, IsSilent, Submits, Acknowledges}
use Rattle.array_machine.specs.ClientTurns.{is_shut, is_held, row_tried, need_unless, is_whole_now, is_without_spare}
use Rattle.array_paths.specs.InTurn.{state_of, is_broken, job_of, left_of}

-- the operation names a sector that its volume has, or no sector
abbrev pub fits_kind : Option Placement → Option OpKind → Bool
fits_kind place None = false
fits_kind None (Some (OpWrite v s value)) = false
fits_kind (Some place) (Some (OpWrite v s value)) = true
fits_kind None (Some (OpRead v s)) = false
fits_kind (Some place) (Some (OpRead v s)) = true
fits_kind place (Some (OpWhole v)) = true

abbrev pub fits_op : Setting → ℕ → Bool
fits_op S i = fits_kind (place_at S i) (kind_at S.asked.ops i)

-- it names a sector
abbrev pub NamesSector : Option OpKind → Type 0
NamesSector None = ⊥
NamesSector (Some (OpWrite v s value)) = ⊤
NamesSector (Some (OpRead v s)) = ⊤
NamesSector (Some (OpWhole v)) = ⊥

-- a write may wait for the volume, or goes on at once
abbrev pub TakesWrites : State → Type 0
TakesWrites IsPending = ⊤
TakesWrites IsActive = ⊤
TakesWrites _ = ⊥

-- The job of client k, operation i, which names a sector, needs this next: its volume isn't broken, and no lock or
-- pending write holds it back.
pub record Needs (S : Setting) (c : Control) (k i : ℕ) (r : Row) (need : Need) : Type 0 where
  pub has : job_of c k ≡ Busy i r
  pub sound : is_broken c (volume_of S i) ≡ false
  pub free : is_held S c k i ≡ false
  pub names : NamesSector (kind_at S.asked.ops i)
  pub is : need_unless S c i r false ≡ need

-- A row job that lost its call: it has begun, what it wrote and synced stays, what it read stays or is read again. A
-- read begins anew.
pub record LosesCall (S : Setting) (c : Control) (i : ℕ) (r new : Row) : Type 0 where
  pub begun : new.begun ≡ true
  pub written : new.written ≡ r.written
  pub synced : new.synced ≡ r.synced
  pub got : (new.got ≡ r.got) ⊎ (new.got ≡ [])
  pub again : (is_write S i ≡ true) ⊎ ((new.plan ≡ None) × (new.got ≡ []))
  pub disks : new.disks ≡ disks_begun r.begun r.disks (volume_at c.volumes (volume_of S i)).slots

-- A client's change without a call of its own: it submits its next operation; its sector isn't there; its write starts;
-- its call failed in this turn; it answers what the job needs; its volume is broken; its volume is whole, or nothing
-- can make it so.
pub data ClientMove (S : Setting) (c : Control) (k : ℕ) : Client → ClientWord → Type 0 where
  submits : (i : ℕ) (rest : List ℕ) → left_of c k ≡ i ∷ rest → job_of c k ≡ NoJob
      → ClientMove S c k (with_job rest (Submitted i)) (Submits i)
  takes : (i : ℕ) (rest : List ℕ) → left_of c k ≡ i ∷ rest → job_of c k ≡ NoJob → is_write S i ≡ false
      → fits_op S i ≡ true → is_shut (volume_at c.volumes (volume_of S i)) ≡ false
      → ClientMove S c k (with_job rest (Busy i no_row)) (Submits i)
  is_past : (i : ℕ) (left : List ℕ) → left_of c k ≡ left → job_of c k ≡ Submitted i → place_at S i ≡ None
      → NamesSector (kind_at S.asked.ops i) → ClientMove S c k (with_job left NoJob) (Acknowledges i Past)
  starts : (i : ℕ) (left : List ℕ) → left_of c k ≡ left → job_of c k ≡ Submitted i → is_write S i ≡ true
      → fits_op S i ≡ true → (is_broken c (volume_of S i) ≡ false → TakesWrites (state_of c (volume_of S i)))
      → ClientMove S c k (with_job left (Busy i no_row)) IsSilent
  loses : (i : ℕ) (r new : Row) (left : List ℕ) → left_of c k ≡ left → job_of c k ≡ Busy i r → LosesCall S c i r new
      → ClientMove S c k (with_job left (Busy i new)) IsSilent
  answers : (i : ℕ) (r : Row) (answer : Answer) (left : List ℕ) → left_of c k ≡ left → Needs S c k i r (Answers answer)
      → ClientMove S c k (with_job left NoJob) (Acknowledges i answer)
  fails : (i : ℕ) (r : Row) (left : List ℕ) → left_of c k ≡ left → job_of c k ≡ Busy i r
      → is_broken c (volume_of S i) ≡ true → ClientMove S c k (with_job left NoJob) (Acknowledges i Failed)
  is_whole : (i : ℕ) (r : Row) (left : List ℕ) → left_of c k ≡ left → job_of c k ≡ Busy i r
      → kind_at S.asked.ops i ≡ Some (OpWhole (record { 0 = volume_of S i })) → is_broken c (volume_of S i) ≡ false
      → is_whole_now S c (volume_of S i) ≡ true → ClientMove S c k (with_job left NoJob) (Acknowledges i Done)
  has_no_spare : (i : ℕ) (r : Row) (left : List ℕ) → left_of c k ≡ left → job_of c k ≡ Busy i r
      → kind_at S.asked.ops i ≡ Some (OpWhole (record { 0 = volume_of S i })) → is_broken c (volume_of S i) ≡ false
      → is_whole_now S c (volume_of S i) ≡ false → is_without_spare S c (volume_of S i) ≡ true
      → ClientMove S c k (with_job left NoJob) (Acknowledges i NoSpare)

-- A call of client k's job on disk d, which is in the slot that the job needs: what is asked.
pub data ClientCall (S : Setting) (c : Control) (k d : ℕ) : ℕ → Row → Need → What → (stored : ℕ) → Type 0 where
  reads : (i : ℕ) (r : Row) (s stored : ℕ) → Needs S c k i r (Reads s)
      → source_in (volume_at c.volumes (volume_of S i)) s ≡ Some d
      → ClientCall S c k d i r (Reads s) (Read (place_on S i)) stored
  writes : (i : ℕ) (r : Row) (s stored : ℕ) → Needs S c k i r (Writes s)
      → disk_in (volume_at c.volumes (volume_of S i)).slots s ≡ Some d
      → ClientCall S c k d i r (Writes s) (Write (place_on S i) (sector_to S (shape_of S (volume_of S i)).level
      (the_place S i) (value_at S i) (row_tried S c i r).got s ∷ []) stored) stored
  syncs : (i : ℕ) (r : Row) (s stored : ℕ) → Needs S c k i r (Syncs s)
      → disk_in (volume_at c.volumes (volume_of S i)).slots s ≡ Some d → ClientCall S c k d i r (Syncs s) Sync stored

-- the client's change where its call went through
abbrev pub client_went : Setting → Control → (k i : ℕ) → Row → Need → Ended → Change
client_went S c k i r need x =
    ClientMoves k (with_job (left_of c k) (Busy i (went_on need x.got (row_tried S c i r)))) IsSilent
