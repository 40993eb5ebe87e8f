-- The machine's clients: each submits its operations one by one, and reads and writes a row under the row's lock.
-- Source: this project's own.
use Rattle.std.specs.Prelude.{ℕ, ◌+◌, ◌==◌, ◌||◌, ◌&&◌, not, Bool, true, false, List, [], ◌∷◌, slice_index_or, filter, length, Option, Some, None}
use Rattle.std.specs.List.{range_with_len}
use Rattle.units.specs.declared.disk.Sector.{Sector}
use Rattle.device_log.specs.Log.{Call, Read, Write, Sync}
use Rattle.array_model.specs.declared.script.Op.{Op}
use Rattle.array_model.specs.declared.script.OpKind.{OpKind}
use Rattle.array_model.specs.declared.script.OpKind.TheVariants.{Write as OpWrite, Read as OpRead, Whole as OpWhole}
use Rattle.array_model.specs.declared.journal.Answer.{Answer}
use Rattle.array_model.specs.declared.journal.Answer.TheVariants.{Done, Value}
use Rattle.array_model.specs.Script.{kind_at, is_of_client, sector_of}
use Rattle.array_model.specs.Placement.{Shape, Placement, placement_of}
use Rattle.stage_machine.specs.Setting.{Setting}
use Rattle.stage_machine.specs.Rounds.{Ended, stored_of}

-- where a row job stands: no call was made; these members are left to write, or to sync; all is done; a value was read
pub data JobStep : Type 0 where
  Waiting : JobStep
  Writing : (left : List ℕ) → JobStep
  Syncing : (left : List ℕ) → JobStep
  Written : JobStep
  Got : (value : Sector) → JobStep

pub data Job : Type 0 where
  NoJob : Job
  Busy : (op : ℕ) → (step : JobStep) → Job

-- the operations that a client hasn't submitted yet, and its job
pub record Client : Type 0 where
  pub left : List ℕ
  pub job : Job

abbrev pub no_client : Client
no_client = record { left = []; job = NoJob }

abbrev pub client_at : List Client → ℕ → Client
client_at clients k = slice_index_or clients k no_client

-- the clients before the run: each has its operations
abbrev pub ops_of : List Op → ℕ → List ℕ
ops_of ops k = filter (is_of_client ops k) (range_with_len 0 (length ops))

-- PLACES

abbrev pub the_shape : Setting → Shape
the_shape S = S.start.words.shape S.start.newest 0

abbrev pub sector_in : Option OpKind → ℕ
sector_in None = 0
sector_in (Some (OpWrite v s value)) = s
sector_in (Some (OpRead v s)) = s
sector_in (Some (OpWhole v)) = 0

abbrev pub placement_at : Setting → ℕ → Option Placement
placement_at S i = placement_of (the_shape S) (sector_in (kind_at S.asked.ops i))

abbrev pub row_in : Option Placement → ℕ
row_in None = 0
row_in (Some place) = place.row

-- the row that op i reads or writes
abbrev pub row_at : Setting → ℕ → ℕ
row_at S i = row_in (placement_at S i)

abbrev pub value_in : Option OpKind → Sector
value_in None = sector_of 0
value_in (Some (OpWrite v s value)) = sector_of value
value_in (Some (OpRead v s)) = sector_of 0
value_in (Some (OpWhole v)) = sector_of 0

-- the sector that op i writes
abbrev pub value_at : Setting → ℕ → Sector
value_at S i = value_in (kind_at S.asked.ops i)

abbrev pub is_write_kind : Option OpKind → Bool
is_write_kind None = false
is_write_kind (Some (OpWrite v s value)) = true
is_write_kind (Some (OpRead v s)) = false
is_write_kind (Some (OpWhole v)) = false

abbrev pub is_write : Setting → ℕ → Bool
is_write S i = is_write_kind (kind_at S.asked.ops i)

-- LOCKS

-- a job holds the lock of its row from its first call on
abbrev pub holds_by : Setting → ℕ → ℕ → JobStep → Bool
holds_by S row i Waiting = false
holds_by S row i (Writing left) = row_at S i == row
holds_by S row i (Syncing left) = row_at S i == row
holds_by S row i Written = row_at S i == row
holds_by S row i (Got value) = row_at S i == row

abbrev pub holds : Setting → ℕ → Job → Bool
holds S row NoJob = false
holds S row (Busy i step) = holds_by S row i step

-- a client other than k holds the row; the list begins at client j
abbrev pub locked_from : Setting → ℕ → ℕ → ℕ → List Client → Bool
locked_from S row k j [] = false
locked_from S row k j (c ∷ cs) = (not (j == k) && holds S row c.job) || locked_from S row k (j + 1) cs

abbrev pub is_locked : Setting → ℕ → ℕ → List Client → Bool
is_locked S row k clients = locked_from S row k 0 clients

-- a write was submitted and isn't answered
abbrev pub is_writing : Setting → Job → Bool
is_writing S NoJob = false
is_writing S (Busy i step) = is_write S i

abbrev pub any_writing : Setting → List Client → Bool
any_writing S [] = false
any_writing S (c ∷ cs) = is_writing S c.job || any_writing S cs

-- WHAT A JOB NEEDS NEXT

pub data Need : Type 0 where
  NoNeed : Need
  Reads : (disk : ℕ) → Need
  Writes : (disk : ℕ) → (more : List ℕ) → Need
  Syncs : (disk : ℕ) → (more : List ℕ) → Need
  Answers : (answer : Answer) → Need

abbrev pub read_need : List ℕ → Need
read_need [] = NoNeed
read_need (d ∷ ds) = Reads d

abbrev pub write_need : List ℕ → Need
write_need [] = NoNeed
write_need (d ∷ ds) = Writes d ds

abbrev pub sync_need : List ℕ → Need
sync_need [] = NoNeed
sync_need (d ∷ ds) = Syncs d ds

abbrev pub first_need : Setting → Option OpKind → Need
first_need S None = NoNeed
first_need S (Some (OpWrite v s value)) = write_need S.members
first_need S (Some (OpRead v s)) = read_need S.members
first_need S (Some (OpWhole v)) = NoNeed

abbrev pub need_of : Setting → ℕ → JobStep → Need
need_of S i Waiting = first_need S (kind_at S.asked.ops i)
need_of S i (Writing left) = write_need left
need_of S i (Syncing left) = sync_need left
need_of S i Written = Answers Done
need_of S i (Got value) = Answers (Value value)

-- all members are written, then synced
abbrev pub after_write : Setting → List ℕ → JobStep
after_write S [] = Syncing S.members
after_write S (d ∷ ds) = Writing (d ∷ ds)

abbrev pub after_sync : List ℕ → JobStep
after_sync [] = Written
after_sync (d ∷ ds) = Syncing (d ∷ ds)

abbrev pub need_call : Setting → Ended → ℕ → Need → Option Call
need_call S x i NoNeed = None
need_call S x i (Reads d) = Some (record { disk = d; what = Read ((the_shape S).pba + row_at S i); went = x.went })
need_call S x i (Writes d ds) =
    Some (record {
      disk = d;
      what = Write ((the_shape S).pba + row_at S i) (value_at S i ∷ []) (stored_of x 1);
      went = x.went;
    })
need_call S x i (Syncs d ds) = Some (record { disk = d; what = Sync; went = x.went })
need_call S x i (Answers answer) = None
