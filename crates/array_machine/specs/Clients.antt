-- Clients and the jobs that they have. Source: this project's own, over the stripe handling of the kernel's raid1.c,
-- raid5.c and raid10.c.
use Rattle.std.specs.Prelude.{ℕ, Bool, false, List, [], Option, None, slice_index_or}
use Rattle.array_machine.specs.Volumes.{Got}

-- A row job: whether it began (from its first call on it holds the lock of its row), the slots that it reads, which
-- that call fixes, the disks that the slots had then, what it read, and the slots that it wrote and synced.
pub record Row : Type 0 where
  pub begun : Bool
  pub plan : Option (List ℕ)
  pub disks : List (Option ℕ)
  pub got : List Got
  pub written : List ℕ
  pub synced : List ℕ

abbrev pub no_row : Row
no_row = record { begun = false; plan = None; disks = []; got = []; written = []; synced = [] }

-- no job; an operation that was submitted in this very turn; one that goes on
pub data Job : Type 0 where
  NoJob : Job
  Submitted : (op : ℕ) → Job
  Busy : (op : ℕ) → (row : Row) → Job

-- the operations that a client hasn't submitted yet, and its job
pub record Client : Type 0 where
  pub left : List ℕ
  pub job : Job

abbrev pub no_client : Client
no_client = record { left = []; job = NoJob }

abbrev pub client_at : List Client → ℕ → Client
client_at clients k = slice_index_or clients k no_client

abbrev pub with_job : List ℕ → Job → Client
with_job left job = record { left = left; job = job }
