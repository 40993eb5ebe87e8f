-- What holds of a control state whenever no turn is going on: whose locks rows have, where passes stand, which updates
-- the queue has, and that what goes on has a target left. Source: this project's own.
use Rattle.std.specs.Prelude.{⊤, ◌≡◌, ℕ, ◌&&◌, not, nat_lt, Bool, true, false, List, [], ◌∷◌, length, slice_get, Option, Some, None, ◌⊎◌}
use Rattle.units.specs.declared.bounds.TheConstants.{CLIENTS}
use Rattle.array_model.specs.Blocks.{Laid}
use Rattle.array_machine.specs.Setting.{Setting}
use Rattle.array_machine.specs.Numbers.{has}
use Rattle.array_machine.specs.Volumes.{Slot, disk_in, members_of, Pass, Volume, volume_at}
use Rattle.array_machine.specs.Operations.{volume_of, shape_of, the_place}
use Rattle.array_machine.specs.Clients.{Job, NoJob, Submitted, Busy, Client, client_at}
use Rattle.array_machine.specs.Rounds.{Life, lives, Phase, Rest, ending, GoesOn}
use Rattle.array_machine.specs.Managers.{AskState, IsPosted, IsApplied, OfAsk, Update, Manager}
use Rattle.array_machine.specs.Control.{Control}
use Rattle.array_machine.specs.Changes.{Change, RoundEnds, ClientMoves, PassMoves, ManagerMoves}
use Rattle.array_machine.specs.Locks.{holds, pass_holds, is_locked}
use Rattle.array_machine.specs.RoundEnds.{has_other}
use Rattle.array_machine.specs.SyncTurns.{Work, row_work, all_written}
use Rattle.array_paths.specs.InTurn.{job_of}
use Rattle.array_rest.specs.Jobs.{JobGoes}
use Rattle.array_paths.specs.PassMove.{slots_of}

-- UPDATES

-- an update of ask i is on its way
abbrev pub IsQueued : ℕ → List Update → Type 0
IsQueued i [] = ⊥
IsQueued i (u ∷ us) = (u.want ≡ OfAsk i) ⊎ IsQueued i us

-- each ask that is posted is on its way
abbrev pub AsksAreQueued : Manager → Type 0
AsksAreQueued m = (i : ℕ) → slice_get m.asks i ≡ Some IsPosted → IsQueued i m.queue

module _ (S : Setting) where
  -- DISKS

  -- a disk that is there, without a fault
  abbrev pub is_callable : List ℕ → ℕ → Bool
  is_callable faults d = nat_lt d S.start.disks.count && not (has d faults)

  pub record CanCall (faults : List ℕ) (disk : Option ℕ) : Type 0 where
    pub number : ℕ
    pub is : disk ≡ Some number
    pub may : is_callable faults number ≡ true

  -- slots have disks of the bank
  abbrev pub SlotsAreThere : List Volume → Type 0
  SlotsAreThere volumes =
      (v s d : ℕ) → disk_in (volume_at volumes v).slots s ≡ Some d → nat_lt d S.start.disks.count ≡ true

  -- LOCKS

  -- no row has two holders
  pub record LocksAreApart (volumes : List Volume) (clients : List Client) : Type 0 where
    pub one : (v row j k : ℕ) → holds S v row (client_at clients j).job ≡ true
        → holds S v row (client_at clients k).job ≡ true → j ≡ k
    pub pass : (v row k : ℕ) → holds S v row (client_at clients k).job ≡ true
        → pass_holds row (volume_at volumes v).pass ≡ false

  -- PASSES

  -- what the pass of volume v does in a row, over slots whose disks may have these faults
  abbrev pub work_over : List ℕ → List Slot → (v row : ℕ) → List Work
  work_over faults slots v row = row_work (shape_of S v) (members_of faults [] slots) row

  -- It has the lock of its own row alone, in a row that it goes on in. At a checkpoint nothing of a row is written;
  -- elsewhere its row has something left to write, if anything was written. What it has to sync is on disks that may be
  -- called.
  pub record PassStands (faults : List ℕ) (slots : List Slot) (v : ℕ) (p : Pass) : Type 0 where
    pub locked : (row : ℕ) → p.lock ≡ Some row → (row ≡ p.row) × (p.over ≡ false) × (p.syncing ≡ false)
    pub begun : p.syncing ≡ true → p.written ≡ []
    pub left : (p.written ≡ []) ⊎ (all_written p.written (work_over faults slots v p.row) ≡ false)
    pub touched : (s : ℕ) → has s p.touched ≡ true → CanCall faults (disk_in slots s)

  abbrev pub PassesStand : List ℕ → List Volume → Type 0
  PassesStand faults volumes =
      (v : ℕ) (p : Pass) → (volume_at volumes v).pass ≡ Some p → PassStands faults (volume_at volumes v).slots v p

  -- only a started volume has a pass
  abbrev pub PassesAreStarted : List Volume → Type 0
  PassesAreStarted volumes =
      (v : ℕ) → (volume_at volumes v).started ≡ false → (volume_at volumes v).pass ≡ None

  -- SEATS

  -- each started volume has the slots' disks that the last finished round's block gives
  abbrev pub SlotsAreSeated : Laid → List Volume → Type 0
  SlotsAreSeated last volumes =
      (v : ℕ) → (volume_at volumes v).started ≡ true
      → has_other S (S.start.words.slots last v) (volume_at volumes v).slots ≡ false

  -- ALL THAT CHANGES KEEP

  pub record Keeps (faults : List ℕ) (last : Laid) (volumes : List Volume) (clients : List Client) (m : Manager)
      : Type 0
    where
      pub count : length clients ≡ CLIENTS
      pub queued : AsksAreQueued m
      pub there : SlotsAreThere volumes
      pub locks : LocksAreApart volumes clients
      pub passes : PassesStand faults volumes
      pub started : PassesAreStarted volumes
      pub seated : SlotsAreSeated last volumes

  abbrev pub Kept : Control → Type 0
  Kept c = Keeps c.round.faults c.round.last c.volumes c.clients c.manager

  -- WHERE A TURN ENDS

  -- What goes on has a target left; while the monitor doesn't live nothing goes on; no operation stands between its
  -- submit and its job; and an ask that was applied waits for what goes on.
  pub record TurnEnds (phase : Phase) (life : Life) (clients : List Client) (asks : List AskState) : Type 0 where
    pub goes_on : ending phase ≡ GoesOn
    pub halted : lives life ≡ false → phase ≡ Rest
    pub submitted : (k i : ℕ) → (client_at clients k).job ≡ Submitted i → ⊥
    pub applied : phase ≡ Rest → (i : ℕ) → slice_get asks i ≡ Some IsApplied → ⊥

  abbrev pub TurnIsOver : Control → Type 0
  TurnIsOver c = TurnEnds c.round.phase c.round.life c.clients c.manager.asks

  -- CHANGES WITHIN A TURN

  -- a job that begins finds its row free
  abbrev pub JobIsFree : Control → (k : ℕ) → Job → Type 0
  JobIsFree c k NoJob = ⊤
  JobIsFree c k (Submitted i) = ⊤
  JobIsFree c k (Busy i r) = r.begun ≡ true → is_locked S c (volume_of S i) (the_place S i).row k ≡ false

  abbrev pub JobIsFine : Control → (k : ℕ) → Job → Type 0
  JobIsFine c k NoJob = ⊤
  JobIsFine c k (Submitted i) = ⊤
  JobIsFine c k (Busy i r) = JobGoes S c k i r

  -- the pass of a started volume keeps its slots, stands well, and has no lock but the one that it had, or that of a free row
  pub record PassGoes (c : Control) (v : ℕ) (slots : List Slot) (p : Pass) : Type 0 where
    pub started : (volume_at c.volumes v).started ≡ true
    pub same : slots ≡ slots_of c v
    pub stands : PassStands c.round.faults slots v p
    pub free : (row : ℕ) → p.lock ≡ Some row
        → (pass_holds row (volume_at c.volumes v).pass ≡ true) ⊎ ((k : ℕ) → holds S v row (job_of c k) ≡ false)

  abbrev pub PassIsFine : Control → (v : ℕ) → List Slot → Option Pass → Type 0
  PassIsFine c v slots None = ⊥
  PassIsFine c v slots (Some p) = PassGoes c v slots p

  -- a change that may stand anywhere in a turn; the end of a round isn't one
  abbrev pub IsFine : Control → Change → Type 0
  IsFine c (RoundEnds m) = ⊥
  IsFine c (ClientMoves k new word) = JobIsFree c k new.job × JobIsFine c k new.job
  IsFine c (PassMoves v slots pass word) = PassIsFine c v slots pass
  IsFine c (ManagerMoves new word) = AsksAreQueued new
  IsFine c _ = ⊤
