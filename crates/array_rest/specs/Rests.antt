-- Where a run has come to rest: the monitor lives, and nobody whose turn a run goes on by has anything to do. Source:
-- this project's own.
use Rattle.std.specs.Prelude.{⊤, ◌≡◌, ℕ, true, false, List, [], ◌∷◌, Some, None}
use Rattle.units.specs.declared.volume.VolNo.{VolNo}
use Rattle.array_model.specs.declared.script.OpKind.TheVariants.{Whole}
use Rattle.array_model.specs.Script.{kind_at}
use Rattle.array_machine.specs.Setting.{Setting}
use Rattle.array_machine.specs.Numbers.{has}
use Rattle.array_machine.specs.States.{is_resting}
use Rattle.array_machine.specs.Volumes.{Pass, volume_at}
use Rattle.array_machine.specs.Operations.{volume_of}
use Rattle.array_machine.specs.Clients.{Row, NoJob, Busy}
use Rattle.array_machine.specs.Rounds.{Ended, Lives, Rest, Round, expects}
use Rattle.array_machine.specs.Control.{Control}
use Rattle.array_machine.specs.Turns.{Turn}
use Rattle.array_machine.specs.ClientTurns.{are_settled, is_whole_now, is_without_spare}
use Rattle.array_paths.specs.InTurn.{job_of, left_of}
use Rattle.array_rest.specs.Jobs.{IsOutrun}
use Rattle.array_machine.specs.MonitorTurns.{Nothing, deed_of, due_edits}
use Rattle.array_machine.specs.ManagerTurns.{activation}
use Rattle.array_base.specs.Premises.{generation_of}
use Rattle.array_base.specs.Base.{ledger, IsTrusted}
use Rattle.array_machine.specs.Machine.{Actor, Monitor, Manager, Sync, Client, Quiet, turn_of}

-- a turn makes no call and changes nothing
pub record IsStill (t : Turn) : Type 0 where
  pub calls : t.call ≡ None
  pub changes : t.changes ≡ []

-- those by whose turns a run goes on to its end: disks don't fail for it, and nobody kills the monitor
abbrev pub GoesOnBy : Actor → Type 0
GoesOnBy Monitor = ⊤
GoesOnBy Manager = ⊤
GoesOnBy (Sync v) = ⊤
GoesOnBy (Client k) = ⊤
GoesOnBy (Quiet v) = ⊤
GoesOnBy _ = ⊥

-- each of their turns is still, in whichever way its call would end
pub record IsAtRest (S : Setting) (c : Control) (ends : Actor → Ended) : Type 0 where
  pub lives : c.round.life ≡ Lives
  pub still : (who : Actor) → GoesOnBy who → IsStill (turn_of S c (ends who) who)

-- a disk is left that the last finished round vouches for
pub record SomeIsTrusted (S : Setting) (r : Round) : Type 0 where
  pub disk : ℕ
  pub is : IsTrusted S (ledger r) disk

-- Nothing goes on, and nothing is due: a round has ended since the opening or the last takeover, the book is its block
-- and has the highest generation begun, each failure is recorded there and no disk is blocked any more; no update is on
-- its way, each ask has come to its end, no spare could take the place of a failed disk, and the book owes nothing to
-- the volumes.
pub record NothingIsDue (S : Setting) (c : Control) : Type 0 where
  pub phase : c.round.phase ≡ Rest
  pub deed : deed_of S c ≡ Nothing
  pub ended : c.round.ended ≡ true
  pub book : c.round.book ≡ c.round.last
  pub note : c.round.note ≡ generation_of S c.round.last
  pub recorded : (d : ℕ) → has d c.round.faults ≡ true → expects S c.round.last d ≡ false
  pub unblocked : (d : ℕ) → has d c.round.blocked ≡ false
  pub queue : c.manager.queue ≡ []
  pub asks : are_settled c.manager.asks ≡ true
  pub activation : activation S c ≡ None
  pub owes : due_edits S c ≡ []

-- a volume that was started and isn't broken
pub record IsSound (c : Control) (v : ℕ) : Type 0 where
  pub started : (volume_at c.volumes v).started ≡ true
  pub sound : (volume_at c.volumes v).broken ≡ false

-- CLIENTS

-- a job that holds a row was outrun
pub record SomeIsOutrun (S : Setting) (c : Control) : Type 0 where
  pub client : ℕ
  pub op : ℕ
  pub row : Row
  pub is : job_of c client ≡ Busy op row
  pub outrun : IsOutrun c.round.faults (volume_at c.volumes (volume_of S op)).slots row

-- A client has had all its operations answered; the next one names a volume that wasn't started; it waits for a volume
-- to be whole that isn't; or the rows are held by a job that was outrun.
pub data ClientRests (S : Setting) (c : Control) (k : ℕ) : Type 0 where
  is_done : job_of c k ≡ NoJob → left_of c k ≡ [] → ClientRests S c k
  is_shut_out : (i : ℕ) (more : List ℕ) → job_of c k ≡ NoJob → left_of c k ≡ i ∷ more
      → (volume_at c.volumes (volume_of S i)).started ≡ false → ClientRests S c k
  waits_for_whole : (i : ℕ) (r : Row) (v : VolNo) → job_of c k ≡ Busy i r → kind_at S.asked.ops i ≡ Some (Whole v)
      → is_whole_now S c v.0 ≡ false → is_without_spare S c v.0 ≡ false → ClientRests S c k
  is_outrun : SomeIsOutrun S c → ClientRests S c k

-- VOLUMES

-- It is read-auto or clean, the last finished round says that it is clean, and a pass of it is over, of which that round
-- says nothing any more; or the rows are held by a job that was outrun.
pub data VolumeRests (S : Setting) (c : Control) (v : ℕ) : Type 0 where
  is_clean : is_resting (volume_at c.volumes v).state ≡ true → S.start.words.is_dirty c.round.last v ≡ false
      → ((p : Pass) → (volume_at c.volumes v).pass ≡ Some p
      → (p.over ≡ true) × (S.start.words.pass c.round.last v ≡ None))
      → VolumeRests S c v
  goes_on : SomeIsOutrun S c → VolumeRests S c v
