-- How the pass of a volume comes to be another: it opens, has come so far, is closed, or its call went through or
-- failed. Source: this project's own.
use Rattle.std.specs.Prelude.{◌≡◌, ℕ, ◌*◌, ◌<◌, Bool, true, false, List, [], ◌∷◌, Option, Some, None}
use Rattle.std.specs.List.{list_any}
use Rattle.units.specs.declared.bounds.TheConstants.{UNIT_ROWS}
use Rattle.device_log.specs.Log.{What, Read, Write, Sync}
use Rattle.array_machine.specs.Setting.{Setting}
use Rattle.array_machine.specs.States.{IsReadonly, IsReadAuto}
use Rattle.array_machine.specs.Volumes.{Slot, Member, members_of, disk_in, source_in, Pass, volume_at}
use Rattle.array_machine.specs.Operations.{shape_of}
use Rattle.array_machine.specs.RowJobs.{Need, Reads, Writes, Syncs}
use Rattle.array_machine.specs.Rounds.{Ended, Step, OfRound, Rest, Going}
use Rattle.array_machine.specs.Control.{Control}
use Rattle.array_machine.specs.Changes.{DiskFails, PassWord, GoesOnQuietly, OpensAt, Reaches, Closes}
use Rattle.array_machine.specs.Faults.{pass_without}
use Rattle.array_machine.specs.Puts.{put}
use Rattle.array_machine.specs.RoundEnds.{all_in_sync, has_other, seated, pass_from}
use Rattle.array_machine.specs.SyncTurns.{Work, row_work, settled, pass_need, new_sector, pass_went, locked_by, row_place, is_free_row}
use Rattle.array_paths.specs.InTurn.{InTurn, state_of, is_broken}

abbrev pub slots_of : Control → ℕ → List Slot
slots_of c v = (volume_at c.volumes v).slots

abbrev pub members_at : Control → ℕ → List Member
members_at c v = members_of c.round.faults c.round.blocked (slots_of c v)

-- what the pass of volume v does in a row
abbrev pub work_at : Setting → Control → (v row : ℕ) → List Work
work_at S c v row = row_work (shape_of S v) (members_at c v) row

-- The pass goes on, and once all is done that takes no call it is this one.
pub record GoesOn (S : Setting) (c : Control) (v : ℕ) (pass : Pass) : Type 0 where
  pub had : Pass
  pub is : (volume_at c.volumes v).pass ≡ Some had
  pub going : had.over ≡ false
  pub sound : is_broken c v ≡ false
  pub unblocked : list_any (λ m. m.blocked) (members_at c v) ≡ false
  pub settles : pass ≡ settled (shape_of S v) (members_at c v) had

-- It needs this next.
pub record PassNeeds (S : Setting) (c : Control) (v : ℕ) (p : Pass) (need : Need) : Type 0 where
  pub goes_on : GoesOn S c v p
  pub is : pass_need p (work_at S c v p.row) p.over p.syncing ≡ need

-- A call of the pass on disk d, which is in the slot that it needs: what is asked.
pub data PassCall (S : Setting) (c : Control) (v d : ℕ) : Pass → Need → What → (stored : ℕ) → Type 0 where
  reads : (p : Pass) (s stored : ℕ) → PassNeeds S c v p (Reads s) → is_free_row S c v p.row ≡ true
      → source_in (volume_at c.volumes v) s ≡ Some d
      → PassCall S c v d p (Reads s) (Read (row_place S v p.row)) stored
  writes : (p : Pass) (s stored : ℕ) → PassNeeds S c v p (Writes s) → is_free_row S c v p.row ≡ true
      → disk_in (slots_of c v) s ≡ Some d
      → PassCall S c v d p (Writes s)
      (Write (row_place S v p.row) (new_sector S (work_at S c v p.row) p.got s ∷ []) stored) stored
  syncs : (p : Pass) (s stored : ℕ) → PassNeeds S c v p (Syncs s) → disk_in (slots_of c v) s ≡ Some d
      → PassCall S c v d p (Syncs s) Sync stored

-- the pass behind a call that went through, and behind one that failed, where the failure is in the state already
abbrev pub pass_after : Setting → Control → (v : ℕ) → Pass → Need → Ended → Pass
pass_after S c v p need x = locked_by need p.row (pass_went (shape_of S v) (work_at S c v p.row) need x.got p)

abbrev pub pass_lost : Setting → Control → (v d : ℕ) → Pass → Need → Pass
pass_lost S c v d p need = locked_by need p.row (pass_without (shape_of S v) d (slots_of c v) (is_broken c v) p)

-- the round that was going on when the turn began has just ended, with this block as the last finished round's
pub record EndsNow (t : InTurn) (c : Control) : Type 0 where
  pub step : Step
  pub left : List ℕ
  pub late : List ℕ
  pub done : Bool
  pub was : t.before.round.phase ≡ Going OfRound c.round.last step left late done
  pub rests : c.round.phase ≡ Rest

-- A volume that was just made ready has the pass that the book has open. The end of a round gives slots to other disks
-- and opens a pass over them; it has recorded a higher unit; it has closed the pass. A pass has come to its end without
-- a call, or its call failed in this turn.
pub data PassMove (S : Setting) (t : InTurn) (c : Control) (v : ℕ) : List Slot → Option Pass → PassWord → Type 0 where
  opens : (kind : ℕ) → (volume_at c.volumes v).started ≡ true → state_of t.before v ≡ IsReadonly
      → state_of c v ≡ IsReadAuto → S.start.words.pass c.round.book v ≡ Some kind
      → PassMove S t c v (slots_of c v) (Some (pass_from (S.start.words.unit c.round.book v)))
      (OpensAt (S.start.words.unit c.round.book v * UNIT_ROWS))
  seats : EndsNow t c → (volume_at c.volumes v).started ≡ true
      → has_other S (S.start.words.slots c.round.last v) (slots_of c v) ≡ true
      → PassMove S t c v (seated S (S.start.words.slots c.round.last v) (slots_of c v)) (Some (pass_from 0)) (OpensAt 0)
  reaches : (was is : ℕ) → EndsNow t c → (volume_at c.volumes v).started ≡ true
      → S.start.words.pass t.before.round.last v ≡ Some was → S.start.words.pass c.round.last v ≡ Some is
      → S.start.words.unit t.before.round.last v < S.start.words.unit c.round.last v
      → PassMove S t c v (slots_of c v) (volume_at c.volumes v).pass (Reaches (S.start.words.unit c.round.last v))
  closes : (was : ℕ) → EndsNow t c → (volume_at c.volumes v).started ≡ true
      → S.start.words.pass t.before.round.last v ≡ Some was → S.start.words.pass c.round.last v ≡ None
      → PassMove S t c v (all_in_sync c.round.faults (slots_of c v)) None Closes
  comes_to_its_end : (p : Pass) → GoesOn S c v p → p.over ≡ true
      → PassMove S t c v (slots_of c v) (Some p) GoesOnQuietly
  loses : (d : ℕ) (p : Pass) (need : Need) (what : What) (stored : ℕ) → PassCall S t.before v d p need what stored
      → c ≡ put S (DiskFails d) t.before
      → PassMove S t c v (slots_of c v) (Some (pass_lost S c v d p need)) GoesOnQuietly
