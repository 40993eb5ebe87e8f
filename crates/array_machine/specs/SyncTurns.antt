-- The sync worker: the pass of a volume goes row by row, makes of each row what its members want, and syncs what it
-- wrote at each checkpoint. Source: resync and recovery of the kernel's raid1.c, raid5.c and raid10.c, and sync_action
-- and resync_start of its md.rst; one call a turn, and where the checkpoints are, are this project's own.
use Rattle.std.specs.Prelude.{ℕ, ◌+◌, ◌*◌, ◌/◌, ◌%◌, ◌==◌, ◌||◌, ◌&&◌, not, nat_lt, min, Bool, true, false, List, [], ◌∷◌, ◌++◌, filter, Option, Some, None, if◌then◌else◌}
use Rattle.std.specs.List.{range_with_len, list_any}
use Rattle.std.specs.Option.{option_map_or}
use Rattle.units.specs.declared.disk.Sector.{Sector}
use Rattle.units.specs.declared.bounds.TheConstants.{CLIENTS}
use Rattle.units.specs.declared.volume.Level.{Level}
use Rattle.units.specs.declared.volume.Level.TheVariants.{One, Five, Ten}
use Rattle.device_log.specs.Log.{What, Read, Write, Sync}
use Rattle.array_model.specs.Placement.{Shape, parity_slot}
use Rattle.array_model.specs.Script.{sector_of}
use Rattle.array_machine.specs.Numbers.{has, without, is_empty}
use Rattle.array_machine.specs.Setting.{Setting}
use Rattle.array_machine.specs.Volumes.{disk_in, Member, member_at, members_of, Got, Pass, Volume, volume_at, source_in}
use Rattle.array_machine.specs.Operations.{shape_of}
use Rattle.array_machine.specs.Rounds.{Ended, stored_of}
use Rattle.array_machine.specs.Control.{Control}
use Rattle.array_machine.specs.Changes.{Change, DiskFails, PassMoves, GoesOnQuietly}
use Rattle.array_machine.specs.RowJobs.{others_of, usable_of, targets_in, first_only, unread, xor_got, Need, NoNeed, Reads, Writes, Syncs, Answers, read_or, sync_or}
use Rattle.array_machine.specs.Locks.{locked_from}
use Rattle.array_machine.specs.Faults.{past_syncs, pass_without}
use Rattle.array_machine.specs.Puts.{put}
use Rattle.array_machine.specs.Turns.{Turn, idle, quietly, may_call, call_if, calling}
use Rattle.array_machine.specs.RoundEnds.{and_ended}

-- WHAT A ROW WANTS

-- a set of a row's slots: those that are read, and those that are then written
pub record Work : Type 0 where
  pub reads : List ℕ
  pub writes : List ℕ

-- nothing is done without a slot to read and one to write
abbrev pub work_if : (reads writes : List ℕ) → List Work
work_if [] writes = []
work_if (r ∷ rs) [] = []
work_if (r ∷ rs) (w ∷ ws) = record { reads = r ∷ rs; writes = w ∷ ws } ∷ []

-- slot s and the next are copies: the first of them that may be read is written to the other, where that works
abbrev pub pair_work : List Member → ℕ → List Work
pair_work members s =
    let pair = s ∷ (s + 1) ∷ [] in
    let source = first_only (usable_of members pair) in
    work_if source (filter (λ t. not (has t source)) (targets_in members pair))

-- the slot of a row's parity: the last at first, and one lower with each strip
abbrev pub parity_of : Shape → ℕ → ℕ
parity_of shape row = parity_slot shape.members (row / shape.strip)

-- the slots that don't work, and those that work and aren't in sync
abbrev pub gone_of : Shape → List Member → List ℕ
gone_of shape members = filter (λ s. not (member_at members s).working) (range_with_len 0 shape.members)

abbrev pub rebuilt_of : Shape → List Member → List ℕ
rebuilt_of shape members =
    filter (λ s. (member_at members s).working && not (member_at members s).in_sync) (range_with_len 0 shape.members)

-- With all slots in sync the parity is made of the data, with one to be rebuilt that one is made of the others; with a
-- slot gone there is nothing to make.
abbrev pub parity_work : Shape → ℕ → (gone rebuilt : List ℕ) → List Work
parity_work shape row [] [] = work_if (others_of shape (parity_of shape row)) (parity_of shape row ∷ [])
parity_work shape row [] (s ∷ []) = work_if (others_of shape s) (s ∷ [])
parity_work shape row [] (s ∷ t ∷ more) = []
parity_work shape row (g ∷ gs) rebuilt = []

abbrev pub work_by : Option Level → Shape → ℕ → List Member → List Work
work_by None shape row members = []
work_by (Some One) shape row members = pair_work members 0
work_by (Some Five) shape row members = parity_work shape row (gone_of shape members) (rebuilt_of shape members)
work_by (Some Ten) shape row members = pair_work members 0 ++ pair_work members 2

-- what a pass does in a row, set by set; whether that is something is the same for each row of the volume
abbrev pub row_work : Shape → List Member → ℕ → List Work
row_work shape members row = if nat_lt row shape.rows then work_by shape.level shape row members else []

-- WHERE A PASS STANDS

-- the rows from one checkpoint to the next
abbrev pub checkpoint_rows : ℕ
checkpoint_rows = 1024

-- before this row, or at the end of the rows, what was written is synced
abbrev pub is_checkpoint : Shape → ℕ → Bool
is_checkpoint shape row = (row == shape.rows) || (row % checkpoint_rows == 0)

abbrev pub next_checkpoint : Shape → ℕ → ℕ
next_checkpoint shape row = min ((row / checkpoint_rows + 1) * checkpoint_rows) shape.rows

-- a pass leaves its row, and its lock with it
abbrev pub moves_to : Shape → Pass → ℕ → Pass
moves_to shape p row = record p {
  row = row;
  got = [];
  written = [];
  syncing = is_checkpoint shape row;
  lock = None;
}

-- a checkpoint without a slot to sync is passed
abbrev pub past_checkpoint : Shape → (syncing : Bool) → (touched : List ℕ) → Pass → Pass
past_checkpoint shape true [] p = past_syncs shape p
past_checkpoint shape true (t ∷ ts) p = p
past_checkpoint shape false touched p = p

-- Where the rows want nothing: on to the next checkpoint with what is to be synced, else to the end, and over.
abbrev pub past_rows : Shape → (stays : Bool) → List Work → (touched : List ℕ) → Pass → Pass
past_rows shape true work touched p = p
past_rows shape false (w ∷ ws) touched p = p
past_rows shape false [] [] p = past_syncs shape (moves_to shape p shape.rows)
past_rows shape false [] (t ∷ ts) p = moves_to shape p (next_checkpoint shape p.row)

-- where a pass stands once all is done that takes no call
abbrev pub settled : Shape → List Member → Pass → Pass
settled shape members p =
    let q = past_checkpoint shape p.syncing p.touched p in
    past_rows shape (q.over || q.syncing) (row_work shape members q.row) q.touched q

-- WHAT A PASS NEEDS NEXT

-- the slots of a set that weren't written yet
abbrev pub unwritten_of : List ℕ → Work → List ℕ
unwritten_of written w = filter (λ s. not (has s written)) w.writes

-- a set is read, and then written; one that is written wants nothing
abbrev pub need_set : (unread unwritten : List ℕ) → (after : Need) → Need
need_set left [] after = after
need_set left (s ∷ ss) after = read_or left (Writes s)

-- the first set that isn't written
abbrev pub need_sets : Pass → List Work → Need
need_sets p [] = NoNeed
need_sets p (w ∷ ws) = need_set (unread w.reads p.got) (unwritten_of p.written w) (need_sets p ws)

-- at a checkpoint the syncs, in slot order; in a row what it wants; nothing once the pass is over
abbrev pub pass_need : Pass → List Work → (over syncing : Bool) → Need
pass_need p work true syncing = NoNeed
pass_need p work false true = sync_or p.touched NoNeed
pass_need p work false false = need_sets p work

-- WHAT A CALL LEAVES

-- what is written to a slot: what was read of its set, added up bit by bit
abbrev pub new_sector : Setting → List Work → List Got → ℕ → Sector
new_sector S [] got s = sector_of 0
new_sector S (w ∷ ws) got s =
    if has s w.writes then xor_got S (filter (λ g. has g.slot w.reads) got) else new_sector S ws got s

-- one slot more, in slot order, each once
abbrev pub with_slot : ℕ → List ℕ → List ℕ
with_slot s [] = s ∷ []
with_slot s (t ∷ ts) =
    if nat_lt t s then t ∷ with_slot s ts else (if t == s then t ∷ ts else s ∷ t ∷ ts)

abbrev pub all_written : List ℕ → List Work → Bool
all_written written [] = true
all_written written (w ∷ ws) = is_empty (unwritten_of written w) && all_written written ws

abbrev pub next_row : Shape → (done : Bool) → Pass → Pass
next_row shape true p = moves_to shape p (p.row + 1)
next_row shape false p = p

-- its call went through: behind a row's last write comes the next row, behind the last sync the checkpoint is passed
abbrev pub pass_went : Shape → List Work → Need → Sector → Pass → Pass
pass_went shape work (Reads s) x p = record p { got = p.got ++ record { slot = s; sector = x } ∷ [] }
pass_went shape work (Writes s) x p =
    let q = record p { written = p.written ++ s ∷ []; touched = with_slot s p.touched } in
    next_row shape (all_written q.written work) q
pass_went shape work (Syncs s) x p =
    let q = record p { touched = without s p.touched } in
    past_checkpoint shape q.syncing q.touched q
pass_went shape work NoNeed x p = p
pass_went shape work (Answers answer) x p = p

-- a pass that is still in this row holds it
abbrev pub with_lock : ℕ → Pass → Pass
with_lock row p = if p.row == row then record p { lock = Some row } else p

-- From its first read or write in a row on, gone through or failed, a pass holds the row; a sync is of no row.
abbrev pub locked_by : Need → ℕ → Pass → Pass
locked_by (Reads s) row p = with_lock row p
locked_by (Writes s) row p = with_lock row p
locked_by (Syncs s) row p = p
locked_by NoNeed row p = p
locked_by (Answers answer) row p = p

-- A TURN

-- a row of a volume, as a place on each member
abbrev pub row_place : Setting → ℕ → ℕ → ℕ
row_place S v row = (shape_of S v).pba + row

abbrev pub pass_what : Setting → ℕ → Pass → List Work → Ended → Need → What
pass_what S v p work x (Reads s) = Read (row_place S v p.row)
pass_what S v p work x (Writes s) = Write (row_place S v p.row) (new_sector S work p.got s ∷ []) (stored_of x 1)
pass_what S v p work x (Syncs s) = Sync
pass_what S v p work x NoNeed = Sync
pass_what S v p work x (Answers answer) = Sync

-- the pass as its call leaves it
abbrev pub pass_moves : ℕ → Volume → Need → (row : ℕ) → Pass → Change
pass_moves v y need row p = PassMoves v y.slots (Some (locked_by need row p)) GoesOnQuietly

-- The call went through; or the disk fails, which the pass leaves out as the others do, and what goes on may end.
abbrev pub pass_changes : Setting → Control → ℕ → Volume → Pass → List Work → Ended → Need → (d : ℕ) → (went : Bool)
    → List Change
pass_changes S c v y p work x need d true = pass_moves v y need p.row (pass_went (shape_of S v) work need x.got p) ∷ []
pass_changes S c v y p work x need d false =
    let failed = put S (DiskFails d) c in
    DiskFails d
    ∷ and_ended S failed (pass_moves v y need p.row
    (pass_without (shape_of S v) d y.slots (volume_at failed.volumes v).broken p))

abbrev pub pass_on : Setting → Control → ℕ → Volume → Pass → List Work → Ended → Need → Option ℕ → Turn
pass_on S c v y p work x need None = idle
pass_on S c v y p work x need (Some d) =
    call_if (may_call S c.round d)
    (calling d (pass_what S v p work x need) x (pass_changes S c v y p work x need d x.went))

-- A row is read and written only while it is free; a slot is read only in sync. A pass that came to its end without a
-- call is over.
abbrev pub pass_meets : Setting → Control → ℕ → Volume → Pass → List Work → Ended → (free : Bool) → Need → Turn
pass_meets S c v y p work x free NoNeed =
    if p.over then quietly (PassMoves v y.slots (Some p) GoesOnQuietly ∷ []) else idle
pass_meets S c v y p work x true (Reads s) = pass_on S c v y p work x (Reads s) (source_in y s)
pass_meets S c v y p work x false (Reads s) = idle
pass_meets S c v y p work x true (Writes s) = pass_on S c v y p work x (Writes s) (disk_in y.slots s)
pass_meets S c v y p work x false (Writes s) = idle
pass_meets S c v y p work x free (Syncs s) = pass_on S c v y p work x (Syncs s) (disk_in y.slots s)
pass_meets S c v y p work x free (Answers answer) = idle

-- a row of the volume that no client holds: CLIENTS is the number of none
abbrev pub is_free_row : Setting → Control → ℕ → ℕ → Bool
is_free_row S c v row = nat_lt row (shape_of S v).rows && not (locked_from S v row CLIENTS 0 c.clients)

abbrev pub pass_at : Setting → Control → ℕ → Volume → Ended → (stops : Bool) → Option Pass → Turn
pass_at S c v y x stops None = idle
pass_at S c v y x true (Some p) = idle
pass_at S c v y x false (Some p) =
    let members = members_of c.round.faults c.round.blocked y.slots in
    let q = settled (shape_of S v) members p in
    let work = row_work (shape_of S v) members q.row in
    pass_meets S c v y q work x (is_free_row S c v q.row) (pass_need q work q.over q.syncing)

-- the sync worker's turn for volume v: none while it is broken, its pass is over, or a member is blocked
abbrev pub synced : Setting → Control → ℕ → Ended → Turn
synced S c v x =
    let y = volume_at c.volumes v in
    pass_at S c v y x
    (y.broken || option_map_or (λ p. p.over) y.pass false
    || list_any (λ m. m.blocked) (members_of c.round.faults c.round.blocked y.slots)) y.pass
