-- What the failure of a disk does: to the round and a takeover, to the volumes that have the disk in a slot, to their
-- passes, and to the jobs on them. Source: mark_failure of super-intel.c and the states faulty and blocked of the
-- kernel's md.rst; that a volume whose parity may be wrong breaks with its first failure is this project's own.
use Rattle.std.specs.Prelude.{ℕ, ◌+◌, ◌/◌, ◌==◌, ◌||◌, ◌&&◌, not, Bool, true, false, List, [], ◌∷◌, filter, Option, Some, None, if◌then◌else◌}
use Rattle.std.specs.Option.{option_map}
use Rattle.units.specs.declared.bounds.TheConstants.{UNIT_ROWS}
use Rattle.units.specs.declared.volume.Level.{Level}
use Rattle.units.specs.declared.volume.Level.TheVariants.{Five}
use Rattle.array_model.specs.Placement.{Shape}
use Rattle.array_model.specs.Blocks.{Laid}
use Rattle.array_machine.specs.Numbers.{without}
use Rattle.array_machine.specs.Setting.{Setting}
use Rattle.array_machine.specs.Volumes.{Slot, disk_in, same_disk, has_disk, members_of, can_run, Pass, Volume, volume_at}
use Rattle.array_machine.specs.Operations.{volume_of, shape_of}
use Rattle.array_machine.specs.Clients.{Job, NoJob, Submitted, Busy, Client}
use Rattle.array_machine.specs.Rounds.{Life, Takes, lives, Round, expects, dropped}
use Rattle.array_machine.specs.RowJobs.{lost_row}

-- THE ROUND

-- the block that says whether a disk that fails is blocked: the book, and while the monitor doesn't live the last
-- finished round's
abbrev pub fault_base : Round → Laid
fault_base r = if lives r.life then r.book else r.last

abbrev pub blocked_with : Bool → ℕ → List ℕ → List ℕ
blocked_with true d blocked = d ∷ blocked
blocked_with false d blocked = blocked

-- A takeover neither reads the disk any more nor counts what it found there; where the disk was being read, the next
-- one is read from its anchor.
abbrev pub life_without : ℕ → Life → Life
life_without d (Takes [] seen found) = Takes [] [] (without d found)
life_without d (Takes (e ∷ es) seen found) =
    if e == d then Takes (without d es) [] (without d found) else Takes (e ∷ without d es) seen (without d found)
life_without d life = life

abbrev pub round_without : Setting → ℕ → Round → Round
round_without S d r = record r {
  faults = d ∷ r.faults;
  blocked = blocked_with (expects S (fault_base r) d) d r.blocked;
  life = life_without d r.life;
  phase = dropped d r.phase;
}

-- WHAT BREAKS A VOLUME

-- a pass that makes parity right: a resync or a repair
abbrev pub is_repair : Option ℕ → Bool
is_repair None = false
is_repair (Some kind) = (kind == 0) || (kind == 5)

-- Parity may be wrong, so that no lost slot could be given its content: the last finished round has such a pass open,
-- or before the first the newest block calls the volume unfinished. A mirror has no parity.
abbrev pub is_torn : Setting → Round → ℕ → Option Level → Bool
is_torn S r v (Some Five) =
    if r.first then S.start.words.is_unfinished S.start.newest v else is_repair (S.start.words.pass r.last v)
is_torn S r v _ = false

-- a volume with these slots, one of which just lost its disk, can't run, or its parity may be wrong
abbrev pub breaks : Setting → Round → ℕ → List Slot → Bool
breaks S r v slots =
    let level = (shape_of S v).level in
    not (can_run level (members_of r.faults r.blocked slots)) || is_torn S r v level

-- PASSES

-- the syncs of a checkpoint are made: the pass is over at the end of the rows, else the unit of its row may be recorded
abbrev pub past_syncs : Shape → Pass → Pass
past_syncs shape p =
    if p.row == shape.rows then record p { syncing = false; over = true }
    else record p { syncing = false; ready = p.row / UNIT_ROWS }

-- the slots to be synced that didn't have the disk
abbrev pub touched_without : ℕ → List Slot → List ℕ → List ℕ
touched_without d slots touched = filter (λ s. not (same_disk (Some d) (disk_in slots s))) touched

-- The last slot to be synced may have dropped out: its checkpoint is passed at once, unless the volume is broken.
abbrev pub drops_sync : Shape → (broken : Bool) → (before after : List ℕ) → Pass → Pass
drops_sync shape false (s ∷ ss) [] p = past_syncs shape (record p { touched = [] })
drops_sync shape broken before after p = record p { touched = after }

-- A pass whose volume lost a disk: in a row it begins that row again, and keeps its lock; at a checkpoint it leaves out
-- the sync of the disk.
abbrev pub pass_without : Shape → ℕ → List Slot → (broken : Bool) → Pass → Pass
pass_without shape d slots broken p =
    let touched = touched_without d slots p.touched in
    if p.syncing then drops_sync shape broken p.touched touched p
    else record p { got = []; written = []; touched = touched }

-- VOLUMES AND JOBS

abbrev pub volume_lost : Setting → ℕ → ℕ → (broken : Bool) → Volume → Volume
volume_lost S d v broken x = record x {
  broken = broken;
  pass = option_map (pass_without (shape_of S v) d x.slots broken) x.pass;
}

-- by the round that has the fault already; a volume without the disk stays as it is
abbrev pub volume_without : Setting → ℕ → Round → ℕ → Volume → Volume
volume_without S d r v x =
    if x.started && has_disk d x.slots then volume_lost S d v (x.broken || breaks S r v x.slots) x else x

-- the volumes from number v on
abbrev pub volumes_without : Setting → ℕ → Round → ℕ → List Volume → List Volume
volumes_without S d r v [] = []
volumes_without S d r v (x ∷ xs) = volume_without S d r v x ∷ volumes_without S d r (v + 1) xs

-- A job on a volume that has the disk in a slot reads again from the start, where it still reads, also where it doesn't
-- read in that slot.
abbrev pub job_without : Setting → ℕ → List Volume → Job → Job
job_without S d volumes NoJob = NoJob
job_without S d volumes (Submitted i) = Submitted i
job_without S d volumes (Busy i row) =
    Busy i (if has_disk d (volume_at volumes (volume_of S i)).slots then lost_row row.plan row else row)

abbrev pub clients_without : Setting → ℕ → List Volume → List Client → List Client
clients_without S d volumes [] = []
clients_without S d volumes (c ∷ cs) =
    record c { job = job_without S d volumes c.job } ∷ clients_without S d volumes cs
