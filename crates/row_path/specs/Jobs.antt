-- Which row of the machine a job stands for, and what it needs and is fed, seen in the code's types. Source: this
-- project's own.
use Rattle.std.specs.Prelude.{◌≡◌, ℕ, ◌<◌, ⊤, Bool, true, false, List, [], ◌∷◌, None}
use Rattle.std.specs.Option.{option_map}
use Rattle.units.specs.declared.disk.Sector.{Sector}
use Rattle.array_model.specs.AnswerLaw.{xor_bytes}
use Rattle.array_model.specs.Script.{sector_of}
use Rattle.array_model.specs.Placement.{Shape, Placement}
use Rattle.raid_map.specs.Mapped.{shape_of, placement_told}
use Rattle.array_machine.specs.Setting.{Setting}
use Rattle.array_machine.specs.Volumes.{Got, Slot}
use Rattle.array_machine.specs.Clients.{Row}
use Rattle.array_machine.specs.RowJobs as machine
use Rattle.row_path.specs.declared.members.Members.{Members}
use Rattle.row_path.specs.declared.members.Fed.{Fed}
use Rattle.row_path.specs.declared.members.Fed.TheVariants as fed
use Rattle.row_path.specs.declared.job.JobKind.{JobKind}
use Rattle.row_path.specs.declared.job.JobKind.TheVariants.{Read, Write}
use Rattle.row_path.specs.declared.job.Need.{Need}
use Rattle.row_path.specs.declared.job.Need.TheVariants as need
use Rattle.row_path.specs.declared.job.RowJob.{RowJob}
use Rattle.row_path.specs.Marks.{AreMarksOf}
use Rattle.row_path.specs.Seen.{members_seen}
use Rattle.row_path.specs.Plans.{slots_of}

-- THE ROW OF A JOB

-- sectors are added up byte by byte
abbrev pub AddsBytes : Setting → Type 0
AddsBytes S = (x y : Sector) → (S.xor x y).0 ≡ xor_bytes x.0 y.0

abbrev pub is_write : JobKind → Bool
is_write Read = false
is_write (Write value) = true

abbrev pub shape_for : RowJob → Shape
shape_for j = shape_of j.geometry

abbrev pub place_for : RowJob → Placement
place_for j = placement_told j.place

-- what was read, added up: onto the value, where there is one to write
abbrev pub sum_of : Setting → JobKind → List Got → Sector
sum_of S Read got = machine.xor_got S got
sum_of S (Write value) got = machine.xor_all S value got

-- what a write brings to its volume
abbrev pub value_of : JobKind → Sector
value_of Read = sector_of 0
value_of (Write value) = value

abbrev pub some_got : List Got → Bool
some_got [] = false
some_got (g ∷ gs) = true

-- A job stands for a row of the machine, whichever disks that row has: of the sectors that were read it has the sum.
pub record StandsFor (S : Setting) (j : RowJob) (r : Row) : Type 0 where
  pub begun : r.begun ≡ j.begun
  pub plan : r.plan ≡ option_map (slots_of (shape_for j) (place_for j)) j.plan
  pub has_read : some_got r.got ≡ j.has_read
  pub read : AreMarksOf j.read.marks (machine.got_slots r.got)
  pub written : AreMarksOf j.written.marks r.written
  pub synced : AreMarksOf j.synced.marks r.synced
  pub sum : sum_of S j.kind r.got ≡ j.sum

-- nothing but the row changes
pub record IsSameJob (old new : RowJob) : Type 0 where
  pub kind : new.kind ≡ old.kind
  pub geometry : new.geometry ≡ old.geometry
  pub place : new.place ≡ old.place

-- WHAT IT NEEDS

abbrev pub plan_by : RowJob → Members → List ℕ
plan_by j m = machine.planned (shape_for j) (place_for j) (is_write j.kind) (members_seen m)

abbrev pub need_of : Setting → RowJob → Members → Row → machine.Need
need_of S j m r = machine.need_by S (shape_for j) (place_for j) (is_write j.kind) (members_seen m) r

-- a job that needs nothing is held by a blocked disk
abbrev pub need_seen : machine.Need → Need
need_seen machine.NoNeed = need.HeldBlocked
need_seen (machine.Reads s) = need.Read (record { 0 = s })
need_seen (machine.Writes s) = need.Write (record { 0 = s })
need_seen (machine.Syncs s) = need.Sync (record { 0 = s })
need_seen (machine.Answers answer) = need.Done

-- a broken volume goes before a write-pending one, and that before a blocked disk
abbrev pub need_unless : (broken pending : Bool) → machine.Need → Need
need_unless true pending n = need.Broken
need_unless false true n = need.HeldPending
need_unless false false n = need_seen n

-- a call that it needs is on one of so many slots
abbrev pub IsOnMember : ℕ → Need → Type 0
IsOnMember n (need.Read slot) = slot.0 < n
IsOnMember n (need.Write slot) = slot.0 < n
IsOnMember n (need.Sync slot) = slot.0 < n
IsOnMember n need.HeldPending = ⊤
IsOnMember n need.HeldBlocked = ⊤
IsOnMember n need.Done = ⊤
IsOnMember n need.Broken = ⊤

-- WHAT IT IS FED

-- A call went through, or a member failed; what doesn't answer a need changes nothing.
abbrev pub fed_by : Fed → machine.Need → (begun : Row) → Row → Row
fed_by (fed.Got x) (machine.Reads s) begun r = machine.went_on (machine.Reads s) x begun
fed_by (fed.Got x) _ begun r = r
fed_by fed.Went (machine.Writes s) begun r = machine.went_on (machine.Writes s) (sector_of 0) begun
fed_by fed.Went (machine.Syncs s) begun r = machine.went_on (machine.Syncs s) (sector_of 0) begun
fed_by fed.Went _ begun r = r
fed_by (fed.Lost s) n begun r = machine.lost_row r.plan r

-- it reads again from the start, by a new plan
abbrev pub read_anew : Row → Row
read_anew r = record r { plan = None; got = [] }

-- the row once a call was made, whatever came of it
abbrev pub row_tried : RowJob → Members → List Slot → Row → Row
row_tried j m slots r = machine.tried slots (plan_by j m) r
