-- Row jobs at every level: which slots a job reads, writes and syncs, each in the order of the slots, and what the
-- failure of a member does to it. Source: raid1.c and raid10.c of the kernel for mirrors, the read-modify-write and
-- reconstruct-write of its raid5.c for parity; one call at a time, and the order of the calls, are this project's own.
use Rattle.std.specs.Prelude.{ℕ, ◌==◌, ◌&&◌, not, nat_lt, Bool, true, false, List, [], ◌∷◌, ◌++◌, filter, map, Option, Some, None, if◌then◌else◌}
use Rattle.std.specs.List.{range_with_len, list_any}
use Rattle.units.specs.declared.disk.Sector.{Sector}
use Rattle.units.specs.declared.volume.Level.{Level}
use Rattle.units.specs.declared.volume.Level.TheVariants.{One, Five, Ten}
use Rattle.array_model.specs.declared.journal.Answer.{Answer}
use Rattle.array_model.specs.declared.journal.Answer.TheVariants.{Done, Value}
use Rattle.array_model.specs.Script.{sector_of}
use Rattle.array_model.specs.Placement.{Shape, Placement}
use Rattle.array_machine.specs.Numbers.{has, without}
use Rattle.array_machine.specs.Setting.{Setting}
use Rattle.array_machine.specs.Volumes.{Slot, disks_of, same_disk, Member, member_at, is_usable, member_of, members_of, Got}
use Rattle.array_machine.specs.Clients.{Row}

-- MEMBERS AS A JOB SEES THEM

-- A slot whose disk isn't the one that it had doesn't work for the job. Where the disk is blocked it holds the job all
-- the same.
abbrev pub seen_as : (same : Bool) → Member → Member
seen_as true m = m
seen_as false m = record m { working = false }

-- the slots now, beside the disks that they had at the job's first call
abbrev pub members_since : List (Option ℕ) → List ℕ → List ℕ → List Slot → List Member
members_since [] faults blocked slots = members_of faults blocked slots
members_since (d ∷ ds) faults blocked [] = []
members_since (d ∷ ds) faults blocked (s ∷ ss) =
    seen_as (same_disk d s.disk) (member_of faults blocked s) ∷ members_since ds faults blocked ss

-- by the disks that failed and those that are blocked; a job that hasn't begun sees the slots as they are
abbrev pub members_for : Row → List ℕ → List ℕ → List Slot → List Member
members_for r faults blocked slots =
    if r.begun then members_since r.disks faults blocked slots else members_of faults blocked slots

-- SLOTS

-- the slot of the data and the slot of its mirror or of the parity, in order
abbrev pub pair_of : Placement → List ℕ
pair_of p = if nat_lt p.main p.other then p.main ∷ p.other ∷ [] else p.other ∷ p.main ∷ []

-- all slots of a volume but one
abbrev pub others_of : Shape → ℕ → List ℕ
others_of shape s = without s (range_with_len 0 shape.members)

-- those of some slots that work and are in sync
abbrev pub usable_of : List Member → List ℕ → List ℕ
usable_of members slots = filter (λ s. is_usable (member_at members s)) slots

-- those of some slots that a write goes to: their disks work, in sync or not
abbrev pub targets_in : List Member → List ℕ → List ℕ
targets_in members slots = filter (λ s. (member_at members s).working) slots

-- the disk of one of some slots is blocked
abbrev pub any_blocked : List Member → List ℕ → Bool
any_blocked members slots = list_any (λ s. (member_at members s).blocked) slots

abbrev pub first_only : List ℕ → List ℕ
first_only [] = []
first_only (s ∷ ss) = s ∷ []

-- WHAT A JOB READS

-- a read: a mirror's first slot that may be read, the data slot of a parity volume, or what is left to compute it from
abbrev pub read_plan : Option Level → Shape → Placement → List Member → List ℕ
read_plan None shape p members = []
read_plan (Some One) shape p members = first_only (usable_of members (pair_of p))
read_plan (Some Five) shape p members =
    if is_usable (member_at members p.main) then p.main ∷ [] else others_of shape p.main
read_plan (Some Ten) shape p members = first_only (usable_of members (pair_of p))

-- A write on a parity volume: the old data and the old parity where both may be read, else all other data, from which
-- the parity is made anew; nothing where no parity is written.
abbrev pub parity_plan : Shape → Placement → List Member → List ℕ
parity_plan shape p members =
    if is_usable (member_at members p.main) && is_usable (member_at members p.other) then pair_of p
    else (if (member_at members p.other).working then without p.other (others_of shape p.main) else [])

-- a write: a mirror needs no old sector
abbrev pub write_plan : Option Level → Shape → Placement → List Member → List ℕ
write_plan None shape p members = []
write_plan (Some One) shape p members = []
write_plan (Some Five) shape p members = parity_plan shape p members
write_plan (Some Ten) shape p members = []

-- the slots that a read or a write reads first
abbrev pub planned : Shape → Placement → (writes : Bool) → List Member → List ℕ
planned shape p false members = read_plan shape.level shape p members
planned shape p true members = write_plan shape.level shape p members

-- a plan that was made stays
abbrev pub plan_or : Option (List ℕ) → List ℕ → List ℕ
plan_or None new = new
plan_or (Some plan) new = plan

abbrev pub got_slots : List Got → List ℕ
got_slots got = map (λ g. g.slot) got

-- the slots of a plan that weren't read yet
abbrev pub unread : List ℕ → List Got → List ℕ
unread plan got = filter (λ s. not (has s (got_slots got))) plan

-- SECTORS

-- a sector and all that was read, added up bit by bit
abbrev pub xor_all : Setting → Sector → List Got → Sector
xor_all S x [] = x
xor_all S x (g ∷ gs) = xor_all S (S.xor x g.sector) gs

-- what was read, added up bit by bit: of one sector that sector
abbrev pub xor_got : Setting → List Got → Sector
xor_got S [] = sector_of 0
xor_got S (g ∷ gs) = xor_all S g.sector gs

-- what a write brings to a slot: its value, and to the parity the value with all that was read
abbrev pub sector_to : Setting → Option Level → Placement → Sector → List Got → ℕ → Sector
sector_to S None p value got s = value
sector_to S (Some One) p value got s = value
sector_to S (Some Five) p value got s = if s == p.other then xor_all S value got else value
sector_to S (Some Ten) p value got s = value

-- WHAT A JOB NEEDS NEXT

-- nothing, as it is held; a call on the disk of a slot; or to be answered
pub data Need : Type 0 where
  NoNeed : Need
  Reads : (slot : ℕ) → Need
  Writes : (slot : ℕ) → Need
  Syncs : (slot : ℕ) → Need
  Answers : (answer : Answer) → Need

-- the first of these slots is read, written or synced; where there is none, what comes after
abbrev pub read_or : List ℕ → Need → Need
read_or [] after = after
read_or (s ∷ ss) after = Reads s

abbrev pub write_or : List ℕ → Need → Need
write_or [] after = after
write_or (s ∷ ss) after = Writes s

abbrev pub sync_or : List ℕ → Need → Need
sync_or [] after = after
sync_or (s ∷ ss) after = Syncs s

-- a job whose calls are made is held as long as a disk of its pair is blocked
abbrev pub answer_if : (held : Bool) → Answer → Need
answer_if true answer = NoNeed
answer_if false answer = Answers answer

-- the targets that weren't written yet, and those that were written and not synced
abbrev pub unwritten : List Member → List ℕ → Row → List ℕ
unwritten members pair r = filter (λ s. not (has s r.written)) (targets_in members pair)

abbrev pub unsynced : List Member → List ℕ → Row → List ℕ
unsynced members pair r = filter (λ s. has s r.written && not (has s r.synced)) (targets_in members pair)

-- once all is read: a read has its value, a write is made on each target, and then synced on each
abbrev pub after_reads : Setting → List Member → List ℕ → (writes : Bool) → Row → Need
after_reads S members pair false r = answer_if (any_blocked members pair) (Value (xor_got S r.got))
after_reads S members pair true r =
    write_or (unwritten members pair r) (sync_or (unsynced members pair r) (answer_if (any_blocked members pair) Done))

-- what a job of this placement needs, with these members
abbrev pub need_by : Setting → Shape → Placement → (writes : Bool) → List Member → Row → Need
need_by S shape p writes members r =
    read_or (unread (plan_or r.plan (planned shape p writes members)) r.got)
    (after_reads S members (pair_of p) writes r)

-- A CALL OF A JOB

-- the disks that the slots had at the first call
abbrev pub disks_begun : (begun : Bool) → List (Option ℕ) → List Slot → List (Option ℕ)
disks_begun false before slots = disks_of slots
disks_begun true before slots = before

-- a call was made, whatever came of it: the job has begun, with a plan
abbrev pub tried : List Slot → List ℕ → Row → Row
tried slots plan r = record r {
  begun = true;
  plan = Some (plan_or r.plan plan);
  disks = disks_begun r.begun r.disks slots;
}

-- its call went through
abbrev pub went_on : Need → Sector → Row → Row
went_on NoNeed x r = r
went_on (Reads s) x r = record r { got = r.got ++ record { slot = s; sector = x } ∷ [] }
went_on (Writes s) x r = record r { written = r.written ++ s ∷ [] }
went_on (Syncs s) x r = record r { synced = r.synced ++ s ∷ [] }
went_on (Answers answer) x r = r

-- with slots of its plan left to read it reads again from the start, by a new plan
abbrev pub lost_if : (left : List ℕ) → Row → Row
lost_if [] r = r
lost_if (s ∷ ss) r = record r { plan = None; got = [] }

-- A member of the volume fails, whether the job reads its slot or not. Once the last read went through nothing is read
-- again: the member is left out.
abbrev pub lost_row : (plan : Option (List ℕ)) → Row → Row
lost_row None r = r
lost_row (Some plan) r = lost_if (unread plan r.got) r
