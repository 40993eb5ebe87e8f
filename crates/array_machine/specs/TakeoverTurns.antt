-- A takeover: after a kill the monitor reads the metadata of the disks that work, and goes on from the newest block
-- that is found where it was given last. Source: load_container_imsm of super-intel.c, by which mdmon reads what is
-- there; that a block must be the one given last, and not below the last finished round's, is this project's own.
use Rattle.std.specs.Prelude.{ℕ, ◌+◌, ◌-◌, ◌||◌, nat_lt, nat_le, Bool, true, false, List, [], ◌∷◌, ◌++◌, length, if◌then◌else◌}
use Rattle.units.specs.declared.disk.Sector.{Sector}
use Rattle.units.specs.declared.bounds.TheConstants.{METADATA_SECTORS}
use Rattle.units.specs.Places.{anchor_place}
use Rattle.device_log.specs.Log.{Read}
use Rattle.array_machine.specs.Setting.{Setting}
use Rattle.array_machine.specs.Rounds.{Ended, Life, Takes, Round}
use Rattle.array_machine.specs.Control.{Control}
use Rattle.array_machine.specs.Changes.{Change, DiskFails, TakeoverReads, MonitorResumes, MonitorDies}
use Rattle.array_machine.specs.Turns.{Turn, quietly, may_call, call_if, calling}
use Rattle.array_machine.specs.Puts.{put}

-- WHICH BLOCK IS GONE ON FROM

-- the generation of the block that a disk was given last
abbrev pub given_generation : Setting → Round → ℕ → ℕ
given_generation S r d = S.start.words.generation (r.given d).anchor

-- of disk d and the disks found before it, the latest one first: the least of those with the highest generation
abbrev pub best_of : Setting → Round → ℕ → List ℕ → ℕ
best_of S r d [] = d
best_of S r d (e ∷ es) =
    if nat_le (given_generation S r d) (given_generation S r e) then best_of S r e es else best_of S r d es

abbrev pub resume_if : ℕ → Bool → Change
resume_if d true = MonitorResumes d
resume_if d false = MonitorDies

-- from the best of the disks found, where its block isn't below the last finished round's
abbrev pub resumes : Setting → Round → List ℕ → List Change
resumes S r [] = MonitorDies ∷ []
resumes S r (d ∷ ds) =
    let best = best_of S r d ds in
    resume_if best (nat_le (S.start.words.generation r.last.anchor) (given_generation S r best)) ∷ []

-- where no disk is left to be read
abbrev pub resumes_now : Setting → Round → Life → List Change
resumes_now S r (Takes [] seen found) = resumes S r found
resumes_now S r _ = []

-- a change, and the end of the takeover where that change left it no disk
abbrev pub and_resumed : Setting → Control → Change → List Change
and_resumed S c a = a ∷ resumes_now S (put S a c).round (put S a c).round.life

-- READS

-- the next place on a disk, behind the sectors read so far: its anchor, then those that belong to it, in order
abbrev pub read_place : Setting → ℕ → List Sector → ℕ
read_place S d [] = anchor_place (S.start.disks.sectors d)
read_place S d (a ∷ more) = anchor_place (S.start.disks.sectors d) - S.start.words.extra a + length more

-- an anchor to which more sectors belong than are kept for metadata is no block's: behind it nothing is read
abbrev pub is_too_long : Setting → Sector → Bool
is_too_long S a = nat_lt METADATA_SECTORS (S.start.words.extra a + 2)

-- the anchor and all sectors that belong to it were read
abbrev pub has_all : Setting → List Sector → Bool
has_all S [] = false
has_all S (a ∷ more) = is_too_long S a || nat_le (S.start.words.extra a) (length more)

-- what was read is the block that the disk was given last
abbrev pub is_given : Setting → Round → ℕ → List Sector → Bool
is_given S r d [] = false
is_given S r d (a ∷ more) = S.tests.same_block (record { anchor = a; extended = more }) (r.given d)

abbrev pub found_with : Setting → Round → ℕ → List Sector → List ℕ → List ℕ
found_with S r d seen found = if is_given S r d seen then d ∷ found else found

-- the changes of a read on d, the first disk left: it goes on with the next sector, or with the disks behind d, or d
-- fails
abbrev pub read_changes : Setting → Control → (went : Bool) → ℕ → List ℕ → List Sector → List ℕ → List Change
read_changes S c true d ds seen found =
    if has_all S seen then and_resumed S c (TakeoverReads ds [] (found_with S c.round d seen found))
    else TakeoverReads (d ∷ ds) seen found ∷ []
read_changes S c false d ds seen found = and_resumed S c (DiskFails d)

-- A turn of a takeover. Where failures left no disk to read, it makes no call.
abbrev pub taking : Setting → Control → Ended → (left : List ℕ) → (seen : List Sector) → (found : List ℕ) → Turn
taking S c x [] seen found = quietly (resumes S c.round found)
taking S c x (d ∷ ds) seen found =
    call_if (may_call S c.round d)
    (calling d (Read (read_place S d seen)) x (read_changes S c x.went d ds (seen ++ x.got ∷ []) found))
