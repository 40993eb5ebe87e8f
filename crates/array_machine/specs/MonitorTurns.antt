-- A turn of the monitor while it lives: the next call of what goes on, else the first of its rules that holds.
-- Source: the order of read_and_act of mdadm's monitor.c, and imsm_set_array_state and imsm_set_disk of super-intel.c;
-- that metadata is clean before the array is, and which failures unblock, is this project's own.
use Rattle.std.specs.Prelude.{ℕ, ◌+◌, ◌*◌, ◌||◌, ◌&&◌, not, nat_lt, Bool, true, false, List, [], ◌∷◌, ◌++◌, filter, map, flat_map, length, is_some, Option, Some, None, if◌then◌else◌}
use Rattle.std.specs.List.{range_with_len}
use Rattle.units.specs.declared.bounds.TheConstants.{UNIT_ROWS}
use Rattle.array_model.specs.Blocks.{Laid}
use Rattle.array_machine.specs.Numbers.{has, first_of, is_empty}
use Rattle.array_machine.specs.Setting.{Edit, TakesGeneration, FailsDisk, CountsOut, MakesDirty, MakesClean, RecordsUnit, ClosesPass, StartsVolume, Setting, edited}
use Rattle.array_machine.specs.States.{is_readonly, is_pending, is_idle, is_resting, ToReady, ToActive, ToClean}
use Rattle.array_machine.specs.Volumes.{Pass, Volume, volume_at}
use Rattle.array_machine.specs.Rounds.{Ended, Phase, Rest, Going, Round, expects, all_disks, has_target, what_of}
use Rattle.array_machine.specs.Control.{Control}
use Rattle.array_machine.specs.Changes.{OpensAt, Change, StepsOn, RoundBegins, DiskUnblocks, StateGoes, PassMoves}
use Rattle.array_machine.specs.Turns.{Turn, idle, quietly, may_call, call_if, calling}
use Rattle.array_machine.specs.EditFacts.{is_sound}
pub use Rattle.array_machine.specs.EditFacts.{facts_of}
use Rattle.array_machine.specs.RoundEnds.{has_other, pass_from, and_ended, called}
use Rattle.array_machine.specs.Updates.{apply_if}

-- RULES ON STATES

-- the numbers of the volumes that pass a test
abbrev pub volumes_where : (ℕ → Volume → Bool) → List Volume → List ℕ
volumes_where test volumes = filter (λ v. test v (volume_at volumes v)) (range_with_len 0 (length volumes))

-- read-only, though a round has ended since the opening or the last takeover
abbrev pub is_unready : Round → ℕ → Volume → Bool
is_unready r v x = x.started && is_readonly x.state && r.ended

-- a write waits, and the volume's being dirty is recorded
abbrev pub may_activate : Setting → Round → ℕ → Volume → Bool
may_activate S r v x = is_sound x && is_pending x.state && r.ended && S.start.words.is_dirty r.last v

-- no write came for a while
abbrev pub may_clean : ℕ → Volume → Bool
may_clean v x = is_sound x && is_idle x.state

-- a disk's failure is recorded: the last finished round doesn't expect it, and no takeover came since
abbrev pub is_recorded : Setting → Round → ℕ → Bool
is_recorded S r d = r.ended && not (expects S r.last d)

-- the blocked disks whose failure is recorded
abbrev pub unblockable : Setting → Round → List ℕ
unblockable S r = filter (λ d. has d r.blocked && is_recorded S r d) (all_disks S)

-- WHAT IS DUE IN THE BOOK

-- the disks that failed and that the book expects
abbrev pub failed_now : Setting → Round → List ℕ
failed_now S r = filter (λ d. has d r.faults && expects S r.book d) (all_disks S)

abbrev pub edit_if : Bool → Edit → List Edit
edit_if true e = e ∷ []
edit_if false e = []

-- a write waits and the book says clean
abbrev pub owes_dirty : Setting → Laid → ℕ → Volume → Bool
owes_dirty S book v x = is_sound x && is_pending x.state && not (S.start.words.is_dirty book v)

-- no write waits or goes on and the book says dirty
abbrev pub owes_clean : Setting → Laid → ℕ → Volume → Bool
owes_clean S book v x = is_sound x && is_resting x.state && S.start.words.is_dirty book v

-- the book has the volume's pass open, over the disks that the volume has
abbrev pub has_own_pass : Setting → Laid → ℕ → Volume → Bool
has_own_pass S book v x =
    is_sound x && is_some (S.start.words.pass book v) && not (has_other S (S.start.words.slots book v) x.slots)

-- a pass that is over is to be closed, one that has come further than the book says is to be recorded
abbrev pub pass_edits : Setting → Laid → ℕ → Option Pass → List Edit
pass_edits S book v None = []
pass_edits S book v (Some p) =
    if p.over then ClosesPass v ∷ [] else edit_if (nat_lt (S.start.words.unit book v) p.ready) (RecordsUnit v p.ready)

abbrev pub volume_edits : Setting → Laid → ℕ → Volume → List Edit
volume_edits S book v x =
    edit_if (owes_dirty S book v x) (MakesDirty v) ++ edit_if (owes_clean S book v x) (MakesClean v)
    ++ (if has_own_pass S book v x then pass_edits S book v x.pass else [])

-- what the book owes to the volumes, in their order
abbrev pub due_edits : Setting → Control → List Edit
due_edits S c =
    flat_map (λ v. volume_edits S c.round.book v (volume_at c.volumes v)) (range_with_len 0 (length c.volumes))

abbrev pub has_edits : List Edit → Bool
has_edits [] = false
has_edits (e ∷ es) = true

-- at the start and after a takeover, where a disk failed, and where the book owes an edit
abbrev pub is_due : Setting → Control → Bool
is_due S c = c.round.fresh || not (is_empty (failed_now S c.round)) || has_edits (due_edits S c)

-- THE EDITS OF A ROUND

abbrev pub failure_edits : Setting → Round → List Edit
failure_edits S r = map (λ d. FailsDisk (S.start.disks.serial d)) (failed_now S r)

-- a failure may close a pass: nothing is said of it any more
abbrev pub still_fits : Setting → Laid → Edit → Bool
still_fits S m (RecordsUnit v unit) = is_some (S.start.words.pass m v)
still_fits S m (ClosesPass v) = is_some (S.start.words.pass m v)
still_fits S m _ = true

-- as long as no round has finished: the disks that count out, then the start of each volume
abbrev pub first_edits : Setting → Control → (first : Bool) → List Edit
first_edits S c false = []
first_edits S c true = map CountsOut S.start.counts_out ++ map StartsVolume (volumes_where (λ v x. x.started) c.volumes)

-- all that is due when a round begins: failures, what the book owes and failures left standing, starts, the next number
abbrev pub round_edits : Setting → Control → List Edit
round_edits S c =
    let failures = failure_edits S c.round in
    failures ++ filter (still_fits S (edited S (facts_of S c) c.round.book failures)) (due_edits S c)
    ++ first_edits S c c.round.first ++ TakesGeneration (c.round.note + 1) ∷ []

-- the block of a round that begins
abbrev pub next_block : Setting → Control → Laid
next_block S c = edited S (facts_of S c) c.round.book (round_edits S c)

-- WHERE NOTHING GOES ON

-- The first rule that holds: a volume is made ready; waiting writes are let through; a disk is unblocked; a volume is
-- called clean; a round begins. Where none holds the monitor looks at an update.
pub data Deed : Type 0 where
  Nothing : Deed
  ReadiesVolume : (v : ℕ) → Deed
  LetsWrites : (v : ℕ) → Deed
  UnblocksDisk : (disk : ℕ) → Deed
  CleansVolume : (v : ℕ) → Deed
  BeginsRound : Deed

abbrev pub begin_if : (target due : Bool) → Deed
begin_if true true = BeginsRound
begin_if _ _ = Nothing

abbrev pub choose : (unready active unblock clean : Option ℕ) → (target due : Bool) → Deed
choose (Some v) active unblock clean target due = ReadiesVolume v
choose None (Some v) unblock clean target due = LetsWrites v
choose None None (Some d) clean target due = UnblocksDisk d
choose None None None (Some v) target due = CleansVolume v
choose None None None None target due = begin_if target due

-- of each rule the least volume, or the least disk
abbrev pub deed_of : Setting → Control → Deed
deed_of S c =
    choose (first_of (volumes_where (is_unready c.round) c.volumes))
    (first_of (volumes_where (may_activate S c.round) c.volumes))
    (first_of (unblockable S c.round))
    (first_of (volumes_where may_clean c.volumes))
    (has_target S c.round) (is_due S c)

-- a volume that is made ready has the pass that the book has open, from the unit recorded on
abbrev pub opens_pass : Setting → Control → ℕ → Option ℕ → List Change
opens_pass S c v None = []
opens_pass S c v (Some kind) =
    let unit = S.start.words.unit c.round.book v in
    PassMoves v (volume_at c.volumes v).slots (Some (pass_from unit)) (OpensAt (unit * UNIT_ROWS)) ∷ []

abbrev pub do_deed : Setting → Control → Deed → List Change
do_deed S c Nothing = []
do_deed S c (ReadiesVolume v) = StateGoes v ToReady ∷ opens_pass S c v (S.start.words.pass c.round.book v)
do_deed S c (LetsWrites v) = StateGoes v ToActive ∷ []
do_deed S c (UnblocksDisk d) = DiskUnblocks d ∷ []
do_deed S c (CleansVolume v) = StateGoes v ToClean ∷ []
do_deed S c BeginsRound = RoundBegins (next_block S c) ∷ []

-- a deed, or where there is none the update in hand
abbrev pub rest_changes : Setting → Control → Deed → List Change
rest_changes S c Nothing = apply_if S c (has_target S c.round) c.manager.queue
rest_changes S c deed = do_deed S c deed

-- A TURN

-- what goes on makes the next call on its first target; where nothing goes on no call is made
abbrev pub monitor_at : Setting → Control → Ended → Phase → Turn
monitor_at S c x Rest = quietly (rest_changes S c (deed_of S c))
monitor_at S c x (Going aim m step [] late done) = idle
monitor_at S c x (Going aim m step (d ∷ ds) late done) =
    call_if (may_call S c.round d)
    (calling d (what_of S x m step d) x (called S c x.went d (and_ended S c StepsOn)))
