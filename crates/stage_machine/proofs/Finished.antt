-- Which calls a run makes, and what the blocks have in common that it writes.
use Rattle.std.proofs.Common.{◌≡◌, ℕ, zero, suc, ◌+◌, ◌<◌, true, List, [], ◌∷◌, take, drop, refl, sym, ◌∙◌, subst, Option, Some, None}
use Rattle.std.specs.Prelude.{⊤}
use Rattle.std.specs.List.{AllByRecursion}
use Rattle.units.specs.declared.disk.Sector.{Sector}
use Rattle.units.specs.Places.{anchor_place}
use Rattle.device_log.specs.Log.{Call, What, Read, Write, Sync}
use Rattle.array_model.specs.declared.journal.Entry.{Entry}
use Rattle.array_model.specs.declared.journal.Event.{Event}
use Rattle.array_model.specs.Blocks.{Laid}
use Rattle.array_model.specs.Candidates.{In, writes}
use Rattle.array_model.specs.Rounds.{IsFinished, IsFinishedBy, IsRound, ended}
use Rattle.array_model.proofs.Journals.{all-append, all_map}
use Rattle.array_model.specs.Renewal.{FitsGeneration, SaysSame}
use Rattle.stage_machine.specs.Setting.{Setting, Renews, has_disk}
use Rattle.stage_machine.specs.Opens.{StandsOnAll, IsFirstVolume}
use Rattle.stage_machine.specs.Rounds.{AtAnchor, Phase, Rest, Going}
use Rattle.stage_machine.specs.Jobs.{JobStep, Busy, Reads, Writes, the_shape, row_at, value_at}
use Rattle.stage_machine.specs.Machine.{Control, need_now, World, Reached, opens, goes, got_of, log_after}
use Rattle.stage_machine.proofs.Turns.{Turns, turns_of, Has, AsksFor, anchor, settle, put, sync, get, nothing, fails, anchors, settles, ends, begins, readies, actives, cleans, rests, pasts, asks_read, asks_write, puts, syncs, gets, acks}
use Rattle.stage_machine.proofs.Clients.{Mine, mine_reached, of_job, NeedIn, need_in, row_below, AllIn, all_in_self}
use Rattle.stage_machine.proofs.Blocks.{IsRow}
use Rattle.stage_machine.proofs.Stands.{Good, GoodRound, going_good, good_reached, fitted, row_write, row_read, row_sync}
use Rattle.stage_machine.proofs.Targets.{row_inside}
use Rattle.stage_machine.proofs.Marks.{AllMarks, Marks, marks_row, marks_anchor, written_marks}

-- CALLS

-- the anchor of a good block, a row of a member, or a sync
pub data Fine (S : Setting) (d : ℕ) : What → Type 0 where
  fine_anchor : (m : Laid) (stored : ℕ) → has_disk d S.targets ≡ true → Good S m → Fine S d (Write (anchor_place (S.start.disks.sectors d)) (m.anchor ∷ []) stored)
  fine_write : (place stored : ℕ) (s : Sector) → IsRow (S.start.disks.sectors d) place → Fine S d (Write place (s ∷ []) stored)
  fine_read : (row : ℕ) → row < (the_shape S).size → has_disk d S.members ≡ true → Fine S d (Read ((the_shape S).pba + row))
  fine_sync : Fine S d Sync

abbrev pub IsFine : Setting → Call → Type 0
IsFine S call = Fine S call.disk call.what

-- the targets that are left are targets
abbrev pub LeftIn : Setting → Phase → Type 0
LeftIn S Rest = ⊤
LeftIn S (Going m step left) = AllIn S.targets left

left_turns : (S : Setting) (c : Control) (got : Sector) {call : Option Call} {es : List Event} {next : Control} → Turns S c got call es next → GoodRound S c.round → LeftIn S c.round.phase → LeftIn S next.round.phase
left_turns S c got nothing good h = h
left_turns S c got (fails d what asked) good h = h
left_turns S c got (anchors m d ds is) good h = subst (LeftIn S) is h
left_turns S c got (settles m d e ds is) good h = (subst (LeftIn S) is h).1
left_turns S c got (ends m d is) good h = tt
left_turns S c got (begins d ds is some why) good h = subst (AllIn S.targets) (sym good.working ∙ some) (all_in_self S.targets)
left_turns S c got (readies is s t) good h = h
left_turns S c got (actives is s t r) good h = h
left_turns S c got (cleans is s t) good h = h
left_turns S c got (rests t calm) good h = h
left_turns S c got (pasts k i rest has_disk none) good h = h
left_turns S c got (asks_read k i rest place has_disk is w live) good h = h
left_turns S c got (asks_write k i rest place has_disk is w live) good h = h
left_turns S c got (puts k i left step d ds has_disk need) good h = h
left_turns S c got (syncs k i left step d ds has_disk need) good h = h
left_turns S c got (gets k i left step d has_disk need) good h = h
left_turns S c got (acks k i left step answer has_disk need) good h = h

module _ (S : Setting) (volume : IsFirstVolume S) (c : Control) (mine : Mine S c) (good : GoodRound S c.round) (left : LeftIn S c.round.phase) where
  fine_put : (k i : ℕ) (more : List ℕ) (step : JobStep) (d : ℕ) (ds : List ℕ) (stored : ℕ) → Has c k more (Busy i step) → need_now S c k i step ≡ Writes d ds
      → Fine S d (Write ((the_shape S).pba + row_at S i) (value_at S i ∷ []) stored)
  fine_put k i more step d ds stored has_disk need =
      let job = of_job S c k i more step mine has_disk in
      let member = (subst (NeedIn S.members) need (need_in S c k i step job.inside)).0 in
      fine_write _ stored _ (row_inside S volume c k i more step d mine has_disk member)

  fine_get : (k i : ℕ) (more : List ℕ) (step : JobStep) (d : ℕ) → Has c k more (Busy i step) → need_now S c k i step ≡ Reads d → Fine S d (Read ((the_shape S).pba + row_at S i))
  fine_get k i more step d has_disk need =
      let job = of_job S c k i more step mine has_disk in
      fine_read (row_at S i) (row_below S volume.level i job.place job.placed) (subst (NeedIn S.members) need (need_in S c k i step job.inside))

  fine_asked : (d : ℕ) (what : What) → AsksFor S c d what → Fine S d what
  fine_asked _ _ (anchor m d ds stored is) = fine_anchor m stored (subst (LeftIn S) is left).0 (going_good S c.round m AtAnchor (d ∷ ds) good is)
  fine_asked _ _ (settle m d ds is) = fine_sync
  fine_asked _ _ (put k i more step d ds stored has_disk need) = fine_put k i more step d ds stored has_disk need
  fine_asked _ _ (sync k i more step d ds has_disk need) = fine_sync
  fine_asked _ _ (get k i more step d has_disk need) = fine_get k i more step d has_disk need

  fine_turns : (log : List Call) (got : Sector) {call : Option Call} {es : List Event} {next : Control} → Turns S c got call es next → AllByRecursion (IsFine S) log → AllByRecursion (IsFine S) (log_after log call)
  fine_turns log got nothing h = h
  fine_turns log got (fails d what asked) h = all-append (IsFine S) log _ h (fine_asked d what asked, tt)
  fine_turns log got (anchors m d ds is) h = all-append (IsFine S) log _ h (fine_anchor m 1 (subst (LeftIn S) is left).0 (going_good S c.round m AtAnchor (d ∷ ds) good is), tt)
  fine_turns log got (settles m d e ds is) h = all-append (IsFine S) log _ h (fine_sync, tt)
  fine_turns log got (ends m d is) h = all-append (IsFine S) log _ h (fine_sync, tt)
  fine_turns log got (begins d ds is some why) h = h
  fine_turns log got (readies is s t) h = h
  fine_turns log got (actives is s t r) h = h
  fine_turns log got (cleans is s t) h = h
  fine_turns log got (rests t calm) h = h
  fine_turns log got (pasts k i rest has_disk none) h = h
  fine_turns log got (asks_read k i rest place has_disk is w live) h = h
  fine_turns log got (asks_write k i rest place has_disk is w live) h = h
  fine_turns log got (puts k i more step d ds has_disk need) h = all-append (IsFine S) log _ h (fine_put k i more step d ds 1 has_disk need, tt)
  fine_turns log got (syncs k i more step d ds has_disk need) h = all-append (IsFine S) log _ h (fine_sync, tt)
  fine_turns log got (gets k i more step d has_disk need) h = all-append (IsFine S) log _ h (fine_get k i more step d has_disk need, tt)
  fine_turns log got (acks k i more step answer has_disk need) h = h

pub left_reached : (S : Setting) → Renews S → StandsOnAll S → (w : World) → FitsGeneration w.control.round.note → Reached S w → LeftIn S w.control.round.phase
left_reached S renews on w fits opens = tt
left_reached S renews on w fits (goes {w = v} r a) =
    let before = fitted S v a fits in
    left_turns S v.control (got_of a) (turns_of S v.control a) (good_reached S renews on v before r) (left_reached S renews on v before r)

pub fine_reached : (S : Setting) → Renews S → StandsOnAll S → IsFirstVolume S → (w : World) → FitsGeneration w.control.round.note → Reached S w → AllByRecursion (IsFine S) w.log
fine_reached S renews on volume w fits opens = tt
fine_reached S renews on volume w fits (goes {w = v} r a) =
    let before = fitted S v a fits in
    fine_turns S volume v.control (mine_reached S v r) (good_reached S renews on v before r) (left_reached S renews on v before r) v.log (got_of a) (turns_of S v.control a) (fine_reached S renews on volume v before r)

-- BLOCKS

pub all_take : (S : Setting) (n : ℕ) (log : List Call) → AllByRecursion (IsFine S) log → AllByRecursion (IsFine S) (take n log)
all_take S zero log h = tt
all_take S (suc n) [] h = tt
all_take S (suc n) (x ∷ log) h = (h.0, all_take S n log h.1)

fine_marks : (S : Setting) (d : ℕ) (what : What) → Fine S d what → Marks S (Good S) d what
fine_marks S d _ (fine_anchor m stored target good) = marks_anchor m stored target good good
fine_marks S d _ (fine_write place stored s row) = marks_row _ (row_write place stored s row)
fine_marks S d _ (fine_read row below member) = marks_row _ (row_read _)
fine_marks S d _ fine_sync = marks_row _ row_sync

all_fine_marks : (S : Setting) (log : List Call) → AllByRecursion (IsFine S) log → AllMarks S (Good S) log
all_fine_marks S log fine = all_map (IsFine S) (λ call. Marks S (Good S) call.disk call.what) (λ call h. fine_marks S call.disk call.what h) log fine

module _ (S : Setting) (volume : IsFirstVolume S) where
  -- a block that the log writes behind some call is a good one
  pub written_good : (log : List Call) (stamp d : ℕ) (m : Laid) → AllByRecursion (IsFine S) log → In m (writes S.start.words S.start.disks d (drop stamp log)) → SaysSame S.start.words m S.start.newest
  written_good log stamp d m fine written = (written_marks S volume (Good S) log stamp d m (all_fine_marks S log fine) written).same

  -- so is that of a round
  pub round_good : (log : List Call) (stamp g : ℕ) (m : Laid) → AllByRecursion (IsFine S) log → IsRound S.start log stamp g m → SaysSame S.start.words m S.start.newest
  round_good log stamp g m fine round = written_good log stamp round.disk m fine round.written

  -- so is the block of the last finished round
  pub finished_good : StandsOnAll S → (log : List Call) (journal : List Entry) (m : Laid) → AllByRecursion (IsFine S) log → IsFinished S.start log journal m → SaysSame S.start.words m S.start.newest
  finished_good on log journal m fine finished = at (ended journal) finished
    where
      at : (g : Option ℕ) → IsFinishedBy S.start log journal m g → SaysSame S.start.words m S.start.newest
      at None is = subst (λ z. SaysSame S.start.words z S.start.newest) (sym is) (record { container = refl; expects = λ serial. refl; is_supported = λ v. refl; pass = λ v. refl; slots = λ v. refl })
      at (Some g) (stamp, begun, round) = round_good log stamp g m fine round
