-- What journal and log say of the rounds, kept by each turn.
use Rattle.std.proofs.Common.{◌≡◌, ℕ, ◌+◌, ◌≤◌, ◌==◌, ◌&&◌, Bool, true, false, if◌then◌else◌, List, [], ◌∷◌, ◌++◌, length, drop, refl, ap, sym, ◌∙◌, subst, arith, length-append, inl, inr, Option, Some, None}
use Rattle.std.specs.Prelude.{⊤}
use Rattle.std.proofs.lemmas.Bool.Decides.{nat_tests}
use Rattle.std.proofs.lemmas.List.{drop-append-le}
use Rattle.units.specs.declared.disk.Sector.{Sector}
use Rattle.units.specs.Places.{anchor_place}
use Rattle.device_log.specs.Log.{Call, What, Read, Write, Sync}
use Rattle.array_model.specs.declared.journal.Event.{Event}
use Rattle.array_model.specs.Blocks.{Laid, block_of}
use Rattle.array_model.specs.Candidates.{Disk, In, Part, NoPart, ExtendedPart, AnchorPart, OtherPart, part_of, written, with_block, is_among, standing, noted, disk_at, disk_called, disk_from, writes}
use Rattle.array_model.proofs.Journals.{all-append}
use Rattle.stage_machine.specs.Setting.{Setting, has_disk}
use Rattle.stage_machine.specs.Opens.{IsFirstVolume}
use Rattle.stage_machine.specs.Rounds.{AtAnchor, Going}
use Rattle.stage_machine.specs.Jobs.{JobStep, Busy, Writes, the_shape, row_at, value_at}
use Rattle.stage_machine.specs.Machine.{Control, need_now, log_after}
use Rattle.stage_machine.proofs.Turns.{Turns, Has, AsksFor, anchor, settle, put, sync, get, nothing, fails, anchors, settles, ends, begins, readies, actives, cleans, rests, pasts, asks_read, asks_write, puts, syncs, gets, acks}
use Rattle.stage_machine.proofs.Clients.{Mine, of_job, NeedIn, need_in}
use Rattle.stage_machine.proofs.Blocks.{disk-snoc, noted_anchor}
use Rattle.stage_machine.proofs.Stands.{Good, GoodRound, going_good, RowCall, row_write, row_read, row_sync}
use Rattle.stage_machine.proofs.Targets.{row_inside}
use Rattle.stage_machine.proofs.Finished.{LeftIn}
use Rattle.stage_machine.proofs.Marks.{blank, Marks, AllMarks, marks_row, marks_anchor, metadata_fits}
use Rattle.array_model.proofs.Written.{counted_known}

abbrev pub gen : Setting → Laid → ℕ
gen S m = S.start.words.generation m.anchor

-- CALLS

-- a call at a row, or the anchor of the round that is going on
pub data CallKind (S : Setting) (c : Control) (d : ℕ) : What → Type 0 where
  kind_row : (what : What) → RowCall S d what → CallKind S c d what
  kind_anchor : (m : Laid) (ds : List ℕ) (stored : ℕ) → c.round.phase ≡ Going m AtAnchor (d ∷ ds) → CallKind S c d (Write (anchor_place (S.start.disks.sectors d)) (m.anchor ∷ []) stored)

abbrev pub KindOf : Setting → Control → Option Call → Type 0
KindOf S c None = ⊤
KindOf S c (Some x) = CallKind S c x.disk x.what

module _ (S : Setting) (volume : IsFirstVolume S) (c : Control) (mine : Mine S c) where
  put_row : (k i : ℕ) (left : List ℕ) (step : JobStep) (d : ℕ) (ds : List ℕ) (stored : ℕ) → Has c k left (Busy i step) → need_now S c k i step ≡ Writes d ds
      → RowCall S d (Write ((the_shape S).pba + row_at S i) (value_at S i ∷ []) stored)
  put_row k i left step d ds stored here need =
      let job = of_job S c k i left step mine here in
      row_write _ stored _ (row_inside S volume c k i left step d mine here (subst (NeedIn S.members) need (need_in S c k i step job.inside)).0)

  kind_asked : (d : ℕ) (what : What) → AsksFor S c d what → CallKind S c d what
  kind_asked _ _ (anchor m d ds stored is) = kind_anchor m ds stored is
  kind_asked _ _ (settle m d ds is) = kind_row _ row_sync
  kind_asked _ _ (put k i left step d ds stored here need) = kind_row _ (put_row k i left step d ds stored here need)
  kind_asked _ _ (sync k i left step d ds here need) = kind_row _ row_sync
  kind_asked _ _ (get k i left step d here need) = kind_row _ (row_read _)

  pub kind_turns : (got : Sector) {call : Option Call} {es : List Event} {next : Control} → Turns S c got call es next → KindOf S c call
  kind_turns got nothing = tt
  kind_turns got (fails d what asked) = kind_asked d what asked
  kind_turns got (anchors m d ds is) = kind_anchor m ds 1 is
  kind_turns got (settles m d e ds is) = kind_row _ row_sync
  kind_turns got (ends m d is) = kind_row _ row_sync
  kind_turns got (begins d ds is some why) = tt
  kind_turns got (readies is s t) = tt
  kind_turns got (actives is s t r) = tt
  kind_turns got (cleans is s t) = tt
  kind_turns got (rests t calm) = tt
  kind_turns got (pasts k i rest here none) = tt
  kind_turns got (asks_read k i rest place here is w ready) = tt
  kind_turns got (asks_write k i rest place here is w ready) = tt
  kind_turns got (puts k i left step d ds here need) = kind_row _ (put_row k i left step d ds 1 here need)
  kind_turns got (syncs k i left step d ds here need) = kind_row _ row_sync
  kind_turns got (gets k i left step d here need) = kind_row _ (row_read _)
  kind_turns got (acks k i left step answer here need) = tt

pub marks_more : (S : Setting) (Q : Laid → Type 0) (c : Control) → GoodRound S c.round → LeftIn S c.round.phase → ((m : Laid) (left : List ℕ) → c.round.phase ≡ Going m AtAnchor left → Q m)
    → (log : List Call) (x : Option Call) → KindOf S c x → AllMarks S Q log → AllMarks S Q (log_after log x)
marks_more S Q c good left q log None kind h = h
marks_more S Q c good left q log (Some x) kind h = all-append (λ call. Marks S Q call.disk call.what) log (x ∷ []) h (at x.disk x.what kind, tt)
  where
    at : (d : ℕ) (what : What) → CallKind S c d what → Marks S Q d what
    at d _ (kind_row what row) = marks_row what row
    at d _ (kind_anchor m ds stored is) = marks_anchor m stored (subst (LeftIn S) is left).0 (going_good S c.round m AtAnchor (d ∷ ds) good is) (q m (d ∷ ds) is)

module _ (S : Setting) (volume : IsFirstVolume S) where
  -- the blocks written stay written
  part_grows : (k : Disk) (m : Laid) (p : Part) → In m k.known → In m (written S.start.words k p).known
  part_grows k m NoPart i = i
  part_grows k m (ExtendedPart sectors) i = i
  part_grows k m (AnchorPart s) i = at (block_of S.start.words k.pend s)
    where
      at : (b : Option Laid) → In m (with_block k b).known
      at None = i
      at (Some a) = inr i
  part_grows k m OtherPart i = i

  what_grows : (d : ℕ) (k : Disk) (m : Laid) (what : What) (went : Bool) → In m k.known → In m (noted S.start.words (S.start.disks.serial d) (S.start.disks.sectors d) k what went).known
  what_grows d k m (Read place) went i = i
  what_grows d k m (Write place sectors stored) went i = part_grows k m (part_of (S.start.disks.sectors d) place sectors) i
  what_grows d k m Sync false i = i
  what_grows d k m Sync true i =
      let a = standing S.start.words (S.start.disks.sectors d) k.cells in
      subst (In m) (sym (counted_known S.start.words k a (S.start.words.is_whole (S.start.disks.serial d) (S.start.disks.sectors d) a && is_among a k.known))) i

  called_grows : (d : ℕ) (k : Disk) (m : Laid) (x : Call) → In m k.known → In m (disk_called S.start.words S.start.disks d k x).known
  called_grows d k m x i = at (x.disk == d)
    where
      at : (b : Bool) → In m (if b then disk_at S.start.words (S.start.disks.serial d) (S.start.disks.sectors d) k x.what x.went else k).known
      at true = what_grows d k m x.what x.went i
      at false = i

  writes-snoc : (d n : ℕ) (log : List Call) (x : Call) → n ≤ length log
      → writes S.start.words S.start.disks d (drop n (log ++ x ∷ [])) ≡ (disk_called S.start.words S.start.disks d (disk_from S.start.words S.start.disks d blank (drop n log)) x).known
  writes-snoc d n log x le =
      ap (λ calls. (disk_from S.start.words S.start.disks d blank calls).known) (drop-append-le n log (x ∷ []) le)
      ∙ ap (λ (k : Disk). k.known) (disk-snoc S.start.words S.start.disks d blank (drop n log) x)

  pub writes_grow : (d n : ℕ) (m : Laid) (log : List Call) (x : Option Call) → n ≤ length log → In m (writes S.start.words S.start.disks d (drop n log)) → In m (writes S.start.words S.start.disks d (drop n (log_after log x)))
  writes_grow d n m log None le i = i
  writes_grow d n m log (Some x) le i = subst (In m) (sym (writes-snoc d n log x le)) (called_grows d (disk_from S.start.words S.start.disks d blank (drop n log)) m x i)

  -- an anchor writes its block
  pub writes_anchor : (d n stored : ℕ) (m : Laid) (went : Bool) (log : List Call) → n ≤ length log → has_disk d S.targets ≡ true → Good S m
      → In m (writes S.start.words S.start.disks d (drop n (log ++ record { disk = d; what = Write (anchor_place (S.start.disks.sectors d)) (m.anchor ∷ []) stored; went = went } ∷ [])))
  writes_anchor d n stored m went log le target good =
      let k = disk_from S.start.words S.start.disks d blank (drop n log) in
      let here : (d == d) ≡ true = grind (arith, nat_tests) in
      let is = noted_anchor S.start.words (S.start.disks.serial d) (S.start.disks.sectors d) k m stored went (metadata_fits S volume d target) good.alone in
      subst (In m) (sym (writes-snoc d n log _ le)) (rw here (subst (In m) (sym (ap (λ (x : Disk). x.known) is)) (inl refl)))

pub longer : (log : List Call) (x : Option Call) → length log ≤ length (log_after log x)
longer log None = omega arith
longer log (Some x) = omega (arith, length-append log (x ∷ []))
