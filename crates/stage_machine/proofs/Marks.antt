-- What the blocks have in common that a log of rows and anchors writes.
use Rattle.std.proofs.Common.{◌≡◌, ℕ, zero, suc, ◌≤◌, ◌==◌, ◌&&◌, Bool, true, false, if◌then◌else◌, List, [], ◌∷◌, drop, refl, ap, sym, subst, arith}
use Rattle.std.specs.List.{AllByRecursion}
use Rattle.std.proofs.lemmas.Bool.Decides.{nat_tests}
use Rattle.units.specs.declared.bounds.TheConstants.{METADATA_SECTORS}
use Rattle.units.specs.Places.{anchor_place}
use Rattle.device_log.specs.Log.{Call, What, Write}
use Rattle.device_log.specs.Cells.{resting}
use Rattle.array_model.specs.Blocks.{Laid}
use Rattle.array_model.specs.Candidates.{Disk, In, is_among, standing, disk_at, disk_called, disk_from, writes}
use Rattle.array_model.proofs.Journals.{all_map}
use Rattle.array_model.proofs.Written.{counted_known, in_all}
use Rattle.stage_machine.specs.Setting.{Setting, has_disk}
use Rattle.stage_machine.specs.Opens.{IsFirstVolume}
use Rattle.stage_machine.proofs.Blocks.{noted_row, noted_anchor}
use Rattle.stage_machine.proofs.Stands.{Good, RowCall, row_write, row_read, row_sync}

abbrev pub blank : Disk
blank = record { cells = λ p. resting (record { 0 = [] }); pend = []; known = []; candidates = []; best = 0 }

-- a call at a row, or the anchor of a block of which Q holds
pub data Marks (S : Setting) (Q : Laid → Type 0) (d : ℕ) : What → Type 0 where
  marks_row : (what : What) → RowCall S d what → Marks S Q d what
  marks_anchor : (m : Laid) (stored : ℕ) → has_disk d S.targets ≡ true → Good S m → Q m → Marks S Q d (Write (anchor_place (S.start.disks.sectors d)) (m.anchor ∷ []) stored)

abbrev pub AllMarks : Setting → (Laid → Type 0) → List Call → Type 0
AllMarks S Q log = AllByRecursion (λ call. Marks S Q call.disk call.what) log

marks_map : (S : Setting) (Q R : Laid → Type 0) → ((m : Laid) → Q m → R m) → (d : ℕ) (what : What) → Marks S Q d what → Marks S R d what
marks_map S Q R f d _ (marks_row what row) = marks_row what row
marks_map S Q R f d _ (marks_anchor m stored target good q) = marks_anchor m stored target good (f m q)

pub all_marks_map : (S : Setting) (Q R : Laid → Type 0) → ((m : Laid) → Q m → R m) → (log : List Call) → AllMarks S Q log → AllMarks S R log
all_marks_map S Q R f log h = all_map (λ call. Marks S Q call.disk call.what) (λ call. Marks S R call.disk call.what) (λ call x. marks_map S Q R f call.disk call.what x) log h

all_marks_drop : (S : Setting) (Q : Laid → Type 0) (n : ℕ) (log : List Call) → AllMarks S Q log → AllMarks S Q (drop n log)
all_marks_drop S Q zero log h = h
all_marks_drop S Q (suc n) [] h = tt
all_marks_drop S Q (suc n) (x ∷ log) h = all_marks_drop S Q n log h.1

-- a target has room for the metadata
pub metadata_fits : (S : Setting) → IsFirstVolume S → (d : ℕ) → has_disk d S.targets ≡ true → METADATA_SECTORS ≤ S.start.disks.sectors d
metadata_fits S volume d target = let room = volume.room d target in omega (arith, room)

module _ (S : Setting) (volume : IsFirstVolume S) where
  known_at : (Q : Laid → Type 0) (d : ℕ) (k : Disk) (what : What) (went : Bool) → Marks S Q d what → AllByRecursion Q k.known
      → AllByRecursion Q (disk_at S.start.words (S.start.disks.serial d) (S.start.disks.sectors d) k what went).known
  known_at Q d k _ went (marks_anchor m stored target good q) h =
      let is = noted_anchor S.start.words (S.start.disks.serial d) (S.start.disks.sectors d) k m stored went (metadata_fits S volume d target) good.alone in
      subst (AllByRecursion Q) (sym (ap (λ (x : Disk). x.known) is)) (q, h)
  known_at Q d k _ went (marks_row _ (row_write place stored s row)) h =
      subst (AllByRecursion Q) (sym (ap (λ (x : Disk). x.known) (noted_row S.start.words (S.start.disks.serial d) (S.start.disks.sectors d) k place stored s went row))) h
  known_at Q d k _ went (marks_row _ (row_read place)) h = h
  known_at Q d k _ true (marks_row _ row_sync) h =
      let m = standing S.start.words (S.start.disks.sectors d) k.cells in
      subst (AllByRecursion Q) (sym (counted_known S.start.words k m (S.start.words.is_whole (S.start.disks.serial d) (S.start.disks.sectors d) m && is_among m k.known))) h
  known_at Q d k _ false (marks_row _ row_sync) h = h

  known_from : (Q : Laid → Type 0) (d : ℕ) (k : Disk) (log : List Call) → AllMarks S Q log → AllByRecursion Q k.known → AllByRecursion Q (disk_from S.start.words S.start.disks d k log).known
  known_from Q d k [] marks h = h
  known_from Q d k (x ∷ log) marks h = known_from Q d (disk_called S.start.words S.start.disks d k x) log marks.1 (at (x.disk == d) refl)
    where
      at : (b : Bool) → (x.disk == d) ≡ b → AllByRecursion Q (if b then disk_at S.start.words (S.start.disks.serial d) (S.start.disks.sectors d) k x.what x.went else k).known
      at true is = let here : x.disk ≡ d = grind (arith, nat_tests, is) in known_at Q d k x.what x.went (subst (λ z. Marks S Q z x.what) here marks.0) h
      at false is = h

  -- Q holds of a block that a part of the log writes
  pub written_marks : (Q : Laid → Type 0) (log : List Call) (n d : ℕ) (m : Laid) → AllMarks S Q log → In m (writes S.start.words S.start.disks d (drop n log)) → Q m
  written_marks Q log n d m marks i = in_all Q m (writes S.start.words S.start.disks d (drop n log)) i (known_from Q d blank (drop n log) (all_marks_drop S Q n log marks) tt)
