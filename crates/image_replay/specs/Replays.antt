-- What a replay says of a bank's disks and leaves of them. Source: this project's own.
use Rattle.std.specs.Prelude.{◌≡◌, ℕ, ◌⊎◌, true, false, List, IfSome}
use Rattle.std.specs.List.{AllByRecursion}
use Rattle.array_model.specs.declared.journal.Entry.{Entry}
use Rattle.array_model.specs.Fits.{FitsEntry}
use Rattle.array_model.specs.Kept.{ScriptState, asked_by}
use Rattle.first_opening.specs.Opened.{Opened, IsOpening}
use Rattle.stage.specs.declared.ends.DriveEnd.{DriveEnd}
use Rattle.image_outside.specs.declared.status.TheConstants.Status.{REFUSED}
use Rattle.image_outside.specs.Told.{BankTold}
use Rattle.image_verdict.specs.declared.images.ImageRead.{ImageRead}
use Rattle.image_verdict.specs.Images.{anchor_reads, HasReadAnchors, IsFoundOn}
use Rattle.image_verdict.specs.Reports.{bytes_of_all}
use Rattle.image_verdict.specs.Endings.{Reports}
use Rattle.image_start.specs.Starts.{IsStarted}
use Rattle.image_start.specs.Openings.{first_anchor}
use Rattle.image_replay.specs.Ends.{IsUnstarted, asks_second, end_status}
use Rattle.image_replay.specs.Lines.{absent_volume_line, run_text}
use Rattle.image_replay.specs.Runs.{LeavesRun}

-- No run was made, as the images are not those of a volume that starts: the lines are the report on them.
pub record LeavesReport (bank : BankTold) (lines : List ℕ) (status : ℕ) : Type 0 where
  pub unstarted : IsUnstarted status
  pub reports : Reports bank lines status

-- No run was made, as an operation names the second volume, of images of which the first starts.
pub record LeavesAbsent (script : ScriptState) (bank : BankTold) (lines : List ℕ) (status : ℕ) : Type 0 where
  pub asks : asks_second script.ops ≡ true
  pub images : List ImageRead
  pub found : IsFoundOn bank images
  pub reads : HasReadAnchors bank images
  pub started : IsStarted images
  pub lines_are : lines ≡ absent_volume_line
  pub status_is : status ≡ REFUSED.0

-- The disks of a bank, which hold a container, whose newest block was read of the first image. Where the bank tells
-- both what it held and its log, the contents are those that it told.
pub record IsHeldBy (bank : BankTold) (images : List ImageRead) (o : Opened) : Type 0 where
  pub opens : IsOpening o
  pub named : o.serials ≡ bytes_of_all bank.serials
  pub sized : o.sizes ≡ bank.sizes
  pub newest : o.anchor ≡ first_anchor images
  pub held : IfSome bank.opening (λ contents. IfSome bank.log (λ log. o.contents ≡ contents))

-- A run was made on the disks of images that start, behind the reads that found them. The lines are the text of its
-- journal, and one that says how it ended; the entries are such that no other journal has this text.
pub record Replays (script : ScriptState) (limit : ℕ) (bank : BankTold) (lines : List ℕ) (status : ℕ) : Type 0 where
  pub asks : asks_second script.ops ≡ false
  pub images : List ImageRead
  pub found : IsFoundOn bank images
  pub started : IsStarted images
  pub o : Opened
  pub held : IsHeldBy bank images o
  pub journal : List Entry
  pub ended : DriveEnd
  pub run : LeavesRun o (asked_by script) limit (anchor_reads images) bank journal ended
  pub fits : AllByRecursion FitsEntry journal
  pub lines_are : lines ≡ run_text bank.serials journal ended
  pub status_is : status ≡ end_status ended

-- what a replay leaves of a bank: a report on its images, that a volume isn't there, or a run
abbrev pub ReplaysBy : ScriptState → (limit : ℕ) → BankTold → (lines : List ℕ) → (status : ℕ) → Type 0
ReplaysBy script limit bank lines status =
    LeavesReport bank lines status ⊎ LeavesAbsent script bank lines status ⊎ Replays script limit bank lines status
