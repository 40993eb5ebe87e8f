-- How a command ends with a report. Source: this project's own.
use Rattle.std.specs.Prelude.{◌≡◌, ℕ, List}
use Rattle.image_outside.specs.Told.{BankTold}
use Rattle.image_verdict.specs.declared.images.ImageRead.{ImageRead}
use Rattle.image_verdict.specs.declared.report.Report.{Report}
use Rattle.image_verdict.specs.Images.{IsFoundOn, HasReadAnchors}
use Rattle.image_verdict.specs.Reports.{IsReport}
use Rattle.image_verdict.specs.Text.{report_status, report_text}

-- The anchor of each disk of the bank was read, and the lines and the status are those of the report on the images.
pub record Reports (bank : BankTold) (lines : List ℕ) (status : ℕ) : Type 0 where
  pub images : List ImageRead
  pub found : IsFoundOn bank images
  pub reads : HasReadAnchors bank images
  pub report : Report
  pub says : IsReport images report
  pub lines_are : lines ≡ report_text report
  pub status_is : status ≡ report_status report
