-- A report that is printed is one on the images of a bank.
use Rattle.std.proofs.Common.{◌≡◌, ℕ, List, subst}
use Rattle.image_outside.specs.Endings.{Prints}
use Rattle.image_outside.specs.Told.{BankTold}
use Rattle.image_verdict.specs.declared.images.ImageRead.{ImageRead}
use Rattle.image_verdict.specs.declared.report.Report.{Report}
use Rattle.image_verdict.specs.Images.{HasReadAnchors, IsFoundOn}
use Rattle.image_verdict.specs.Reports.{IsReport}
use Rattle.image_verdict.specs.Text.{report_status, report_text}
use Rattle.image_verdict.specs.Endings.{Reports}

pub reported : (bank : BankTold) (images read : List ImageRead) (report : Report) → read ≡ images → IsFoundOn bank images → HasReadAnchors bank images → IsReport read report
    → (lines : List ℕ) (status : ℕ) → Prints (report_text report) (report_status report) lines status → Reports bank lines status
reported bank images read report was found reads says lines status prints = record {
  images = images;
  found = found;
  reads = reads;
  report = report;
  says = subst (λ (i : List ImageRead). IsReport i report) was says;
  lines_are = prints.lines_are;
  status_is = prints.status_is;
}
