-- What the images of a bank say of its disks.
use Rattle.std.proofs.Common.{◌≡◌, ℕ, ◌≤◌, false, true, List, length, map, Option, Some, None, refl, ap, sym, subst}
use Rattle.std.specs.Prelude.{IfSome, ◌≢◌}
use Rattle.std.specs.List.{AllByRecursion, AllPairs}
use Rattle.units.specs.declared.bounds.TheConstants.{MAX_DISKS}
use Rattle.units.specs.declared.disk.Sector.{Sector}
use Rattle.units.specs.declared.disk.Serial.{Serial}
use Rattle.device_log.specs.Log.{Call}
use Rattle.array_model.specs.declared.journal.Entry.{Entry}
use Rattle.array_model.specs.Fits.{FitsEntry}
use Rattle.array_model.specs.Kept.{ScriptState, asked_by}
use Rattle.stage.specs.declared.ends.DriveEnd.{DriveEnd}
use Rattle.image_outside.specs.Told.{BankTold}
use Rattle.image_verdict.specs.declared.images.ImageRead.{ImageRead}
use Rattle.image_verdict.specs.declared.report.Report.{Report}
use Rattle.image_verdict.specs.declared.report.Report.TheVariants.{Unbuilt, Waiting, Started}
use Rattle.image_verdict.specs.Images.{anchor_reads, serials_of_all, IsFoundOn, StandIn}
use Rattle.image_verdict.specs.Reports.{IsReport, bytes_of_all}
use Rattle.image_verdict.specs.Text.{starts}
use Rattle.image_start.specs.Starts.{IsStarted, Starts}
use Rattle.image_start.specs.Openings.{opened_on}
use Rattle.image_start.proofs.Contents.{filled, is-opening, some-stand}
use Rattle.image_replay.specs.Ends.{asks_second, end_status}
use Rattle.image_replay.specs.Lines.{run_text}
use Rattle.image_replay.specs.Runs.{LeavesRun}
use Rattle.image_replay.specs.Replays.{Replays}

pub started_of : (images : List ImageRead) (report : Report) → IsReport images report → starts report ≡ true → IsStarted images
started_of images (Unbuilt s) is on = absurd (cc on)
started_of images (Waiting family generation missing) is on = absurd (cc on)
started_of images (Started family generation present) is on = record { family = family; generation = generation; present = present; reported = is }

-- the images of a bank start where the report on them says so
pub starts_as : (bank : BankTold) (images given read : List ImageRead) (report : Report) → given ≡ images → read ≡ images → IsReport read report → starts report ≡ true
    → 1 ≤ length images → length images ≤ MAX_DISKS → IsFoundOn bank images → AllPairs (λ a b. a ≢ b) bank.serials → Starts given
starts_as bank images given read report is was reported on some few found distinct =
    subst Starts (sym is)
    (record {
      some = some;
      few = few;
      distinct = subst (λ (s : List Serial). AllPairs (λ a b. a ≢ b) s) (sym found.named) distinct;
      started = started_of images report (subst (λ (i : List ImageRead). IsReport i report) was reported) on;
    })

-- contents in which the anchors stand, which are those that the bank told, where it did
pub record Stands (opening : Option (List (List Sector))) (log : Option (List Call)) (images : List ImageRead) : Type 0 where
  pub there : List (List Sector)
  pub stand : StandIn images there
  pub held : IfSome opening (λ contents. IfSome log (λ l. there ≡ contents))

stands_by : (opening : Option (List (List Sector))) (log : Option (List Call)) (images : List ImageRead) (some : List (List Sector)) → StandIn images some
    → IfSome opening (λ contents. IfSome log (λ l. StandIn images contents)) → Stands opening log images
stands_by None log images some stand told = record { there = some; stand = stand; held = tt }
stands_by (Some contents) None images some stand told = record { there = some; stand = stand; held = tt }
stands_by (Some contents) (Some l) images some stand told = record { there = contents; stand = told; held = refl }

-- a run over any disks on which the anchors stand is a replay on the disks of the bank
pub replayed : (script : ScriptState) (limit : ℕ) (bank : BankTold) (images : List ImageRead) (journal : List Entry) (ended : DriveEnd) → Starts images → asks_second script.ops ≡ false → IsFoundOn bank images
    → ((contents : List (List Sector)) → StandIn images contents → LeavesRun (opened_on images contents) (asked_by script) limit (anchor_reads images) bank journal ended)
    → AllByRecursion FitsEntry journal → Replays script limit bank (run_text (serials_of_all images) journal ended) (end_status ended)
replayed script limit bank images journal ended begins asks found run fits =
    let stands : Stands bank.opening bank.log images = stands_by bank.opening bank.log images (map filled images) (some-stand images begins.started) found.stand in
    record {
      asks = asks;
      images = images;
      found = found;
      started = begins.started;
      o = opened_on images stands.there;
      held = record {
        opens = is-opening images stands.there begins stands.stand;
        named = ap bytes_of_all found.named;
        sized = found.sized;
        newest = refl;
        held = stands.held;
      };
      journal = journal;
      ended = ended;
      run = run stands.there stands.stand;
      fits = fits;
      lines_are = ap (λ (s : List Serial). run_text s journal ended) found.named;
      status_is = refl;
    }
