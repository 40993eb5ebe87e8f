-- The lines of a report. Source: this project's own.
use Rattle.std.specs.Prelude.{ℕ, Bool, true, false, List, ◌++◌, codes}
use Rattle.std.specs.List.{flat_map}
use Rattle.std.specs.Fmt.{decimal}
use Rattle.units.specs.declared.disk.Serial.{Serial}
use Rattle.imsm_text.specs.Text.{hex_number, line_feed, serial_text}
use Rattle.image_outside.specs.declared.status.TheConstants.Status.{DONE, UNBUILT, WAITING}
use Rattle.image_verdict.specs.declared.report.Report.{Report}
use Rattle.image_verdict.specs.declared.report.Report.TheVariants.{Unbuilt, Waiting, Started}

abbrev pub family_line : ℕ → ℕ → List ℕ
family_line family generation =
    codes "family " ++ (hex_number family ++ (codes " generation " ++ (decimal generation ++ line_feed)))

abbrev pub unbuilt_line : Serial → List ℕ
unbuilt_line s = codes "unbuilt " ++ (serial_text s ++ line_feed)

abbrev pub absent_line : Serial → List ℕ
absent_line s = codes "waiting " ++ (serial_text s ++ codes " absent\n")

abbrev pub member_line : Serial → List ℕ
member_line s = codes "disk " ++ (serial_text s ++ codes " member\n")

abbrev pub waiting_text : ℕ → ℕ → List Serial → List ℕ
waiting_text family generation missing = family_line family generation ++ flat_map absent_line missing

abbrev pub started_text : ℕ → ℕ → List Serial → List ℕ
started_text family generation present =
    family_line family generation ++ (codes "volume 0 started\n" ++ flat_map member_line present)

-- the lines of a report
abbrev pub report_text : Report → List ℕ
report_text (Unbuilt s) = unbuilt_line s
report_text (Waiting family generation missing) = waiting_text family generation missing.items
report_text (Started family generation present) = started_text family generation present.items

-- the status of a report
abbrev pub report_status : Report → ℕ
report_status (Unbuilt s) = UNBUILT.0
report_status (Waiting family generation missing) = WAITING.0
report_status (Started family generation present) = DONE.0

-- the report says that the volume starts
abbrev pub starts : Report → Bool
starts (Unbuilt s) = false
starts (Waiting family generation missing) = false
starts (Started family generation present) = true
