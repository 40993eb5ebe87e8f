-- The lines of a replay but for those of its journal. Source: this project's own.
use Rattle.std.specs.Prelude.{ℕ, List, ◌++◌, codes, slice_index_or}
use Rattle.units.specs.declared.disk.Serial.{Serial}
use Rattle.array_model.specs.declared.journal.Entry.{Entry}
use Rattle.journal_text.specs.Lines.{journal_text}
use Rattle.stage.specs.declared.ends.DriveEnd.{DriveEnd}
use Rattle.stage.specs.declared.ends.DriveEnd.TheVariants.{Over, Full, Member}
use Rattle.image_verdict.specs.Images.{blank_serial}
use Rattle.image_outside.specs.Lines.{failed_member_line}

-- an operation names a volume that the container doesn't have
abbrev pub absent_volume_line : List ℕ
absent_volume_line = codes "volume 1 absent\n"

-- the line behind the journal, of a run on disks of these serials
abbrev pub end_line : List Serial → DriveEnd → List ℕ
end_line serials Over = codes "done\n"
end_line serials Full = codes "full\n"
end_line serials (Member d) = failed_member_line (slice_index_or serials d.0 blank_serial)

-- the lines of a run: its journal, and how it ended
abbrev pub run_text : List Serial → List Entry → DriveEnd → List ℕ
run_text serials journal ended = journal_text journal ++ end_line serials ended
