-- The lines of disks that arrive one after the other. Source: this project's own.
use Rattle.std.specs.Prelude.{ℕ, ◌+◌, List, [], ◌∷◌, ◌++◌, codes, length, take, drop}
use Rattle.std.specs.List.{flat_map}
use Rattle.units.specs.declared.disk.Serial.{Serial}
use Rattle.imsm_text.specs.Text.{line, serial_text}
use Rattle.container.specs.declared.verdict.Verdict.{Verdict}
use Rattle.verdict_text.specs.Lines.{disk_name, verdict_lines}

abbrev pub arrive_line : List Serial → ℕ → List ℕ
arrive_line serials d = line (codes "arrive") (disk_name serials d ∷ [])

abbrev pub late_line : Serial → List ℕ
late_line serial = line (codes "late") (serial_text serial ∷ [])

-- the lines of disks that arrive, from disk k on, and of the verdict on each and those before it
abbrev pub arrival_lines : List Serial → ℕ → List Verdict → List ℕ
arrival_lines serials k [] = []
arrival_lines serials k (v ∷ more) =
    arrive_line serials k
    ++ (verdict_lines serials (take (k + 1) serials) v ++ arrival_lines serials (k + 1) more)

-- the lines of the disks on which these are the verdicts, from the first on, and of those that come too late
abbrev pub all_lines : List Serial → List Verdict → List ℕ
all_lines serials verdicts =
    arrival_lines serials 0 verdicts ++ flat_map late_line (drop (length verdicts) serials)
