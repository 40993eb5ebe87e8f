-- The words of the lines of disks that arrive one after the other. Source: this project's own.
use Rattle.std.specs.Prelude.{ℕ, ◌+◌, List, [], ◌∷◌, ◌++◌, codes, drop, length, map, take}
use Rattle.units.specs.declared.disk.Serial.{Serial}
use Rattle.imsm_text.specs.Text.{serial_text}
use Rattle.container.specs.declared.verdict.Verdict.{Verdict}
use Rattle.verdict_text.specs.Lines.{disk_name}
use Rattle.verdict_lines_law.specs.Words.{verdict_words}

abbrev pub arrive_says : List Serial → ℕ → List (List ℕ)
arrive_says serials d = codes "arrive" ∷ disk_name serials d ∷ []

abbrev pub late_says : Serial → List (List ℕ)
late_says s = codes "late" ∷ serial_text s ∷ []

-- of disks that arrive, from disk k on, and of the verdict on each and those before it
abbrev pub arrivals_say : List Serial → ℕ → List Verdict → List (List (List ℕ))
arrivals_say serials k [] = []
arrivals_say serials k (v ∷ more) =
    arrive_says serials k ∷ (verdict_words serials (take (k + 1) serials) v ++ arrivals_say serials (k + 1) more)

-- and of those that come too late
abbrev pub all_say : List Serial → List Verdict → List (List (List ℕ))
all_say serials verdicts = arrivals_say serials 0 verdicts ++ map late_says (drop (length verdicts) serials)
