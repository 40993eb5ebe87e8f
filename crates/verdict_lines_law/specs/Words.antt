-- The words of the lines of a verdict, and those that a reader finds in a text. Source: this project's own.
use Rattle.std.specs.Prelude.{ℕ, ◌+◌, ◌==◌, Bool, List, [], ◌∷◌, ◌++◌, codes, map}
use Rattle.std.specs.Fmt.{decimal}
use Rattle.std.specs.List.{flat_map, slice_split}
use Rattle.units.specs.declared.disk.Serial.{Serial}
use Rattle.imsm_text.specs.Text.{hex_number, line, line_feed, serial_text}
use Rattle.container.specs.declared.missing.Missing.{Missing}
use Rattle.container.specs.declared.role.DiskRole.{DiskRole}
use Rattle.container.specs.declared.verdict.Verdict.{Verdict}
use Rattle.container.specs.declared.verdict.Verdict.TheVariants.{Refused, Large, GenerationEnd, Waiting, Ready}
use Rattle.container.specs.declared.volume.VolumeVerdict.{VolumeVerdict}
use Rattle.verdict_text.specs.Lines.{lack_words, pick_words, role_words, volume_words}

-- READING

abbrev pub is_space : ℕ → Bool
is_space b = b == 0x20

abbrev pub is_feed : ℕ → Bool
is_feed b = b == 0x0a

-- the words of each line of a text, cut at line feeds and at spaces; behind the last line feed is an empty line
abbrev pub words_in : List ℕ → List (List (List ℕ))
words_in text = map (slice_split is_space) (slice_split is_feed text)

-- WRITING

-- the line of some words, and a text of such lines
abbrev pub line_of : List (List ℕ) → List ℕ
line_of [] = line_feed
line_of (first ∷ words) = line first words

abbrev pub text_of : List (List (List ℕ)) → List ℕ
text_of lines = flat_map line_of lines

-- THE LINES OF A VERDICT

abbrev pub family_says : ℕ → ℕ → List (List ℕ)
family_says family generation =
    codes "family" ∷ hex_number family ∷ codes "generation" ∷ decimal generation ∷ []

abbrev pub refused_says : List (List ℕ) → List (List ℕ)
refused_says words = codes "refused" ∷ words

abbrev pub waiting_says : Missing → List (List ℕ)
waiting_says m = codes "waiting" ∷ serial_text m.serial ∷ lack_words m.cause

abbrev pub volume_says : ℕ → VolumeVerdict → List (List ℕ)
volume_says v verdict = codes "volume" ∷ decimal v ∷ volume_words verdict

-- of each volume, from number k on
abbrev pub volumes_say : ℕ → List VolumeVerdict → List (List (List ℕ))
volumes_say k [] = []
volumes_say k (v ∷ list) = volume_says k v ∷ volumes_say (k + 1) list

abbrev pub disk_says : Serial → DiskRole → List (List ℕ)
disk_says serial r = codes "disk" ∷ serial_text serial ∷ role_words r

abbrev pub disks_say : List Serial → List DiskRole → List (List (List ℕ))
disks_say [] roles = []
disks_say (serial ∷ serials) [] = []
disks_say (serial ∷ serials) (r ∷ roles) = disk_says serial r ∷ disks_say serials roles

abbrev pub verdict_words : (serials present : List Serial) → Verdict → List (List (List ℕ))
verdict_words serials present (Refused fault) = refused_says (pick_words serials fault) ∷ []
verdict_words serials present (Large family generation size) =
    family_says family generation ∷ refused_says (codes "large" ∷ decimal size ∷ []) ∷ []
verdict_words serials present (GenerationEnd family generation) =
    family_says family generation ∷ refused_says (codes "generation" ∷ decimal generation ∷ []) ∷ []
verdict_words serials present (Waiting family generation list) =
    family_says family generation ∷ map waiting_says list.items
verdict_words serials present (Ready o) =
    family_says o.family o.generation ∷ (volumes_say 0 o.volumes.items ++ disks_say present o.disks.items)
