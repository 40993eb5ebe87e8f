-- The text of disks that arrive is that of the words of their lines.
use Rattle.std.proofs.Common.{◌≡◌, ◌+◌, ℕ, List, [], ◌∷◌, ◌++◌, drop, length, map, take, refl, sym, ◌∙◌, ap}
use Rattle.std.specs.Prelude.{slice_index_or}
use Rattle.std.specs.List.{flat_map}
use Rattle.std.proofs.lemmas.Grind.{flat_map-append}
use Rattle.units.specs.declared.disk.Serial.{Serial}
use Rattle.container.specs.declared.verdict.Verdict.{Verdict}
use Rattle.verdict_text.specs.Lines.{blank_serial, verdict_lines}
use Rattle.image_incremental.specs.Lines.{all_lines, arrival_lines, arrive_line, late_line}
use Rattle.verdict_lines_law.specs.Words.{line_of, text_of, verdict_words, words_in}
use Rattle.verdict_lines_law.proofs.Clear.{AreLines, IsLine, clear_serial, verdict_clear}
use Rattle.verdict_lines_law.proofs.Cut.{cut_all}
use Rattle.verdict_lines_law.proofs.Spelled.{verdict_spelled}
use Rattle.refused_verdicts.specs.Arrivals.{all_say, arrivals_say, late_says}
use Rattle.refused_verdicts.proofs.Later.{all_both}

arrivals_spelled : (serials : List Serial) (k : ℕ) (verdicts : List Verdict) → text_of (arrivals_say serials k verdicts) ≡ arrival_lines serials k verdicts
arrivals_spelled serials k [] = refl
arrivals_spelled serials k (v ∷ more) =
    let words = verdict_words serials (take (k + 1) serials) v in
    ap (λ (l : List ℕ). arrive_line serials k ++ l)
    (flat_map-append line_of words (arrivals_say serials (k + 1) more)
    ∙ ap (λ (l : List ℕ). l ++ text_of (arrivals_say serials (k + 1) more)) (verdict_spelled serials (take (k + 1) serials) v)
    ∙ ap (λ (l : List ℕ). verdict_lines serials (take (k + 1) serials) v ++ l) (arrivals_spelled serials (k + 1) more))

late_spelled : (serials : List Serial) → text_of (map late_says serials) ≡ flat_map late_line serials
late_spelled [] = refl
late_spelled (s ∷ serials) = ap (λ (l : List ℕ). late_line s ++ l) (late_spelled serials)

all_spelled : (serials : List Serial) (verdicts : List Verdict) → text_of (all_say serials verdicts) ≡ all_lines serials verdicts
all_spelled serials verdicts =
    flat_map-append line_of (arrivals_say serials 0 verdicts) (map late_says (drop (length verdicts) serials))
    ∙ ap (λ (l : List ℕ). l ++ text_of (map late_says (drop (length verdicts) serials))) (arrivals_spelled serials 0 verdicts)
    ∙ ap (λ (l : List ℕ). arrival_lines serials 0 verdicts ++ l) (late_spelled (drop (length verdicts) serials))

arrivals_clear : (serials : List Serial) (k : ℕ) (verdicts : List Verdict) → AreLines (arrivals_say serials k verdicts)
arrivals_clear serials k [] = tt
arrivals_clear serials k (v ∷ more) = (
  (refl, (clear_serial (slice_index_or serials k blank_serial), tt)),
  all_both IsLine (verdict_words serials (take (k + 1) serials) v) (arrivals_say serials (k + 1) more) (verdict_clear serials (take (k + 1) serials) v) (arrivals_clear serials (k + 1) more),
)

late_clear : (serials : List Serial) → AreLines (map late_says serials)
late_clear [] = tt
late_clear (s ∷ serials) = ((refl, (clear_serial s, tt)), late_clear serials)

pub arrivals_read : (serials : List Serial) (verdicts : List Verdict) → words_in (all_lines serials verdicts) ≡ all_say serials verdicts ++ ([] ∷ []) ∷ []
arrivals_read serials verdicts =
    ap words_in (sym (all_spelled serials verdicts))
    ∙ cut_all (all_say serials verdicts)
    (all_both IsLine (arrivals_say serials 0 verdicts) (map late_says (drop (length verdicts) serials)) (arrivals_clear serials 0 verdicts) (late_clear (drop (length verdicts) serials)))
