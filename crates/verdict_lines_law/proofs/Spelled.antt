-- The text of a verdict is that of the words of its lines.
use Rattle.std.proofs.Common.{◌≡◌, ℕ, ◌+◌, List, [], ◌∷◌, ◌++◌, map, refl, sym, ap, ◌∙◌}
use Rattle.std.specs.List.{enumerate_from, flat_map}
use Rattle.std.proofs.lemmas.Grind.{flat_map-append}
use Rattle.std.proofs.lemmas.List.{append-nil, append_cancel_right}
use Rattle.units.specs.declared.disk.Serial.{Serial}
use Rattle.container.specs.declared.missing.Missing.{Missing}
use Rattle.container.specs.declared.role.DiskRole.{DiskRole}
use Rattle.container.specs.declared.verdict.Verdict.{Verdict}
use Rattle.container.specs.declared.verdict.Verdict.TheVariants.{Refused, Large, GenerationEnd, Waiting, Ready}
use Rattle.container.specs.declared.volume.VolumeVerdict.{VolumeVerdict}
use Rattle.verdict_text.specs.Lines.{disk_line, disk_lines, family_line, pick_words, refused_line, verdict_lines, volume_line, waiting_line}
use Rattle.verdict_lines_law.specs.Words.{disks_say, line_of, text_of, verdict_words, volumes_say, waiting_says, words_in}
use Rattle.verdict_lines_law.proofs.Clear.{verdict_clear}
use Rattle.verdict_lines_law.proofs.Cut.{cut_all}

waiting_spelled : (list : List Missing) → text_of (map waiting_says list) ≡ flat_map waiting_line list
waiting_spelled [] = refl
waiting_spelled (m ∷ list) = ap (λ (l : List ℕ). waiting_line m ++ l) (waiting_spelled list)

volumes_spelled : (k : ℕ) (list : List VolumeVerdict) → text_of (volumes_say k list) ≡ flat_map (λ ((i, v) : ℕ × VolumeVerdict). volume_line i v) (enumerate_from k list)
volumes_spelled k [] = refl
volumes_spelled k (v ∷ list) = ap (λ (l : List ℕ). volume_line k v ++ l) (volumes_spelled (k + 1) list)

disks_spelled : (serials : List Serial) (roles : List DiskRole) → text_of (disks_say serials roles) ≡ disk_lines serials roles
disks_spelled [] roles = refl
disks_spelled (serial ∷ serials) [] = refl
disks_spelled (serial ∷ serials) (r ∷ roles) = ap (λ (l : List ℕ). disk_line serial r ++ l) (disks_spelled serials roles)

pub verdict_spelled : (serials present : List Serial) (v : Verdict) → text_of (verdict_words serials present v) ≡ verdict_lines serials present v
verdict_spelled serials present (Refused fault) = append-nil (refused_line (pick_words serials fault))
verdict_spelled serials present (Large family generation size) = ap (λ (l : List ℕ). family_line family generation ++ l) (append-nil _)
verdict_spelled serials present (GenerationEnd family generation) = ap (λ (l : List ℕ). family_line family generation ++ l) (append-nil _)
verdict_spelled serials present (Waiting family generation list) = ap (λ (l : List ℕ). family_line family generation ++ l) (waiting_spelled list.items)
verdict_spelled serials present (Ready o) =
    ap (λ (l : List ℕ). family_line o.family o.generation ++ l)
    (flat_map-append line_of (volumes_say 0 o.volumes.items) (disks_say present o.disks.items)
    ∙ ap (λ (l : List ℕ). l ++ text_of (disks_say present o.disks.items)) (volumes_spelled 0 o.volumes.items)
    ∙ ap (λ (l : List ℕ). flat_map (λ ((i, v) : ℕ × VolumeVerdict). volume_line i v) (enumerate_from 0 o.volumes.items) ++ l) (disks_spelled present o.disks.items))

pub verdict_read : (serials present : List Serial) (v : Verdict) → words_in (verdict_lines serials present v) ≡ verdict_words serials present v ++ ([] ∷ []) ∷ []
verdict_read serials present v =
    ap words_in (sym (verdict_spelled serials present v)) ∙ cut_all (verdict_words serials present v) (verdict_clear serials present v)

pub same_words : (serials present : List Serial) (v w : Verdict) → verdict_lines serials present v ≡ verdict_lines serials present w → verdict_words serials present v ≡ verdict_words serials present w
same_words serials present v w same =
    append_cancel_right (verdict_words serials present v) (verdict_words serials present w) (([] ∷ []) ∷ [])
    (sym (verdict_read serials present v) ∙ ap words_in same ∙ verdict_read serials present w)
