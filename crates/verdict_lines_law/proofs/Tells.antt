-- The words of a verdict's lines tell it.
use Rattle.std.proofs.Common.{◌≡◌, ◌≢◌, ◌<◌, ◌+◌, ◌==◌, ℕ, List, [], ◌∷◌, ◌++◌, drop, length, map, get_or, refl, sym, ◌∙◌, ap, arith}
use Rattle.std.specs.Prelude.{codes, if◌then◌else◌, slice_index, slice_index_or}
use Rattle.std.specs.Fmt.{decimal}
use Rattle.std.specs.List.{AllByRecursion}
use Rattle.std.specs.Str.{bytes_eq}
use Rattle.std.proofs.lemmas.Option.{slice_get-get_or}
use Rattle.units.specs.declared.disk.DiskNo.{DiskNo}
use Rattle.units.specs.declared.disk.Serial.{Serial}
use Rattle.generation_pick.specs.declared.fault.PickFault.{PickFault}
use Rattle.generation_pick.specs.declared.fault.PickFault.TheVariants as pick
use Rattle.container.specs.declared.missing.Lack.{Lack}
use Rattle.container.specs.declared.missing.Missing.{Missing}
use Rattle.container.specs.declared.role.DiskRole.{DiskRole}
use Rattle.container.specs.declared.verdict.Verdict.{Verdict}
use Rattle.container.specs.declared.verdict.Verdict.TheVariants.{Refused, Large, GenerationEnd, Waiting, Ready}
use Rattle.container.specs.declared.volume.VolumeVerdict.{VolumeVerdict}
use Rattle.verdict_text.specs.Lines.{blank_serial, disk_name, pick_words}
use Rattle.verdict_lines_law.specs.Same.{AreTold, FitsBook, FitsMissing, FitsPick, FitsRole, FitsVerdict, FitsVolume, HaveNames, IsNumber, printed_role}
use Rattle.verdict_lines_law.specs.Words.{disk_says, disks_say, family_says, verdict_words, volume_says, volumes_say, waiting_says}
use Rattle.verdict_lines_law.proofs.Names.{code_in, code_told, names_tell}
use Rattle.verdict_lines_law.proofs.Told.{lack_in, lack_told, number_in, number_told, role_in, role_told, volume_in, volume_told, word_at}

-- lines are told apart by the first byte of their first word
abbrev pub kind : List (List ℕ) → ℕ
kind words = slice_index (slice_index_or words 0 []) 0

pub apart : (one other : List (List ℕ)) (a b : ℕ) → kind one ≡ a → kind other ≡ b → (a ≡ b → ⊥) → one ≡ other → ⊥
apart one other a b is was differ same = differ (sym is ∙ ap kind same ∙ was)

abbrev line_at : ℕ → List (List (List ℕ)) → List (List ℕ)
line_at k lines = slice_index_or lines k []

-- NUMBERS

same_number : (a b : ℕ) → IsNumber a → IsNumber b → decimal a ≡ decimal b → a ≡ b
same_number a b x y same = sym (number_told a x) ∙ ap number_in same ∙ number_told b y

same_book : (f g h k : ℕ) → FitsBook f g → FitsBook h k → family_says f g ≡ family_says h k → (f ≡ h) × (g ≡ k)
same_book f g h k x y same = (
  sym (code_told f x.0) ∙ ap (λ (ws : List (List ℕ)). code_in (word_at 1 ws)) same ∙ code_told h y.0,
  same_number g k x.1 y.1 (ap (word_at 3) same),
)

-- LISTS

one_missing : (m n : Missing) → FitsMissing m → FitsMissing n → waiting_says m ≡ waiting_says n → m ≡ n
one_missing m n x y same =
    ap (λ (s : Serial). let missing : Missing = record { serial = s; cause = m.cause } in missing) (names_tell m.serial n.serial x.serial y.serial (ap (word_at 1) same))
    ∙ ap (λ (c : Lack). let missing : Missing = record { serial = n.serial; cause = c } in missing)
    (sym (lack_told m.cause x.cause) ∙ ap (λ (ws : List (List ℕ)). lack_in (drop 2 ws)) same ∙ lack_told n.cause y.cause)

same_missing : (list more : List Missing) → AllByRecursion FitsMissing list → AllByRecursion FitsMissing more → map waiting_says list ≡ map waiting_says more → list ≡ more
same_missing [] [] x y same = refl
same_missing [] (n ∷ more) x y same = absurd (cc same)
same_missing (m ∷ list) [] x y same = absurd (cc same)
same_missing (m ∷ list) (n ∷ more) x y same =
    ap (λ (z : Missing). z ∷ list) (one_missing m n x.0 y.0 (ap (line_at 0) same)) ∙ ap (λ (l : List Missing). n ∷ l) (same_missing list more x.1 y.1 (ap (drop 1) same))

one_volume : (k : ℕ) (v w : VolumeVerdict) → FitsVolume v → FitsVolume w → volume_says k v ≡ volume_says k w → v ≡ w
one_volume k v w x y same = sym (volume_told v x) ∙ ap (λ (ws : List (List ℕ)). volume_in (drop 2 ws)) same ∙ volume_told w y

no_volume : (k : ℕ) (w : VolumeVerdict) (lines rest : List (List (List ℕ))) → kind (line_at 0 lines) ≢ 118 → lines ≡ volume_says k w ∷ rest → ⊥
no_volume k w lines rest other same = other (ap (λ (ls : List (List (List ℕ))). kind (line_at 0 ls)) same)

-- the lines of volumes, and others behind them
same_volumes : (k : ℕ) (list more : List VolumeVerdict) (a b : List (List (List ℕ))) → kind (line_at 0 a) ≢ 118 → kind (line_at 0 b) ≢ 118 → AllByRecursion FitsVolume list → AllByRecursion FitsVolume more
    → volumes_say k list ++ a ≡ volumes_say k more ++ b → (list ≡ more) × (a ≡ b)
same_volumes k [] [] a b here there x y same = (refl, same)
same_volumes k [] (w ∷ more) a b here there x y same = absurd (no_volume k w a (volumes_say (k + 1) more ++ b) here same)
same_volumes k (v ∷ list) [] a b here there x y same = absurd (no_volume k v b (volumes_say (k + 1) list ++ a) there (sym same))
same_volumes k (v ∷ list) (w ∷ more) a b here there x y same =
    let rest = same_volumes (k + 1) list more a b here there x.1 y.1 (ap (drop 1) same) in
    (ap (λ (z : VolumeVerdict). z ∷ list) (one_volume k v w x.0 y.0 (ap (line_at 0) same)) ∙ ap (λ (l : List VolumeVerdict). w ∷ l) rest.0, rest.1)

no_volume_first : (present : List Serial) (roles : List DiskRole) → kind (line_at 0 (disks_say present roles)) ≢ 118
no_volume_first [] roles same = omega (arith, same)
no_volume_first (s ∷ present) [] same = omega (arith, same)
no_volume_first (s ∷ present) (r ∷ roles) same = omega (arith, same)

one_role : (s : Serial) (r t : DiskRole) → FitsRole r → FitsRole t → disk_says s r ≡ disk_says s t → printed_role r ≡ printed_role t
one_role s r t x y same = sym (role_told r x) ∙ ap (λ (ws : List (List ℕ)). role_in (drop 2 ws)) same ∙ role_told t y

same_roles : (present : List Serial) (roles more : List DiskRole) → length roles ≡ length present → length more ≡ length present → AllByRecursion FitsRole roles → AllByRecursion FitsRole more
    → disks_say present roles ≡ disks_say present more → map printed_role roles ≡ map printed_role more
same_roles [] [] [] one other x y same = refl
same_roles [] [] (t ∷ more) one other x y same = absurd (omega (arith, other))
same_roles [] (r ∷ roles) more one other x y same = absurd (omega (arith, one))
same_roles (s ∷ present) [] more one other x y same = absurd (omega (arith, one))
same_roles (s ∷ present) (r ∷ roles) [] one other x y same = absurd (omega (arith, other))
same_roles (s ∷ present) (r ∷ roles) (t ∷ more) one other x y same =
    ap (λ (z : DiskRole). z ∷ map printed_role roles) (one_role s r t x.0 y.0 (ap (line_at 0) same))
    ∙ ap (λ (l : List DiskRole). printed_role t ∷ l) (same_roles present roles more (omega (arith, one)) (omega (arith, other)) x.1 y.1 (ap (drop 1) same))

-- REFUSED

same_disk : (serials : List Serial) → HaveNames serials → (d e : DiskNo) → d.0 < length serials → e.0 < length serials
    → disk_name serials d.0 ≡ disk_name serials e.0 → d ≡ e
same_disk serials own d e below under same =
    ap (λ (n : ℕ). let disk : DiskNo = record { 0 = n } in disk)
    (own d.0 e.0 (get_or serials d.0 blank_serial) (get_or serials e.0 blank_serial) (slice_get-get_or serials d.0 blank_serial below) (slice_get-get_or serials e.0 blank_serial under) same)

same_pick : (serials : List Serial) → HaveNames serials → (f g : PickFault) → FitsPick serials f → FitsPick serials g → pick_words serials f ≡ pick_words serials g → f ≡ g
same_pick serials own pick.None pick.None x y same = refl
same_pick serials own pick.None (pick.Families a b) x y same = absurd (apart (pick_words serials pick.None) (pick_words serials (pick.Families a b)) 110 102 refl refl (λ e. omega (arith, e)) same)
same_pick serials own pick.None (pick.Twins d e) x y same = absurd (apart (pick_words serials pick.None) (pick_words serials (pick.Twins d e)) 110 116 refl refl (λ e. omega (arith, e)) same)
same_pick serials own (pick.Families a b) pick.None x y same = absurd (apart (pick_words serials (pick.Families a b)) (pick_words serials pick.None) 102 110 refl refl (λ e. omega (arith, e)) same)
same_pick serials own (pick.Families a b) (pick.Families c d) x y same =
    ap (λ (n : ℕ). pick.Families n b) (sym (code_told a x.0) ∙ ap (λ (ws : List (List ℕ)). code_in (word_at 1 ws)) same ∙ code_told c y.0)
    ∙ ap (pick.Families c) (sym (code_told b x.1) ∙ ap (λ (ws : List (List ℕ)). code_in (word_at 2 ws)) same ∙ code_told d y.1)
same_pick serials own (pick.Families a b) (pick.Twins d e) x y same = absurd (apart (pick_words serials (pick.Families a b)) (pick_words serials (pick.Twins d e)) 102 116 refl refl (λ e. omega (arith, e)) same)
same_pick serials own (pick.Twins d e) pick.None x y same = absurd (apart (pick_words serials (pick.Twins d e)) (pick_words serials pick.None) 116 110 refl refl (λ e. omega (arith, e)) same)
same_pick serials own (pick.Twins d e) (pick.Families a b) x y same = absurd (apart (pick_words serials (pick.Twins d e)) (pick_words serials (pick.Families a b)) 116 102 refl refl (λ e. omega (arith, e)) same)
same_pick serials own (pick.Twins d e) (pick.Twins h k) x y same =
    ap (λ (n : DiskNo). pick.Twins n e) (same_disk serials own d h x.0 y.0 (ap (word_at 1) same)) ∙ ap (pick.Twins h) (same_disk serials own e k x.1 y.1 (ap (word_at 2) same))

-- WHICH VERDICT

abbrev tag : Verdict → ℕ
tag (Refused fault) = 0
tag (Large f g size) = 1
tag (GenerationEnd f g) = 2
tag (Waiting f g list) = 3
tag (Ready o) = 4

-- by the kinds of the first two lines
abbrev tag_in : List (List (List ℕ)) → ℕ
tag_in lines =
    if kind (line_at 0 lines) == 114 then 0
    else if kind (line_at 1 lines) == 114 then (if bytes_eq (word_at 1 (line_at 1 lines)) (codes "large") then 1 else 2)
    else if kind (line_at 1 lines) == 119 then 3
    else 4

waiting_tag : (f g : ℕ) (list : List Missing) → 0 < length list → tag_in (family_says f g ∷ map waiting_says list) ≡ 3
waiting_tag f g [] some = absurd (omega (arith, some))
waiting_tag f g (m ∷ list) some = refl

ready_tag : (f g : ℕ) (volumes : List VolumeVerdict) (present : List Serial) (roles : List DiskRole) → tag_in (family_says f g ∷ (volumes_say 0 volumes ++ disks_say present roles)) ≡ 4
ready_tag f g (v ∷ volumes) present roles = refl
ready_tag f g [] [] roles = refl
ready_tag f g [] (s ∷ present) [] = refl
ready_tag f g [] (s ∷ present) (r ∷ roles) = refl

tag_told : (serials present : List Serial) (v : Verdict) → FitsVerdict serials present v → tag_in (verdict_words serials present v) ≡ tag v
tag_told serials present (Refused fault) fits = refl
tag_told serials present (Large f g size) fits = refl
tag_told serials present (GenerationEnd f g) fits = refl
tag_told serials present (Waiting f g list) fits = waiting_tag f g list.items fits.1
tag_told serials present (Ready o) fits = ready_tag o.family o.generation o.volumes.items present o.disks.items

clash : (a b : ℕ) → (a ≡ b → ⊥) → (X : Type 0) → a ≡ b → X
clash a b differ X same = absurd (differ same)

module _ (serials present : List Serial) (own : HaveNames serials) where
  told : (v w : Verdict) → FitsVerdict serials present v → FitsVerdict serials present w → tag v ≡ tag w → verdict_words serials present v ≡ verdict_words serials present w → AreTold v w
  told (Refused fault) (Refused other) x y tags same = ap Refused (same_pick serials own fault other x y (ap (λ (ls : List (List (List ℕ))). drop 1 (line_at 0 ls)) same))
  told (Refused fault) (Large h k more) x y tags same = clash 0 1 (λ e. omega (arith, e)) _ tags
  told (Refused fault) (GenerationEnd h k) x y tags same = clash 0 2 (λ e. omega (arith, e)) _ tags
  told (Refused fault) (Waiting h k more) x y tags same = clash 0 3 (λ e. omega (arith, e)) _ tags
  told (Refused fault) (Ready u) x y tags same = clash 0 4 (λ e. omega (arith, e)) _ tags
  told (Large f g size) (Refused other) x y tags same = clash 1 0 (λ e. omega (arith, e)) _ tags
  told (Large f g size) (Large h k more) x y tags same =
      let book = same_book f g h k x.0 y.0 (ap (line_at 0) same) in
      let number = same_number size more x.1 y.1 (ap (λ (ls : List (List (List ℕ))). word_at 2 (line_at 1 ls)) same) in
      ap (λ (n : ℕ). Large n g size) book.0 ∙ ap (λ (n : ℕ). Large h n size) book.1 ∙ ap (Large h k) number
  told (Large f g size) (GenerationEnd h k) x y tags same = clash 1 2 (λ e. omega (arith, e)) _ tags
  told (Large f g size) (Waiting h k more) x y tags same = clash 1 3 (λ e. omega (arith, e)) _ tags
  told (Large f g size) (Ready u) x y tags same = clash 1 4 (λ e. omega (arith, e)) _ tags
  told (GenerationEnd f g) (Refused other) x y tags same = clash 2 0 (λ e. omega (arith, e)) _ tags
  told (GenerationEnd f g) (Large h k more) x y tags same = clash 2 1 (λ e. omega (arith, e)) _ tags
  told (GenerationEnd f g) (GenerationEnd h k) x y tags same =
      let book = same_book f g h k x y (ap (line_at 0) same) in
      ap (λ (n : ℕ). GenerationEnd n g) book.0 ∙ ap (GenerationEnd h) book.1
  told (GenerationEnd f g) (Waiting h k more) x y tags same = clash 2 3 (λ e. omega (arith, e)) _ tags
  told (GenerationEnd f g) (Ready u) x y tags same = clash 2 4 (λ e. omega (arith, e)) _ tags
  told (Waiting f g list) (Refused other) x y tags same = clash 3 0 (λ e. omega (arith, e)) _ tags
  told (Waiting f g list) (Large h k more) x y tags same = clash 3 1 (λ e. omega (arith, e)) _ tags
  told (Waiting f g list) (GenerationEnd h k) x y tags same = clash 3 2 (λ e. omega (arith, e)) _ tags
  told (Waiting f g list) (Waiting h k more) x y tags same =
      let book = same_book f g h k x.0 y.0 (ap (line_at 0) same) in
      let items = same_missing list.items more.items x.2 y.2 (ap (drop 1) same) in
      ap (λ (n : ℕ). Waiting n g list) book.0 ∙ ap (λ (n : ℕ). Waiting h n list) book.1 ∙ ap (λ (l : List Missing). Waiting h k (record { items = l })) items
  told (Waiting f g list) (Ready u) x y tags same = clash 3 4 (λ e. omega (arith, e)) _ tags
  told (Ready o) (Refused other) x y tags same = clash 4 0 (λ e. omega (arith, e)) _ tags
  told (Ready o) (Large h k more) x y tags same = clash 4 1 (λ e. omega (arith, e)) _ tags
  told (Ready o) (GenerationEnd h k) x y tags same = clash 4 2 (λ e. omega (arith, e)) _ tags
  told (Ready o) (Waiting h k more) x y tags same = clash 4 3 (λ e. omega (arith, e)) _ tags
  told (Ready o) (Ready u) x y tags same =
      let book = same_book o.family o.generation u.family u.generation x.0 y.0 (ap (line_at 0) same) in
      let rest = same_volumes 0 o.volumes.items u.volumes.items (disks_say present o.disks.items) (disks_say present u.disks.items)
      (no_volume_first present o.disks.items) (no_volume_first present u.disks.items) x.1 y.1 (ap (drop 1) same) in
      record {
        family = book.0;
        generation = book.1;
        volumes = ap (λ (l : List VolumeVerdict). record { items = l }) rest.0;
        disks = same_roles present o.disks.items u.disks.items x.2 y.2 x.3 y.3 rest.1;
      }

  pub words_tell : (v w : Verdict) → FitsVerdict serials present v → FitsVerdict serials present w → verdict_words serials present v ≡ verdict_words serials present w → AreTold v w
  words_tell v w x y same = told v w x y (sym (tag_told serials present v x) ∙ ap tag_in same ∙ tag_told serials present w y) same
