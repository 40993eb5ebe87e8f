-- The kinds of the lines of disks that arrive.
use Rattle.std.proofs.Common.{◌≡◌, ◌≢◌, ◌<◌, ◌≤◌, ◌+◌, ℕ, zero, suc, false, List, [], ◌∷◌, ◌++◌, ◌⊎◌, inl, inr, drop, length, map, take, Some, refl, sym, ◌∙◌, ap, subst, arith}
use Rattle.std.specs.Prelude.{Contains, slice_get}
use Rattle.std.specs.List.{AllByRecursion}
use Rattle.std.proofs.lemmas.Bool.{false≢true}
use Rattle.std.proofs.lemmas.List.Elements.{Contains-append_cases}
use Rattle.units.specs.declared.disk.Serial.{Serial}
use Rattle.container.specs.declared.missing.Missing.{Missing}
use Rattle.container.specs.declared.role.DiskRole.{DiskRole}
use Rattle.container.specs.declared.verdict.Verdict.{Verdict}
use Rattle.container.specs.declared.verdict.Verdict.TheVariants.{Refused, Large, GenerationEnd, Waiting, Ready}
use Rattle.container.specs.declared.volume.VolumeVerdict.{VolumeVerdict}
use Rattle.container.proofs.Alike.{of_map}
use Rattle.incremental.specs.Arrivals.{is_ready}
use Rattle.image_incremental.specs.Lines.{all_lines}
use Rattle.verdict_lines_law.specs.Words.{disks_say, verdict_words, volumes_say, waiting_says, words_in}
use Rattle.refused_verdicts.specs.Arrivals.{all_say, arrivals_say, arrive_says, late_says}
use Rattle.refused_verdicts.specs.Wrong.{HasLine}
use Rattle.refused_verdicts.proofs.ArrivedLines.{arrivals_read}
use Rattle.refused_verdicts.proofs.Later.{AllLater, all_at, all_both, all_there, later_any, later_both}
use Rattle.refused_verdicts.proofs.Places.{at_place, in_cons, in_nil}
use Rattle.verdict_lines_law.proofs.Tells.{kind}

-- THE LINES OF A VERDICT

-- of another kind than those of a disk that arrives, or comes too late
abbrev IsSaid : List (List ℕ) → Type 0
IsSaid words = (98 ≤ kind words) × (kind words ≢ 108)

waiting_said : (list : List Missing) → AllByRecursion IsSaid (map waiting_says list)
waiting_said [] = tt
waiting_said (m ∷ list) = ((omega arith, λ e. omega (arith, e)), waiting_said list)

volumes_said : (k : ℕ) (list : List VolumeVerdict) → AllByRecursion IsSaid (volumes_say k list)
volumes_said k [] = tt
volumes_said k (v ∷ list) = ((omega arith, λ e. omega (arith, e)), volumes_said (k + 1) list)

disks_said : (serials : List Serial) (roles : List DiskRole) → AllByRecursion IsSaid (disks_say serials roles)
disks_said [] roles = tt
disks_said (s ∷ serials) [] = tt
disks_said (s ∷ serials) (r ∷ roles) = ((omega arith, λ e. omega (arith, e)), disks_said serials roles)

verdict_said : (serials present : List Serial) (v : Verdict) → AllByRecursion IsSaid (verdict_words serials present v)
verdict_said serials present (Refused fault) = ((omega arith, λ e. omega (arith, e)), tt)
verdict_said serials present (Large f g size) = ((omega arith, λ e. omega (arith, e)), ((omega arith, λ e. omega (arith, e)), tt))
verdict_said serials present (GenerationEnd f g) = ((omega arith, λ e. omega (arith, e)), ((omega arith, λ e. omega (arith, e)), tt))
verdict_said serials present (Waiting f g list) = ((omega arith, λ e. omega (arith, e)), waiting_said list.items)
verdict_said serials present (Ready o) =
    ((omega arith, λ e. omega (arith, e)), all_both IsSaid (volumes_say 0 o.volumes.items) (disks_say present o.disks.items) (volumes_said 0 o.volumes.items) (disks_said present o.disks.items))

-- of a container that isn't opened no disk is said to have a role
waiting_unopened : (list : List Missing) → AllByRecursion (λ (words : List (List ℕ)). kind words ≢ 100) (map waiting_says list)
waiting_unopened [] = tt
waiting_unopened (m ∷ list) = ((λ e. omega (arith, e)), waiting_unopened list)

unopened : (serials present : List Serial) (v : Verdict) → is_ready v ≡ false → AllByRecursion (λ (words : List (List ℕ)). kind words ≢ 100) (verdict_words serials present v)
unopened serials present (Refused fault) is = ((λ e. omega (arith, e)), tt)
unopened serials present (Large f g size) is = ((λ e. omega (arith, e)), ((λ e. omega (arith, e)), tt))
unopened serials present (GenerationEnd f g) is = ((λ e. omega (arith, e)), ((λ e. omega (arith, e)), tt))
unopened serials present (Waiting f g list) is = ((λ e. omega (arith, e)), waiting_unopened list.items)
unopened serials present (Ready o) is = absurd (false≢true (sym is))

there_of : {X : Type 0} (P : X → Type 0) (xs : List X) (x : X) → AllByRecursion P xs → Contains xs x → P x
there_of P xs x all there = let k = at_place xs x there in all_at P xs k.0 x all k.1

-- THE LINES OF ARRIVALS

arrivals_said : (serials : List Serial) (k : ℕ) (verdicts : List Verdict) → AllByRecursion (λ (words : List (List ℕ)). kind words ≢ 108) (arrivals_say serials k verdicts)
arrivals_said serials k [] = tt
arrivals_said serials k (v ∷ more) = (
  (λ e. omega (arith, e)),
  all_both (λ (words : List (List ℕ)). kind words ≢ 108) (verdict_words serials (take (k + 1) serials) v) (arrivals_say serials (k + 1) more)
      (all_there (λ (words : List (List ℕ)). kind words ≢ 108) (verdict_words serials (take (k + 1) serials) v) (λ words there. (there_of IsSaid _ words (verdict_said serials (take (k + 1) serials) v) there).1))
      (arrivals_said serials (k + 1) more),
)

-- a line of a text is one of those of arrivals
pub line_of_arrivals : (serials : List Serial) (verdicts : List Verdict) (lines : List ℕ) (words : List (List ℕ)) (a : ℕ) → lines ≡ all_lines serials verdicts → kind words ≡ a → 0 < a
    → HasLine lines words → Contains (all_say serials verdicts) words
line_of_arrivals serials verdicts lines words a laid is some has =
    at (Contains-append_cases (all_say serials verdicts) (([] ∷ []) ∷ []) words (subst (λ (l : List (List (List ℕ))). Contains l words) (ap words_in laid ∙ arrivals_read serials verdicts) has))
  where
    at : Contains (all_say serials verdicts) words ⊎ Contains (([] ∷ []) ∷ []) words → Contains (all_say serials verdicts) words
    at (inl there) = there
    at (inr last) = elim (in_cons ([] ∷ []) [] words last) [
      | inl same ↦ absurd (let none : 0 ≡ kind words = ap kind same in omega (arith, none, is, some))
      | inr none ↦ absurd (in_nil words none)
    ]

in_drop : {X : Type 0} (n : ℕ) (xs : List X) (x : X) → Contains (drop n xs) x → (j : ℕ) × (n ≤ j) × (slice_get xs j ≡ Some x)
in_drop zero xs x there = let k = at_place xs x there in (k.0, omega arith, k.1)
in_drop (suc n) [] x there = absurd (in_nil x there)
in_drop (suc n) (y ∷ xs) x there = let more = in_drop n xs x there in (suc more.0, (let low = more.1 in omega (arith, low)), more.2)

-- a disk that is said to come too late is behind those that were looked at
pub late_at : (serials : List Serial) (verdicts : List Verdict) (lines : List ℕ) (words : List (List ℕ)) → lines ≡ all_lines serials verdicts → kind words ≡ 108 → HasLine lines words
    → (j : ℕ) × (length verdicts ≤ j) × (t : Serial) × (slice_get serials j ≡ Some t) × (late_says t ≡ words)
late_at serials verdicts lines words laid is has =
    at (Contains-append_cases (arrivals_say serials 0 verdicts) (map late_says (drop (length verdicts) serials)) words (line_of_arrivals serials verdicts lines words 108 laid is (omega arith) has))
  where
    at : Contains (arrivals_say serials 0 verdicts) words ⊎ Contains (map late_says (drop (length verdicts) serials)) words
        → (j : ℕ) × (length verdicts ≤ j) × (t : Serial) × (slice_get serials j ≡ Some t) × (late_says t ≡ words)
    at (inl arrived) = absurd (there_of (λ (ws : List (List ℕ)). kind ws ≢ 108) _ words (arrivals_said serials 0 verdicts) arrived is)
    at (inr late) =
        let t = of_map late_says (drop (length verdicts) serials) words late in
        let j = in_drop (length verdicts) serials t.0 t.1 in
        (j.0, j.1, t.0, j.2, t.2)

-- BEHIND AN OPENING

-- no disk arrives behind a role
abbrev pub Unopened : List (List ℕ) → List (List ℕ) → Type 0
Unopened one other = kind one ≡ 100 → kind other ≡ 97 → ⊥

verdict_later : (serials present : List Serial) (v : Verdict) → AllLater Unopened (verdict_words serials present v)
verdict_later serials present v =
    later_any Unopened (verdict_words serials present v) (λ x y here there one other. let high = (there_of IsSaid (verdict_words serials present v) y (verdict_said serials present v) there).0 in omega (arith, high, other))

arrive_later : (serials : List Serial) (k : ℕ) (lines : List (List (List ℕ))) → AllByRecursion (Unopened (arrive_says serials k)) lines
arrive_later serials k lines = all_there (Unopened (arrive_says serials k)) lines (λ words there one other. omega (arith, one))

arrivals_later : (serials : List Serial) (k : ℕ) (verdicts : List Verdict) → ((i : ℕ) (v : Verdict) → slice_get verdicts i ≡ Some v → i + 1 < length verdicts → is_ready v ≡ false)
    → AllLater Unopened (arrivals_say serials k verdicts)
arrivals_later serials k [] waits = tt
arrivals_later serials k (v ∷ []) waits = (
  arrive_later serials k (verdict_words serials (take (k + 1) serials) v ++ []),
  later_both Unopened (verdict_words serials (take (k + 1) serials) v) [] (verdict_later serials (take (k + 1) serials) v) tt (λ x y here there. absurd (in_nil y there)),
)
arrivals_later serials k (v ∷ w ∷ more) waits =
    let words = verdict_words serials (take (k + 1) serials) v in
    let not_ready : is_ready v ≡ false = waits 0 v refl (omega arith) in (
      arrive_later serials k (words ++ arrivals_say serials (k + 1) (w ∷ more)),
      later_both Unopened words (arrivals_say serials (k + 1) (w ∷ more)) (verdict_later serials (take (k + 1) serials) v)
          (arrivals_later serials (k + 1) (w ∷ more) (λ i x at below. waits (suc i) x at (omega (arith, below))))
          (λ x y here there one other. there_of (λ (ws : List (List ℕ)). kind ws ≢ 100) words x (unopened serials (take (k + 1) serials) v not_ready) here one),
    )

pub all_later : (serials : List Serial) (verdicts : List Verdict) (lines : List ℕ) → lines ≡ all_lines serials verdicts
    → ((i : ℕ) (v : Verdict) → slice_get verdicts i ≡ Some v → i + 1 < length verdicts → is_ready v ≡ false) → AllLater Unopened (words_in lines)
all_later serials verdicts lines laid waits =
    let late = map late_says (drop (length verdicts) serials) in
    subst (AllLater Unopened) (sym (ap words_in laid ∙ arrivals_read serials verdicts))
    (later_both Unopened (all_say serials verdicts) (([] ∷ []) ∷ [])
    (later_both Unopened (arrivals_say serials 0 verdicts) late (arrivals_later serials 0 verdicts waits) (later_any Unopened late (λ x y here there. late_last x y there)) (λ x y here there. late_last x y there))
    (tt, tt) (λ x y here there. last_last x y there))
  where
    late_last : (x y : List (List ℕ)) → Contains (map late_says (drop (length verdicts) serials)) y → Unopened x y
    late_last x y there one other = let t = of_map late_says (drop (length verdicts) serials) y there in let is : 108 ≡ kind y = ap kind t.2 in omega (arith, is, other)

    last_last : (x y : List (List ℕ)) → Contains (([] ∷ []) ∷ []) y → Unopened x y
    last_last x y there one other = elim (in_cons ([] ∷ []) [] y there) [
      | inl same ↦ let none : 0 ≡ kind y = ap kind same in omega (arith, none, other)
      | inr none ↦ in_nil y none
    ]
