-- Which line of a verdict has some words.
use Rattle.std.proofs.Common.{◌≡◌, ◌<◌, ◌+◌, ℕ, suc, List, [], ◌∷◌, ◌++◌, ◌⊎◌, inl, inr, drop, map, Some, refl, ◌∙◌, ap, subst, arith}
use Rattle.std.specs.Prelude.{Contains, codes, slice_get}
use Rattle.std.specs.Fmt.{decimal}
use Rattle.std.proofs.lemmas.List.Elements.{Contains-append_cases}
use Rattle.units.specs.declared.disk.Serial.{Serial}
use Rattle.generation_pick.specs.declared.fault.PickFault.{PickFault}
use Rattle.generation_pick.specs.declared.fault.PickFault.TheVariants as pick
use Rattle.container.specs.declared.missing.Missing.{Missing}
use Rattle.container.specs.declared.role.DiskRole.{DiskRole}
use Rattle.container.specs.declared.verdict.Opening.{Opening}
use Rattle.container.specs.declared.verdict.Verdict.{Verdict}
use Rattle.container.specs.declared.verdict.Verdict.TheVariants.{Refused, Large, GenerationEnd, Waiting, Ready}
use Rattle.container.specs.declared.volume.VolumeVerdict.{VolumeVerdict}
use Rattle.container.proofs.Alike.{of_map}
use Rattle.verdict_text.specs.Lines.{pick_words, verdict_lines}
use Rattle.verdict_text.specs.Status.{verdict_status}
use Rattle.verdict_lines_law.specs.Words.{disk_says, disks_say, family_says, refused_says, verdict_words, volume_says, volumes_say, waiting_says, words_in}
use Rattle.verdict_lines_law.proofs.Spelled.{verdict_read}
use Rattle.verdict_lines_law.proofs.Tells.{apart, kind}
use Rattle.refused_verdicts.specs.Wrong.{HasLine}
use Rattle.refused_verdicts.proofs.Places.{in_cons, in_nil}

-- THE LINES OF LISTS

pub record SaysVolume (k : ℕ) (list : List VolumeVerdict) (words : List (List ℕ)) : Type 0 where
  pub place : ℕ
  pub verdict : VolumeVerdict
  pub there : slice_get list place ≡ Some verdict
  pub says : volume_says (k + place) verdict ≡ words

pub in_volumes : (k : ℕ) (list : List VolumeVerdict) (words : List (List ℕ)) → Contains (volumes_say k list) words → SaysVolume k list words
in_volumes k [] words there = absurd (in_nil words there)
in_volumes k (v ∷ list) words there = at (in_cons _ _ words there) (λ behind. in_volumes (k + 1) list words behind) where
  at : (volume_says k v ≡ words) ⊎ Contains (volumes_say (k + 1) list) words → (Contains (volumes_say (k + 1) list) words → SaysVolume (k + 1) list words) → SaysVolume k (v ∷ list) words
  at (inl same) more = record { place = 0; verdict = v; there = refl; says = let here : k + 0 ≡ k = omega arith in ap (λ (n : ℕ). volume_says n v) here ∙ same }
  at (inr behind) more =
      let is = more behind in
      let here : k + suc is.place ≡ k + 1 + is.place = omega arith in
      record { place = suc is.place; verdict = is.verdict; there = is.there; says = ap (λ (n : ℕ). volume_says n is.verdict) here ∙ is.says }

pub record SaysDisk (serials : List Serial) (roles : List DiskRole) (words : List (List ℕ)) : Type 0 where
  pub place : ℕ
  pub serial : Serial
  pub role : DiskRole
  pub named : slice_get serials place ≡ Some serial
  pub there : slice_get roles place ≡ Some role
  pub says : disk_says serial role ≡ words

pub in_disks : (serials : List Serial) (roles : List DiskRole) (words : List (List ℕ)) → Contains (disks_say serials roles) words → SaysDisk serials roles words
in_disks [] roles words there = absurd (in_nil words there)
in_disks (s ∷ serials) [] words there = absurd (in_nil words there)
in_disks (s ∷ serials) (r ∷ roles) words there = at (in_cons _ _ words there) (λ behind. in_disks serials roles words behind) where
  at : (disk_says s r ≡ words) ⊎ Contains (disks_say serials roles) words → (Contains (disks_say serials roles) words → SaysDisk serials roles words) → SaysDisk (s ∷ serials) (r ∷ roles) words
  at (inl same) more = record { place = 0; serial = s; role = r; named = refl; there = refl; says = same }
  at (inr behind) more =
      let is = more behind in
      record { place = suc is.place; serial = is.serial; role = is.role; named = is.named; there = is.there; says = is.says }

-- THE LINES OF A VERDICT

-- a line of another kind than the first is one of those behind
behind : (first : List (List ℕ)) (lines : List (List (List ℕ))) (words : List (List ℕ)) (a b : ℕ) → kind first ≡ a → kind words ≡ b → (a ≡ b → ⊥) → Contains (first ∷ lines) words → Contains lines words
behind first lines words a b is was differ there = at (in_cons first lines words there) where
  at : (first ≡ words) ⊎ Contains lines words → Contains lines words
  at (inl same) = absurd (apart first words a b is was differ same)
  at (inr more) = more

-- a refusal by the newest block
not_refusal : (family generation : ℕ) (last words : List (List ℕ)) (b : ℕ) → kind words ≡ b → (102 ≡ b → ⊥) → (114 ≡ b → ⊥) → Contains (family_says family generation ∷ refused_says last ∷ []) words → ⊥
not_refusal family generation last words b is first second there =
    in_nil words (behind (refused_says last) [] words 114 b refl is second (behind (family_says family generation) (refused_says last ∷ []) words 102 b refl is first there))

-- the lines of an opening behind the first
abbrev opened : List Serial → Opening → List (List (List ℕ))
opened present o = volumes_say 0 o.volumes.items ++ disks_say present o.disks.items

-- a verdict is by a block of this family and generation
abbrev pub IsBy : Verdict → ℕ → ℕ → Type 0
IsBy (Refused fault) family generation = ⊥
IsBy (Large f g size) family generation = (f ≡ family) × (g ≡ generation)
IsBy (GenerationEnd f g) family generation = (f ≡ family) × (g ≡ generation)
IsBy (Waiting f g list) family generation = (f ≡ family) × (g ≡ generation)
IsBy (Ready o) family generation = (o.family ≡ family) × (o.generation ≡ generation)

module _ (serials present : List Serial) (words : List (List ℕ)) where
  pub says_volume : (v : Verdict) → kind words ≡ 118 → Contains (verdict_words serials present v) words → (o : Opening) × (v ≡ Ready o) × SaysVolume 0 o.volumes.items words
  says_volume (Refused fault) is there = absurd (in_nil words (behind (refused_says (pick_words serials fault)) [] words 114 118 refl is (λ e. omega (arith, e)) there))
  says_volume (Large f g size) is there =
      absurd (not_refusal f g (codes "large" ∷ decimal size ∷ []) words 118 is (λ e. omega (arith, e)) (λ e. omega (arith, e)) there)
  says_volume (GenerationEnd f g) is there =
      absurd (not_refusal f g (codes "generation" ∷ decimal g ∷ []) words 118 is (λ e. omega (arith, e)) (λ e. omega (arith, e)) there)
  says_volume (Waiting f g list) is there =
      let m = of_map waiting_says list.items words (behind (family_says f g) (map waiting_says list.items) words 102 118 refl is (λ e. omega (arith, e)) there) in
      absurd (apart (waiting_says m.0) words 119 118 refl is (λ e. omega (arith, e)) m.2)
  says_volume (Ready o) is there =
      at (Contains-append_cases (volumes_say 0 o.volumes.items) (disks_say present o.disks.items) words
      (behind (family_says o.family o.generation) (opened present o) words 102 118 refl is (λ e. omega (arith, e)) there))
    where
      at : Contains (volumes_say 0 o.volumes.items) words ⊎ Contains (disks_say present o.disks.items) words → (u : Opening) × (Ready o ≡ Ready u) × SaysVolume 0 u.volumes.items words
      at (inl volumes) = (o, refl, in_volumes 0 o.volumes.items words volumes)
      at (inr disks) = let d = in_disks present o.disks.items words disks in absurd (apart (disk_says d.serial d.role) words 100 118 refl is (λ e. omega (arith, e)) d.says)

  pub says_disk : (v : Verdict) → kind words ≡ 100 → Contains (verdict_words serials present v) words → (o : Opening) × (v ≡ Ready o) × SaysDisk present o.disks.items words
  says_disk (Refused fault) is there = absurd (in_nil words (behind (refused_says (pick_words serials fault)) [] words 114 100 refl is (λ e. omega (arith, e)) there))
  says_disk (Large f g size) is there =
      absurd (not_refusal f g (codes "large" ∷ decimal size ∷ []) words 100 is (λ e. omega (arith, e)) (λ e. omega (arith, e)) there)
  says_disk (GenerationEnd f g) is there =
      absurd (not_refusal f g (codes "generation" ∷ decimal g ∷ []) words 100 is (λ e. omega (arith, e)) (λ e. omega (arith, e)) there)
  says_disk (Waiting f g list) is there =
      let m = of_map waiting_says list.items words (behind (family_says f g) (map waiting_says list.items) words 102 100 refl is (λ e. omega (arith, e)) there) in
      absurd (apart (waiting_says m.0) words 119 100 refl is (λ e. omega (arith, e)) m.2)
  says_disk (Ready o) is there =
      at (Contains-append_cases (volumes_say 0 o.volumes.items) (disks_say present o.disks.items) words
      (behind (family_says o.family o.generation) (opened present o) words 102 100 refl is (λ e. omega (arith, e)) there))
    where
      at : Contains (volumes_say 0 o.volumes.items) words ⊎ Contains (disks_say present o.disks.items) words → (u : Opening) × (Ready o ≡ Ready u) × SaysDisk present u.disks.items words
      at (inl volumes) = let v = in_volumes 0 o.volumes.items words volumes in absurd (apart (volume_says (0 + v.place) v.verdict) words 118 100 refl is (λ e. omega (arith, e)) v.says)
      at (inr disks) = (o, refl, in_disks present o.disks.items words disks)

  pub says_waiting : (v : Verdict) → kind words ≡ 119 → Contains (verdict_words serials present v) words
      → (f g : ℕ) × (list : List Missing) × (v ≡ Waiting f g (record { items = list })) × (m : Missing) × Contains list m × (waiting_says m ≡ words)
  says_waiting (Refused fault) is there = absurd (in_nil words (behind (refused_says (pick_words serials fault)) [] words 114 119 refl is (λ e. omega (arith, e)) there))
  says_waiting (Large f g size) is there =
      absurd (not_refusal f g (codes "large" ∷ decimal size ∷ []) words 119 is (λ e. omega (arith, e)) (λ e. omega (arith, e)) there)
  says_waiting (GenerationEnd f g) is there =
      absurd (not_refusal f g (codes "generation" ∷ decimal g ∷ []) words 119 is (λ e. omega (arith, e)) (λ e. omega (arith, e)) there)
  says_waiting (Waiting f g list) is there =
      let m = of_map waiting_says list.items words (behind (family_says f g) (map waiting_says list.items) words 102 119 refl is (λ e. omega (arith, e)) there) in
      (f, g, list.items, refl, m.0, m.1, m.2)
  says_waiting (Ready o) is there =
      absurd (at (Contains-append_cases (volumes_say 0 o.volumes.items) (disks_say present o.disks.items) words
      (behind (family_says o.family o.generation) (opened present o) words 102 119 refl is (λ e. omega (arith, e)) there)))
    where
      at : Contains (volumes_say 0 o.volumes.items) words ⊎ Contains (disks_say present o.disks.items) words → ⊥
      at (inl volumes) = let v = in_volumes 0 o.volumes.items words volumes in apart (volume_says (0 + v.place) v.verdict) words 118 119 refl is (λ e. omega (arith, e)) v.says
      at (inr disks) = let d = in_disks present o.disks.items words disks in apart (disk_says d.serial d.role) words 100 119 refl is (λ e. omega (arith, e)) d.says

  -- the family's line
  first_or : (family generation : ℕ) (lines : List (List (List ℕ))) → (Contains lines words → ⊥) → Contains (family_says family generation ∷ lines) words → family_says family generation ≡ words
  first_or family generation lines none there = at (in_cons _ lines words there) where
    at : (family_says family generation ≡ words) ⊎ Contains lines words → family_says family generation ≡ words
    at (inl same) = same
    at (inr more) = absurd (none more)

  pub says_family : (v : Verdict) → kind words ≡ 102 → Contains (verdict_words serials present v) words → (family generation : ℕ) × IsBy v family generation × (family_says family generation ≡ words)
  says_family (Refused fault) is there = absurd (in_nil words (behind (refused_says (pick_words serials fault)) [] words 114 102 refl is (λ e. omega (arith, e)) there))
  says_family (Large f g size) is there =
      (f, g, (refl, refl), first_or f g (refused_says (codes "large" ∷ decimal size ∷ []) ∷ []) (λ more. in_nil words (behind (refused_says (codes "large" ∷ decimal size ∷ [])) [] words 114 102 refl is (λ e. omega (arith, e)) more)) there)
  says_family (GenerationEnd f g) is there =
      (f, g, (refl, refl), first_or f g (refused_says (codes "generation" ∷ decimal g ∷ []) ∷ []) (λ more. in_nil words (behind (refused_says (codes "generation" ∷ decimal g ∷ [])) [] words 114 102 refl is (λ e. omega (arith, e)) more)) there)
  says_family (Waiting f g list) is there =
      (f, g, (refl, refl), first_or f g (map waiting_says list.items) (λ more. let m = of_map waiting_says list.items words more in apart (waiting_says m.0) words 119 102 refl is (λ e. omega (arith, e)) m.2) there)
  says_family (Ready o) is there =
      (o.family, o.generation, (refl, refl), first_or o.family o.generation (opened present o) (λ more. at (Contains-append_cases (volumes_say 0 o.volumes.items) (disks_say present o.disks.items) words more)) there)
    where
      at : Contains (volumes_say 0 o.volumes.items) words ⊎ Contains (disks_say present o.disks.items) words → ⊥
      at (inl volumes) = let v = in_volumes 0 o.volumes.items words volumes in apart (volume_says (0 + v.place) v.verdict) words 118 102 refl is (λ e. omega (arith, e)) v.says
      at (inr disks) = let d = in_disks present o.disks.items words disks in apart (disk_says d.serial d.role) words 100 102 refl is (λ e. omega (arith, e)) d.says

  -- a refusal's line
  pub says_refused : (v : Verdict) → kind words ≡ 114 → Contains (verdict_words serials present v) words → verdict_status v ≡ 3
  says_refused (Refused fault) is there = refl
  says_refused (Large f g size) is there = refl
  says_refused (GenerationEnd f g) is there = refl
  says_refused (Waiting f g list) is there =
      let m = of_map waiting_says list.items words (behind (family_says f g) (map waiting_says list.items) words 102 114 refl is (λ e. omega (arith, e)) there) in
      absurd (apart (waiting_says m.0) words 119 114 refl is (λ e. omega (arith, e)) m.2)
  says_refused (Ready o) is there =
      absurd (at (Contains-append_cases (volumes_say 0 o.volumes.items) (disks_say present o.disks.items) words
      (behind (family_says o.family o.generation) (opened present o) words 102 114 refl is (λ e. omega (arith, e)) there)))
    where
      at : Contains (volumes_say 0 o.volumes.items) words ⊎ Contains (disks_say present o.disks.items) words → ⊥
      at (inl volumes) = let v = in_volumes 0 o.volumes.items words volumes in apart (volume_says (0 + v.place) v.verdict) words 118 114 refl is (λ e. omega (arith, e)) v.says
      at (inr disks) = let d = in_disks present o.disks.items words disks in apart (disk_says d.serial d.role) words 100 114 refl is (λ e. omega (arith, e)) d.says

-- a line of a text is one of the verdict's
pub line_of_verdict : (serials present : List Serial) (v : Verdict) (lines : List ℕ) (words : List (List ℕ)) (a : ℕ) → lines ≡ verdict_lines serials present v → kind words ≡ a → 0 < a
    → HasLine lines words → Contains (verdict_words serials present v) words
line_of_verdict serials present v lines words a laid is some has =
    at (Contains-append_cases (verdict_words serials present v) (([] ∷ []) ∷ []) words (subst (λ (l : List (List (List ℕ))). Contains l words) (ap words_in laid ∙ verdict_read serials present v) has))
  where
    at : Contains (verdict_words serials present v) words ⊎ Contains (([] ∷ []) ∷ []) words → Contains (verdict_words serials present v) words
    at (inl there) = there
    at (inr last) = absurd (in_nil words (behind ([] ∷ []) [] words 0 a refl is (λ e. omega (arith, e, some)) last))

-- for want of a block
none_says : (serials : List Serial) (fault : PickFault) → refused_says (pick_words serials fault) ≡ refused_says (codes "none" ∷ []) → fault ≡ pick.None
none_says serials pick.None same = refl
none_says serials (pick.Families a b) same = absurd (apart (pick_words serials (pick.Families a b)) (codes "none" ∷ []) 102 110 refl refl (λ e. omega (arith, e)) (ap (drop 1) same))
none_says serials (pick.Twins d e) same = absurd (apart (pick_words serials (pick.Twins d e)) (codes "none" ∷ []) 116 110 refl refl (λ e. omega (arith, e)) (ap (drop 1) same))

not_none : (words : List (List ℕ)) (a : ℕ) → kind words ≡ a → (a ≡ 110 → ⊥) → refused_says words ≡ refused_says (codes "none" ∷ []) → ⊥
not_none words a is other same = apart words (codes "none" ∷ []) a 110 is refl other (ap (drop 1) same)

pub says_pick : (serials present : List Serial) (v : Verdict) → Contains (verdict_words serials present v) (refused_says (codes "none" ∷ [])) → v ≡ Refused pick.None
says_pick serials present (Refused fault) there = elim (in_cons (refused_says (pick_words serials fault)) [] (refused_says (codes "none" ∷ [])) there) [
  | inl same ↦ ap Refused (none_says serials fault same)
  | inr none ↦ absurd (in_nil (refused_says (codes "none" ∷ [])) none)
]
says_pick serials present (Large f g size) there =
    elim (in_cons (refused_says (codes "large" ∷ decimal size ∷ [])) [] (refused_says (codes "none" ∷ []))
    (behind (family_says f g) (refused_says (codes "large" ∷ decimal size ∷ []) ∷ []) (refused_says (codes "none" ∷ [])) 102 114 refl refl (λ e. omega (arith, e)) there)) [
      | inl same ↦ absurd (not_none (codes "large" ∷ decimal size ∷ []) 108 refl (λ e. omega (arith, e)) same)
      | inr none ↦ absurd (in_nil (refused_says (codes "none" ∷ [])) none)
    ]
says_pick serials present (GenerationEnd f g) there =
    elim (in_cons (refused_says (codes "generation" ∷ decimal g ∷ [])) [] (refused_says (codes "none" ∷ []))
    (behind (family_says f g) (refused_says (codes "generation" ∷ decimal g ∷ []) ∷ []) (refused_says (codes "none" ∷ [])) 102 114 refl refl (λ e. omega (arith, e)) there)) [
      | inl same ↦ absurd (not_none (codes "generation" ∷ decimal g ∷ []) 103 refl (λ e. omega (arith, e)) same)
      | inr none ↦ absurd (in_nil (refused_says (codes "none" ∷ [])) none)
    ]
says_pick serials present (Waiting f g list) there =
    let three = says_refused serials present (refused_says (codes "none" ∷ [])) (Waiting f g list) refl there in
    absurd (let two : 2 ≡ 3 = three in omega (arith, two))
says_pick serials present (Ready o) there =
    absurd (elim (Contains-append_cases (volumes_say 0 o.volumes.items) (disks_say present o.disks.items) (refused_says (codes "none" ∷ []))
    (behind (family_says o.family o.generation) (opened present o) (refused_says (codes "none" ∷ [])) 102 114 refl refl (λ e. omega (arith, e)) there)) [
      | inl volumes ↦
          let v = in_volumes 0 o.volumes.items (refused_says (codes "none" ∷ [])) volumes in
          apart (volume_says (0 + v.place) v.verdict) (refused_says (codes "none" ∷ [])) 118 114 refl refl (λ e. omega (arith, e)) v.says
      | inr disks ↦
          let d = in_disks present o.disks.items (refused_says (codes "none" ∷ [])) disks in
          apart (disk_says d.serial d.role) (refused_says (codes "none" ∷ [])) 100 114 refl refl (λ e. omega (arith, e)) d.says
    ])
