-- The calls of looks tell of which disks a read failed.
use Rattle.std.proofs.Common.{◌≡◌, ◌<◌, ◌≤◌, ◌+◌, ◌⊎◌, ℕ, zero, suc, Bool, true, false, List, [], ◌∷◌, ◌++◌, length, map, take, inl, inr, refl, sym, ◌∙◌, ap, subst, arith}
use Rattle.std.specs.Prelude.{slice_index_or}
use Rattle.std.proofs.lemmas.Bool.{false≢true}
use Rattle.units.specs.declared.disk.Sector.{Sector}
use Rattle.device_log.specs.Log.{Call}
use Rattle.mpb_store.specs.Banks.{AreRead, read_of}
use Rattle.refused_verdicts.specs.Told.{block_places}
use Rattle.refused_verdicts.proofs.Looked.{LooksAre}

-- calls begin with reads of all places, or with those up to one that failed, and go on so
abbrev ReadsAll : ℕ → List ℕ → List Call → List Call → Type 0
ReadsAll d [] calls rest = calls ≡ rest
ReadsAll d (p ∷ places) calls rest = (more : List Call) × (calls ≡ read_of d true p ∷ more) × ReadsAll d places more rest

abbrev Stops : ℕ → List ℕ → List Call → List Call → Type 0
Stops d [] calls rest = ⊥
Stops d (p ∷ places) calls rest = (calls ≡ read_of d false p ∷ rest) ⊎ ((more : List Call) × (calls ≡ read_of d true p ∷ more) × Stops d places more rest)

reads_all : (d : ℕ) (places : List ℕ) (calls rest : List Call) → calls ≡ map (read_of d true) places ++ rest → ReadsAll d places calls rest
reads_all d [] calls rest laid = laid
reads_all d (p ∷ places) calls rest laid = (map (read_of d true) places ++ rest, laid, reads_all d places (map (read_of d true) places ++ rest) rest refl)

stops : (d : ℕ) (places : List ℕ) (k : ℕ) (calls rest : List Call) → k < length places → calls ≡ (map (read_of d true) (take k places) ++ read_of d false (slice_index_or places k 0) ∷ []) ++ rest → Stops d places calls rest
stops d [] k calls rest below laid = absurd (omega (arith, below))
stops d (p ∷ places) zero calls rest below laid = inl laid
stops d (p ∷ places) (suc k) calls rest below laid =
    let more = (map (read_of d true) (take k places) ++ read_of d false (slice_index_or places k 0) ∷ []) ++ rest in
    inr (more, laid, stops d places k more rest (omega (arith, below)) refl)

same_tail : (c e : Call) (xs ys : List Call) → c ∷ xs ≡ e ∷ ys → xs ≡ ys
same_tail c e xs ys same = cc same

other_calls : (d p q : ℕ) (xs ys : List Call) → read_of d true p ∷ xs ≡ read_of d false q ∷ ys → ⊥
other_calls d p q xs ys same = let first : read_of d true p ≡ read_of d false q = cc same in false≢true (sym (ap (λ (c : Call). c.went) first))

one_end : (d : ℕ) (places : List ℕ) (calls a b : List Call) → ReadsAll d places calls a → ReadsAll d places calls b → a ≡ b
one_end d [] calls a b one other = sym one ∙ other
one_end d (p ∷ places) calls a b (x, at, one) (y, there, other) =
    let same : x ≡ y = same_tail (read_of d true p) (read_of d true p) x y (sym at ∙ there) in
    one_end d places y a b (subst (λ (l : List Call). ReadsAll d places l a) same one) other

one_stop : (d : ℕ) (places : List ℕ) (calls a b : List Call) → Stops d places calls a → Stops d places calls b → a ≡ b
one_stop d [] calls a b one other = absurd one
one_stop d (p ∷ places) calls a b (inl at) (inl there) = same_tail (read_of d false p) (read_of d false p) a b (sym at ∙ there)
one_stop d (p ∷ places) calls a b (inl at) (inr (y, there, other)) = absurd (other_calls d p p y a (sym there ∙ at))
one_stop d (p ∷ places) calls a b (inr (x, at, one)) (inl there) = absurd (other_calls d p p x b (sym at ∙ there))
one_stop d (p ∷ places) calls a b (inr (x, at, one)) (inr (y, there, other)) =
    let same : x ≡ y = same_tail (read_of d true p) (read_of d true p) x y (sym at ∙ there) in
    one_stop d places y a b (subst (λ (l : List Call). Stops d places l a) same one) other

not_both : (d : ℕ) (places : List ℕ) (calls a b : List Call) → ReadsAll d places calls a → Stops d places calls b → ⊥
not_both d [] calls a b all stop = stop
not_both d (p ∷ places) calls a b (x, at, all) (inl there) = other_calls d p p x b (sym at ∙ there)
not_both d (p ∷ places) calls a b (x, at, all) (inr (y, there, stop)) =
    let same : x ≡ y = same_tail (read_of d true p) (read_of d true p) x y (sym at ∙ there) in
    not_both d places y a b (subst (λ (l : List Call). ReadsAll d places l a) same all) stop

-- the beginning of a look
abbrev Begins : ℕ → List ℕ → Bool → List Call → List Call → Type 0
Begins d places false calls rest = ReadsAll d places calls rest
Begins d places true calls rest = Stops d places calls rest

begins : (d : ℕ) (places : List ℕ) (failed : Bool) (calls one rest : List Call) → calls ≡ one ++ rest → AreRead d places failed one → Begins d places failed calls rest
begins d places false calls one rest laid reads = reads_all d places calls rest (laid ∙ ap (λ (l : List Call). l ++ rest) reads)
begins d places true calls one rest laid (k, stop) = stops d places k calls rest stop.there (laid ∙ ap (λ (l : List Call). l ++ rest) stop.reads)

one_look : (d : ℕ) (places : List ℕ) (f g : Bool) (calls a b : List Call) → Begins d places f calls a → Begins d places g calls b → (f ≡ g) × (a ≡ b)
one_look d places false false calls a b one other = (refl, one_end d places calls a b one other)
one_look d places false true calls a b one other = absurd (not_both d places calls a b one other)
one_look d places true false calls a b one other = absurd (not_both d places calls b a other one)
one_look d places true true calls a b one other = (refl, one_stop d places calls a b one other)

-- of as many disks, or of more
pub one_parse : (sizes : List ℕ) (opening : List (List Sector)) (k : ℕ) (failed others : List Bool) (calls : List Call) → length failed ≤ length others
    → LooksAre sizes opening k failed calls → LooksAre sizes opening k others calls → failed ≡ take (length failed) others
one_parse sizes opening k [] others calls count one other = refl
one_parse sizes opening k (f ∷ failed) [] calls count one other = absurd (omega (arith, count))
one_parse sizes opening k (f ∷ failed) (g ∷ others) calls count (x, a, laid, reads, more) (y, b, made, looks, further) =
    let first = one_look k (block_places opening sizes k) f g calls a b (begins k (block_places opening sizes k) f calls x a laid reads) (begins k (block_places opening sizes k) g calls y b made looks) in
    let rest = one_parse sizes opening (k + 1) failed others b (omega (arith, count)) (subst (LooksAre sizes opening (k + 1) failed) first.1 more) further in
    ap (λ (t : Bool). t ∷ failed) first.0 ∙ ap (λ (l : List Bool). g ∷ l) rest
