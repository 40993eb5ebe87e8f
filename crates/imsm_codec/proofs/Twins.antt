-- Expected serials are apart exactly where no two records are twins.
use Rattle.std.proofs.Common.{◌≡◌, ◌≢◌, ℕ, zero, suc, ◌<◌, ◌&&◌, Bool, true, false, cond, List, [], ◌∷◌, length, map, get_or, refl, ◌∙◌, ap, arith}
use Rattle.std.specs.Prelude.{filter}
use Rattle.std.specs.List.{AllByRecursion}
use Rattle.std.specs.Str.{bytes_eq}
use Rattle.std.proofs.lemmas.Bool.{both_ways, and_right}
use Rattle.std.proofs.lemmas.Slice.Eq.{bytes_eq-Decides}
use Rattle.imsm_base.specs.Fields.{Part}
use Rattle.imsm_base.specs.Layout.{serial_of}
use Rattle.imsm_base.specs.Whole.{is_expected, AreApart}
use Rattle.imsm_codec.specs.Table.{are_twins, HasNoTwins}

abbrev serials : List Part → List (List ℕ)
serials ds = map serial_of (filter is_expected ds)

abbrev Differs : Part → List ℕ → Type 0
Differs d y = serial_of d ≢ y

-- no record of these is a twin of d
abbrev HasNoTwinOf : Part → List Part → Type 0
HasNoTwinOf d ds = (j : ℕ) → j < length ds → are_twins d (get_or ds j []) ≡ false

-- two expected records that are no twins differ
differ : (d e : Part) → is_expected d ≡ true → is_expected e ≡ true → are_twins d e ≡ false → serial_of d ≢ serial_of e
differ d e p q none same =
    let equal : bytes_eq (serial_of d) (serial_of e) ≡ true = (bytes_eq-Decides (serial_of d) (serial_of e)).1 same in
    let twins : are_twins d e ≡ true =
    ap (λ (x : Bool). x && is_expected e && bytes_eq (serial_of d) (serial_of e)) p
    ∙ ap (λ (x : Bool). x && bytes_eq (serial_of d) (serial_of e)) q ∙ equal in
    both_ways (are_twins d e) none twins

-- a record that isn't expected, or that differs, is no twin
unexpected_left : (d e : Part) → is_expected d ≡ false → are_twins d e ≡ false
unexpected_left d e p = ap (λ (x : Bool). x && is_expected e && bytes_eq (serial_of d) (serial_of e)) p

not_equal : (x y : List ℕ) (b : Bool) → bytes_eq x y ≡ b → x ≢ y → b ≡ false
not_equal x y false at differs = refl
not_equal x y true at differs = absurd (differs ((bytes_eq-Decides x y).0 at))

differ_no_twins : (d e : Part) → serial_of d ≢ serial_of e → are_twins d e ≡ false
differ_no_twins d e differs =
    and_right (is_expected d && is_expected e) (bytes_eq (serial_of d) (serial_of e))
    (not_equal (serial_of d) (serial_of e) (bytes_eq (serial_of d) (serial_of e)) refl differs)

unexpected_right : (d e : Part) → is_expected e ≡ false → are_twins d e ≡ false
unexpected_right d e p =
    ap (λ (x : Bool). x && bytes_eq (serial_of d) (serial_of e))
    (and_right (is_expected d) (is_expected e) p)

others_at : (d e : Part) (ds : List Part) (b : Bool) → is_expected e ≡ b → (b ≡ true → serial_of d ≢ serial_of e) →
    AllByRecursion (Differs d) (serials ds) → AllByRecursion (Differs d) (map serial_of (cond b (e ∷ filter is_expected ds) (filter is_expected ds)))
others_at d e ds true at here more = (here refl, more)
others_at d e ds false at here more = more

others_differ : (d : Part) → is_expected d ≡ true → (ds : List Part) → HasNoTwinOf d ds → AllByRecursion (Differs d) (serials ds)
others_differ d p [] none = tt
others_differ d p (e ∷ ds) none =
    others_at d e ds (is_expected e) refl (λ q. differ d e p q (none 0 (omega arith)))
    (others_differ d p ds (λ j below. none (suc j) (omega arith)))

apart_at : (d : Part) (ds : List Part) (b : Bool) → (b ≡ true → AllByRecursion (Differs d) (serials ds)) → AreApart (serials ds) →
    AreApart (map serial_of (cond b (d ∷ filter is_expected ds) (filter is_expected ds)))
apart_at d ds true others more = (others refl, more)
apart_at d ds false others more = more

pub apart_from_no_twins : (ds : List Part) → HasNoTwins ds → AreApart (serials ds)
apart_from_no_twins [] none = tt
apart_from_no_twins (d ∷ ds) none =
    apart_at d ds (is_expected d) (λ p. others_differ d p ds (λ j below. none 0 (suc j) (omega arith) (omega arith)))
    (apart_from_no_twins ds (λ i j order inside. none (suc i) (suc j) (omega arith) (omega arith)))

-- and back
other_of : (d e : Part) (ds : List Part) (b : Bool) → is_expected e ≡ b →
    AllByRecursion (Differs d) (map serial_of (cond b (e ∷ filter is_expected ds) (filter is_expected ds))) →
    (are_twins d e ≡ false) × AllByRecursion (Differs d) (serials ds)
other_of d e ds true at all = (differ_no_twins d e all.0, all.1)
other_of d e ds false at all = (unexpected_right d e at, all)

no_twin_of : (d : Part) (ds : List Part) → AllByRecursion (Differs d) (serials ds) → HasNoTwinOf d ds
no_twin_of d [] all j below = absurd (omega arith)
no_twin_of d (e ∷ ds) all zero below = (other_of d e ds (is_expected e) refl all).0
no_twin_of d (e ∷ ds) all (suc j) below = no_twin_of d ds (other_of d e ds (is_expected e) refl all).1 j (omega arith)

head_of : (d : Part) (ds : List Part) (b : Bool) → is_expected d ≡ b →
    AreApart (map serial_of (cond b (d ∷ filter is_expected ds) (filter is_expected ds))) →
    HasNoTwinOf d ds × AreApart (serials ds)
head_of d ds true at apart = (no_twin_of d ds apart.0, apart.1)
head_of d ds false at apart = (λ j below. unexpected_left d (get_or ds j []) at, apart)

pub no_twins_from_apart : (ds : List Part) → AreApart (serials ds) → HasNoTwins ds
no_twins_from_apart [] apart i j order inside = absurd (omega arith)
no_twins_from_apart (d ∷ ds) apart zero zero order inside = absurd (omega arith)
no_twins_from_apart (d ∷ ds) apart zero (suc j) order inside = (head_of d ds (is_expected d) refl apart).0 j (omega arith)
no_twins_from_apart (d ∷ ds) apart (suc i) zero order inside = absurd (omega arith)
no_twins_from_apart (d ∷ ds) apart (suc i) (suc j) order inside =
    no_twins_from_apart ds (head_of d ds (is_expected d) refl apart).1 i j (omega arith) (omega arith)
