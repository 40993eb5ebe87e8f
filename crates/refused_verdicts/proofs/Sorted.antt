-- The calls of looks come in the order of the disks, none of them twice, and each disk with room has one.
use Rattle.std.proofs.Common.{◌≡◌, ◌≢◌, ◌⊎◌, ◌<◌, ◌≤◌, ◌+◌, ◌-◌, ◌%◌, ◌==◌, ◌&&◌, nat_le, nat_lt, ℕ, zero, suc, Bool, true, false, cond, List, [], ◌∷◌, ◌++◌, length, map, take, refl, sym, ◌∙◌, ap, subst, inl, inr, arith}
use Rattle.std.specs.Prelude.{Contains, slice_index, slice_index_or}
use Rattle.std.specs.List.{AllByRecursion}
use Rattle.std.specs.Str.{bytes_eq}
use Rattle.std.proofs.lemmas.Bool.{and_parts}
use Rattle.std.proofs.lemmas.Bool.Decides.{nat_tests}
use Rattle.std.proofs.lemmas.List.{get_or_default, take_more}
use Rattle.std.proofs.lemmas.List.Elements.{Contains-append_cases, Contains-append_left, Contains-append_right}
use Rattle.units.specs.declared.disk.Sector.{Sector}
use Rattle.units.specs.Places.{anchor_place, extended_count}
use Rattle.imsm_base.specs.Whole.{is_size, the_signature}
use Rattle.imsm_codec.specs.Given.{size_in}
use Rattle.device_log.specs.Log.{Call, Read}
use Rattle.mpb_store.specs.Banks.{AreRead, places_read, read_of}
use Rattle.mpb_store.specs.Reading.{extended_by, is_sized, places_of}
use Rattle.refused_verdicts.specs.Told.{block_places, stood_on}
use Rattle.refused_verdicts.proofs.Lacking.{look_of}
use Rattle.refused_verdicts.proofs.Later.{AllLater, all_range, later_any, later_both, later_front, later_range}
use Rattle.refused_verdicts.proofs.Looked.{LooksAre}
use Rattle.refused_verdicts.proofs.Places.{in_cons, in_nil}

-- PLACES

few_extended : (bytes : List ℕ) → extended_by bytes ≤ 15
few_extended bytes = at (is_sized bytes) refl where
  at : (b : Bool) → is_sized bytes ≡ b → cond b (extended_count (size_in bytes)) 0 ≤ 15
  at true is =
      let size : is_size (size_in bytes) ≡ true = (and_parts (bytes_eq (take 24 bytes) the_signature) (is_size (size_in bytes)) is).1 in
      let both = (and_parts (nat_le 216 (size_in bytes) && nat_le (size_in bytes) 8192) (size_in bytes % 4 == 0) size).0 in
      let high : nat_le (size_in bytes) 8192 ≡ true = (and_parts (nat_le 216 (size_in bytes)) (nat_le (size_in bytes) 8192) both).1 in
      let most : size_in bytes ≤ 8192 = grind (arith, nat_tests, high) in
      omega (arith, most)
  at false is = omega arith

places_apart : (n : ℕ) (bytes : List ℕ) → 18 ≤ n → AllLater (λ (i j : ℕ). i ≢ j) (places_of n bytes)
places_apart n bytes room =
    let few = few_extended bytes in (
      all_range (λ (i : ℕ). anchor_place n ≢ i) (anchor_place n - extended_by bytes) (extended_by bytes) (λ i low high same. omega (arith, low, high, same, few, room)),
      later_range (anchor_place n - extended_by bytes) (extended_by bytes),
    )

read_apart : (n : ℕ) (anchor : List ℕ) → AllLater (λ (i j : ℕ). i ≢ j) (places_read n anchor)
read_apart n anchor = at (nat_lt n 18) refl where
  at : (b : Bool) → nat_lt n 18 ≡ b → AllLater (λ (i j : ℕ). i ≢ j) (cond b [] (places_of n anchor))
  at true is = tt
  at false is = places_apart n anchor (grind (arith, nat_tests, is))

-- ONE LOOK

-- two calls don't ask the same of one disk
abbrev pub Differ : Call → Call → Type 0
Differ c e = c.disk ≡ e.disk → c.what ≡ e.what → ⊥

same_read : (p q : ℕ) → Read p ≡ Read q → p ≡ q
same_read p q same = cc same

differ_all : (d p : ℕ) (went gone : Bool) (places : List ℕ) → AllByRecursion (λ (q : ℕ). p ≢ q) places → AllByRecursion (Differ (read_of d went p)) (map (read_of d gone) places)
differ_all d p went gone [] apart = tt
differ_all d p went gone (q ∷ places) apart = (λ disk what. apart.0 (same_read p q what), differ_all d p went gone places apart.1)

differ_and_last : (d p q : ℕ) (places : List ℕ) → AllByRecursion (λ (x : ℕ). p ≢ x) (places ++ q ∷ []) → AllByRecursion (Differ (read_of d true p)) (map (read_of d true) places ++ read_of d false q ∷ [])
differ_and_last d p q [] apart = differ_all d p true false (q ∷ []) apart
differ_and_last d p q (x ∷ places) apart = (λ disk what. apart.0 (same_read p x what), differ_and_last d p q places apart.1)

all_differ : (d : ℕ) (places : List ℕ) → AllLater (λ (i j : ℕ). i ≢ j) places → AllLater Differ (map (read_of d true) places)
all_differ d [] apart = tt
all_differ d (p ∷ places) apart = (differ_all d p true true places apart.0, all_differ d places apart.1)

stop_differs : (d q : ℕ) (places : List ℕ) → AllLater (λ (i j : ℕ). i ≢ j) (places ++ q ∷ []) → AllLater Differ (map (read_of d true) places ++ read_of d false q ∷ [])
stop_differs d q [] apart = (tt, tt)
stop_differs d q (p ∷ places) apart = (differ_and_last d p q places apart.0, stop_differs d q places apart.1)

look_differs : (d : ℕ) (places : List ℕ) (failed : Bool) (calls : List Call) → AllLater (λ (i j : ℕ). i ≢ j) places → AreRead d places failed calls → AllLater Differ calls
look_differs d places false calls apart reads = subst (AllLater Differ) (sym reads) (all_differ d places apart)
look_differs d places true calls apart (k, stops) =
    subst (AllLater Differ) (sym stops.reads)
    (stop_differs d (slice_index_or places k 0) (take k places) (subst (AllLater (λ (i j : ℕ). i ≢ j)) (take_more places k 0 stops.there) (later_front (λ (i j : ℕ). i ≢ j) (k + 1) places apart)))

-- ALL LOOKS

pub looks_from : (sizes : List ℕ) (opening : List (List Sector)) (k : ℕ) (failed : List Bool) (calls : List Call) → LooksAre sizes opening k failed calls → (call : Call) → Contains calls call → k ≤ call.disk
looks_from sizes opening k [] calls none call there = absurd (in_nil call (subst (λ (l : List Call). Contains l call) none there))
looks_from sizes opening k (f ∷ failed) calls (one, rest, laid, reads, more) call there =
    elim (Contains-append_cases one rest call (subst (λ (l : List Call). Contains l call) laid there)) [
      | inl here ↦ let disk = look_of k (block_places opening sizes k) f one reads call here in omega (arith, disk)
      | inr behind ↦ let least = looks_from sizes opening (k + 1) failed rest more call behind in omega (arith, least)
    ]

pub looks_later : (sizes : List ℕ) (opening : List (List Sector)) (k : ℕ) (failed : List Bool) (calls : List Call) → LooksAre sizes opening k failed calls → AllLater (λ (c e : Call). c.disk ≤ e.disk) calls
looks_later sizes opening k [] calls none = subst (AllLater (λ (c e : Call). c.disk ≤ e.disk)) (sym none) tt
looks_later sizes opening k (f ∷ failed) calls (one, rest, laid, reads, more) =
    let of = look_of k (block_places opening sizes k) f one reads in
    subst (AllLater (λ (c e : Call). c.disk ≤ e.disk)) (sym laid)
    (later_both (λ (c e : Call). c.disk ≤ e.disk) one rest
    (later_any (λ (c e : Call). c.disk ≤ e.disk) one (λ c e here there. let first = of c here in let second = of e there in omega (arith, first, second)))
    (looks_later sizes opening (k + 1) failed rest more)
    (λ c e here there. let first = of c here in let second = looks_from sizes opening (k + 1) failed rest more e there in omega (arith, first, second)))

pub looks_differ : (sizes : List ℕ) (opening : List (List Sector)) (k : ℕ) (failed : List Bool) (calls : List Call) → LooksAre sizes opening k failed calls → AllLater Differ calls
looks_differ sizes opening k [] calls none = subst (AllLater Differ) (sym none) tt
looks_differ sizes opening k (f ∷ failed) calls (one, rest, laid, reads, more) =
    subst (AllLater Differ) (sym laid)
    (later_both Differ one rest (look_differs k (block_places opening sizes k) f one (read_apart (slice_index sizes k) (stood_on opening k (anchor_place (slice_index sizes k))).0) reads) (looks_differ sizes opening (k + 1) failed rest more)
    (λ c e here there disk what. let first = look_of k (block_places opening sizes k) f one reads c here in let second = looks_from sizes opening (k + 1) failed rest more e there in omega (arith, first, second, disk)))

-- a look at a disk with room makes a call
anchor_read : (d n : ℕ) (anchor : List ℕ) (failed : Bool) (calls : List Call) → 18 ≤ n → AreRead d (places_read n anchor) failed calls → (c : Call) × Contains calls c
anchor_read d n anchor failed calls room reads = at (nat_lt n 18) refl reads where
  first : (failed : Bool) → AreRead d (places_of n anchor) failed calls → (c : Call) × Contains calls c
  first false is = (read_of d true (anchor_place n), subst (λ (l : List Call). Contains l (read_of d true (anchor_place n))) (sym is) (0, omega arith, refl))
  first true (k, stops) =
      let last = read_of d false (slice_index_or (places_of n anchor) k 0) in
      (last, subst (λ (l : List Call). Contains l last) (sym stops.reads) (Contains-append_right (map (read_of d true) (take k (places_of n anchor))) (last ∷ []) last (0, omega arith, refl)))

  at : (b : Bool) → nat_lt n 18 ≡ b → AreRead d (cond b [] (places_of n anchor)) failed calls → (c : Call) × Contains calls c
  at true is some = absurd (let few : n < 18 = grind (arith, nat_tests, is) in omega (arith, few, room))
  at false is some = first failed some

pub some_look : (sizes : List ℕ) (opening : List (List Sector)) (k : ℕ) (failed : List Bool) (calls : List Call) → LooksAre sizes opening k failed calls
    → (i : ℕ) → i < length failed → 18 ≤ slice_index sizes (k + i) → (c : Call) × Contains calls c × (c.disk ≡ k + i)
some_look sizes opening k [] calls none i below room = absurd (omega (arith, below))
some_look sizes opening k (f ∷ failed) calls (one, rest, laid, reads, more) zero below room =
    let here : k + 0 ≡ k = omega arith in
    let c = anchor_read k (slice_index sizes k) (stood_on opening k (anchor_place (slice_index sizes k))).0 f one (subst (λ (d : ℕ). 18 ≤ slice_index sizes d) here room) reads in
    (c.0, subst (λ (l : List Call). Contains l c.0) (sym laid) (Contains-append_left one rest c.0 c.1), look_of k (block_places opening sizes k) f one reads c.0 c.1 ∙ sym here)
some_look sizes opening k (f ∷ failed) calls (one, rest, laid, reads, more) (suc i) below room =
    let further : k + suc i ≡ k + 1 + i = omega arith in
    let c = some_look sizes opening (k + 1) failed rest more i (omega (arith, below)) (subst (λ (d : ℕ). 18 ≤ slice_index sizes d) further room) in
    (c.0, subst (λ (l : List Call). Contains l c.0) (sym laid) (Contains-append_right one rest c.0 c.1), c.2 ∙ sym further)

-- each call reads one of the places
one_of : (d : ℕ) (went : Bool) (places : List ℕ) (call : Call) → Contains (map (read_of d went) places) call → (p : ℕ) × Contains places p × (call.what ≡ Read p)
one_of d went [] call there = absurd (in_nil call there)
one_of d went (p ∷ places) call there = elim (in_cons (read_of d went p) (map (read_of d went) places) call there) [
  | inl same ↦ (p, (0, omega arith, refl), sym (ap (λ (c : Call). c.what) same))
  | inr behind ↦ let more = one_of d went places call behind in (more.0, Contains-append_right (p ∷ []) places more.0 more.1, more.2)
]

look_place : (d : ℕ) (places : List ℕ) (failed : Bool) (calls : List Call) → AreRead d places failed calls → (call : Call) → Contains calls call → (p : ℕ) × Contains places p × (call.what ≡ Read p)
look_place d places false calls reads call there = one_of d true places call (subst (λ (l : List Call). Contains l call) reads there)
look_place d places true calls (k, stops) call there =
    elim (Contains-append_cases (map (read_of d true) (take k places)) (read_of d false (slice_index_or places k 0) ∷ []) call (subst (λ (l : List Call). Contains l call) stops.reads there)) [
      | inl front ↦ let is = one_of d true (take k places) call front in (is.0, in_front places k is.0 is.1, is.2)
      | inr last ↦ elim (in_cons (read_of d false (slice_index_or places k 0)) [] call last) [
        | inl same ↦ (slice_index_or places k 0, at_index places k stops.there, sym (ap (λ (c : Call). c.what) same))
        | inr none ↦ absurd (in_nil call none)
      ]
    ]
  where
    in_front : (xs : List ℕ) (n p : ℕ) → Contains (take n xs) p → Contains xs p
    in_front xs zero p there = absurd (in_nil p there)
    in_front [] (suc n) p there = absurd (in_nil p there)
    in_front (x ∷ xs) (suc n) p there = cons (in_cons x (take n xs) p there) (λ behind. in_front xs n p behind) where
      cons : (x ≡ p) ⊎ Contains (take n xs) p → (Contains (take n xs) p → Contains xs p) → Contains (x ∷ xs) p
      cons (inl same) more = (0, omega arith, same)
      cons (inr behind) more = Contains-append_right (x ∷ []) xs p (more behind)

    at_index : (xs : List ℕ) (n : ℕ) → n < length xs → Contains xs (slice_index_or xs n 0)
    at_index xs n below = (n, below, get_or_default xs n (slice_index_or xs n 0) 0 below)

pub looks_place : (sizes : List ℕ) (opening : List (List Sector)) (k : ℕ) (failed : List Bool) (calls : List Call) → LooksAre sizes opening k failed calls
    → (call : Call) → Contains calls call → (p : ℕ) × Contains (block_places opening sizes call.disk) p × (call.what ≡ Read p)
looks_place sizes opening k [] calls none call there = absurd (in_nil call (subst (λ (l : List Call). Contains l call) none there))
looks_place sizes opening k (f ∷ failed) calls (one, rest, laid, reads, more) call there =
    elim (Contains-append_cases one rest call (subst (λ (l : List Call). Contains l call) laid there)) [
      | inl here ↦
          let disk = look_of k (block_places opening sizes k) f one reads call here in
          let is = look_place k (block_places opening sizes k) f one reads call here in
          (is.0, subst (λ (d : ℕ). Contains (block_places opening sizes d) is.0) (sym disk) is.1, is.2)
      | inr behind ↦ looks_place sizes opening (k + 1) failed rest more call behind
    ]
