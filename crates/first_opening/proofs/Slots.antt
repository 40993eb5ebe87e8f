-- Each slot of the volume has one disk.
use Rattle.std.proofs.Common.{◌≡◌, ◌≢◌, ℕ, zero, suc, ◌+◌, ◌<◌, ◌||◌, Bool, true, false, cond, List, [], ◌∷◌, ◌++◌, length, map, filter, flat_map, slice_get, slice_index_or, bytes_eq, refl, sym, ◌∙◌, ap, subst, arith}
use Rattle.std.specs.List.{list_all, range_with_len, AllByRecursion}
use Rattle.std.specs.Option.{option_map_or}
use Rattle.std.proofs.lemmas.Bool.{and_parts, false≢true, false_from_ne_true}
use Rattle.std.proofs.lemmas.List.{length-map, map-append}
use Rattle.std.proofs.lemmas.Slice.Eq.{bytes_eq-Decides}
use Rattle.imsm_base.specs.Fields.{Part}
use Rattle.imsm_base.specs.Layout.{serial_of}
use Rattle.imsm_base.specs.Parts.{block_in}
use Rattle.imsm_base.specs.Whole.{AreApart}
use Rattle.imsm_base.specs.Volumes.{Member, member}
use Rattle.array_model.specs.Blocks.{SlotWords}
use Rattle.block_meaning.specs.Meaning.{has_serial, slot_words}
use Rattle.block_meaning.specs.Reading.{block_words}
use Rattle.first_opening.specs.Opened.{Opened, IsOpening, serial_at, newest_of, block_of, numbers_of, disks_in_slot, members_of}
use Rattle.first_opening.proofs.Found.{two-records}
use Rattle.first_opening.proofs.Volume.{ArePair, the-volume, mirror, pair}

-- NUMBERS AND ELEMENTS

map-cond : {X Y : Type 0} (f : X → Y) (x : X) (xs : List X) (ys : List Y) (b : Bool) → map f xs ≡ ys → map f (cond b (x ∷ xs) xs) ≡ cond b (f x ∷ ys) ys
map-cond f x xs ys true same = ap (λ zs. f x ∷ zs) same
map-cond f x xs ys false same = same

filter-of-map : {X Y : Type 0} (f : X → Y) (p : Y → Bool) (xs : List X) → map f (filter (λ x. p (f x)) xs) ≡ filter p (map f xs)
filter-of-map f p [] = refl
filter-of-map f p (x ∷ xs) = map-cond f x (filter (λ y. p (f y)) xs) (filter p (map f xs)) (p (f x)) (filter-of-map f p xs)

behind-first : {X : Type 0} (d : X) (x : X) (xs : List X) (a b n : ℕ) → b ≡ suc a → map (λ i. slice_index_or (x ∷ xs) i d) (range_with_len b n) ≡ map (λ i. slice_index_or xs i d) (range_with_len a n)
behind-first d x xs a b zero next = refl
behind-first d x xs a b (suc n) next =
    ap (λ k. slice_index_or (x ∷ xs) k d ∷ map (λ i. slice_index_or (x ∷ xs) i d) (range_with_len (b + 1) n)) next
    ∙ ap (λ ys. slice_index_or xs a d ∷ ys) (behind-first d x xs (a + 1) (b + 1) n (omega (arith, next)))

each-element : {X : Type 0} (d : X) (xs : List X) → map (λ i. slice_index_or xs i d) (range_with_len 0 (length xs)) ≡ xs
each-element d [] = refl
each-element d (x ∷ xs) = ap (λ ys. x ∷ ys) (behind-first d x xs 0 (0 + 1) (length xs) (omega arith) ∙ each-element d xs)

-- ONE DISK FOR A SERIAL

none-alike : (s : List ℕ) (serials : List (List ℕ)) → AllByRecursion (λ y. s ≢ y) serials → filter (bytes_eq s) serials ≡ []
none-alike s [] apart = refl
none-alike s (x ∷ xs) apart =
    let other : bytes_eq s x ≡ false = false_from_ne_true (bytes_eq s x) (λ e. apart.0 ((bytes_eq-Decides s x).0 e)) in
    ap (λ b. cond b (x ∷ filter (bytes_eq s) xs) (filter (bytes_eq s) xs)) other ∙ none-alike s xs apart.1

one-alike : (s : List ℕ) (serials : List (List ℕ)) → AreApart serials → has_serial serials s ≡ true → filter (bytes_eq s) serials ≡ s ∷ []
one-alike s [] apart there = absurd (false≢true there)
one-alike s (x ∷ xs) apart there = at (bytes_eq x s) refl there (one-alike s xs apart.1)
  where
    same-at : x ≡ s → cond (bytes_eq s x) (x ∷ filter (bytes_eq s) xs) (filter (bytes_eq s) xs) ≡ s ∷ []
    same-at is =
        ap (λ b. cond b (x ∷ filter (bytes_eq s) xs) (filter (bytes_eq s) xs)) ((bytes_eq-Decides s x).1 (sym is))
        ∙ ap (λ ys. x ∷ ys) (none-alike s xs (subst (λ y. AllByRecursion (λ z. y ≢ z) xs) is apart.0))
        ∙ ap (λ y. y ∷ []) is

    at : (b : Bool) → bytes_eq x s ≡ b → (b || has_serial xs s) ≡ true → (has_serial xs s ≡ true → filter (bytes_eq s) xs ≡ s ∷ []) →
        cond (bytes_eq s x) (x ∷ filter (bytes_eq s) xs) (filter (bytes_eq s) xs) ≡ s ∷ []
    at true same there rest = same-at ((bytes_eq-Decides x s).0 same)
    at false other there rest =
        let unlike : bytes_eq s x ≡ false = false_from_ne_true (bytes_eq s x) (λ e. false≢true (sym other ∙ (bytes_eq-Decides x s).1 (sym ((bytes_eq-Decides s x).0 e)))) in
        ap (λ b. cond b (x ∷ filter (bytes_eq s) xs) (filter (bytes_eq s) xs)) unlike ∙ rest there

one-disk : (o : Opened) (w : SlotWords) → IsOpening o → has_serial o.serials w.serial ≡ true → map (serial_at o) (disks_in_slot o w) ≡ w.serial ∷ []
one-disk o w is there =
    filter-of-map (serial_at o) (bytes_eq w.serial) (numbers_of o)
    ∙ ap (filter (bytes_eq w.serial)) (each-element [] o.serials)
    ∙ one-alike w.serial o.serials is.apart there

slots-have : (o : Opened) (ws : List SlotWords) → IsOpening o → AllByRecursion (λ w. has_serial o.serials w.serial ≡ true) ws →
    map (serial_at o) (flat_map (disks_in_slot o) ws) ≡ map (λ (w : SlotWords). w.serial) ws
slots-have o [] is there = refl
slots-have o (w ∷ ws) is there =
    map-append (serial_at o) (disks_in_slot o w) (flat_map (disks_in_slot o) ws)
    ∙ ap (λ xs. xs ++ map (serial_at o) (flat_map (disks_in_slot o) ws)) (one-disk o w is there.0)
    ∙ ap (λ xs. w.serial ∷ xs) (slots-have o ws is there.1)

-- THE SLOTS OF THE VOLUME

record-there : (serials : List (List ℕ)) (disks : List Part) (i : ℕ) → list_all (has_serial serials) (map serial_of disks) ≡ true → i < length disks →
    has_serial serials (option_map_or serial_of (slice_get disks i) []) ≡ true
record-there serials [] i all below = absurd (omega arith)
record-there serials (d ∷ ds) zero all below = (and_parts (has_serial serials (serial_of d)) (list_all (has_serial serials) (map serial_of ds)) all).0
record-there serials (d ∷ ds) (suc i) all below =
    record-there serials ds i (and_parts (has_serial serials (serial_of d)) (list_all (has_serial serials) (map serial_of ds)) all).1 (omega arith)

slot-there : (o : Opened) (is : IsOpening o) (m : Member) → m.index < 2 → has_serial o.serials (slot_words (block_in (block_of o)) m).serial ≡ true
slot-there o is m below = record-there o.serials (block_in (block_of o)).disks m.index is.there (omega (arith, below, two-records o is))

-- the members have the serials of the slots, in their order
pub members-are : (o : Opened) → IsOpening o → map (serial_at o) (members_of o) ≡ map (λ (w : SlotWords). w.serial) (block_words.slots (newest_of o) 0)
members-are o is =
    let p : ArePair (the-volume o is) = pair o is in
    slots-have o (block_words.slots (newest_of o) 0) is (
    subst (AllByRecursion (λ w. has_serial o.serials w.serial ≡ true)) (sym (mirror o is).slots) (
      slot-there o is (member (the-volume o is) 0) p.first,
      (slot-there o is (member (the-volume o is) 1) p.second, tt),
    ))

pub two-members : (o : Opened) → IsOpening o → length (members_of o) ≡ 2
two-members o is =
    sym (length-map (members_of o) (serial_at o))
    ∙ ap (λ (xs : List (List ℕ)). length xs) (members-are o is)
    ∙ ap (λ (ws : List SlotWords). length (map (λ (w : SlotWords). w.serial) ws)) (mirror o is).slots
