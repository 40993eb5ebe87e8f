-- Words name their images in one way.
use Rattle.std.proofs.Common.{◌≡◌, ◌<◌, ◌≤◌, ◌+◌, ◌-◌, ◌&&◌, ℕ, suc, zero, List, [], ◌∷◌, ◌++◌, Bool, true, length, map, take, drop, get_or, refl, sym, ◌∙◌, ap, subst, arith, drop-drop, length-drop, Result, Err, IsErrAnd}
use Rattle.std.specs.List.{AllByRecursion, list_all}
use Rattle.std.proofs.lemmas.Bool.{and_parts}
use Rattle.std.proofs.lemmas.List.{length-map, take_all}
use Rattle.std.proofs.lemmas.List.Folds.{list_all-map}
use Rattle.image_words.specs.declared.words.ImageArg.{ImageArg}
use Rattle.image_words.specs.declared.words.WordsFault.{WordsFault}
use Rattle.image_words.specs.declared.verbs.Verb.{Verb}
use Rattle.image_words.specs.Words.{ImageWord, IsImageWord, is_name_byte, is_apart_from, are_distinct, spelled}
use Rattle.image_words.specs.Args.{Asks, word_of, words_of}
use Rattle.image_words.proofs.Asked.{asked_images}
use Rattle.image_words.proofs.Names.{bytes_of_name, not_equals, same_word}

-- one image is apart from those behind it as the words are
pub distinct-cons : (image : ImageArg) (others : List ImageArg)
    → are_distinct (words_of (image ∷ others)) ≡ (list_all (λ (o : ImageArg). is_apart_from (word_of image) (word_of o)) others && are_distinct (words_of others))
distinct-cons image others = ap (λ (b : Bool). b && are_distinct (words_of others)) (list_all-map (is_apart_from (word_of image)) word_of others)

-- the first `=` splits
split_same : (xs ys us vs : List ℕ) → list_all is_name_byte xs ≡ true → list_all is_name_byte us ≡ true → xs ++ 0x3d ∷ ys ≡ us ++ 0x3d ∷ vs → (xs ≡ us) × (ys ≡ vs)
split_same [] ys [] vs names others same = (refl, (cc))
split_same [] ys (u ∷ us) vs names others same = absurd (not_equals u (and_parts _ _ others).0 (cc))
split_same (x ∷ xs) ys [] vs names others same = absurd (not_equals x (and_parts _ _ names).0 (cc))
split_same (x ∷ xs) ys (u ∷ us) vs names others same =
    let rest = split_same xs ys us vs (and_parts (is_name_byte x) _ names).1 (and_parts (is_name_byte u) _ others).1 (cc) in
    let first : x ≡ u = cc in
    let named : xs ≡ us = rest.0 in
    (cc, rest.1)

spelled_same : (v w : ImageWord) → IsImageWord v → IsImageWord w → spelled v ≡ spelled w → v ≡ w
spelled_same v w one other same =
    let parts = split_same v.name v.file w.name w.file (bytes_of_name v.name one.named) (bytes_of_name w.name other.named) same in
    same_word v.name v.file w parts.0 parts.1

pub words_same : (vs ws : List ImageWord) → AllByRecursion IsImageWord vs → AllByRecursion IsImageWord ws → map spelled vs ≡ map spelled ws → vs ≡ ws
words_same [] [] each others same = refl
words_same [] (w ∷ ws) each others same = absurd (cc)
words_same (v ∷ vs) [] each others same = absurd (cc)
words_same (v ∷ vs) (w ∷ ws) each others same =
    let first : v ≡ w = spelled_same v w each.0 others.0 (cc) in
    let rest : vs ≡ ws = words_same vs ws each.1 others.1 (cc) in
    cc

-- each word of the list spells an image
pub word_at : (ws : List ImageWord) (k : ℕ) (d : List ℕ) → AllByRecursion IsImageWord ws → k < length (map spelled ws) → (w : ImageWord) × IsImageWord w × (get_or (map spelled ws) k d ≡ spelled w)
word_at [] k d each below = absurd (omega arith)
word_at (w ∷ ws) zero d each below = (w, each.0, refl)
word_at (w ∷ ws) (suc k) d each below = word_at ws k d each.1 (omega arith)

pub first_apart : (all : List ImageArg) (image : ImageArg) (others : List ImageArg) (b : Bool) → all ≡ image ∷ others
    → b ≡ list_all (λ (o : ImageArg). is_apart_from (word_of image) (word_of o)) others
    → are_distinct (words_of all) ≡ (b && are_distinct (words_of (drop 1 all)))
first_apart all image others b split is = rw (split, distinct-cons image others, ← is) refl

-- the images from a place on are apart as those behind it, where the first of them is apart from these
pub apart_from : (all : List ImageArg) (i : ℕ) (b : Bool)
    → are_distinct (words_of (take (length all - i) (drop i all))) ≡ (b && are_distinct (words_of (drop 1 (take (length all - i) (drop i all)))))
    → are_distinct (words_of (drop i all)) ≡ (b && are_distinct (words_of (drop (i + 1) all)))
apart_from all i b is =
    let fits : length (drop i all) ≤ length all - i = omega (arith, length-drop i all) in
    let same : take (length all - i) (drop i all) ≡ drop i all = take_all (length all - i) (drop i all) fits in
    let tested : are_distinct (words_of (drop i all)) ≡ (b && are_distinct (words_of (drop 1 (drop i all)))) =
    subst (λ (l : List ImageArg). are_distinct (words_of l) ≡ (b && are_distinct (words_of (drop 1 l)))) same is in
    tested ∙ ap (λ (l : List ImageArg). b && are_distinct (words_of l)) (drop-drop 1 i all)

-- where the words behind what a command does name images, they are those of each reading
pub one_reading : (words rest : List (List ℕ)) (verb : Verb) (vs : List ImageArg) (v : Verb) (ws : List ImageWord)
    → ((v : Verb) (ws : List ImageWord) → Asks words v ws → (verb ≡ v) × (rest ≡ map spelled ws))
    → rest ≡ map spelled (words_of vs) → AllByRecursion IsImageWord (words_of vs) → Asks words v ws → (verb ≡ v) × (words_of vs ≡ ws)
one_reading words rest verb vs v ws only found each asks =
    let read = only v ws asks in
    (read.0, words_same (words_of vs) ws each (asked_images words v ws asks).each (sym found ∙ read.1))

-- an error that is passed on is the one that was met
pub same_fault : {X : Type 0} (r : Result X WordsFault) (met fault : WordsFault) → IsErrAnd r (λ e. e ≡ met) → r ≡ Err fault → met ≡ fault
same_fault {X} r met fault told is = sym (subst (λ (s : Result X WordsFault). IsErrAnd s (λ e. e ≡ met)) is told)

pub length-words : (vs : List ImageArg) → length (words_of vs) ≡ length vs
length-words vs = length-map vs word_of
