-- The first words tell what a command does in one way.
use Rattle.std.proofs.Common.{Option, Some, None, IfSome, ◌≡◌, ◌&&◌, inl, inr, ℕ, List, [], ◌∷◌, ◌++◌, Bool, true, false, length, map, refl, sym, ◌∙◌, ap, subst, arith}
use Rattle.std.specs.Prelude.{not, ◌==◌, nat_le}
use Rattle.std.specs.List.{AllByRecursion, list_all}
use Rattle.std.proofs.lemmas.Bool.{false≢true, and_parts}
use Rattle.std.proofs.lemmas.Bool.Decides.{nat_tests}
use Rattle.image_words.specs.declared.verbs.Verb.{Verb}
use Rattle.image_words.specs.declared.verbs.Verb.TheVariants.{Assemble, Create, Examine, Incremental, Replay}
use Rattle.image_words.specs.Words.{AreImages, HasJournal, ImageWord, IsImageWord, IsLimit, Names, are_distinct, assemble_word, create_word, examine_word, incremental_word, journal_word, replay_word, run_option, run_word, spelled}
use Rattle.new_container.specs.Fits.{container_fits, is_in_range, second_fits, volume_fits}
use Rattle.new_container.specs.declared.container.NewContainer.{NewContainer}
use Rattle.new_container.specs.declared.volume.NewVolume.{NewVolume}
use Rattle.image_words.specs.Args.{AreInRange, Asks, Begins, Makes, fits}

-- a word that names an image has a `=`
abbrev pub is_other : ℕ → Bool
is_other c = not (c == 0x3d)

has_equals : (xs ys : List ℕ) → list_all is_other (xs ++ 0x3d ∷ ys) ≡ true → ⊥
has_equals [] ys all = false≢true all
has_equals (x ∷ xs) ys all = has_equals xs ys (and_parts (is_other x) _ all).1

-- so no image is named by a word without one
pub no_image_word : (images : List ImageWord) (word : List ℕ) (rest : List (List ℕ)) → list_all is_other word ≡ true → map spelled images ≡ word ∷ rest → ⊥
no_image_word [] word rest other same = absurd (cc)
no_image_word (w ∷ ws) word rest other same =
    let first : spelled w ≡ word = cc in
    has_equals w.name w.file (subst (λ (l : List ℕ). list_all is_other l ≡ true) (sym first) other)

pub no_image : (images : List ImageWord) (rest : List (List ℕ)) → map spelled images ≡ journal_word ∷ rest → ⊥
no_image images rest same = no_image_word images journal_word rest refl same

pub first_same : (word other : List ℕ) (xs ys : List (List ℕ)) → word ∷ xs ≡ other ∷ ys → word ≡ other
first_same word other xs ys same = cc

pub rest_same : (word other : List ℕ) (xs ys : List (List ℕ)) → word ∷ xs ≡ other ∷ ys → xs ≡ ys
rest_same word other xs ys same = cc

-- the words behind `--journal` are the limit's and the images'
pub journal_rest : (words given option : List (List ℕ)) (limit : ℕ) (images : List ImageWord) → words ≡ journal_word ∷ given → HasJournal limit option → words ≡ option ++ map spelled images
    → (word : List ℕ) × IsLimit limit word × (given ≡ word ∷ map spelled images)
journal_rest words given option limit images split (inl none) same =
    absurd (no_image images given (ap (λ (o : List (List ℕ)). o ++ map spelled images) (sym none.0) ∙ sym same ∙ split))
journal_rest words given option limit images split (inr some) same =
    let whole : journal_word ∷ given ≡ journal_word ∷ some.0 ∷ map spelled images =
    sym split ∙ same ∙ ap (λ (o : List (List ℕ)). o ++ map spelled images) some.1 in
    (some.0, some.2, rest_same journal_word journal_word given (some.0 ∷ map spelled images) whole)

head : List ℕ → ℕ
head [] = 0
head (c ∷ cs) = c

-- words begin with one word
other_first : {A : Type 0} (words : List (List ℕ)) (word other : List ℕ) (xs ys : List (List ℕ)) → (head word == head other) ≡ false → words ≡ word ∷ xs → words ≡ other ∷ ys → A
other_first {A} words word other xs ys apart one is =
    let same : word ≡ other = first_same word other xs ys (sym one ∙ is) in
    let equal : (head other == head other) ≡ false = subst (λ (w : List ℕ). (head w == head other) ≡ false) same apart in
    absurd (grind (arith, nat_tests, equal))

-- what is asked for by words that begin with `assemble`
pub assemble_asked : (words given : List (List ℕ)) (verb : Verb) (images : List ImageWord) → words ≡ assemble_word ∷ given → Asks words verb images
    → (run : Bool) × (verb ≡ Assemble run) × (given ≡ run_option run ++ map spelled images)
unfolding head
assemble_asked words given (Assemble run) images split is = (run, refl, rest_same assemble_word assemble_word given (run_option run ++ map spelled images) (sym split ∙ is.words_are))
assemble_asked words given (Incremental run) images split is = other_first words assemble_word incremental_word given _ refl split is.words_are
assemble_asked words given (Replay limit) images split is = other_first words assemble_word replay_word given _ refl split is.words_are
assemble_asked words given Examine images split is = other_first words assemble_word examine_word given _ refl split is.words_are
assemble_asked words given (Create made) images split is = other_first words assemble_word create_word given _ refl split is.words_are

-- by words that begin with `incremental`
pub incremental_asked : (words given : List (List ℕ)) (verb : Verb) (images : List ImageWord) → words ≡ incremental_word ∷ given → Asks words verb images
    → (run : Bool) × (verb ≡ Incremental run) × (given ≡ run_option run ++ map spelled images)
unfolding head
incremental_asked words given (Assemble run) images split is = other_first words incremental_word assemble_word given _ refl split is.words_are
incremental_asked words given (Incremental run) images split is = (run, refl, rest_same incremental_word incremental_word given (run_option run ++ map spelled images) (sym split ∙ is.words_are))
incremental_asked words given (Replay limit) images split is = other_first words incremental_word replay_word given _ refl split is.words_are
incremental_asked words given Examine images split is = other_first words incremental_word examine_word given _ refl split is.words_are
incremental_asked words given (Create made) images split is = other_first words incremental_word create_word given _ refl split is.words_are

-- by words that begin with `examine`
pub examine_asked : (words given : List (List ℕ)) (verb : Verb) (images : List ImageWord) → words ≡ examine_word ∷ given → Asks words verb images
    → (verb ≡ Examine) × (given ≡ map spelled images)
unfolding head
examine_asked words given (Assemble run) images split is = other_first words examine_word assemble_word given _ refl split is.words_are
examine_asked words given (Incremental run) images split is = other_first words examine_word incremental_word given _ refl split is.words_are
examine_asked words given (Replay limit) images split is = other_first words examine_word replay_word given _ refl split is.words_are
examine_asked words given Examine images split is = (refl, rest_same examine_word examine_word given (map spelled images) (sym split ∙ is.words_are))
examine_asked words given (Create made) images split is = other_first words examine_word create_word given _ refl split is.words_are

-- by words that begin with `replay`: those behind are the option's and the images'
pub replay_asked : (words given : List (List ℕ)) (verb : Verb) (images : List ImageWord) → words ≡ replay_word ∷ given → Asks words verb images
    → (limit : ℕ) × (option : List (List ℕ)) × (verb ≡ Replay limit) × HasJournal limit option × AreImages images × (given ≡ option ++ map spelled images)
unfolding head
replay_asked words given (Assemble run) images split is = other_first words replay_word assemble_word given _ refl split is.words_are
replay_asked words given (Incremental run) images split is = other_first words replay_word incremental_word given _ refl split is.words_are
replay_asked words given (Replay limit) images split is =
    (limit, is.option, refl, is.given, is.named, rest_same replay_word replay_word given (is.option ++ map spelled images) (sym split ∙ is.words_are))
replay_asked words given Examine images split is = other_first words replay_word examine_word given _ refl split is.words_are
replay_asked words given (Create made) images split is = other_first words replay_word create_word given _ refl split is.words_are

-- the numbers of the volumes that are made are in their ranges
volume_in_range : (v : NewVolume) (count : ℕ) → volume_fits v count ≡ true → is_in_range v ≡ true
volume_in_range v count fit = (and_parts (is_in_range v) _ fit).0

second_in_range : (second : Option NewVolume) (count : ℕ) → second_fits second count ≡ true → IfSome second (λ v. is_in_range v ≡ true)
second_in_range None count fit = tt
second_in_range (Some v) count fit = volume_in_range v count fit

in_range : (made : NewContainer) (count : ℕ) → container_fits made count ≡ true → AreInRange made
in_range made count fit =
    (volume_in_range made.first count (and_parts (volume_fits made.first count) _ fit).0, second_in_range made.second count (and_parts (volume_fits made.first count) _ fit).1)

-- by words that begin with `create`: those behind are the container's and the images'
pub create_asked : (words given : List (List ℕ)) (verb : Verb) (images : List ImageWord) → words ≡ create_word ∷ given → Asks words verb images
    → (made : NewContainer) × (verb ≡ Create made) × AreInRange made × Makes given made (map spelled images)
unfolding head
create_asked words given (Assemble run) images split is = other_first words create_word assemble_word given _ refl split is.words_are
create_asked words given (Incremental run) images split is = other_first words create_word incremental_word given _ refl split is.words_are
create_asked words given (Replay limit) images split is = other_first words create_word replay_word given _ refl split is.words_are
create_asked words given Examine images split is = other_first words create_word examine_word given _ refl split is.words_are
create_asked words given (Create made) images split is =
    (made, refl, in_range made (length images) is.fitting, (is.option, is.given, rest_same create_word create_word given _ (sym split ∙ is.words_are)))

-- words that begin with none of the commands ask for nothing
pub nothing_asked : (words : List (List ℕ)) (verb : Verb) (images : List ImageWord)
    → ((rest : List (List ℕ)) → words ≡ assemble_word ∷ rest → ⊥) → ((rest : List (List ℕ)) → words ≡ incremental_word ∷ rest → ⊥) → ((rest : List (List ℕ)) → words ≡ examine_word ∷ rest → ⊥)
    → ((rest : List (List ℕ)) → words ≡ create_word ∷ rest → ⊥) → ((rest : List (List ℕ)) → words ≡ replay_word ∷ rest → ⊥) → Asks words verb images → ⊥
nothing_asked words (Assemble run) images a i e c r is = a _ is.words_are
nothing_asked words (Incremental run) images a i e c r is = i _ is.words_are
nothing_asked words (Replay limit) images a i e c r is = r _ is.words_are
nothing_asked words Examine images a i e c r is = e _ is.words_are
nothing_asked words (Create made) images a i e c r is = c _ is.words_are

-- whether `--run` is given is told by the words behind the first
pub run_given : (words given : List (List ℕ)) (run : Bool) (images : List ImageWord) → words ≡ run_word ∷ given → words ≡ run_option run ++ map spelled images → (true ≡ run) × (given ≡ map spelled images)
run_given words given false images split same = absurd (no_image_word images run_word given refl (sym same ∙ split))
run_given words given true images split same = (refl, rest_same run_word run_word given (map spelled images) (sym split ∙ same))

pub run_not_given : (words : List (List ℕ)) (run : Bool) (images : List ImageWord) → ((rest : List (List ℕ)) → words ≡ run_word ∷ rest → ⊥) → words ≡ run_option run ++ map spelled images
    → (false ≡ run) × (words ≡ map spelled images)
run_not_given words false images none same = (refl, same)
run_not_given words true images none same = absurd (none (map spelled images) same)

-- what is asked for is one thing
pub names_asked : (words : List (List ℕ)) (images : List ImageWord) → Names words images → (verb : Verb) × Asks words verb images
names_asked words images (inl is) = (Assemble is.0, is.1)
names_asked words images (inr (inl is)) = (Incremental is.0, is.1)
names_asked words images (inr (inr (inl is))) = (Replay is.0, is.1)
names_asked words images (inr (inr (inr (inl is)))) = (Examine, is)
names_asked words images (inr (inr (inr (inr is)))) = (Create is.0, is.1)

pub asked_images : (words : List (List ℕ)) (verb : Verb) (images : List ImageWord) → Asks words verb images → AreImages images
asked_images words (Assemble run) images is = is.named
asked_images words (Incremental run) images is = is.named
asked_images words (Replay limit) images is = is.named
asked_images words Examine images is = is.named
asked_images words (Create made) images is = is.named

-- the images of a command fit it
pub asked_fits : (words : List (List ℕ)) (verb : Verb) (images : List ImageWord) → Asks words verb images → fits verb (length images) ≡ true
asked_fits words (Assemble run) images is = refl
asked_fits words (Incremental run) images is = refl
asked_fits words (Replay limit) images is = refl
asked_fits words Examine images is = grind (arith, nat_tests, is.alone)
asked_fits words (Create made) images is = is.fitting

-- the images of a command are some, are apart and fit it
pub asked_taken : (words : List (List ℕ)) (verb : Verb) (images : List ImageWord) → Asks words verb images
    → ((nat_le 1 (length images) && are_distinct images) && fits verb (length images)) ≡ true
asked_taken words verb images is =
    let named = asked_images words verb images is in
    let some : nat_le 1 (length images) ≡ true = grind (arith, nat_tests, named.one) in
    rw (some, named.distinct) (asked_fits words verb images is)

-- the first words and images that fit are the command
pub asks : (words : List (List ℕ)) (verb : Verb) (images : List ImageWord) → Begins words verb (map spelled images) → AreImages images → fits verb (length images) ≡ true
    → Asks words verb images
asks words (Assemble run) images begins named fit = record { words_are = begins; named = named }
asks words (Incremental run) images begins named fit = record { words_are = begins; named = named }
asks words (Replay limit) images begins named fit = record { option = begins.0; given = begins.1; words_are = begins.2; named = named }
asks words Examine images begins named fit = record { words_are = begins; named = named; alone = grind (arith, nat_tests, fit) }
asks words (Create made) images begins named fit =
    record { option = begins.2.0; given = begins.2.1; words_are = begins.1 ∙ ap (λ (l : List (List ℕ)). create_word ∷ l) begins.2.2; named = named; fitting = fit }

-- the first words and images that are taken are the command
pub taken_asks : (words rest : List (List ℕ)) (verb : Verb) (images : List ImageWord) → Begins words verb rest → rest ≡ map spelled images → AllByRecursion IsImageWord images
    → ((nat_le 1 (length images) && are_distinct images) && fits verb (length images)) ≡ true → Asks words verb images
taken_asks words rest verb images begins found each taken =
    let apart : (nat_le 1 (length images) && are_distinct images) ≡ true = (and_parts (nat_le 1 (length images) && are_distinct images) (fits verb (length images)) taken).0 in
    let some : nat_le 1 (length images) ≡ true = (and_parts (nat_le 1 (length images)) (are_distinct images) apart).0 in
    let named : AreImages images =
    record { one = grind (arith, nat_tests, some); each = each; distinct = (and_parts (nat_le 1 (length images)) (are_distinct images) apart).1 } in
    asks words verb images (subst (λ (l : List (List ℕ)). Begins words verb l) found begins) named
    (and_parts (nat_le 1 (length images) && are_distinct images) (fits verb (length images)) taken).1
