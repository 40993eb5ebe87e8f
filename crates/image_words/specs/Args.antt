-- Commands as the code holds them. Source: this project's own.
use Rattle.std.specs.Prelude.{◌≡◌, ℕ, ◌==◌, Bool, true, List, ◌∷◌, ◌++◌, map, IfSome}
use Rattle.image_words.specs.declared.words.ImageArg.{ImageArg}
use Rattle.image_words.specs.declared.verbs.Verb.{Verb}
use Rattle.image_words.specs.declared.verbs.Verb.TheVariants.{Assemble, Create, Examine, Incremental, Replay}
use Rattle.image_words.specs.Words.{HasFamily, HasJournal, ImageWord, IsAssemble, IsCreate, IsExamine, IsIncremental, IsReplay, assemble_word, create_word, examine_word, incremental_word, replay_word, run_option, second_words, volume_words}
use Rattle.new_container.specs.declared.container.NewContainer.{NewContainer}
use Rattle.new_container.specs.Fits.{container_fits, is_in_range}

-- an image word
abbrev pub word_of : ImageArg → ImageWord
word_of image = record { name = image.name.now; file = image.file.now }

abbrev pub words_of : List ImageArg → List ImageWord
words_of images = map word_of images

-- the words are the command that does this with these images
abbrev pub Asks : List (List ℕ) → Verb → List ImageWord → Type 0
Asks words (Assemble run) images = IsAssemble words run images
Asks words (Incremental run) images = IsIncremental words run images
Asks words (Replay limit) images = IsReplay words limit images
Asks words Examine images = IsExamine words images
Asks words (Create made) images = IsCreate words made images

-- the words of the container that is made, and behind them the rest
abbrev pub Makes : List (List ℕ) → NewContainer → List (List ℕ) → Type 0
Makes words made rest =
    (option : List (List ℕ)) × HasFamily made.family option
    × (words ≡ option ++ (volume_words made.first ++ (second_words made.second ++ rest)))

-- the words of what a command does, and behind them the rest
abbrev pub Begins : List (List ℕ) → Verb → List (List ℕ) → Type 0
Begins words (Assemble run) rest = words ≡ assemble_word ∷ (run_option run ++ rest)
Begins words (Incremental run) rest = words ≡ incremental_word ∷ (run_option run ++ rest)
Begins words (Replay limit) rest =
    (option : List (List ℕ)) × HasJournal limit option × (words ≡ replay_word ∷ (option ++ rest))
Begins words Examine rest = words ≡ examine_word ∷ rest
Begins words (Create made) rest = (given : List (List ℕ)) × (words ≡ create_word ∷ given) × Makes given made rest

-- so many images fit what a command does with them
abbrev pub fits : Verb → ℕ → Bool
fits (Assemble run) count = true
fits (Incremental run) count = true
fits (Replay limit) count = true
fits Examine count = count == 1
fits (Create made) count = container_fits made count

-- the volumes that are made are in their ranges
abbrev pub AreInRange : NewContainer → Type 0
AreInRange made = (is_in_range made.first ≡ true) × IfSome made.second (λ v. is_in_range v ≡ true)
