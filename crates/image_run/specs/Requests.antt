-- What the words of a command ask for. Source: this project's own.
use Rattle.std.specs.Prelude.{ℕ, ◌≤◌, Bool, List, length}
use Rattle.units.specs.declared.bounds.TheConstants.{MAX_DISKS}
use Rattle.new_container.specs.declared.container.NewContainer.{NewContainer}
use Rattle.image_words.specs.declared.verbs.Verb.{Verb}
use Rattle.image_words.specs.declared.verbs.Verb.TheVariants as verbs
use Rattle.image_words.specs.Words.{ImageWord, IsAssemble, IsCommand, IsCreate, IsExamine, IsIncremental, IsPastLimit, IsReplay}

-- nothing, as the words aren't in the grammar; nothing, as they name more images than are opened; or one of the
-- commands
pub data Request : Type 0 where
  NotWords : Request
  TooManyImages : Request
  Assemble : (run : Bool) → (images : List ImageWord) → Request
  Incremental : (run : Bool) → (images : List ImageWord) → Request
  Examine : (images : List ImageWord) → Request
  Create : (made : NewContainer) → (images : List ImageWord) → Request
  Replay : (limit : ℕ) → (images : List ImageWord) → Request

abbrev pub IsAsked : List (List ℕ) → Request → Type 0
IsAsked words NotWords = IsCommand words → ⊥
IsAsked words TooManyImages = IsPastLimit words
IsAsked words (Assemble run images) = IsAssemble words run images × (length images ≤ MAX_DISKS)
IsAsked words (Incremental run images) = IsIncremental words run images × (length images ≤ MAX_DISKS)
IsAsked words (Examine images) = IsExamine words images
IsAsked words (Create made images) = IsCreate words made images
IsAsked words (Replay limit images) = IsReplay words limit images × (length images ≤ MAX_DISKS)

-- what a command of the code asks for
abbrev pub request_of : Verb → List ImageWord → Request
request_of (verbs.Assemble run) images = Assemble run images
request_of (verbs.Incremental run) images = Incremental run images
request_of verbs.Examine images = Examine images
request_of (verbs.Create made) images = Create made images
request_of (verbs.Replay limit) images = Replay limit images
