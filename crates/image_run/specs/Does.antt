-- What each request does: what it finds and leaves outside, its lines, and its status. Source: this project's own.
use Rattle.std.specs.Prelude.{◌≡◌, ℕ, ◌⊎◌, List}
use Rattle.array_model.specs.Kept.{ScriptState}
use Rattle.image_outside.specs.declared.status.TheConstants.Status.{LIMIT, WORDS}
use Rattle.image_outside.specs.Told.{BankTold, ShelfTold}
use Rattle.image_outside.specs.Shelves.{IsUncalled}
use Rattle.image_outside.specs.Endings.{Prints}
use Rattle.image_words.specs.Words.{ImageWord}
use Rattle.image_assemble.specs.Endings.{Assembles}
use Rattle.image_incremental.specs.Endings.{Arrives}
use Rattle.image_examine.specs.Endings.{Examines}
use Rattle.image_create.specs.Creates.{CreatesBy}
use Rattle.image_replay.specs.Replays.{ReplaysBy}
use Rattle.image_run.specs.declared.script.ScriptStop.{ScriptStop}
use Rattle.image_run.specs.Lines.{images_limit_line, words_line}
use Rattle.image_run.specs.Openings.{OpensAll, OpensNot}
use Rattle.image_run.specs.Outside.{Outside}
use Rattle.image_run.specs.Requests.{Request, NotWords, TooManyImages, Assemble, Incremental, Examine, Create, Replay}
use Rattle.image_run.specs.Scripts.{IsStopped, StopsBy, TakesScript, stop_line, stop_status}

-- nothing was opened, and nothing read from the source
pub record IsUntouched (before after : Outside) : Type 0 where
  pub shelf : after.shelf ≡ before.shelf
  pub source : after.source ≡ before.source

-- an image couldn't be opened, or all were, and on their bank this was done
abbrev pub OnImages : List ImageWord → (before after : ShelfTold) → (BankTold → List ℕ → ℕ → Type 0)
    → List ℕ → ℕ → Type 0
OnImages images before after Does lines status =
    OpensNot images before after lines status ⊎ OpensAll images before after (λ bank. Does bank lines status)

-- the source has nothing to say to it
abbrev pub WithoutSource : (before after : Outside) → Type 0 → Type 0
WithoutSource before after P = (after.source ≡ before.source) × P

-- The images were opened, and the source has no script: the line says why, and no call on a disk was made.
pub record Stops (images : List ImageWord) (before after : Outside) (lines : List ℕ) (status : ℕ) : Type 0 where
  pub opened : OpensAll images before.shelf after.shelf IsUncalled
  pub stop : ScriptStop
  pub cause : StopsBy before.source after.source stop
  pub stopped : IsStopped status
  pub prints : Prints (stop_line stop) (stop_status stop) lines status

-- the images were opened, the script that the source had was read to its end, and replayed on them
pub record Replays (limit : ℕ) (images : List ImageWord) (before after : Outside) (lines : List ℕ)
    (status : ℕ) : Type 0 where
  pub script : ScriptState
  pub taken : TakesScript before.source after.source script
  pub opened : OpensAll images before.shelf after.shelf (λ bank. ReplaysBy script limit bank lines status)

-- an image couldn't be opened, before anything was read from the source; or they were, and there is a script or none
abbrev pub ReplayEnds : ℕ → List ImageWord → (before after : Outside) → (lines : List ℕ) → (status : ℕ) → Type 0
ReplayEnds limit images before after lines status =
    WithoutSource before after (OpensNot images before.shelf after.shelf lines status)
    ⊎ Stops images before after lines status
    ⊎ Replays limit images before after lines status

abbrev pub Does : Request → (before after : Outside) → (lines : List ℕ) → (status : ℕ) → Type 0
Does NotWords before after lines status = IsUntouched before after × Prints words_line WORDS.0 lines status
Does TooManyImages before after lines status = IsUntouched before after × Prints images_limit_line LIMIT.0 lines status
Does (Assemble run images) before after lines status =
    WithoutSource before after (OnImages images before.shelf after.shelf (Assembles run) lines status)
Does (Incremental run images) before after lines status =
    WithoutSource before after (OnImages images before.shelf after.shelf (Arrives run) lines status)
Does (Examine images) before after lines status =
    WithoutSource before after (OnImages images before.shelf after.shelf Examines lines status)
Does (Create made images) before after lines status =
    WithoutSource before after (OnImages images before.shelf after.shelf (CreatesBy made) lines status)
Does (Replay limit images) before after lines status = ReplayEnds limit images before after lines status
