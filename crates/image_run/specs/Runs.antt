-- The promise of the command: what it does with its words, and what is written of its lines. Source: this project's
-- own.
use Rattle.std.specs.Prelude.{◌≡◌, ℕ, ◌⊎◌, List}
use Rattle.image_outside.specs.declared.status.TheConstants.Status.{MEMORY}
use Rattle.image_outside.specs.Endings.{Ends, EndsWithoutMemory}
use Rattle.image_outside.specs.Told.{BankTold, ShelfTold}
use Rattle.image_words.specs.Words.{ImageWord}
use Rattle.image_assemble.specs.Endings.{HasLookedFirst}
use Rattle.image_verdict.specs.Images.{HasReadFirst}
use Rattle.image_examine.specs.Endings.{HasLookedOrNot}
use Rattle.image_run.specs.Does.{Does, IsUntouched, WithoutSource}
use Rattle.image_run.specs.Openings.{OpensAll, OpensFront}
use Rattle.image_run.specs.Outside.{Outside}
use Rattle.image_run.specs.Requests.{Request, NotWords, TooManyImages, Assemble, Incremental, Examine, Create, Replay, IsAsked}
use Rattle.image_run.specs.Scripts.{TakesSome}

-- some first images were opened and no call was made, or all were, and of their bank this holds
abbrev pub OnFront : List ImageWord → (before after : ShelfTold) → (BankTold → Type 0) → Type 0
OnFront images before after P = OpensFront images before after ⊎ OpensAll images before after P

-- Memory ran out in a replay: before anything was read from the source, or once all images were open.
abbrev pub LeavesReplay : List ImageWord → (before after : Outside) → Type 0
LeavesReplay images before after =
    WithoutSource before after (OpensFront images before.shelf after.shelf)
    ⊎ (TakesSome before.source after.source × OpensAll images before.shelf after.shelf HasReadFirst)

-- What a request leaves of the outside where memory ran out: images were opened as they would be, and no call was made
-- but those that come first, of which none writes or syncs a disk.
abbrev pub Leaves : Request → (before after : Outside) → Type 0
Leaves NotWords before after = IsUntouched before after
Leaves TooManyImages before after = IsUntouched before after
Leaves (Assemble run images) before after =
    WithoutSource before after (OnFront images before.shelf after.shelf HasLookedFirst)
Leaves (Incremental run images) before after =
    WithoutSource before after (OnFront images before.shelf after.shelf HasLookedFirst)
Leaves (Examine images) before after =
    WithoutSource before after (OnFront images before.shelf after.shelf HasLookedOrNot)
Leaves (Create made images) before after = WithoutSource before after (OpensFront images before.shelf after.shelf)
Leaves (Replay limit images) before after = LeavesReplay images before after

-- It does what was asked for, and all its lines are written; a write fails, with status 6, and a front of them is
-- written; or memory runs out before a disk is written, with status 9, and `memory` is written or a front of it.
abbrev pub Carries : Request → (before after : Outside) → (status : ℕ) → Type 0
Carries request before after status =
    Ends before.sink after.sink (Does request before after) status
    ⊎ ((status ≡ MEMORY.0) × EndsWithoutMemory before.sink after.sink × Leaves request before after)

-- whatever the words ask for is carried out
abbrev pub Runs : (words : List (List ℕ)) → (before after : Outside) → (status : ℕ) → Type 0
Runs words before after status = (request : Request) → IsAsked words request → Carries request before after status
