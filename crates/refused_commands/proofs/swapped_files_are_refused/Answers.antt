use Rattle.std.proofs.Common.{◌≡◌, ◌≢◌, ℕ, List, [], ◌∷◌, ◌++◌, sym, subst, ◌∙◌, inl, inr}
use Rattle.std.proofs.lemmas.List.{append_cancel_left}
use Rattle.image_outside.specs.Told.{BankTold, ShelfTold}
use Rattle.image_words.specs.Words.{ImageWord}
use Rattle.image_assemble.specs.Endings.{Assembles}
use Rattle.image_incremental.specs.Endings.{Arrives}
use Rattle.image_examine.specs.Endings.{Examines}
use Rattle.image_create.specs.Creates.{CreatesBy}
use Rattle.image_replay.specs.Replays.{ReplaysBy}
use Rattle.image_outside.specs.Shelves.{IsUncalled}
use Rattle.image_run.specs.Does.{OnImages}
use Rattle.image_run.specs.Openings.{OpensAll, OpensNot, paths_named}
use Rattle.image_run.specs.Requests.{NotWords, TooManyImages, Assemble, Incremental, Examine, Create, Replay}
use Rattle.refused_commands.proofs.Pairs.{opens_pair}
use Rattle.refused_commands.proofs.swapped_files_are_refused.Goals as goal
use Rattle.image_words.proofs.Asked.{first_same}

-- images of which two paths were opened are two at least
cannot_stop : (front : List ImageWord) (image : ImageWord) (rest : List ImageWord) (a b : ImageWord) (x y : List ℕ)
    → x ∷ y ∷ [] ≡ paths_named front → a ∷ b ∷ [] ≡ front ++ image ∷ rest → ⊥
cannot_stop [] image rest a b x y paths are = cc paths
cannot_stop (p ∷ []) image rest a b x y paths are = cc paths
cannot_stop (p ∷ q ∷ []) image rest a b x y paths are = cc are
cannot_stop (p ∷ q ∷ r ∷ front) image rest a b x y paths are = cc are

module _ (a b : ImageWord) (apart : a.file ≢ b.file) (before after : ShelfTold) (swapped : after.paths ≡ before.paths ++ b.file ∷ a.file ∷ []) where
  opened_paths : (images : List ImageWord) (P : BankTold → Type 0) → OpensAll images before after P → b.file ∷ a.file ∷ [] ≡ paths_named images
  opened_paths images P opens = append_cancel_left before.paths (b.file ∷ a.file ∷ []) (paths_named images) (sym swapped ∙ opens.paths)

  not_all : (images : List ImageWord) → images ≡ a ∷ b ∷ [] → (P : BankTold → Type 0) → OpensAll images before after P → ⊥
  not_all images is P opens =
      let same : b.file ∷ a.file ∷ [] ≡ a.file ∷ b.file ∷ [] = subst (λ l. b.file ∷ a.file ∷ [] ≡ paths_named l) is (opened_paths images P opens) in
      apart (sym (first_same b.file a.file (a.file ∷ []) (b.file ∷ []) same))

  not_stopped : (images : List ImageWord) → images ≡ a ∷ b ∷ [] → (lines : List ℕ) (status : ℕ) → OpensNot images before after lines status → ⊥
  not_stopped images is lines status fails =
      cannot_stop fails.front fails.image fails.rest a b b.file a.file (opened_paths fails.front IsUncalled fails.opened) (sym is ∙ fails.are)

  not_on : (images : List ImageWord) → images ≡ a ∷ b ∷ [] → (Done : BankTold → List ℕ → ℕ → Type 0) (lines : List ℕ) (status : ℕ)
      → OnImages images before after Done lines status → ⊥
  not_on images is Done lines status (inl fails) = not_stopped images is lines status fails
  not_on images is Done lines status (inr opens) = not_all images is (λ bank. Done bank lines status) opens

pub returns-clause-swapped : goal.returns-clause-swapped
returns-clause-swapped c NotWords a b before after lines status is apart swapped done = cc is
returns-clause-swapped c TooManyImages a b before after lines status is apart swapped done = cc is
returns-clause-swapped c (Assemble run images) a b before after lines status is apart swapped done =
    not_on a b apart before.shelf after.shelf swapped images is (Assembles run) lines status done.1
returns-clause-swapped c (Incremental run images) a b before after lines status is apart swapped done =
    not_on a b apart before.shelf after.shelf swapped images is (Arrives run) lines status done.1
returns-clause-swapped c (Examine images) a b before after lines status is apart swapped done =
    not_on a b apart before.shelf after.shelf swapped images is Examines lines status done.1
returns-clause-swapped c (Create made images) a b before after lines status is apart swapped done =
    not_on a b apart before.shelf after.shelf swapped images is (CreatesBy made) lines status done.1
returns-clause-swapped c (Replay limit images) a b before after lines status is apart swapped (inl fails) =
    not_stopped a b apart before.shelf after.shelf swapped images is lines status fails.1
returns-clause-swapped c (Replay limit images) a b before after lines status is apart swapped (inr (inl stops)) =
    not_all a b apart before.shelf after.shelf swapped images is IsUncalled stops.opened
returns-clause-swapped c (Replay limit images) a b before after lines status is apart swapped (inr (inr done)) =
    not_all a b apart before.shelf after.shelf swapped images is (λ bank. ReplaysBy done.script limit bank lines status) done.opened

pub returns-clause-assembled : goal.returns-clause-assembled
returns-clause-assembled c run a b before after bank lines status holds same assembles =
    (same, inr (opens_pair a b before.shelf after.shelf bank (λ bank. Assembles run bank lines status) holds assembles))

pub returns-clause-arrived : goal.returns-clause-arrived
returns-clause-arrived c run a b before after bank lines status holds same arrives =
    (same, inr (opens_pair a b before.shelf after.shelf bank (λ bank. Arrives run bank lines status) holds arrives))

pub returns-clause-created : goal.returns-clause-created
returns-clause-created c made a b before after bank lines status holds same creates =
    (same, inr (opens_pair a b before.shelf after.shelf bank (λ bank. CreatesBy made bank lines status) holds creates))

pub returns-clause-replayed : goal.returns-clause-replayed
returns-clause-replayed c limit script a b before after bank lines status holds taken replays =
    inr (inr (record {
      script = script;
      taken = taken;
      opened = opens_pair a b before.shelf after.shelf bank (λ bank. ReplaysBy script limit bank lines status) holds replays;
    }))
