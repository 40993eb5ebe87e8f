-- When a round began: entries that begin no other round of its generation leave it.
use Rattle.std.proofs.Common.{◌≡◌, ℕ, ◌==◌, false, List, ◌++◌, refl, ap, ◌∙◌, Option, Some, None}
use Rattle.std.specs.Prelude.{⊤}
use Rattle.std.proofs.lemmas.List.{append-nil}
use Rattle.array_model.specs.declared.journal.Entry.{Entry}
use Rattle.array_model.specs.declared.journal.Event.{Event}
use Rattle.array_model.specs.declared.journal.Event.TheVariants.{Begin}
use Rattle.array_model.specs.Rounds.{begun, begun_at}
use Rattle.array_disks.proofs.Rounds.{entry_at, begun_entry}
use Rattle.array_machine.specs.Setting.{Setting}
use Rattle.array_machine.specs.States.{StateWord, ToReady, ToPending, ToActive, ToActiveAgain, ToIdle, ToClean}
use Rattle.array_machine.specs.Changes.{Change, RoundBegins, StateGoes, ClientMoves, PassMoves, ManagerMoves, ClientWord, IsSilent, Submits, Acknowledges, PassWord, GoesOnQuietly, OpensAt, Reaches, Closes, UpdateWord, SaysNothing, Posts, Applies, Declines, state_entry, client_entry, pass_entry, update_entry, entry_of}
use Rattle.array_machine.specs.Machine.{entered}

-- an entry, if there is one, that begins no round of this generation
abbrev pub Leaves : ℕ → Option Event → Type 0
Leaves g (Some (Begin h)) = (h == g) ≡ false
Leaves g _ = ⊤

pub begun_stays : (g n : ℕ) (journal : List Entry) (o : Option Event) → Leaves g o
    → begun g (journal ++ entered n o) ≡ begun g journal
begun_stays g n journal None leaves = ap (begun g) (append-nil journal)
begun_stays g n journal (Some e) leaves = begun_entry g journal (entry_at n e) ∙ at e leaves
  where
    at : (e : Event) → Leaves g (Some e) → begun_at g (begun g journal) n e ≡ begun g journal
    at (Begin h) other = rw other refl
    at _ leaves = refl

-- CHANGES

-- all but the begin of a round
abbrev pub BeginsNone : Change → Type 0
BeginsNone (RoundBegins m) = ⊥
BeginsNone _ = ⊤

module _ (g : ℕ) where
  leaves_state : (v : ℕ) (word : StateWord) → Leaves g (state_entry v word)
  leaves_state v ToReady = tt
  leaves_state v ToPending = tt
  leaves_state v ToActive = tt
  leaves_state v ToActiveAgain = tt
  leaves_state v ToIdle = tt
  leaves_state v ToClean = tt

  leaves_client : (word : ClientWord) → Leaves g (client_entry word)
  leaves_client IsSilent = tt
  leaves_client (Submits i) = tt
  leaves_client (Acknowledges i answer) = tt

  leaves_pass : (v : ℕ) (word : PassWord) → Leaves g (pass_entry v word)
  leaves_pass v GoesOnQuietly = tt
  leaves_pass v (OpensAt row) = tt
  leaves_pass v (Reaches unit) = tt
  leaves_pass v Closes = tt

  leaves_update : (word : UpdateWord) → Leaves g (update_entry word)
  leaves_update SaysNothing = tt
  leaves_update (Posts n) = tt
  leaves_update (Applies n) = tt
  leaves_update (Declines n kind) = tt

  pub leaves_all : (S : Setting) (a : Change) → BeginsNone a → Leaves g (entry_of S a)
  leaves_all S (RoundBegins m) none = absurd none
  leaves_all S (StateGoes v word) none = leaves_state v word
  leaves_all S (ClientMoves k client word) none = leaves_client word
  leaves_all S (PassMoves v slots pass word) none = leaves_pass v word
  leaves_all S (ManagerMoves manager word) none = leaves_update word
  leaves_all S _ none = tt
