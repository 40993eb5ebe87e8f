-- What enters a word, but for a disk's failure, makes no call: why it comes is at hand.
use Rattle.std.proofs.Common.{◌≡◌, ℕ, Bool, true, false, [], ◌∷◌, ◌++◌, refl, ap, Option, Some, None}
use Rattle.device_log.specs.Log.{Call, What}
use Rattle.array_model.specs.declared.journal.Event.{Event}
use Rattle.array_model.specs.Events.{is_any_fault}
use Rattle.array_machine.specs.Setting.{Setting}
use Rattle.array_machine.specs.Rounds.{Ended}
use Rattle.array_machine.specs.Control.{Control}
use Rattle.array_machine.specs.Changes.{Change, entry_of}
use Rattle.array_machine.specs.TakeoverTurns.{has_all}
use Rattle.array_paths.specs.InTurn.{InTurn}
use Rattle.array_paths.specs.Comes.{Comes}
use Rattle.array_paths.specs.AtRows.{AtRows, by_client, by_pass, by_monitor, after_read}
use Rattle.array_paths.specs.Effects.{Effect, quiet, row, row_fails, steps, step_fails}
use Rattle.array_form.proofs.Counting.{sees}

module _ (S : Setting) where
  -- a call at rows that went through says nothing
  pub at_rows_silent : (c : Control) (d : ℕ) (what : What) (x : Ended) (a : Change) → AtRows S c d what x a
      → entry_of S a ≡ None
  at_rows_silent c d _ _ _ (by_client k i r need what x call) = refl
  at_rows_silent c d _ _ _ (by_pass v p need what x call) = refl
  at_rows_silent c d _ _ _ (by_monitor left seen found x life) = at (has_all S (seen ++ x.got ∷ []))
    where
      at : (all : Bool) → entry_of S (after_read S c d left (seen ++ x.got ∷ []) found all) ≡ None
      at true = refl
      at false = refl

  pub uncalled : (t : InTurn) (c : Control) (call : Option Call) (x : Ended) (a : Change) → Effect S t c call x a
      → (e : Event) → entry_of S a ≡ Some e → is_any_fault e ≡ false → (call ≡ None) × Comes S t c a
  uncalled t c _ _ _ (quiet x a come) e is other = (refl, come)
  uncalled t c _ _ _ (row d what x a may ok went why) e is other =
      absurd (let none = at_rows_silent c d what x a why in cc (none, is))
  uncalled t c _ _ _ (row_fails d what x may ok failed lost) e is other =
      absurd (let told = ap (sees is_any_fault) is in cc (told, other))
  uncalled t c _ _ _ (steps d m step x at went) e is other = absurd cc
  uncalled t c _ _ _ (step_fails d m step x at failed) e is other =
      absurd (let told = ap (sees is_any_fault) is in cc (told, other))
