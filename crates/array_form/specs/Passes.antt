-- How often a pass of a volume begins: one where the volume is made ready, and one for each update that was applied,
-- since a spare that is activated is rebuilt. Source: imsm_process_update of super-intel.c and sync_action of the
-- kernel's md.rst; that a pass begins with the end of its round is this project's own.
use Rattle.std.specs.Prelude.{◌≡◌, ℕ, ◌+◌, ◌≤◌, ◌==◌, ◌&&◌, Bool, true, false, List, Option, Some}
use Rattle.array_model.specs.declared.journal.Entry.{Entry}
use Rattle.array_model.specs.declared.journal.Event.{Event}
use Rattle.array_model.specs.declared.journal.Event.TheVariants.{Point}
use Rattle.array_model.specs.Blocks.{Laid}
use Rattle.array_model.specs.Events.{count, is_end, is_ready, is_pass, is_pass_end, is_applied}
use Rattle.array_machine.specs.Setting.{Setting}
use Rattle.array_machine.specs.States.{ToReady}
use Rattle.array_machine.specs.Volumes.{Slot}
use Rattle.array_machine.specs.Control.{Control}
use Rattle.array_machine.specs.Changes.{Change, RoundEnds, StateGoes, PassMoves}
use Rattle.array_machine.specs.RoundEnds.{has_other}
use Rattle.array_paths.specs.PassMove.{slots_of}
use Rattle.array_base.specs.Premises.{generation_of}
use Rattle.array_form.specs.StateCounts.{one_if}
use Rattle.array_form.specs.RoundCounts.{just_applied}
use Rattle.array_form.specs.Behind.{is_loud, goes_on, awaits}

-- THE LAWS

-- a point of the volume
abbrev pub is_point : ℕ → Event → Bool
is_point v (Point w unit) = w.0 == v
is_point v _ = false

-- of each volume
abbrev pub KeepsPassCounts : List Entry → Type 0
KeepsPassCounts journal =
    (v : ℕ) → count (is_pass v) journal ≤ count (is_ready v) journal + count is_applied journal

-- points, ends and beginnings of passes, against the ends of rounds and the volume's ready
abbrev pub TellsOfPassesOnce : List Entry → Type 0
TellsOfPassesOnce journal =
    (v : ℕ) → count (is_point v) journal + count (is_pass_end v) journal + count (is_pass v) journal
    ≤ count is_end journal + count (is_ready v) journal

-- WHAT A RUN KEEPS

-- the volume was made ready by the last change of this turn
abbrev pub just_readied : ℕ → Option Change → Bool
just_readied v (Some (StateGoes w ToReady)) = w == v
just_readied v _ = false

-- a word on the volume's pass is still owed: behind the end of a round, or behind its ready
abbrev pub WordsCount : (before : Control) → (v : ℕ) → Option Change → List Entry → Type 0
WordsCount b v prev journal =
    count (is_point v) journal + count (is_pass_end v) journal + count (is_pass v) journal
    + one_if (goes_on b.round.phase && awaits v prev) + one_if (just_readied v prev)
    ≤ count is_end journal + count (is_ready v) journal

-- the block gives some slot of the volume another disk than it has
abbrev pub gives_others : Setting → Laid → ℕ → List Slot → Bool
gives_others S m v slots = has_other S (S.start.words.slots m v) slots

-- neither the book nor the last finished round's block does, nor a block that a takeover may go on from
pub record GivesNoOthers (S : Setting) (v : ℕ) (slots : List Slot) (book last : Laid) (given : ℕ → Laid) : Type 0 where
  pub in_book : gives_others S book v slots ≡ false
  pub in_last : gives_others S last v slots ≡ false
  pub in_given : (d : ℕ) → generation_of S last ≤ generation_of S (given d) → gives_others S (given d) v slots ≡ false

abbrev pub NoneGives : Setting → ℕ → Control → Type 0
NoneGives S v c = GivesNoOthers S v (slots_of c v) c.round.book c.round.last c.round.given

-- One pass more may begin for an activation whose round hasn't ended. Where none may, no block gives other disks.
pub record PassCounts (S : Setting) (v : ℕ) (prev : Option Change) (c : Control) (journal : List Entry) : Type 0 where
  pub owed : Bool
  pub counts : count (is_pass v) journal + one_if owed + one_if (just_readied v prev)
      ≤ count (is_ready v) journal + count is_applied journal
  pub none : owed ≡ false → S.start.is_started v ≡ true → NoneGives S v c
  pub unapplied : owed ≡ false → just_applied prev ≡ false

-- the last change was the end of a round, or said what became of a pass
abbrev pub ends_now : Option Change → Bool
ends_now (Some (RoundEnds m)) = true
ends_now (Some (PassMoves v slots pass word)) = is_loud word
ends_now _ = false

-- right behind the end of a round, the book is its block, and no generation is higher
abbrev pub EndsSettled : Setting → (before : Control) → Option Change → Control → Type 0
EndsSettled S b prev c =
    goes_on b.round.phase ≡ true → ends_now prev ≡ true
    → (c.round.book ≡ c.round.last) × (c.round.note ≡ generation_of S c.round.last)
