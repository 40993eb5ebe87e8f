-- A round that begins because something is due, while a pass counts: what the block is made from.
use Rattle.std.proofs.Common.{◌≡◌, ℕ, Bool, true, false, List, refl, ap, sym, ◌∙◌, subst, Option, inl, inr}
use Rattle.array_model.specs.Blocks.{Laid}
use Rattle.device_log.specs.Log.{Call}
use Rattle.array_machine.specs.Setting.{Setting}
use Rattle.array_machine.specs.Volumes.{volume_at}
use Rattle.array_machine.specs.Rounds.{Rest, has_target}
use Rattle.array_machine.specs.RoundEnds.{has_other}
use Rattle.array_machine.specs.Control.{Control}
use Rattle.array_machine.specs.Changes.{Change}
use Rattle.array_machine.specs.MonitorTurns.{is_due}
use Rattle.array_paths.specs.InTurn.{InTurn}
use Rattle.array_paths.specs.MayEdit.{round_order, AreInOrder, IsNext}
use Rattle.array_paths.specs.PassMove.{slots_of}
use Rattle.array_base.specs.Premises.{Premises}
use Rattle.array_base.specs.Base.{ledger, GenerationsRise, Base}
use Rattle.array_base.proofs.Facts.{between, rest_book}
use Rattle.array_form.specs.Behind.{BeginsDue}
use Rattle.array_gate.proofs.Dirty.{target_trusted}
use Rattle.array_units.specs.Seats.{AreSeated}

module _ (S : Setting) (P : Premises S) (t : InTurn) (log : List Call) (c : Control) where
  -- a round has finished where one has ended
  pub finished_by : GenerationsRise S (ledger c.round) → c.round.ended ≡ true → c.round.first ≡ false
  finished_by rise ended = at c.round.first refl
    where
      at : (b : Bool) → c.round.first ≡ b → c.round.first ≡ false
      at false is = is
      at true is = absurd (let none = rise.none_ended is in cc (none, ended))

  module _ (prev : Option Change) (m : Laid) (due : BeginsDue S t.before c prev m) where
    pub due_order : (next : IsNext S t c m) → next.edits ≡ round_order S c
    due_order next = at next.order
      where
        at : AreInOrder S c next.edits → next.edits ≡ round_order S c
        at (inl order) = order
        at (inr update) =
            let is : is_due S c ≡ true = ap (is_due S) due.now ∙ due.due in
            absurd (let none = update.1 in cc (none, is))

    pub due_own : AreSeated S t.before → c.round.phase ≡ Rest → c.round.ended ≡ true → has_target S c.round ≡ true
        → Base S P log c → (v : ℕ) → (volume_at c.volumes v).started ≡ true
        → has_other S (S.start.words.slots c.round.book v) (slots_of c v) ≡ false
    due_own seated rest ended target base v started =
        let later = finished_by base.core.generations ended in
        let found = target_trusted S c.round later target in
        let same = (rest_book S P log c found.0 rest ended found.1 (between S P log c base)).1 in
        let all : AreSeated S c = subst (AreSeated S) (sym due.now) seated in
        ap (λ x. has_other S (S.start.words.slots x v) (slots_of c v)) same ∙ all v started
