-- The block of a round that begins is ahead of the slots that volumes have, and of what the last finished round says.
use Rattle.std.proofs.Common.{◌≡◌, ℕ, ◌+◌, Bool, true, false, List, [], ◌∷◌, map, sym, ◌∙◌, subst}
use Rattle.std.specs.List.{AllByRecursion}
use Rattle.array_model.specs.Blocks.{Laid, SlotWords}
use Rattle.array_machine.specs.Setting.{Setting, Facts, Edit, TakesGeneration, edited}
use Rattle.array_machine.specs.EditWords.{AreApt}
use Rattle.array_machine.specs.EditFacts.{facts_of}
use Rattle.array_machine.specs.Volumes.{Slot, volume_at}
use Rattle.array_machine.specs.Control.{Control}
use Rattle.array_paths.specs.InTurn.{InTurn}
use Rattle.array_paths.specs.MayEdit.{MayEdit, IsNext}
use Rattle.array_base.specs.Premises.{Premises}
use Rattle.array_answers.specs.Slots.{CountsIn, slot_said, words_at, Backs, IsAhead}
use Rattle.array_answers.proofs.Edits.{CountsFirst, slots_backed, renewed_backed}
use Rattle.array_answers.proofs.Moved.{said_counts}
use Rattle.array_answers.proofs.Begun.{edited_append, apt_front, apt_back, formed_edited, next_closed}

module _ (S : Setting) (P : Premises S) (c : Control) where
  abbrev f : Facts
  f = facts_of S c

  -- WHAT COUNTS OUT

  counts_each : (slots : List Slot) → (c.round.first ≡ true → AllByRecursion (CountsIn S) slots)
      → AllByRecursion (CountsFirst S P c) slots
  counts_each [] counted = tt
  counts_each (s ∷ ss) counted = ((λ is. (counted is).0), counts_each ss (λ is. (counted is).1))

  said_first : (w : SlotWords) → CountsFirst S P c (slot_said S c.round.first w)
  said_first w = at c.round.first
    where
      at : (first : Bool) → first ≡ true → CountsIn S (slot_said S first w)
      at false is d seat sync = absurd (cc is)
      at true is d seat sync = said_counts S w d seat sync

  said_each : (ws : List SlotWords) → AllByRecursion (CountsFirst S P c) (map (slot_said S c.round.first) ws)
  said_each [] = tt
  said_each (w ∷ ws) = (said_first w, said_each ws)

  -- EDITS

  module _ (v : ℕ) (started : S.start.is_started v ≡ true) (slots : List Slot)
      (counts : AllByRecursion (CountsFirst S P c) slots) where
    abbrev IsBacked : Laid → Type 0
    IsBacked b = Backs S c.round.faults (words_at S b v) slots

    backed_edited : (b : Laid) (es : List Edit) → AllByRecursion (MayEdit S c) es → AreApt S f b es
        → P.edits.formed b ≡ true → IsBacked b → IsBacked (edited S f b es)
    backed_edited b [] may apt form backs = backs
    backed_edited b (e ∷ es) may apt form backs =
        let served = P.edits.served b v form started in
        backed_edited (S.edit f b e) es may.1 apt.1 (P.edits.keeps f b e apt.0 form)
        (slots_backed S P c b form e v (words_at S b v) (words_at S (S.edit f b e) v) slots may.0 (P.told b v form
        served)
        (P.edits.slots f b e v apt.0 form served) counts backs)

    backed_next : (t : InTurn) (m : Laid) → IsNext S t c m → P.edits.formed c.round.book ≡ true
        → IsBacked c.round.book → IsBacked m
    backed_next t m next form backs =
        let g = c.round.note + 1 in
        let edits = next.edits in
        let apt = apt_front S f c.round.book edits (TakesGeneration g ∷ []) next.apt in
        let last = apt_back S f c.round.book edits (TakesGeneration g ∷ []) next.apt in
        let b = edited S f c.round.book edits in
        let formed = formed_edited S P c c.round.book edits apt form in
        let whole = next.is ∙ edited_append S f c.round.book edits (TakesGeneration g ∷ []) in
        subst IsBacked (sym whole)
        (renewed_backed S P c g v (words_at S b v) (words_at S (S.edit f b (TakesGeneration g)) v) slots
        (P.edits.slots f b (TakesGeneration g) v last.0 formed (P.edits.served b v formed started))
        (backed_edited c.round.book edits next.may apt form backs))

  -- THE BLOCK

  pub next_ahead : (t : InTurn) (m : Laid) → IsNext S t c m → P.edits.formed c.round.book ≡ true → (v : ℕ)
      → (volume_at c.volumes v).started ≡ true → S.start.is_started v ≡ true → (slots : List Slot)
      → (c.round.first ≡ true → AllByRecursion (CountsIn S) slots)
      → IsAhead S c.round.first c.round.faults c.round.last v slots c.round.book
      → IsAhead S c.round.first c.round.faults c.round.last v slots m
  next_ahead t m next form v is started slots counted ahead = record {
    has = backed_next v started slots (counts_each slots counted) t m next form ahead.has;
    said = backed_next v started (map (slot_said S c.round.first) (words_at S c.round.last v))
        (said_each (words_at S c.round.last v)) t m next form ahead.said;
    closed = next_closed S P c v is started t m next form ahead.closed;
  }
