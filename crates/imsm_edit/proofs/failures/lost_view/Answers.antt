use Rattle.std.proofs.Common.{◌≡◌, false, List, length, map, drop, Option, Some, None, refl, sym, ◌∙◌, ap, subst}
use Rattle.std.specs.Prelude.{is_none}
use Rattle.std.proofs.lemmas.Bool.{false≢true}
use Rattle.std.proofs.lemmas.List.{take_at, length-map}
use Rattle.imsm_base.specs.Layout.{Block}
use Rattle.imsm_base.specs.Volumes.{Fault, members, volume_fault}
use Rattle.imsm_codec.specs.Mpb.{volume_at}
use Rattle.imsm_buffer.specs.Buffer.{parts_of}
use Rattle.imsm_view.specs.declared.volume.SlotView.{SlotView}
use Rattle.imsm_view.specs.Views.{IsVolume, slot_view}
use Rattle.imsm_edit.specs.Failures.{lost}
use Rattle.imsm_edit.proofs.Marked.{map_map}
use Rattle.imsm_edit.proofs.failures.lost_view.Goals as goal

some_fault : (o : Option Fault) → (o ≡ None → ⊥) → false ≡ is_none o
some_fault None other = absurd (other refl)
some_fault (Some f) other = refl

pub returns-in-Ok-clause-view : goal.returns-in-Ok-clause-view
returns-in-Ok-clause-view c =
    let b : Block = parts_of c.args.book.now in
    let seen : IsVolume b (volume_at c.args.v.0 b) c.in-Ok.view = subst (λ (x : Block). IsVolume x (volume_at c.args.v.0 x) c.in-Ok.view) c.parts-mpb.ensures.parts c.in-Ok.ensures.volume in
    let slots : List SlotView = c.in-Ok.view.slots.items in
    let made : c.lose.new.slots ≡ map (lost c.args.i) slots = c.lose.ensures ∙ ap (map (lost c.args.i)) c.as_mut_slice.ensures.value in
    let len : length c.lose.new.slots ≡ length slots = ap (λ (ss : List SlotView). length ss) made ∙ length-map slots (lost c.args.i) in
    record {
      state = seen.state;
      pass = seen.pass;
      slots = take_at c.lose.new.slots (drop (length c.lose.new.slots) slots) (length slots) len
          ∙ made ∙ ap (map (lost c.args.i)) seen.slots ∙ map_map (lost c.args.i) (slot_view b) (members (volume_at c.args.v.0 b));
    }

pub returns-in-Ok-clause-some : goal.returns-in-Ok-clause-some
returns-in-Ok-clause-some c = λ below.
    sym (ap is_none (subst (λ (x : Block). volume_fault x c.args.v.0 (volume_at c.args.v.0 x) ≡ None) c.parts-mpb.ensures.parts (c.in-Ok.ensures.ok.0 refl)))

pub returns-in-Err-clause-some : goal.returns-in-Err-clause-some
returns-in-Err-clause-some c = λ below.
    let b : Block = parts_of c.args.book.now in
    some_fault (volume_fault b c.args.v.0 (volume_at c.args.v.0 b))
    (λ none. false≢true (c.in-Err.ensures.ok.1 (subst (λ (x : Block). volume_fault x c.args.v.0 (volume_at c.args.v.0 x) ≡ None) (sym c.parts-mpb.ensures.parts) none)))
