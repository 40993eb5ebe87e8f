use Rattle.std.proofs.Common.{◌≡◌, Bool, sym, subst, ◌∙◌, ap, arith}
use Rattle.imsm_base.specs.Layout.{Block}
use Rattle.imsm_base.specs.Volumes.{order_at}
use Rattle.imsm_base.specs.EditsOfTables.{with_volume, with_map}
use Rattle.imsm_codec.specs.Mpb.{volume_at, map_at}
use Rattle.imsm_buffer.specs.Buffer.{parts_of}
use Rattle.imsm_buffer.proofs.Lowered.{IsThere, there_of}
use Rattle.imsm_edit.specs.Slots.{slot_marked}
use Rattle.imsm_edit.proofs.Marking.{slot_named, slot_left}
use Rattle.imsm_edit.proofs.slots.mark_slot.Goals as goal

pub returns-then-not-named-clause-block : goal.returns-then-not-named-clause-block
returns-then-not-named-clause-block c =
    let b : Block = parts_of c.args.book.now in
    subst (λ (t : Bool). b ≡ with_volume c.args.v.0 (with_map c.args.m (slot_marked c.args.on c.args.slot.0 t)) b) (sym c.if-not-named.true) (slot_left b c.args.v.0 c.args.m c.args.slot.0 c.args.on)

pub returns-clause-block : goal.returns-clause-block
returns-clause-block c =
    let b : Block = parts_of c.args.book.now in
    let there : IsThere c.args.v.0 c.args.m c.args.book.now = there_of c.args.v.0 c.args.m c.args.book.now c.parts.result.bytes.now c.parts.result.laid c.parts.ensures.bytes c.requires.volume c.requires.map in
    let entries = there.entries in
    subst (λ (t : Bool). parts_of c.set_ord.new.self ≡ with_volume c.args.v.0 (with_map c.args.m (slot_marked c.args.on c.args.slot.0 t)) b) (sym c.if-not-named.false)
    (slot_named b (parts_of c.set_ord.new.self) c.args.v.0 c.args.m c.args.slot.0 c.map_ord-ord.result c.with_rebuild_bit.result c.args.on (omega arith)
    (c.map_ord-ord.ensures ∙ ap (λ (x : Block). order_at c.args.slot.0 (map_at c.args.m (volume_at c.args.v.0 x))) c.parts.ensures.parts)
    c.with_rebuild_bit.ensures c.set_ord.ensures.block)
