use Rattle.std.proofs.Common.{not, ap, ◌∙◌, arith, length, ◌<◌}
use Rattle.imsm_base.specs.Layout.{Block}
use Rattle.imsm_base.specs.EditsOfTables.{map_with_state}
use Rattle.imsm_codec.specs.Mpb.{volume_at}
use Rattle.imsm_codec.proofs.Found.{volumes_counted}
use Rattle.imsm_buffer.specs.Buffer.{parts_of}
use Rattle.imsm_edit.proofs.Told.{set_alone, set_both, second_there, pass_open}
use Rattle.imsm_edit.proofs.states.set_states.Goals as goal

pub set_state-requires-else-is_none-2-clause-map :
    goal.set_state-requires-else-is_none-2-clause-map
set_state-requires-else-is_none-2-clause-map c =
    let b : Block = parts_of c.args.book.now in
    let count = volumes_counted c.args.book.now.bytes in
    let below : c.args.v.0 < length b.volumes = omega arith in
    second_there b (parts_of c.set_state-else-is_none.new.self) c.args.v.0 (map_with_state c.state_before.result) c.set_state-else-is_none.ensures.block below
    (pass_open b (volume_at c.args.v.0 b) c.args.view.now c.requires.told (c.is_none.ensures ∙ ap not c.if-is_none.false))

pub returns-then-is_none-clause-block : goal.returns-then-is_none-clause-block
returns-then-is_none-clause-block c =
    set_alone (parts_of c.args.book.now) (parts_of c.set_state.new.self) c.args.v.0 c.args.view.now c.args.broken c.state_now-now.result c.requires.told
    (c.is_none.ensures ∙ ap not c.if-is_none.true) c.state_now-now.ensures c.set_state.ensures.block

pub returns-else-is_none-clause-block : goal.returns-else-is_none-clause-block
returns-else-is_none-clause-block c =
    set_both (parts_of c.args.book.now) (parts_of c.set_state-else-is_none.new.self) (parts_of c.set_state-else-is_none-2.new.self) c.args.v.0 c.args.view.now c.args.broken c.state_now-now.result c.state_before.result c.requires.told
    (c.is_none.ensures ∙ ap not c.if-is_none.false) c.state_now-now.ensures c.state_before.ensures c.set_state-else-is_none.ensures.block c.set_state-else-is_none-2.ensures.block
