use Rattle.std.proofs.Common.{ℕ, List, subst, sym}
use Rattle.image_outside.specs.Outside.{Adds}
use Rattle.image_replay.specs.Pieces.{AddsFront}
use Rattle.image_replay.proofs.Pieces.{held_none}
use Rattle.image_replay.proofs.lines.make_room.Goals as goal

pub returns-clause-ok : goal.returns-clause-ok
returns-clause-ok g c =
    let old = g.K.Sink.written c.args.sink.now in
    let new = g.K.Sink.written c.write_all.new.sink in
    let bytes = c.args.piece.now.items in
    subst (λ (held : List ℕ). AddsFront old new bytes held) (sym c.clear.ensures)
    (held_none old new bytes (subst (λ (l : List ℕ). Adds old new l) c.as_slice.ensures.value c.in_ok-write_all.ensures.all))
