use Rattle.std.proofs.Common.{◌+◌, ℕ, List, ap, ◌∙◌, arith}
use Rattle.imsm_base.specs.Parts.{map_in, map_room}
use Rattle.imsm_buffer.proofs.Placed.{map_inside, second_place}
use Rattle.imsm_buffer.proofs.places.map_place.Goals as goal

pub returns-then-m-eq0-clause-inside : goal.returns-then-m-eq0-clause-inside
returns-then-m-eq0-clause-inside c =
    let inside = map_inside c.args.bytes.now c.args.v c.args.m c.requires.laid c.requires.volume c.requires.map (omega (arith, c.volume_place-first.ensures.inside)) in
    omega (arith, inside, c.volume_place-first.ensures.place)

pub returns-else-m-eq0-clause-place : goal.returns-else-m-eq0-clause-place
returns-else-m-eq0-clause-place c =
    second_place c.args.bytes.now c.args.v c.args.m (c.volume_place-first.result + 112) c.map_len.result c.requires.laid c.requires.volume c.requires.map (omega arith)
    (omega (arith, c.volume_place-first.ensures.place)) (c.map_len.ensures.room ∙ ap (λ (x : List ℕ). map_room (map_in x)) c.behind.ensures)

pub returns-else-m-eq0-clause-inside : goal.returns-else-m-eq0-clause-inside
returns-else-m-eq0-clause-inside c =
    let place = second_place c.args.bytes.now c.args.v c.args.m (c.volume_place-first.result + 112) c.map_len.result c.requires.laid c.requires.volume c.requires.map (omega arith)
    (omega (arith, c.volume_place-first.ensures.place)) (c.map_len.ensures.room ∙ ap (λ (x : List ℕ). map_room (map_in x)) c.behind.ensures) in
    let inside = map_inside c.args.bytes.now c.args.v c.args.m c.requires.laid c.requires.volume c.requires.map (omega (arith, c.volume_place-first.ensures.inside)) in
    omega (arith, inside, place)
