use Rattle.std.proofs.Common.{ℕ, List, drop, ap, ◌∙◌}
use Rattle.imsm_base.specs.Parts.{map_in, map_room}
use Rattle.imsm_buffer.proofs.Placed.{map_found}
use Rattle.imsm_buffer.proofs.places.map_size.Goals as goal

pub returns-clause-size : goal.returns-clause-size
returns-clause-size c =
    c.map_len.ensures.room
    ∙ ap (λ (x : List ℕ). map_room (map_in x)) c.behind.ensures
    ∙ ap (λ (n : ℕ). map_room (map_in (drop n c.args.bytes.now))) c.map_place.ensures.place
    ∙ ap map_room (map_found c.args.bytes.now c.args.v c.args.m c.requires.laid c.requires.volume c.requires.map)
