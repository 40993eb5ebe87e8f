use Rattle.std.proofs.Common.{ℕ, Bool, List, bytes_eq, sym, ◌∙◌, rules, tests}
use Rattle.std.proofs.lemmas.Iterator.{YieldsList-from_slice}
use Rattle.std.proofs.lemmas.Iterator.Search.{position_from_yields_List}
use Rattle.image_verdict.specs.declared.images.ImageRead.{ImageRead}
use Rattle.image_start.proofs.Numbers.{is-placed}
use Rattle.image_start.proofs.disks.image_of.Goals as goal

abbrev is_named : List ℕ → ImageRead → Bool
is_named serial i = bytes_eq i.serial.0 serial

pub unwrap-requires : goal.unwrap-requires
unwrap-requires c =
    let images = c.args.images.now in
    let serial = c.args.serial.now.0 in
    let placed = position_from_yields_List (is_named serial) _ _ c.position-place.result c.position-place.ensures.ran (YieldsList-from_slice images cc) (λ x b q k. search (rules, tests)) in
    is-placed (is_named serial) images c.position-place.result placed c.requires.there

pub returns : goal.returns
returns c =
    let images = c.args.images.now in
    let serial = c.args.serial.now.0 in
    let placed = position_from_yields_List (is_named serial) _ _ c.position-place.result c.position-place.ensures.ran (YieldsList-from_slice images cc) (λ x b q k. search (rules, tests)) in
    sym placed ∙ c.unwrap.ensures
