use Rattle.std.proofs.Common.{◌≡◌, ◌+◌, ◌≤◌, length, sym, ◌∙◌, ap, arith}
use Rattle.mpb_store.specs.Reading.{Reading, places_left}
use Rattle.mpb_store.proofs.Placing.{room_left}
use Rattle.mpb_store.proofs.reading.ReadSteps.fed.Goals as goal

pub unwrap-requires : goal.unwrap-requires
unwrap-requires c =
    let r : Reading = record { sectors = c.self.inside.sectors; bytes = c.self.inside.bytes.items; failed = c.self.inside.failed } in
    let is : r ≡ c.args.self.now = c.self.view_is in
    let room : length c.self.inside.bytes.items + 512 ≤ 8192 = room_left r (λ none. c.requires (ap places_left (sym is) ∙ none)) c.self.invariant.whole in
    c.try_extend_from_slice.ensures.variant.1 (omega arith)
