use Rattle.std.specs.Prelude.{◌≡◌, ◌++◌, codes}
use Rattle.std.specs.Fmt.{decimal}
use Rattle.imsm_text.specs.Text.{hex_number, line_feed}
use Rattle.image_verdict.proofs.Pieces.{five}
use Rattle.image_verdict.proofs.text.push_family.Goals as goal

pub returns : goal.returns
returns c =
    let number : c.push_number.new.out.items ≡ c.extend_from_slice-2.new.self.items ++ decimal c.args.generation = rw (← c.from.ensures) c.in_ok-push_number.ensures in
    five c.args.out.now.items c.extend_from_slice.new.self.items c.push_hex_number.new.out.items c.extend_from_slice-2.new.self.items c.push_number.new.out.items c.extend_from_slice-3.new.self.items
    (codes "family ") (hex_number c.args.family) (codes " generation ") (decimal c.args.generation) line_feed
    c.in_ok-extend_from_slice.ensures.items c.in_ok-push_hex_number.ensures c.in_ok-extend_from_slice-2.ensures.items number c.in_ok-extend_from_slice-3.ensures.items
