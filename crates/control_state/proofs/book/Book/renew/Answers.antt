use Rattle.std.proofs.Common.{List, ℕ, sym, ap, ◌∙◌, subst, arith}
use Rattle.imsm_base.specs.Edits.{first_sector}
use Rattle.imsm_buffer.specs.Buffer.{Buffer}
use Rattle.control_state.specs.Book.{IsBook, laid_at}
use Rattle.control_state.proofs.Books.{copied, bytes_made, room_made, volume_counted, book_renewed, renewed_is, made_there}
use Rattle.control_state.proofs.book.Book.renew.Goals as goal

pub set_dirty-requires : goal.set_dirty-requires
set_dirty-requires c =
    let short = c.args.from.now.whole.short in
    let room = c.args.self.now.room in
    let copy = copied c.copy_into.result c.args.self.now.block c.copy_into.new.other c.args.from.now.block.bytes c.copy_into.ensures.ok (c.copy_into.ensures.variant.1 (omega (arith, short, room))) in
    volume_counted c.copy_into.new.other c.set_generation.new.self c.args.from.now.block.bytes c.args.generation c.args.from.now.whole (ap (λ (s : Buffer). s.bytes) copy) c.set_generation.ensures.bytes

pub invariant_of-self : goal.invariant_of-self
invariant_of-self c =
    let short = c.args.from.now.whole.short in
    let room = c.args.self.now.room in
    let from : List ℕ = c.args.from.now.block.bytes in
    let copy = copied c.copy_into.result c.args.self.now.block c.copy_into.new.other from c.copy_into.ensures.ok (c.copy_into.ensures.variant.1 (omega (arith, short, room))) in
    let made = bytes_made c.copy_into.new.other c.set_generation.new.self c.set_dirty.new.self c.seal.new.self from c.args.generation c.args.dirty
    (ap (λ (s : Buffer). s.bytes) copy) c.set_generation.ensures.bytes c.set_dirty.ensures.bytes c.seal.ensures.bytes in
    let whole : IsBook c.seal.new.self.bytes = subst IsBook (sym made) (book_renewed from c.args.generation c.args.dirty c.args.from.now.whole) in
    record {
      whole = whole;
      there = made_there c.anchor-self.result c.seal.new.self.bytes whole c.anchor-self.ensures;
      room = room_made c.args.self.now.block c.copy_into.new.other c.set_generation.new.self c.set_dirty.new.self c.seal.new.self from c.args.generation c.args.dirty
          copy c.set_generation.ensures.bytes c.set_dirty.ensures.bytes c.seal.ensures.bytes ∙ room;
    }

pub returns : goal.returns
returns c =
    let short = c.args.from.now.whole.short in
    let room = c.args.self.now.room in
    let from : List ℕ = c.args.from.now.block.bytes in
    let copy = copied c.copy_into.result c.args.self.now.block c.copy_into.new.other from c.copy_into.ensures.ok (c.copy_into.ensures.variant.1 (omega (arith, short, room))) in
    let made = bytes_made c.copy_into.new.other c.set_generation.new.self c.set_dirty.new.self c.seal.new.self from c.args.generation c.args.dirty
    (ap (λ (s : Buffer). s.bytes) copy) c.set_generation.ensures.bytes c.set_dirty.ensures.bytes c.seal.ensures.bytes in
    ap (λ (xs : List ℕ). laid_at (record { 0 = xs })) (c.anchor-self.ensures ∙ ap first_sector made)
    ∙ sym (renewed_is c.args.from.now.anchor from c.args.generation c.args.dirty c.args.from.now.there)
