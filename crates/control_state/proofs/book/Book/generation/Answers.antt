use Rattle.std.proofs.Common.{List, ℕ, sym, ap, ◌∙◌}
use Rattle.imsm_base.specs.Layout.{generation_of}
use Rattle.imsm_base.specs.Parts.{block_in}
use Rattle.control_state.proofs.Books.{generation_there}
use Rattle.control_state.proofs.book.Book.generation.Goals as goal

pub returns : goal.returns
returns c = c.generation.ensures ∙ ap (λ (xs : List ℕ). generation_of (block_in xs)) c.parts.ensures.bytes ∙ sym (generation_there c.args.self.now.anchor c.args.self.now.block.bytes c.args.self.now.whole c.args.self.now.there)
