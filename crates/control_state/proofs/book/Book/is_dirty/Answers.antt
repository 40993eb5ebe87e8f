use Rattle.std.proofs.Common.{◌<◌, List, ℕ, sym, ap, ◌∙◌, subst}
use Rattle.imsm_base.specs.Layout.{volume_count_of}
use Rattle.imsm_base.specs.Parts.{block_in}
use Rattle.imsm_base.specs.Volumes.{is_dirty}
use Rattle.imsm_codec.specs.Mpb.{volume_at}
use Rattle.control_state.proofs.Books.{has_volume, dirty_there}
use Rattle.control_state.proofs.book.Book.is_dirty.Goals as goal

pub dirty-requires : goal.dirty-requires
dirty-requires c = subst (λ (xs : List ℕ). 0 < volume_count_of (block_in xs)) (sym c.parts.ensures.bytes) (has_volume c.args.self.now.block.bytes c.args.self.now.whole)

pub returns : goal.returns
returns c = c.dirty.ensures ∙ ap (λ (xs : List ℕ). is_dirty (volume_at 0 (block_in xs))) c.parts.ensures.bytes ∙ dirty_there c.args.self.now.anchor c.args.self.now.block.bytes c.args.self.now.whole c.args.self.now.there
