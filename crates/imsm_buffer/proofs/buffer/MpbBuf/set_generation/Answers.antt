use Rattle.std.proofs.Common.{List, ℕ, sym, ◌∙◌, ap, subst}
use Rattle.imsm_base.specs.Parts.{block_in}
use Rattle.imsm_base.specs.Edits.{with_generation, block_with_generation}
use Rattle.imsm_buffer.specs.Buffer.{Buffer, IsKept, parts_of}
use Rattle.imsm_buffer.proofs.Kept.{written, length-generation, generation-kept, generation-block}
use Rattle.imsm_buffer.proofs.buffer.MpbBuf.set_generation.Goals as goal

pub invariant_of-self : goal.invariant_of-self
invariant_of-self c =
    let items : List ℕ = c.self.inside.bytes.items in
    let new = c.put_u32.ensures ∙ ap (λ (x : List ℕ). with_generation x c.args.g) c.deref_mut.ensures.value in
    subst (λ (x : List ℕ). IsKept x c.self.inside.room c.self.inside.bytes.cap)
    (sym (written c.self.inside.bytes c.put_u32.new.bytes _ new (length-generation items c.args.g c.self.invariant.laid)))
    (generation-kept items c.args.g c.self.inside.room c.self.inside.bytes.cap c.self.invariant)

pub returns-clause-block : goal.returns-clause-block
returns-clause-block c =
    let items : List ℕ = c.self.inside.bytes.items in
    let new = c.put_u32.ensures ∙ ap (λ (x : List ℕ). with_generation x c.args.g) c.deref_mut.ensures.value in
    ap block_in (written c.self.inside.bytes c.put_u32.new.bytes _ new (length-generation items c.args.g c.self.invariant.laid))
    ∙ generation-block items c.args.g c.self.invariant.laid
    ∙ ap (λ (x : Buffer). block_with_generation (parts_of x) c.args.g) c.self.view_is
