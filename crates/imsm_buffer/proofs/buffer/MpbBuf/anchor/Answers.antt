use Rattle.std.proofs.Common.{refl, ◌∙◌, ap}
use Rattle.imsm_buffer.specs.Buffer.{Buffer}
use Rattle.imsm_base.specs.Edits.{first_sector}
use Rattle.imsm_buffer.proofs.Kept.{anchor-made}
use Rattle.imsm_buffer.proofs.buffer.MpbBuf.anchor.Goals as goal

pub returns : goal.returns
returns c =
    anchor-made c.min-len.result c.len.result c.copy_from_slice.new.self _ c.deref.result.now c.self.inside.bytes.items c.copy_from_slice.ensures.after c.deref.ensures.value refl c.min-len.ensures (c.len.ensures ∙ c.self.inside.bytes.ok.0)
    ∙ ap (λ (s : Buffer). first_sector s.bytes) c.self.view_is
