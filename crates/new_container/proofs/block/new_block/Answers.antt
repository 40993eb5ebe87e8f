use Rattle.std.proofs.Common.{◌≡◌, List, ℕ, length, sym, ◌∙◌, ap, subst}
use Rattle.std.specs.Prelude.{All}
use Rattle.std.proofs.lemmas.Result.{IfOk-weaker}
use Rattle.imsm_base.specs.Layout.{Block}
use Rattle.imsm_base.specs.Whole.{IsWholeBlock}
use Rattle.imsm_buffer.specs.Buffer.{Buffer}
use Rattle.imsm_codec.specs.Mpb.{block_bytes}
use Rattle.new_container.specs.Created.{IsDisk, created_block, created_bytes}
use Rattle.new_container.proofs.Whole.{checked_is, whole_is}
use Rattle.new_container.proofs.block.new_block.Goals as goal

pub unwrap-mpb-requires : goal.unwrap-mpb-requires
unwrap-mpb-requires c =
    c.check.ensures.ok.1 (whole_is _ c.deref.result.now (created_block c.args.made.now c.args.disks.now) c.in_ok-bytes.ensures.whole c.deref.ensures.value)

pub returns : goal.returns
returns c =
    let b : Block = created_block c.args.made.now c.args.disks.now in
    let bytes : List ℕ = c.in_ok-bytes.bytes.items in
    let same : block_bytes c.unwrap-mpb.result ≡ bytes =
    checked_is c.check.result c.unwrap-mpb.result bytes c.deref.result.now b c.in_ok-bytes.ensures.whole c.deref.ensures.value c.unwrap-mpb.ensures c.check.ensures.bytes in
    let len : c.len.result ≡ length (block_bytes c.unwrap-mpb.result) = c.len.ensures ∙ c.in_ok-bytes.bytes.ok.0 ∙ ap (λ (x : List ℕ). length x) (sym same) in
    let copied = c.from_ref.ensures in
    record {
      bytes = IfOk-weaker c.from_ref.result _ (λ (x : Buffer). x.bytes ≡ created_bytes c.args.made.now c.args.disks.now)
          (λ x e. subst (λ (y : Buffer). y.bytes ≡ created_bytes c.args.made.now c.args.disks.now) (sym e) (same ∙ c.in_ok-bytes.ensures.bytes)) copied;
      room = IfOk-weaker c.from_ref.result _ (λ (x : Buffer). x.room ≡ length x.bytes) (λ x e. subst (λ (y : Buffer). y.room ≡ length y.bytes) (sym e) len) copied;
      whole = IfOk-weaker c.from_ref.result _ (λ (x : Buffer). IsWholeBlock x.bytes b)
          (λ x e. subst (λ (y : Buffer). IsWholeBlock y.bytes b) (sym e) (subst (λ (y : List ℕ). IsWholeBlock y b) (sym same) c.in_ok-bytes.ensures.whole)) copied;
      disks = IfOk-weaker c.from_ref.result _ (λ (x : Buffer). All IsDisk c.args.disks.now) (λ x e. c.in_ok-bytes.ensures.disks) copied;
    }
