use Rattle.std.proofs.Common.{◌≡◌, ℕ, not, Bool, true, List, [], ◌∷◌, ◌++◌, length, None, sym, ◌∙◌, ap, subst, arith}
use Rattle.imsm_base.specs.Layout.{Block, disk_count_of, volume_count_of}
use Rattle.imsm_base.specs.Volumes.{volume_fault}
use Rattle.imsm_codec.specs.Mpb.{volume_at}
use Rattle.imsm_codec.proofs.Found.{volumes_counted, disks_counted}
use Rattle.imsm_buffer.specs.Buffer.{parts_of}
use Rattle.imsm_edit.specs.Meanings.{is_told}
use Rattle.block_cases.proofs.marking.facts_of.Goals as goal

first : (P : ℕ → Type 0) (k : ℕ) → k ≡ 0 → P 0 → P k
first P k zero_is p = subst P (sym zero_is) p

pub returns : goal.returns
returns c =
    let b : Block = parts_of c.args.book.now in
    let volumes = volumes_counted c.args.book.now.bytes in
    let disks = disks_counted c.args.book.now.bytes in
    let one : volume_count_of b ≡ 1 = ap volume_count_of (sym c.parts-parts.ensures.parts) ∙ sym c.volumes.ensures ∙ c.if-volumes-ne1.false in
    let two : disk_count_of b ≡ 2 = ap disk_count_of (sym c.parts-parts.ensures.parts) ∙ sym c.disks.ensures ∙ c.if-disks-ne2.false in
    let fine : volume_fault b 0 (volume_at 0 b) ≡ None =
    subst (λ (x : Block). volume_fault x 0 (volume_at 0 x) ≡ None) c.parts-parts.ensures.parts (c.volume_of.ensures.ok.0 (c.is_err.ensures.negation ∙ ap not c.if-is_err.false)) in
    let started : length c.new.result.items ≡ 0 = ap (λ (ts : List Bool). length ts) c.new.ensures in
    let broken : length c.new-2.result.items ≡ 0 = ap (λ (ts : List Bool). length ts) c.new-2.ensures in
    let working : length c.new-3.result.items ≡ 0 = ap (λ (ts : List Bool). length ts) c.new-3.ensures in (
      record {
        started = omega (arith, c.push.ensures.len);
        broken = omega (arith, c.push-2.ensures.len);
        working = omega (arith, c.push-3.ensures.len, c.push-4.ensures.len);
        supported = λ k below told. first (λ (n : ℕ). volume_fault b n (volume_at n b) ≡ None) k (omega arith) fine;
      },
      ap (λ (ts : List Bool). is_told ts 0) (c.push.ensures.items ∙ ap (λ (ts : List Bool). ts ++ true ∷ []) c.new.ensures),
      omega arith,
    )
