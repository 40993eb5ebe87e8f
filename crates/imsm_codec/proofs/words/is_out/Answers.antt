use Rattle.std.proofs.Common.{ℕ, ◌==◌, sym, ◌∙◌, ap}
use Rattle.std.specs.Int.{bit_at}
use Rattle.std.proofs.lemmas.Nat.Bits.{shr_and_one}
use Rattle.std.proofs.Math.Bool.{or-false}
use Rattle.imsm_base.specs.Layout.{Volume}
use Rattle.imsm_codec.specs.Mpb.{block_bytes, block_of, volume_at}
use Rattle.imsm_codec.proofs.Found.{maps_counted}
use Rattle.imsm_codec.proofs.Mirror.{one_map, out_by_one}
use Rattle.imsm_codec.proofs.words.is_out.Goals as goal

pub returns : goal.returns
returns c =
    let v : Volume = volume_at c.args.v.0 (block_of c.args.mpb.now) in
    let one = one_map v (maps_counted (block_bytes c.args.mpb.now) c.args.v.0 c.requires.volume) c.requires.idle in
    ap (λ (n : ℕ). n == 1) (shr_and_one c.map_ord.result 24)
    ∙ ap (λ (n : ℕ). bit_at n 24 == 1) c.map_ord.ensures ∙ sym (or-false _) ∙ sym (out_by_one v c.args.slot.0 one)
