use Rattle.std.proofs.Common.{◌==◌, ℕ, take, sym, ◌∙◌, ap, arith}
use Rattle.std.specs.List.{list_any}
use Rattle.std.proofs.lemmas.Bool.{eq-eqb, ne_eqb}
use Rattle.imsm_base.specs.Layout.{Volume}
use Rattle.imsm_base.specs.Volumes.{Member, members}
use Rattle.imsm_codec.specs.Mpb.{block_of, volume_at}
use Rattle.imsm_view.proofs.Members.{any_more, any_here}
use Rattle.imsm_view.proofs.slot.is_taken.Goals as goal

pub loop-earlier-preserved : goal.loop-earlier-preserved
loop-earlier-preserved c =
    let v : Volume = volume_at c.args.v.0 (block_of c.args.mpb.now) in
    any_more (λ (m : Member). m.index == c.args.index) v c.loop-earlier.earlier (omega arith) c.loop-earlier.invariant
    (ap (λ (n : ℕ). n == c.args.index) (sym c.index_of.ensures) ∙ ne_eqb _ _ c.if-index_of-index.false)

pub returns-then-index_of-index : goal.returns-then-index_of-index
returns-then-index_of-index c =
    let v : Volume = volume_at c.args.v.0 (block_of c.args.mpb.now) in
    sym (any_here (λ (m : Member). m.index == c.args.index) v c.loop-earlier.earlier c.args.slot.0 (omega arith) c.requires.slot
    (ap (λ (n : ℕ). n == c.args.index) (sym c.index_of.ensures) ∙ eq-eqb _ _ c.if-index_of-index.true))

pub returns : goal.returns
returns c =
    let v : Volume = volume_at c.args.v.0 (block_of c.args.mpb.now) in
    sym c.loop-earlier.invariant ∙ ap (λ (n : ℕ). list_any (λ m. m.index == c.args.index) (take n (members v))) (omega arith)
