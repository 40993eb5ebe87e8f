use Rattle.std.proofs.Common.{◌≡◌, ℕ, ◌<◌, ◌&&◌, not, Bool, true, false, length, Option, sym, ◌∙◌, ap, arith}
use Rattle.std.specs.Prelude.{slice_get}
use Rattle.std.specs.Option.{option_map_or}
use Rattle.std.proofs.lemmas.Bool.{eq-eqb, ne_eqb}
use Rattle.std.proofs.lemmas.Option.{slice_get-get_or}
use borrow.Author.Count.{below_more}
use Rattle.imsm_base.specs.Layout.{Block, Volume}
use Rattle.imsm_base.specs.Volumes.{is_over, overlaps}
use Rattle.imsm_codec.specs.Mpb.{block_bytes, block_of, volume_at, blank_volume}
use Rattle.imsm_codec.proofs.Found.{volumes_counted}
use Rattle.imsm_view.proofs.Members.{find_none, find_least}
use Rattle.imsm_view.proofs.overlap.overlap_of.Goals as goal
use Rattle.imsm_view.proofs.overlap.overlap_of.Goals.{else-other-v-via-then-other-v+else-is_over, else-other-v-via-else-other-v}

-- the volume itself overlaps with none, and another by the test of the two
itself : (b : Block) (k other : ℕ) (v : Volume) → other ≡ k → overlaps b k v other ≡ false
itself b k other v same = ap (λ (t : Bool). not t && option_map_or (is_over v) (slice_get b.volumes other) false) (eq-eqb other k same)

another : (b : Block) (k other : ℕ) (v : Volume) (r t : Bool) → (other ≡ k → ⊥) → other < length b.volumes → r ≡ is_over v (volume_at other b) → r ≡ t → overlaps b k v other ≡ t
another b k other v r t apart below is e =
    ap (λ (x : Bool). not x && option_map_or (is_over v) (slice_get b.volumes other) false) (ne_eqb other k apart)
    ∙ ap (λ (o : Option Volume). option_map_or (is_over v) o false) (slice_get-get_or b.volumes other blank_volume below)
    ∙ sym is ∙ e

pub returns-then-is_over : goal.returns-then-is_over
returns-then-is_over c =
    let b : Block = block_of c.args.mpb.now in
    let v : Volume = volume_at c.args.v.0 b in
    let other : ℕ = c.loop-other.other in
    let count = volumes_counted (block_bytes c.args.mpb.now) in
    find_least (overlaps b c.args.v.0 v) (length b.volumes) other (omega arith)
    (another b c.args.v.0 other v c.is_over.result true c.if-other-v.true (omega arith) c.is_over.ensures c.if-is_over.true) c.loop-other.invariant

pub loop-other-preserved : goal.loop-other-preserved
loop-other-preserved c =
    let b : Block = block_of c.args.mpb.now in
    let v : Volume = volume_at c.args.v.0 b in
    let other : ℕ = c.loop-other.other in
    let count = volumes_counted (block_bytes c.args.mpb.now) in
    let there : other < length b.volumes = omega arith in
    let here : overlaps b c.args.v.0 v other ≡ false =
    elim c.else-other-v.branch [
      | else-other-v-via-then-other-v+else-is_over w ↦ another b c.args.v.0 other v w.is_over.result false w.if-other-v.true there w.is_over.ensures w.if-is_over.false
      | else-other-v-via-else-other-v w ↦ itself b c.args.v.0 other v w.if-other-v.false
    ] in
    below_more (λ (k : ℕ). overlaps b c.args.v.0 v k ≡ false) other c.loop-other.invariant here

pub returns : goal.returns
returns c =
    let b : Block = block_of c.args.mpb.now in
    let v : Volume = volume_at c.args.v.0 b in
    let count = volumes_counted (block_bytes c.args.mpb.now) in
    find_none (overlaps b c.args.v.0 v) (length b.volumes) (λ k below. c.loop-other.invariant k (omega arith))
