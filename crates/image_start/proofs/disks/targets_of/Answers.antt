use Rattle.std.proofs.Common.{◌≡◌, ◌+◌, ℕ, List, ◌∷◌, [], ◌++◌, length, sym, ◌∙◌, ap, zero-add, arith}
use Rattle.std.specs.List.{range_with_len}
use Rattle.std.proofs.lemmas.List.{map-append}
use Rattle.units.specs.declared.disk.DiskNo.{DiskNo}
use Rattle.control_state.specs.Seen.{numbers}
use Rattle.image_start.proofs.Found.{all-targets}
use Rattle.image_start.proofs.Numbers.{one-more}
use Rattle.image_start.proofs.disks.targets_of.Goals as goal

pub loop-d-preserved : goal.loop-d-preserved
loop-d-preserved c =
    let old : List DiskNo = c.loop-d.targets.items in
    let d : ℕ = c.loop-d.d in
    record {
      numbered = ap numbers c.push.ensures.items ∙ map-append (λ (x : DiskNo). x.0) old (record { 0 = d } ∷ [])
          ∙ ap (λ (xs : List ℕ). xs ++ d ∷ []) c.loop-d.invariant.numbered ∙ sym (one-more 0 d ∙ ap (λ (k : ℕ). range_with_len 0 d ++ k ∷ []) (zero-add d));
      count = c.push.ensures.len ∙ ap (λ (n : ℕ). n + 1) c.loop-d.invariant.count;
    }

pub returns : goal.returns
returns c contents =
    let images = c.args.images.now in
    let all : c.loop-d.d ≡ length images = omega (arith, c.loop-d-test.false, c.loop-d.auto.d-end) in
    c.loop-d.invariant.numbered ∙ ap (range_with_len 0) all ∙ sym (all-targets images contents c.requires)
