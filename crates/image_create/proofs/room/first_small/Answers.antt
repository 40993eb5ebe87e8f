use Rattle.std.proofs.Common.{◌≡◌, ℕ, ◌+◌, ◌<◌, ◌≤◌, List, length, take, sym, subst, arith, rules}
use Rattle.std.specs.Prelude.{All, slice_index}
use Rattle.std.proofs.lemmas.List.{take_all, take_more}
use Rattle.std.proofs.lemmas.List.Elements.{All-push}
use Rattle.image_create.proofs.room.first_small.Goals as goal

all_more : (least : ℕ) (sizes : List ℕ) (k n : ℕ) → k < length sizes → n ≡ slice_index sizes k → least ≤ n → All (λ m. least ≤ m) (take k sizes) → All (λ m. least ≤ m) (take (k + 1) sizes)
all_more least sizes k n below is enough before =
    let here : least ≤ slice_index sizes k = omega arith in
    subst (All (λ m. least ≤ m)) (sym (take_more sizes k 0 below)) (All-push (λ m. least ≤ m) (take k sizes) (slice_index sizes k) before here)

pub loop-d-preserved : goal.loop-d-preserved
loop-d-preserved g c =
    all_more (c.args.rows + 18) (g.B.Bank.sizes c.args.bank.now) c.loop-d.d c.sectors.result (omega (arith, c.loop-d-test.true, c.disks-d-end.ensures.count)) c.sectors.ensures
    (c.if-not-has_room.ensures.0 (search rules)) c.loop-d.invariant

pub returns : goal.returns
returns g c =
    let sizes : List ℕ = g.B.Bank.sizes c.args.bank.now in
    subst (All (λ n. c.args.rows + 18 ≤ n)) (take_all c.loop-d.d sizes (omega (arith, c.loop-d-test.false, c.disks-d-end.ensures.count))) c.loop-d.invariant
