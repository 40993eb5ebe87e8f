use Rattle.std.proofs.Common.{◌≡◌, ◌≤◌, ◌<◌, inl, inr, ℕ, List, Err, length, subst, sym, ap, ◌∙◌, arith}
use Rattle.units.specs.declared.disk.Serial.{Serial}
use Rattle.incremental.specs.declared.fault.AddFault.{AddFault}
use Rattle.container.proofs.Lists.{count_more}
use Rattle.image_outside.specs.Told.{bank_told}
use Rattle.image_assemble.specs.Endings.{HasLookedFirst}
use Rattle.image_incremental.proofs.Firsts.{arrives_all, closed_before, looked_first, looked_more, memory_or, so_far_more}
use Rattle.image_incremental.proofs.arriving.arrive_all.Goals as goal

pub loop-d-preserved : goal.loop-d-preserved
loop-d-preserved g c =
    let B = g.B.Bank in
    let first = c.args.bank.now in
    let before = c.loop-d.bank in
    let after = c.add.new.bank in
    let held = c.loop-d.invariant in
    let made = c.add.ensures in
    let (s, sees, added, says) = c.in-Ok.ensures.added in
    let inside : c.loop-d.d < length (B.serials first) = omega (arith, c.loop-d-test.true, c.disks-d-end.ensures.count, c.disks-d-end.ensures.named) in
    record {
      so_far = so_far_more c.args.run (bank_told B before) (bank_told B after) (B.log first) c.loop-d.arrivals c.add.new.self c.loop-d.verdicts.items c.push.new.self.items (record { 0 = c.loop-d.d }) s c.in-Ok.verdict
          made.serials made.sizes made.opening made.later held.count (subst (λ (l : List Serial). c.loop-d.d < length l) (sym held.serials) inside) sees.0 sees.1
          (closed_before c.add.result c.in-Ok.verdict _ _ c.loop-d.arrivals.started c.in-Ok.is made.twice made.started) added says c.in_ok-push-in-Ok.ensures.items held.so_far;
      count = count_more c.loop-d.verdicts.items c.push.new.self.items c.in-Ok.verdict c.loop-d.d c.in_ok-push-in-Ok.ensures.items held.count;
      opening = λ told at. held.opening told (made.opening told at);
      later = λ k. let low : B.faults_of first k ≤ B.faults_of before k = held.later k in let high : B.faults_of before k ≤ B.faults_of after k = made.later k in omega (arith, low, high);
      sizes = made.sizes ∙ held.sizes;
      serials = made.serials ∙ held.serials;
    }

pub returns-in_err-push-in-Ok-clause-front : goal.returns-in_err-push-in-Ok-clause-front
returns-in_err-push-in-Ok-clause-front g c =
    let B = g.B.Bank in
    let held = c.loop-d.invariant in
    let made = c.add.ensures in
    let (s, sees, added, says) = c.in-Ok.ensures.added in
    looked_more (bank_told B c.loop-d.bank) (bank_told B c.add.new.bank) (B.log c.args.bank.now) c.loop-d.arrivals.seen c.loop-d.d _ c.requires.fresh
    (subst (λ (l : List ℕ). c.loop-d.d < length l) (sym held.sizes) (omega (arith, c.loop-d-test.true, c.disks-d-end.ensures.count)))
    (sym held.so_far.are.count ∙ held.count) made.sizes made.opening sees.1 held.so_far.sees

pub returns-in-Err : goal.returns-in-Err
returns-in-Err g c =
    let B = g.B.Bank in
    let first = c.args.bank.now in
    let before = c.loop-d.bank in
    let after = c.add.new.bank in
    let held = c.loop-d.invariant in
    let made = c.add.ensures in
    let seen = c.loop-d.arrivals.seen in
    let stays : HasLookedFirst (bank_told B before) =
    looked_first (bank_told B before) (B.log first) seen c.requires.fresh
    (ap (λ (l : List Serial). length l) held.serials ∙ c.disks-d-end.ensures.named ∙ sym (ap (λ (l : List ℕ). length l) held.sizes)) held.so_far.sees in
    record {
      arrives = tt;
      few = tt;
      front = elim (memory_or c.in-Err.field-0) [
        | inl is ↦
            let (failed, look) = made.looks (c.in-Err.is ∙ ap (λ (f : AddFault). Err f) is) in
            looked_more (bank_told B before) (bank_told B after) (B.log first) seen c.loop-d.d failed c.requires.fresh
            (subst (λ (l : List ℕ). c.loop-d.d < length l) (sym held.sizes) (omega (arith, c.loop-d-test.true, c.disks-d-end.ensures.count)))
            (sym held.so_far.are.count ∙ held.count) made.sizes made.opening look held.so_far.sees
        | inr other ↦ subst (λ b. HasLookedFirst (bank_told B b)) (sym (c.in-Err.ensures.no_call other)) stays
      ];
      opening = λ told at. held.opening told (made.opening told at);
      later = λ k. let low : B.faults_of first k ≤ B.faults_of before k = held.later k in let high : B.faults_of before k ≤ B.faults_of after k = made.later k in omega (arith, low, high);
      sizes = made.sizes ∙ held.sizes;
      serials = made.serials ∙ held.serials;
    }

pub returns-clause-arrives : goal.returns-clause-arrives
returns-clause-arrives g c =
    let B = g.B.Bank in
    let held = c.loop-d.invariant in
    let some = c.requires.some in
    let all : length c.loop-d.verdicts.items ≡ length (B.serials c.loop-d.bank) = held.count ∙ sym (ap (λ (l : List Serial). length l) held.serials ∙ omega (arith, c.disks-d-end.ensures.count, c.disks-d-end.ensures.named)) in
    arrives_all c.args.run (bank_told B c.loop-d.bank) (B.log c.args.bank.now) c.loop-d.arrivals c.loop-d.verdicts.items c.requires.fresh held.so_far (omega (arith, some)) all
