use Rattle.std.proofs.Common.{◌≡◌, ◌<◌, ◌+◌, ℕ, List, length, map, ◌∙◌, ◌∷◌, ◌++◌, [], ap, subst, sym, arith}
use Rattle.std.specs.Prelude.{IfSome}
use Rattle.units.specs.declared.disk.Sector.{Sector}
use Rattle.units.specs.declared.disk.Serial.{Serial}
use Rattle.image_outside.specs.Told.{bank_told}
use Rattle.image_verdict.specs.declared.images.ImageRead.{ImageRead}
use Rattle.image_verdict.proofs.Reading.{AreFound, found_all, found_more, read_first, still}
use Rattle.image_verdict.proofs.images.read_images.Goals as goal

pub loop-d-preserved : goal.loop-d-preserved
loop-d-preserved g c =
    let B = g.B.Bank in
    let old = bank_told B c.loop-d.bank in
    let new = bank_told B c.read_image.new.bank in
    let below : c.loop-d.d < length old.sizes =
    let inside = c.loop-d-test.true in let count = c.disks-count.ensures.count in let same = ap (λ (ns : List ℕ). length ns) c.loop-d.invariant.sizes in omega (arith, inside, count, same) in
    record {
      found = subst (λ (is : List ImageRead). AreFound new (c.loop-d.d + 1) is) (sym c.in_ok-push.ensures.items)
          (found_more old new c.loop-d.d c.loop-d.images.items c.read_image.result c.loop-d.invariant.found below
          c.read_image.ensures.serial c.read_image.ensures.sectors c.read_image.ensures.logs c.read_image.ensures.gives c.read_image.ensures.anchor
          c.read_image.ensures.opening c.read_image.ensures.later c.read_image.ensures.sizes c.read_image.ensures.serials);
      opening = λ told is. c.loop-d.invariant.opening told (c.read_image.ensures.opening told is);
      later = λ k. let first = c.loop-d.invariant.later k in let second = c.read_image.ensures.later k in omega (arith, first, second);
      sizes = c.read_image.ensures.sizes ∙ c.loop-d.invariant.sizes;
      serials = c.read_image.ensures.serials ∙ c.loop-d.invariant.serials;
    }

pub returns-in_err-push-clause-first : goal.returns-in_err-push-clause-first
returns-in_err-push-clause-first g c =
    let B = g.B.Bank in
    let old = bank_told B c.loop-d.bank in
    let new = bank_told B c.read_image.new.bank in
    let below : c.loop-d.d < length old.sizes =
    let inside = c.loop-d-test.true in let count = c.disks-count.ensures.count in let same = ap (λ (ns : List ℕ). length ns) c.loop-d.invariant.sizes in omega (arith, inside, count, same) in
    read_first new (c.loop-d.d + 1) (c.loop-d.images.items ++ c.read_image.result ∷ [])
    (found_more old new c.loop-d.d c.loop-d.images.items c.read_image.result c.loop-d.invariant.found below
    c.read_image.ensures.serial c.read_image.ensures.sectors c.read_image.ensures.logs c.read_image.ensures.gives c.read_image.ensures.anchor
    c.read_image.ensures.opening c.read_image.ensures.later c.read_image.ensures.sizes c.read_image.ensures.serials)

pub returns-clause-found : goal.returns-clause-found
returns-clause-found g c =
    let B = g.B.Bank in
    let told = bank_told B c.loop-d.bank in
    let count = c.disks-count.ensures in
    let same : length told.sizes ≡ length (B.sizes c.args.bank.now) = ap (λ (ns : List ℕ). length ns) c.loop-d.invariant.sizes in
    let named : length told.serials ≡ length (B.serials c.args.bank.now) = ap (λ (ss : List Serial). length ss) c.loop-d.invariant.serials in
    let all : c.loop-d.d ≡ length told.sizes =
    let past = c.loop-d-test.false in let end = c.loop-d.auto.d-end in let total = count.count in omega (arith, past, end, total, same) in
    found_all told c.loop-d.d c.loop-d.images.items c.loop-d.invariant.found all (named ∙ count.named ∙ sym same)
    (subst (λ (sizes : List ℕ). IfSome told.opening (λ contents. map (λ (disk : List Sector). length disk) contents ≡ sizes)) (sym c.loop-d.invariant.sizes)
    (still _ (B.opening c.args.bank.now) told.opening c.loop-d.invariant.opening count.told))

pub returns-clause-first : goal.returns-clause-first
returns-clause-first g c = read_first (bank_told g.B.Bank c.loop-d.bank) c.loop-d.d c.loop-d.images.items c.loop-d.invariant.found
