use Rattle.std.proofs.Common.{◌≡◌, ℕ, ◌+◌, ◌-◌, ◌/◌, ◌<◌, List, length, sym, ◌∙◌, ap, subst, arith}
use Rattle.std.proofs.lemmas.Bool.Decides.{nat_tests}
use Rattle.units.specs.Places.{extended_count}
use Rattle.imsm_codec.specs.Given.{size_in}
use Rattle.mpb_store.specs.declared.reading.ReadStep.TheVariants.{Read}
use Rattle.mpb_store.specs.Reading.{Reading, places_left, first_read, IsCut}
use Rattle.mpb_store.proofs.Placing.{left_cut, left_whole}
use Rattle.mpb_store.proofs.reading.ReadSteps.next.Goals as goal

pub returns-in-Some : goal.returns-in-Some
returns-in-Some c =
    let bytes : List ℕ = c.self.inside.bytes.items in
    let r : Reading = record { sectors = c.self.inside.sectors; bytes = bytes; failed = c.self.inside.failed } in
    let is : r ≡ c.args.self.now = c.self.view_is in
    let cut : IsCut bytes = subst IsCut c.as_slice.ensures.value (c.in-Some.ensures.0) in
    let left = left_cut r c.if-self.false c.if-small.false c.self.invariant.whole cut in
    let size : c.in-Some.size ≡ size_in bytes = c.in-Some.ensures.1 ∙ ap size_in c.as_slice.ensures.value in
    let extended : c.from-extended.result ≡ extended_count (size_in bytes) = c.from-extended.ensures ∙ c.extended_count.ensures.count ∙ ap extended_count size in
    let len : c.len.result ≡ length bytes = c.len.ensures.value in
    ap (λ (p : ℕ). Read p) (ap (λ (n : ℕ). r.sectors - 2 - n + (c.len.result / 512 - 1)) extended ∙ ap (λ (n : ℕ). r.sectors - 2 - extended_count (size_in bytes) + (n / 512 - 1)) len)
    ∙ sym (ap first_read left)
    ∙ ap (λ (x : Reading). first_read (places_left x)) is

pub returns-in-None : goal.returns-in-None
returns-in-None c =
    let bytes : List ℕ = c.self.inside.bytes.items in
    let r : Reading = record { sectors = c.self.inside.sectors; bytes = bytes; failed = c.self.inside.failed } in
    let is : r ≡ c.args.self.now = c.self.view_is in
    let uncut : IsCut bytes → ⊥ = λ cut. c.in-None.ensures (subst IsCut (sym c.as_slice.ensures.value) cut) in
    let empty = sym c.is_empty.ensures ∙ c.if-is_empty.false in
    let some : 0 < length bytes = grind (arith, nat_tests) in
    let left = left_whole r c.self.invariant.whole some uncut c.if-self.false c.if-small.false in
    sym (ap first_read left) ∙ ap (λ (x : Reading). first_read (places_left x)) is
