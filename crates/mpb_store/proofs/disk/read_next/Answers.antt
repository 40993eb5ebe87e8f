use Rattle.std.proofs.Common.{◌≡◌, ℕ, ◌<◌, length, ◌∙◌, sym, ap, subst}
use Rattle.std.specs.Prelude.{slice_index, is_ok, not}
use Rattle.mpb_store.specs.Reading.{Reading}
use Rattle.mpb_store.proofs.Placing.{left_open}
use Rattle.mpb_store.proofs.Followed.{reads_one, some_left, next_inside, from_got, from_lost, less_got, less_lost}
use Rattle.mpb_store.proofs.Looked.{reading_got, reading_lost}
use Rattle.mpb_store.proofs.disk.read_next.Goals as goal

pub read-requires-clause-place : goal.read-requires-clause-place
read-requires-clause-place g c =
    let inside = next_inside c.args.steps.now c.args.place c.requires.next in
    subst (λ (n : ℕ). c.args.place < n) c.requires.from.sized inside

pub returns-in-Ok-clause-from : goal.returns-in-Ok-clause-from
returns-in-Ok-clause-from g c =
    let B = g.B.Bank in
    let sector : length c.read.new.into.0 ≡ 512 = c.fed.ensures.sector in
    from_got (slice_index (B.sizes c.args.bank.now) c.args.d.0) c.args.d.0 (B.opening c.args.bank.now) (B.opening c.read.new.self) (B.log c.args.bank.now) (B.log c.read.new.self)
    c.args.steps.now c.fed.new.self c.args.place c.read.new.into _ c.requires.from c.requires.next c.read.ensures.opening c.read.ensures.logs c.in-Ok.ensures.gives sector c.fed.ensures.fed

pub returns-in-Ok-clause-less : goal.returns-in-Ok-clause-less
returns-in-Ok-clause-less g c =
    let sector : length c.read.new.into.0 ≡ 512 = c.fed.ensures.sector in
    less_got c.args.steps.now c.fed.new.self c.args.place c.read.new.into c.requires.from.whole c.requires.next sector c.fed.ensures.fed

pub returns-in-Err-clause-from : goal.returns-in-Err-clause-from
returns-in-Err-clause-from g c =
    let B = g.B.Bank in
    from_lost (slice_index (B.sizes c.args.bank.now) c.args.d.0) c.args.d.0 (B.opening c.args.bank.now) (B.opening c.read.new.self) (B.log c.args.bank.now) (B.log c.read.new.self)
    c.args.steps.now c.fed-in-Err.new.self c.args.place _ c.requires.from c.requires.next c.read.ensures.opening c.read.ensures.logs c.fed-in-Err.ensures.fed

pub returns-in-Err-clause-less : goal.returns-in-Err-clause-less
returns-in-Err-clause-less g c = less_lost c.args.steps.now c.fed-in-Err.new.self c.args.place c.requires.from.whole c.requires.next c.fed-in-Err.ensures.fed

pub returns-in-Ok-clause-reads : goal.returns-in-Ok-clause-reads
returns-in-Ok-clause-reads g c =
    let B = g.B.Bank in
    let well = (left_open c.args.steps.now (some_left c.args.steps.now c.args.place c.requires.next)).0 in
    let failed = ap (λ (r : Reading). r.failed) c.fed.ensures.fed ∙ well ∙ sym (ap (λ r. not (is_ok r)) c.in-Ok.is) in
    reads_one c.args.d.0 c.args.place (B.log c.args.bank.now) (B.log c.read.new.self) _ c.fed.new.self.failed failed c.read.ensures.logs

pub returns-in-Err-clause-reads : goal.returns-in-Err-clause-reads
returns-in-Err-clause-reads g c =
    let B = g.B.Bank in
    let failed = ap (λ (r : Reading). r.failed) c.fed-in-Err.ensures.fed ∙ sym (ap (λ r. not (is_ok r)) c.in-Err.is) in
    reads_one c.args.d.0 c.args.place (B.log c.args.bank.now) (B.log c.read.new.self) _ c.fed-in-Err.new.self.failed failed c.read.ensures.logs

pub returns-in-Ok-clause-places : goal.returns-in-Ok-clause-places
returns-in-Ok-clause-places g c =
    let B = g.B.Bank in
    let sector : length c.read.new.into.0 ≡ 512 = c.fed.ensures.sector in
    let went = ap is_ok c.in-Ok.is in
    λ first so. reading_got c.args.d.0 first (B.log c.args.bank.now) (B.log c.read.new.self) c.args.steps.now c.fed.new.self c.args.place c.read.new.into _ c.requires.from.whole c.requires.next
    went sector c.fed.ensures.fed c.read.ensures.logs so

pub returns-in-Err-clause-places : goal.returns-in-Err-clause-places
returns-in-Err-clause-places g c =
    let B = g.B.Bank in
    let lost = ap is_ok c.in-Err.is in
    λ first so. reading_lost c.args.d.0 first (B.log c.args.bank.now) (B.log c.read.new.self) c.args.steps.now c.fed-in-Err.new.self c.args.place _ c.requires.next
    lost c.fed-in-Err.ensures.fed c.read.ensures.logs so
