use Rattle.std.proofs.Common.{ℕ, Bool, ◌∙◌, sym, ap, subst, arith}
use Rattle.std.specs.Prelude.{slice_get, slice_index}
use Rattle.mpb_store.specs.Reading.{places_left}
use Rattle.mpb_store.specs.Banks.{IsReadFrom, LogsReads, LogsLook}
use Rattle.mpb_store.proofs.Followed.{reads_both, some_left}
use Rattle.mpb_store.proofs.Placing.{left_open}
use Rattle.mpb_store.proofs.Told.{unread_is, answer_told, whole_told, small_there, none_left}
use Rattle.mpb_store.proofs.Looked.{looked}
use Rattle.mpb_store.proofs.disk.found.Goals as goal
use Rattle.member_bank.proofs.Faults.{rose_later}

pub loop-place-preserved : goal.loop-place-preserved
loop-place-preserved g c =
    let B = g.B.Bank in
    let d : ℕ = c.args.d.0 in
    let before = c.loop-place.invariant in
    let read = c.read_next.ensures in
    record {
      from = subst (λ x. IsReadFrom (slice_index x d) d (B.opening c.read_next.new.bank) (B.log c.read_next.new.bank) c.read_next.new.steps) before.sizes read.from;
      reads = reads_both d (B.log c.args.bank.now) (B.log c.loop-place.bank) (B.log c.read_next.new.bank) c.loop-place.steps.failed c.read_next.new.steps.failed
          (left_open c.loop-place.steps (some_left c.loop-place.steps c.in-Read.place (sym c.in-Read.is ∙ c.next.ensures))).0 before.reads read.reads;
      places = read.places (B.log c.args.bank.now) before.places;
      opening = λ o is. before.opening o (read.opening o is);
      cause = λ failed. rose_later (B.faults_of c.args.bank.now d) (B.faults_of c.loop-place.bank d) (B.faults_of c.read_next.new.bank d) (before.later d) (read.cause failed);
      later = λ k. omega (arith, before.later k, read.later k);
      sizes = read.sizes ∙ before.sizes;
      serials = read.serials ∙ before.serials;
    }

pub returns-clause-told : goal.returns-clause-told
returns-clause-told g c =
    let B = g.B.Bank in
    let d : ℕ = c.args.d.0 in
    let kept = c.loop-place.invariant in
    let own = ap (λ s. slice_get s d) (sym kept.serials) ∙ c.serial.ensures in
    answer_told c.serial.result (B.serials c.args.bank.now) d (slice_index (B.sizes c.args.bank.now) d) (B.opening c.loop-place.bank) (B.log c.loop-place.bank)
    c.loop-place.steps c.end.result c.end.new.into.bytes (none_left (places_left c.loop-place.steps) (sym c.in_default.is ∙ c.next.ensures)) kept.from c.end.ensures.answer c.end.ensures.loaded own

pub returns-clause-whole : goal.returns-clause-whole
returns-clause-whole g c =
    let B = g.B.Bank in
    let d : ℕ = c.args.d.0 in
    let kept = c.loop-place.invariant in
    let own = ap (λ s. slice_get s d) (sym kept.serials) ∙ c.serial.ensures in
    whole_told c.serial.result (B.serials c.args.bank.now) d (slice_index (B.sizes c.args.bank.now) d) c.loop-place.steps c.end.result c.end.new.into.bytes
    kept.from.sized c.end.ensures.answer c.end.ensures.loaded own

pub returns-clause-small : goal.returns-clause-small
returns-clause-small g c = λ few.
    small_there c.serial.result.0 c.loop-place.steps c.end.result c.end.ensures.answer (c.loop-place.invariant.from.small few).0
    (let sized = c.loop-place.invariant.from.sized in omega arith)

pub returns-clause-unread : goal.returns-clause-unread
returns-clause-unread g c = λ is. c.loop-place.invariant.cause ((c.end.ensures.answer _).0 is)

pub returns-clause-reads : goal.returns-clause-reads
returns-clause-reads g c =
    let B = g.B.Bank in
    let same = unread_is c.serial.result.0 c.loop-place.steps c.end.result c.end.ensures.answer in
    subst (λ x. LogsReads (B.log c.args.bank.now) (B.log c.loop-place.bank) c.args.d.0 x) same c.loop-place.invariant.reads

pub returns-clause-places : goal.returns-clause-places
returns-clause-places g c =
    let B = g.B.Bank in
    let d : ℕ = c.args.d.0 in
    let kept = c.loop-place.invariant in
    let same = unread_is c.serial.result.0 c.loop-place.steps c.end.result c.end.ensures.answer in
    subst (λ (x : Bool). LogsLook (slice_index (B.sizes c.args.bank.now) d) d (B.opening c.loop-place.bank) (B.log c.args.bank.now) (B.log c.loop-place.bank) x) same
    (looked (slice_index (B.sizes c.args.bank.now) d) d (B.opening c.loop-place.bank) (B.log c.args.bank.now) (B.log c.loop-place.bank) c.loop-place.steps
    (none_left (places_left c.loop-place.steps) (sym c.in_default.is ∙ c.next.ensures)) kept.from kept.places)
