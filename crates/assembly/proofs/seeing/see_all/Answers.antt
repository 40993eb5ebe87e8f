use Rattle.std.proofs.Common.{◌≡◌, ◌≤◌, ◌<◌, ◌∷◌, [], ℕ, Bool, List, Some, length, subst, sym, ap, ◌∙◌, arith}
use Rattle.std.specs.Prelude.{slice_get}
use Rattle.std.proofs.lemmas.List.{length-map, map-append}
use Rattle.container.specs.declared.seen.Seen.{Seen}
use Rattle.container.proofs.Lists.{count_more, each_more}
use Rattle.mpb_store.specs.Banks.{is_unread}
use Rattle.assembly.specs.Seen.{IsSeen, Looks, are_unread, found_of}
use Rattle.assembly.proofs.Seen.{front_of, looks_behind, looks_more, seen_later, seen_since}
use Rattle.assembly.proofs.seeing.see_all.Goals as goal

pub loop-d-preserved : goal.loop-d-preserved
loop-d-preserved g c =
    let B = g.B.Bank in
    let first = c.args.bank.now in
    let before = c.loop-d.bank in
    let after = c.see.new.bank in
    let held = c.loop-d.invariant in
    let made = c.see.ensures in
    let one = c.in_ok-see.field-0 in
    let look = c.in_ok-see.ensures.seen.1 in
    let unread : Seen → Bool = λ s. is_unread (found_of s.holds) in
    let pushed = c.in_ok-push.ensures.items in
    let count : length (are_unread c.loop-d.seen.items) ≡ c.loop-d.d = length-map c.loop-d.seen.items unread ∙ held.count in
    let is : ℕ → Seen → Type 0 = λ k s. IsSeen (B.serials first) (B.sizes first) (B.opening after) (B.log first) (B.log after) (B.faults_of first) (B.faults_of after) k s in
    let newest : is c.loop-d.d one = seen_since held.serials held.sizes (looks_behind (B.sizes first) (B.opening before) 0 (B.log first) (B.log before) (are_unread c.loop-d.seen.items) held.looks) held.later c.in_ok-see.ensures.seen.0 in
    record {
      each = λ k s at. each_more is c.loop-d.seen.items one (λ k s at. seen_later _ c.loop-d.d _ made.opening look made.later (held.each k s at))
          (subst (λ (k : ℕ). is k one) (sym held.count) newest) k s (subst (λ (l : List Seen). slice_get l k ≡ Some s) pushed at);
      count = count_more c.loop-d.seen.items c.push.new.self.items one c.loop-d.d pushed held.count;
      looks = subst (λ (l : List Bool). Looks (B.sizes first) (B.opening after) 0 (B.log first) l (B.log after))
          (sym (ap are_unread pushed ∙ map-append unread c.loop-d.seen.items (one ∷ [])))
          (looks_more (B.sizes first) (B.sizes before) (B.opening before) (B.opening after) (B.log first) (B.log before) (B.log after) (are_unread c.loop-d.seen.items) c.loop-d.d (unread one)
          held.sizes count made.opening held.looks look);
      room = omega (arith, held.room, made.room);
      opening = λ told at. held.opening told (made.opening told at);
      later = λ k. let low : B.faults_of first k ≤ B.faults_of before k = held.later k in let high : B.faults_of before k ≤ B.faults_of after k = made.later k in omega (arith, low, high);
      sizes = made.sizes ∙ held.sizes;
      serials = made.serials ∙ held.serials;
    }

pub returns-in_err-see-clause-front : goal.returns-in_err-see-clause-front
returns-in_err-see-clause-front g c =
    let B = g.B.Bank in
    let first = c.args.bank.now in
    let held = c.loop-d.invariant in
    let made = c.see.ensures in
    let below : c.loop-d.d < length (B.sizes first) = omega (arith, c.loop-d-test.true, c.disks-d-end.ensures.count) in
    front_of (B.sizes first) (B.sizes c.loop-d.bank) (B.opening c.loop-d.bank) (B.opening c.see.new.bank) (B.log first) (B.log c.loop-d.bank) (B.log c.see.new.bank) (are_unread c.loop-d.seen.items) c.loop-d.d made.looks.0
    below held.sizes (length-map c.loop-d.seen.items (λ (s : Seen). is_unread (found_of s.holds)) ∙ held.count) made.opening held.looks made.looks.1

pub returns-in_err-push-clause-front : goal.returns-in_err-push-clause-front
returns-in_err-push-clause-front g c =
    let B = g.B.Bank in
    let first = c.args.bank.now in
    let held = c.loop-d.invariant in
    let made = c.see.ensures in
    let below : c.loop-d.d < length (B.sizes first) = omega (arith, c.loop-d-test.true, c.disks-d-end.ensures.count) in
    front_of (B.sizes first) (B.sizes c.loop-d.bank) (B.opening c.loop-d.bank) (B.opening c.see.new.bank) (B.log first) (B.log c.loop-d.bank) (B.log c.see.new.bank) (are_unread c.loop-d.seen.items) c.loop-d.d made.looks.0
    below held.sizes (length-map c.loop-d.seen.items (λ (s : Seen). is_unread (found_of s.holds)) ∙ held.count) made.opening held.looks made.looks.1
