use Rattle.std.proofs.Common.{◌≡◌, ℕ, List, Some, inr, sym, ◌∙◌, ap, subst, arith}
use Rattle.std.specs.Prelude.{IfSome, slice_get, slice_index}
use Rattle.units.specs.declared.disk.Serial.{Serial}
use Rattle.imsm_base.specs.Parts.{block_in}
use Rattle.imsm_base.specs.Whole.{IsWholeDisk}
use Rattle.member_bank.specs.Faults.{Rose}
use Rattle.mpb_store.specs.Banks.{IsAnswerOn, LogsLook, has_failed, is_unread, sector_after}
use Rattle.image_outside.specs.Endings.{Prints}
use Rattle.image_outside.specs.Told.{bank_told}
use Rattle.image_outside.specs.Views.{sink_told}
use Rattle.image_outside.proofs.Ended.{ends_map}
use Rattle.image_examine.specs.Text.{found_status, found_text}
use Rattle.image_examine.specs.Endings.{Examines, IsLook}
use Rattle.image_examine.proofs.Examined.{look_alone, one_of, reads_alone}
use Rattle.image_examine.proofs.examining.examine.Goals as goal
use Rattle.mpb_store.proofs.Told.{if_told}

pub returns-clause-looked : goal.returns-clause-looked
returns-clause-looked g c =
    let B = g.B.Bank in
    let before = bank_told B c.args.bank.now in
    let bank = bank_told B c.found-found.new.bank in
    let failed = is_unread c.found-found.result in
    let only = one_of before.sizes (sym c.disks-count.ensures.named ∙ c.requires.one) in
    let sized : slice_index before.sizes 0 ≡ only.0 = ap (λ (s : List ℕ). slice_index s 0) only.1 in
    inr (record {
      sectors = only.0;
      sized = c.found-found.ensures.sizes ∙ only.1;
      failed = failed;
      reads = if_told bank.log (IsLook only.0 bank.opening failed)
          (look_alone only.0 bank.opening before.log bank.log failed c.requires.fresh
          (subst (λ (s : ℕ). LogsLook s 0 bank.opening before.log bank.log failed) sized c.found-found.ensures.places));
    })

pub returns-clause-ends : goal.returns-clause-ends
returns-clause-ends g c =
    let B = g.B.Bank in
    let before = bank_told B c.args.bank.now in
    let bank = bank_told B c.found-found.new.bank in
    let found = c.found-found.result in
    let block = c.found-found.new.into.bytes in
    let one = one_of before.serials c.requires.one in
    let own : Serial = one.0 in
    let at : slice_get before.serials 0 ≡ Some own = ap (λ (s : List Serial). slice_get s 0) one.1 in
    let only = one_of before.sizes (sym c.disks-count.ensures.named ∙ c.requires.one) in
    let n : ℕ = only.0 in
    let sized : slice_index before.sizes 0 ≡ n = ap (λ (s : List ℕ). slice_index s 0) only.1 in
    ends_map (sink_told g.K.Sink c.args.sink.now) (sink_told g.K.Sink c.print_found.new.sink) (Prints (found_text found block) (found_status found)) (Examines bank) c.print_found.result.0
    (λ lines status printed. record {
      own = own;
      named = c.found-found.ensures.serials ∙ one.1;
      sectors = n;
      sized = c.found-found.ensures.sizes ∙ only.1;
      found = found;
      block = block;
      told = subst (λ (s : ℕ). IfSome bank.opening (λ o. IfSome bank.log (λ l. IsAnswerOn own.0 s (sector_after o l 0) found block))) sized (c.found-found.ensures.told own at);
      whole = λ is. subst (λ (s : ℕ). IsWholeDisk own.0 s block (block_in block)) sized (c.found-found.ensures.whole own at is);
      behind = c.found-found.ensures.behind;
      reads = if_told bank.log (IsLook n bank.opening (is_unread found))
          (look_alone n bank.opening before.log bank.log (is_unread found) c.requires.fresh
          (subst (λ (s : ℕ). LogsLook s 0 bank.opening before.log bank.log (is_unread found)) sized c.found-found.ensures.places));
      failed = if_told bank.log (λ l. has_failed l ≡ is_unread found) (λ l is. (reads_alone before.log bank.log 0 (is_unread found) c.requires.fresh c.found-found.ensures.reads l is).outcome);
      unread = λ is. subst (λ (k : ℕ). Rose k (bank.faults 0)) (c.requires.sound 0 (let one = c.requires.one in omega arith)) (c.found-found.ensures.unread is);
      status_is = printed.status_is;
      lines_are = printed.lines_are;
    })
    c.print_found.ensures
