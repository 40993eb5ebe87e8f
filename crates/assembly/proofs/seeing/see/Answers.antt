use Rattle.std.proofs.Common.{◌≡◌, ◌<◌, ◌++◌, ℕ, List, [], Some, refl, sym, ◌∙◌, ap, subst}
use Rattle.std.specs.Prelude.{slice_get, slice_index}
use Rattle.std.proofs.lemmas.List.{append-nil}
use Rattle.units.specs.declared.bounds.TheConstants.{METADATA_SECTORS}
use Rattle.units.specs.declared.disk.Serial.{Serial}
use Rattle.device_log.specs.Log.{Call}
use Rattle.imsm_base.specs.Parts.{block_in}
use Rattle.imsm_base.specs.Whole.{IsWholeDisk}
use Rattle.mpb_store.specs.declared.answer.Found.{Found}
use Rattle.mpb_store.specs.Answers.{IsPastFront}
use Rattle.mpb_store.specs.Banks.{IsAnswerOn, LogsLook, is_unread, sector_after}
use Rattle.assembly.specs.Seen.{bytes_of, found_of}
use Rattle.assembly.proofs.Seen.{answer_by, blank_by, told_at}
use Rattle.assembly.proofs.seeing.see.Goals as goal

pub returns-clause-seen : goal.returns-clause-seen
returns-clause-seen g c =
    let B = g.B.Bank in
    let serials = B.serials c.args.bank.now in
    let n = slice_index (B.sizes c.args.bank.now) c.args.d.0 in
    let now = c.found-found.new.bank in
    let answer = c.found-found.result in
    let block = c.found-found.new.into.bytes in
    let holds = c.in_ok-holds.holds in
    let own = c.serial.result in
    let same = c.in_ok-holds.ensures.found in
    let bytes = c.in_ok-holds.ensures.block in
    let at : slice_get serials c.args.d.0 ≡ Some own = subst (λ (l : List Serial). slice_get l c.args.d.0 ≡ Some own) c.found-found.ensures.serials c.serial.ensures in
    let size : c.sectors.result ≡ n = c.sectors.ensures ∙ ap (λ (l : List ℕ). slice_index l c.args.d.0) c.found-found.ensures.sizes in (
      record {
        disk = refl;
        serial = at;
        sectors = size;
        whole = λ whole. subst (λ (k : ℕ). IsWholeDisk own.0 k (bytes_of holds) (block_in (bytes_of holds))) (sym size)
            (subst (λ (l : List ℕ). IsWholeDisk own.0 n l (block_in l)) (sym (bytes (sym same ∙ whole))) (c.found-found.ensures.whole own at (sym same ∙ whole)));
        possible = subst IsPastFront (sym same) c.found-found.ensures.behind;
        small = λ small. blank_by holds (same ∙ c.found-found.ensures.small (subst (λ (k : ℕ). k < METADATA_SECTORS) size small));
        unread = λ is. c.found-found.ensures.unread (sym same ∙ ap found_of is);
        told = λ o all is known.
            let (first, reads, anchor, was, laid, each, stood) = c.found-found.ensures.places all known in (
              first,
              reads,
              [],
              was,
              laid ∙ sym (append-nil (first ++ reads)),
              subst (λ (k : ℕ). IsAnswerOn own.0 k (sector_after o (first ++ reads) c.args.d.0) (found_of holds) (bytes_of holds)) (sym size)
                  (subst (λ (l : List Call). IsAnswerOn own.0 n (sector_after o l c.args.d.0) (found_of holds) (bytes_of holds)) laid
                  (answer_by own.0 n (sector_after o all c.args.d.0) answer block holds same bytes
                  (told_at (B.opening now) (B.log now) (λ o l. IsAnswerOn own.0 n (sector_after o l c.args.d.0) answer block) (c.found-found.ensures.told own at) o all is known))),
            );
      },
      subst (λ (f : Found). LogsLook n c.args.d.0 (B.opening now) (B.log c.args.bank.now) (B.log now) (is_unread f)) (sym same) c.found-found.ensures.places,
    )
