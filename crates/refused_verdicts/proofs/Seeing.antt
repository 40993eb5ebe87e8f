-- What was seen of the disks of a bank that tells what stood on them.
use Rattle.std.proofs.Common.{◌≡◌, ◌≤◌, ℕ, List, [], ◌++◌, length, Option, Some, sym, ◌∙◌, ap, subst}
use Rattle.std.specs.Prelude.{IfSome, slice_get, slice_index}
use Rattle.units.specs.declared.disk.Sector.{Sector}
use Rattle.imsm_base.specs.Parts.{block_in}
use Rattle.imsm_base.specs.Whole.{IsWholeDisk}
use Rattle.device_log.specs.Log.{Call, OnlyReads}
use Rattle.member_bank.specs.Faults.{Rose}
use Rattle.mpb_store.specs.declared.answer.Found.TheVariants as found
use Rattle.mpb_store.specs.Banks.{IsAnswerOn}
use Rattle.container.specs.declared.seen.Seen.{Seen}
use Rattle.container.specs.declared.seen.SeenAs.TheVariants.{Unread}
use Rattle.assembly.specs.Seen.{IsSeen, Looks, are_unread, bytes_of, found_of}
use Rattle.image_outside.specs.Told.{BankTold}
use Rattle.image_assemble.specs.Endings.{IsEmpty}
use Rattle.refused_verdicts.specs.Told.{Tells, stood_on}
use Rattle.refused_verdicts.proofs.Looked.{LooksAre, ToldLooks, looks_read, looks_told, reads_front, stood_so}

-- disk k was seen as it stood when it was opened
pub record IsSeenSo (opening : List (List Sector)) (bank : BankTold) (k : ℕ) (s : Seen) : Type 0 where
  pub disk : s.disk.0 ≡ k
  pub serial : slice_get bank.serials k ≡ Some s.serial
  pub sectors : s.sectors ≡ slice_index bank.sizes k
  pub whole : found_of s.holds ≡ found.Whole → IsWholeDisk s.serial.0 s.sectors (bytes_of s.holds) (block_in (bytes_of s.holds))
  pub unread : s.holds ≡ Unread → Rose 0 (bank.faults k)
  pub stands : IsAnswerOn s.serial.0 (slice_index bank.sizes k) (stood_on opening k) (found_of s.holds) (bytes_of s.holds)

-- some first disks were seen so, and these are the calls
pub record AreSeenSo (opening : List (List Sector)) (log : List Call) (bank : BankTold) (seen : List Seen) : Type 0 where
  pub few : length seen ≤ length bank.serials
  pub each : (k : ℕ) (s : Seen) → slice_get seen k ≡ Some s → IsSeenSo opening bank k s
  pub calls : LooksAre bank.sizes opening 0 (are_unread seen) log

module _ (opening : List (List Sector)) (log : List Call) (bank : BankTold) (tells : Tells opening log bank) (before : Option (List Call)) (fresh : IsEmpty before) (seen : List Seen)
    (few : length seen ≤ length bank.serials)
    (each : (k : ℕ) (s : Seen) → slice_get seen k ≡ Some s → IsSeen bank.serials bank.sizes bank.opening before bank.log (λ d. 0) bank.faults k s)
    (looks : Looks bank.sizes bank.opening 0 before (are_unread seen) bank.log) where
  told : ToldLooks bank.sizes opening 0 before (are_unread seen) log
  told = looks_told bank.sizes opening bank.opening 0 before (are_unread seen) bank.log log tells.stood tells.logged looks

  none_first : (first : List Call) → before ≡ Some first → first ≡ []
  none_first first was = subst (λ (l : Option (List Call)). IfSome l (λ calls. calls ≡ [])) was fresh

  these : LooksAre bank.sizes opening 0 (are_unread seen) log
  these =
      let none = none_first told.first told.was in
      let all : log ≡ told.calls = told.laid ∙ ap (λ (l : List Call). l ++ told.calls) none in
      subst (LooksAre bank.sizes opening 0 (are_unread seen)) (sym all) (told.are (subst OnlyReads (sym none) tt))

  all_reads : OnlyReads log
  all_reads = looks_read bank.sizes opening 0 (are_unread seen) log these

  seen_so : (k : ℕ) (s : Seen) → IsSeen bank.serials bank.sizes bank.opening before bank.log (λ d. 0) bank.faults k s → IsSeenSo opening bank k s
  seen_so k s is = record {
    disk = is.disk;
    serial = is.serial;
    sectors = is.sectors;
    whole = is.whole;
    unread = is.unread;
    stands =
        let (first, since, rest, was, laid, answer) = is.told opening log tells.stood tells.logged in
        let reads : OnlyReads (first ++ since) = reads_front (first ++ since) rest (subst OnlyReads laid all_reads) in
        subst (λ (n : ℕ). IsAnswerOn s.serial.0 n (stood_on opening k) (found_of s.holds) (bytes_of s.holds)) is.sectors
        (subst (λ (at : ℕ → Sector). IsAnswerOn s.serial.0 s.sectors at (found_of s.holds) (bytes_of s.holds)) (stood_so opening (first ++ since) k reads) answer);
  }

  pub are_seen_so : AreSeenSo opening log bank seen
  are_seen_so = record { few = few; each = λ k s at. seen_so k s (each k s at); calls = these }
