-- What the opening found: the newest block as it is read, and the disks that it expects.
use Rattle.std.proofs.Common.{◌≡◌, ℕ, zero, suc, ◌-◌, ◌<◌, ◌≤◌, ◌&&◌, Bool, true, false, List, [], ◌∷◌, length, map, slice_get, slice_index, slice_index_or, nat_lt, Option, Some, None, refl, sym, ◌∙◌, ap, subst, arith}
use Rattle.std.specs.List.{list_all}
use Rattle.std.specs.Option.{IsSomeAnd}
use Rattle.std.proofs.lemmas.Bool.{and_parts, and_right, ltb-true, ltb-false, false≢true}
use Rattle.std.proofs.lemmas.Option.{get_or_from_slice_get}
use Rattle.units.specs.declared.disk.Sector.{Sector}
use Rattle.imsm_base.specs.Fields.{Part, number_at}
use Rattle.imsm_base.specs.Layout.{Block, disk_count_of, serial_of, total_blocks_of}
use Rattle.imsm_base.specs.Edits.{first_sector}
use Rattle.imsm_base.specs.Parts.{block_in}
use Rattle.imsm_base.specs.Whole.{IsWholeBlock, IsWholeDisk, expected_serials}
use Rattle.units.specs.Places.{anchor_place}
use Rattle.imsm_base.proofs.Apart.{length-disks}
use Rattle.imsm_codec.specs.Given.{given_block}
use Rattle.device_log.specs.Cells.{Cell, resting}
use Rattle.array_model.specs.Blocks.{Laid}
use Rattle.array_model.specs.Candidates.{standing, standing_from}
use Rattle.block_meaning.specs.Meaning.{bytes_of_laid, has_serial}
use Rattle.array_model.specs.Renewal.{IsRenewable}
use Rattle.array_model.specs.Script.{Asked}
use Rattle.array_model.specs.Start.{Disks, disks_of}
use Rattle.block_meaning.specs.Reading.{parts_of, block_words}
use Rattle.block_meaning.specs.Renewed.{renewed, renewed_bytes}
use Rattle.block_meaning.proofs.Decided.{disk-decided}
use Rattle.block_meaning.proofs.Renewal.{first-form}
use Rattle.stage_machine.specs.Setting.{has_disk}
use Rattle.stage_machine.specs.Opens.{SaysAll, StandsOnAll}
use Rattle.first_opening.specs.Opened.{Opened, IsOpening, serial_at, newest_of, block_of, numbers_of, targets_of, setting_of}
use Rattle.first_opening.proofs.Behind.{alone_in, bytes-alone, says-all}
use Rattle.first_opening.proofs.Numbers.{has-filter, filter-all, below-range, range-has}
use Rattle.first_opening.proofs.Records.{Speaks, speaks, expected-serial, no-empty-serial}

-- THE NEWEST BLOCK

some-list : (serials : List (List ℕ)) (disks : List Part) → length disks ≡ 2 → list_all (has_serial serials) (map serial_of disks) ≡ true → 0 < length serials
some-list (s ∷ ss) disks two there = omega arith
some-list [] [] two there = absurd (omega arith)
some-list [] (d ∷ ds) two there = absurd (false≢true there)

count-is : (bytes : List ℕ) → number_at 1 56 bytes ≡ disk_count_of (block_in bytes)
unfolding block_in
count-is bytes = refl

pub two-records : (o : Opened) → IsOpening o → length (block_in (block_of o)).disks ≡ 2
two-records o is = length-disks (block_of o) ∙ count-is (block_of o) ∙ is.first.two_disks

-- its bytes, as the laws read them
pub bytes-are : (o : Opened) → bytes_of_laid (newest_of o) ≡ block_of o
bytes-are o = bytes-alone o.anchor

-- a round edits these bytes, and no others
pub round-edits : (o : Opened) (g : ℕ) (y : Bool) → (renewed (newest_of o) g y).anchor.0 ≡ first_sector (renewed_bytes (block_of o) g y)
round-edits o g y = ap (λ (bytes : List ℕ). first_sector (renewed_bytes bytes g y)) (bytes-are o)

-- how the newest block is read
pub record IsFound (o : Opened) : Type 0 where
  pub some : 0 < length o.serials
  pub whole : IsWholeBlock (block_of o) (block_in (block_of o))
  pub bytes : bytes_of_laid (newest_of o) ≡ block_of o
  pub parts : parts_of (newest_of o) ≡ block_in (block_of o)
  pub renewable : IsRenewable block_words (newest_of o)

pub found : (o : Opened) → IsOpening o → IsFound o
found o is =
    let some : 0 < length o.serials = some-list o.serials (block_in (block_of o)).disks (two-records o is) is.there in
    let whole : IsWholeBlock (block_of o) (block_in (block_of o)) = (is.whole 0 some).whole in
    let bytes : bytes_of_laid (newest_of o) ≡ block_of o = bytes-are o in
    let disk : IsWholeDisk (serial_at o 0) (slice_index o.sizes 0) (bytes_of_laid (newest_of o)) (block_in (block_of o)) =
    subst (λ (x : List ℕ). IsWholeDisk (serial_at o 0) (slice_index o.sizes 0) x (block_in (block_of o))) (sym bytes) (is.whole 0 some) in
    record {
      some = some;
      whole = whole;
      bytes = bytes;
      parts = ap block_in bytes;
      renewable = first-form (newest_of o) (serial_at o 0) (slice_index o.sizes 0) (block_in (block_of o)) refl disk is.first;
    }

-- a round may be edited from it
pub renewable : (o : Opened) → IsOpening o → IsRenewable block_words (newest_of o)
renewable o is = (found o is).renewable

-- it is whole on each disk
pub whole-on : (o : Opened) (d : ℕ) → IsOpening o → d < length o.serials → block_words.is_whole (serial_at o d) (slice_index o.sizes d) (newest_of o) ≡ true
whole-on o d is below =
    let f : IsFound o = found o is in
    let n : ℕ = slice_index o.sizes d in
    let read : IsWholeDisk (serial_at o d) n (bytes_of_laid (newest_of o)) (parts_of (newest_of o)) =
    subst (λ (x : List ℕ). IsWholeDisk (serial_at o d) n x (block_in x)) (sym f.bytes) (is.whole d below) in
    (disk-decided (serial_at o d) n (bytes_of_laid (newest_of o))).1 read

-- THE DISKS THAT IT EXPECTS

-- the record of each disk in the table
pub own-record : (o : Opened) (d : ℕ) → IsOpening o → d < length o.serials → Speaks (serial_at o d) (block_in (block_of o)).disks (λ r. total_blocks_of r ≤ slice_index o.sizes d)
own-record o d is below = speaks (serial_at o d) (block_in (block_of o)) (λ r. total_blocks_of r ≤ slice_index o.sizes d) (is.whole d below).own_fits

pub expects-each : (o : Opened) (d : ℕ) → IsOpening o → d < length o.serials → block_words.expects (newest_of o) (serial_at o d) ≡ true
expects-each o d is below =
    let own = own-record o d is below in
    ap (λ (x : Block). has_serial (expected_serials x) (serial_at o d)) (found o is).parts
    ∙ expected-serial (block_in (block_of o)).disks own.index own.disk (serial_at o d) is.first.expected own.there own.same

-- past the last disk there is no serial, and the block expects none
expects-none : (o : Opened) (d : ℕ) → IsOpening o → length o.serials ≤ d → block_words.expects (newest_of o) (serial_at o d) ≡ false
expects-none o d is past =
    let f : IsFound o = found o is in
    ap (λ (x : Block). has_serial (expected_serials x) (serial_at o d)) f.parts
    ∙ ap (has_serial (expected_serials (block_in (block_of o)))) (no-serial o.serials d past)
    ∙ no-empty-serial (block_in (block_of o)).disks f.whole.spells.parts.disks
  where
    no-serial : (serials : List (List ℕ)) (k : ℕ) → length serials ≤ k → slice_index_or serials k [] ≡ []
    no-serial [] k past = refl
    no-serial (s ∷ ss) zero past = absurd (omega arith)
    no-serial (s ∷ ss) (suc k) past = no-serial ss k (omega arith)

pub target-below : (o : Opened) (d : ℕ) → has_disk d (targets_of o) ≡ true → d < length o.serials
target-below o d target =
    let both = and_parts (has_disk d (numbers_of o)) _ (sym (has-filter d (λ k. block_words.expects (newest_of o) (serial_at o k)) (numbers_of o)) ∙ target) in
    omega (arith, below-range d 0 (length o.serials) both.0)

expected-is : (o : Opened) (d : ℕ) → IsOpening o → block_words.expects (newest_of o) (serial_at o d) ≡ has_disk d (targets_of o)
expected-is o d is = at (nat_lt d (length o.serials)) refl ∙ sym (has-filter d (λ k. block_words.expects (newest_of o) (serial_at o k)) (numbers_of o))
  where
    at : (b : Bool) → nat_lt d (length o.serials) ≡ b → block_words.expects (newest_of o) (serial_at o d) ≡ (has_disk d (numbers_of o) && block_words.expects (newest_of o) (serial_at o d))
    at true below = sym (ap (λ (b : Bool). b && block_words.expects (newest_of o) (serial_at o d)) (range-has d 0 (length o.serials) (omega arith) (omega (arith, ltb-true d (length o.serials) below))))
    at false past =
        let none : block_words.expects (newest_of o) (serial_at o d) ≡ false = expects-none o d is (ltb-false d (length o.serials) past) in
        none ∙ sym (and_right (has_disk d (numbers_of o)) (block_words.expects (newest_of o) (serial_at o d)) none)

pub is-target : (o : Opened) (d : ℕ) → IsOpening o → d < length o.serials → has_disk d (targets_of o) ≡ true
is-target o d is below = sym (expected-is o d is) ∙ expects-each o d is below

pub targets-are : (o : Opened) → IsOpening o → targets_of o ≡ numbers_of o
targets-are o is =
    filter-all (λ d. block_words.expects (newest_of o) (serial_at o d)) (numbers_of o) (
    λ d there. expects-each o d is (omega (arith, below-range d 0 (length o.serials) there))
    )

-- WHERE IT STANDS

abbrev bank : Opened → Disks
bank o = disks_of o.serials o.sizes o.contents

-- a block of one sector stands where its anchor does
anchor-stands : (n : ℕ) (cells : ℕ → Cell) → block_words.extra (cells (anchor_place n)).stood ≡ 0 → standing block_words n cells ≡ alone_in (cells (anchor_place n)).stood
anchor-stands n cells alone =
    let anchor : Sector = (cells (anchor_place n)).stood in
    ap (λ (k : ℕ). let m : Laid = record { anchor = anchor; extended = standing_from cells (anchor_place n - k) k } in m) alone

-- the anchor sector of each disk begins with the block
begins-with : (o : Opened) (d : ℕ) → IsOpening o → d < length o.serials → given_block ((bank o).opening d (anchor_place (slice_index o.sizes d))).0 ≡ block_of o
begins-with o d is below = at (slice_get (slice_index_or o.contents d []) (anchor_place (slice_index o.sizes d))) refl (is.anchored d below)
  where
    at : (found : Option Sector) → slice_get (slice_index_or o.contents d []) (anchor_place (slice_index o.sizes d)) ≡ found → IsSomeAnd found (λ s. given_block s.0 ≡ block_of o)
        → given_block ((bank o).opening d (anchor_place (slice_index o.sizes d))).0 ≡ block_of o
    at None here h = absurd h
    at (Some s) here h =
        ap (λ (x : Sector). given_block x.0) (get_or_from_slice_get (slice_index_or o.contents d []) (anchor_place (slice_index o.sizes d)) s (record { 0 = [] }) here) ∙ h

stands-on : (o : Opened) (d : ℕ) → IsOpening o → d < length o.serials → SaysAll block_words (standing block_words (slice_index o.sizes d) (λ p. resting ((bank o).opening d p))) (newest_of o)
stands-on o d is below =
    let n : ℕ = slice_index o.sizes d in
    let cells : ℕ → Cell = λ p. resting ((bank o).opening d p) in
    let w : IsWholeBlock (block_of o) (block_in (block_of o)) = (found o is).whole in
    let long : 216 ≤ length (block_of o) = let least = w.sized.least in let given = w.given in omega (arith, least, given) in
    let says : SaysAll block_words (alone_in (cells (anchor_place n)).stood) (newest_of o) =
    says-all (cells (anchor_place n)).stood o.anchor (begins-with o d is below) long in
    subst (λ (m : Laid). SaysAll block_words m (newest_of o)) (sym (anchor-stands n cells (says.extra ∙ (renewable o is).alone))) says

pub stands-on-all : (o : Opened) (asked : Asked) (content : ℕ → ℕ → Sector) (unsure : ℕ → ℕ → Bool) → IsOpening o → StandsOnAll (setting_of o asked content unsure)
stands-on-all o asked content unsure is = record {
  container = (renewable o is).container;
  alone = (renewable o is).alone;
  short = refl;
  expected = λ d. expected-is o d is;
  stands = λ d target. stands-on o d is (target-below o d target);
  whole = λ d target. whole-on o d is (target-below o d target);
}
