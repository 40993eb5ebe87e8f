-- The record of a disk that failed: it isn't expected any more, and all else of the table stays.
use Rattle.std.proofs.Common.{◌≡◌, ◌≢◌, ℕ, ◌≤◌, ◌<◌, ◌&&◌, not, Bool, true, false, List, [], length, get_or, set, Option, refl, sym, ◌∙◌, ap, subst, inl, inr, arith}
use Rattle.std.specs.Prelude.{find, nat_le, slice_get}
use Rattle.std.specs.Option.{option_map_or, IsSomeAnd}
use Rattle.std.specs.List.{AllByRecursion}
use Rattle.std.specs.Str.{bytes_eq}
use Rattle.std.proofs.lemmas.Bool.{and_parts, and_left, and_right, cases_eq, cases_lt, false_from_ne_true, false≢true}
use Rattle.std.proofs.lemmas.List.{get_or-set_other, get_or_default}
use Rattle.byteorder.specs.Endian.{little_bytes}
use Rattle.imsm_base.specs.Fields.{Part, number}
use Rattle.imsm_base.specs.Layout.{Block, HasLengths, IsBlock, disk_lengths, serial_of, total_blocks_of, status_of}
use Rattle.imsm_base.specs.Volumes.{is_expected_at}
use Rattle.imsm_base.specs.Whole.{AreApart, is_expected, expected_serials, own_record, first_of}
use Rattle.imsm_base.proofs.Spliced.{set-lengths}
use Rattle.imsm_base.proofs.Edited.{fields_of}
use Rattle.imsm_codec.specs.Mpb.{disk_at}
use Rattle.imsm_codec.specs.Table.{are_twins}
use Rattle.imsm_codec.proofs.Twins.{no_twins_from_apart, apart_from_no_twins}
use Rattle.imsm_buffer.proofs.Lowered.{at_changed}
use Rattle.imsm_buffer.proofs.Replaced.{length-changed_at, all-changed_at, all-at}
use Rattle.imsm_edit.specs.Failures.{with_failed_bit, record_failed}
use Rattle.imsm_edit.proofs.Lost.{not_expected}
use Rattle.block_meaning.specs.Meaning.{has_serial}
use Rattle.array_edits.proofs.Moves.{SameSectors}
use Rattle.array_edits.proofs.Supports.{any_none}
use Rattle.array_edits.proofs.Means.{at_other, KeepsOwn}
use Rattle.array_edits.proofs.Disks.{eq_serial, serial_eq, any_pointwise, find_pointwise, expects_serial, has_expected, IsRecord, only_record, record_at, record_past, serial_at, other_serial}

-- EACH RECORD

lost_length : (b : Block) (i : ℕ) → length (record_failed b i).disks ≡ length b.disks
lost_length b i = length-changed_at i (λ d. set d 3 (little_bytes 4 (with_failed_bit (status_of (disk_at i b))))) b.disks

lost_here : (b : Block) (i : ℕ) → i < length b.disks → disk_at i (record_failed b i) ≡ set (disk_at i b) 3 (little_bytes 4 (with_failed_bit (status_of (disk_at i b))))
lost_here b i below = at_changed i (λ d. set d 3 (little_bytes 4 (with_failed_bit (status_of (disk_at i b))))) b.disks [] below

lost_other : (b : Block) (i j : ℕ) → j ≢ i → disk_at j (record_failed b i) ≡ disk_at j b
lost_other b i j other = at_other i (λ d. set d 3 (little_bytes 4 (with_failed_bit (status_of (disk_at i b))))) b.disks j [] other

-- a word of a record that the failure leaves
lost_word : {X : Type 0} (word : Part → X) (b : Block) (i j : ℕ) → ((d : Part) (w : List ℕ) → word (set d 3 w) ≡ word d) → i < length b.disks → word (disk_at j (record_failed b i)) ≡ word (disk_at j b)
lost_word word b i j same below = elim (cases_eq j i) [
  | inl e ↦ subst (λ (k : ℕ). word (disk_at k (record_failed b i)) ≡ word (disk_at k b)) (sym e) (ap word (lost_here b i below) ∙ same (disk_at i b) _)
  | inr other ↦ ap word (lost_other b i j other)
]

serial_stays : (d : Part) (w : List ℕ) → serial_of (set d 3 w) ≡ serial_of d
serial_stays d w = get_or-set_other d 3 0 w [] (λ e. omega arith)

total_stays : (d : Part) (w : List ℕ) → total_blocks_of (set d 3 w) ≡ total_blocks_of d
total_stays d w =
    let low : number (get_or (set d 3 w) 1 []) ≡ number (get_or d 1 []) = ap number (get_or-set_other d 3 1 w [] (λ e. omega arith)) in
    let high : number (get_or (set d 3 w) 5 []) ≡ number (get_or d 5 []) = ap number (get_or-set_other d 3 5 w [] (λ e. omega arith)) in
    omega (arith, low, high)

-- BY INDEX

at_index : {X : Type 0} (word : Part → X) (none : X) (b : Block) (i j : ℕ) → (j < length b.disks → word (disk_at j (record_failed b i)) ≡ word (disk_at j b)) →
    option_map_or word (slice_get (record_failed b i).disks j) none ≡ option_map_or word (slice_get b.disks j) none
at_index word none b i j same = elim (cases_lt j (length b.disks)) [
  | inl below ↦ record_at word none (record_failed b i) j (omega (arith, lost_length b i)) ∙ same below ∙ sym (record_at word none b j below)
  | inr past ↦ record_past word none (record_failed b i) j (omega (arith, lost_length b i)) ∙ sym (record_past word none b j past)
]

pub lost_serial : (b : Block) (i j : ℕ) → i < length b.disks → serial_at (record_failed b i) j ≡ serial_at b j
lost_serial b i j below = at_index serial_of [] b i j (λ low. lost_word serial_of b i j serial_stays below)

pub lost_sectors : (b : Block) (i : ℕ) → i < length b.disks → SameSectors b (record_failed b i)
lost_sectors b i below j n has =
    at_index (λ d. nat_le n (total_blocks_of d)) false b i j (λ low. ap (nat_le n) (lost_word total_blocks_of b i j total_stays below)) ∙ has

fields_at : (b : Block) (i : ℕ) → IsBlock b → i < length b.disks → length (disk_at i b) ≡ 7
fields_at b i is below = fields_of disk_lengths (disk_at i b) (all-at (HasLengths disk_lengths) i b.disks [] is.disks below)

pub lost_fails_at : (b : Block) (i : ℕ) → IsBlock b → i < length b.disks → is_expected_at (record_failed b i) i ≡ false
lost_fails_at b i is below = not_expected b i below (fields_at b i is below)

-- each record is expected as before, but for that of the disk
pub lost_expected : (serial : List ℕ) (b : Block) (i j : ℕ) → IsBlock b → AreApart (expected_serials b) → IsRecord serial b i →
    is_expected_at (record_failed b i) j ≡ (not (bytes_eq serial (serial_at b j)) && is_expected_at b j)
lost_expected serial b i j is apart r = elim (cases_eq j i) [
  | inl e ↦ ap (is_expected_at (record_failed b i)) e ∙ not_expected b i r.below (fields_at b i is r.below)
      ∙ sym (ap (λ (t : Bool). not t && is_expected_at b j) (eq_serial serial (serial_at b j) (sym r.serial_is ∙ sym (record_at serial_of [] b i r.below) ∙ ap (serial_at b) (sym e))))
  | inr other ↦ at_index is_expected false b i j (λ low. ap is_expected (lost_other b i j other)) ∙ sym (other_serial serial b i j apart r other)
]

-- THE TABLE

pub lost_disks : (b : Block) (i : ℕ) → IsBlock b → i < length b.disks → AllByRecursion (HasLengths disk_lengths) (record_failed b i).disks
lost_disks b i is below =
    let w : List ℕ = little_bytes 4 (with_failed_bit (status_of (disk_at i b))) in
    all-changed_at (HasLengths disk_lengths) i (λ d. set d 3 w) b.disks [] is.disks
    (set-lengths disk_lengths (disk_at i b) 3 w (all-at (HasLengths disk_lengths) i b.disks [] is.disks below) refl)

pub lost_count : (b : Block) (i : ℕ) → length (record_failed b i).disks ≡ length b.disks
lost_count b i = lost_length b i

-- the record isn't expected
lost_fails : (b : Block) (i : ℕ) → IsBlock b → i < length b.disks → is_expected (disk_at i (record_failed b i)) ≡ false
lost_fails b i is below =
    sym (record_at is_expected false (record_failed b i) i (omega (arith, lost_length b i))) ∙ not_expected b i below (fields_at b i is below)

pub lost_apart : (b : Block) (i : ℕ) → IsBlock b → i < length b.disks → AreApart (expected_serials b) → AreApart (expected_serials (record_failed b i))
lost_apart b i is below apart = apart_from_no_twins c.disks none
  where
    c : Block
    c = record_failed b i

    none : (k l : ℕ) → k < l → l < length c.disks → are_twins (disk_at k c) (disk_at l c) ≡ false
    none k l before inside = elim (cases_eq k i) [
      | inl e ↦ and_left _ _ (and_left _ _ (ap (λ (n : ℕ). is_expected (disk_at n c)) e ∙ lost_fails b i is below))
      | inr first ↦ elim (cases_eq l i) [
        | inl e ↦ and_left _ _ (and_right (is_expected (disk_at k c)) _ (ap (λ (n : ℕ). is_expected (disk_at n c)) e ∙ lost_fails b i is below))
        | inr second ↦ ap (λ (d : Part). are_twins d (disk_at l c)) (lost_other b i k first) ∙ ap (are_twins (disk_at k b)) (lost_other b i l second)
            ∙ no_twins_from_apart b.disks apart k l before (omega (arith, lost_length b i))
      ]
    ]

-- of another serial the same record is expected
lost_test : (b : Block) (serial other : List ℕ) (i k : ℕ) → IsBlock b → IsRecord serial b i → bytes_eq serial other ≡ false → expects_serial other (disk_at k (record_failed b i)) ≡ expects_serial other (disk_at k b)
lost_test b serial other i k is r apart = elim (cases_eq k i) [
  | inl e ↦ subst (λ (n : ℕ). expects_serial other (disk_at n (record_failed b i)) ≡ expects_serial other (disk_at n b)) (sym e)
      (and_left _ _ (lost_fails b i is r.below) ∙ sym (and_right (is_expected (disk_at i b)) _ (ap (λ (x : List ℕ). bytes_eq x other) r.serial_is ∙ apart)))
  | inr away ↦ ap (expects_serial other) (lost_other b i k away)
]

pub lost_expects : (b : Block) (serial other : List ℕ) (i : ℕ) → IsBlock b → AreApart (expected_serials b) → IsRecord serial b i →
    has_serial (expected_serials (record_failed b i)) other ≡ (not (bytes_eq serial other) && has_serial (expected_serials b) other)
lost_expects b serial other i is apart r = by_serial (bytes_eq serial other) refl
  where
    c : Block
    c = record_failed b i

    gone : serial ≡ other → (k : ℕ) (d : Part) → k < length c.disks → expects_serial other (get_or c.disks k d) ≡ false
    gone same k d inside = false_from_ne_true _ (λ e.
        let here : expects_serial other (disk_at k c) ≡ true = ap (expects_serial other) (sym (get_or_default_part c.disks k d inside)) ∙ e in
        let parts = and_parts (is_expected (disk_at k c)) (bytes_eq (serial_of (disk_at k c)) other) here in
        elim (cases_eq k i) [
          | inl at ↦ false≢true (sym (lost_fails b i is r.below) ∙ ap (λ (n : ℕ). is_expected (disk_at n c)) (sym at) ∙ parts.0)
          | inr away ↦ away (sym (only_record b i k apart r.below (omega (arith, lost_length b i)) r.expected (ap is_expected (sym (lost_other b i k away)) ∙ parts.0)
              (r.serial_is ∙ same ∙ sym (serial_eq _ _ parts.1) ∙ ap serial_of (lost_other b i k away))))
        ])
      where
        get_or_default_part : (ds : List Part) (n : ℕ) (d : Part) → n < length ds → get_or ds n d ≡ get_or ds n []
        get_or_default_part ds n d below = get_or_default ds n d [] below

    by_serial : (t : Bool) → bytes_eq serial other ≡ t → has_serial (expected_serials c) other ≡ (not t && has_serial (expected_serials b) other)
    by_serial true e = has_expected c.disks other ∙ any_none (expects_serial other) c.disks (gone (serial_eq serial other e))
    by_serial false e =
        has_expected c.disks other
        ∙ any_pointwise (expects_serial other) (expects_serial other) c.disks b.disks [] [] (lost_length b i) (λ k inside. lost_test b serial other i k is r e)
        ∙ sym (has_expected b.disks other)

pub lost_own : (b : Block) (serial : List ℕ) (i : ℕ) → IsBlock b → AreApart (expected_serials b) → IsRecord serial b i → KeepsOwn b (record_failed b i)
lost_own b serial i is apart r other n expected own =
    subst (λ (o : Option Part). IsSomeAnd o (λ d. total_blocks_of d ≤ n)) (sym same) own
  where
    c : Block
    c = record_failed b i

    away : bytes_eq serial other ≡ false
    away = false_from_ne_true _ (λ e. false≢true (sym (ap (λ (t : Bool). not t && has_serial (expected_serials b) other) e) ∙ sym (lost_expects b serial other i is apart r) ∙ expected))

    -- a record of the other serial isn't that of the disk
    apart_from : (k : ℕ) → bytes_eq (serial_of (disk_at k c)) other ≡ true → disk_at k c ≡ disk_at k b
    apart_from k e =
        lost_other b i k (λ at. false≢true (sym away ∙ eq_serial serial other
        (sym r.serial_is ∙ sym (lost_word serial_of b i i serial_stays r.below) ∙ ap (λ (n : ℕ). serial_of (disk_at n c)) (sym at) ∙ serial_eq _ _ e)))

    one : find (expects_serial other) c.disks ≡ find (expects_serial other) b.disks
    one =
        find_pointwise (expects_serial other) c.disks b.disks [] (lost_length b i) (λ k inside. lost_test b serial other i k is r away)
        (λ k inside e. apart_from k (and_parts (is_expected (disk_at k c)) (bytes_eq (serial_of (disk_at k c)) other) e).1)

    two : find (λ d. bytes_eq (serial_of d) other) c.disks ≡ find (λ d. bytes_eq (serial_of d) other) b.disks
    two =
        find_pointwise (λ d. bytes_eq (serial_of d) other) c.disks b.disks [] (lost_length b i)
        (λ k inside. ap (λ (x : List ℕ). bytes_eq x other) (lost_word serial_of b i k serial_stays r.below)) (λ k inside e. apart_from k e)

    same : own_record other c ≡ own_record other b
    same = ap (λ (o : Option Part). first_of o (find (λ d. bytes_eq (serial_of d) other) c.disks)) one ∙ ap (first_of (find (expects_serial other) b.disks)) two
