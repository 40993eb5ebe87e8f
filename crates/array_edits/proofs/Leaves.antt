-- A record that leaves: no slot has it, and each slot keeps its disk under a lower index.
use Rattle.std.proofs.Common.{◌≡◌, ℕ, zero, suc, ◌+◌, ◌-◌, ◌%◌, ◌^◌, ◌≤◌, ◌<◌, ◌==◌, ◌&&◌, ◌||◌, ◌⊎◌, not, if◌then◌else◌, Bool, true, false, cond, List, [], ◌∷◌, length, map, get_or, Option, Some, None, refl, sym, ◌∙◌, ap, subst, inl, inr, arith}
use Rattle.std.specs.Prelude.{filter, find, nat_le, nat_lt, slice_get}
use Rattle.std.specs.Option.{option_map_or, IsSomeAnd}
use Rattle.std.specs.List.{list_any, position, remove, AllByRecursion, AllZip}
use Rattle.std.specs.Int.{bit_at}
use Rattle.std.specs.Str.{bytes_eq}
use Rattle.std.proofs.lemmas.Bool.{and_left, and_from, or_parts, cases_lt, eqb-false, false_from_ne_true, false≢true, lt-ltb, le-ltb, ltb-true, ltb-false}
use Rattle.std.proofs.lemmas.List.{get_or-map, get_or-set_other}
use Rattle.std.proofs.lemmas.List.Edits.{length-remove, get_or-remove_below, get_or-remove_above}
use Rattle.std.proofs.lemmas.List.Folds.{list_any_at}
use Rattle.std.proofs.lemmas.List.Quantifiers.{position-Some}
use Rattle.byteorder.specs.Endian.{little_bytes}
use Rattle.imsm_base.specs.Fields.{Part, number}
use Rattle.imsm_base.specs.Layout.{Block, Volume, IsVolume, IsBlock, serial_of, total_blocks_of, disk_count_of, member_count_of}
use Rattle.imsm_base.specs.Volumes.{blank_map, first_map, member, is_expected_at, has_migration, has_sectors, is_dirty, has_pass}
use Rattle.imsm_base.specs.Whole.{AreApart, is_expected, expected_serials, own_record, first_of}
use Rattle.imsm_base.specs.EditsOfTables.{lowered, volume_without_disk, block_without_record, block_without_disk}
use Rattle.imsm_base.proofs.Edited.{other_field}
use Rattle.imsm_codec.specs.Mpb.{disk_at, volume_at, blank_volume}
use Rattle.imsm_buffer.proofs.TableEdits.{with_disk_less-is, counted}
use Rattle.array_model.specs.Start.{Start}
use Rattle.block_meaning.specs.Meaning.{has_serial, slot_words}
use Rattle.array_machine.specs.Setting.{Facts, RemovesDisk}
use Rattle.array_machine.specs.EditWords.{KeepsSlot}
use Rattle.array_edits.specs.Records.{names_index, is_in_use, without_index, without_serial}
use Rattle.array_edits.proofs.Steady.{Steady, has_maps}
use Rattle.array_edits.proofs.Steps.{entry_lowered, lowered_is, lowered_steady, slotwise}
use Rattle.array_edits.proofs.Supports.{any_fails, needed}
use Rattle.array_edits.proofs.Moves.{IsServed, MovesAt, served_moved, steady_at, index_at, slots_at}
use Rattle.array_edits.proofs.Sound.{IsSound, made_sound, volumes_stay}
use Rattle.array_edits.proofs.Slots.{slots_by, keeps_itself}
use Rattle.array_edits.proofs.Means.{Means, KeepsOwn}
use Rattle.array_edits.proofs.Marks.{volume_is}
use Rattle.array_edits.proofs.Entries.{entry_of, first_entries, index_each, index_of_entry, bit_of, out_stays}
use Rattle.array_edits.proofs.Disks.{serial_eq, eq_serial, ne_serial, expects_serial, has_expected, record_at, record_past, serial_at}
use Rattle.array_edits.proofs.Idle.{pass_none}

-- A LOWER INDEX

-- the index behind a record that left
abbrev low : ℕ → ℕ → ℕ
low i j = if nat_lt i j then j - 1 else j

low_above : (i j : ℕ) → i < j → low i j ≡ j - 1
low_above i j above = ap (λ (t : Bool). if t then j - 1 else j) (lt-ltb i j above)

low_below : (i j : ℕ) → j ≤ i → low i j ≡ j
low_below i j below = ap (λ (t : Bool). if t then j - 1 else j) (le-ltb i j below)

low_apart : (i j k : ℕ) → (j ≡ i → ⊥) → (k ≡ i → ⊥) → low i j ≡ low i k → j ≡ k
low_apart i j k first second same = elim (cases_lt i j) [
  | inl above ↦ elim (cases_lt i k) [
    | inl over ↦ omega (arith, low_above i j above, low_above i k over)
    | inr under ↦ absurd (omega (arith, low_above i j above, low_below i k under))
  ]
  | inr below ↦ elim (cases_lt i k) [
    | inl over ↦ absurd (omega (arith, low_below i j below, low_above i k over))
    | inr under ↦ omega (arith, low_below i j below, low_below i k under)
  ]
]

low_bound : (i j n : ℕ) → (j ≡ i → ⊥) → i < n → j < n → low i j < n - 1
low_bound i j n other inside within = elim (cases_lt i j) [
  | inl above ↦ omega (arith, low_above i j above)
  | inr below ↦ omega (arith, low_below i j below)
]

-- AN ENTRY

number_lowered : (i n : ℕ) → number (little_bytes 4 (lowered i n)) % 2 ^ 24 ≡ low i (n % 2 ^ 24)
number_lowered i n = by_test (nat_lt i (n % 2 ^ 24)) refl
  where
    by_test : (t : Bool) → nat_lt i (n % 2 ^ 24) ≡ t → number (little_bytes 4 (if t then n - 1 else n)) % 2 ^ 24 ≡ (if t then n % 2 ^ 24 - 1 else n % 2 ^ 24)
    by_test true e = let above : i < n % 2 ^ 24 = ltb-true _ _ e in omega arith
    by_test false e = omega arith

bit_lowered : (i n : ℕ) → bit_of (number (little_bytes 4 (lowered i n))) ≡ bit_of n
bit_lowered i n = by_test (nat_lt i (n % 2 ^ 24)) refl
  where
    bits : (m : ℕ) → m ≡ n ⊎ ((m ≡ n - 1) × (0 < n % 2 ^ 24)) → bit_at (number (little_bytes 4 m)) 24 ≡ bit_at n 24
    bits m (inl e) = omega arith
    bits m (inr p) = let e : m ≡ n - 1 = p.0 in let some : 0 < n % 2 ^ 24 = p.1 in omega arith

    by_test : (t : Bool) → nat_lt i (n % 2 ^ 24) ≡ t → bit_of (number (little_bytes 4 (if t then n - 1 else n))) ≡ bit_of n
    by_test true e = let above : i < n % 2 ^ 24 = ltb-true _ _ e in ap (λ (k : ℕ). k == 1) (bits (n - 1) (inr (refl, omega arith)))
    by_test false e = ap (λ (k : ℕ). k == 1) (bits n (inl refl))

-- A SLOT

-- no slot of these names the index
abbrev pub IsFreeOf : ℕ → Block → Type 0
IsFreeOf i b = is_in_use i b ≡ false

free_slot : (b : Block) (i k s : ℕ) → IsFreeOf i b → k < length b.volumes → IsVolume (volume_at k b) → s < slots_at b k → index_at b k s ≡ i → ⊥
free_slot b i k s free below is inside same =
    let v : Volume = volume_at k b in
    let some = has_maps v is in
    let none : list_any (names_index i) v.maps ≡ false = any_fails (λ (x : Volume). list_any (names_index i) x.maps) b.volumes k blank_volume free below in
    let first : names_index i (first_map v) ≡ false = any_fails (names_index i) v.maps 0 blank_map none some.0 in
    let entry : (number (entry_of s (first_map v)) % 2 ^ 24 == i) ≡ false = any_fails (λ e. number e % 2 ^ 24 == i) (first_map v).entries s [] first (omega (arith, first_entries v is)) in
    eqb-false _ _ entry (sym (index_of_entry v s is inside) ∙ same)

slotwise_index : (i : ℕ) (v : Volume) (s : ℕ) → IsVolume v → s < member_count_of (first_map v) → (member (slotwise (λ k. entry_lowered i) v) s).index ≡ low i (member v s).index
slotwise_index i v s is below =
    index_each (λ k. entry_lowered i) v s is below ∙ number_lowered i (number (entry_of s (first_map v))) ∙ ap (low i) (sym (index_of_entry v s is below))

lowered_index : (i : ℕ) (v : Volume) (s : ℕ) → IsVolume v → s < member_count_of (first_map v) → (member (volume_without_disk i v) s).index ≡ low i (member v s).index
lowered_index i v s is below = subst (λ (x : Volume). (member x s).index ≡ low i (member v s).index) (lowered_is i v) (slotwise_index i v s is below)

lowered_out : (i : ℕ) (v : Volume) (s : ℕ) → (member (volume_without_disk i v) s).is_out ≡ (member v s).is_out
lowered_out i v s =
    subst (λ (x : Volume). (member x s).is_out ≡ (member v s).is_out) (lowered_is i v) (out_stays (λ k. entry_lowered i) v s (λ e. bit_lowered i (number e)))

-- THE TABLE

removed_at : {X : Type 0} (word : Part → X) (none : X) (b : Block) (i j : ℕ) → i < length b.disks → (j ≡ i → ⊥) →
    option_map_or word (slice_get (remove b.disks i) (low i j)) none ≡ option_map_or word (slice_get b.disks j) none
removed_at word none b i j inside other = elim (cases_lt j (length b.disks)) [
  | inl below ↦
      let within : low i j < length b.disks - 1 = low_bound i j (length b.disks) other inside below in
      record_at word none c (low i j) (omega (arith, length-remove b.disks i inside)) ∙ ap word (moved below) ∙ sym (record_at word none b j below)
  | inr past ↦ record_past word none c (low i j) (omega (arith, length-remove b.disks i inside, low_above i j (omega arith))) ∙ sym (record_past word none b j past)
]
  where
    c : Block
    c = block_without_record b i

    moved : j < length b.disks → get_or (remove b.disks i) (low i j) [] ≡ get_or b.disks j []
    moved below = elim (cases_lt i j) [
      | inl above ↦
          let back : j - 1 + 1 ≡ j = omega arith in
          ap (λ (n : ℕ). get_or (remove b.disks i) n []) (low_above i j above) ∙ get_or-remove_above b.disks i [] (j - 1) (omega arith) inside ∙ ap (λ (n : ℕ). get_or b.disks n []) back
      | inr under ↦ ap (λ (n : ℕ). get_or (remove b.disks i) n []) (low_below i j under) ∙ get_or-remove_below b.disks i [] j (omega arith) inside
    ]

filter_removed : (p : Part → Bool) (ds : List Part) (i : ℕ) → i < length ds → p (get_or ds i []) ≡ false → filter p (remove ds i) ≡ filter p ds
filter_removed p [] i below e = absurd (omega arith)
filter_removed p (d ∷ ds) zero below e = sym (ap (λ (t : Bool). cond t (d ∷ filter p ds) (filter p ds)) e)
filter_removed p (d ∷ ds) (suc i) below e = ap (λ (xs : List Part). cond (p d) (d ∷ xs) xs) (filter_removed p ds i (omega arith) e)

find_removed : (p : Part → Bool) (ds : List Part) (i : ℕ) → i < length ds → p (get_or ds i []) ≡ false → find p (remove ds i) ≡ find p ds
find_removed p [] i below e = absurd (omega arith)
find_removed p (d ∷ ds) zero below e = sym (ap (λ (t : Bool). cond t (Some d) (find p ds)) e)
find_removed p (d ∷ ds) (suc i) below e = ap (λ (o : Option Part). cond (p d) (Some d) o) (find_removed p ds i (omega arith) e)

-- the record that leaves
pub record Goes (serial : List ℕ) (b : Block) (i : ℕ) : Type 0 where
  pub below : i < length b.disks
  pub serial_is : serial_of (disk_at i b) ≡ serial
  pub unexpected : is_expected (disk_at i b) ≡ false
  pub free : IsFreeOf i b
  pub others : 2 ≤ length b.disks

removed_serials : (serial : List ℕ) (b : Block) (i : ℕ) → Goes serial b i → expected_serials (block_without_disk b i) ≡ expected_serials b
removed_serials serial b i g = ap (map serial_of) (filter_removed is_expected b.disks i g.below g.unexpected)

removed_own : (serial : List ℕ) (b : Block) (i : ℕ) → Goes serial b i → has_serial (expected_serials b) serial ≡ false → KeepsOwn b (block_without_disk b i)
removed_own serial b i g none other n has own =
    subst (λ (o : Option Part). IsSomeAnd o (λ d. total_blocks_of d ≤ n)) (sym same) own
  where
    c : Block
    c = block_without_disk b i

    away : bytes_eq (serial_of (disk_at i b)) other ≡ false
    away = ne_serial _ _ (λ e. false≢true (sym none ∙ ap (has_serial (expected_serials b)) (sym g.serial_is ∙ e) ∙ ap (λ (xs : List (List ℕ)). has_serial xs other) (sym (removed_serials serial b i g)) ∙ has))

    same : own_record other c ≡ own_record other b
    same =
        ap (λ (o : Option Part). first_of o (find (λ d. bytes_eq (serial_of d) other) c.disks)) (find_removed (expects_serial other) b.disks i g.below (and_left _ _ g.unexpected))
        ∙ ap (first_of (find (expects_serial other) b.disks)) (find_removed (λ d. bytes_eq (serial_of d) other) b.disks i g.below away)

-- THE BLOCK

all_lowered : (i : ℕ) (vs : List Volume) → AllByRecursion IsVolume vs → AllZip Steady vs (map (volume_without_disk i) vs)
all_lowered i [] all = tt
all_lowered i (v ∷ vs) all = (lowered_steady i v all.0, all_lowered i vs all.1)

pub removed_volume : (b : Block) (i k : ℕ) → k < length b.volumes → volume_at k (block_without_disk b i) ≡ volume_without_disk i (volume_at k b)
removed_volume b i k below = get_or-map (volume_without_disk i) b.volumes k blank_volume blank_volume below

removed_index : (start : Start) (b : Block) (i k s : ℕ) → IsSound start b → k < length b.volumes → s < slots_at b k → index_at (block_without_disk b i) k s ≡ low i (index_at b k s)
removed_index start b i k s sound below inside =
    ap (λ (x : Volume). (member x s).index) (removed_volume b i k below) ∙ lowered_index i (volume_at k b) s (volume_is start b k sound below) inside

removed_moves : (start : Start) (serial : List ℕ) (b : Block) (i k : ℕ) → IsSound start b → Goes serial b i → disk_count_of (block_without_disk b i) ≡ length b.disks - 1 → k < length b.volumes → MovesAt b (block_without_disk b i) k
removed_moves start serial b i k sound g count below =
    let c : Block = block_without_disk b i in
    let v : Volume = volume_at k b in
    let index : (o s : ℕ) → o < length b.volumes → s < slots_at b o → index_at c o s ≡ low i (index_at b o s) = λ o s there inside. removed_index start b i o s sound there inside in
    let other : (o s : ℕ) → o < length b.volumes → s < slots_at b o → index_at b o s ≡ i → ⊥ = λ o s there inside. free_slot b i o s g.free there (volume_is start b o sound there) inside in
    record {
      migration = λ good. ap (λ (x : Volume). has_migration x) (removed_volume b i k below) ∙ good;
      bound = λ s inside within.
          let small : low i (index_at b k s) < length b.disks - 1 = low_bound i (index_at b k s) (length b.disks) (other k s below inside) g.below (omega (arith, sound.is.disk_count)) in
          omega (arith, index k s below inside, count);
      sectors = λ s inside has.
          ap (λ (j : ℕ). has_sectors c (needed v) (record { index = j; is_out = false })) (index k s below inside)
          ∙ removed_at (λ d. nat_le (needed v) (total_blocks_of d)) false b i (index_at b k s) g.below (other k s below inside) ∙ has;
      apart = λ o s t there inside within same.
          low_apart i (index_at b k s) (index_at b o t) (other k s below inside) (other o t there within) (sym (index k s below inside) ∙ same ∙ index o t there within);
    }

removed_slot : (start : Start) (serial : List ℕ) (b : Block) (i k s : ℕ) → IsSound start b → Goes serial b i → k < length b.volumes → s < slots_at b k →
    KeepsSlot (slot_words b (member (volume_at k b) s)) (slot_words (block_without_disk b i) (member (volume_at k (block_without_disk b i)) s))
removed_slot start serial b i k s sound g below inside =
    let c : Block = block_without_disk b i in
    let index : index_at c k s ≡ low i (index_at b k s) = removed_index start b i k s sound below inside in
    let other : index_at b k s ≡ i → ⊥ = free_slot b i k s g.free below (volume_is start b k sound below) inside in
    let expected : is_expected_at c (index_at c k s) ≡ is_expected_at b (index_at b k s) = ap (is_expected_at c) index ∙ removed_at is_expected false b i (index_at b k s) g.below other in
    record {
      serial = ap (serial_at c) index ∙ removed_at serial_of [] b i (index_at b k s) g.below other;
      expected = expected;
      in_sync = ap (λ (t : Bool). not (member (volume_at k c) s).is_out && t) expected
          ∙ ap (λ (t : Bool). not t && is_expected_at b (index_at b k s)) (ap (λ (x : Volume). (member x s).is_out) (removed_volume b i k below) ∙ lowered_out i (volume_at k b) s);
    }

removed_means : (start : Start) (f : Facts) (serial : List ℕ) (b : Block) (i : ℕ) → IsSound start b → has_serial (expected_serials b) serial ≡ false → Goes serial b i → Means start f (RemovesDisk serial) b (block_without_disk b i)
removed_means start f serial b i s none g =
    let c : Block = block_without_disk b i in
    let bytes : List ℕ = little_bytes 1 (length b.disks - 1) in
    let counts = s.counted in
    let bounds = s.bounds in
    let others = g.others in
    let count : disk_count_of c ≡ length b.disks - 1 = counted b (length b.disks - 1) s.is (omega (arith, s.is.disk_count, counts.few_disks)) in
    let less : IsBlock (block_without_record b i) = with_disk_less-is b i s.is g.below (omega (arith, s.is.disk_count, counts.few_disks)) in
    let zip : AllZip Steady b.volumes c.volumes = all_lowered i b.volumes s.is.volumes in
    let served : (v : ℕ) → IsServed b v → IsServed c v = λ v is.
    served_moved b c v zip (removed_moves start serial b i v s g count is.below) is in
    record {
      sound = made_sound start b c s (record {
        header = less.header;
        signed = get_or-set_other b.header 8 0 bytes [] (λ e. omega arith);
        volume_count = other_field b 8 9 bytes (λ e. omega arith);
        tail_size = other_field b 8 13 bytes (λ e. omega arith);
        gap = refl;
        tail = refl;
        disks = less.disks;
        disk_count = less.disk_count;
        volumes = zip;
      }) (omega (arith, count)) (omega (arith, count, s.is.disk_count, counts.few_disks)) (omega (arith, count, s.is.disk_count))
          (subst AreApart (sym (removed_serials serial b i g)) s.apart)
          (λ v started. served v (s.served v started));
      served = served;
      volumes = zip;
      generation = other_field b 8 5 bytes (λ e. omega arith);
      dirty = λ v below. ap is_dirty (removed_volume b i v below);
      past = λ v past. refl;
      expects = λ other. ap (λ (xs : List (List ℕ)). has_serial xs other) (removed_serials serial b i g);
      slots = λ v is.
          let steady : Steady (volume_at v b) (volume_at v c) = steady_at b c v zip is.below in
          slots_by f (RemovesDisk serial) v b c (volume_at v b) (volume_at v c) steady.first.count (λ n inside. removed_slot start serial b i v n s g is.below inside);
      pass = λ v is idle. pass_none (volume_at v b) (ap has_pass (sym (removed_volume b i v is.below)) ∙ idle);
      own = removed_own serial b i g none;
    }

-- nothing happens
left_means : (start : Start) (f : Facts) (serial : List ℕ) (b : Block) → IsSound start b → Means start f (RemovesDisk serial) b b
left_means start f serial b s = record {
  sound = s;
  volumes = volumes_stay b.volumes s.is.volumes;
  generation = refl;
  dirty = λ v below. refl;
  past = λ v past. refl;
  expects = λ other. refl;
  served = λ v is. is;
  slots = λ v is. slots_by f (RemovesDisk serial) v b b (volume_at v b) (volume_at v b) refl (λ n inside. keeps_itself (slot_words b (member (volume_at v b) n)));
  pass = λ v is idle. pass_none (volume_at v b) idle;
  own = λ other n expected own. own;
}

pub removal_means : (start : Start) (f : Facts) (serial : List ℕ) (b : Block) → IsSound start b → has_serial (expected_serials b) serial ≡ false → Means start f (RemovesDisk serial) b (without_serial serial b)
removal_means start f serial b s none = by_record (position (λ d. bytes_eq (serial_of d) serial) b.disks) refl
  where
    unexpected : (i : ℕ) → i < length b.disks → serial_of (disk_at i b) ≡ serial → is_expected (disk_at i b) ≡ false
    unexpected i below is =
        false_from_ne_true _ (λ e. false≢true (sym none ∙ has_expected b.disks serial ∙ list_any_at (expects_serial serial) b.disks i [] below (and_from (is_expected (disk_at i b)) _ e (eq_serial _ _ is))))

    by_use : (i : ℕ) → i < length b.disks → serial_of (disk_at i b) ≡ serial → (t : Bool) → (is_in_use i b || nat_lt (length b.disks) 2) ≡ t → Means start f (RemovesDisk serial) b (if t then b else block_without_disk b i)
    by_use i below is true e = left_means start f serial b s
    by_use i below is false e =
        let parts = or_parts (is_in_use i b) (nat_lt (length b.disks) 2) e in
        removed_means start f serial b i s none
        (record { below = below; serial_is = is; unexpected = unexpected i below is; free = parts.0; others = ltb-false (length b.disks) 2 parts.1 })

    by_record : (o : Option ℕ) → position (λ d. bytes_eq (serial_of d) serial) b.disks ≡ o → Means start f (RemovesDisk serial) b (option_map_or (λ i. without_index i b) o b)
    by_record None e = left_means start f serial b s
    by_record (Some i) e =
        let found = position-Some (λ d. bytes_eq (serial_of d) serial) b.disks i [] e in
        by_use i found.0 (serial_eq _ _ found.1) (is_in_use i b || nat_lt (length b.disks) 2) refl
