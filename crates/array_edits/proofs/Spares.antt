-- A spare that is activated: its record is expected, and it takes the slots of a failed one, out of sync.
use Rattle.std.proofs.Common.{◌≡◌, ℕ, ◌+◌, ◌*◌, ◌/◌, ◌%◌, ◌^◌, ◌≤◌, ◌<◌, ◌==◌, ◌⊎◌, if◌then◌else◌, Bool, true, false, List, length, refl, sym, ◌∙◌, ap, subst, inl, inr, arith}
use Rattle.std.specs.Prelude.{nat_le, sum_by}
use Rattle.std.specs.List.{AllZip}
use Rattle.std.proofs.lemmas.Bool.{eqb-true, false≢true}
use Rattle.byteorder.specs.Endian.{little_bytes}
use Rattle.imsm_base.specs.Fields.{Part, number}
use Rattle.imsm_base.specs.Layout.{Block, Volume, HasLengths, IsVolume, disk_lengths, serial_of, total_blocks_of, disk_count_of, migration_type_of, member_count_of, bytes_of}
use Rattle.imsm_base.specs.Volumes.{Member, first_map, member, is_expected_at, has_pass, has_migration, has_sectors, is_dirty, second_map_bytes}
use Rattle.imsm_base.specs.EditsOfTables.{block_with_disk}
use Rattle.imsm_codec.specs.Mpb.{volume_at, blank_volume}
use Rattle.imsm_buffer.proofs.TableEdits.{counted}
use Rattle.imsm_edit.specs.Meanings.{is_told, with_states}
use Rattle.imsm_edit.specs.Passes.{with_migration}
use Rattle.imsm_edit.specs.Slots.{changed_each, slots_with}
use Rattle.imsm_edit.proofs.Marked.{told_slot}
use Rattle.array_model.specs.Start.{Start}
use Rattle.array_edits.specs.Records.{entry_given, volume_given, rebuilt, has_sectors_for}
use Rattle.array_edits.proofs.Steady.{IsAlike, Steady, steady_itself, steady_then}
use Rattle.array_edits.proofs.Steps.{given_steady, migration_steady, with_pass_steady, states_steady}
use Rattle.array_edits.proofs.Supports.{needed}
use Rattle.array_edits.proofs.Moves.{MovesAt, index_at, slots_at}
use Rattle.array_edits.proofs.Sound.{IsSound}
use Rattle.array_edits.proofs.Slots.{states_member, states_state, opened_member}
use Rattle.array_edits.proofs.Marks.{is_kind, kind_of_pass, migration_same, dirty_same, pass_good, pass_dirty}
use Rattle.array_edits.proofs.Starts.{opened_pass, opened_dirty}
use Rattle.array_edits.proofs.Entries.{entry_of, index_each, index_of_entry, bit_of, out_set, out_stays, at_each}
use Rattle.array_edits.proofs.Added.{added_last, added_sectors, IsUnknown}
use Rattle.array_edits.proofs.Wide.{each_steady}
use Rattle.array_edits.proofs.Idle.{states_pass, pass_stays}

-- AN ENTRY

given_index : (index n : ℕ) → index < 2 ^ 24 → number (little_bytes 4 (n / 2 ^ 25 * 2 ^ 25 + 2 ^ 24 + index)) % 2 ^ 24 ≡ index
given_index index n small = omega arith

given_bit : (index n : ℕ) → index < 2 ^ 24 → number (little_bytes 4 (n / 2 ^ 25 * 2 ^ 25 + 2 ^ 24 + index)) / 2 ^ 24 % 2 ≡ 1
given_bit index n small = omega arith

-- A SLOT

-- a slot stays, or it is given from record i to record n, whose disk has the sectors that its volume needs
pub record IsLeft (v x : Volume) (s : ℕ) : Type 0 where
  pub index : (member x s).index ≡ (member v s).index
  pub out : (member x s).is_out ≡ (member v s).is_out

pub record IsTaken (b : Block) (i n : ℕ) (disk : Part) (v x : Volume) (s : ℕ) : Type 0 where
  pub index : (member v s).index ≡ i
  pub new : (member x s).index ≡ n
  pub out : (member x s).is_out ≡ true
  pub room : nat_le (needed v) (total_blocks_of disk) ≡ true
  pub failed : is_expected_at b i ≡ false

pub record Gives (b : Block) (i n : ℕ) (disk : Part) (v x : Volume) : Type 0 where
  pub steady : Steady v x
  pub migration : has_migration v ≡ true → has_migration x ≡ true
  pub dirty : is_dirty x ≡ is_dirty v
  pub idle : has_pass x ≡ false → (has_pass v ≡ false) × ((s : ℕ) → s < member_count_of (first_map v) → IsLeft v x s)
  pub slot : (s : ℕ) → s < member_count_of (first_map v) → IsLeft v x s ⊎ IsTaken b i n disk v x s

pub gives_none : (b : Block) (i n : ℕ) (disk : Part) (v : Volume) → IsVolume v → Gives b i n disk v v
gives_none b i n disk v is = record { steady = steady_itself v is; migration = λ good. good; dirty = refl; idle = λ none. (none, λ s below. record { index = refl; out = refl }); slot = λ s below. inl (record { index = refl; out = refl }) }

-- the slots of a volume that takes the spare
given_slot : (b : Block) (i n : ℕ) (disk : Part) (v : Volume) (s : ℕ) → n < 2 ^ 24 → IsVolume v → has_sectors_for v disk ≡ true → is_expected_at b i ≡ false → s < member_count_of (first_map v) →
    IsLeft v (volume_given i n v) s ⊎ IsTaken b i n disk v (volume_given i n v) s
given_slot b i n disk v s small is room failed below = by_index ((member v s).index == i) refl
  where
    named : List Bool
    named = slots_with (λ j. j == i) v

    f : ℕ → List ℕ → List ℕ
    f slot e = if is_told named slot then entry_given n e else e

    by_index : (t : Bool) → ((member v s).index == i) ≡ t → IsLeft v (volume_given i n v) s ⊎ IsTaken b i n disk v (volume_given i n v) s
    by_index true e =
        let told : is_told named s ≡ true = told_slot (λ j. j == i) v s below ∙ e in
        inr (record {
          index = eqb-true _ i e;
          new = index_each f v s is below ∙ ap (λ (t : Bool). number (if t then entry_given n (entry_of s (first_map v)) else entry_of s (first_map v)) % 2 ^ 24) told
              ∙ given_index n (number (entry_of s (first_map v))) small;
          out = out_set f v s is below (λ entry. ap (λ (t : Bool). bit_of (number (if t then entry_given n entry else entry))) told ∙ ap (λ (k : ℕ). k == 1) (given_bit n (number entry) small));
          room = room;
          failed = failed;
        })
    by_index false e =
        let told : is_told named s ≡ false = told_slot (λ j. j == i) v s below ∙ e in
        inl (record {
          index = index_each f v s is below ∙ ap (λ (t : Bool). number (if t then entry_given n (entry_of s (first_map v)) else entry_of s (first_map v)) % 2 ^ 24) told ∙ sym (index_of_entry v s is below);
          out = out_stays f v s (λ entry. ap (λ (t : Bool). bit_of (number (if t then entry_given n entry else entry))) told);
        })

-- a slot of the same member
same_member : (b : Block) (i n : ℕ) (disk : Part) (v x y : Volume) (s : ℕ) → member y s ≡ member x s → IsLeft v x s ⊎ IsTaken b i n disk v x s → IsLeft v y s ⊎ IsTaken b i n disk v y s
same_member b i n disk v x y s same (inl l) = inl (record { index = ap (λ (m : Member). m.index) same ∙ l.index; out = ap (λ (m : Member). m.is_out) same ∙ l.out })
same_member b i n disk v x y s same (inr t) =
    inr (record { index = t.index; new = ap (λ (m : Member). m.index) same ∙ t.new; out = ap (λ (m : Member). m.is_out) same ∙ t.out; room = t.room; failed = t.failed })

given_kind : (v : Volume) (p : Bool) → has_pass v ≡ p → has_migration v ≡ true → is_kind (if p then migration_type_of v else 1) ≡ true
given_kind v true open_one good = kind_of_pass v open_one good
given_kind v false idle good = refl

pub gives_rebuilt : (b c : Block) (i n : ℕ) (disk : Part) (v : Volume) → n < 2 ^ 24 → IsVolume v → IsAlike v → has_sectors_for v disk ≡ true → is_expected_at b i ≡ false → Gives b i n disk v (with_states c false (rebuilt i n v))
gives_rebuilt b c i n disk v small is like room failed =
    let y : Volume = volume_given i n v in
    let kind : ℕ = if has_pass v then migration_type_of v else 1 in
    let w : Volume = with_migration y in
    let x : Volume = rebuilt i n v in
    let one : Steady v y = given_steady i n v is in
    let two : Steady y w = migration_steady y one.is (one.alike like) in
    let three : Steady v x = steady_then v y x one (with_pass_steady kind 0 y one.is (one.alike like)) in
    record {
      steady = steady_then v x (with_states c false x) three (states_steady c false x three.is);
      migration = λ good. migration_same x (with_states c false x) (states_state c false x) (pass_good kind 0 w two.is (opened_pass y one.is) (given_kind v (has_pass v) refl good));
      dirty = dirty_same x (with_states c false x) (states_state c false x) ∙ pass_dirty kind 0 w ∙ opened_dirty y;
      idle = λ none. absurd (false≢true (sym none ∙ states_pass c false x ∙ pass_stays kind 0 w ∙ opened_pass y one.is));
      slot = λ s below.
          same_member b i n disk v y (with_states c false x) s (states_member c false x s ∙ opened_member y s one.is (subst (λ (k : ℕ). s < k) (sym one.first.count) below))
          (given_slot b i n disk v s small is room failed below);
    }

-- THE BLOCK

-- what the block must be like: the table and the bytes have room, the index of the new record isn't used, and its serial
-- is of no record
pub record HasRoom (b : Block) (disk : Part) : Type 0 where
  pub few : disk_count_of b + 1 ≤ 16
  pub free : (k s : ℕ) → k < length b.volumes → s < slots_at b k → index_at b k s ≡ disk_count_of b → ⊥
  pub small : length (bytes_of b) + 48 + sum_by second_map_bytes b.volumes ≤ 8192
  pub lengths : HasLengths disk_lengths disk
  pub unknown : IsUnknown (serial_of disk) b

abbrev pub spared : Block → Part → (ℕ → Volume → Volume) → Block
spared b disk h = record (block_with_disk b disk) { volumes = changed_each h b.volumes }

abbrev pub AllGive : Block → ℕ → Part → (ℕ → Volume → Volume) → Type 0
AllGive b i disk h = (k : ℕ) → k < length b.volumes → Gives b i (length b.disks) disk (volume_at k b) (h k (volume_at k b))

pub spared_at : (b : Block) (disk : Part) (h : ℕ → Volume → Volume) (k : ℕ) → k < length b.volumes → volume_at k (spared b disk h) ≡ h k (volume_at k b)
spared_at b disk h k below = at_each h b.volumes k blank_volume below

pub spared_zip : (b : Block) (i : ℕ) (disk : Part) (h : ℕ → Volume → Volume) → AllGive b i disk h → AllZip Steady b.volumes (spared b disk h).volumes
spared_zip b i disk h gives = each_steady h b.volumes (λ k below. (gives k below).steady)

pub spared_slot : (b : Block) (i : ℕ) (disk : Part) (h : ℕ → Volume → Volume) (k s : ℕ) → AllGive b i disk h → k < length b.volumes → s < slots_at b k →
    IsLeft (volume_at k b) (volume_at k (spared b disk h)) s ⊎ IsTaken b i (length b.disks) disk (volume_at k b) (volume_at k (spared b disk h)) s
spared_slot b i disk h k s gives below inside =
    subst (λ (x : Volume). IsLeft (volume_at k b) x s ⊎ IsTaken b i (length b.disks) disk (volume_at k b) x s) (sym (spared_at b disk h k below)) ((gives k below).slot s inside)

pub spared_count : (b : Block) (disk : Part) (h : ℕ → Volume → Volume) (start : Start) → IsSound start b → HasRoom b disk → disk_count_of (spared b disk h) ≡ length b.disks + 1
spared_count b disk h start s room =
    let few = room.few in
    counted b (length b.disks + 1) s.is (omega (arith, s.is.disk_count))

-- slots that share a record shared one before
shared_before : (b : Block) (i n k o s t : ℕ) (disk : Part) (v x w y : Volume) → ((member v s).index ≡ n → ⊥) → ((member w t).index ≡ n → ⊥) → IsLeft v x s ⊎ IsTaken b i n disk v x s →
    IsLeft w y t ⊎ IsTaken b i n disk w y t → (member x s).index ≡ (member y t).index → (member v s).index ≡ (member w t).index
shared_before b i n k o s t disk v x w y first second (inl l) (inl m) same = sym l.index ∙ same ∙ m.index
shared_before b i n k o s t disk v x w y first second (inl l) (inr m) same = absurd (first (sym l.index ∙ same ∙ m.new))
shared_before b i n k o s t disk v x w y first second (inr l) (inl m) same = absurd (second (sym m.index ∙ sym same ∙ l.new))
shared_before b i n k o s t disk v x w y first second (inr l) (inr m) same = l.index ∙ sym m.index

pub spared_moves : (start : Start) (b : Block) (i : ℕ) (disk : Part) (h : ℕ → Volume → Volume) (k : ℕ) → IsSound start b → HasRoom b disk → AllGive b i disk h → k < length b.volumes → MovesAt b (spared b disk h) k
spared_moves start b i disk h k s room gives below = record {
  migration = λ good. ap has_migration (spared_at b disk h k below) ∙ (gives k below).migration good;
  bound = λ n inside low. bound n low (slot k n below inside);
  sectors = λ n inside has. sectors n has (slot k n below inside);
  apart = λ o n t there inside within same.
      shared_before b i (length b.disks) k o n t disk (volume_at k b) (volume_at k c) (volume_at o b) (volume_at o c) (free k n below inside) (free o t there within) (slot k n below inside) (slot o t there within) same;
}
  where
    c : Block
    c = spared b disk h

    count : disk_count_of c ≡ length b.disks + 1
    count = spared_count b disk h start s room

    slot : (o n : ℕ) → o < length b.volumes → n < slots_at b o → IsLeft (volume_at o b) (volume_at o c) n ⊎ IsTaken b i (length b.disks) disk (volume_at o b) (volume_at o c) n
    slot o n there inside = spared_slot b i disk h o n gives there inside

    free : (o n : ℕ) → o < length b.volumes → n < slots_at b o → (member (volume_at o b) n).index ≡ length b.disks → ⊥
    free o n there inside same = room.free o n there inside (same ∙ s.is.disk_count)

    bound : (n : ℕ) → index_at b k n < disk_count_of b → IsLeft (volume_at k b) (volume_at k c) n ⊎ IsTaken b i (length b.disks) disk (volume_at k b) (volume_at k c) n → index_at c k n < disk_count_of c
    bound n low (inl l) = omega (arith, l.index, count, s.is.disk_count)
    bound n low (inr t) = omega (arith, t.new, count)

    sectors : (n : ℕ) → has_sectors b (needed (volume_at k b)) (member (volume_at k b) n) ≡ true → IsLeft (volume_at k b) (volume_at k c) n ⊎ IsTaken b i (length b.disks) disk (volume_at k b) (volume_at k c) n →
        has_sectors c (needed (volume_at k b)) (member (volume_at k c) n) ≡ true
    sectors n has (inl l) =
        ap (λ (j : ℕ). has_sectors c (needed (volume_at k b)) (record { index = j; is_out = false })) l.index ∙ added_sectors b disk (index_at b k n) (needed (volume_at k b)) has
    sectors n has (inr t) =
        ap (λ (j : ℕ). has_sectors c (needed (volume_at k b)) (record { index = j; is_out = false })) t.new
        ∙ added_last (λ d. nat_le (needed (volume_at k b)) (total_blocks_of d)) false b disk ∙ t.room
