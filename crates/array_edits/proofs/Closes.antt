-- A pass that closes: each slot of an expected disk that works is in sync, and the others are as they were.
use Rattle.std.proofs.Common.{◌≡◌, ℕ, zero, suc, ◌<◌, ◌==◌, ◌&&◌, ◌||◌, not, if◌then◌else◌, Bool, true, false, List, [], ◌∷◌, length, map, set, refl, sym, ◌∙◌, ap, subst, arith, inl, inr}
use Rattle.std.specs.Prelude.{slice_get}
use Rattle.std.specs.Option.{option_map_or}
use Rattle.std.specs.Int.{bit_at}
use Rattle.std.proofs.lemmas.Bool.{eq-eqb}
use Rattle.std.proofs.lemmas.List.{get_or-set_other}
use Rattle.byteorder.specs.Endian.{little_bytes}
use Rattle.imsm_base.specs.Fields.{Part, number}
use Rattle.imsm_base.specs.Layout.{Block, Volume, IsVolume, serial_of, migration_state_of, migration_type_of, member_count_of}
use Rattle.imsm_base.specs.Volumes.{Member, first_map, member, members, is_expected_at, has_pass, has_migration, is_dirty}
use Rattle.imsm_base.specs.Whole.{is_expected}
use Rattle.imsm_base.specs.EditsOfTables.{volume_without_migration}
use Rattle.imsm_buffer.proofs.TableEdits.{closed-is}
use Rattle.imsm_codec.specs.Mpb.{volume_at}
use Rattle.imsm_edit.specs.Meanings.{is_told, with_states}
use Rattle.imsm_edit.specs.Slots.{slots_with, volume_marked}
use Rattle.array_model.specs.Blocks.{SlotWords}
use Rattle.array_model.specs.Start.{Start}
use Rattle.block_meaning.specs.Meaning.{slot_words}
use Rattle.array_machine.specs.Setting.{Facts, ClosesPass}
use Rattle.array_machine.specs.EditWords.{FillsSlot, FillsIf}
use Rattle.array_edits.specs.Passes.{with_all_out, with_pass_closed}
use Rattle.array_edits.specs.RealEdits.{working_in, block_edited}
use Rattle.array_edits.proofs.Steady.{IsAlike, Steady, steady_then, closed_steady}
use Rattle.array_edits.proofs.Steps.{marked_steady, fields_left}
use Rattle.array_edits.proofs.Supports.{Fits, fits, Supports, supports}
use Rattle.array_edits.proofs.Sound.{IsSound}
use Rattle.array_edits.proofs.Slots.{keeps_itself}
use Rattle.array_edits.proofs.Means.{Means, one_volume}
use Rattle.array_edits.proofs.Marks.{volume_is, is_kind, stated, other_number}
use Rattle.array_edits.proofs.Entries.{first_marks, in_by_first, marked_index, first_marked, told_of}

-- A PASS THAT IS NOT OPEN

pub idle_good : (v : Volume) → has_pass v ≡ false → has_migration v ≡ true
idle_good v idle = ap (λ (p : Bool). not p || (p && is_kind (migration_type_of v))) idle

closed_state : (t : Bool) (n : ℕ) → n ≡ 1 → n ≡ (if t then 1 else 2) → not t ≡ false
closed_state true n one e = refl
closed_state false n one e = absurd (omega arith)

pub closed_idle : (v : Volume) → IsVolume v → has_pass (volume_without_migration v) ≡ false
closed_idle v is = let made : IsVolume (volume_without_migration v) = closed-is v is in closed_state (migration_state_of (volume_without_migration v) == 0) 1 refl made.count

pub closed_good : (v : Volume) → IsVolume v → has_migration (volume_without_migration v) ≡ true
closed_good v is = idle_good (volume_without_migration v) (closed_idle v is)

pub closed_dirty : (v : Volume) → is_dirty (volume_without_migration v) ≡ is_dirty v
closed_dirty v =
    ap (λ (n : ℕ). bit_at n 0 == 1)
    (fields_left 0 0 0 4 (set v.state 2 (little_bytes 1 0)) (λ e. omega arith) (λ e. omega arith) (λ e. omega arith) (λ e. omega arith)
    ∙ ap number (get_or-set_other v.state 2 4 (little_bytes 1 0) [] (λ e. omega arith)))

-- a volume that is served has maps that are alike
pub alike_served : (start : Start) (b : Block) (k : ℕ) → IsSound start b → start.is_started k ≡ true → IsAlike (volume_at k b)
alike_served start b k s started =
    let parts : Supports b k (volume_at k b) = supports b k (volume_at k b) (s.served k started).supported in
    let geometry : Fits b (volume_at k b) = fits b (volume_at k b) parts.geometry in
    geometry.alike

-- THE SLOTS

-- each slot that some map calls out of sync is so called by the first
first_all_out : (v : Volume) (s : ℕ) → IsVolume v → s < member_count_of (first_map v) → first_marks s (with_all_out v) ≡ (member v s).is_out
first_all_out v s is below =
    first_marked true (map (λ m. m.is_out) (members v)) v s is below
    ∙ ap (λ (t : Bool). if t then true else first_marks s v) (told_of (λ m. m.is_out) v s below) ∙ by_out (member v s).is_out refl
  where
    by_out : (t : Bool) → (member v s).is_out ≡ t → (if t then true else first_marks s v) ≡ t
    by_out true e = refl
    by_out false e = in_by_first v s is e

closed_index : (working : List Bool) (v : Volume) (s : ℕ) → IsVolume v → s < member_count_of (first_map v) → (member (with_pass_closed working v) s).index ≡ (member v s).index
closed_index working v s is below =
    let out : List Bool = map (λ m. m.is_out) (members v) in
    let y : Volume = with_all_out v in
    let one : Steady v y = marked_steady true out v is in
    marked_index false (slots_with (is_told working) y) y s one.is (subst (λ (n : ℕ). s < n) (sym one.first.count) below) ∙ marked_index true out v s is below

or_none : (t : Bool) → (t || false) ≡ t
or_none true = refl
or_none false = refl

closed_out : (working : List Bool) (v : Volume) (s : ℕ) → IsVolume v → s < member_count_of (first_map v) →
    (member (with_pass_closed working v) s).is_out ≡ (if is_told working (member v s).index then false else (member v s).is_out)
closed_out working v s is below =
    let out : List Bool = map (λ m. m.is_out) (members v) in
    let y : Volume = with_all_out v in
    let one : Steady v y = marked_steady true out v is in
    let inside : s < member_count_of (first_map y) = subst (λ (n : ℕ). s < n) (sym one.first.count) below in
    or_none (first_marks s (volume_marked false (is_told working) y))
    ∙ first_marked false (slots_with (is_told working) y) y s one.is inside
    ∙ ap (λ (t : Bool). if t then false else first_marks s y) (told_of (λ m. is_told working m.index) y s inside ∙ ap (is_told working) (marked_index true out v s is below))
    ∙ ap (λ (t : Bool). if is_told working (member v s).index then false else t) (first_all_out v s is below)

-- whether the disk of an expected record works
told_works : (f : Facts) (ds : List Part) (i : ℕ) → option_map_or is_expected (slice_get ds i) false ≡ true →
    is_told (map (λ d. f.works (serial_of d)) ds) i ≡ f.works (option_map_or serial_of (slice_get ds i) [])
told_works f [] i expected = absurd (cc expected)
told_works f (d ∷ ds) zero expected = refl
told_works f (d ∷ ds) (suc i) expected = told_works f ds i expected

-- in sync by what was said of the slot before, whether its disk works, and whether it is expected
filled : (told works out expected : Bool) → (expected ≡ true → told ≡ works) → (not (if told then false else out) && expected) ≡ ((works && expected) || (not out && expected))
filled true works out true is = let same : works ≡ true = sym (is refl) in rw same refl
filled false works out true is = let same : works ≡ false = sym (is refl) in rw same refl
filled true true true false is = refl
filled true true false false is = refl
filled true false true false is = refl
filled true false false false is = refl
filled false true true false is = refl
filled false true false false is = refl
filled false false true false is = refl
filled false false false false is = refl

closed_fills : (f : Facts) (b : Block) (v : Volume) (s : ℕ) → IsVolume v → s < member_count_of (first_map v) → FillsSlot f (slot_words b (member v s)) (slot_words b (member (with_pass_closed (working_in f b) v) s))
closed_fills f b v s is below =
    let working : List Bool = working_in f b in
    let m : Member = member v s in
    let n : Member = member (with_pass_closed working v) s in
    let index : n.index ≡ m.index = closed_index working v s is below in
    let expected : is_expected_at b n.index ≡ is_expected_at b m.index = ap (is_expected_at b) index in
    record {
      serial = ap (λ (i : ℕ). option_map_or serial_of (slice_get b.disks i) []) index;
      expected = expected;
      in_sync = ap (λ (t : Bool). not n.is_out && t) expected ∙ ap (λ (t : Bool). not t && is_expected_at b m.index) (closed_out working v s is below)
          ∙ filled (is_told working m.index) (f.works (option_map_or serial_of (slice_get b.disks m.index) [])) m.is_out (is_expected_at b m.index) (told_works f b.disks m.index);
    }

-- THE EDIT

fills_here : (t : Bool) (f : Facts) (w x : SlotWords) → t ≡ true → FillsSlot f w x → FillsIf t f w x
fills_here true f w x e fills = fills
fills_here false f w x e fills = absurd (cc e)

fills_other : (t : Bool) (f : Facts) (w : SlotWords) → t ≡ false → FillsIf t f w w
fills_other true f w e = absurd (cc e)
fills_other false f w e = keeps_itself w

closed_all : (working : List Bool) (v : Volume) → IsVolume v → IsAlike v → Steady v (with_pass_closed working v)
closed_all working v is like =
    let y : Volume = with_all_out v in
    let one : Steady v y = marked_steady true (map (λ m. m.is_out) (members v)) v is in
    let z : Volume = volume_marked false (is_told working) y in
    let two : Steady y z = marked_steady false (slots_with (is_told working) y) y one.is in
    let both : Steady v z = steady_then v y z one two in
    steady_then v z (volume_without_migration z) both (closed_steady z both.is (both.alike like))

pub close_means : (start : Start) (f : Facts) (b : Block) (k : ℕ) → IsSound start b → start.is_started k ≡ true → Means start f (ClosesPass k) b (block_edited start f b (ClosesPass k))
close_means start f b k s started =
    let v : Volume = volume_at k b in
    let below : k < length b.volumes = (s.served k started).below in
    let is : IsVolume v = volume_is start b k s below in
    let working : List Bool = working_in f b in
    let y : Volume = with_all_out v in
    let one : Steady v y = marked_steady true (map (λ m. m.is_out) (members v)) v is in
    let z : Volume = volume_marked false (is_told working) y in
    let two : Steady y z = marked_steady false (slots_with (is_told working) y) y one.is in
    one_volume start f (ClosesPass k) b k (λ x. with_states b (f.is_broken k) (with_pass_closed working x)) s
    (stated f (ClosesPass k) b k (f.is_broken k) (with_pass_closed working) (record {
      below = below;
      steady = closed_all working v is (alike_served start b k s started);
      migration = λ good. closed_good z two.is;
      index = λ i inside. closed_index working v i is inside;
      slot = λ i inside. fills_here (k == k) f (slot_words b (member v i)) (slot_words b (member (with_pass_closed working v) i)) (eq-eqb k k refl) (closed_fills f b v i is inside);
      pass = λ idle. inr (eq-eqb k k refl);
      dirty = closed_dirty z;
      generation = λ n. refl;
      expects = λ serial x. refl;
      other_slot = λ w other slot. fills_other (k == w) f slot (other_number k w other);
      other_pass = λ w other was ws none. inl none;
      other_dirty = λ w other u x. refl;
    }))
