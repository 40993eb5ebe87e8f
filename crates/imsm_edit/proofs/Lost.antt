-- A disk that has failed: its record isn't expected, and the views of its slots tell of the volume without it.
use Rattle.std.proofs.Common.{◌≡◌, ◌≢◌, ℕ, zero, suc, ◌≤◌, ◌<◌, ◌==◌, ◌&&◌, not, Bool, true, false, if◌then◌else◌, List, [], ◌∷◌, length, map, get_or, set, replicate, Option, refl, sym, ◌∙◌, ap, subst, arith}
use Rattle.std.specs.Prelude.{slice_get, is_none}
use Rattle.std.specs.Option.{option_map_or}
use Rattle.std.specs.List.{list_any}
use Rattle.std.specs.Int.{bit_at}
use Rattle.std.proofs.lemmas.Bool.{eqb-true, eqb-false, eq-eqb, ne_eqb}
use Rattle.std.proofs.lemmas.List.{get_or-set_same}
use Rattle.std.proofs.lemmas.Option.{slice_get-get_or}
use Rattle.byteorder.specs.Endian.{little_bytes}
use Rattle.imsm_base.specs.Fields.{Part, number}
use Rattle.imsm_base.specs.Layout.{Block, Volume, member_count_of, map_state_of, migration_type_of, status_of}
use Rattle.imsm_base.specs.Volumes.{Member, first_map, member, members, is_expected_at, has_pass, pass_of, volume_fault}
use Rattle.imsm_base.specs.Whole.{is_expected}
use Rattle.imsm_base.specs.EditsOfTables.{changed_at, with_volume, volume_without_migration}
use Rattle.imsm_codec.specs.Mpb.{disk_at, volume_at, blank_volume}
use Rattle.imsm_buffer.proofs.Lowered.{at_changed}
use Rattle.imsm_buffer.proofs.Replaced.{length-changed_at}
use Rattle.imsm_view.specs.declared.volume.Volume.{Volume as View}
use Rattle.imsm_view.specs.declared.volume.SlotView.{SlotView}
use Rattle.imsm_view.specs.Views.{slot_view}
use Rattle.imsm_edit.specs.declared.facts.EditFacts.{EditFacts}
use Rattle.imsm_edit.specs.Meanings.{Tells, is_told, with_states}
use Rattle.imsm_edit.specs.Slots.{changed_each, slots_with, seen_with}
use Rattle.imsm_edit.specs.Failures.{with_failed_bit, record_failed, without_member, is_idle_rebuild, settled, volume_failed, marked_failed, lost, TellsLost, is_rebuild, seen_idle_rebuild}
use Rattle.imsm_edit.proofs.Changes.{volume_changed, block_twice, block_as}
use Rattle.imsm_edit.proofs.Told.{type_is, slots_are}
use Rattle.imsm_edit.proofs.Marked.{map_as, map_map, told_slot, named_member, other_member, members_marked, same_state}

-- THE RECORD

failed_bit : (n : ℕ) → bit_at (number (little_bytes 4 (with_failed_bit n))) 2 ≡ 1
failed_bit n = omega arith

and_not : (a : Bool) (n : ℕ) → n ≡ 1 → (a && (n == 0)) ≡ false
and_not true n e = ap (λ (k : ℕ). k == 0) e
and_not false n e = refl

pub not_expected : (b : Block) (i : ℕ) → i < length b.disks → length (disk_at i b) ≡ 7 → is_expected_at (record_failed b i) i ≡ false
not_expected b i below fields =
    let d : Part = disk_at i b in
    let w : List ℕ = little_bytes 4 (with_failed_bit (status_of d)) in
    let ds : List Part = changed_at i (λ part. set part 3 w) b.disks in
    let len : length ds ≡ length b.disks = length-changed_at i (λ part. set part 3 w) b.disks in
    ap (λ (o : Option Part). option_map_or is_expected o false) (slice_get-get_or ds i [] (omega arith))
    ∙ ap is_expected (at_changed i (λ part. set part 3 w) b.disks [] below)
    ∙ and_not (bit_at (status_of (set d 3 w)) 1 == 1) (bit_at (status_of (set d 3 w)) 2)
    (ap (λ (f : List ℕ). bit_at (number f) 2) (get_or-set_same d 3 w [] (omega arith)) ∙ failed_bit (status_of d))

other_record : (f : Part → Part) (i j : ℕ) (ds : List Part) → j ≢ i → slice_get (changed_at i f ds) j ≡ slice_get ds j
other_record f i j [] other = refl
other_record f zero zero (d ∷ ds) other = absurd (other refl)
other_record f zero (suc j) (d ∷ ds) other = refl
other_record f (suc i) zero (d ∷ ds) other = refl
other_record f (suc i) (suc j) (d ∷ ds) other = other_record f i j ds (λ e. other (ap suc e))

-- THE SLOTS

abbrev lost_if : Bool → SlotView → SlotView
lost_if t s = if t then record { index = s.index; out = true; expected = false } else s

lost_index : (t : Bool) (s : SlotView) → (lost_if t s).index ≡ s.index
lost_index true s = refl
lost_index false s = refl

-- what is told of the slots doesn't rest on what the record said
same_lost : (b : Block) (i : ℕ) (m : Member) (t : Bool) → (m.index == i) ≡ t → lost_if t (slot_view b m) ≡ lost_if t (slot_view (record_failed b i) m)
same_lost b i m true e = refl
same_lost b i m false e =
    ap (λ (o : Option Part). seen (option_map_or is_expected o false)) (sym (other_record (λ part. set part 3 (little_bytes 4 (with_failed_bit (status_of (disk_at i b))))) i m.index b.disks (eqb-false m.index i e)))
  where
    seen : Bool → SlotView
    seen expected = record { index = m.index; out = m.is_out; expected = expected }

pub lost_stays : (b : Block) (i : ℕ) (v : Volume) (view : View) → TellsLost b i v view → TellsLost (record_failed b i) i v view
lost_stays b i v view told = record {
  state = told.state;
  pass = told.pass;
  slots = told.slots ∙ map_as (λ m. lost i (slot_view b m)) (λ m. lost i (slot_view (record_failed b i) m)) (members v) (λ m. same_lost b i m (m.index == i) refl);
}

pub lost_named : (b : Block) (i : ℕ) (v : Volume) (view : View) (disks : List Bool) → TellsLost b i v view → ((k : ℕ) → is_told disks k ≡ (k == i)) → seen_with disks view.slots.items ≡ slots_with (λ index. index == i) v
lost_named b i v view disks told only =
    ap (seen_with disks) told.slots ∙ map_map (λ s. is_told disks s.index) (λ m. lost i (slot_view b m)) (members v)
    ∙ map_as (λ m. is_told disks (lost i (slot_view b m)).index) (λ m. m.index == i) (members v)
    (λ m. ap (is_told disks) (lost_index (m.index == i) (slot_view b m)) ∙ only m.index)

lost_member : (b : Block) (i : ℕ) (v : Volume) (s : ℕ) (t : Bool) → is_expected_at b i ≡ false → 0 < length v.maps → length (first_map v).entries ≡ member_count_of (first_map v) → s < member_count_of (first_map v) → ((member v s).index == i) ≡ t →
    lost_if t (slot_view b (member v s)) ≡ slot_view b (member (without_member i v) s)
lost_member b i v s true failed some count below e =
    let m : Member = member v s in
    let named : is_told (slots_with (λ index. index == i) v) s ≡ true = told_slot (λ index. index == i) v s below ∙ e in
    ap (seen m.index) (sym (ap (is_expected_at b) (eqb-true m.index i e) ∙ failed))
    ∙ ap (slot_view b) (sym (named_member (slots_with (λ index. index == i) v) v s named some (omega arith)))
  where
    seen : ℕ → Bool → SlotView
    seen index expected = record { index = index; out = true; expected = expected }
lost_member b i v s false failed some count below e =
    ap (slot_view b) (sym (other_member true (slots_with (λ index. index == i) v) v s (told_slot (λ index. index == i) v s below ∙ e)))

-- the view tells of the volume whose slot is marked
pub lost_told : (b mid : Block) (k i : ℕ) (view : View) → k < length b.volumes → TellsLost b i (volume_at k b) view → is_expected_at b i ≡ false → 0 < length (volume_at k b).maps →
    length (first_map (volume_at k b)).entries ≡ member_count_of (first_map (volume_at k b)) → mid ≡ with_volume k (without_member i) b → Tells mid (volume_at k mid) view
lost_told b mid k i view below told failed some count made =
    let v : Volume = volume_at k b in
    subst (λ (x : Block). Tells x (volume_at k x) view) (sym made)
    (record {
      pass = told.pass ∙ ap pass_of (sym (volume_changed b k (without_member i) below));
      slots = told.slots
          ∙ members_marked (λ m. lost i (slot_view b m)) (slot_view b) true (slots_with (λ index. index == i) v) v
          (λ s inside. lost_member b i v s ((member v s).index == i) failed some count inside refl)
          ∙ ap (λ (w : Volume). map (slot_view b) (members w)) (sym (volume_changed b k (without_member i) below));
    })

pub lost_state : (b mid : Block) (k i state : ℕ) → k < length b.volumes → state ≡ map_state_of (first_map (volume_at k b)) → mid ≡ with_volume k (without_member i) b → state ≡ map_state_of (first_map (volume_at k mid))
lost_state b mid k i state below is made =
    let v : Volume = volume_at k b in
    is ∙ sym (ap (λ (x : Block). map_state_of (first_map (volume_at k x))) made ∙ ap (λ (w : Volume). map_state_of (first_map w)) (volume_changed b k (without_member i) below)
    ∙ same_state true (slots_with (λ index. index == i) v) v)

-- THE PASS AND THE STATES

pub idle_is : (b : Block) (v : Volume) (view : View) → Tells b v view → seen_idle_rebuild view ≡ is_idle_rebuild b v
idle_is b v view told =
    ap (λ (t : Bool). t && not (list_any (λ s. s.out && s.expected) view.slots.items)) (type_is is_rebuild b v view told)
    ∙ ap (λ (t : Bool). (has_pass v && is_rebuild (migration_type_of v)) && not t) (slots_are b v view (λ s. s.out && s.expected) told)

abbrev settled_if : Bool → Bool → Block → Bool → Volume → Volume
settled_if kept idle b broken v =
    if kept then (if idle then volume_without_migration v else v) else with_states b broken (if idle then volume_without_migration v else v)

-- an edit that settles a volume, by whether its states are kept and its pass is closed
pub settled_by : (b new : Block) (k : ℕ) (broken kept idle : Bool) → (map_state_of (first_map (volume_at k b)) == 1) ≡ kept → is_idle_rebuild b (volume_at k b) ≡ idle →
    new ≡ with_volume k (settled_if kept idle b broken) b → new ≡ with_volume k (settled b broken) b
settled_by b new k broken kept idle is_kept is_idle made =
    let v : Volume = volume_at k b in
    made ∙ block_as b k (settled_if kept idle b broken) (settled b broken)
    (ap (λ (t : Bool). settled_if t idle b broken v) (sym is_kept) ∙ ap (λ (t : Bool). settled_if (map_state_of (first_map v) == 1) t b broken v) (sym is_idle))

-- A VOLUME

abbrev failed_by : Bool → Block → ℕ → Bool → Volume → Volume
failed_by started b i broken v = if started then settled b broken (without_member i v) else without_member i v

pub failed_idle : (b new : Block) (k i : ℕ) (facts : EditFacts) → is_told facts.started.items k ≡ false → new ≡ with_volume k (without_member i) b → new ≡ with_volume k (volume_failed b i facts k) b
failed_idle b new k i facts idle made =
    made ∙ block_as b k (without_member i) (volume_failed b i facts k) (ap (λ (t : Bool). failed_by t b i (is_told facts.broken.items k) (volume_at k b)) (sym idle))

pub failed_started : (b mid new : Block) (k i : ℕ) (facts : EditFacts) → is_told facts.started.items k ≡ true → mid ≡ with_volume k (without_member i) b → new ≡ with_volume k (settled mid (is_told facts.broken.items k)) mid →
    new ≡ with_volume k (volume_failed b i facts k) b
failed_started b mid new k i facts started first second =
    let broken : Bool = is_told facts.broken.items k in
    second ∙ ap (λ (x : Block). with_volume k (settled x broken) x) first
    ∙ block_twice b k (settled b broken) (without_member i) (volume_failed b i facts k) (ap (λ (t : Bool). failed_by t b i broken (volume_at k b)) (sym started))

-- BOTH VOLUMES

-- two elements that are changed one after the other
two_each : {A : Type 0} (f g : A → A) (h : ℕ → A → A) (xs : List A) (d : A) → length xs ≤ 2 → (0 < length xs → f (get_or xs 0 d) ≡ h 0 (get_or xs 0 d)) → (1 < length xs → g (get_or xs 1 d) ≡ h 1 (get_or xs 1 d)) →
    changed_at 1 g (changed_at 0 f xs) ≡ changed_each h xs
two_each f g h [] d few first second = refl
two_each {A} f g h (x ∷ []) d few first second = ap (λ (y : A). y ∷ []) (first (omega arith))
two_each {A} f g h (x ∷ (y ∷ [])) d few first second = ap (λ (z : A). z ∷ (g y ∷ [])) (first (omega arith)) ∙ ap (λ (z : A). h 0 x ∷ (z ∷ [])) (second (omega arith))
two_each f g h (x ∷ (y ∷ (z ∷ zs))) d few first second = absurd (omega arith)

second_left : (f : Volume → Volume) (vs : List Volume) → get_or (changed_at 0 f vs) 1 blank_volume ≡ get_or vs 1 blank_volume
second_left f [] = refl
second_left f (v ∷ vs) = refl

-- a volume that another edit leaves
pub lost_second : (b c : Block) (i : ℕ) (f : Volume → Volume) (view : View) → TellsLost b i (volume_at 1 b) view → c ≡ with_volume 0 f b → TellsLost c i (volume_at 1 c) view
lost_second b c i f view told made =
    let same : get_or b.volumes 1 blank_volume ≡ volume_at 1 (with_volume 0 f b) = sym (second_left f b.volumes) in
    subst (λ (x : Block). TellsLost x i (volume_at 1 x) view) (sym made)
    (record {
      state = told.state ∙ ap (λ (v : Volume). map_state_of (first_map v)) same;
      pass = told.pass ∙ ap pass_of same;
      slots = told.slots ∙ ap (λ (v : Volume). map (λ m. lost i (slot_view b m)) (members v)) same;
    })

abbrev failed_if : Bool → Block → ℕ → EditFacts → ℕ → Volume → Volume
failed_if seen b i facts k v = if seen then volume_failed b i facts k v else v

pub both_failed : (b c d new : Block) (i : ℕ) (facts : EditFacts) (first second : Bool) → length b.volumes ≤ 2 → (0 < length b.volumes → first ≡ is_none (volume_fault b 0 (volume_at 0 b))) → (1 < length b.volumes → second ≡ is_none (volume_fault b 1 (volume_at 1 b))) →
    c ≡ record_failed b i → d ≡ with_volume 0 (failed_if first c i facts 0) c → new ≡ with_volume 1 (failed_if second d i facts 1) d → new ≡ marked_failed b i facts
both_failed b c d new i facts first second few one two recorded zeroth last =
    let r : Block = record_failed b i in
    let d_is : d ≡ with_volume 0 (failed_if first r i facts 0) r = zeroth ∙ ap (λ (x : Block). with_volume 0 (failed_if first x i facts 0) x) recorded in
    last ∙ ap (λ (x : Block). with_volume 1 (failed_if second x i facts 1) x) d_is
    ∙ ap (λ (vs : List Volume). record r { volumes = vs })
    (two_each (failed_if first r i facts 0) (failed_if second r i facts 1) (λ k v. failed_if (is_none (volume_fault b k v)) r i facts k v) b.volumes blank_volume few
    (λ some. ap (λ (t : Bool). failed_if t r i facts 0 (volume_at 0 b)) (one some))
    (λ some. ap (λ (t : Bool). failed_if t r i facts 1 (volume_at 1 b)) (two some)))

-- A LIST THAT NAMES ONE DISK

none_told : (n k : ℕ) → is_told (replicate n false) k ≡ false
none_told zero k = refl
none_told (suc n) zero = refl
none_told (suc n) (suc k) = none_told n k

suc_same : (k i : ℕ) (t : Bool) → (k == i) ≡ t → t ≡ (suc k == suc i)
suc_same k i true e = sym (eq-eqb (suc k) (suc i) (ap suc (eqb-true k i e)))
suc_same k i false e = sym (ne_eqb (suc k) (suc i) (λ same. eqb-false k i e (omega arith)))

pub one_told : (n i k : ℕ) → i < n → is_told (set (replicate n false) i true) k ≡ (k == i)
one_told zero i k below = absurd (omega arith)
one_told (suc n) zero zero below = refl
one_told (suc n) zero (suc k) below = none_told n k ∙ sym (ne_eqb (suc k) 0 (λ e. omega arith))
one_told (suc n) (suc i) zero below = sym (ne_eqb 0 (suc i) (λ e. omega arith))
one_told (suc n) (suc i) (suc k) below = one_told n i k (omega arith) ∙ suc_same k i (k == i) refl
