-- The volume of the newest block: its shape, its slots, and the room that it has on each disk.
use Rattle.std.proofs.Common.{◌≡◌, ◌≢◌, ℕ, zero, suc, ◌+◌, ◌<◌, ◌≤◌, ◌==◌, ◌&&◌, not, Bool, true, false, List, [], ◌∷◌, length, map, slice_get, slice_index, get_or, nat_lt, nat_le, Option, Some, None, if◌then◌else◌, bytes_eq, ◌⊎◌, inl, inr, refl, sym, ◌∙◌, ap, subst, arith}
use Rattle.std.specs.List.{AllByRecursion, list_all}
use Rattle.std.specs.Option.{option_map_or}
use Rattle.std.proofs.lemmas.Bool.{false≢true, and_parts, or_parts, and_from, leb-true, ltb-true, ltb-false, eqb-true, eqb-false, not_from_false, not-true}
use Rattle.std.proofs.lemmas.List.{get_or_past}
use Rattle.std.proofs.lemmas.Option.{slice_get_within, slice_get-get_or}
use Rattle.std.proofs.lemmas.Slice.Eq.{bytes_eq-Decides}
use Rattle.units.specs.declared.bounds.TheConstants.{METADATA_SECTORS}
use Rattle.units.specs.declared.volume.Level.{Level}
use Rattle.units.specs.declared.disk.Sector.{Sector}
use Rattle.imsm_base.specs.Fields.{Part}
use Rattle.imsm_base.specs.Layout.{Block, Volume, serial_of, disk_count_of, volume_size_of, strip_of, pba_of, member_count_of, migration_type_of, total_blocks_of}
use Rattle.imsm_base.specs.Parts.{block_in}
use Rattle.imsm_base.specs.Volumes.{Member, first_map, member, members, is_in_sync, is_like, has_geometry, has_sectors, volume_rows, pass_of}
use Rattle.units.specs.Levels.{rows_of}
use Rattle.imsm_base.specs.FirstForm.{IsCleanMirror}
use Rattle.imsm_codec.proofs.Mirror.{AreMirrorTests, tests_from_mirror, members_two, mirror_slots, mirror_out}
use Rattle.array_model.specs.Blocks.{SlotWords}
use Rattle.block_meaning.specs.Meaning.{of_volume, shape_of, no_shape, slot_words}
use Rattle.array_model.specs.Placement.{Shape}
use Rattle.array_model.specs.Script.{Asked}
use Rattle.block_meaning.specs.Reading.{block_words}
use Rattle.stage_machine.specs.Setting.{has_disk}
use Rattle.stage_machine.specs.Opens.{IsFirstVolume}
use Rattle.first_opening.specs.Opened.{Opened, IsOpening, serial_at, newest_of, block_of, numbers_of, disks_in_slot, members_of, setting_of}
use Rattle.first_opening.proofs.Numbers.{has-filter, below-range, range-has, in-one, in-flat}
use Rattle.first_opening.proofs.Records.{expected-at, expected-serial, no-empty-serial}
use Rattle.first_opening.proofs.Found.{found, own-record, two-records, target-below, is-target}

-- THE VOLUME

-- the volume, and what is tested of it
pub record IsMirror (o : Opened) (v : Volume) : Type 0 where
  pub one : (block_in (block_of o)).volumes ≡ v ∷ []
  pub clean : IsCleanMirror (block_in (block_of o)) v
  pub tests : AreMirrorTests (block_in (block_of o)) v
  pub shape : block_words.shape (newest_of o) 0 ≡ shape_of v
  pub slots : block_words.slots (newest_of o) 0 ≡ slot_words (block_in (block_of o)) (member v 0) ∷ slot_words (block_in (block_of o)) (member v 1) ∷ []

abbrev pub the-volume : (o : Opened) → IsOpening o → Volume
the-volume o is = is.first.one_volume.0

pub mirror : (o : Opened) (is : IsOpening o) → IsMirror o (the-volume o is)
mirror o is =
    let b : Block = block_in (block_of o) in
    let v : Volume = the-volume o is in
    let one : b.volumes ≡ v ∷ [] = is.first.one_volume.1 in
    let clean : IsCleanMirror b v = is.first.one_volume.2 in
    let tests : AreMirrorTests b v = tests_from_mirror b v clean in
    record {
      one = one;
      clean = clean;
      tests = tests;
      shape = ap (λ (x : Block). of_volume x 0 shape_of no_shape) (found o is).parts
          ∙ ap (λ (vs : List Volume). option_map_or shape_of (slice_get vs 0) no_shape) one;
      slots = ap (λ (x : Block). of_volume x 0 (λ z. map (slot_words x) (members z)) []) (found o is).parts
          ∙ ap (λ (vs : List Volume). option_map_or (λ z. map (slot_words b) (members z)) (slice_get vs 0) []) one
          ∙ ap (map (slot_words b)) (members_two v tests.level);
    }

-- THE SLOTS

-- the indices of both slots are in the table and differ
pub record ArePair (v : Volume) : Type 0 where
  pub first : (member v 0).index < 2
  pub second : (member v 1).index < 2
  pub apart : (member v 0).index ≢ (member v 1).index

apart-of : (a b : ℕ) → not (a == b) ≡ true → a ≢ b
apart-of a b e = eqb-false a b (not-true (a == b) e)

three-parts : (a b c : Bool) → (a && b && c) ≡ true → (a ≡ true) × (b ≡ true) × (c ≡ true)
three-parts true true c e = (refl, refl, e)
three-parts true false c e = absurd (false≢true e)
three-parts false b c e = absurd (false≢true e)

pub pair : (o : Opened) (is : IsOpening o) → ArePair (the-volume o is)
pair o is =
    let b : Block = block_in (block_of o) in
    let v : Volume = the-volume o is in
    let t : AreMirrorTests b v = (mirror o is).tests in
    let i : ℕ = (member v 0).index in
    let j : ℕ = (member v 1).index in
    let count : disk_count_of b ≡ 2 = is.first.two_disks in
    let all = three-parts (nat_lt i (disk_count_of b)) (nat_lt j (disk_count_of b)) (not (i == j)) (sym (mirror_slots b v t.level) ∙ t.slots) in
    record {
      first = subst (λ (n : ℕ). i < n) count (ltb-true i (disk_count_of b) all.0);
      second = subst (λ (n : ℕ). j < n) count (ltb-true j (disk_count_of b) all.1);
      apart = apart-of i j all.2;
    }

abbrev IsInSync : Opened → Member → Type 0
IsInSync o m = is_in_sync (block_in (block_of o)) m ≡ true

both-in-sync : (o : Opened) (is : IsOpening o) → IsInSync o (member (the-volume o is) 0) × IsInSync o (member (the-volume o is) 1)
both-in-sync o is =
    let b : Block = block_in (block_of o) in
    let v : Volume = the-volume o is in
    let m : IsMirror o v = mirror o is in
    let p : ArePair v = pair o is in
    let two : length b.disks ≡ 2 = two-records o is in
    let out = or_parts _ _ (sym (mirror_out v m.tests.level) ∙ m.clean.in_sync) in (
      and_from _ _ (not_from_false _ out.0) (expected-at b.disks (member v 0).index is.first.expected (omega (arith, p.first))),
      and_from _ _ (not_from_false _ (or_parts _ _ out.1).0) (expected-at b.disks (member v 1).index is.first.expected (omega (arith, p.second))),
    )

-- each slot of the volume is in sync
slot-in-sync : (o : Opened) (is : IsOpening o) (slot : ℕ) (words : SlotWords) → slice_get (block_words.slots (newest_of o) 0) slot ≡ Some words → words.is_in_sync ≡ true
slot-in-sync o is slot words there = at slot (sym (ap (λ (ws : List SlotWords). slice_get ws slot) (mirror o is).slots) ∙ there)
  where
    at : (k : ℕ) → slice_get (slot_words (block_in (block_of o)) (member (the-volume o is) 0) ∷ slot_words (block_in (block_of o)) (member (the-volume o is) 1) ∷ []) k ≡ Some words → words.is_in_sync ≡ true
    at zero e = sym (ap (λ (w : Option SlotWords). option_map_or (λ x. x.is_in_sync) w true) e) ∙ (both-in-sync o is).0
    at (suc zero) e = sym (ap (λ (w : Option SlotWords). option_map_or (λ x. x.is_in_sync) w true) e) ∙ (both-in-sync o is).1
    at (suc (suc k)) e = cc

pub slots-in-sync : (o : Opened) → IsOpening o → AllByRecursion (λ w. w.is_in_sync ≡ true) (block_words.slots (newest_of o) 0)
slots-in-sync o is = subst (AllByRecursion (λ w. w.is_in_sync ≡ true)) (sym (mirror o is).slots) ((both-in-sync o is).0, ((both-in-sync o is).1, tt))

-- no pass is open
pub no-pass : (o : Opened) → IsOpening o → block_words.pass (newest_of o) 0 ≡ None
no-pass o is =
    ap (λ (x : Block). of_volume x 0 pass_of None) (found o is).parts
    ∙ ap (λ (vs : List Volume). option_map_or pass_of (slice_get vs 0) None) (mirror o is).one
    ∙ ap (λ b. if b then Some (migration_type_of (the-volume o is)) else None) (mirror o is).clean.idle

-- a disk of the volume: its slot
pub record IsInVolume (o : Opened) (d : ℕ) : Type 0 where
  pub slot : ℕ
  pub words : SlotWords
  pub there : slice_get (block_words.slots (newest_of o) 0) slot ≡ Some words
  pub same : words.serial ≡ serial_at o d
  pub below : d < length o.serials

pub in-volume : (o : Opened) (d : ℕ) → has_disk d (members_of o) ≡ true → IsInVolume o d
in-volume o d is =
    let one = in-one (disks_in_slot o) d (block_words.slots (newest_of o) 0) is in
    let both = and_parts (has_disk d (numbers_of o)) _ (sym (has-filter d (λ k. bytes_eq one.1.serial (serial_at o k)) (numbers_of o)) ∙ one.3) in
    record {
      slot = one.0;
      words = one.1;
      there = one.2;
      same = (bytes_eq-Decides one.1.serial (serial_at o d)).0 both.1;
      below = omega (arith, below-range d 0 (length o.serials) both.0);
    }

-- A SLOT'S DISK

record-speaks : (o : Opened) (is : IsOpening o) (m : Member) → m.index < 2 → (slot_words (block_in (block_of o)) m).serial ≡ [] → ⊥
record-speaks o is m below none = at (slice_get disks m.index) refl none
  where
    disks : List Part
    disks = (block_in (block_of o)).disks

    at : (found : Option Part) → slice_get disks m.index ≡ found → option_map_or serial_of found [] ≡ [] → ⊥
    at None there none = absurd (let some : None ≡ Some (get_or disks m.index []) = sym there ∙ slice_get-get_or disks m.index [] (omega (arith, below, two-records o is)) in cc some)
    at (Some disk) there none =
        let same : bytes_eq (serial_of disk) [] ≡ true = (bytes_eq-Decides (serial_of disk) []).1 none in
        false≢true (sym (no-empty-serial disks (found o is).whole.spells.parts.disks) ∙ expected-serial disks m.index disk [] is.first.expected there same)

-- the record of each slot has a serial
slot-speaks : (o : Opened) (is : IsOpening o) (slot : ℕ) (words : SlotWords) → slice_get (block_words.slots (newest_of o) 0) slot ≡ Some words → words.serial ≡ [] → ⊥
slot-speaks o is slot words there none = at slot (sym (ap (λ (ws : List SlotWords). slice_get ws slot) (mirror o is).slots) ∙ there)
  where
    serial-is : (w : SlotWords) → Some w ≡ Some words → w.serial ≡ []
    serial-is w e = ap (λ (x : Option SlotWords). option_map_or (λ y. y.serial) x []) e ∙ none

    at : (k : ℕ) → slice_get (slot_words (block_in (block_of o)) (member (the-volume o is) 0) ∷ slot_words (block_in (block_of o)) (member (the-volume o is) 1) ∷ []) k ≡ Some words → ⊥
    at zero e = record-speaks o is (member (the-volume o is) 0) (pair o is).first (serial-is (slot_words (block_in (block_of o)) (member (the-volume o is) 0)) e)
    at (suc zero) e = record-speaks o is (member (the-volume o is) 1) (pair o is).second (serial-is (slot_words (block_in (block_of o)) (member (the-volume o is) 1)) e)
    at (suc (suc k)) e = absurd cc

-- the disk that has it is one of the volume
in-slot : (o : Opened) (is : IsOpening o) (slot d : ℕ) (words : SlotWords) → slice_get (block_words.slots (newest_of o) 0) slot ≡ Some words → words.serial ≡ serial_at o d → has_disk d (members_of o) ≡ true
in-slot o is slot d words there same = at (nat_lt d (length o.serials)) refl
  where
    at : (b : Bool) → nat_lt d (length o.serials) ≡ b → has_disk d (members_of o) ≡ true
    at true below =
        in-flat (disks_in_slot o) d (block_words.slots (newest_of o) 0) slot words there (
        has-filter d (λ k. bytes_eq words.serial (serial_at o k)) (numbers_of o)
        ∙ and_from _ _ (range-has d 0 (length o.serials) (omega arith) (omega (arith, ltb-true d (length o.serials) below))) ((bytes_eq-Decides words.serial (serial_at o d)).1 same)
        )
    at false past = absurd (slot-speaks o is slot words there (same ∙ get_or_past o.serials d [] (ltb-false d (length o.serials) past)))

-- THE ROOM ON EACH DISK

geometry-parts : (b : Block) (v : Volume) → has_geometry b v ≡ true → list_all (has_sectors b (pba_of (first_map v) + volume_rows v + METADATA_SECTORS)) (members v) ≡ true
geometry-parts b v e = (and_parts _ _ (and_parts _ (list_all (is_like (first_map v)) v.maps) e).0).1

-- an index below two is that of a slot
one-of-two : (i a b : ℕ) → i < 2 → a < 2 → b < 2 → a ≢ b → (a ≡ i) ⊎ (b ≡ i)
one-of-two i a b below first second apart = at (a == i) refl
  where
    at : (t : Bool) → (a == i) ≡ t → (a ≡ i) ⊎ (b ≡ i)
    at true e = inl (eqb-true a i e)
    at false e = let other : a ≢ i = eqb-false a i e in inr (omega (arith, first, second, below, apart))

sectors-at : (b : Block) (needed i : ℕ) (m : Member) (disk : Part) → m.index ≡ i → slice_get b.disks i ≡ Some disk → has_sectors b needed m ≡ true → needed ≤ total_blocks_of disk
sectors-at b needed i m disk index there e =
    leb-true needed (total_blocks_of disk) (
    sym (
    ap (λ (k : ℕ). option_map_or (λ d. nat_le needed (total_blocks_of d)) (slice_get b.disks k) false) index
    ∙ ap (λ (p : Option Part). option_map_or (λ d. nat_le needed (total_blocks_of d)) p false) there
    ) ∙ e)

needed-at : (o : Opened) (is : IsOpening o) (i : ℕ) (disk : Part) → slice_get (block_in (block_of o)).disks i ≡ Some disk →
    pba_of (first_map (the-volume o is)) + volume_rows (the-volume o is) + METADATA_SECTORS ≤ total_blocks_of disk
needed-at o is i disk there = at (one-of-two i (member v 0).index (member v 1).index (omega (arith, two-records o is, slice_get_within b.disks i disk there)) p.first p.second p.apart)
  where
    b : Block
    b = block_in (block_of o)

    v : Volume
    v = the-volume o is

    p : ArePair v
    p = pair o is

    needed : ℕ
    needed = pba_of (first_map v) + volume_rows v + METADATA_SECTORS

    both : (has_sectors b needed (member v 0) ≡ true) × (has_sectors b needed (member v 1) ≡ true)
    both =
        let t : AreMirrorTests b v = (mirror o is).tests in
        let all = and_parts _ _ (sym (ap (list_all (has_sectors b needed)) (members_two v t.level)) ∙ geometry-parts b v t.geometry) in
        (all.0, (and_parts _ _ all.1).0)

    at : ((member v 0).index ≡ i) ⊎ ((member v 1).index ≡ i) → needed ≤ total_blocks_of disk
    at (inl e) = sectors-at b needed i (member v 0) disk e there both.0
    at (inr e) = sectors-at b needed i (member v 1) disk e there both.1

pub room-on : (o : Opened) (is : IsOpening o) (d : ℕ) → d < length o.serials →
    (block_words.shape (newest_of o) 0).pba + (block_words.shape (newest_of o) 0).rows + METADATA_SECTORS ≤ slice_index o.sizes d
room-on o is d below =
    let own = own-record o d is below in
    let needed : pba_of (first_map (the-volume o is)) + volume_rows (the-volume o is) + METADATA_SECTORS ≤ total_blocks_of own.disk = needed-at o is own.index own.disk own.there in
    subst (λ (s : Shape). s.pba + s.rows + METADATA_SECTORS ≤ slice_index o.sizes d) (sym (mirror o is).shape) (omega (arith, needed, own.holds))

-- WHAT THE LAWS TAKE AS GIVEN

pub rows-are : (o : Opened) (is : IsOpening o) → (block_words.shape (newest_of o) 0).size ≤ (block_words.shape (newest_of o) 0).rows
rows-are o is =
    let v : Volume = the-volume o is in
    let m : IsMirror o v = mirror o is in
    let rows : volume_rows v ≡ volume_size_of v = ap (λ (l : Option Level). rows_of l (member_count_of (first_map v)) (volume_size_of v) (strip_of (first_map v))) m.clean.level in
    subst (λ (s : Shape). s.size ≤ s.rows) (sym m.shape) (omega (arith, rows))

pub first-volume : (o : Opened) (asked : Asked) (content : ℕ → ℕ → Sector) (unsure : ℕ → ℕ → Bool) → IsOpening o → IsFirstVolume (setting_of o asked content unsure)
first-volume o asked content unsure is = record {
  level = ap (λ (s : Shape). s.level) (mirror o is).shape ∙ (mirror o is).clean.level;
  two = ap (λ (ws : List SlotWords). length ws) (mirror o is).slots;
  rows = rows-are o is;
  started = refl;
  members = λ d member.
      let m : IsInVolume o d = in-volume o d member in
      record {
        target = is-target o d is m.below;
        slot = m.slot;
        member = record { words = m.words; there = m.there; same = m.same };
        in_sync = slot-in-sync o is m.slot m.words m.there;
      };
  each_slot = λ slot d m. in-slot o is slot d m.words m.there m.same;
  room = λ d target. room-on o is d (target-below o d target);
}
