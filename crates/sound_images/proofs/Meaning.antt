-- The words of a block that are read from its bytes agree on its volumes, and give the verdict of container.
use Rattle.std.proofs.Common.{◌≡◌, ℕ, zero, suc, ◌+◌, ◌-◌, ◌==◌, ◌&&◌, ◌||◌, nat_le, not, Bool, true, false, if◌then◌else◌, List, [], ◌∷◌, ◌++◌, length, map, filter, flat_map, take, slice_get, slice_index_or, is_none, Option, Some, None, refl, sym, ap, ◌∙◌, arith}
use Rattle.std.specs.List.{list_any}
use Rattle.std.specs.Option.{option_map_or}
use Rattle.std.proofs.lemmas.Bool.{and_parts, eqb-true, leb-true, or_left, or_right}
use Rattle.std.proofs.lemmas.List.{length-map}
use Rattle.std.proofs.lemmas.List.FromFn.{length-range_with_len}
use Rattle.std.proofs.lemmas.Slice.Eq.{bytes_eq-Decides}
use Rattle.units.specs.declared.volume.Level.{Level}
use Rattle.units.specs.declared.volume.Level.TheVariants.{One, Five, Ten}
use Rattle.units.specs.Levels.{suffices}
use Rattle.units.specs.declared.disk.Sector.{Sector}
use Rattle.units.specs.Places.{anchor_place, extended_count}
use Rattle.device_log.specs.Cells.{resting}
use Rattle.imsm_base.specs.Fields.{Part, number_at}
use Rattle.imsm_base.specs.Layout.{Block, Volume, serial_of, member_count_of, level_byte_of}
use Rattle.imsm_base.specs.Whole.{standing, sectors_from, is_expected, expected_serials}
use Rattle.imsm_base.specs.Volumes.{Member, member, members, slots_of, first_map, is_expected_at, is_in_sync, is_degraded as is_degraded_volume, is_unfinished, can_run, pass_start, level_of, volume_level, volume_fault}
use Rattle.array_model.specs.Candidates.{standing_from}
use Rattle.array_model.specs.Blocks.{Laid, Words, SlotWords}
use Rattle.container.specs.Volumes.{pass_from, verdict_by, verdict_with}
use Rattle.block_meaning.specs.Meaning.{bytes_of_laid, has_serial, of_volume, shape_of, no_shape, slot_words, SaysBlock, ReadsBlocks}
use Rattle.sound_images.specs.Images.{Image, block_on}
use Rattle.sound_images.specs.Volumes.{slot_at, is_degraded, has_slot_to_fill, verdict_in_words, HasMembers, AgreesOnVolumes, WordsAgree}

-- LISTS

any_of_map : {X Y : Type 0} (f : X → Y) (test : Y → Bool) (other : X → Bool) → ((x : X) → test (f x) ≡ other x) → (xs : List X) → list_any test (map f xs) ≡ list_any other xs
any_of_map f test other same [] = refl
any_of_map f test other same (x ∷ xs) = rw (same x, any_of_map f test other same xs) refl

map_of_map : {X Y Z : Type 0} (f : X → Y) (g : Y → Z) (h : X → Z) → ((x : X) → g (f x) ≡ h x) → (xs : List X) → map g (map f xs) ≡ map h xs
map_of_map f g h same [] = refl
map_of_map f g h same (x ∷ xs) = rw (same x, map_of_map f g h same xs) refl

-- what is so of each that a function makes, and of another, is so of the one at a place
at_place : {X Y : Type 0} (P : Y → Type 0) (f : X → Y) (other : Y) → P other → ((x : X) → P (f x)) → (xs : List X) (k : ℕ) → P (slice_index_or (map f xs) k other)
at_place P f other past each [] k = past
at_place P f other past each (x ∷ xs) zero = each x
at_place P f other past each (x ∷ xs) (suc k) = at_place P f other past each xs k

-- SERIALS

pub has_own : (disks : List Part) (k : ℕ) (d : Part) → slice_get disks k ≡ Some d → is_expected d ≡ true → has_serial (map serial_of (filter is_expected disks)) (serial_of d) ≡ true
has_own [] k d there expected = absurd cc
has_own (x ∷ disks) k d there expected = at (is_expected x) refl k there (λ j more. has_own disks j d more expected)
  where
    at : (b : Bool) → is_expected x ≡ b → (k : ℕ) → slice_get (x ∷ disks) k ≡ Some d
        → ((j : ℕ) → slice_get disks j ≡ Some d → has_serial (map serial_of (filter is_expected disks)) (serial_of d) ≡ true)
        → has_serial (map serial_of (if b then x ∷ filter is_expected disks else filter is_expected disks)) (serial_of d) ≡ true
    at true is zero there more =
        let same : x ≡ d = cc there in
        or_left _ _ ((bytes_eq-Decides (serial_of x) (serial_of d)).1 (ap serial_of same))
    at true is (suc j) there more = or_right _ _ (more j there)
    at false is zero there more = absurd (let same : x ≡ d = cc there in let out : true ≡ false = sym expected ∙ sym (ap is_expected same) ∙ is in cc out)
    at false is (suc j) there more = more j there

-- a slot in sync stands on an expected disk
sync_expected : (b : Block) (mm : Member) → (slot_words b mm).is_in_sync ≡ true → has_serial (expected_serials b) (slot_words b mm).serial ≡ true
sync_expected b mm sync = at (slice_get b.disks mm.index) refl (and_parts _ _ sync).1
  where
    at : (o : Option Part) → slice_get b.disks mm.index ≡ o → option_map_or is_expected o false ≡ true → has_serial (expected_serials b) (option_map_or serial_of o []) ≡ true
    at None none out = absurd cc
    at (Some d) there expected = has_own b.disks mm.index d there expected

-- LEVELS

has_members : (byte count : ℕ) → is_none (level_of byte count) ≡ false → HasMembers (level_of byte count) count
has_members byte count some = at (byte == 1 && count == 2) refl (byte == 1 && count == 4) refl (byte == 5 && nat_le 3 count && nat_le count 8) refl some
  where
    at : (one : Bool) → (byte == 1 && count == 2) ≡ one → (ten : Bool) → (byte == 1 && count == 4) ≡ ten → (five : Bool) → (byte == 5 && nat_le 3 count && nat_le count 8) ≡ five
        → is_none (if one then Some One else (if ten then Some Ten else (if five then Some Five else None))) ≡ false
        → HasMembers (if one then Some One else (if ten then Some Ten else (if five then Some Five else None))) count
    at true is ten t five f some = eqb-true count 2 (and_parts _ _ is).1
    at false o true is five f some = eqb-true count 4 (and_parts _ _ is).1
    at false o false t true is some = omega (arith, leb-true 3 count (and_parts _ _ (and_parts _ _ is).0).1)
    at false o false t false f some = absurd cc

-- a supported volume has a level
leveled : (b : Block) (k : ℕ) (x : Volume) → is_none (volume_fault b k x) ≡ true → is_none (volume_level x) ≡ false
leveled b k x fine = at (is_none (volume_level x)) refl
  where
    at : (none : Bool) → is_none (volume_level x) ≡ none → none ≡ false
    at false is = refl
    at true is = absurd (let fault : is_none (volume_fault b k x) ≡ false = rw is refl in cc (fine, fault))

-- WORDS

same_by : {r s u w d e : Bool} {l k : Option Level} {p q : Option ℕ} → r ≡ s → u ≡ w → d ≡ e → l ≡ k → p ≡ q → verdict_by r u d l p ≡ verdict_by s w e k q
same_by {r} {s} {u} {w} {d} {e} {l} {k} {p} {q} runs unfinished degraded level pass =
    ap (λ z. verdict_by z u d l p) runs ∙ ap (λ z. verdict_by s z d l p) unfinished ∙ ap (λ z. verdict_by s w z l p) degraded
    ∙ ap (λ z. verdict_by s w e z p) level ∙ ap (λ z. verdict_by s w e k z) pass

same_pass : {u w f g : Bool} {a b : ℕ} → u ≡ w → f ≡ g → a ≡ b → pass_from (u || f) a ≡ pass_from (w || g) b
same_pass {u} {w} {f} {g} {a} {b} unfinished fills start = ap (λ z. pass_from (z || f) a) unfinished ∙ ap (λ z. pass_from (w || z) a) fills ∙ ap (λ z. pass_from (w || g) z) start

module _ (W : Words) (m : Laid) (b : Block) (says : SaysBlock W m b) where
  module _ (v : ℕ) (x : Volume) (there : slice_get b.volumes v ≡ Some x) where
    word : {X : Type 0} (f : Volume → X) (none : X) → of_volume b v f none ≡ f x
    word f none = ap (λ o. option_map_or f o none) there

    slots_are : W.slots m v ≡ map (slot_words b) (members x)
    slots_are = says.slots v ∙ word (λ x. map (slot_words b) (members x)) []

    to_fill : (out expected : Bool) → (expected && not (not out && expected)) ≡ (out && expected)
    to_fill true true = refl
    to_fill true false = refl
    to_fill false true = refl
    to_fill false false = refl

    degraded : is_degraded W m v ≡ is_degraded_volume b x
    degraded = ap (λ slots. list_any (λ (slot : SlotWords). not slot.is_in_sync) slots) slots_are ∙ any_of_map (slot_words b) _ (λ mm. not (is_in_sync b mm)) (λ mm. refl) (members x)

    fills : has_slot_to_fill W m v ≡ list_any (λ (mm : Member). mm.is_out && is_expected_at b mm.index) (members x)
    fills =
        ap (λ slots. list_any (λ (slot : SlotWords). slot.is_expected && not slot.is_in_sync) slots) slots_are
        ∙ any_of_map (slot_words b) _ (λ mm. mm.is_out && is_expected_at b mm.index) (λ mm. to_fill mm.is_out (is_expected_at b mm.index)) (members x)

    pub same_verdict : verdict_in_words W m v ≡ verdict_with b x (members x)
    same_verdict =
        same_by (says.can_run v ∙ word (can_run b) false) unfinished degraded (ap (λ s. s.level) (says.shape v ∙ word shape_of no_shape))
        (same_pass unfinished fills (says.pass_start v ∙ word pass_start 0))
      where
        unfinished : W.is_unfinished m v ≡ is_unfinished x
        unfinished = says.is_unfinished v ∙ word is_unfinished false

    count : length (W.slots m v) ≡ (W.shape m v).members
    count =
        ap length slots_are ∙ length-map (members x) (slot_words b) ∙ length-map (slots_of x) (member x) ∙ length-range_with_len 0 (member_count_of (first_map x))
        ∙ sym (ap (λ s. s.members) (says.shape v ∙ word shape_of no_shape))

    leveled_as : (W.shape m v).level ≡ volume_level x
    leveled_as = ap (λ s. s.level) (says.shape v ∙ word shape_of no_shape)

    has_its_members : W.is_supported m v ≡ true → HasMembers (W.shape m v).level (W.shape m v).members
    has_its_members supported =
        let fine : is_none (volume_fault b v x) ≡ true = sym (says.is_supported v ∙ word (λ x. is_none (volume_fault b v x)) false) ∙ supported in
        rw (says.shape v ∙ word shape_of no_shape) (has_members (level_byte_of (first_map x)) (member_count_of (first_map x)) (leveled b v x fine))

    redundant : W.can_run m v ≡ true → suffices (W.shape m v).level (map (λ slot. slot.is_in_sync) (W.slots m v)) ≡ true
    redundant runs =
        let can : can_run b x ≡ true = sym (says.can_run v ∙ word (can_run b) false) ∙ runs in
        rw (leveled_as, slots_are, map_of_map (slot_words b) (λ slot. slot.is_in_sync) (is_in_sync b) (λ mm. refl) (members x)) (and_parts _ _ can).0

  -- a supported volume is there
  volume_there : (v : ℕ) → W.is_supported m v ≡ true → (x : Volume) × (slice_get b.volumes v ≡ Some x)
  volume_there v supported = at (slice_get b.volumes v) refl (sym (says.is_supported v) ∙ supported)
    where
      at : (o : Option Volume) → slice_get b.volumes v ≡ o → option_map_or (λ x. is_none (volume_fault b v x)) o false ≡ true → (x : Volume) × (slice_get b.volumes v ≡ Some x)
      at None none out = absurd cc
      at (Some x) there fine = (x, there)

  expected : (v slot : ℕ) → (slot_at W m v slot).is_in_sync ≡ true → W.expects m (slot_at W m v slot).serial ≡ true
  expected v slot = at (slice_get b.volumes v) (says.slots v)
    where
      at : (o : Option Volume) → W.slots m v ≡ option_map_or (λ x. map (slot_words b) (members x)) o [] → (slot_at W m v slot).is_in_sync ≡ true → W.expects m (slot_at W m v slot).serial ≡ true
      at None are = rw are (λ sync. absurd cc)
      at (Some x) are =
          rw are (at_place (λ words. words.is_in_sync ≡ true → W.expects m words.serial ≡ true) (slot_words b) _ (λ sync. absurd cc)
          (λ mm sync. says.expects _ ∙ sync_expected b mm sync) (members x) slot)

  pub agrees : AgreesOnVolumes W m
  agrees = record {
    expected = expected;
    count = λ v supported. let x = volume_there v supported in count v x.0 x.1;
    members = λ v supported. let x = volume_there v supported in has_its_members v x.0 x.1 supported;
    redundant = λ v supported runs. let x = volume_there v supported in redundant v x.0 x.1 runs;
  }

pub words_agree : (W : Words) → ReadsBlocks W → WordsAgree W
words_agree W reads serial sectors m whole =
    let p = (reads.is_whole serial sectors m).0 whole in
    agrees W m p.0 (reads.says m p.0 p.1.whole)

-- BYTES

rest_is : (at : ℕ → Sector) (place count : ℕ) → flat_map (λ (s : Sector). s.0) (standing_from (λ p. resting (at p)) place count) ≡ sectors_from at place count
rest_is at place zero = refl
rest_is at place (suc count) = ap (λ more. (at place).0 ++ more) (rest_is at (place + 1) count)

pub same_bytes : (W : Words) (i : Image) → ReadsBlocks W → bytes_of_laid (block_on W i) ≡ standing i.sectors i.at
same_bytes W i reads =
    let first : Sector = i.at (anchor_place i.sectors) in
    let size : ℕ = number_at 4 0x24 first.0 in
    ap (λ k. take size (first.0 ++ flat_map (λ (s : Sector). s.0) (standing_from (λ p. resting (i.at p)) (anchor_place i.sectors - k) k))) (reads.extra first)
    ∙ ap (λ more. take size (first.0 ++ more)) (rest_is i.at (anchor_place i.sectors - extended_count size) (extended_count size))
