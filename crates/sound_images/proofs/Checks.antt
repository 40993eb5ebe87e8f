-- Images whose blocks and rows pass tests are sound.
use Rattle.std.proofs.Common.{◌≡◌, ℕ, zero, suc, ◌+◌, ◌<◌, ◌≤◌, ◌==◌, ◌||◌, ◌&&◌, not, nat_lt, nat_le, Bool, true, false, List, [], ◌∷◌, length, slice_index_or, bytes_eq, Some, refl, sym, ap, ◌∙◌, subst, arith, inl, inr}
use Rattle.std.specs.List.{list_any, list_all, range_with_len}
use Rattle.std.specs.Option.{option_map_or}
use Rattle.std.proofs.lemmas.Bool.{and_parts, and_from, or_cases, eqb-true, eq-eqb, ltb-true, leb-true, le-leb}
use Rattle.std.proofs.lemmas.Slice.Eq.{bytes_eq-Decides}
use Rattle.units.specs.declared.disk.Sector.{Sector}
use Rattle.array_model.specs.Blocks.{Laid, Words, SlotWords, sector_eq, is_container}
use Rattle.array_model.specs.Placement.{Placement}
use Rattle.array_model.proofs.SmallFacts.{in_range}
use Rattle.container.specs.Volumes.{has_parity}
use Rattle.raid_map.specs.Layouts.{has_copy, sector_placement}
use Rattle.raid_map.proofs.Stripes.{sector_below}
use Rattle.sound_images.specs.Images.{Image, Among, HaveOwnSerials, block_on, IsHeld, IsNewestOf}
use Rattle.sound_images.specs.Volumes.{slot_at, is_degraded, Starts}
use Rattle.sound_images.specs.Rows.{stands_in, xor_in, slots_telling_at, given}
use Rattle.sound_images.specs.Sound.{IsOld, IsOvertaken, SoundRows, SoundImages}
use Rattle.sound_images.proofs.Disks.{held_at, each_passes, all_pass, some_passes}

-- of two, the second holds where the first doesn't
second_of : (a b : Bool) → (a || b) ≡ true → a ≡ false → b ≡ true
second_of true b h is = absurd cc
second_of false b h is = h

-- what follows from a premise
follows : (a b : Bool) → (not a || b) ≡ true → a ≡ true → b ≡ true
follows true b h is = h
follows false b h is = absurd cc

same_sector : (a b : Sector) → sector_eq a b ≡ true → a ≡ b
same_sector a b h = ap (λ bytes. record { 0 = bytes }) ((bytes_eq-Decides a.0 b.0).0 h)

none_below : (row start : ℕ) → row < start → start ≡ 0 → ⊥
none_below row start below none = omega (arith, below, none)

-- a slot in sync is one of those that are there
slot_below : (slots : List SlotWords) (slot : ℕ) (other : SlotWords) → other.is_in_sync ≡ false → (slice_index_or slots slot other).is_in_sync ≡ true → slot < length slots
slot_below [] slot other out sync = absurd (let h : true ≡ false = sym sync ∙ out in cc h)
slot_below (x ∷ slots) zero other out sync = omega arith
slot_below (x ∷ slots) (suc slot) other out sync = let h = slot_below slots slot other out sync in omega (arith, h)

module _ (W : Words) (bytes : Laid → List ℕ) (images : List Image) (content : ℕ → ℕ → Sector) (unsure : ℕ → ℕ → Bool) (mark : ℕ) where
  abbrev on : Image → Laid
  on i = block_on W i

  abbrev gen : Laid → ℕ
  gen m = W.generation m.anchor

  abbrev pub is_whole_on : Image → Bool
  is_whole_on i = W.is_whole i.serial i.sectors (block_on W i) && is_container W (block_on W i)

  abbrev pub are_of_one : Image → Image → Bool
  are_of_one i j =
      (W.family (block_on W i) == W.family (block_on W j))
      && (not (W.generation (block_on W i).anchor == W.generation (block_on W j).anchor) || bytes_eq (bytes (block_on W i)) (bytes (block_on W j)))

  abbrev pub is_highest : Image → Bool
  is_highest i = list_all (λ j. nat_le (W.generation (block_on W j).anchor) (W.generation (block_on W i).anchor)) images

  abbrev pub overtakes : Image → Image → Bool
  overtakes i x =
      W.expects (block_on W i) x.serial
      && list_all (λ j. not (bytes_eq j.serial x.serial) || nat_lt (W.generation (block_on W i).anchor) (W.generation (block_on W j).anchor)) images

  abbrev pub is_new_or_overtaken : Image → Bool
  is_new_or_overtaken i = (nat_le mark (W.generation (block_on W i).anchor) && is_highest i) || list_any (overtakes i) images

  abbrev pub slots_of : Laid → List ℕ
  slots_of m = range_with_len 0 (length (W.slots m 0))

  abbrev pub is_copied : Laid → ℕ → Placement → ℕ → Bool
  is_copied m s lies slot =
      not (has_copy (W.shape m 0).level lies slot && (slot_at W m 0 slot).is_in_sync) || sector_eq (stands_in W images m 0 lies.row slot) (content 0 s)

  abbrev pub is_kept : Laid → ℕ → Placement → Bool
  is_kept m s lies = unsure 0 s || (list_all (is_copied m s lies) (slots_of m) && bytes_eq (given W images m 0 lies) (content 0 s).0)

  abbrev pub is_right : Laid → ℕ → ℕ → Bool
  is_right m row slot =
      not (slot_at W m 0 slot).is_in_sync
      || bytes_eq (stands_in W images m 0 row slot).0 (xor_in W images m 0 row (slots_telling_at (W.shape m 0).level W m 0 slot))

  -- the rows tell what each slot is to hold, and no pass has left one behind
  abbrev pub are_right : Laid → Bool
  are_right m =
      (has_parity (W.shape m 0).level && is_degraded W m 0)
      || list_all (λ row. list_all (is_right m row) (slots_of m)) (range_with_len 0 (W.shape m 0).rows)

  abbrev pub are_rows : Laid → Bool
  are_rows m =
      (list_all (λ s. option_map_or (is_kept m s) (sector_placement (W.shape m 0) s) true) (range_with_len 0 (W.shape m 0).size)
      && are_right m)
      && (W.pass_start m 0 == 0)

  abbrev pub is_sound : Bool
  is_sound =
      (list_all is_whole_on images && list_all (λ i. list_all (are_of_one i) images) images)
      && (list_all is_new_or_overtaken images && list_all (λ i. not (is_highest i) || are_rows (block_on W i)) images)

  -- ROWS

  module _ (m : Laid) (h : are_rows m ≡ true) where
    kept : (s : ℕ) (lies : Placement) → sector_placement (W.shape m 0) s ≡ Some lies → unsure 0 s ≡ false
        → (list_all (is_copied m s lies) (slots_of m) && bytes_eq (given W images m 0 lies) (content 0 s).0) ≡ true
    kept s lies placed sure =
        let below : s < 0 + (W.shape m 0).size = omega (arith, sector_below (W.shape m 0) s lies placed) in
        let tested = in_range (λ s. option_map_or (is_kept m s) (sector_placement (W.shape m 0) s) true) (W.shape m 0).size 0 s (omega arith) below (and_parts _ _ (and_parts _ _ h).0).0 in
        let is : is_kept m s lies ≡ true = subst (λ o. option_map_or (is_kept m s) o true ≡ true) placed tested in
        second_of (unsure 0 s) _ is sure

    of_slot : (test : ℕ → Bool) → list_all test (slots_of m) ≡ true → (slot : ℕ) → (slot_at W m 0 slot).is_in_sync ≡ true → test slot ≡ true
    of_slot test all slot sync =
        let below = slot_below (W.slots m 0) slot _ refl sync in
        in_range test (length (W.slots m 0)) 0 slot (omega arith) (omega (arith, below)) all

    whole_rows : (has_parity (W.shape m 0).level && is_degraded W m 0) ≡ false → list_all (λ row. list_all (is_right m row) (slots_of m)) (range_with_len 0 (W.shape m 0).rows) ≡ true
    whole_rows whole = second_of _ _ (and_parts _ _ (and_parts _ _ h).0).1 whole

    rows : SoundRows W images content unsure m 0
    rows = record {
      copies = λ s lies placed sure slot copy sync.
          let test = of_slot (is_copied m s lies) (and_parts _ _ (kept s lies placed sure)).0 slot sync in
          same_sector _ _ (follows _ _ test (and_from _ _ copy sync));
      gives = λ s lies placed sure. (bytes_eq-Decides _ _).0 (and_parts _ _ (kept s lies placed sure)).1;
      finished = λ done whole row slot below sync.
          let all = in_range (λ row. list_all (is_right m row) (slots_of m)) (W.shape m 0).rows 0 row (omega arith) (omega (arith, below)) (whole_rows whole) in
          (bytes_eq-Decides _ _).0 (follows _ _ (of_slot (is_right m row) all slot sync) sync);
      behind_pass = λ expected row slot below sync. absurd (none_below row (W.pass_start m 0) below (eqb-true (W.pass_start m 0) 0 (and_parts _ _ h).1));
    }

  -- BLOCKS

  module _ (serials : HaveOwnSerials images) (one_volume : (m : Laid) (v : ℕ) → W.is_supported m v ≡ true → v ≡ 0) (h : is_sound ≡ true) where
    wholes : list_all is_whole_on images ≡ true
    wholes = (and_parts _ _ (and_parts _ _ h).0).0

    of_one : (i j : Image) → Among i images → Among j images → are_of_one i j ≡ true
    of_one i j ai aj = each_passes (are_of_one i) images (each_passes (λ i. list_all (are_of_one i) images) images (and_parts _ _ (and_parts _ _ h).0).1 i ai) j aj

    family : (a b : Laid) → IsHeld W images a → IsHeld W images b → W.family a ≡ W.family b
    family a b ha hb = sym (ap W.family ha.stands) ∙ eqb-true _ _ (and_parts _ _ (of_one ha.disk hb.disk ha.among hb.among)).0 ∙ ap W.family hb.stands

    same : (a b : Laid) → IsHeld W images a → IsHeld W images b → gen a ≡ gen b → bytes a ≡ bytes b
    same a b ha hb g =
        let equal : gen (on ha.disk) ≡ gen (on hb.disk) = ap gen ha.stands ∙ g ∙ sym (ap gen hb.stands) in
        let is = follows _ _ (and_parts _ _ (of_one ha.disk hb.disk ha.among hb.among)).1 (eq-eqb _ _ equal) in
        sym (ap bytes ha.stands) ∙ (bytes_eq-Decides _ _).0 is ∙ ap bytes hb.stands

    old : (m : Laid) → IsHeld W images m → IsOld W images mark m → IsOvertaken W images m
    old m held is = elim (or_cases _ _ (each_passes is_new_or_overtaken images (and_parts _ _ (and_parts _ _ h).1).0 held.disk held.among)) [
      | inl newest ↦ absurd (not_old is (leb-true _ _ (and_parts _ _ newest).0) (and_parts _ _ newest).1)
      | inr some ↦
          let x = some_passes (overtakes held.disk) images some in
          let both = and_parts _ _ x.2 in (
            x.0.serial,
            subst (λ z. W.expects z x.0.serial ≡ true) held.stands both.0,
            λ a on_x.
                let tested = each_passes (λ j. not (bytes_eq j.serial x.0.serial) || nat_lt (gen (on held.disk)) (gen (on j))) images both.1 on_x.held.disk on_x.held.among in
                let lower : gen (on held.disk) < gen (on on_x.held.disk) = ltb-true _ _ (follows _ _ tested ((bytes_eq-Decides _ _).1 on_x.same)) in
                omega (arith, lower, ap gen held.stands, ap gen on_x.held.stands),
          )
    ]
      where
        not_old : IsOld W images mark m → mark ≤ gen (on held.disk) → is_highest held.disk ≡ true → ⊥
        not_old (inl below) above highest = omega (arith, below, above, ap gen held.stands)
        not_old (inr other) above highest =
            let le : gen (on other.1.disk) ≤ gen (on held.disk) = leb-true _ _ (each_passes (λ j. nat_le (gen (on j)) (gen (on held.disk))) images highest other.1.disk other.1.among) in
            omega (arith, other.2, le, ap gen held.stands, ap gen other.1.stands)

    started : (m : Laid) → IsNewestOf W images m → (v : ℕ) → Starts W m v → SoundRows W images content unsure m v
    started m newest v starts =
        let i : Image = newest.held.disk in
        let highest : is_highest i ≡ true = all_pass (λ j. nat_le (gen (on j)) (gen (on i))) images (λ j among.
        let whole = and_parts _ _ (each_passes is_whole_on images wholes j among) in
        le-leb _ _ (subst (λ z. gen (on j) ≤ gen z) (sym newest.held.stands) (newest.highest (on j) (held_at W images j among whole.0 whole.1)))) in
        let checked : are_rows (on i) ≡ true = follows _ _ (each_passes (λ i. not (is_highest i) || are_rows (block_on W i)) images (and_parts _ _ (and_parts _ _ h).1).1 i newest.held.among) highest in
        subst (λ v. SoundRows W images content unsure m v) (sym (one_volume m v starts.1.supported)) (subst (λ m. SoundRows W images content unsure m 0) newest.held.stands (rows (on i) checked))

    pub sound_by_tests : SoundImages W bytes images content unsure mark
    sound_by_tests = record {
      serials = serials;
      one_container = record { family = family; same = same };
      old = old;
      rows = λ m newest complete v starts. started m newest v starts;
    }
