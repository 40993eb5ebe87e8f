-- An opening of sound images keeps.
use Rattle.std.proofs.Common.{◌≡◌, ℕ, ◌+◌, ◌<◌, ◌≤◌, ◌||◌, Bool, true, false, List, [], ◌∷◌, map, Option, Some, refl, sym, ap, ◌∙◌, subst, arith, inl, inr}
use Rattle.std.specs.List.{AllByRecursion}
use Rattle.std.specs.Option.{option_map_or}
use Rattle.std.proofs.lemmas.Bool.{cases_lt}
use Rattle.units.specs.declared.disk.Sector.{Sector}
use Rattle.array_model.specs.Blocks.{Laid, Words}
use Rattle.array_model.specs.Placement.{Placement}
use Rattle.container.specs.Volumes.{pass_from}
use Rattle.raid_map.specs.Layouts.{sector_placement}
use Rattle.sound_images.specs.Images.{Image, AreAmong, block_on, IsHeld, IsHeldOn, IsNewestOf, IsComplete}
use Rattle.sound_images.specs.Volumes.{slot_at, has_slot_to_fill, AgreesOnVolumes, WordsAgree, StartsFrom, Starts}
use Rattle.sound_images.specs.Rows.{stands_in, xor_of, slots_read, given}
use Rattle.sound_images.specs.Sound.{IsOvertaken, SoundImages}
use Rattle.sound_images.specs.Keeps.{AreLargeEnough, Opens, IsTrusted, Keeps}
use Rattle.sound_images.proofs.Serials.{one_disk, same_disk}
use Rattle.keep_law.proofs.Slots.{started, all_trusted}

-- what some disks hold more of them hold
abbrev pub held_more : (W : Words) (present images : List Image) (a : Laid) → AreAmong present images → IsHeld W present a → IsHeld W images a
held_more W present images a among h = record { disk = h.disk; among = among h.disk h.among; stands = h.stands; whole = h.whole; container = h.container }

held_on_more : (W : Words) (present images : List Image) (serial : List ℕ) (a : Laid) → AreAmong present images → IsHeldOn W present serial a → IsHeldOn W images serial a
held_on_more W present images serial a among h = record { held = held_more W present images a among h.held; same = h.same }

same_map : {X Y : Type 0} (P : X → Type 0) (f g : X → Y) → ((x : X) → P x → f x ≡ g x) → (xs : List X) → AllByRecursion P xs → map f xs ≡ map g xs
same_map P f g same [] all = refl
same_map P f g same (x ∷ xs) all = rw (same x all.0, same_map P f g same xs all.1) refl

module _ (W : Words) (bytes : Laid → List ℕ) (images present : List Image) (content : ℕ → ℕ → Sector) (unsure : ℕ → ℕ → Bool) (mark : ℕ) (m : Laid)
    (agree : WordsAgree W) (sound : SoundImages W bytes images content unsure mark) (among : AreAmong present images) (opens : Opens W bytes present m) where
  -- each disk that the block expects is present, with a block that isn't higher
  not_overtaken : IsOvertaken W images m → ⊥
  not_overtaken old =
      let there = opens.complete old.0 old.1 in
      let higher : W.generation m.anchor < W.generation there.0.anchor = old.2 there.0 (held_on_more W present images old.0 there.0 among there.1) in
      let lower : W.generation there.0.anchor ≤ W.generation m.anchor = opens.newest.highest there.0 there.1.held in
      omega (arith, higher, lower)

  held : IsHeld W images m
  held = held_more W present images m among opens.newest.held

  newest : IsNewestOf W images m
  newest = record {
    held = held;
    highest = λ a h. elim (cases_lt (W.generation m.anchor) (W.generation a.anchor)) [
      | inl lt ↦ absurd (not_overtaken (sound.old m held (inr (a, h, lt))))
      | inr le ↦ le
    ];
  }

  marked : mark ≤ W.generation m.anchor
  marked = elim (cases_lt (W.generation m.anchor) mark) [
    | inl lt ↦ absurd (not_overtaken (sound.old m held (inl lt)))
    | inr le ↦ le
  ]

  complete : IsComplete W images m
  complete serial expected = let there = opens.complete serial expected in (there.0, held_on_more W present images serial there.0 among there.1)

  agrees : AgreesOnVolumes W m
  agrees = agree held.disk.serial held.disk.sectors m held.whole

  trusted : (v : ℕ) → Starts W m v → (s : ℕ) (lies : Placement) → sector_placement (W.shape m v) s ≡ Some lies → AllByRecursion (IsTrusted W m v) (slots_read W m v lies)
  trusted v starts s lies placed = all_trusted W m v agrees starts.1.supported (started W m v starts.0 starts.1).0 s lies placed

  -- what stands on a trusted slot is the same among the disks that are present and among all
  stands : (v row slot : ℕ) → IsTrusted W m v slot → stands_in W present m v row slot ≡ stands_in W images m v row slot
  stands v row slot t =
      let serial : List ℕ = (slot_at W m v slot).serial in
      let there = opens.complete serial t.expected in
      ap (λ o. option_map_or (λ (i : Image). i.at ((W.shape m v).pba + row)) o (record { 0 = [] }))
      (same_disk images present serial there.1.held.disk sound.serials among there.1.held.among there.1.same)

  gives : (v : ℕ) → Starts W m v → (s : ℕ) (lies : Placement) → sector_placement (W.shape m v) s ≡ Some lies → unsure v s ≡ false → given W present m v lies ≡ (content v s).0
  gives v starts s lies placed sure =
      ap xor_of (same_map (IsTrusted W m v) (stands_in W present m v lies.row) (stands_in W images m v lies.row) (stands v lies.row) (slots_read W m v lies) (trusted v starts s lies placed))
      ∙ (sound.rows m newest complete v starts).gives s lies placed sure

  resumed : (v : ℕ) (pass : Option ℕ) → StartsFrom W m v pass → W.is_unfinished m v ≡ true → pass ≡ Some (W.pass_start m v)
  resumed v pass starts unfinished =
      sym (started W m v pass starts).1 ∙ ap (λ b. pass_from (b || has_slot_to_fill W m v) (W.pass_start m v)) unfinished

  pub keeps : Keeps W images present content unsure mark m
  keeps = record { newest = newest; marked = marked; trusted = trusted; resumed = resumed; gives = gives }

pub opens_newest : (W : Words) (bytes : Laid → List ℕ) (images present : List Image) (content : ℕ → ℕ → Sector) (unsure : ℕ → ℕ → Bool) (mark : ℕ) (m : Laid)
    → SoundImages W bytes images content unsure mark → AreAmong present images → IsNewestOf W images m → IsHeld W present m → IsComplete W present m → AreLargeEnough W present m → Opens W bytes present m
opens_newest W bytes images present content unsure mark m sound among newest held complete large = record {
  one_container = record {
    family = λ a b ha hb. sound.one_container.family a b (held_more W present images a among ha) (held_more W present images b among hb);
    same = λ a b ha hb. sound.one_container.same a b (held_more W present images a among ha) (held_more W present images b among hb);
  };
  newest = record { held = held; highest = λ a h. newest.highest a (held_more W present images a among h) };
  complete = complete;
  large = large;
}

-- a disk that the block expects is present, and so is the block that stands on it
pub held_there : (W : Words) (bytes : Laid → List ℕ) (images present : List Image) (content : ℕ → ℕ → Sector) (unsure : ℕ → ℕ → Bool) (mark : ℕ) (m : Laid) (serial : List ℕ)
    → SoundImages W bytes images content unsure mark → AreAmong present images → IsComplete W present m → W.expects m serial ≡ true → IsHeldOn W images serial m → IsHeld W present m
held_there W bytes images present content unsure mark m serial sound among complete expected on =
    let there = complete serial expected in
    let here : Image = there.1.held.disk in
    let same : on.held.disk ≡ here = one_disk images on.held.disk here sound.serials on.held.among (among here there.1.held.among) (on.same ∙ sym there.1.same) in
    record {
      disk = here;
      among = there.1.held.among;
      stands = subst (λ i. block_on W i ≡ m) same on.held.stands;
      whole = subst (λ (i : Image). W.is_whole i.serial i.sectors m ≡ true) same on.held.whole;
      container = on.held.container;
    }

pub opens_in_any_order : (W : Words) (bytes : Laid → List ℕ) (present other : List Image) (m : Laid) → AreAmong present other → AreAmong other present → Opens W bytes present m → Opens W bytes other m
opens_in_any_order W bytes present other m there back opens = record {
  one_container = record {
    family = λ a b ha hb. opens.one_container.family a b (held_more W other present a back ha) (held_more W other present b back hb);
    same = λ a b ha hb. opens.one_container.same a b (held_more W other present a back ha) (held_more W other present b back hb);
  };
  newest = record { held = held_more W present other m there opens.newest.held; highest = λ a h. opens.newest.highest a (held_more W other present a back h) };
  complete = λ serial expected. let h = opens.complete serial expected in (h.0, held_on_more W present other serial h.0 there h.1);
  large = λ i among expected. opens.large i (back i among) expected;
}
