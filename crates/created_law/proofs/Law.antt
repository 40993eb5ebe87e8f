-- The disks of a new container are sound, and are opened by its block.
use Rattle.std.proofs.Common.{◌≡◌, ℕ, ◌+◌, ◌-◌, ◌<◌, ◌==◌, Bool, true, false, if◌then◌else◌, List, [], All, length, slice_get, get_or, Option, Some, refl, sym, ap, ◌∙◌, subst, arith, inl, inr}
use Rattle.std.specs.Option.{option_map_or}
use Rattle.std.proofs.lemmas.Bool.{ne_eqb}
use Rattle.std.proofs.lemmas.List.Elements.{recursion_from_All}
use Rattle.std.proofs.lemmas.Option.{slice_get-get_or}
use Rattle.units.specs.Places.{anchor_place, extended_count}
use Rattle.imsm_base.specs.Layout.{Block, generation_of}
use Rattle.imsm_base.specs.Parts.{block_in}
use Rattle.imsm_base.specs.Whole.{AreApart, IsWholeBlock, IsWholeDisk, standing}
use Rattle.imsm_base.proofs.Joined.{block_in-spelled}
use Rattle.mpb_store.specs.Banks.{blank_sector}
use Rattle.mpb_store.specs.Sectors.{block_sector}
use Rattle.mpb_store.proofs.Standing.{answer_standing}
use Rattle.array_model.specs.Blocks.{Laid, Words, is_container}
use Rattle.block_meaning.specs.Meaning.{bytes_of_laid, ReadsBlocks}
use Rattle.new_container.specs.declared.container.NewContainer.{NewContainer}
use Rattle.new_container.specs.declared.disk.NewDisk.{NewDisk}
use Rattle.new_container.specs.Fits.{total_rows}
use Rattle.new_container.specs.Created.{CanCreate, IsDisk, created_block, created_bytes, volume_count}
use Rattle.new_container.proofs.Whole.{created_whole, few_disks}
use Rattle.new_container.proofs.Started.{created_disk, created_generation}
use Rattle.sound_images.specs.Images.{Image, Among, HaveOwnSerials, block_on, IsHeld, IsHeldOn, IsNewestOf, IsComplete, AreOneContainer}
use Rattle.sound_images.specs.Volumes.{slot_at}
use Rattle.sound_images.specs.Rows.{disk_with, stands_in}
use Rattle.sound_images.specs.Sound.{IsOld, SoundRows, SoundImages}
use Rattle.sound_images.specs.Keeps.{AreLargeEnough, Opens}
use Rattle.sound_images.proofs.Meaning.{same_bytes}
use Rattle.sound_images.proofs.Serials.{IsFoundDisk, finds}
use Rattle.created_law.specs.OnBank.{IsCreatedOn}
use Rattle.created_law.proofs.Made.{AreMadeOn, IsMadeOn, IsImageOf, HasImage, disk_of, image_of, serials_are}
use Rattle.created_law.proofs.Rows.{blank_rows}
use Rattle.created_law.proofs.Standing.{laid_generation, laid_of, stands_laid}
use Rattle.created_law.proofs.Words as words
use Rattle.created_law.proofs.Words.{IsDiskOf}

module _ (W : Words) (reads : ReadsBlocks W) (made : NewContainer) (disks : List NewDisk) (can : CanCreate made disks) (typed : All IsDisk disks)
    (images : List Image) (are : AreMadeOn (total_rows made (length disks)) (created_bytes made disks) disks images) where
  abbrev rows : ℕ
  rows = total_rows made (length disks)

  abbrev bytes : List ℕ
  bytes = created_bytes made disks

  abbrev m : Laid
  m = laid_of bytes

  whole : IsWholeBlock bytes (created_block made disks)
  whole = created_whole made disks can (recursion_from_All IsDisk disks typed)

  spelled : block_in bytes ≡ created_block made disks
  spelled = block_in-spelled bytes (created_block made disks) whole.spells

  whole_in : IsWholeBlock bytes (block_in bytes)
  whole_in = subst (λ (b : Block). IsWholeBlock bytes b) (sym spelled) whole

  -- ONE DISK

  module _ (k : ℕ) (disk : NewDisk) (there : slice_get disks k ≡ Some disk) where
    on : HasImage rows bytes images disk
    on = image_of rows bytes disks images are k disk there

    stands_on : (i : Image) → IsMadeOn rows bytes disk i → block_on W i ≡ m
    stands_on i is =
        stands_laid W reads bytes whole_in i
        (subst (λ (n : ℕ). i.at (anchor_place n) ≡ block_sector bytes 0) (sym is.sectors) is.anchor)
        (subst (λ (n : ℕ). (j : ℕ) → j < extended_count (length bytes) → i.at (anchor_place n - extended_count (length bytes) + j) ≡ block_sector bytes (j + 1)) (sym is.sectors) is.extended)

    is_whole_disk : IsWholeDisk disk.serial.0 disk.sectors bytes (created_block made disks)
    is_whole_disk = created_disk made disks can typed k disk there

    bytes_on : (i : Image) → IsMadeOn rows bytes disk i → bytes_of_laid m ≡ bytes
    bytes_on i is =
        let here : IsWholeDisk disk.serial.0 disk.sectors bytes (block_in bytes) = subst (λ (b : Block). IsWholeDisk disk.serial.0 disk.sectors bytes b) (sym spelled) is_whole_disk in
        let read : bytes ≡ standing disk.sectors i.at = (answer_standing disk.serial.0 disk.sectors i.at bytes here is.anchor is.extended).loaded refl in
        ap bytes_of_laid (sym (stands_on i is)) ∙ same_bytes W i reads ∙ ap (λ (n : ℕ). standing n i.at) is.sectors ∙ sym read

    bytes_are : bytes_of_laid m ≡ bytes
    bytes_are = bytes_on on.image on.made

    whole_there : W.is_whole disk.serial.0 disk.sectors m ≡ true
    whole_there =
        (reads.is_whole disk.serial.0 disk.sectors m).1
        (created_block made disks, subst (λ (x : List ℕ). IsWholeDisk disk.serial.0 disk.sectors x (created_block made disks)) (sym bytes_are) is_whole_disk)

    whole_on : (i : Image) → IsMadeOn rows bytes disk i → W.is_whole i.serial i.sectors m ≡ true
    whole_on i is = ap (λ (s : List ℕ). W.is_whole s i.sectors m) is.serial ∙ ap (λ (n : ℕ). W.is_whole disk.serial.0 n m) is.sectors ∙ whole_there

    container : is_container W m ≡ true
    container =
        let some : (W.volumes m == 0) ≡ false = ne_eqb (W.volumes m) 0 (λ none. omega (arith, none, words.volumes W reads made disks can typed m bytes_are)) in
        ap (λ (b : Bool). if b then false else true) some

    held_by : (i : Image) → Among i images → IsMadeOn rows bytes disk i → IsHeldOn W images i.serial m
    held_by i among is = record { held = record { disk = i; among = among; stands = stands_on i is; whole = whole_on i is; container = container }; same = refl }

    held : IsHeldOn W images disk.serial.0 m
    held = subst (λ (s : List ℕ). IsHeldOn W images s m) on.made.serial (held_by on.image on.among on.made)

  -- ALL DISKS

  from : (i : Image) → Among i images → IsImageOf rows bytes disks i
  from i among = disk_of rows bytes disks images are i among

  abbrev first_disk : NewDisk
  first_disk = get_or disks 0 (record { serial = record { 0 = [] }; sectors = 0 })

  first_there : slice_get disks 0 ≡ Some first_disk
  first_there = slice_get-get_or disks 0 (record { serial = record { 0 = [] }; sectors = 0 }) (omega (arith, (few_disks made (length disks) can.fits).0))

  same : bytes_of_laid m ≡ bytes
  same = bytes_are 0 first_disk first_there

  generation : W.generation m.anchor ≡ 1
  generation = laid_generation W reads bytes whole_in ∙ ap generation_of spelled ∙ created_generation made disks

  -- no disk holds another block
  only : (a : Laid) → IsHeld W images a → a ≡ m
  only a h =
      let here = from h.disk h.among in
      sym h.stands ∙ stands_on here.number here.disk here.there h.disk here.made

  newest : IsNewestOf W images m
  newest = record {
    held = (held 0 first_disk first_there).held;
    highest = λ a h. omega (arith, ap (λ (x : Laid). W.generation x.anchor) (only a h));
  }

  complete : IsComplete W images m
  complete serial expected =
      let d = words.expected_disk W reads made disks can typed m same serial expected in
      (m, subst (λ (s : List ℕ). IsHeldOn W images s m) d.same (held d.number d.disk d.there))

  large : AreLargeEnough W images m
  large i among expected = let here = from i among in whole_on here.number here.disk here.there i here.made

  one_container : AreOneContainer W bytes_of_laid images
  one_container = record {
    family = λ a b ha hb. ap W.family (only a ha ∙ sym (only b hb));
    same = λ a b ha hb equal. ap bytes_of_laid (only a ha ∙ sym (only b hb));
  }

  own_serials : HaveOwnSerials images
  own_serials = subst AreApart (sym (serials_are rows bytes disks images are)) can.apart

  not_old : (a : Laid) → IsHeld W images a → IsOld W images 1 a → ⊥
  not_old a h (inl below) = omega (arith, below, generation, ap (λ (x : Laid). W.generation x.anchor) (only a h))
  not_old a h (inr higher) =
      omega (arith, higher.2, ap (λ (x : Laid). W.generation x.anchor) (only a h), ap (λ (x : Laid). W.generation x.anchor) (only higher.0 higher.1))

  -- ROWS

  -- what stands in a row of the disk of a serial
  row_on : (serial : List ℕ) (place : ℕ) → IsDiskOf disks serial → place < rows → option_map_or (λ (i : Image). i.at place) (disk_with serial images) (record { 0 = [] }) ≡ blank_sector
  row_on serial place d inside =
      let has : HasImage rows bytes images d.disk = on d.number d.disk d.there in
      let found : IsFoundDisk images serial = finds images serial has.image has.among (has.made.serial ∙ d.same) in
      let here : IsImageOf rows bytes disks found.disk = from found.disk found.among in
      ap (λ (o : Option Image). option_map_or (λ (i : Image). i.at place) o (record { 0 = [] })) found.found ∙ here.made.row place inside

  blank : (v : ℕ) → v < volume_count made → (row slot : ℕ) → row < (W.shape m v).rows → (slot_at W m v slot).is_in_sync ≡ true → stands_in W images m v row slot ≡ blank_sector
  blank v below row slot lt sync =
      let serial : List ℕ = (slot_at W m v slot).serial in
      let expected : W.expects m serial ≡ true = (words.agreed W reads made disks can typed m same).expected v slot sync in
      row_on serial ((W.shape m v).pba + row) (words.expected_disk W reads made disks can typed m same serial expected)
      (words.row_inside W reads made disks can typed m same v below row lt)

  rows_of_volume : (v : ℕ) → W.is_supported m v ≡ true → SoundRows W images (λ v s. blank_sector) (λ v s. false) m v
  rows_of_volume v supported =
      let below : v < volume_count made = words.counted W reads made disks can typed m same v supported in
      blank_rows W images m v (words.agreed W reads made disks can typed m same) supported
      (words.in_sync W reads made disks can typed m same v below)
      (blank v below)
      (words.rows_are W reads made disks can typed m same v below)
      (words.start W reads made disks can typed m same v below)

  pub sound : SoundImages W bytes_of_laid images (λ v s. blank_sector) (λ v s. false) 1
  sound = record {
    serials = own_serials;
    one_container = one_container;
    old = λ a h is. absurd (not_old a h is);
    rows = λ a is_newest is_complete v starts.
        let is : a ≡ m = only a is_newest.held in
        subst (λ (x : Laid). SoundRows W images (λ v s. blank_sector) (λ v s. false) x v) (sym is) (rows_of_volume v (subst (λ (x : Laid). W.is_supported x v ≡ true) is starts.1.supported));
  }

  created : IsCreatedOn W made disks images m
  created = record {
    bytes = same;
    generation = generation;
    held = λ i among. let here = from i among in held_by here.number here.disk here.there i among here.made;
    expected = λ i among.
        let here = from i among in
        ap (W.expects m) here.made.serial ∙ words.expects_each W reads made disks can typed m same here.number here.disk here.there;
    newest = newest;
    complete = complete;
    volumes = words.volumes W reads made disks can typed m same;
    supported = words.supported W reads made disks can typed m same;
    starts = words.started W reads made disks can typed m same;
  }

  opens : Opens W bytes_of_laid images m
  opens = record { one_container = one_container; newest = newest; complete = complete; large = large }

  pub created_and_opens : (m : Laid) × IsCreatedOn W made disks images m × Opens W bytes_of_laid images m
  created_and_opens = (m, created, opens)
