-- Images of disks on which the block of a container was laid down, behind zeros.
use Rattle.std.proofs.Common.{◌≡◌, ℕ, zero, suc, ◌+◌, ◌<◌, List, [], ◌∷◌, length, map, slice_get, Some, refl, sym, ap, ◌∙◌, subst, arith, inl, inr}
use Rattle.std.specs.Prelude.{⊤}
use Rattle.std.proofs.lemmas.Option.{none-some, same_Some}
use Rattle.units.specs.Places.{anchor_place, extended_count}
use Rattle.mpb_store.specs.Banks.{blank_sector}
use Rattle.mpb_store.specs.Sectors.{block_sector}
use Rattle.new_container.specs.declared.disk.NewDisk.{NewDisk}
use Rattle.image_create.specs.Laid.{first_place}
use Rattle.sound_images.specs.Images.{Image, Among}

module _ (rows : ℕ) (bytes : List ℕ) where
  -- an image of a disk: zeros stand on the rows, and the sectors of the block at their places
  pub record IsMadeOn (disk : NewDisk) (i : Image) : Type 0 where
    pub serial : i.serial ≡ disk.serial.0
    pub sectors : i.sectors ≡ disk.sectors
    pub row : (p : ℕ) → p < rows → i.at p ≡ blank_sector
    pub anchor : i.at (anchor_place disk.sectors) ≡ block_sector bytes 0
    pub extended : (k : ℕ) → k < extended_count (length bytes) → i.at (first_place disk.sectors bytes + k) ≡ block_sector bytes (k + 1)

  -- one of each disk, in their order
  abbrev pub AreMadeOn : List NewDisk → List Image → Type 0
  AreMadeOn [] [] = ⊤
  AreMadeOn [] (i ∷ images) = ⊥
  AreMadeOn (d ∷ disks) [] = ⊥
  AreMadeOn (d ∷ disks) (i ∷ images) = IsMadeOn d i × AreMadeOn disks images

  pub made_each : (disks : List NewDisk) (images : List Image) → length images ≡ length disks
      → ((k : ℕ) (d : NewDisk) (i : Image) → slice_get disks k ≡ Some d → slice_get images k ≡ Some i → IsMadeOn d i) → AreMadeOn disks images
  made_each [] [] same each = tt
  made_each [] (i ∷ images) same each = absurd (omega (arith, same))
  made_each (d ∷ disks) [] same each = absurd (omega (arith, same))
  made_each (d ∷ disks) (i ∷ images) same each = (each 0 d i refl refl, made_each disks images (omega (arith, same)) (λ k e j there on. each (suc k) e j there on))

  -- the disk of an image, and the image of a disk
  pub record IsImageOf (disks : List NewDisk) (i : Image) : Type 0 where
    pub number : ℕ
    pub disk : NewDisk
    pub there : slice_get disks number ≡ Some disk
    pub made : IsMadeOn disk i

  pub disk_of : (disks : List NewDisk) (images : List Image) → AreMadeOn disks images → (i : Image) → Among i images → IsImageOf disks i
  disk_of [] [] are i among = absurd among
  disk_of [] (j ∷ images) are i among = absurd are
  disk_of (d ∷ disks) [] are i among = absurd are
  disk_of (d ∷ disks) (j ∷ images) are i (inl same) = record { number = 0; disk = d; there = refl; made = subst (IsMadeOn d) (sym same) are.0 }
  disk_of (d ∷ disks) (j ∷ images) are i (inr more) =
      let rest = disk_of disks images are.1 i more in
      record { number = suc rest.number; disk = rest.disk; there = rest.there; made = rest.made }

  pub record HasImage (images : List Image) (disk : NewDisk) : Type 0 where
    pub image : Image
    pub among : Among image images
    pub made : IsMadeOn disk image

  pub image_of : (disks : List NewDisk) (images : List Image) → AreMadeOn disks images → (k : ℕ) (disk : NewDisk) → slice_get disks k ≡ Some disk → HasImage images disk
  image_of [] images are k disk there = absurd (none-some disk there)
  image_of (d ∷ disks) [] are k disk there = absurd are
  image_of (d ∷ disks) (i ∷ images) are zero disk there = record { image = i; among = inl refl; made = subst (λ (e : NewDisk). IsMadeOn e i) (same_Some d disk there) are.0 }
  image_of (d ∷ disks) (i ∷ images) are (suc k) disk there =
      let rest = image_of disks images are.1 k disk there in
      record { image = rest.image; among = inr rest.among; made = rest.made }

  pub serials_are : (disks : List NewDisk) (images : List Image) → AreMadeOn disks images → map (λ (i : Image). i.serial) images ≡ map (λ (d : NewDisk). d.serial.0) disks
  serials_are [] [] are = refl
  serials_are [] (i ∷ images) are = absurd are
  serials_are (d ∷ disks) [] are = absurd are
  serials_are (d ∷ disks) (i ∷ images) are = ap (λ (s : List ℕ). s ∷ map (λ (i : Image). i.serial) images) are.0.serial ∙ ap (λ (xs : List (List ℕ)). d.serial.0 ∷ xs) (serials_are disks images are.1)
