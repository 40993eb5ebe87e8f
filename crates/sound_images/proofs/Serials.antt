-- The disk of a serial is one and the same among some images and among all.
use Rattle.std.proofs.Common.{◌≡◌, ◌≢◌, ℕ, Bool, true, false, List, [], ◌∷◌, map, bytes_eq, Some, refl, sym, ap, ◌∙◌, inl, inr}
use Rattle.std.specs.List.{AllByRecursion}
use Rattle.std.proofs.lemmas.Slice.Eq.{bytes_eq-Decides}
use Rattle.sound_images.specs.Images.{Image, Among, AreAmong, HaveOwnSerials}
use Rattle.sound_images.specs.Rows.{disk_with}

-- a disk that is there is found by its serial
pub record IsFoundDisk (images : List Image) (serial : List ℕ) : Type 0 where
  pub disk : Image
  pub found : disk_with serial images ≡ Some disk
  pub among : Among disk images
  pub same : disk.serial ≡ serial

pub finds : (images : List Image) (serial : List ℕ) (i : Image) → Among i images → i.serial ≡ serial → IsFoundDisk images serial
finds [] serial i none same = absurd none
finds (j ∷ images) serial i among same = at (bytes_eq j.serial serial) refl among (λ more. finds images serial i more same)
  where
    here : bytes_eq j.serial serial ≡ true → IsFoundDisk (j ∷ images) serial
    here is = record { disk = j; found = rw is refl; among = inl refl; same = (bytes_eq-Decides j.serial serial).0 is }

    further : bytes_eq j.serial serial ≡ false → IsFoundDisk images serial → IsFoundDisk (j ∷ images) serial
    further is more = record { disk = more.disk; found = rw is more.found; among = inr more.among; same = more.same }

    at : (b : Bool) → bytes_eq j.serial serial ≡ b → Among i (j ∷ images) → (Among i images → IsFoundDisk images serial) → IsFoundDisk (j ∷ images) serial
    at true is among more = here is
    at false is (inl first) more = here ((bytes_eq-Decides j.serial serial).1 (ap (λ (x : Image). x.serial) (sym first) ∙ same))
    at false is (inr rest) more = further is (more rest)

-- a serial that none of these have isn't that of one of them
no_such : (x : List ℕ) (images : List Image) (i : Image) → AllByRecursion (λ y. x ≢ y) (map (λ i. i.serial) images) → Among i images → x ≡ i.serial → ⊥
no_such x [] i all among same = absurd among
no_such x (j ∷ images) i all (inl first) same = all.0 (same ∙ ap (λ (z : Image). z.serial) first)
no_such x (j ∷ images) i all (inr rest) same = no_such x images i all.1 rest same

pub one_disk : (images : List Image) (i j : Image) → HaveOwnSerials images → Among i images → Among j images → i.serial ≡ j.serial → i ≡ j
one_disk [] i j serials none other same = absurd none
one_disk (x ∷ images) i j serials (inl first) (inl second) same = first ∙ sym second
one_disk (x ∷ images) i j serials (inl first) (inr second) same = absurd (no_such x.serial images j serials.0 second (sym (ap (λ (z : Image). z.serial) first) ∙ same))
one_disk (x ∷ images) i j serials (inr first) (inl second) same = absurd (no_such x.serial images i serials.0 first (sym (ap (λ (z : Image). z.serial) second) ∙ sym same))
one_disk (x ∷ images) i j serials (inr first) (inr second) same = one_disk images i j serials.1 first second same

-- the disk of a serial that is present is the one of all
pub same_disk : (images present : List Image) (serial : List ℕ) (i : Image) → HaveOwnSerials images → AreAmong present images → Among i present → i.serial ≡ serial → disk_with serial present ≡ disk_with serial images
same_disk images present serial i serials among there same =
    let here : IsFoundDisk present serial = finds present serial i there same in
    let all : IsFoundDisk images serial = finds images serial i (among i there) same in
    here.found ∙ ap Some (one_disk images here.disk all.disk serials (among here.disk here.among) all.among (here.same ∙ sym all.same)) ∙ sym all.found
