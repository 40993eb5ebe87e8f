-- The images of a command are opened on its shelf, in the order of the words. Source: this project's own.
use Rattle.std.specs.Prelude.{◌≡◌, ℕ, List, ◌∷◌, ◌++◌, map}
use Rattle.std.specs.Option.{IsSomeAnd}
use Rattle.member_bank.specs.Faults.{Rose}
use Rattle.image_outside.specs.declared.status.TheConstants.Status.{OPEN_FAULT}
use Rattle.image_outside.specs.Told.{BankTold, ShelfTold}
use Rattle.image_outside.specs.Shelves.{IsFresh, IsUncalled}
use Rattle.image_words.specs.Words.{ImageWord, serials_named}
use Rattle.image_run.specs.Lines.{open_line}

-- the paths of images
abbrev pub paths_named : List ImageWord → List (List ℕ)
paths_named images = map (λ (image : ImageWord). image.file) images

-- The files beside the names were opened, each as the disk of that name, in order, and no others. Of the bank of these
-- disks, as the shelf holds it in the end, this holds.
pub record OpensAll (images : List ImageWord) (before after : ShelfTold) (P : BankTold → Type 0) : Type 0 where
  pub paths : after.paths ≡ before.paths ++ paths_named images
  pub bank : IsSomeAnd after.bank (λ bank. (bank.serials ≡ serials_named images) × P bank)

-- An image couldn't be opened, behind those that were: the line names it, and no call on a disk was made. The shelf
-- counts it.
pub record OpensNot (images : List ImageWord) (before after : ShelfTold) (lines : List ℕ) (status : ℕ) : Type 0 where
  pub front : List ImageWord
  pub image : ImageWord
  pub rest : List ImageWord
  pub are : images ≡ front ++ image ∷ rest
  pub opened : OpensAll front before after IsUncalled
  pub cause : Rose before.faults after.faults
  pub status_is : status ≡ OPEN_FAULT.0
  pub line : lines ≡ open_line image.name

-- some first images were opened, or all, and no call on a disk was made
pub record OpensFront (images : List ImageWord) (before after : ShelfTold) : Type 0 where
  pub front : List ImageWord
  pub rest : List ImageWord
  pub are : images ≡ front ++ rest
  pub opened : OpensAll front before after IsUncalled

-- all were opened, and on their bank nothing was done yet
abbrev pub OpensFresh : List ImageWord → (before after : ShelfTold) → Type 0
OpensFresh images before after = OpensAll images before after (IsFresh (serials_named images))
