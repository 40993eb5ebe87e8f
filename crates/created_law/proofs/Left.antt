-- Images that a stop leaves behind the making of a container are those of its disks.
use Rattle.std.proofs.Common.{◌≡◌, ℕ, zero, suc, ◌+◌, ◌-◌, ◌<◌, ◌≤◌, ◌==◌, Bool, if◌then◌else◌, List, [], ◌∷◌, length, slice_get, slice_index, slice_index_or, get_or, Option, Some, sym, ap, ◌∙◌, subst, arith}
use Rattle.std.specs.Prelude.{IfSome}
use Rattle.std.specs.List.{AllByRecursion}
use Rattle.std.proofs.lemmas.Bool.{lt-ltb}
use Rattle.std.proofs.lemmas.List.Elements.{recursion_from_All}
use Rattle.std.proofs.lemmas.Option.{none-some, same_Some, slice_get_within, get_or_from_slice_get}
use Rattle.units.specs.declared.disk.Sector.{Sector}
use Rattle.units.specs.declared.disk.Serial.{Serial}
use Rattle.units.specs.Places.{anchor_place, extended_count}
use Rattle.device_log.specs.Log.{Call}
use Rattle.device_log.specs.Cells.{Cell, cell_after, resting}
use Rattle.imsm_base.specs.Layout.{Block}
use Rattle.imsm_base.specs.Whole.{IsWholeBlock}
use Rattle.imsm_base.proofs.Joined.{block_in-spelled}
use Rattle.imsm_codec.proofs.Wholeness.{header_of-whole}
use Rattle.mpb_store.specs.Banks.{blank_sector, sector_after}
use Rattle.mpb_store.specs.Sectors.{block_sector}
use Rattle.new_container.specs.declared.container.NewContainer.{NewContainer}
use Rattle.new_container.specs.declared.disk.NewDisk.{NewDisk}
use Rattle.new_container.specs.Fits.{total_rows}
use Rattle.new_container.specs.Created.{IsDisk, created_block}
use Rattle.new_container.proofs.Whole.{created_whole}
use Rattle.image_outside.specs.Told.{BankTold}
use Rattle.image_create.specs.Calls.{create_calls}
use Rattle.image_create.specs.Creates.{Creates, bytes_on, disks_in, new_disks_of, rows_on}
use Rattle.image_create.specs.Laid.{first_place, is_extended, laid_sector, IsLaidDown, LaysDown}
use Rattle.image_create.proofs.Law.{laid_anchor, laid_extended}
use Rattle.image_create.proofs.Listed.{as_many}
use Rattle.sound_images.specs.Images.{Image}
use Rattle.stop_images.specs.Left.{AreLeft, IsLeftOf}
use Rattle.created_law.specs.OnBank.{disks_told}
use Rattle.created_law.proofs.Made.{AreMadeOn, IsMadeOn, made_each}
use Rattle.created_law.proofs.Settled.{create_synced}

-- where disk number k of the list stands in the bank's
record IsNamed (serials : List Serial) (sizes : List ℕ) (k : ℕ) (disk : NewDisk) : Type 0 where
  there : k < length sizes
  size : slice_index sizes k ≡ disk.sectors
  serial : slice_index_or serials k (record { 0 = [] }) ≡ disk.serial

named_at : (serials : List Serial) (sizes : List ℕ) (k : ℕ) (disk : NewDisk) → slice_get (new_disks_of serials sizes) k ≡ Some disk → IsNamed serials sizes k disk
named_at [] sizes k disk is = absurd (none-some disk is)
named_at (s ∷ serials) [] k disk is = absurd (none-some disk is)
named_at (s ∷ serials) (n ∷ sizes) zero disk is =
    let same : record { serial = s; sectors = n } ≡ disk = same_Some _ disk is in
    record { there = omega arith; size = ap (λ (d : NewDisk). d.sectors) same; serial = ap (λ (d : NewDisk). d.serial) same }
named_at (s ∷ serials) (n ∷ sizes) (suc k) disk is =
    let more = named_at serials sizes k disk is in
    record { there = omega (arith, more.there); size = more.size; serial = more.serial }

-- where nothing is loose a stop leaves what stands
settled : (c : Cell) (x : Sector) → c.since ≡ [] → (AllByRecursion (λ y. y ≡ c.synced) c.since → x ≡ c.stood) → x ≡ c.stood
settled c x none leaves = leaves (subst (AllByRecursion (λ y. y ≡ c.synced)) (sym none) tt)

module _ (made : NewContainer) (bank : BankTold) (lines : List ℕ) (opening : List (List Sector)) (log : List Call)
    (c : Creates made bank lines) (told : bank.opening ≡ Some opening) (logged : bank.log ≡ Some log) where
  abbrev disks : List NewDisk
  disks = disks_in bank

  abbrev bytes : List ℕ
  bytes = bytes_on made bank

  abbrev rows : ℕ
  rows = rows_on made bank

  laid : IsLaidDown bank.sizes rows bytes opening [] log
  laid =
      subst (λ (l : Option (List Call)). IfSome l (λ n. IsLaidDown bank.sizes rows bytes opening [] n)) logged
      (subst (λ (o : Option (List (List Sector))). LaysDown bank.sizes rows bytes o (Some []) bank.log) told c.laid)

  calls : log ≡ create_calls bank.sizes rows bytes
  calls = subst (λ (l : Option (List Call)). IfSome l (λ n. n ≡ create_calls bank.sizes rows bytes)) logged c.calls

  rows_same : rows ≡ total_rows made (length disks)
  rows_same = ap (total_rows made) (sym (as_many bank.serials bank.sizes c.sized))

  most : length bytes ≤ 8192
  most =
      let whole : IsWholeBlock bytes (created_block made disks) = created_whole made disks c.fits (recursion_from_All IsDisk disks c.typed) in
      let header = header_of-whole bytes (subst (λ (b : Block). IsWholeBlock bytes b) (sym (block_in-spelled bytes (created_block made disks) whole.spells)) whole) in
      omega (arith, header.1.most, header.2)

  -- ONE DISK

  module _ (k : ℕ) (disk : NewDisk) (there : slice_get disks k ≡ Some disk) (i : Image) (left : IsLeftOf (disks_told bank opening) log k i) where
    named : IsNamed bank.serials bank.sizes k disk
    named = named_at bank.serials bank.sizes k disk there

    sized : i.sectors ≡ disk.sectors
    sized = left.sectors ∙ named.size

    room : rows + 18 ≤ disk.sectors
    room =
        let enough : total_rows made (length disks) + 18 ≤ (get_or disks k disk).sectors = c.fits.room k disk (slice_get_within disks k disk there) in
        omega (arith, enough, rows_same, ap (λ (d : NewDisk). d.sectors) (get_or_from_slice_get disks k disk disk there))

    abbrev before : ℕ → Sector
    before p = sector_after opening [] k p

    -- each place has what was laid down
    at_place : (p : ℕ) → p < disk.sectors → i.at p ≡ laid_sector disk.sectors rows bytes (before p) p
    at_place p below =
        let first : Cell = resting (slice_index_or (slice_index_or opening k []) p blank_sector) in
        let none : (cell_after k p first log).since ≡ [] = ap (λ (l : List Call). (cell_after k p first l).since) calls ∙ create_synced k p first bank.sizes rows bytes named.there in
        settled (cell_after k p first log) (i.at p) none (left.places p (omega (arith, below, named.size)))
        ∙ laid.sectors k p named.there
        ∙ ap (λ (n : ℕ). laid_sector n rows bytes (before p) p) named.size

    row_is : (p : ℕ) → p < rows → i.at p ≡ blank_sector
    row_is p below =
        at_place p (omega (arith, below, room))
        ∙ ap (λ (b : Bool). if b then blank_sector
        else if p == anchor_place disk.sectors then block_sector bytes 0
        else if is_extended disk.sectors bytes p then block_sector bytes (p - first_place disk.sectors bytes + 1)
        else before p) (lt-ltb p rows below)

    anchor_is : i.at (anchor_place disk.sectors) ≡ block_sector bytes 0
    anchor_is = at_place (anchor_place disk.sectors) (omega (arith, room)) ∙ laid_anchor disk.sectors rows bytes (before (anchor_place disk.sectors)) room

    extended_is : (j : ℕ) → j < extended_count (length bytes) → i.at (first_place disk.sectors bytes + j) ≡ block_sector bytes (j + 1)
    extended_is j few =
        at_place (first_place disk.sectors bytes + j) (omega (arith, room, most, few))
        ∙ laid_extended disk.sectors rows bytes (before (first_place disk.sectors bytes + j)) j room most few

    made_on : IsMadeOn rows bytes disk i
    made_on = record { serial = left.serial ∙ ap (λ (s : Serial). s.0) named.serial; sectors = sized; row = row_is; anchor = anchor_is; extended = extended_is }

  pub left_are_made : (images : List Image) → AreLeft (disks_told bank opening) log images → AreMadeOn (total_rows made (length disks)) bytes disks images
  left_are_made images left =
      subst (λ (r : ℕ). AreMadeOn r bytes disks images) rows_same
      (made_each rows bytes disks images (left.count ∙ sym (as_many bank.serials bank.sizes c.sized)) (λ k d i there on. made_on k d there i (left.each k i on)))
