-- A setting over real disks meets what laws take as given.
use Rattle.std.proofs.Common.{◌≡◌, ℕ, ◌≤◌, ◌<◌, true, false, List, [], Option, Some, None, refl, sym, ◌∙◌, ap, subst, inl, inr}
use Rattle.std.specs.Prelude.{slice_get}
use Rattle.std.specs.Option.{option_map_or}
use Rattle.std.proofs.lemmas.Bool.{cases_lt, false≢true}
use Rattle.units.specs.declared.bounds.TheConstants.{METADATA_SECTORS}
use Rattle.units.specs.Levels.{rows_of}
use Rattle.imsm_base.specs.Layout.{Volume}
use Rattle.array_model.specs.Blocks.{Laid, is_container}
use Rattle.array_model.specs.Placement.{Shape, Placement, placement_of}
use Rattle.array_model.specs.Script.{kind_at}
use Rattle.block_meaning.specs.Meaning.{shape_of, no_shape}
use Rattle.block_meaning.specs.Reading.{parts_of}
use Rattle.raid_map.proofs.Stripes.{rows_hold}
use Rattle.array_disks.specs.Calls.{FitsEnd}
use Rattle.array_machine.specs.Setting.{Facts, Edit, TakesGeneration, FailsDisk, CountsOut, MakesDirty, MakesClean, RecordsUnit, ClosesPass, StartsVolume, ActivatesDisk, RemovesDisk, NamesVolume, Setting}
use Rattle.array_machine.specs.EditWords.{IsApt}
use Rattle.array_machine.specs.Rounds.{expects}
use Rattle.array_machine.specs.Operations.{volume_of, sector_in}
use Rattle.array_paths.specs.Ready.{RowsInside}
use Rattle.array_base.specs.Premises.{IsBlock, IsWholeOnItsDisks, IsSpareBlock, BringsRoomyDisk, Premises}
use Rattle.array_edits.specs.Formed.{is_formed}
use Rattle.array_edits.specs.RealSettings.{HasMetadataSectors}
use Rattle.array_edits.proofs.Sound.{IsGood}
use Rattle.array_edits.proofs.Meant.{good, says, edited, real_edits_mean, form_of}
use Rattle.array_edits.proofs.Stays.{stays_whole, placed}
use Rattle.array_openings.specs.RealDisks.{IsOverRealDisks}
use Rattle.array_openings.proofs.SpareBlocks.{spare_is}
use Rattle.array_openings.proofs.RecordWords.{empty_unexpected, unrecorded_unexpected}
use Rattle.array_openings.proofs.Anchors.{anchor_tells}
use Rattle.array_openings.proofs.Seated.{seats}
use Rattle.array_openings.proofs.ToldSlots.{told}

-- ROWS

rows_by : (o : Option Volume) → (option_map_or shape_of o no_shape).rows
    ≡ rows_of (option_map_or shape_of o no_shape).level (option_map_or shape_of o no_shape).members
    (option_map_or shape_of o no_shape).size (option_map_or shape_of o no_shape).strip
rows_by None = refl
rows_by (Some x) = refl

module _ (S : Setting) (o : IsOverRealDisks S) where
  -- the rows of a volume are those that its size takes
  rows_are : (v : ℕ) → (S.start.words.shape S.start.newest v).rows
      ≡ rows_of (S.start.words.shape S.start.newest v).level (S.start.words.shape S.start.newest v).members
      (S.start.words.shape S.start.newest v).size (S.start.words.shape S.start.newest v).strip
  rows_are v =
      subst (λ (s : Shape). s.rows ≡ rows_of s.level s.members s.size s.strip)
      (sym ((says S S.start.newest o.real o.newest).shape v)) (rows_by (slice_get (parts_of S.start.newest).volumes v))

  -- so a placement lies below them
  pub placed_inside : (v sector : ℕ) (place : Placement)
      → placement_of (S.start.words.shape S.start.newest v) sector ≡ Some place
      → place.row < (S.start.words.shape S.start.newest v).rows
  placed_inside v sector place is = rows_hold (S.start.words.shape S.start.newest v) sector place (rows_are v) is

  rows_inside : RowsInside S
  rows_inside i place is = placed_inside (volume_of S i) (sector_in (kind_at S.asked.ops i)) place is

  -- WHICH DISKS

  pub named : (m : Laid) (d : ℕ) → is_formed S.start m ≡ true → expects S m d ≡ true → d < S.start.disks.count
  named m d formed is = elim (cases_lt d S.start.disks.count) [
    | inl below ↦ below
    | inr past ↦
        let g : IsGood S.start m = good S m o.real formed in
        absurd (false≢true (sym (empty_unexpected (parts_of m) g.sound.is.disks)
        ∙ sym ((says S m o.real formed).expects []) ∙ sym (ap (S.start.words.expects m) (o.past d past)) ∙ is))
  ]

  recorded : (m : Laid) (serial : List ℕ) → is_formed S.start m ≡ true → S.start.words.has_record m serial ≡ false
      → S.start.words.expects m serial ≡ false
  recorded m serial formed none =
      let words = says S m o.real formed in
      words.expects serial ∙ unrecorded_unexpected (parts_of m) serial (sym (words.has_record serial) ∙ none)

  -- WHOLE BLOCKS

  has_sectors : (e : Edit) → BringsRoomyDisk S e → HasMetadataSectors S e
  has_sectors (ActivatesDisk s i) roomy = λ d below is.
      let same : d ≡ roomy.disk = o.own d roomy.disk below roomy.below (sym is ∙ roomy.is) in
      subst (λ (x : ℕ). METADATA_SECTORS ≤ S.start.disks.sectors x) (sym same) roomy.room
  has_sectors (TakesGeneration g) roomy = tt
  has_sectors (FailsDisk s) roomy = tt
  has_sectors (CountsOut s) roomy = tt
  has_sectors (MakesDirty v) roomy = tt
  has_sectors (MakesClean v) roomy = tt
  has_sectors (RecordsUnit v u) roomy = tt
  has_sectors (ClosesPass v) roomy = tt
  has_sectors (StartsVolume v) roomy = tt
  has_sectors (RemovesDisk s) roomy = tt
  has_sectors (NamesVolume v name) roomy = tt

  stays : (f : Facts) (m : Laid) (e : Edit) → IsApt S m e → BringsRoomyDisk S e → is_formed S.start m ≡ true
      → IsWholeOnItsDisks S m → IsWholeOnItsDisks S (S.edit f m e)
  stays f m e apt roomy formed whole d is =
      let below = named (S.edit f m e) d (edited S f m e o.real formed apt).formed is in
      stays_whole S f m e o.real o.own formed apt (has_sectors e roomy)
      (λ x inside expected. whole x expected) d below is

  by_anchor : (a m : Laid) → IsBlock S a → is_formed S.start m ≡ true → a.anchor ≡ m.anchor
      → is_container S.start.words a ≡ is_container S.start.words m
  by_anchor a m block formed same =
      let g : IsGood S.start m = good S m o.real formed in
      let whole = (o.real.reads.is_whole block.serial block.sectors a).0 block.whole in
      anchor_tells S a m whole.0 (parts_of m) o.real g.full whole.1.whole g.whole same

  fits_end : (m : Laid) → is_formed S.start m ≡ true → FitsEnd S.start.words m
  fits_end m formed = let p = placed S m o.real formed in record { extra = p.0; few = p.1 }

  -- ALL

  pub meets : Premises S
  meets =
      let form : (m : Laid) → (real_edits_mean S o.real).formed m ≡ is_formed S.start m = form_of S o.real in
      record {
        edits = real_edits_mean S o.real;
        fits = λ m is. fits_end m (sym (form m) ∙ is);
        named = λ m d is expected. named m d (sym (form m) ∙ is) expected;
        told = λ m v is supported. told S m o.real (sym (form m) ∙ is) v;
        seats = λ m v d w is whole started seat. seats S m v d w o.real (sym (form m) ∙ is) whole started seat;
        stays_whole = λ f m e apt roomy is whole. stays f m e apt roomy (sym (form m) ∙ is) whole;
        room = λ serial n m whole. ((o.real.reads.is_whole serial n m).0 whole).1.enough;
        by_anchor = λ a m block is same. by_anchor a m block (sym (form m) ∙ is) same;
        recorded = λ m serial is none. recorded m serial (sym (form m) ∙ is) none;
        spare = λ book d is below room.
            subst (IsSpareBlock S d) (sym (o.spare book d)) (spare_is S d o.real below room);
        serials = λ d e below other same. o.own d e below other same;
        rows = rows_inside;
      }

  pub form_is : (m : Laid) → meets.edits.formed m ≡ is_formed S.start m
  unfolding meets
  form_is m = form_of S o.real m
