-- The block of a spare is whole on its disk.
use Rattle.std.proofs.Common.{◌≡◌, ℕ, ◌%◌, ◌≤◌, ◌<◌, ◌==◌, Bool, true, false, cond, if◌then◌else◌, List, [], ◌∷◌, length, drop, Option, Some, None, refl, sym, ◌∙◌, ap, subst, inl, arith}
use Rattle.std.specs.Option.{IsSomeAnd}
use Rattle.units.specs.declared.bounds.TheConstants.{METADATA_SECTORS}
use Rattle.units.specs.Places.{extended_count}
use Rattle.imsm_base.specs.Fields.{Part}
use Rattle.imsm_base.specs.Layout.{Block, IsBlock, total_blocks_of, bytes_of}
use Rattle.imsm_base.specs.Whole.{own_record}
use Rattle.imsm_base.specs.Edits.{sealed, block_sealed}
use Rattle.imsm_base.proofs.Joined.{length-bytes_of}
use Rattle.imsm_base.proofs.Sealed.{IsUnsealed, length-sealed}
use Rattle.array_model.specs.Blocks.{Laid}
use Rattle.array_machine.specs.Setting.{Setting}
use Rattle.array_base.specs.Premises.{IsSpareBlock}
use Rattle.array_edits.specs.Laying.{sectors_in}
use Rattle.array_edits.specs.RealSettings.{IsReal}
use Rattle.array_edits.proofs.Laid.{IsLaidOf, laid-is}
use Rattle.array_edits.proofs.Disks.{eq_serial}
use Rattle.array_openings.specs.Spares.{spare_record, spare_parts, spare_block}

module _ (serial : List ℕ) (sectors : ℕ) (long : length serial ≡ 16) where
  parts_are : IsBlock (spare_parts serial sectors)
  parts_are = record {
    header = refl;
    disks = (ap (λ (n : ℕ). n ∷ 4 ∷ 4 ∷ 4 ∷ 4 ∷ 4 ∷ 12 ∷ []) long, tt);
    disk_count = refl;
    volumes = tt;
    volume_count = refl;
    tail = refl;
  }

  length-parts : length (bytes_of (spare_parts serial sectors)) ≡ 264
  length-parts = sym (length-bytes_of (spare_parts serial sectors) parts_are)

  unsealed : IsUnsealed (bytes_of (spare_parts serial sectors)) (spare_parts serial sectors)
  unsealed = record {
    signed = refl;
    size = record {
      least = omega (arith, length-parts);
      most = omega (arith, length-parts);
      words = ap (λ (n : ℕ). n % 4) length-parts;
    };
    counted = record { some_disk = omega arith; few_disks = omega arith; few_volumes = omega arith };
    apart = tt;
    spells = record { parts = parts_are; laid = refl };
    tail = inl refl;
  }

  laid_as : IsLaidOf (spare_parts serial sectors) (spare_block serial sectors)
  laid_as = laid-is (spare_parts serial sectors) unsealed

  alone : (spare_block serial sectors).extended ≡ []
  alone =
      let bytes : List ℕ = bytes_of (spare_parts serial sectors) in
      let long : length (sealed bytes) ≡ 264 = length-sealed bytes (omega (arith, length-parts)) ∙ length-parts in
      ap (λ (n : ℕ). sectors_in (extended_count n) (drop 512 (sealed bytes))) long

  -- its one record speaks for the serial
  speaks : (size sum : ℕ) → own_record serial (block_sealed (spare_parts serial sectors) size sum)
      ≡ Some (spare_record serial sectors)
  speaks size sum =
      ap (λ (t : Bool). cond t (Some (spare_record serial sectors)) None) (eq_serial serial serial refl)

  fits : total_blocks_of (spare_record serial sectors) ≤ sectors
  fits = omega arith

pub spare_is : (S : Setting) (d : ℕ) → IsReal S → d < S.start.disks.count → METADATA_SECTORS ≤ S.start.disks.sectors d
    → IsSpareBlock S d (spare_block (S.start.disks.serial d) (S.start.disks.sectors d))
spare_is S d r below room =
    let serial : List ℕ = S.start.disks.serial d in
    let sectors : ℕ = S.start.disks.sectors d in
    let long : length serial ≡ 16 = r.can.serials d below in
    let m : Laid = spare_block serial sectors in
    let l : IsLaidOf (spare_parts serial sectors) m = laid_as serial sectors long in
    let b : Block = block_sealed (spare_parts serial sectors) l.size l.sum in
    let none : m.extended ≡ [] = alone serial sectors long in
    record {
      whole = (r.reads.is_whole serial sectors m).1 (
        b,
        record {
          enough = room;
          whole = l.whole;
          own_fits = subst (λ (o : Option Part). IsSomeAnd o (λ x. total_blocks_of x ≤ sectors))
              (sym (speaks serial sectors long l.size l.sum)) (fits serial sectors long);
        },
      );
      extra = r.reads.extra m.anchor ∙ l.extra ∙ ap length none;
      alone = none;
      spare = ap (λ (n : ℕ). if n == 0 then false else true) (r.reads.says m b l.whole).volumes;
    }
