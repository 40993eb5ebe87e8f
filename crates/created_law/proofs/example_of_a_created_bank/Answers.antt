use Rattle.std.proofs.Common.{◌≡◌, ℕ, ◌+◌, ◌≤◌, List, [], ◌∷◌, length, Some, refl, sym, subst, arith}
use Rattle.std.specs.List.{AllByRecursion}
use Rattle.std.proofs.lemmas.List.Elements.{All-from_recursion}
use Rattle.units.specs.declared.bounds.TheConstants.{METADATA_SECTORS}
use Rattle.device_log.specs.Log.{Call}
use Rattle.imsm_base.specs.Layout.{Block}
use Rattle.imsm_base.specs.Whole.{IsWholeBlock}
use Rattle.imsm_base.proofs.Joined.{block_in-spelled}
use Rattle.imsm_codec.proofs.Wholeness.{header_of-whole}
use Rattle.member_bank.specs.Told.{LogsAll}
use Rattle.new_container.specs.declared.disk.NewDisk.{NewDisk}
use Rattle.new_container.specs.Created.{CanCreate, IsDisk, created_block, created_bytes}
use Rattle.new_container.specs.Fits.{total_rows}
use Rattle.new_container.specs.Example.{mirror, mirror_disks}
use Rattle.new_container.proofs.Whole.{created_whole}
use Rattle.image_create.specs.Calls.{create_calls}
use Rattle.image_create.proofs.Law.{lays_down}
use Rattle.created_law.proofs.example_of_a_created_bank.Goals as goal

same_first : (x y : ℕ) (xs ys : List ℕ) → x ∷ xs ≡ y ∷ ys → x ≡ y
same_first x y xs ys e = cc e

can : CanCreate mirror mirror_disks
can = record {
  fits = refl;
  apart = (((λ e. let same : 0x41 ≡ 0x42 = same_first 0x41 0x42 _ _ e in omega (arith, same)), tt), (tt, tt));
  room = All-from_recursion (λ (d : NewDisk). total_rows mirror 2 + METADATA_SECTORS ≤ d.sectors) mirror_disks (omega arith, (omega arith, tt));
}

typed : AllByRecursion IsDisk mirror_disks
typed = (record { serial = refl; sectors = omega arith }, (record { serial = refl; sectors = omega arith }, tt))

abbrev bytes : List ℕ
bytes = created_bytes mirror mirror_disks

most : length bytes ≤ 8192
most =
    let whole : IsWholeBlock bytes (created_block mirror mirror_disks) = created_whole mirror mirror_disks can typed in
    let header = header_of-whole bytes (subst (λ (b : Block). IsWholeBlock bytes b) (sym (block_in-spelled bytes (created_block mirror mirror_disks) whole.spells)) whole) in
    omega (arith, header.1.most, header.2)

logs : (calls : List Call) → LogsAll (Some []) (Some calls) calls
logs calls now is = ([], refl, (let same : calls ≡ now = cc is in sym same))

pub returns : goal.returns
returns c opening = record {
  fits = can;
  sized = refl;
  typed = All-from_recursion IsDisk mirror_disks typed;
  calls = refl;
  laid = lays_down (4096 ∷ 4096 ∷ []) 1024 bytes (Some opening) (Some []) (Some (create_calls (4096 ∷ 4096 ∷ []) 1024 bytes))
      (All-from_recursion (λ (n : ℕ). 1024 + 18 ≤ n) (4096 ∷ 4096 ∷ []) (omega arith, (omega arith, tt))) most (logs (create_calls (4096 ∷ 4096 ∷ []) 1024 bytes));
  lines_are = refl;
}
