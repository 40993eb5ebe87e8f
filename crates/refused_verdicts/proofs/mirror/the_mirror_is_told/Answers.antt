use Rattle.std.proofs.Common.{◌≡◌, ◌≤◌, ℕ, zero, suc, List, [], ◌∷◌, get_or, None, Some, refl, sym, ◌∙◌, ap, subst, arith}
use Rattle.std.specs.Prelude.{slice_get, slice_index}
use Rattle.std.proofs.lemmas.Option.{same_Some}
use Rattle.units.specs.declared.disk.Serial.{Serial}
use Rattle.imsm_base.specs.Layout.{generation_of}
use Rattle.imsm_base.specs.Parts.{block_in}
use Rattle.imsm_base.specs.Vector.{mirror_bytes}
use Rattle.imsm_base.specs.Whole.{IsWholeBlock, standing}
use Rattle.imsm_text.specs.Text.{serial_text}
use Rattle.refused_verdicts.specs.Mirror.{both_disks, disk_a, disk_b, mirror_disk}
use Rattle.verdict_lines_law.specs.Same.{HaveNames}
use Rattle.refused_verdicts.specs.Told.{stood_on}
use Rattle.refused_verdicts.proofs.Mirrored.{holds_whole, stands, stands_whole, whole_a}
use Rattle.refused_verdicts.proofs.MirrorSaid.{some_volume, whole_mirror}
use Rattle.refused_verdicts.proofs.mirror.the_mirror_is_told.Goals as goal

names_apart : serial_text disk_a ≡ serial_text disk_b → ⊥
names_apart same = let bytes : 65 ≡ 66 = ap (λ (l : List ℕ). get_or l 0 0) same in omega (arith, bytes)

own_names : HaveNames both_disks.serials
own_names zero zero s t one other same = refl
own_names zero (suc zero) s t one other same = absurd (names_apart (ap serial_text (same_Some disk_a s one) ∙ same ∙ sym (ap serial_text (same_Some disk_b t other))))
own_names zero (suc (suc j)) s t one other same = absurd (let none : None ≡ Some t = other in cc none)
own_names (suc zero) zero s t one other same = absurd (names_apart (ap serial_text (same_Some disk_a t other) ∙ sym same ∙ sym (ap serial_text (same_Some disk_b s one))))
own_names (suc zero) (suc zero) s t one other same = refl
own_names (suc zero) (suc (suc j)) s t one other same = absurd (let none : None ≡ Some t = other in cc none)
own_names (suc (suc i)) j s t one other same = absurd (let none : None ≡ Some s = one in cc none)

pub returns-clause-tells : goal.returns-clause-tells
returns-clause-tells c = record { stood = refl; logged = refl; own = own_names }

-- what stands on a disk of the bank is the block
one_block : (k : ℕ) (s : Serial) → slice_get both_disks.serials k ≡ Some s → IsWholeBlock mirror_bytes (block_in mirror_bytes) → standing (slice_index both_disks.sizes k) (stood_on (mirror_disk ∷ mirror_disk ∷ []) k) ≡ mirror_bytes
one_block zero s named w = stands_whole (stood_on (mirror_disk ∷ mirror_disk ∷ []) 0) (whole_a w) stands
one_block (suc zero) s named w = stands_whole (stood_on (mirror_disk ∷ mirror_disk ∷ []) 1) (whole_a w) stands
one_block (suc (suc k)) s named w = absurd (let none : None ≡ Some s = named in cc none)

pub returns-clause-newest : goal.returns-clause-newest
returns-clause-newest c =
    let w = whole_mirror c.example_of_a_whole_block.ensures.whole in
    let at = stood_on (mirror_disk ∷ mirror_disk ∷ []) 0 in
    record {
      disk = 0;
      own = disk_a;
      holds = record { whole = record { named = refl; is = holds_whole at disk_a.0 (whole_a w) stands }; block = sym (stands_whole at (whole_a w) stands); volume = some_volume };
      read = refl;
      highest = λ k s other holds.
          let same : other ≡ mirror_bytes = holds.block ∙ one_block k s holds.whole.named w in
          subst (λ (b : List ℕ). generation_of (block_in b) ≤ generation_of (block_in mirror_bytes)) (sym same) (omega arith);
    }
