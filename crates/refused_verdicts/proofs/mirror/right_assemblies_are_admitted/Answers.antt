use Rattle.std.proofs.Common.{[], ◌∷◌, inr, Some, refl}
use Rattle.container.specs.declared.verdict.Verdict.TheVariants.{Ready}
use Rattle.refused_verdicts.specs.Mirror.{anchor_read, mirror_disk}
use Rattle.refused_verdicts.proofs.Mirrored.{look_so, stands}
use Rattle.refused_verdicts.proofs.MirrorSaid.{both_printed, each_of_both, each_of_first, first_printed, mirror_opening, says_both, says_first, seen_a, seen_b, waits, whole_mirror}
use Rattle.refused_verdicts.proofs.mirror.right_assemblies_are_admitted.Goals as goal

pub returns-clause-both : goal.returns-clause-both
returns-clause-both c =
    let w = whole_mirror c.example_of_a_whole_block.ensures.whole in
    let contents = mirror_disk ∷ mirror_disk ∷ [] in
    record {
      before = Some [];
      fresh = refl;
      seen = seen_a ∷ seen_b ∷ [];
      sees = record {
        count = refl;
        each = each_of_both w;
        looks = (Some (anchor_read 0 ∷ []), look_so contents [] 0 (tt, tt) stands, (Some (anchor_read 0 ∷ anchor_read 1 ∷ []), look_so contents (anchor_read 0 ∷ []) 1 (tt, (tt, tt)) stands, λ told is. is));
      };
      verdict = Ready mirror_opening;
      says = inr says_both;
      lines_are = both_printed;
      status_is = refl;
    }

pub returns-clause-first : goal.returns-clause-first
returns-clause-first c =
    let w = whole_mirror c.example_of_a_whole_block.ensures.whole in
    record {
      before = Some [];
      fresh = refl;
      seen = seen_a ∷ [];
      sees = record {
        count = refl;
        each = each_of_first w;
        looks = (Some (anchor_read 0 ∷ []), look_so (mirror_disk ∷ []) [] 0 (tt, tt) stands, λ told is. is);
      };
      verdict = waits;
      says = inr says_first;
      lines_are = first_printed;
      status_is = refl;
    }
