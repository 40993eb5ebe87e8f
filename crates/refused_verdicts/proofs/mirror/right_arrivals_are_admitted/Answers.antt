use Rattle.std.proofs.Common.{◌≡◌, ◌<◌, ◌+◌, ℕ, zero, suc, false, [], ◌∷◌, inl, inr, take, None, Some, refl, sym, ap, subst, arith, lit≤}
use Rattle.std.specs.Prelude.{slice_get}
use Rattle.std.specs.Fmt.{digits}
use Rattle.std.proofs.lemmas.Option.{same_Some}
use Rattle.hex.specs.Hex.{encode_with}
use Rattle.container.specs.declared.verdict.Verdict.{Verdict}
use Rattle.container.specs.declared.verdict.Verdict.TheVariants.{Ready}
use Rattle.container.specs.Verdicts.{IsVerdict}
use Rattle.incremental.specs.Arrivals.{is_ready}
use Rattle.image_incremental.specs.Lines.{all_lines}
use Rattle.refused_verdicts.specs.Mirror.{anchor_read, arrived_lines, both_disks, mirror_disk}
use Rattle.refused_verdicts.proofs.Mirrored.{look_so, stands}
use Rattle.refused_verdicts.proofs.MirrorSaid.{each_of_both, mirror_opening, says_both, says_first, seen_a, seen_b, waits, whole_mirror}
use Rattle.refused_verdicts.proofs.mirror.right_arrivals_are_admitted.Goals as goal

arrived_printed : arrived_lines ≡ all_lines both_disks.serials (waits ∷ Ready mirror_opening ∷ [])
unfolding digits encode_with
arrived_printed = refl

verdict_is : (k : ℕ) (v : Verdict) → slice_get (waits ∷ Ready mirror_opening ∷ []) k ≡ Some v → IsVerdict (take (k + 1) (seen_a ∷ seen_b ∷ [])) false v
verdict_is zero v at = subst (IsVerdict (seen_a ∷ []) false) (same_Some waits v at) (inr says_first)
verdict_is (suc zero) v at = subst (IsVerdict (seen_a ∷ seen_b ∷ []) false) (same_Some (Ready mirror_opening) v at) (inr says_both)
verdict_is (suc (suc k)) v at = absurd (let none : None ≡ Some v = at in cc none)

only_last : (k : ℕ) (v : Verdict) → slice_get (waits ∷ Ready mirror_opening ∷ []) k ≡ Some v → k + 1 < 2 → is_ready v ≡ false
only_last zero v at below = sym (ap is_ready (same_Some waits v at))
only_last (suc k) v at below = absurd (omega (arith, below))

pub returns : goal.returns
returns c =
    let w = whole_mirror c.example_of_a_whole_block.ensures.whole in
    let contents = mirror_disk ∷ mirror_disk ∷ [] in
    record {
      before = Some [];
      fresh = refl;
      seen = seen_a ∷ seen_b ∷ [];
      sees = record {
        few = lit≤ tt;
        each = each_of_both w;
        looks = (Some (anchor_read 0 ∷ []), look_so contents [] 0 (tt, tt) stands, (Some (anchor_read 0 ∷ anchor_read 1 ∷ []), look_so contents (anchor_read 0 ∷ []) 1 (tt, (tt, tt)) stands, λ told is. is));
      };
      verdicts = waits ∷ Ready mirror_opening ∷ [];
      are = record { count = refl; each = verdict_is; waits = only_last };
      last = Ready mirror_opening;
      last_is = refl;
      over = inl refl;
      lines_are = arrived_printed;
      status_is = refl;
    }
