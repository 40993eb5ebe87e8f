use Rattle.std.proofs.Common.{◌≡◌, ◌+◌, ℕ, zero, suc, true, List, [], ◌∷◌, inl, inr, take, None, Some, refl, ap, subst, arith, lit≤}
use Rattle.std.specs.Prelude.{slice_get}
use Rattle.std.specs.Fmt.{digits}
use Rattle.std.specs.Option.{IsSomeAnd}
use Rattle.std.proofs.lemmas.Option.{same_Some}
use Rattle.hex.specs.Hex.{encode_with}
use Rattle.units.specs.declared.disk.Sector.{Sector}
use Rattle.imsm_base.specs.Parts.{block_in}
use Rattle.imsm_base.specs.Vector.{mirror_bytes}
use Rattle.imsm_base.specs.Whole.{IsWholeBlock}
use Rattle.imsm_buffer.specs.Buffer.{Buffer}
use Rattle.imsm_codec.specs.Mpb.{volume_at}
use Rattle.container.specs.declared.missing.Lack.TheVariants as lack
use Rattle.container.specs.declared.missing.Missing.{Missing}
use Rattle.container.specs.declared.role.DiskRole.TheVariants.{Member}
use Rattle.container.specs.declared.seen.Seen.{Seen}
use Rattle.container.specs.declared.verdict.Opening.{Opening}
use Rattle.container.specs.declared.verdict.Verdict.{Verdict}
use Rattle.container.specs.declared.verdict.Verdict.TheVariants.{Ready}
use Rattle.container.specs.declared.volume.VolumeVerdict.{VolumeVerdict}
use Rattle.container.specs.declared.volume.VolumeVerdict.TheVariants.{Degraded}
use Rattle.container.specs.Roles.{IsRole}
use Rattle.container.specs.Verdicts.{IsByNewest, IsOpening, IsVerdict}
use Rattle.container.specs.Volumes.{IsVolumeVerdict, is_listed}
use Rattle.assembly.specs.Seen.{IsSeen}
use Rattle.image_incremental.specs.Lines.{all_lines}
use Rattle.refused_verdicts.specs.Mirror.{anchor_read, disk_a, disk_b, early_lines, first_of_both, mirror_disk}
use Rattle.refused_verdicts.proofs.Mirrored.{look_so, seen_so, stands, whole_a}
use Rattle.refused_verdicts.proofs.MirrorSaid.{full, goes_on, newest_first, one_volume, role_a, second_lacks, seen_a, the_pick, whole_mirror}
use Rattle.refused_verdicts.proofs.mirror.early_openings_are_admitted.Goals as goal

abbrev second_absent : List Missing
second_absent = record { serial = disk_b; cause = lack.Absent } ∷ []

abbrev early_opening : Opening
early_opening = record {
  book = record { bytes = mirror_bytes; room = 536 };
  family = 0x6d257059;
  generation = 1;
  volumes = record { items = Degraded (Some 0) ∷ [] };
  disks = record { items = Member 0 ∷ [] };
}

the_volume : IsVolumeVerdict (block_in mirror_bytes) (is_listed (block_in mirror_bytes) second_absent) 0 (volume_at 0 (block_in mirror_bytes)) (Degraded (Some 0))
unfolding block_in
the_volume = inr (refl, refl)

volume_is : (k : ℕ) (v : VolumeVerdict) → slice_get (Degraded (Some 0) ∷ []) k ≡ Some v → IsVolumeVerdict (block_in mirror_bytes) (is_listed (block_in mirror_bytes) second_absent) k (volume_at k (block_in mirror_bytes)) v
volume_is zero v at =
    subst (IsVolumeVerdict (block_in mirror_bytes) (is_listed (block_in mirror_bytes) second_absent) 0 (volume_at 0 (block_in mirror_bytes))) (same_Some (Degraded (Some 0)) v at) the_volume
volume_is (suc k) v at = absurd (cc at)

role_is : (k : ℕ) (s : Seen) → slice_get (seen_a ∷ []) k ≡ Some s → IsSomeAnd (slice_get (Member 0 ∷ []) k) (IsRole (block_in mirror_bytes) s)
role_is zero s at = subst (λ (x : Seen). IsRole (block_in mirror_bytes) x (Member 0)) (same_Some seen_a s at) role_a
role_is (suc k) s at = absurd (let none : None ≡ Some s = at in cc none)

opened : IsOpening mirror_bytes the_pick (seen_a ∷ []) second_absent early_opening
opened = record {
  book = ap (λ (n : ℕ). let book : Buffer = record { bytes = mirror_bytes; room = n } in book) full;
  family = refl;
  generation = refl;
  volumes = record { count = one_volume; each = volume_is };
  disks = record { count = refl; each = role_is };
}

says_early : IsByNewest (seen_a ∷ []) true (Ready early_opening)
says_early = record { pick = the_pick; bytes = mirror_bytes; newest = newest_first; missing = second_absent; lack = second_lacks; says = (goes_on, inr (refl, refl), opened) }

early_printed : (second : List Sector) → early_lines ≡ all_lines (first_of_both second).serials (Ready early_opening ∷ [])
unfolding digits encode_with
early_printed second = refl

each_seen : IsWholeBlock mirror_bytes (block_in mirror_bytes) → (second : List Sector) (k : ℕ) (s : Seen) → slice_get (seen_a ∷ []) k ≡ Some s
    → IsSeen (first_of_both second).serials (first_of_both second).sizes (first_of_both second).opening (Some []) (first_of_both second).log (λ d. 0) (first_of_both second).faults k s
each_seen w second zero s at =
    let bank = first_of_both second in
    subst (IsSeen bank.serials bank.sizes bank.opening (Some []) bank.log (λ d. 0) bank.faults 0) (same_Some seen_a s at)
    (seen_so bank.serials bank.sizes (mirror_disk ∷ second ∷ []) (anchor_read 0 ∷ []) bank.faults 0 disk_a refl refl stands (whole_a w))
each_seen w second (suc k) s at = absurd (let none : None ≡ Some s = at in cc none)

verdict_is : (k : ℕ) (v : Verdict) → slice_get (Ready early_opening ∷ []) k ≡ Some v → IsVerdict (take (k + 1) (seen_a ∷ [])) true v
verdict_is zero v at = subst (IsVerdict (seen_a ∷ []) true) (same_Some (Ready early_opening) v at) (inr says_early)
verdict_is (suc k) v at = absurd (let none : None ≡ Some v = at in cc none)

pub returns : goal.returns
returns c second =
    let w = whole_mirror c.example_of_a_whole_block.ensures.whole in
    record {
      before = Some [];
      fresh = refl;
      seen = seen_a ∷ [];
      sees = record { few = lit≤ tt; each = each_seen w second; looks = (Some (anchor_read 0 ∷ []), look_so (mirror_disk ∷ second ∷ []) [] 0 (tt, tt) stands, λ told is. is) };
      verdicts = Ready early_opening ∷ [];
      are = record { count = refl; each = verdict_is; waits = λ k v at below. absurd (omega (arith, below)) };
      last = Ready early_opening;
      last_is = refl;
      over = inl refl;
      lines_are = early_printed second;
      status_is = refl;
    }
