-- What is seen of the disks of a mirror, and said of them.
use Rattle.std.proofs.Common.{◌≡◌, ◌≢◌, ◌<◌, ◌≤◌, ℕ, zero, suc, true, false, List, [], ◌∷◌, inl, inr, get_or, None, Some, refl, sym, ◌∙◌, ap, subst, arith, lit≤, lit<}
use Rattle.std.specs.Prelude.{All, Contains, slice_get}
use Rattle.std.specs.Fmt.{digits}
use Rattle.std.specs.List.{AllByRecursion}
use Rattle.std.specs.Option.{IsSomeAnd}
use Rattle.std.proofs.lemmas.List.Elements.{All-from_recursion}
use Rattle.std.proofs.lemmas.Option.{same_Some}
use Rattle.hex.specs.Hex.{encode_with}
use Rattle.units.specs.declared.disk.Serial.{Serial}
use Rattle.imsm_base.specs.Fields.{Part}
use Rattle.imsm_base.specs.Layout.{family_of, generation_of, total_blocks_of, volume_count_of}
use Rattle.imsm_base.specs.Parts.{block_in}
use Rattle.imsm_base.specs.Vector.{mirror_bytes}
use Rattle.imsm_base.specs.Whole.{IsWhole, IsWholeBlock}
use Rattle.imsm_base.proofs.Joined.{block_in-spelled}
use Rattle.imsm_buffer.specs.Buffer.{Buffer}
use Rattle.imsm_codec.specs.Laid.{IsLaid}
use Rattle.imsm_codec.specs.Mpb.{block_bytes, block_of, volume_at}
use Rattle.imsm_codec.specs.declared.mpb.MpbRef.{MpbRef}
use Rattle.generation_pick.specs.declared.found.FoundAt.{FoundAt}
use Rattle.generation_pick.specs.declared.found.Pick.{Pick}
use Rattle.generation_pick.specs.Found.{AreOneFamily, AreTwins, HasNoTwins, family_at, generation_at}
use Rattle.generation_pick.specs.Picks.{IsPicked}
use Rattle.container.specs.declared.missing.Lack.TheVariants as lack
use Rattle.container.specs.declared.role.DiskRole.TheVariants.{Member}
use Rattle.container.specs.declared.seen.Seen.{Seen}
use Rattle.container.specs.declared.verdict.Opening.{Opening}
use Rattle.container.specs.declared.verdict.Verdict.{Verdict}
use Rattle.container.specs.declared.verdict.Verdict.TheVariants.{Waiting, Ready}
use Rattle.container.specs.declared.volume.VolumeVerdict.{VolumeVerdict}
use Rattle.container.specs.declared.volume.VolumeVerdict.TheVariants.{Started}
use Rattle.container.proofs.Lists.{all_weaker}
use Rattle.container.specs.Lacking.{AreMissing, IsGood}
use Rattle.container.specs.Roles.{Expects, IsRole}
use Rattle.container.specs.Seen.{AreOf, Container, containers_of, found_of}
use Rattle.container.specs.Verdicts.{GoesOn, IsByNewest, IsNewest, IsOpening, full_size}
use Rattle.container.specs.Volumes.{IsVolumeVerdict, is_listed}
use Rattle.assembly.specs.Seen.{IsSeen}
use Rattle.verdict_text.specs.Lines.{verdict_lines}
use Rattle.refused_verdicts.specs.Mirror.{anchor_read, both_disks, both_lines, disk_a, disk_b, first_disk, first_lines, mirror_disk}
use Rattle.refused_verdicts.proofs.Mirrored.{seen_disk, seen_so, stands, whole_a, whole_b}

-- THE BLOCK

other_head : (x y : ℕ) (xs ys : List ℕ) → (x ≡ y → ⊥) → x ∷ xs ≢ y ∷ ys
other_head x y xs ys other e = other (ap (λ (zs : List ℕ). get_or zs 0 0) e)

mirror_laid : IsLaid mirror_bytes
unfolding block_in
mirror_laid = record { room = lit≤ tt; size = lit≤ tt; words = refl }

abbrev mirror_ref : MpbRef
mirror_ref = record { bytes = record { ref_ptr = (0, 0); now = mirror_bytes }; laid = mirror_laid; short = lit≤ tt }

abbrev found_on : ℕ → FoundAt
found_on d = record { disk = record { 0 = d }; mpb = mirror_ref }

abbrev pub the_pick : Pick
the_pick = record { disk = record { 0 = 0 }; generation = 1; family = 0x6d257059 }

pub goes_on : GoesOn mirror_bytes the_pick
unfolding block_in
goes_on = record { fits = lit≤ tt; below = lit< tt }

abbrev pub seen_a : Seen
seen_a = seen_disk 0 disk_a

abbrev pub seen_b : Seen
seen_b = seen_disk 1 disk_b

-- THE NEWEST

-- a list of entries of the one block
module _ (entries : List FoundAt) (all : AllByRecursion (λ (f : FoundAt). f.mpb ≡ mirror_ref) entries) where
  of_all : (P : FoundAt → Type 0) → ((f : FoundAt) → f.mpb ≡ mirror_ref → P f) → All P entries
  of_all P each = All-from_recursion P entries (all_weaker (λ f. f.mpb ≡ mirror_ref) P entries each all)

  one_family : AreOneFamily entries
  one_family = of_all (λ f. All (λ g. family_at f ≡ family_at g) entries) (λ f is. of_all (λ g. family_at f ≡ family_at g) (λ g other. ap (λ (m : MpbRef). family_of (block_of m)) (is ∙ sym other)))

  no_twins : HasNoTwins entries
  no_twins = of_all (λ f. All (λ g. AreTwins f g → ⊥) entries) (λ f is. of_all (λ g. AreTwins f g → ⊥) (λ g other twins. twins.1 (ap block_bytes (is ∙ sym other))))

the_generation : generation_of (block_in mirror_bytes) ≡ 1
unfolding block_in
the_generation = refl

the_family : family_of (block_in mirror_bytes) ≡ 0x6d257059
unfolding block_in
the_family = refl

picked : (entries : List FoundAt) → AllByRecursion (λ (f : FoundAt). f.mpb ≡ mirror_ref) entries → Contains entries (found_on 0) → IsPicked entries the_pick
picked entries all there = record {
  newest = record {
    found = found_on 0;
    there = there;
    disk = refl;
    generation = the_generation;
    family = the_family;
    highest = of_all entries all (λ f. generation_at f ≤ 1) (λ f is. let same : generation_at f ≡ 1 = ap (λ (m : MpbRef). generation_of (block_of m)) is ∙ the_generation in omega (arith, same));
    least = of_all entries all (λ f. generation_at f ≡ 1 → 0 ≤ f.disk.0) (λ f is first. omega arith);
  };
  one_family = one_family entries all;
  apart = no_twins entries all;
}

both_blocks : AreOf (found_on 0 ∷ found_on 1 ∷ []) (containers_of (seen_a ∷ seen_b ∷ []))
unfolding block_in
both_blocks = refl

first_block : AreOf (found_on 0 ∷ []) (containers_of (seen_a ∷ []))
unfolding block_in
first_block = refl

block_there : (seen : List Seen) (entries : List FoundAt) → AreOf entries (containers_of seen) → Contains (found_of entries) (record { disk = 0; bytes = mirror_bytes }) → AllByRecursion (λ (f : FoundAt). f.mpb ≡ mirror_ref) entries
    → Contains entries (found_on 0) → IsNewest seen the_pick mirror_bytes
block_there seen entries are there all first = record {
  entries = entries;
  are = are;
  picked = picked entries all first;
  there = subst (λ (l : List Container). Contains l (record { disk = 0; bytes = mirror_bytes })) are there;
  generation = the_generation;
}

newest_both : IsNewest (seen_a ∷ seen_b ∷ []) the_pick mirror_bytes
newest_both = block_there (seen_a ∷ seen_b ∷ []) (found_on 0 ∷ found_on 1 ∷ []) both_blocks (0, lit< tt, refl) (refl, (refl, tt)) (0, lit< tt, refl)

pub newest_first : IsNewest (seen_a ∷ []) the_pick mirror_bytes
newest_first = block_there (seen_a ∷ []) (found_on 0 ∷ []) first_block (0, lit< tt, refl) (refl, tt) (0, lit< tt, refl)

-- WHAT LACKS

pub some_volume : 0 < volume_count_of (block_in mirror_bytes)
unfolding block_in
some_volume = lit< tt

good : (k : ℕ) (s : Serial) (entry : Part) → total_blocks_of entry ≤ 4096 → IsGood entry (seen_disk k s)
good k s entry large = record { container = record { block = record { bytes = mirror_bytes; room = 480 }; whole = refl; volume = some_volume }; large = large }

none_lacks : AreMissing (seen_a ∷ seen_b ∷ []) (block_in mirror_bytes).disks []
unfolding block_in
none_lacks = (
  inr (record { disk = seen_a; there = (0, lit< tt, refl); named = refl; holds = good 0 disk_a _ (lit≤ tt) }),
  (inr (record { disk = seen_b; there = (1, lit< tt, refl); named = refl; holds = good 1 disk_b _ (lit≤ tt) }), tt),
)

pub second_lacks : AreMissing (seen_a ∷ []) (block_in mirror_bytes).disks (record { serial = disk_b; cause = lack.Absent } ∷ [])
unfolding block_in
second_lacks =
    inl (
      inr (record { disk = seen_a; there = (0, lit< tt, refl); named = refl; holds = good 0 disk_a _ (lit≤ tt) }),
      inr (record { expected = refl; serial = refl; cause = (other_head 65 66 _ _ (λ e. absurd (omega (arith, e))), tt) }, tt),
    )

-- WHAT IS SAID

abbrev pub mirror_opening : Opening
mirror_opening = record {
  book = record { bytes = mirror_bytes; room = 536 };
  family = 0x6d257059;
  generation = 1;
  volumes = record { items = Started None ∷ [] };
  disks = record { items = Member 0 ∷ Member 1 ∷ [] };
}

the_volume : IsVolumeVerdict (block_in mirror_bytes) (is_listed (block_in mirror_bytes) []) 0 (volume_at 0 (block_in mirror_bytes)) (Started None)
unfolding block_in
the_volume = inr (refl, refl)

volume_is : (k : ℕ) (v : VolumeVerdict) → slice_get (Started None ∷ []) k ≡ Some v → IsVolumeVerdict (block_in mirror_bytes) (is_listed (block_in mirror_bytes) []) k (volume_at k (block_in mirror_bytes)) v
volume_is zero v at = let same : Started None ≡ v = cc at in subst (IsVolumeVerdict (block_in mirror_bytes) (is_listed (block_in mirror_bytes) []) 0 (volume_at 0 (block_in mirror_bytes))) same the_volume
volume_is (suc k) v at = absurd (cc at)

pub one_volume : 1 ≡ volume_count_of (block_in mirror_bytes)
unfolding block_in
one_volume = refl

pub role_a : IsRole (block_in mirror_bytes) seen_a (Member 0)
unfolding block_in
role_a = record { here = (refl, refl); before = λ k below is. absurd (omega (arith, below)) }

role_b : IsRole (block_in mirror_bytes) seen_b (Member 1)
unfolding block_in
role_b = record { here = (refl, refl); before = not_before }
  where
    not_before : (k : ℕ) → k < 1 → IsSomeAnd (slice_get (block_in mirror_bytes).disks k) (Expects disk_b.0) → ⊥
    not_before zero below is = other_head 65 66 _ _ (λ e. absurd (omega (arith, e))) is.1
    not_before (suc k) below is = absurd (omega (arith, below))

role_is : (k : ℕ) (s : Seen) → slice_get (seen_a ∷ seen_b ∷ []) k ≡ Some s → IsSomeAnd (slice_get (Member 0 ∷ Member 1 ∷ []) k) (IsRole (block_in mirror_bytes) s)
role_is zero s at = subst (λ (x : Seen). IsRole (block_in mirror_bytes) x (Member 0)) (same_Some seen_a s at) role_a
role_is (suc zero) s at = subst (λ (x : Seen). IsRole (block_in mirror_bytes) x (Member 1)) (same_Some seen_b s at) role_b
role_is (suc (suc k)) s at = absurd (let none : None ≡ Some s = at in cc none)

pub full : 536 ≡ full_size (block_in mirror_bytes)
unfolding block_in
full = refl

opened : IsOpening mirror_bytes the_pick (seen_a ∷ seen_b ∷ []) [] mirror_opening
opened = record {
  book = ap (λ (n : ℕ). let book : Buffer = record { bytes = mirror_bytes; room = n } in book) full;
  family = refl;
  generation = refl;
  volumes = record { count = one_volume; each = volume_is };
  disks = record { count = refl; each = role_is };
}

pub says_both : IsByNewest (seen_a ∷ seen_b ∷ []) false (Ready mirror_opening)
says_both = record { pick = the_pick; bytes = mirror_bytes; newest = newest_both; missing = []; lack = none_lacks; says = (goes_on, inl refl, opened) }

abbrev pub waits : Verdict
waits = Waiting 0x6d257059 1 (record { items = record { serial = disk_b; cause = lack.Absent } ∷ [] })

not_asked : false ≡ true → ⊥
not_asked is = cc is

pub says_first : IsByNewest (seen_a ∷ []) false waits
says_first = record {
  pick = the_pick;
  bytes = mirror_bytes;
  newest = newest_first;
  missing = record { serial = disk_b; cause = lack.Absent } ∷ [];
  lack = second_lacks;
  says = (refl, refl, goes_on, refl, record { some = λ none. cc none; none_starts = λ asked. absurd (not_asked asked) });
}

-- WHAT IS PRINTED

pub both_printed : both_lines ≡ verdict_lines both_disks.serials both_disks.serials (Ready mirror_opening)
unfolding digits encode_with
both_printed = refl

pub first_printed : first_lines ≡ verdict_lines first_disk.serials first_disk.serials waits
unfolding digits encode_with
first_printed = refl

-- WHAT WAS SEEN

pub whole_mirror : IsWhole mirror_bytes → IsWholeBlock mirror_bytes (block_in mirror_bytes)
whole_mirror w = subst (IsWholeBlock mirror_bytes) (sym (block_in-spelled mirror_bytes w.0 w.1.spells)) w.1

pub each_of_both : IsWholeBlock mirror_bytes (block_in mirror_bytes) → (k : ℕ) (s : Seen) → slice_get (seen_a ∷ seen_b ∷ []) k ≡ Some s
    → IsSeen both_disks.serials both_disks.sizes both_disks.opening (Some []) both_disks.log (λ d. 0) both_disks.faults k s
each_of_both w zero s at =
    subst (IsSeen both_disks.serials both_disks.sizes both_disks.opening (Some []) both_disks.log (λ d. 0) both_disks.faults 0) (same_Some seen_a s at)
    (seen_so both_disks.serials both_disks.sizes (mirror_disk ∷ mirror_disk ∷ []) (anchor_read 0 ∷ anchor_read 1 ∷ []) both_disks.faults 0 disk_a refl refl stands (whole_a w))
each_of_both w (suc zero) s at =
    subst (IsSeen both_disks.serials both_disks.sizes both_disks.opening (Some []) both_disks.log (λ d. 0) both_disks.faults 1) (same_Some seen_b s at)
    (seen_so both_disks.serials both_disks.sizes (mirror_disk ∷ mirror_disk ∷ []) (anchor_read 0 ∷ anchor_read 1 ∷ []) both_disks.faults 1 disk_b refl refl stands (whole_b w))
each_of_both w (suc (suc k)) s at = absurd (let none : None ≡ Some s = at in cc none)

pub each_of_first : IsWholeBlock mirror_bytes (block_in mirror_bytes) → (k : ℕ) (s : Seen) → slice_get (seen_a ∷ []) k ≡ Some s
    → IsSeen first_disk.serials first_disk.sizes first_disk.opening (Some []) first_disk.log (λ d. 0) first_disk.faults k s
each_of_first w zero s at =
    subst (IsSeen first_disk.serials first_disk.sizes first_disk.opening (Some []) first_disk.log (λ d. 0) first_disk.faults 0) (same_Some seen_a s at)
    (seen_so first_disk.serials first_disk.sizes (mirror_disk ∷ []) (anchor_read 0 ∷ []) first_disk.faults 0 disk_a refl refl stands (whole_a w))
each_of_first w (suc k) s at = absurd (let none : None ≡ Some s = at in cc none)
