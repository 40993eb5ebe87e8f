-- The role of a disk, and the verdict on a volume, are each the only one.
use Rattle.std.proofs.Common.{◌≡◌, ◌<◌, ◌==◌, ℕ, Bool, true, false, cond, List, [], length, slice_get, Option, Some, None, inl, inr, refl, sym, ◌∙◌, ap, subst, arith}
use Rattle.std.specs.Option.{IsSomeAnd}
use Rattle.std.proofs.lemmas.Bool.{cases_lt}
use Rattle.std.proofs.lemmas.Bool.Decides.{nat_tests}
use Rattle.std.proofs.lemmas.Option.{slice_get_within, slice_get-get_or}
use Rattle.imsm_base.specs.Fields.{Part}
use Rattle.imsm_base.specs.Layout.{Block, volume_count_of}
use Rattle.imsm_base.specs.Volumes.{Fault}
use Rattle.imsm_base.specs.Volumes.Fault.{BadLevel, BadPolicy, BadMigration, BadIndex, BadGeometry, Overlaps}
use Rattle.imsm_buffer.specs.Buffer.{parts_of}
use Rattle.imsm_codec.specs.Mpb.{volume_at}
use Rattle.imsm_view.specs.declared.fault.VolumeFault.{VolumeFault}
use Rattle.imsm_view.specs.declared.fault.VolumeFault.TheVariants.{Level, Policy, Migration, DiskIndex, Geometry, Overlap}
use Rattle.imsm_view.specs.Faults.{fault_of}
use Rattle.container.specs.declared.missing.Missing.{Missing}
use Rattle.container.specs.declared.role.DiskRole.{DiskRole}
use Rattle.container.specs.declared.role.DiskRole.TheVariants as role
use Rattle.container.specs.declared.seen.Seen.{Seen}
use Rattle.container.specs.declared.seen.SeenAs.{SeenAs}
use Rattle.container.specs.declared.seen.SeenAs.TheVariants.{Whole, Blank, Torn, Unread}
use Rattle.container.specs.declared.volume.VolumeVerdict.{VolumeVerdict}
use Rattle.container.specs.declared.volume.VolumeVerdict.TheVariants.{Unsupported}
use Rattle.container.specs.Roles.{AreRoles, Expects, HasNone, IsFirst, IsRole, IsRoleBy, Names}
use Rattle.container.specs.Volumes.{AreVolumeVerdicts, IsVolumeVerdict, is_listed}
use Rattle.container.proofs.Alike.{same_lists}

-- RECORDS

one_first : (P : Part → Type 0) (disks : List Part) (i j : ℕ) → IsFirst P disks i → IsFirst P disks j → i ≡ j
one_first P disks i j one other = elim (cases_lt i j) [
  | inl up ↦ absurd (other.before i up one.here)
  | inr le ↦ elim (cases_lt j i) [
    | inl down ↦ absurd (one.before j down other.here)
    | inr ge ↦ omega (arith, le, ge)
  ]
]

has_named : (serial : List ℕ) (o : Option Part) → IsSomeAnd o (Expects serial) → IsSomeAnd o (Names serial)
has_named serial None there = there
has_named serial (Some disk) there = there.1

-- ROLES

-- what was seen of a disk, as a role
abbrev role_in : SeenAs → DiskRole
role_in (Whole block) = cond (volume_count_of (parts_of block) == 0) role.Spare role.Stranger
role_in Blank = role.Blank
role_in (Torn fault) = role.Torn fault
role_in Unread = role.Unread

role_by : (holds : SeenAs) (r : DiskRole) → IsRoleBy holds r → r ≡ role_in holds
role_by holds (role.Member i) is = absurd is
role_by holds (role.Failed i) is = absurd is
role_by holds role.Spare is =
    let none : (volume_count_of (parts_of is.block) == 0) ≡ true = grind (arith, nat_tests, is.none) in
    sym (ap role_in is.whole ∙ ap (λ (b : Bool). cond b role.Spare role.Stranger) none)
role_by holds role.Stranger is =
    let some : (volume_count_of (parts_of is.block) == 0) ≡ false = grind (arith, nat_tests, is.volume) in
    sym (ap role_in is.whole ∙ ap (λ (b : Bool). cond b role.Spare role.Stranger) some)
role_by holds role.Blank is = sym (ap role_in is)
role_by holds (role.Torn fault) is = sym (ap role_in is)
role_by holds role.Unread is = sym (ap role_in is)

module _ (b : Block) (s : Seen) where
  -- which of the three a role is by
  data By (r : DiskRole) : Type 0 where
    Member : (i : ℕ) → r ≡ role.Member i → IsFirst (Expects s.serial.0) b.disks i → By r
    Failed : (i : ℕ) → r ≡ role.Failed i → HasNone (Expects s.serial.0) b.disks → IsFirst (Names s.serial.0) b.disks i → By r
    Other : HasNone (Names s.serial.0) b.disks → r ≡ role_in s.holds → By r

  by_table : (r : DiskRole) → IsRole b s r → By r
  by_table (role.Member i) is = Member i refl is
  by_table (role.Failed i) is = Failed i refl is.0 is.1
  by_table role.Spare is = Other is.0 (role_by s.holds role.Spare is.1)
  by_table role.Stranger is = Other is.0 (role_by s.holds role.Stranger is.1)
  by_table role.Blank is = Other is.0 (role_by s.holds role.Blank is.1)
  by_table (role.Torn fault) is = Other is.0 (role_by s.holds (role.Torn fault) is.1)
  by_table role.Unread is = Other is.0 (role_by s.holds role.Unread is.1)

  unnamed : (i : ℕ) → HasNone (Names s.serial.0) b.disks → IsFirst (Expects s.serial.0) b.disks i → ⊥
  unnamed i none first = none i (has_named s.serial.0 (slice_get b.disks i) first.here)

  one_by : (r t : DiskRole) → By r → By t → r ≡ t
  one_by r t (Member i is first) (Member j other second) = is ∙ ap role.Member (one_first (Expects s.serial.0) b.disks i j first second) ∙ sym other
  one_by r t (Member i is first) (Failed j other none second) = absurd (none i first.here)
  one_by r t (Member i is first) (Other none other) = absurd (unnamed i none first)
  one_by r t (Failed i is none first) (Member j other second) = absurd (none j second.here)
  one_by r t (Failed i is none first) (Failed j other same second) = is ∙ ap role.Failed (one_first (Names s.serial.0) b.disks i j first second) ∙ sym other
  one_by r t (Failed i is none first) (Other same other) = absurd (same i first.here)
  one_by r t (Other none is) (Member j other second) = absurd (unnamed j none second)
  one_by r t (Other none is) (Failed j other same second) = absurd (none j second.here)
  one_by r t (Other none is) (Other same other) = is ∙ sym other

  one_role : (o : Option DiskRole) (p : Option DiskRole) (r t : DiskRole) → o ≡ Some r → p ≡ Some t → IsSomeAnd o (IsRole b s) → IsSomeAnd p (IsRole b s) → r ≡ t
  one_role o p r t at to one other =
      one_by r t (by_table r (subst (λ (o : Option DiskRole). IsSomeAnd o (IsRole b s)) at one)) (by_table t (subst (λ (o : Option DiskRole). IsSomeAnd o (IsRole b s)) to other))

pub one_roles : (b : Block) (seen : List Seen) (rs ts : List DiskRole) → AreRoles b seen rs → AreRoles b seen ts → rs ≡ ts
one_roles b seen rs ts one other = same_lists rs ts (one.count ∙ sym other.count) each
  where
    at : (k : ℕ) (r t : DiskRole) → slice_get rs k ≡ Some r → slice_get ts k ≡ Some t → (o : Option Seen) → slice_get seen k ≡ o → k < length seen → r ≡ t
    at k r t here there None is below = absurd (let some = slice_get-get_or seen k (record { disk = record { 0 = 0 }; serial = record { 0 = [] }; sectors = 0; holds = Blank }) below in cc (is, some))
    at k r t here there (Some s) is below = one_role b s (slice_get rs k) (slice_get ts k) r t here there (one.each k s is) (other.each k s is)

    each : (k : ℕ) (r t : DiskRole) → slice_get rs k ≡ Some r → slice_get ts k ≡ Some t → r ≡ t
    each k r t here there = at k r t here there (slice_get seen k) refl (omega (arith, slice_get_within rs k r here, one.count))

-- VOLUMES

-- the view's fault that a fault is
abbrev fault_from : Fault → VolumeFault
fault_from (BadLevel byte members) = Level byte members
fault_from (BadPolicy byte) = Policy byte
fault_from (BadMigration type) = Migration type
fault_from (BadIndex slot) = DiskIndex (record { 0 = slot })
fault_from BadGeometry = Geometry
fault_from (Overlaps other) = Overlap (record { 0 = other })

back : (f : VolumeFault) → fault_from (fault_of f) ≡ f
back (Level byte members) = refl
back (Policy byte) = refl
back (Migration type) = refl
back (DiskIndex slot) = refl
back Geometry = refl
back (Overlap other) = refl

one_volume_fault : (f g : VolumeFault) → fault_of f ≡ fault_of g → f ≡ g
one_volume_fault f g same = sym (back f) ∙ ap fault_from same ∙ back g

pub one_volume : (b : Block) (out : ℕ → Bool) (k : ℕ) (v w : VolumeVerdict) → IsVolumeVerdict b out k (volume_at k b) v → IsVolumeVerdict b out k (volume_at k b) w → v ≡ w
one_volume b out k v w (inl (f, has, is)) (inl (g, gets, other)) =
    let same : fault_of f ≡ fault_of g = cc (has, gets) in
    is ∙ ap Unsupported (one_volume_fault f g same) ∙ sym other
one_volume b out k v w (inl (f, has, is)) (inr (none, other)) = absurd (cc (has, none))
one_volume b out k v w (inr (none, is)) (inl (g, gets, other)) = absurd (cc (gets, none))
one_volume b out k v w (inr (none, is)) (inr (same, other)) = is ∙ sym other

pub one_volumes : (b : Block) (missing : List Missing) (vs ws : List VolumeVerdict) → AreVolumeVerdicts b missing vs → AreVolumeVerdicts b missing ws → vs ≡ ws
one_volumes b missing vs ws one other =
    same_lists vs ws (one.count ∙ sym other.count) (λ k v w here there. one_volume b (is_listed b missing) k v w (one.each k v here) (other.each k w there))
