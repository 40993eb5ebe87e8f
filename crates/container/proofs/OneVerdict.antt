-- A container has one verdict, where no two of its disks have one serial.
use Rattle.std.proofs.Common.{◌≡◌, ◌≢◌, ℕ, Bool, true, false, List, inl, inr, bytes_eq, refl, sym, ◌∙◌, ap, subst, arith}
use Rattle.std.specs.Prelude.{All, Contains}
use Rattle.std.proofs.lemmas.List.Elements.{All-contains}
use Rattle.std.proofs.lemmas.Slice.Eq.{bytes_eq-Decides}
use Rattle.imsm_base.specs.Parts.{block_in}
use Rattle.imsm_buffer.specs.Buffer.{Buffer}
use Rattle.generation_pick.specs.declared.found.FoundAt.{FoundAt}
use Rattle.generation_pick.specs.declared.found.Pick.{Pick}
use Rattle.generation_pick.specs.Found.{AreTwins}
use Rattle.generation_pick.proofs.Exclusive.{one_fault, one_pick, pick_or_fault}
use Rattle.container.specs.declared.missing.Missing.{Missing}
use Rattle.container.specs.declared.role.DiskRole.{DiskRole}
use Rattle.container.specs.declared.seen.Seen.{Seen}
use Rattle.container.specs.declared.verdict.Opening.{Opening}
use Rattle.container.specs.declared.verdict.Verdict.{Verdict}
use Rattle.container.specs.declared.verdict.Verdict.TheVariants.{Refused, Large, GenerationEnd, Waiting, Ready}
use Rattle.container.specs.declared.volume.VolumeVerdict.{VolumeVerdict}
use Rattle.container.specs.Seen.{Container, HaveOwnSerials}
use Rattle.container.specs.Verdicts.{GoesOn, IsByNewest, IsNewest, IsOpening, IsReady, IsVerdict, IsVerdictBy, Waits}
use Rattle.container.specs.Steps.{missing_of}
use Rattle.container.specs.Volumes.{is_any_started}
use Rattle.container.proofs.Alike.{of_map}
use Rattle.container.proofs.Moved.{contains_moves, fault_moves, generation_in, pick_moves, view}
use Rattle.container.proofs.OneMissing.{one_missing}
use Rattle.container.proofs.OneRole.{one_roles, one_volumes}

-- THE NEWEST BLOCK

pub same_pick : (seen : List Seen) (p q : Pick) (a b : List ℕ) → IsNewest seen p a → IsNewest seen q b → p ≡ q
same_pick seen p q a b one other =
    one_pick other.entries p q (pick_moves one.entries other.entries (one.are ∙ sym other.are) p one.picked) other.picked

-- a picked block that is there is an entry
entry : (seen : List Seen) (p : Pick) (a : List ℕ) (n : IsNewest seen p a) → (f : FoundAt) × Contains n.entries f × (view f ≡ record { disk = p.disk.0; bytes = a })
entry seen p a n = of_map view n.entries (record { disk = p.disk.0; bytes = a }) (subst (λ (l : List Container). Contains l (record { disk = p.disk.0; bytes = a })) (sym n.are) n.there)

same_bytes : (seen : List Seen) (p q : Pick) (a b : List ℕ) → p.generation ≡ q.generation → IsNewest seen p a → IsNewest seen q b → a ≡ b
same_bytes seen p q a b generation one other = at (bytes_eq a b) refl
  where
    apart : a ≢ b → ⊥
    apart differ =
        let first = entry seen p a one in
        let last = entry seen q b other in
        let f = contains_moves one.entries other.entries first.0 (one.are ∙ sym other.are) first.1 in
        let here : view f.0 ≡ record { disk = p.disk.0; bytes = a } = f.2 ∙ first.2 in
        All-contains (λ g. AreTwins f.0 g → ⊥) other.entries last.0
        (All-contains (λ h. All (λ g. AreTwins h g → ⊥) other.entries) other.entries f.0 other.picked.apart f.1) last.1 (
          ap generation_in here ∙ one.generation ∙ generation ∙ sym other.generation ∙ sym (ap generation_in last.2),
          λ same. differ (sym (ap (λ (c : Container). c.bytes) here) ∙ same ∙ ap (λ (c : Container). c.bytes) last.2),
        )

    at : (t : Bool) → bytes_eq a b ≡ t → a ≡ b
    at true is = (bytes_eq-Decides a b).0 is
    at false is = absurd (apart (λ same. let yes_same = (bytes_eq-Decides a b).1 same in cc (is, yes_same)))

-- THE VERDICT BY IT

abbrev opened : Buffer → ℕ → ℕ → List VolumeVerdict → List DiskRole → Opening
opened book family generation volumes disks = record { book = book; family = family; generation = generation; volumes = record { items = volumes }; disks = record { items = disks } }

module _ (bytes : List ℕ) (p : Pick) (seen : List Seen) (run : Bool) (missing : List Missing) where
  one_opening : (o u : Opening) → IsOpening bytes p seen missing o → IsOpening bytes p seen missing u → o ≡ u
  one_opening o u one other =
      ap (λ (x : Buffer). opened x o.family o.generation o.volumes.items o.disks.items) (one.book ∙ sym other.book)
      ∙ ap (λ (x : ℕ). opened u.book x o.generation o.volumes.items o.disks.items) (one.family ∙ sym other.family)
      ∙ ap (λ (x : ℕ). opened u.book u.family x o.volumes.items o.disks.items) (one.generation ∙ sym other.generation)
      ∙ ap (λ (x : List VolumeVerdict). opened u.book u.family u.generation x o.disks.items) (one_volumes (block_in bytes) missing o.volumes.items u.volumes.items one.volumes other.volumes)
      ∙ ap (opened u.book u.family u.generation u.volumes.items) (one_roles (block_in bytes) seen o.disks.items u.disks.items one.disks other.disks)

  ready_or_waits : (o : Opening) → Waits bytes run missing → IsReady run missing o.volumes.items → IsOpening bytes p seen missing o → ⊥
  ready_or_waits o waits (inl none) opening = waits.some none
  ready_or_waits o waits (inr (asked, started)) opening =
      let none = waits.none_starts asked in
      let same = one_volumes (block_in bytes) missing none.0 o.volumes.items none.1 opening.volumes in
      let out : is_any_started none.0 ≡ true = ap is_any_started same ∙ started in
      let not : is_any_started none.0 ≡ false = none.2 in
      cc (out, not)

  one_by : (v w : Verdict) → IsVerdictBy bytes p seen run missing v → IsVerdictBy bytes p seen run missing w → v ≡ w
  one_by (Refused fault) w is other = absurd is
  one_by (Large f g s) (Refused fault) is other = absurd other
  one_by (Large f g s) (Large k h t) is other =
      ap (λ (x : ℕ). Large x g s) (is.0 ∙ sym other.0) ∙ ap (λ (x : ℕ). Large k x s) (is.1 ∙ sym other.1) ∙ ap (Large k h) (is.2 ∙ sym other.2)
  one_by (Large f g s) (GenerationEnd k h) is other = absurd (omega (arith, is.2, is.3, other.2))
  one_by (Large f g s) (Waiting k h list) is other = let goes : GoesOn bytes p = other.2 in absurd (omega (arith, is.2, is.3, goes.fits))
  one_by (Large f g s) (Ready o) is other = let goes : GoesOn bytes p = other.0 in absurd (omega (arith, is.2, is.3, goes.fits))
  one_by (GenerationEnd f g) (Refused fault) is other = absurd other
  one_by (GenerationEnd f g) (Large k h t) is other = absurd (omega (arith, other.2, other.3, is.2))
  one_by (GenerationEnd f g) (GenerationEnd k h) is other = ap (λ (x : ℕ). GenerationEnd x g) (is.0 ∙ sym other.0) ∙ ap (GenerationEnd k) (is.1 ∙ sym other.1)
  one_by (GenerationEnd f g) (Waiting k h list) is other = let goes : GoesOn bytes p = other.2 in absurd (omega (arith, is.1, is.3, goes.below))
  one_by (GenerationEnd f g) (Ready o) is other = let goes : GoesOn bytes p = other.0 in absurd (omega (arith, is.1, is.3, goes.below))
  one_by (Waiting f g list) (Refused fault) is other = absurd other
  one_by (Waiting f g list) (Large k h t) is other = let goes : GoesOn bytes p = is.2 in absurd (omega (arith, other.2, other.3, goes.fits))
  one_by (Waiting f g list) (GenerationEnd k h) is other = let goes : GoesOn bytes p = is.2 in absurd (omega (arith, other.1, other.3, goes.below))
  one_by (Waiting f g list) (Waiting k h more) is other =
      ap (λ (x : ℕ). Waiting x g list) (is.0 ∙ sym other.0) ∙ ap (λ (x : ℕ). Waiting k x list) (is.1 ∙ sym other.1)
      ∙ ap (λ (x : List Missing). Waiting k h (record { items = x })) (is.3 ∙ sym other.3)
  one_by (Waiting f g list) (Ready o) is other = absurd (ready_or_waits o is.4 other.1 other.2)
  one_by (Ready o) (Refused fault) is other = absurd other
  one_by (Ready o) (Large k h t) is other = let goes : GoesOn bytes p = is.0 in absurd (omega (arith, other.2, other.3, goes.fits))
  one_by (Ready o) (GenerationEnd k h) is other = let goes : GoesOn bytes p = is.0 in absurd (omega (arith, other.1, other.3, goes.below))
  one_by (Ready o) (Waiting k h list) is other = absurd (ready_or_waits o other.4 is.1 is.2)
  one_by (Ready o) (Ready u) is other = ap Ready (one_opening o u is.2 other.2)

-- THE ONE VERDICT

one_by_newest : (seen : List Seen) (run : Bool) (v w : Verdict) → HaveOwnSerials seen → IsByNewest seen run v → IsByNewest seen run w → v ≡ w
one_by_newest seen run v w own one other =
    let pick : one.pick ≡ other.pick = same_pick seen one.pick other.pick one.bytes other.bytes one.newest other.newest in
    let bytes : one.bytes ≡ other.bytes = same_bytes seen one.pick other.pick one.bytes other.bytes (ap (λ (p : Pick). p.generation) pick) one.newest other.newest in
    let missing : one.missing ≡ other.missing =
    one_missing seen own (block_in one.bytes).disks one.missing one.lack ∙ ap (λ (b : List ℕ). missing_of (block_in b).disks seen) bytes
    ∙ sym (one_missing seen own (block_in other.bytes).disks other.missing other.lack) in
    one_by other.bytes other.pick seen run other.missing v w
    (subst (λ (l : List Missing). IsVerdictBy other.bytes other.pick seen run l v) missing
    (subst (λ (q : Pick). IsVerdictBy other.bytes q seen run one.missing v) pick
    (subst (λ (b : List ℕ). IsVerdictBy b one.pick seen run one.missing v) bytes one.says)))
    other.says

pub one_verdict : (seen : List Seen) (run : Bool) (v w : Verdict) → HaveOwnSerials seen → IsVerdict seen run v → IsVerdict seen run w → v ≡ w
one_verdict seen run v w own (inl (f, none, is)) (inl (g, refused, other)) =
    is ∙ ap Refused (one_fault refused.entries f g (fault_moves none.entries refused.entries (none.are ∙ sym refused.are) f none.cause) refused.cause) ∙ sym other
one_verdict seen run v w own (inl (f, none, is)) (inr by) =
    absurd (pick_or_fault by.newest.entries by.pick f by.newest.picked (fault_moves none.entries by.newest.entries (none.are ∙ sym by.newest.are) f none.cause))
one_verdict seen run v w own (inr by) (inl (f, none, is)) =
    absurd (pick_or_fault by.newest.entries by.pick f by.newest.picked (fault_moves none.entries by.newest.entries (none.are ∙ sym by.newest.are) f none.cause))
one_verdict seen run v w own (inr one) (inr other) = one_by_newest seen run v w own one other
