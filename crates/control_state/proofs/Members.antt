-- The members that are left from a place on.
use Rattle.std.proofs.Common.{◌≡◌, ℕ, zero, suc, ◌+◌, ◌<◌, List, [], ◌∷◌, length, drop, Some, None, refl, add-one, arith}
use Rattle.std.specs.Prelude.{slice_get}
use Rattle.units.specs.declared.disk.DiskNo.{DiskNo}
use Rattle.stage_machine.specs.Setting.{Setting}
use Rattle.stage_machine.specs.Jobs as jobs
use Rattle.control_state.specs.Seen.{numbers}

member_suc : (disks : List DiskNo) (n : ℕ) (d : DiskNo) → Some d ≡ slice_get disks n → drop n (numbers disks) ≡ d.0 ∷ drop (suc n) (numbers disks)
member_suc [] n d is = absurd (cc is)
member_suc (x ∷ xs) zero d is = let same : x ≡ d = cc is in rw same refl
member_suc (x ∷ xs) (suc n) d is = member_suc xs n d is

pub drop_member : (disks : List DiskNo) (n : ℕ) (d : DiskNo) → Some d ≡ slice_get disks n → drop n (numbers disks) ≡ d.0 ∷ drop (n + 1) (numbers disks)
drop_member disks n d is = rw (add-one) (member_suc disks n d is)

pub drop_past : (disks : List DiskNo) (n : ℕ) → None ≡ slice_get disks n → drop n (numbers disks) ≡ []
drop_past [] zero is = refl
drop_past [] (suc n) is = refl
drop_past (x ∷ xs) zero is = absurd (cc is)
drop_past (x ∷ xs) (suc n) is = drop_past xs n is

pub some_left : (disks : List DiskNo) (n : ℕ) → n < length disks → (d : ℕ) × (more : List ℕ) × (drop n (numbers disks) ≡ d ∷ more)
some_left [] n below = absurd (omega (arith, below))
some_left (x ∷ xs) zero below = (x.0, numbers xs, refl)
some_left (x ∷ xs) (suc n) below = some_left xs n (omega (arith, below))

pub still_writing : (S : Setting) (disks : List DiskNo) (n : ℕ) → n < length disks → jobs.Writing (drop n (numbers disks)) ≡ jobs.after_write S (drop n (numbers disks))
still_writing S disks n below = let some = some_left disks n below in rw (some.2) refl

pub still_syncing : (disks : List DiskNo) (n : ℕ) → n < length disks → jobs.Syncing (drop n (numbers disks)) ≡ jobs.after_sync (drop n (numbers disks))
still_syncing disks n below = let some = some_left disks n below in rw (some.2) refl
