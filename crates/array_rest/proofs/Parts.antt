-- Members, work and volumes behind a disk's failure, and lists that were set at one place.
use Rattle.std.proofs.Common.{◌≡◌, ℕ, zero, suc, ◌+◌, ◌==◌, ◌||◌, ◌&&◌, Bool, true, false, List, [], ◌∷◌, length, refl, ap, sym, ◌∙◌, subst, arith, Option, Some, None, ◌⊎◌, inl, inr, slice_set, cond, eqb-true}
use Rattle.array_machine.specs.Setting.{Setting}
use Rattle.array_machine.specs.Volumes.{Slot, slot_at, disk_in, same_disk, has_disk, member_at, member_of, members_of, Volume, volume_at}
use Rattle.array_machine.specs.Clients.{Client, client_at}
use Rattle.array_machine.specs.Rounds.{Round}
use Rattle.array_base.proofs.Targets.{or_neither}
use Rattle.array_machine.specs.Faults.{breaks, volume_lost, volume_without, volumes_without}

-- TESTS

-- of two that hold together
pub both_true : (a b : Bool) → a ≡ true → b ≡ true → (a && b) ≡ true
both_true true b is h = h
both_true false b is h = absurd (cc is)

pub not_true : (b : Bool) → (b ≡ true → ⊥) → b ≡ false
not_true b never = at b refl
  where
    at : (t : Bool) → b ≡ t → b ≡ false
    at true is = absurd (never is)
    at false is = is

-- a number is another, or it isn't
pub same_or_not : (a b : ℕ) → (a ≡ b) ⊎ ((a == b) ≡ false)
same_or_not a b = at (a == b) refl
  where
    at : (t : Bool) → (a == b) ≡ t → (a ≡ b) ⊎ ((a == b) ≡ false)
    at true is = inl (eqb-true a b is)
    at false is = inr is

-- CLIENTS IN A LIST

-- one of them is set, and the others stay
pub client_set : (xs : List Client) (k : ℕ) (x : Client) (j : ℕ)
    → ((k ≡ j) × (client_at (slice_set xs k x) j ≡ x)) ⊎ (client_at (slice_set xs k x) j ≡ client_at xs j)
client_set [] k x j = inr refl
client_set (y ∷ ys) zero x zero = inl (refl, refl)
client_set (y ∷ ys) zero x (suc j) = inr refl
client_set (y ∷ ys) (suc k) x zero = inr refl
client_set (y ∷ ys) (suc k) x (suc j) = elim (client_set ys k x j) [
  | inl here ↦ inl (ap suc here.0, here.1)
  | inr other ↦ inr other
]

pub clients_set_length : (xs : List Client) (k : ℕ) (x : Client) → length (slice_set xs k x) ≡ length xs
clients_set_length [] k x = refl
clients_set_length (y ∷ ys) zero x = refl
clients_set_length (y ∷ ys) (suc k) x = ap suc (clients_set_length ys k x)

-- MEMBERS

-- the member of a slot
pub member_is : (faults blocked : List ℕ) (slots : List Slot) (s : ℕ)
    → member_at (members_of faults blocked slots) s ≡ member_of faults blocked (slot_at slots s)
member_is faults blocked [] s = refl
member_is faults blocked (x ∷ xs) zero = refl
member_is faults blocked (x ∷ xs) (suc s) = member_is faults blocked xs s

-- the disk of a slot is another one than d
abbrev pub IsElsewhere : ℕ → Option ℕ → Type 0
IsElsewhere d disk = same_disk (Some d) disk ≡ false

-- so are the disks of all slots of a list that doesn't have it
pub elsewhere : (d : ℕ) (slots : List Slot) → has_disk d slots ≡ false → (s : ℕ) → IsElsewhere d (disk_in slots s)
elsewhere d [] h s = refl
elsewhere d (x ∷ xs) h zero = (or_neither (same_disk (Some d) x.disk) (has_disk d xs) h).0
elsewhere d (x ∷ xs) h (suc s) = elsewhere d xs (or_neither (same_disk (Some d) x.disk) (has_disk d xs) h).1 s

-- a fault elsewhere leaves a member as it is
pub member_kept : (d : ℕ) (faults blocked : List ℕ) (x : Slot) → IsElsewhere d x.disk
    → member_of (d ∷ faults) blocked x ≡ member_of faults blocked x
member_kept d faults blocked x other = at x.disk refl
  where
    at : (disk : Option ℕ) → x.disk ≡ disk → member_of (d ∷ faults) blocked x ≡ member_of faults blocked x
    at None is = rw is refl
    at (Some e) is = let apart : (d == e) ≡ false = sym (ap (same_disk (Some d)) is) ∙ other in rw (is, apart) refl

pub members_kept : (d : ℕ) (faults blocked : List ℕ) (slots : List Slot) → has_disk d slots ≡ false
    → members_of (d ∷ faults) blocked slots ≡ members_of faults blocked slots
members_kept d faults blocked [] h = refl
members_kept d faults blocked (x ∷ xs) h =
    let both = or_neither (same_disk (Some d) x.disk) (has_disk d xs) h in
    ap (λ m. m ∷ members_of (d ∷ faults) blocked xs) (member_kept d faults blocked x both.0)
    ∙ ap (λ ms. member_of faults blocked x ∷ ms) (members_kept d faults blocked xs both.1)

-- VOLUMES BEHIND A FAILURE

pub volume_failed : (S : Setting) (d : ℕ) (r : Round) (n : ℕ) (volumes : List Volume) (v : ℕ)
    → volume_at (volumes_without S d r n volumes) v ≡ volume_without S d r (n + v) (volume_at volumes v)
volume_failed S d r n [] v = refl
volume_failed S d r n (x ∷ xs) zero =
    let same : n + 0 ≡ n = omega arith in ap (λ k. volume_without S d r k x) (sym same)
volume_failed S d r n (x ∷ xs) (suc v) =
    volume_failed S d r (n + 1) xs v
    ∙ (let same : n + 1 + v ≡ n + suc v = omega arith in ap (λ k. volume_without S d r k (volume_at xs v)) same)

-- Of a volume of a control state, before a failure and behind it: it has no slot with the disk, or it lost a member.
pub data FailedVolume (S : Setting) (d : ℕ) (r : Round) (v : ℕ) (x y : Volume) : Type 0 where
  keeps : y ≡ x → (x.started ≡ true → has_disk d x.slots ≡ false) → FailedVolume S d r v x y
  loses : (broken : Bool) → x.started ≡ true → y ≡ volume_lost S d v broken x → FailedVolume S d r v x y

pub failed_volume : (S : Setting) (d : ℕ) (r : Round) (volumes : List Volume) (v : ℕ)
    → FailedVolume S d r v (volume_at volumes v) (volume_at (volumes_without S d r 0 volumes) v)
failed_volume S d r volumes v =
    let same : 0 + v ≡ v = omega arith in
    subst (FailedVolume S d r v (volume_at volumes v))
    (sym (volume_failed S d r 0 volumes v ∙ ap (λ k. volume_without S d r k (volume_at volumes v)) same))
    (failed_at (volume_at volumes v) (volume_at volumes v).started (has_disk d (volume_at volumes v).slots) refl refl)
  where
    failed_at : (x : Volume) (a b : Bool) → x.started ≡ a → has_disk d x.slots ≡ b
        → FailedVolume S d r v x (cond (a && b) (volume_lost S d v (x.broken || breaks S r v x.slots) x) x)
    failed_at x true true is has_it = loses (x.broken || breaks S r v x.slots) is refl
    failed_at x true false is none = keeps refl (λ started. none)
    failed_at x false b is h = keeps refl (λ started. absurd (cc (is, started)))
