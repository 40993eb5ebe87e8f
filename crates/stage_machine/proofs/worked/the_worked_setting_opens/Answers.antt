use Rattle.std.proofs.Common.{◌≡◌, ℕ, zero, suc, ◌==◌, Bool, true, false, [], ◌∷◌, inl, inr, refl, sym, subst, arith}
use Rattle.std.proofs.lemmas.Bool.Decides.{nat_tests}
use Rattle.array_model.specs.FailureLaw.{HasInSlot}
use Rattle.array_model.specs.Small.{small_start, small_slot}
use Rattle.array_model.proofs.SmallFacts.{slot_disk}
use Rattle.stage_machine.specs.Setting.{has_disk}
use Rattle.stage_machine.specs.Opens.{IsMember}
use Rattle.stage_machine.specs.Worked.{small_setting}
use Rattle.stage_machine.proofs.worked.the_worked_setting_opens.Goals as goal

member : (d : ℕ) → has_disk d (0 ∷ 1 ∷ []) ≡ true → IsMember small_setting d
member zero is = record { target = refl; slot = 0; member = record { words = small_slot small_start.newest 0 (65 ∷ []); there = refl; same = refl }; in_sync = refl }
member (suc zero) is = record { target = refl; slot = 1; member = record { words = small_slot small_start.newest 1 (66 ∷ []); there = refl; same = refl }; in_sync = refl }
member (suc (suc d)) is = absurd (
    let first : (0 == suc (suc d)) ≡ false = grind (arith, nat_tests) in
    let second : (1 == suc (suc d)) ≡ false = grind (arith, nat_tests) in
    let none : has_disk (suc (suc d)) (0 ∷ 1 ∷ []) ≡ false = rw (first, second) refl in
    cc (none, is))

-- the disk of each slot is a member
in_slot : (slot d : ℕ) → HasInSlot small_start small_start.newest 0 slot d → has_disk d (0 ∷ 1 ∷ []) ≡ true
in_slot slot d h = elim (slot_disk slot d h) [
  | inl first ↦ subst (λ z. has_disk z (0 ∷ 1 ∷ []) ≡ true) (sym first) refl
  | inr second ↦ subst (λ z. has_disk z (0 ∷ 1 ∷ []) ≡ true) (sym second) refl
]

pub returns-clause-volume : goal.returns-clause-volume
returns-clause-volume c = record { level = refl; two = refl; rows = omega arith; started = refl; members = member; each_slot = in_slot; room = λ d target. omega arith }

pub returns-clause-renews : goal.returns-clause-renews
returns-clause-renews c m g y old fits = record {
  alone = refl;
  short = refl;
  generation = refl;
  dirty = at y;
  same = record { container = refl; expects = λ serial. refl; is_supported = λ v. refl; pass = λ v. refl; slots = λ v. refl };
  whole = λ serial sectors is. refl;
}
  where
    at : (b : Bool) → small_setting.start.words.is_dirty (small_setting.renew m g b) 0 ≡ b
    at true = refl
    at false = refl

pub returns-clause-renewable : goal.returns-clause-renewable
returns-clause-renewable c = record { alone = refl; short = refl; container = refl; serial = 65 ∷ []; sectors = 4096; whole = refl }

pub returns-clause-alone : goal.returns-clause-alone
returns-clause-alone c v is = grind (arith, nat_tests, is)
