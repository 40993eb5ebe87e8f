-- The row of a job that makes a call: its plan stands, if the one before it did; what is read behind it is read.
use Rattle.std.proofs.Common.{◌≡◌, ℕ, ◌==◌, not, Bool, true, false, List, [], ◌∷◌, ◌++◌, filter, refl, ap, sym, ◌∙◌, subst, Option, Some, None, ◌⊎◌, inl, inr, cond, eqb-true}
use Rattle.std.specs.Prelude.{slice_get}
use Rattle.std.specs.Option.{option_map_or}
use Rattle.units.specs.declared.disk.Sector.{Sector}
use Rattle.array_model.specs.Placement.{Placement}
use Rattle.array_model.specs.Script.{kind_at}
use Rattle.array_machine.specs.Setting.{Setting}
use Rattle.array_machine.specs.Numbers.{has}
use Rattle.array_machine.specs.Volumes.{Slot, slot_at, same_disk, Got, Volume, volume_at}
use Rattle.array_machine.specs.Operations.{volume_of, shape_of, sector_in, place_or, place_at, the_place, is_write}
use Rattle.array_machine.specs.Clients.{Row}
use Rattle.array_machine.specs.Control.{Control}
use Rattle.array_machine.specs.RowJobs.{plan_or, got_slots, unread, Need, NoNeed, Reads, Writes, Syncs, Answers, went_on, lost_if, lost_row, disks_begun, tried}
use Rattle.array_machine.specs.ClientTurns.{the_plan, row_tried}
use Rattle.array_paths.specs.ClientMove.{fits_op}
use Rattle.array_base.proofs.Targets.{or_first, or_cases, or_second, has_passes}
use Rattle.array_rest.specs.Seats.{RunsOn, HasSlots}
use Rattle.array_rest.specs.Jobs.{may_use, IsOutrun, PlanStands}
use Rattle.array_rest.proofs.Failures.{filter_has}
use Rattle.array_rest.proofs.Plans.{IsInside, planned_may}
use Rattle.array_rest.proofs.Inside.{placed_inside}

-- WHAT IS LEFT TO READ

filter_keeps : (test : ℕ → Bool) (xs : List ℕ) (s : ℕ) → has s xs ≡ true → test s ≡ true
    → has s (filter test xs) ≡ true
filter_keeps test [] s is passes = is
filter_keeps test (x ∷ xs) s is passes =
    at (test x) refl (or_cases (x == s) (has s xs) is) (λ later. filter_keeps test xs s later passes)
  where
    at : (b : Bool) → test x ≡ b → ((x == s) ≡ true) ⊎ (has s xs ≡ true)
        → (has s xs ≡ true → has s (filter test xs) ≡ true)
        → has s (cond b (x ∷ filter test xs) (filter test xs)) ≡ true
    at true tests (inl here) more = or_first (x == s) (has s (filter test xs)) here
    at true tests (inr later) more = or_second (x == s) (has s (filter test xs)) (more later)
    at false tests (inl here) more =
        absurd (let bad = ap test (eqb-true x s here) ∙ passes in cc (tests, bad))
    at false tests (inr later) more = more later

got_more : (got : List Got) (y : Got) (s : ℕ) → has s (got_slots got) ≡ true
    → has s (got_slots (got ++ y ∷ [])) ≡ true
got_more [] y s is = absurd (cc is)
got_more (g ∷ gs) y s is = elim (or_cases (g.slot == s) (has s (got_slots gs)) is) [
  | inl here ↦ or_first (g.slot == s) (has s (got_slots (gs ++ y ∷ []))) here
  | inr later ↦ or_second (g.slot == s) (has s (got_slots (gs ++ y ∷ []))) (got_more gs y s later)
]

unread_less : (plan : List ℕ) (got : List Got) (y : Got) (s : ℕ) → has s (unread plan (got ++ y ∷ [])) ≡ true
    → has s (unread plan got) ≡ true
unread_less plan got y s is =
    filter_keeps (λ e. not (has e (got_slots got))) plan s
    (filter_has (λ e. not (has e (got_slots (got ++ y ∷ [])))) plan s is)
    (at (has s (got_slots got)) refl)
  where
    passes : not (has s (got_slots (got ++ y ∷ []))) ≡ true
    passes = has_passes (λ e. not (has e (got_slots (got ++ y ∷ [])))) plan s is

    at : (b : Bool) → has s (got_slots got) ≡ b → not b ≡ true
    at false none = refl
    at true there = absurd (let more = got_more got y s there in cc (more, passes))

-- A CALL

outrun_tried : (faults : List ℕ) (slots now : List Slot) (plan : List ℕ) (r : Row) → IsOutrun faults slots r
    → IsOutrun faults slots (tried now plan r)
outrun_tried faults slots now plan r out =
    let begun = out.begun in
    record {
      slot = out.slot;
      may = out.may;
      begun = refl;
      unseen =
          ap (λ b. option_map_or (λ d. same_disk d (slot_at slots out.slot).disk)
          (slice_get (disks_begun b r.disks now) out.slot) true) begun
          ∙ sym (ap (λ b. cond b (option_map_or (λ d. same_disk d (slot_at slots out.slot).disk)
          (slice_get r.disks out.slot) true) true) begun)
          ∙ out.unseen;
    }

pub went_stands : (faults : List ℕ) (x : Volume) (need : Need) (y : Sector) (r : Row) → PlanStands faults x r
    → PlanStands faults x (went_on need y r)
went_stands faults x NoNeed y r h plan is e left = h plan is e left
went_stands faults x (Reads s) y r h plan is e left =
    same (h plan is e (unread_less plan r.got (record { slot = s; sector = y }) e left))
  where
    same : (may_use faults x.slots e ≡ true) ⊎ IsOutrun faults x.slots r
        → (may_use faults x.slots e ≡ true)
        ⊎ IsOutrun faults x.slots (went_on (Reads s) y r)
    same (inl may) = inl may
    same (inr out) = inr (record { slot = out.slot; may = out.may; begun = out.begun; unseen = out.unseen })
went_stands faults x (Writes s) y r h plan is e left = same (h plan is e left)
  where
    same : (may_use faults x.slots e ≡ true) ⊎ IsOutrun faults x.slots r
        → (may_use faults x.slots e ≡ true)
        ⊎ IsOutrun faults x.slots (went_on (Writes s) y r)
    same (inl may) = inl may
    same (inr out) = inr (record { slot = out.slot; may = out.may; begun = out.begun; unseen = out.unseen })
went_stands faults x (Syncs s) y r h plan is e left = same (h plan is e left)
  where
    same : (may_use faults x.slots e ≡ true) ⊎ IsOutrun faults x.slots r
        → (may_use faults x.slots e ≡ true)
        ⊎ IsOutrun faults x.slots (went_on (Syncs s) y r)
    same (inl may) = inl may
    same (inr out) = inr (record { slot = out.slot; may = out.may; begun = out.begun; unseen = out.unseen })
went_stands faults x (Answers answer) y r h plan is e left = h plan is e left

-- behind a failure nothing of a plan is left
pub lost_stands : (faults : List ℕ) (x : Volume) (r : Row) (plan : List ℕ) → r.plan ≡ Some plan
    → PlanStands faults x (lost_row r.plan r)
lost_stands faults x r plan is =
    subst (λ p. PlanStands faults x (lost_row p r)) (sym is) (at (unread plan r.got) refl)
  where
    at : (left : List ℕ) → unread plan r.got ≡ left → PlanStands faults x (lost_if left r)
    at [] none q same e there =
        absurd (let eq : plan ≡ q = cc (sym is ∙ same) in
        let nothing = ap (λ z. has e (unread z r.got)) (sym eq) ∙ ap (has e) none in cc (there, nothing))
    at (s ∷ ss) some q same e there = absurd (cc same)

-- THE PLAN OF A JOB

module _ (S : Setting) (c : Control) (i : ℕ) where
  abbrev v : ℕ
  v = volume_of S i

  abbrev x : Volume
  x = volume_at c.volumes (volume_of S i)

  -- the place of a write or a read is inside
  pub inside : fits_op S i ≡ true → (place_at S i ≡ None → ⊥) → IsInside (shape_of S v).level (shape_of S v) (the_place S i)
  inside fits some = at (place_at S i) refl
    where
      at : (place : Option Placement) → place_at S i ≡ place → IsInside (shape_of S v).level (shape_of S v) (the_place S i)
      at None none = absurd (some none)
      at (Some p) is =
          subst (IsInside (shape_of S v).level (shape_of S v)) (sym (ap place_or is))
          (placed_inside (shape_of S v).level (shape_of S v) (sector_in (kind_at S.asked.ops i)) p is)

  pub tried_stands : (r : Row) → fits_op S i ≡ true → (place_at S i ≡ None → ⊥) → RunsOn S c.round.faults v x
      → HasSlots S v x → PlanStands c.round.faults x r → PlanStands c.round.faults x (row_tried S c i r)
  tried_stands r fits some able slots old plan is s left = at r.plan refl
    where
      raised : (may_use c.round.faults x.slots s ≡ true) ⊎ IsOutrun c.round.faults x.slots r
          → (may_use c.round.faults x.slots s ≡ true)
          ⊎ IsOutrun c.round.faults x.slots (row_tried S c i r)
      raised (inl may) = inl may
      raised (inr out) = inr (outrun_tried c.round.faults x.slots x.slots (the_plan S c i r) r out)

      at : (p : Option (List ℕ)) → r.plan ≡ p
          → (may_use c.round.faults x.slots s ≡ true)
          ⊎ IsOutrun c.round.faults x.slots (row_tried S c i r)
      at (Some q) had =
          let same : q ≡ plan = cc (sym (ap (λ o. Some (plan_or o (the_plan S c i r))) had) ∙ is) in
          raised (old plan (had ∙ ap Some same) s left)
      at None none =
          let same : the_plan S c i r ≡ plan = cc (sym (ap (λ o. Some (plan_or o (the_plan S c i r))) none) ∙ is) in
          let there : has s (the_plan S c i r) ≡ true
          = ap (has s) same ∙ filter_has (λ e. not (has e (got_slots r.got))) plan s left in
          raised (planned_may c.round.faults c.round.blocked x.slots r (shape_of S v).level (shape_of S v)
          (the_place S i) (is_write S i) refl able slots.count (inside fits some) s there)
