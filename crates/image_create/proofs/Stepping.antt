-- The steps of a block, one more at a time.
use Rattle.std.proofs.Common.{◌≡◌, ℕ, List, [], ◌∷◌, ◌++◌, drop, Option, sym, ◌∙◌, ap, subst}
use Rattle.std.specs.List.{AllByRecursion, flat_map}
use Rattle.std.proofs.lemmas.Grind.{flat_map-append}
use Rattle.std.proofs.lemmas.List.{append-nil, append_assoc}
use Rattle.units.specs.declared.disk.Sector.{Sector}
use Rattle.device_log.specs.Log.{Call}
use Rattle.member_bank.specs.Told.{LogsAll}
use Rattle.mpb_store.specs.declared.writing.Step.{Step}
use Rattle.mpb_store.specs.declared.writing.Step.TheVariants.{Over}
use Rattle.mpb_store.specs.Writing.{first_step}
use Rattle.image_create.specs.Calls.{step_calls}
use Rattle.image_create.specs.Steps.{IsPlaced}
use Rattle.image_create.specs.Stops.{StopsAt}
use Rattle.image_create.proofs.Making.{logs_both, stops_behind, stops_before}

pub next_is : (steps : List Step) (step : Step) → step ≡ first_step steps → (step ≡ Over → ⊥) → steps ≡ step ∷ drop 1 steps
next_is [] step is some = absurd (some is)
next_is (s ∷ ss) step is some = ap (λ (x : Step). x ∷ ss) (sym is)

pub placed_rest : (n : ℕ) (steps rest : List Step) → rest ≡ drop 1 steps → AllByRecursion (IsPlaced n) steps → AllByRecursion (IsPlaced n) rest
placed_rest n [] rest is placed = subst (AllByRecursion (IsPlaced n)) (sym is) placed
placed_rest n (s ∷ ss) rest is placed = subst (AllByRecursion (IsPlaced n)) (sym is) placed.1

pub step_made : {a b c : Option (List Call)} (d : ℕ) (sectors : List Sector) (all done steps rest : List Step) (step : Step) → all ≡ done ++ steps → steps ≡ step ∷ drop 1 steps → rest ≡ drop 1 steps
    → LogsAll a b (flat_map (step_calls d sectors) done) → LogsAll b c (step_calls d sectors step)
    → (front : List Step) × (all ≡ front ++ rest) × LogsAll a c (flat_map (step_calls d sectors) front)
step_made {a} {b} {c} d sectors all done steps rest step whole next behind before now = (
  done ++ step ∷ [],
  whole
      ∙ ap (λ (x : List Step). done ++ x) (next ∙ ap (λ (x : List Step). step ∷ x) (sym behind))
      ∙ sym (append_assoc done (step ∷ []) rest),
  subst (LogsAll a c)
      (sym (flat_map-append (step_calls d sectors) done (step ∷ []) ∙ ap (λ (x : List Call). flat_map (step_calls d sectors) done ++ x) (append-nil (step_calls d sectors step))))
      (logs_both (flat_map (step_calls d sectors) done) (step_calls d sectors step) before now),
)

pub step_stopped : {a b c : Option (List Call)} (d : ℕ) (sectors : List Sector) (all done steps : List Step) (step : Step) → all ≡ done ++ steps → steps ≡ step ∷ drop 1 steps
    → LogsAll a b (flat_map (step_calls d sectors) done) → StopsAt b c (step_calls d sectors step) d → StopsAt a c (flat_map (step_calls d sectors) all) d
step_stopped {a} {b} {c} d sectors all done steps step whole next before now =
    let rest : List Call = flat_map (step_calls d sectors) (drop 1 steps) in
    subst (λ (x : List Call). StopsAt a c x d)
    (sym (ap (flat_map (step_calls d sectors)) (whole ∙ ap (λ (x : List Step). done ++ x) next) ∙ flat_map-append (step_calls d sectors) done (step ∷ drop 1 steps)))
    (stops_behind (flat_map (step_calls d sectors) done) (step_calls d sectors step ++ rest) before (stops_before (step_calls d sectors step) rest now))
