use Rattle.std.proofs.Common.{◌≡◌, ℕ, ◌-◌, ◌&&◌, Bool, true, List, [], ◌∷◌, length, map, take, drop, min, sym, ◌∙◌, ap, arith}
use Rattle.std.specs.Prelude.{Some}
use Rattle.std.specs.List.{list_any}
use Rattle.std.proofs.lemmas.List.{take-map, drop-map, take_all}
use Rattle.units.specs.declared.volume.Level.{Level}
use Rattle.units.specs.Levels.{suffices}
use Rattle.imsm_view.specs.declared.volume.SlotView.{SlotView}
use Rattle.imsm_view.specs.Questions.{is_slot_in_sync}
use Rattle.imsm_view.proofs.Words.{list_any-map}
use Rattle.imsm_view.proofs.questions.suffices.Goals as goal

-- the first two slots and those behind, where there may be fewer
pair_parts : (xs : List SlotView) (pair : ℕ) → pair ≡ min (length xs) 2 → (take pair xs ≡ take 2 xs) × (take (length xs - pair) (drop pair xs) ≡ drop 2 xs)
pair_parts [] pair e =
    let is : pair ≡ 0 = omega arith in
    (ap (λ (n : ℕ). take n []) is, ap (λ (n : ℕ). take (0 - n) (drop n [])) is)
pair_parts (x ∷ []) pair e =
    let is : pair ≡ 1 = omega arith in
    (ap (λ (n : ℕ). take n (x ∷ [])) is, ap (λ (n : ℕ). take (1 - n) (drop n (x ∷ []))) is)
pair_parts (x ∷ y ∷ rest) pair e =
    let is : pair ≡ 2 = omega arith in (
      ap (λ (n : ℕ). take n (x ∷ y ∷ rest)) is,
      ap (λ (n : ℕ). take (length (x ∷ y ∷ rest) - n) (drop n (x ∷ y ∷ rest))) is ∙ take_all (length (x ∷ y ∷ rest) - 2) rest (omega arith),
    )

of_part : (part : List SlotView) (tests : List Bool) → tests ≡ map is_slot_in_sync part → list_any (λ (s : Bool). s) tests ≡ list_any is_slot_in_sync part
of_part part tests is = ap (list_any (λ (s : Bool). s)) is ∙ list_any-map (λ (s : Bool). s) is_slot_in_sync part

both : (a b r : Bool) → a ≡ true → r ≡ b → r ≡ (a && b)
both a b r first second = second ∙ ap (λ (t : Bool). t && b) (sym first)

pub returns-in-One : goal.returns-in-One
returns-in-One c =
    c.is_any_in_sync.ensures ∙ sym (list_any-map (λ (s : Bool). s) is_slot_in_sync c.args.slots.now)
    ∙ ap (λ (l : Level). suffices (Some l) (map is_slot_in_sync c.args.slots.now)) (sym c.in-One.is)

pub returns-then-is_any_in_sync : goal.returns-then-is_any_in_sync
returns-then-is_any_in_sync c =
    let xs : List SlotView = c.args.slots.now in
    let parts = pair_parts xs c.min-pair.result c.min-pair.ensures in
    both (list_any (λ (s : Bool). s) (take 2 (map is_slot_in_sync xs))) (list_any (λ (s : Bool). s) (drop 2 (map is_slot_in_sync xs))) c.is_any_in_sync-then-is_any_in_sync.result
    (of_part (take 2 xs) (take 2 (map is_slot_in_sync xs)) (take-map is_slot_in_sync 2 xs) ∙ ap (list_any is_slot_in_sync) (sym parts.0) ∙ sym c.is_any_in_sync-in-Ten.ensures ∙ c.if-is_any_in_sync.true)
    (c.is_any_in_sync-then-is_any_in_sync.ensures ∙ ap (list_any is_slot_in_sync) parts.1 ∙ sym (of_part (drop 2 xs) (drop 2 (map is_slot_in_sync xs)) (drop-map is_slot_in_sync 2 xs)))
    ∙ ap (λ (l : Level). suffices (Some l) (map is_slot_in_sync xs)) (sym c.in-Ten.is)
