-- The row of an operation lies on each member, and on no other disk.
use Rattle.std.proofs.Common.{◌≡◌, ℕ, zero, suc, ◌+◌, ◌<◌, Bool, true, false, if◌then◌else◌, nat_lt, refl, ap, sym, ◌∙◌, subst, arith, inl, inr, Some, None}
use Rattle.std.proofs.lemmas.Option.{slice_get_within}
use Rattle.array_model.specs.Placement.{Placement, placement_of, placement_by}
use Rattle.array_model.specs.FailureLaw.{HasInSlot, InPlacement}
use Rattle.array_model.specs.RowCalls.{IsRowOn}
use Rattle.stage_machine.specs.Setting.{Setting, has_disk}
use Rattle.stage_machine.specs.Opens.{IsMember, IsFirstVolume}
use Rattle.stage_machine.specs.Jobs.{the_shape, placement_at, row_at, row_in}
use Rattle.answer_law.proofs.Rows.{at_row, row_is}

module _ (S : Setting) (volume : IsFirstVolume S) where
  -- the place of a sector is its row in both slots
  place_is : (s : ℕ) (p : Placement) → placement_of (the_shape S) s ≡ Some p → record { main = 0; other = 1; row = s } ≡ p
  place_is s p is = at (nat_lt s (the_shape S).size) (ap (λ l. placement_by l (the_shape S) s) (sym volume.level) ∙ is)
    where
      at : (b : Bool) → (if b then Some (record { main = 0; other = 1; row = s }) else None) ≡ Some p → record { main = 0; other = 1; row = s } ≡ p
      at true here = cc here
      at false here = absurd cc

  slot_below : (slot d : ℕ) → HasInSlot S.start S.start.newest 0 slot d → slot < 2
  slot_below slot d h = subst (λ n. slot < n) volume.two (slice_get_within (S.start.words.slots S.start.newest 0) slot h.words h.there)

  row_of_member : (s d : ℕ) (p : Placement) → placement_of (the_shape S) s ≡ Some p → has_disk d S.members ≡ true → IsRowOn S.start 0 s d ((the_shape S).pba + p.row)
  row_of_member s d p is member = record {
    lies = p;
    placed = is;
    slot = let m : IsMember S d = volume.members d member in subst (λ q. InPlacement S.start S.start.newest 0 d (Some q)) (place_is s p is) (at m.slot m.member (slot_below m.slot d m.member));
    at_row = refl;
  }
    where
      at : (slot : ℕ) → HasInSlot S.start S.start.newest 0 slot d → slot < 2 → InPlacement S.start S.start.newest 0 d (Some (record { main = 0; other = 1; row = s }))
      at zero h lt = inl h
      at (suc zero) h lt = inr h
      at (suc (suc k)) h lt = absurd (omega (arith, lt))

  pub member_of_row : (s d place : ℕ) → IsRowOn S.start 0 s d place → has_disk d S.members ≡ true
  member_of_row s d place row = at row.slot
    where
      at : InPlacement S.start S.start.newest 0 d (Some row.lies) → has_disk d S.members ≡ true
      at (inl main) = volume.each_slot row.lies.main d main
      at (inr other) = volume.each_slot row.lies.other d other

  -- AN OPERATION'S ROW

  placed_row : (i : ℕ) (p : Placement) → placement_at S i ≡ Some p → placement_of (the_shape S) (row_at S i) ≡ Some p
  placed_row i p is = ap (placement_of (the_shape S)) (row_is S volume.level i p is) ∙ is

  pub op_row : (i d : ℕ) (p : Placement) → placement_at S i ≡ Some p → has_disk d S.members ≡ true → IsRowOn S.start 0 (row_at S i) d (at_row S (row_at S i))
  op_row i d p is member =
      let row : row_at S i ≡ p.row = ap row_in is in
      subst (λ z. IsRowOn S.start 0 (row_at S i) d ((the_shape S).pba + z)) (sym row) (row_of_member (row_at S i) d p (placed_row i p is) member)

  pub op_place : (i d place : ℕ) (p : Placement) → placement_at S i ≡ Some p → IsRowOn S.start 0 (row_at S i) d place → place ≡ at_row S (row_at S i)
  op_place i d place p is row =
      let same : row.lies.row ≡ row_at S i = ap row_in (sym row.placed ∙ placed_row i p is) ∙ sym (ap row_in is) in
      row.at_row ∙ ap (λ z. (the_shape S).pba + z) same
