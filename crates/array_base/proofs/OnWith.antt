-- On with the targets that are left, those that come last once one finished: what goes on stays as it was, and the next
-- call awaits nothing or the first of the block's sectors.
use Rattle.std.proofs.Common.{◌≡◌, ℕ, ◌-◌, ◌||◌, Bool, true, false, List, [], ◌∷◌, length, refl, sym, subst, inl, ◌∙◌}
use Rattle.units.specs.declared.disk.Sector.{Sector}
use Rattle.units.specs.Places.{anchor_place}
use Rattle.array_model.specs.Blocks.{Laid}
use Rattle.array_model.specs.Candidates.{Disk, standing_from}
use Rattle.array_machine.specs.Setting.{Setting}
use Rattle.array_machine.specs.Numbers.{has}
use Rattle.array_machine.specs.Rounds.{Aim, OfRound, OfSpare, on_with, first_step}
use Rattle.array_base.specs.Base.{Ledger, is_left, RoundGoes, SpareGoes, Goes, Awaits, NextAwaits}

module _ (S : Setting) (ks : ℕ → Disk) where
  -- TARGETS

  -- those that come last are now the first: the same are left
  left_late : (late : List ℕ) (d : ℕ) → is_left S late [] d ≡ is_left S [] late d
  left_late late d = at (has d late)
    where
      at : (b : Bool) → (b || false) ≡ b
      at true = refl
      at false = refl

  pub round_on : (l : Ledger) (m : Laid) (left late : List ℕ) (done : Bool) → RoundGoes S ks l m left late done
      → Goes S ks l (on_with OfRound m left late done)
  round_on l m [] late true g = record {
    book = g.book;
    top = g.top;
    above = g.above;
    alone = g.alone;
    finished = λ d expected sound gone. g.finished d expected sound (sym (left_late late d) ∙ gone);
    begun = λ ended none. absurd cc;
    known = g.known;
    targets = λ d left. g.targets d (sym (left_late late d) ∙ left);
  }
  round_on l m [] late false g = g
  round_on l m (d ∷ ds) late done g = g

  pub spare_on : (l : Ledger) (x : ℕ) (m : Laid) (left late : List ℕ) (done : Bool)
      → SpareGoes S ks l x m left late done → Goes S ks l (on_with (OfSpare x) m left late done)
  spare_on l x m [] late true g = record {
    settled = g.settled;
    only = λ d left. g.only d (sym (left_late late d) ∙ left);
    idle = g.idle;
    block = g.block;
    held = g.held;
  }
  spare_on l x m [] late false g = g
  spare_on l x m (d ∷ ds) late done g = g

  -- THE NEXT CALL

  -- a block without extended sectors has them all standing
  next_first : (m : Laid) (d : ℕ) → Awaits S d (ks d) m (first_step m)
  next_first m d = at m.extended refl
    where
      at : (xs : List Sector) → m.extended ≡ xs
          → Awaits S d (ks d) m (first_step (record { anchor = m.anchor; extended = xs }))
      at [] none = record {
        pending = inl none;
        stands = subst (λ (xs : List Sector).
            standing_from (ks d).cells (anchor_place (S.start.disks.sectors d) - length xs) (length xs) ≡ xs)
            (sym none) refl;
      }
      at (x ∷ xs) some = tt

  pub next_on : (aim : Aim) (m : Laid) (left late : List ℕ) (done : Bool)
      → NextAwaits S ks (on_with aim m left late done)
  next_on aim m [] [] true = tt
  next_on aim m [] (d ∷ ds) true = next_first m d
  next_on aim m [] late false = tt
  next_on aim m (d ∷ ds) late done = next_first m d
