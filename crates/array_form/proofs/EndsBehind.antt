-- What the changes stand behind that come with the end of a round.
use Rattle.std.proofs.Common.{◌≡◌, ℕ, suc, ◌+◌, ◌<◌, ◌≤◌, nat_lt, Bool, true, false, cond, List, [], ◌∷◌, ◌++◌, refl, ap, sym, ◌∙◌, subst, arith, Option, Some, None, inl, inr}
use Rattle.std.proofs.lemmas.Bool.{and_parts}
use Rattle.std.proofs.lemmas.Bool.Decides.{nat_tests}
use Rattle.array_machine.specs.Setting.{Setting}
use Rattle.array_machine.specs.States.{State}
use Rattle.array_machine.specs.Volumes.{Slot, Pass, Volume, volume_at}
use Rattle.array_machine.specs.Rounds.{Ending, GoesOn, Finishes, MakesSpare, Lapses}
use Rattle.array_machine.specs.Control.{Control}
use Rattle.array_machine.specs.Changes.{Change, RoundEnds, PassMoves, PassWord, OpensAt, Reaches, Closes}
use Rattle.array_machine.specs.Puts.{put, set_state}
use Rattle.array_machine.specs.RoundEnds.{has_other, PassRun, all_runs, pass_ended, slots_ended, volume_ended, volumes_ended, ended_by}
use Rattle.array_paths.proofs.RoundPaths.{other_volume}
use Rattle.array_told.proofs.Tells.{set_at}
use Rattle.array_form.specs.Behind.{is_loud, awaits, goes_on, EndsOwn, AllBehind}

-- THE END OF A ROUND

-- each volume from number v on may still be told of
abbrev pub AwaitFrom : ℕ → Option Change → Type 0
AwaitFrom v prev = (k : ℕ) → v ≤ k → awaits k prev ≡ true

pub slots_stay : (volumes : List Volume) (w : ℕ) (state : State) (v : ℕ)
    → (volume_at (set_state volumes w state) v).slots ≡ (volume_at volumes v).slots
slots_stay volumes w state v = elim (set_at volumes w (record (volume_at volumes w) { state = state }) v) [
  | inl here ↦ ap (λ (x : Volume). x.slots) here.1 ∙ ap (λ u. (volume_at volumes u).slots) here.0
  | inr same ↦ ap (λ (x : Volume). x.slots) same
]

less_is : (a b : ℕ) → nat_lt a b ≡ true → a < b
less_is a b is = grind (arith, nat_tests, is)

is_less : (a b : ℕ) → a < b → nat_lt a b ≡ true
is_less a b lt = grind (arith, nat_tests, lt)

module _ (S : Setting) (b : Control) (went_on : goes_on b.round.phase ≡ true) where
  -- what the end of a round makes of the passes of the volumes from number v on
  abbrev Runs : Control → Option Change → List PassRun → Type 0
  Runs c prev runs = AllBehind S b c prev (all_runs runs)

  module _ (c : Control) (prev : Option Change) (v : ℕ) (others : List PassRun) (after : awaits v prev ≡ true)
      (still : Runs c prev others)
      (moved : (slots : List Slot) (new : Option Pass) (word : PassWord)
      → awaits (v + 1) (Some (PassMoves v slots new word)) ≡ true
      → Runs (put S (PassMoves v slots new word) c) (Some (PassMoves v slots new word)) others) where
    abbrev y : Volume
    y = volume_at c.volumes v

    next_is : nat_lt v (v + 1) ≡ true
    next_is = is_less v (v + 1) (omega arith)

    ended_own : has_other S (S.start.words.slots c.round.last v) y.slots ≡ false → (kind : ℕ)
        → S.start.words.pass b.round.last v ≡ Some kind → EndsOwn S b c prev v
    ended_own own kind was = record { behind = after; went_on = went_on; own = own; kind = kind; was_open = was }

    pass_part : has_other S (S.start.words.slots c.round.last v) y.slots ≡ false → (was is : Option ℕ) (old new : ℕ)
        → S.start.words.pass b.round.last v ≡ was → S.start.words.pass c.round.last v ≡ is
        → S.start.words.unit b.round.last v ≡ old → S.start.words.unit c.round.last v ≡ new
        → Runs c prev (pass_ended c.round.faults v y was is old new ++ others)
    pass_part own None is old new w i o n = still
    pass_part own (Some kind) None old new w i o n = (
      record { ends = ended_own own kind w; closed = i; slots_are = refl; new_is = refl },
      moved _ None Closes next_is,
    )
    pass_part own (Some kind) (Some here) old new w i o n = at (nat_lt old new) refl
      where
        at : (less : Bool) → nat_lt old new ≡ less
            → Runs c prev (cond less (record { volume = v; slots = y.slots; pass = y.pass; word = Reaches new } ∷ [])
            [] ++ others)
        at false is = still
        at true is =
            let above = less_is old new is in (
              record {
                ends = ended_own own kind w;
                kind = here;
                open_still = i;
                unit_is = sym n;
                above = subst (λ u. u < new) (sym o) above;
                slots_are = refl;
                new_is = refl;
              },
              moved y.slots y.pass (Reaches new) next_is,
            )

    slots_part : (other : Bool) → has_other S (S.start.words.slots c.round.last v) y.slots ≡ other
        → Runs c prev (slots_ended S c.round.faults b.round.last c.round.last v y other ++ others)
    slots_part true other = (
      inr (record { behind = after; went_on = went_on; other = other; slots_are = refl; new_is = refl; row_is = refl }),
      moved _ _ (OpensAt 0) next_is,
    )
    slots_part false own = pass_part own _ _ _ _ refl refl refl refl

    volume_part : Runs c prev (volume_ended S c.round.faults b.round.last c.round.last v y ++ others)
    volume_part = at y.started
      where
        at : (started : Bool) → Runs c prev (cond started (slots_ended S c.round.faults b.round.last c.round.last v y
            (has_other S (S.start.words.slots c.round.last v) y.slots)) [] ++ others)
        at true = slots_part _ refl
        at false = still

  loud_on : (v : ℕ) (slots : List Slot) (new : Option Pass) (word : PassWord)
      → awaits (v + 1) (Some (PassMoves v slots new word)) ≡ true
      → AwaitFrom (v + 1) (Some (PassMoves v slots new word))
  loud_on v slots new word is k le =
      let both = and_parts (is_loud word) (nat_lt v (v + 1)) is in
      let loud = both.0 in
      let less = is_less v k (omega (arith, le)) in
      rw (loud, less) refl

  -- the volumes are those of the control state, from number v on
  volumes_part : (c : Control) (prev : Option Change) (v : ℕ) (volumes : List Volume) → AwaitFrom v prev
      → ((k : ℕ) → volume_at c.volumes (v + k) ≡ volume_at volumes k)
      → Runs c prev (volumes_ended S c.round.faults b.round.last c.round.last v volumes)
  volumes_part c prev v [] after at = tt
  volumes_part c prev v (x ∷ xs) after at =
      let others = volumes_ended S c.round.faults b.round.last c.round.last (v + 1) xs in
      let first : v + 0 ≡ v = omega arith in
      let here : volume_at c.volumes v ≡ x = ap (volume_at c.volumes) (sym first) ∙ at 0 in
      let next = λ (k : ℕ).
      let there : v + 1 + k ≡ v + suc k = omega arith in
      ap (volume_at c.volumes) there ∙ at (suc k) in
      let still = volumes_part c prev (v + 1) xs (λ k le. after k (omega (arith, le))) next in
      let moved = λ (slots : List Slot) (new : Option Pass) (word : PassWord)
      (loud : awaits (v + 1) (Some (PassMoves v slots new word)) ≡ true).
      volumes_part (put S (PassMoves v slots new word) c) (Some (PassMoves v slots new word)) (v + 1) xs
      (loud_on v slots new word loud)
      (λ k. other_volume c.volumes v (v + 1 + k) (record (volume_at c.volumes v) { slots = slots; pass = new })
      (omega arith) ∙ next k) in
      subst (λ z. Runs c prev (volume_ended S c.round.faults b.round.last c.round.last v z ++ others)) here
      (volume_part c prev v others (after v (omega arith)) still moved)

  pub ended_part : (c : Control) (prev : Option Change) → c.round.last ≡ b.round.last → (e : Ending)
      → AllBehind S b c prev (ended_by S c e)
  ended_part c prev last GoesOn = tt
  ended_part c prev last (Finishes m) =
      let now = put S (RoundEnds m) c in (
        record { went_on = went_on; last = last; then_passes = refl },
        subst (λ old. Runs now (Some (RoundEnds m)) (volumes_ended S c.round.faults old m 0 c.volumes)) (sym last)
            (volumes_part now (Some (RoundEnds m)) 0 c.volumes (λ k le. refl)
            (λ k. let same : 0 + k ≡ k = omega arith in ap (volume_at c.volumes) same)),
      )
  ended_part c prev last (MakesSpare d) = (tt, tt)
  ended_part c prev last Lapses = (tt, tt)
