-- A law follows a run with what each change stands behind in its turn, and knows that only the first change of a turn
-- makes a call.
use Rattle.std.proofs.Common.{ℕ, ◌+◌, List, [], ◌∷◌, Option, Some, None}
use Rattle.std.specs.Prelude.{⊤}
use Rattle.device_log.specs.Log.{Call}
use Rattle.array_model.specs.Renewal.{FitsGeneration}
use Rattle.array_machine.specs.Setting.{Setting}
use Rattle.array_machine.specs.Volumes.{Volume}
use Rattle.array_machine.specs.Rounds.{Ended}
use Rattle.array_machine.specs.Changes.{Change}
use Rattle.array_machine.specs.Machine.{Actor, Monitor, turn, World, after, begins_at, Reached, opens, goes}
use Rattle.array_paths.specs.InTurn.{InTurn}
use Rattle.array_paths.specs.Effects.{Effect, Path, ends_here, goes_on, after_effect}
use Rattle.array_paths.specs.Follows.{in_turn}
use Rattle.array_paths.proofs.TurnPath.{turns_are_paths}
use Rattle.array_base.specs.Premises.{Premises}
use Rattle.array_base.specs.Opening.{Opening}
use Rattle.array_base.specs.Laws.{OverBase}
use Rattle.array_base.proofs.Runs.{HasBase, over_base, base_on, opens_with}
use Rattle.array_form.specs.Behind.{Behind, AllBehind}
use Rattle.array_form.proofs.TurnsBehind.{turn_behind}

-- a call comes with the first change of a turn
abbrev pub IsFirst : Option Change → Option Call → Type 0
IsFirst (Some a) (Some call) = ⊥
IsFirst _ _ = ⊤

pub record FollowsCalls (S : Setting) (P : Premises S) (volumes : List Volume) (spares : List ℕ)
    (Q : InTurn → Option Change → List Change → World → Type 0) : Type 0 where
  pub opens : Q (in_turn (begins_at S volumes spares).control Monitor) None [] (begins_at S volumes spares)
  pub begins : (t : InTurn) (prev : Option Change) (w : World) (who : Actor) (more : List Change) → Q t prev [] w
      → Q (in_turn w.control who) None more w
  pub step : (t : InTurn) (prev : Option Change) (more : List Change) (w : World) (call : Option Call) (x : Ended)
      (a : Change) → IsFirst prev call → OverBase S P t w call x a → Behind S t.before w.control prev more a
      → Q t prev (a ∷ more) w → Q t (Some a) more (after_effect S w call a)

module _ (S : Setting) (P : Premises S) (volumes : List Volume) (spares : List ℕ)
    (Q : InTurn → Option Change → List Change → World → Type 0) (law : FollowsCalls S P volumes spares Q) where
  -- the fact beside the base fact
  record Held (t : InTurn) (prev : Option Change) (more : List Change) (w : World) : Type 0 where
    base : HasBase S P w
    fact : Q t prev more w

  record HeldLast (t : InTurn) (w : World) : Type 0 where
    prev : Option Change
    held : Held t prev [] w

  module _ (t : InTurn) (fits : FitsGeneration (t.before.round.note + 1)) where
    one_on : (prev : Option Change) (more : List Change) (w : World) (call : Option Call) (x : Ended) (a : Change)
        → IsFirst prev call → Effect S t w.control call x a → Behind S t.before w.control prev more a
        → Held t prev (a ∷ more) w → Held t (Some a) more (after_effect S w call a)
    one_on prev more w call x a first effect behind h = record {
      base = base_on S P t w call x a effect h.base;
      fact = law.step t prev more w call x a first (over_base S P t w call x a fits effect h.base) behind h.fact;
    }

    no_call_first : (prev : Option Change) → IsFirst prev None
    no_call_first None = tt
    no_call_first (Some a) = tt

    quiet_on : (prev : Option Change) (w : World) (x : Ended) (changes : List Change)
        → Path S t w.control None x changes
        → AllBehind S t.before w.control prev changes → Held t prev changes w
        → HeldLast t (after S w (record { call = None; ended = x; changes = changes }))
    quiet_on prev w x [] (ends_here _) behind h = record { prev = prev; held = h }
    quiet_on prev w x (a ∷ more) (goes_on effect path) behind h =
        quiet_on (Some a) (after_effect S w None a) x more path behind.1
        (one_on prev more w None x a (no_call_first prev) effect behind.0 h)

    path_on : (w : World) (call : Option Call) (x : Ended) (changes : List Change) → Path S t w.control call x changes
        → AllBehind S t.before w.control None changes → Held t None changes w
        → HeldLast t (after S w (record { call = call; ended = x; changes = changes }))
    path_on w None x [] (ends_here _) behind h = record { prev = None; held = h }
    path_on w (Some call) x [] path behind h = elim path [ ]
    path_on w call x (a ∷ more) (goes_on effect path) behind h =
        quiet_on (Some a) (after_effect S w call a) x more path behind.1
        (one_on None more w call x a tt effect behind.0 h)

  module _ (o : Opening S P volumes spares) where
    held : (w : World) → Reached S volumes spares w → (t : InTurn) × HeldLast t w
    held w opens = (
      in_turn w.control Monitor,
      record { prev = None; held = record { base = opens_with S P volumes spares o; fact = law.opens } },
    )
    held w (goes {w = v} run a fits) =
        let had = held v run in
        let last = had.1 in
        let t : InTurn = in_turn v.control a.actor in
        let changes : List Change = (turn S v.control a).changes in
        let begun : Held t None changes v = record {
          base = last.held.base;
          fact = law.begins had.0 last.prev v a.actor changes last.held.fact;
        } in
        let path = turns_are_paths S P.rows v.control last.held.base.ready a fits in
        (t, path_on t fits v _ _ changes path (turn_behind S v.control a) begun)

    -- behind the last change of some turn it holds in each world of a run
    pub along_calls : (w : World) → Reached S volumes spares w
        → (t : InTurn) × (prev : Option Change) × Q t prev [] w
    along_calls w run = let had = held w run in (had.0, had.1.prev, had.1.held.fact)
