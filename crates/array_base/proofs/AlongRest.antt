-- A law follows a run over the base fact, with the changes that a turn has still to make.
use Rattle.std.proofs.Common.{ℕ, ◌+◌, List, [], ◌∷◌, Option, Some, None}
use Rattle.device_log.specs.Log.{Call}
use Rattle.array_model.specs.Renewal.{FitsGeneration}
use Rattle.array_machine.specs.Setting.{Setting}
use Rattle.array_machine.specs.Volumes.{Volume}
use Rattle.array_machine.specs.Rounds.{Ended}
use Rattle.array_machine.specs.Changes.{Change}
use Rattle.array_machine.specs.Machine.{Monitor, turn, World, after, Reached, opens, goes}
use Rattle.array_paths.specs.InTurn.{InTurn}
use Rattle.array_paths.specs.Effects.{Path, ends_here, goes_on, after_effect}
use Rattle.array_paths.specs.Follows.{in_turn}
use Rattle.array_paths.proofs.TurnPath.{turns_are_paths}
use Rattle.array_base.specs.Premises.{Premises}
use Rattle.array_base.specs.Opening.{Opening}
use Rattle.array_base.specs.Laws.{FollowsRest}
use Rattle.array_base.proofs.Runs.{HasBase, over_base, base_on, opens_with}

module _ (S : Setting) (P : Premises S) (volumes : List Volume) (spares : List ℕ)
    (Q : InTurn → World → List Change → Type 0) (law : FollowsRest S P volumes spares Q) where
  -- the fact beside the base fact
  record Held (t : InTurn) (w : World) (more : List Change) : Type 0 where
    base : HasBase S P w
    fact : Q t w more

  module _ (t : InTurn) (fits : FitsGeneration (t.before.round.note + 1)) where
    -- changes without a call
    quiet_held : (w : World) (x : Ended) (changes : List Change) → Path S t w.control None x changes
        → Held t w changes → Held t (after S w (record { call = None; ended = x; changes = changes })) []
    quiet_held w x [] (ends_here _) h = h
    quiet_held w x (a ∷ more) (goes_on effect path) h =
        quiet_held (after_effect S w None a) x more path (record {
          base = base_on S P t w None x a effect h.base;
          fact = law.step t w None x a more (over_base S P t w None x a fits effect h.base) h.fact;
        })

    -- the call comes with the first
    path_held : (w : World) (call : Option Call) (x : Ended) (changes : List Change)
        → Path S t w.control call x changes → Held t w changes
        → Held t (after S w (record { call = call; ended = x; changes = changes })) []
    path_held w None x [] (ends_here _) h = h
    path_held w (Some call) x [] path h = elim path [ ]
    path_held w call x (a ∷ more) (goes_on effect path) h =
        quiet_held (after_effect S w call a) x more path (record {
          base = base_on S P t w call x a effect h.base;
          fact = law.step t w call x a more (over_base S P t w call x a fits effect h.base) h.fact;
        })

  module _ (o : Opening S P volumes spares) where
    held : (w : World) → Reached S volumes spares w → (t : InTurn) × Held t w []
    held w opens =
        (in_turn w.control Monitor, record { base = opens_with S P volumes spares o; fact = law.opens Monitor })
    held w (goes {w = v} run a fits) =
        let had = held v run in
        let t : InTurn = in_turn v.control a.actor in
        let begun : Held t v (turn S v.control a).changes = record { base = had.1.base; fact = law.begins had.0 v a had.1.fact } in
        let path = turns_are_paths S P.rows v.control had.1.base.ready a fits in
        (t, path_held t fits v _ _ _ path begun)

    -- in each world of a run it holds, in whosever turn
    pub along_rest : (w : World) → Reached S volumes spares w → (t : InTurn) × Q t w []
    along_rest w run = let had = held w run in (had.0, had.1.fact)
