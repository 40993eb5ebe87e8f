-- A law follows a run effect by effect, with what each change stands behind in its turn.
use Rattle.std.proofs.Common.{ℕ, ◌+◌, List, [], ◌∷◌, Option, Some, None}
use Rattle.device_log.specs.Log.{Call}
use Rattle.array_model.specs.Renewal.{FitsGeneration}
use Rattle.array_machine.specs.Setting.{Setting}
use Rattle.array_machine.specs.Volumes.{Volume}
use Rattle.array_machine.specs.Rounds.{Ended}
use Rattle.array_machine.specs.Changes.{Change}
use Rattle.array_machine.specs.Machine.{Monitor, turn, World, after, Reached, opens, goes}
use Rattle.array_paths.specs.InTurn.{InTurn}
use Rattle.array_paths.specs.Effects.{Effect, Path, ends_here, goes_on, after_effect}
use Rattle.array_paths.specs.Follows.{in_turn}
use Rattle.array_paths.proofs.TurnPath.{turns_are_paths}
use Rattle.array_base.specs.Premises.{Premises}
use Rattle.array_base.specs.Opening.{Opening}
use Rattle.array_base.proofs.Runs.{HasBase, over_base, base_on, opens_with}
use Rattle.array_form.specs.Behind.{Behind, AllBehind}
use Rattle.array_form.specs.Follow.{FollowsTurns}
use Rattle.array_form.proofs.TurnsBehind.{turn_behind}

module _ (S : Setting) (P : Premises S) where
  module _ (volumes : List Volume) (spares : List ℕ) (o : Opening S P volumes spares)
      (Q : InTurn → Option Change → List Change → World → Type 0) (law : FollowsTurns S P volumes spares Q) where
    -- the fact, behind the turn's last change
    abbrev AtEnd : InTurn → World → Type 0
    AtEnd t w = (last : Option Change) × HasBase S P w × Q t last [] w

    on_one : (t : InTurn) (prev : Option Change) (more : List Change) (w : World) (call : Option Call) (x : Ended)
        (a : Change) → FitsGeneration (t.before.round.note + 1) → Effect S t w.control call x a
        → Behind S t.before w.control prev more a → HasBase S P w × Q t prev (a ∷ more) w
        → HasBase S P (after_effect S w call a) × Q t (Some a) more (after_effect S w call a)
    on_one t prev more w call x a fits effect behind had = (
      base_on S P t w call x a effect had.0,
      law.step t prev more w call x a (over_base S P t w call x a fits effect had.0) behind had.1,
    )

    quietly_on : (t : InTurn) → FitsGeneration (t.before.round.note + 1) → (prev : Option Change) (w : World)
        (x : Ended) (changes : List Change) → Path S t w.control None x changes → AllBehind S t.before w.control prev changes
        → HasBase S P w × Q t prev changes w
        → AtEnd t (after S w (record { call = None; ended = x; changes = changes }))
    quietly_on t fits prev w x [] (ends_here _) behind had = (prev, had.0, had.1)
    quietly_on t fits prev w x (a ∷ more) (goes_on effect path) behind had =
        quietly_on t fits (Some a) (after_effect S w None a) x more path behind.1
        (on_one t prev more w None x a fits effect behind.0 had)

    path_on : (t : InTurn) → FitsGeneration (t.before.round.note + 1) → (prev : Option Change) (w : World)
        (call : Option Call) (x : Ended) (changes : List Change) → Path S t w.control call x changes
        → AllBehind S t.before w.control prev changes → HasBase S P w × Q t prev changes w
        → AtEnd t (after S w (record { call = call; ended = x; changes = changes }))
    path_on t fits prev w None x [] (ends_here _) behind had = (prev, had.0, had.1)
    path_on t fits prev w (Some call) x [] path behind had = elim path [ ]
    path_on t fits prev w call x (a ∷ more) (goes_on effect path) behind had =
        quietly_on t fits (Some a) (after_effect S w call a) x more path behind.1
        (on_one t prev more w call x a fits effect behind.0 had)

    pub along_turns : (w : World) → Reached S volumes spares w → (t : InTurn) × AtEnd t w
    along_turns w opens = (
      in_turn w.control Monitor,
      (
        None,
        opens_with S P volumes spares o,
        law.opens,
      ),
    )
    along_turns w (goes {w = v} run a fits) =
        let had = along_turns v run in
        let t : InTurn = in_turn v.control a.actor in
        let changes : List Change = (turn S v.control a).changes in
        let base : HasBase S P v = had.1.1 in (
          t,
          path_on t fits None v _ _ changes (turns_are_paths S P.rows v.control base.ready a fits)
              (turn_behind S v.control a) (base, law.begins had.0 had.1.0 v a.actor changes had.1.2),
        )
