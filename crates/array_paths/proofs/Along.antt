-- A law follows a run effect by effect: what holds at opening and is kept by each effect holds in each world of a run.
use Rattle.std.proofs.Common.{◌≡◌, ℕ, List, [], ◌∷◌, Option, Some, None, refl}
use Rattle.device_log.specs.Log.{Call}
use Rattle.array_machine.specs.Setting.{Setting}
use Rattle.array_machine.specs.Volumes.{Volume}
use Rattle.array_machine.specs.Rounds.{Ended}
use Rattle.array_machine.specs.Changes.{Change}
use Rattle.array_machine.specs.Machine.{Monitor, Action, turn, World, after, happens, Reached, opens, goes}
use Rattle.array_paths.specs.InTurn.{InTurn}
use Rattle.array_paths.specs.Effects.{Effect, Path, ends_here, goes_on, after_effect}
use Rattle.array_paths.specs.Follows.{in_turn, TurnPath, TurnsArePaths, followed, Follows, FollowsHonest}
use Rattle.array_paths.specs.Honest.{HonestRun, opens as honest_opens, goes as honest_goes}

-- TURNS AS EFFECTS

-- what a path leaves is what its effects leave, one after the other
pub path_followed : (S : Setting) (t : InTurn) (w : World) (call : Option Call) (x : Ended) (changes : List Change)
    → Path S t w.control call x changes
    → after S w (record { call = call; ended = x; changes = changes }) ≡ followed S w call changes
path_followed S t w None x [] (ends_here _) = refl
path_followed S t w (Some call) x [] path = elim path [ ]
path_followed S t w call x (a ∷ more) (goes_on effect path) =
    path_followed S t (after_effect S w call a) None x more path

-- so a turn leaves what its effects do
pub happens_followed : (S : Setting) → (w : World) (a : Action)
    → TurnPath S w.control a
    → happens S w a ≡ followed S w (turn S w.control a).call (turn S w.control a).changes
happens_followed S w a path = path_followed S (in_turn w.control a.actor) w _ _ _ path

-- A FACT

-- kept by each effect without a call, it is kept by a path of them
quiet_keeps : (S : Setting) (P : InTurn → World → Type 0) (t : InTurn)
    → ((w : World) (x : Ended) (a : Change) → Effect S t w.control None x a → P t w → P t (after_effect S w None a))
    → (w : World) (x : Ended) (changes : List Change) → Path S t w.control None x changes → P t w
    → P t (after S w (record { call = None; ended = x; changes = changes }))
quiet_keeps S P t step w x [] (ends_here _) p = p
quiet_keeps S P t step w x (a ∷ more) (goes_on effect path) p =
    quiet_keeps S P t step (after_effect S w None a) x more path (step w x a effect p)

-- and by any path, whose call is honest or not
path_keeps : (S : Setting) (P : InTurn → World → Type 0) (t : InTurn) (w : World) (call : Option Call) (x : Ended)
    → ((v : World) (y : Ended) (a : Change) → Effect S t v.control None y a → P t v → P t (after_effect S v None a))
    → ((a : Change) → Effect S t w.control call x a → P t w → P t (after_effect S w call a))
    → (changes : List Change) → Path S t w.control call x changes → P t w
    → P t (after S w (record { call = call; ended = x; changes = changes }))
path_keeps S P t w None x later first [] (ends_here _) p = p
path_keeps S P t w (Some call) x later first [] path p = elim path [ ]
path_keeps S P t w call x later first (a ∷ more) (goes_on effect path) p =
    quiet_keeps S P t later (after_effect S w call a) x more path (first a effect p)

-- in each world of a run it holds, in whosever turn
pub along : (S : Setting) (volumes : List Volume) (spares : List ℕ) (P : InTurn → World → Type 0) → TurnsArePaths S
    → Follows S volumes spares P → (w : World) → Reached S volumes spares w → (t : InTurn) × P t w
along S volumes spares P paths law w opens = (in_turn w.control Monitor, law.opens Monitor)
along S volumes spares P paths law w (goes {w = v} run a fits) =
    let had = along S volumes spares P paths law v run in
    let t : InTurn = in_turn v.control a.actor in
    let now = law.begins had.0 v a.actor had.1 in (
      t,
      path_keeps S P t v _ _ (λ u y b effect p. law.step t u None y b fits effect p)
          (λ b effect p. law.step t v _ _ b fits effect p) _
          (paths v.control (law.ready had.0 v had.1) a fits) now,
    )

-- HONEST RUNS

-- an honest run is a run
pub honest_reached : (S : Setting) (volumes : List Volume) (spares : List ℕ) (w : World) → HonestRun S volumes spares w
    → Reached S volumes spares w
honest_reached S volumes spares w honest_opens = opens
honest_reached S volumes spares w (honest_goes {w = v} run a fits true_reads) =
    goes (honest_reached S volumes spares v run) a fits

-- in each world of an honest run it holds, in whosever turn
pub along_honest : (S : Setting) (volumes : List Volume) (spares : List ℕ) (P : InTurn → World → Type 0)
    → TurnsArePaths S → FollowsHonest S volumes spares P → (w : World) → HonestRun S volumes spares w
    → (t : InTurn) × P t w
along_honest S volumes spares P paths law w honest_opens = (in_turn w.control Monitor, law.opens Monitor)
along_honest S volumes spares P paths law w (honest_goes {w = v} run a fits true_reads) =
    let had = along_honest S volumes spares P paths law v run in
    let t : InTurn = in_turn v.control a.actor in
    let now = law.begins had.0 v a.actor had.1 in (
      t,
      path_keeps S P t v _ _ (λ u y b effect p. law.step t u None y b fits effect tt p)
          (λ b effect p. law.step t v _ _ b fits effect true_reads p) _
          (paths v.control (law.ready had.0 v had.1) a fits) now,
    )
