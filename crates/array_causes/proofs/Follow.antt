-- A law follows a run effect by effect, with what each change leans on.
use Rattle.std.proofs.Common.{ℕ, ◌+◌, List, [], ◌∷◌, Option, Some, None, refl}
use Rattle.device_log.specs.Log.{Call}
use Rattle.array_model.specs.Renewal.{FitsGeneration}
use Rattle.array_machine.specs.Setting.{Setting}
use Rattle.array_machine.specs.Volumes.{Volume}
use Rattle.array_machine.specs.Rounds.{Ended}
use Rattle.array_machine.specs.Changes.{Change}
use Rattle.array_machine.specs.Machine.{Actor, Monitor, World, after, Reached, opens, goes}
use Rattle.array_paths.specs.InTurn.{InTurn}
use Rattle.array_paths.specs.Effects.{Effect, Path, ends_here, goes_on, after_effect}
use Rattle.array_paths.specs.Follows.{in_turn}
use Rattle.array_paths.proofs.TurnPath.{turn_path}
use Rattle.array_base.specs.Premises.{Premises}
use Rattle.array_base.specs.Opening.{Opening}
use Rattle.array_base.proofs.Effects.{effect_base}
use Rattle.array_base.proofs.Slots.{effect_ready}
use Rattle.array_base.proofs.Runs.{HasBase, each_world_has}
use Rattle.array_causes.specs.Links.{Link, First, link_after, Leans, Chain, IsFirst, IsSettled}
use Rattle.array_causes.specs.Follow.{AllActors, OverLink, FollowsLinks}
use Rattle.array_causes.proofs.TurnChain.{turn_chain}

module _ (S : Setting) (P : Premises S) (Q : InTurn → Link → World → Type 0) (t : InTurn)
    (fits : FitsGeneration (t.before.round.note + 1)) where
  -- what an effect keeps, made first in its turn or later
  abbrev Keeps : Type 0
  Keeps = (link : Link) (w : World) (call : Option Call) (x : Ended) (a : Change) → OverLink S P t link w call x a
      → Q t link w → Q t (link_after link a) (after_effect S w call a)

  based : (w : World) (call : Option Call) (x : Ended) (a : Change) → Effect S t w.control call x a → HasBase S P w
      → HasBase S P (after_effect S w call a)
  based w call x a effect had = record {
    base = effect_base S P t w.log w.control effect had.base;
    ready = effect_ready S P t w.control call x a effect had.base.core.hand.last had.ready;
  }

  over : (link : Link) (w : World) (call : Option Call) (x : Ended) (a : Change) → IsFirst link call
      → Effect S t w.control call x a → Leans S t.before link a → HasBase S P w → OverLink S P t link w call x a
  over link w call x a first effect leans had = record {
    first = first;
    leans = leans;
    fits = fits;
    effect = effect;
    base = had.base;
    ready = had.ready;
  }

  chain_keeps : Keeps → (w : World) (link : Link) (call : Option Call) (x : Ended) (changes : List Change)
      → IsFirst link call → Path S t w.control call x changes → Chain S t.before link changes → HasBase S P w
      → Q t link w → (last : Link) × IsSettled last
      × Q t last (after S w (record { call = call; ended = x; changes = changes }))
  chain_keeps step w link None x [] first (ends_here _) leans had q = (link, leans, q)
  chain_keeps step w link (Some call) x [] first path leans had q = elim path [ ]
  chain_keeps step w link None x (a ∷ more) first (goes_on effect path) leans had q =
      chain_keeps step (after_effect S w None a) (link_after link a) None x more tt path leans.1
      (based w None x a effect had) (step link w None x a (over link w None x a first effect leans.0 had) q)
  chain_keeps step w link (Some call) x (a ∷ more) first (goes_on effect path) leans had q =
      chain_keeps step (after_effect S w (Some call) a) (link_after link a) None x more tt path leans.1
      (based w (Some call) x a effect had)
      (step link w (Some call) x a (over link w (Some call) x a first effect leans.0 had) q)

-- in each world of a run it holds, in whosever turn, behind whatever change came last
pub along_links : (S : Setting) (P : Premises S) (volumes : List Volume) (spares : List ℕ)
    → Opening S P volumes spares → (A : Actor → Type 0) (Q : InTurn → Link → World → Type 0)
    → FollowsLinks S P volumes spares A Q → (w : World) → (run : Reached S volumes spares w)
    → AllActors S volumes spares A w run → (t : InTurn) × (link : Link) × IsSettled link × Q t link w
along_links S P volumes spares o A Q law w opens actors = (in_turn w.control Monitor, First, tt, law.opens)
along_links S P volumes spares o A Q law w (goes {w = v} run a fits) actors =
    let had = along_links S P volumes spares o A Q law v run actors.1 in
    let t : InTurn = in_turn v.control a.actor in
    let now = law.begins had.0 had.1 v a.actor actors.0 had.2 had.3 in
    let base = each_world_has S P volumes spares o v run in
    let kept = chain_keeps S P Q t fits (λ link u call x b effect q. law.step t link u call x b effect q) v First _ _ _
    (first_call _) (turn_path S P.rows v.control base.ready a fits) (turn_chain S v.control base.ready.jobs a) base
    now in
    (t, kept.0, kept.1, kept.2)
  where
    first_call : (call : Option Call) → IsFirst First call
    first_call None = tt
    first_call (Some call) = refl
