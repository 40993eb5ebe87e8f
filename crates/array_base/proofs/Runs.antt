-- Each world of each run has the base fact, and a law follows a run over it.
use Rattle.std.proofs.Common.{◌≡◌, ℕ, ◌+◌, ◌&&◌, not, Bool, true, false, List, refl, subst, Option}
use Rattle.device_log.specs.Log.{Call}
use Rattle.array_model.specs.Renewal.{FitsGeneration}
use Rattle.array_disks.proofs.Members.{durable}
use Rattle.array_machine.specs.Setting.{Setting}
use Rattle.array_machine.specs.Volumes.{Volume}
use Rattle.array_machine.specs.Rounds.{Ended, works}
use Rattle.array_machine.specs.Changes.{Change}
use Rattle.array_machine.specs.Machine.{World, begins_at, Reached}
use Rattle.array_paths.specs.InTurn.{InTurn}
use Rattle.array_paths.specs.Effects.{Effect, after_effect}
use Rattle.array_paths.specs.Follows.{Follows, FollowsHonest}
use Rattle.array_paths.specs.Honest.{HonestRun}
use Rattle.array_paths.specs.Ready.{Ready}
use Rattle.array_paths.proofs.Along.{along, along_honest}
use Rattle.array_paths.proofs.TurnPath.{turns_are_paths}
use Rattle.array_base.specs.Premises.{Premises}
use Rattle.array_base.specs.Opening.{counts_out, Opening}
use Rattle.array_base.specs.Base.{ledger, disks_by, IsTrusted, Goes, Base}
use Rattle.array_base.specs.Laws.{OverBase, FollowsBase, FollowsBaseHonest}
use Rattle.array_base.specs.Metadata.{IsTrustworthy, WorkingDisksHoldMetadata, FinishedTargetsHoldTheBlock}
use Rattle.array_base.proofs.Opens.{base_at_opening, ready_at_opening}
use Rattle.array_base.proofs.AfterCalls.{base_after_call, call_does}
use Rattle.array_base.proofs.Effects.{effect_base}
use Rattle.array_base.proofs.Slots.{effect_ready}

module _ (S : Setting) (P : Premises S) where
  -- the base fact of a world whose control state is ready
  pub record HasBase (w : World) : Type 0 where
    pub base : Base S P w.log w.control
    pub ready : Ready S w.control

  pub over_base : (t : InTurn) (w : World) (call : Option Call) (x : Ended) (a : Change)
      → FitsGeneration (t.before.round.note + 1) → Effect S t w.control call x a → HasBase w
      → OverBase S P t w call x a
  over_base t w call x a fits effect had = record {
    fits = fits;
    effect = effect;
    before = had.base;
    ready = had.ready;
    does = call_does S P t w.log w.control had.base effect;
    between = base_after_call S P t w.log w.control had.base effect;
    behind = effect_base S P t w.log w.control effect had.base;
  }

  pub base_on : (t : InTurn) (w : World) (call : Option Call) (x : Ended) (a : Change) → Effect S t w.control call x a
      → HasBase w → HasBase (after_effect S w call a)
  base_on t w call x a effect had = record {
    base = effect_base S P t w.log w.control effect had.base;
    ready = effect_ready S P t w.control call x a effect had.base.core.hand.last had.ready;
  }

  module _ (volumes : List Volume) (spares : List ℕ) (o : Opening S P volumes spares) where
    pub opens_with : HasBase (begins_at S volumes spares)
    opens_with = record {
      base = base_at_opening S P volumes spares o;
      ready = ready_at_opening S P volumes spares o;
    }

    -- LAWS

    pub along_base : (Q : InTurn → World → Type 0) → FollowsBase S P volumes spares Q → (w : World)
        → Reached S volumes spares w → (t : InTurn) × Q t w
    along_base Q law w run =
        let found = along S volumes spares (λ t w. HasBase w × Q t w) (turns_are_paths S P.rows) follows w run in
        (found.0, found.1.1)
      where
        follows : Follows S volumes spares (λ t w. HasBase w × Q t w)
        follows = record {
          opens = λ who. (opens_with, law.opens who);
          begins = λ t w who had. (had.0, law.begins t w who had.1);
          ready = λ t w had. had.0.ready;
          step = λ t w call x a fits effect had. (
            base_on t w call x a effect had.0,
            law.step t w call x a (over_base t w call x a fits effect had.0) had.1,
          );
        }

    pub along_base_honest : (Q : InTurn → World → Type 0) → FollowsBaseHonest S P volumes spares Q → (w : World)
        → HonestRun S volumes spares w → (t : InTurn) × Q t w
    along_base_honest Q law w run =
        let found = along_honest S volumes spares (λ t w. HasBase w × Q t w) (turns_are_paths S P.rows) follows w run in
        (found.0, found.1.1)
      where
        follows : FollowsHonest S volumes spares (λ t w. HasBase w × Q t w)
        follows = record {
          opens = λ who. (opens_with, law.opens who);
          begins = λ t w who had. (had.0, law.begins t w who had.1);
          ready = λ t w had. had.0.ready;
          step = λ t w call x a fits effect gave had. (
            base_on t w call x a effect had.0,
            law.step t w call x a (over_base t w call x a fits effect had.0) gave had.1,
          );
        }

    -- EACH WORLD

    pub each_world_has : (w : World) → Reached S volumes spares w → HasBase w
    each_world_has w run =
        let found = along S volumes spares (λ t w. HasBase w) (turns_are_paths S P.rows) follows w run in found.1
      where
        follows : Follows S volumes spares (λ t w. HasBase w)
        follows = record {
          opens = λ who. opens_with;
          begins = λ t w who had. had;
          ready = λ t w had. had.ready;
          step = λ t w call x a fits effect had. base_on t w call x a effect had;
        }

  -- WHAT A READER ASKS

  trusted : (w : World) (d : ℕ) → works S w.control.round d ≡ true → (w.control.round.first && counts_out S d) ≡ false
      → IsTrusted S (ledger w.control.round) d
  trusted w d is out = at (works S w.control.round d) (w.control.round.first && counts_out S d) is out
    where
      at : (a b : Bool) → a ≡ true → b ≡ false → (a && not b) ≡ true
      at true true is none = absurd cc
      at true false is none = refl
      at false b is none = absurd cc

  pub working_hold : (w : World) → Base S P w.log w.control → WorkingDisksHoldMetadata S w
  working_hold w base d is out =
      let holds = base.core.working d (trusted w d is out) in
      durable (IsTrustworthy S w.control.round.last d) (disks_by S w.log d) holds.some (λ a i.
      let current = holds.candidates a i in
      record {
        container = current.container;
        young = current.young;
        expected = holds.expected d a ((base.core.known.account d).known a i) current;
      })

  pub finished_hold : (w : World) → Base S P w.log w.control → FinishedTargetsHoldTheBlock S w
  finished_hold w base m step left late done is d expected sound gone =
      (subst (Goes S (disks_by S w.log) (ledger w.control.round)) is base.goes).finished d expected sound gone
