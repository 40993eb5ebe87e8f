-- What rounds keep, in each world of each run.
use Rattle.std.proofs.Common.{ℕ, ◌≤◌, List, arith, Option}
use Rattle.device_log.specs.Log.{Call}
use Rattle.array_model.specs.Events.{AtEach}
use Rattle.array_model.specs.FailureLaw.{BeginKeeps}
use Rattle.array_machine.specs.Setting.{Setting}
use Rattle.array_machine.specs.Volumes.{Volume}
use Rattle.array_machine.specs.Rounds.{Ended}
use Rattle.array_machine.specs.Changes.{Change}
use Rattle.array_machine.specs.Puts.{put}
use Rattle.array_machine.specs.Machine.{World, Reached, begins_at, calls_after, log_after}
use Rattle.array_paths.specs.InTurn.{InTurn}
use Rattle.array_paths.specs.Effects.{after_effect}
use Rattle.array_base.specs.Premises.{generation_of, Premises}
use Rattle.array_base.specs.Opening.{Opening}
use Rattle.array_base.specs.Laws.{OverBase}
use Rattle.array_base.specs.Base.{disks_by}
use Rattle.array_base.proofs.Runs.{along_base, opens_with}
use Rattle.array_told.specs.Told.{Tells, Stamps}
use Rattle.array_told.proofs.Tells.{tells_effect, tells_open}
use Rattle.array_told.proofs.Stamps.{stamps_effect, stamps_open}
use Rattle.array_failures.specs.Members.{LastLeads}
use Rattle.array_failures.specs.Begun.{HasBegunAt}
use Rattle.array_failures.proofs.Leads.{leads_itself, leads_alike, leads_effect}
use Rattle.array_failures.proofs.Begun.{begun_effect, begins_keep}

module _ (S : Setting) (P : Premises S) where
  -- what each effect keeps
  record Keeps (w : World) : Type 0 where
    stamps : Stamps w
    told : Tells S w.control w.journal
    leads : LastLeads S (disks_by S w.log) w.control
    begun : AtEach (λ f e. HasBegunAt S (disks_by S w.log) w.control w.log f e.stamp e.event) w.journal

  keeps_effect : (t : InTurn) (w : World) (call : Option Call) (x : Ended) (a : Change) → OverBase S P t w call x a
      → Keeps w → Keeps (after_effect S w call a)
  keeps_effect t w call x a o k = record {
    stamps = stamps;
    told = tells_effect S t w.control call x a o.effect (calls_after w.calls call) w.journal k.told;
    leads = leads;
    begun = begun_effect S P t w call x a o k.stamps stamps k.told leads k.begun;
  }
    where
      stamps : Stamps (after_effect S w call a)
      stamps = stamps_effect S w call a k.stamps

      leads : LastLeads S (disks_by S (log_after w.log call)) (put S a w.control)
      leads = leads_effect S P t w call x a o k.leads

  module _ (volumes : List Volume) (spares : List ℕ) (opening : Opening S P volumes spares) where
    -- at opening, the newest block leads to each known one of its generation, as they say the same
    pub leads_open : LastLeads S (disks_by S (begins_at S volumes spares).log) (begins_at S volumes spares).control
    leads_open = record {
      of_book = leads_itself S _ S.start.newest;
      of_known = λ e a i container young.
          let core = (opens_with S P volumes spares opening).base.core in
          let most : generation_of S a ≤ generation_of S S.start.newest = core.known.noted e a i container in
          let last = core.hand.last_known in
          let twins = core.known.twins last.disk e S.start.newest a last.there i core.hand.last.container container
          (omega (arith, most, young)) in
          leads_alike S _ S.start.newest a twins.says;
    }

    keeps_open : Keeps (begins_at S volumes spares)
    keeps_open = record {
      stamps = stamps_open S volumes spares;
      told = tells_open S volumes spares (λ v. (opening.volumes_are v).state);
      leads = leads_open;
      begun = tt;
    }

    -- the law, of each round that begins
    pub rounds_keep : (w : World) → Reached S volumes spares w
        → AtEach (λ f e. BeginKeeps S.start w.log f e.stamp e.event) w.journal
    rounds_keep w run =
        let keeps = (along_base S P volumes spares opening (λ t w. Keeps w) (record {
          opens = λ who. keeps_open;
          begins = λ t w who k. k;
          step = λ t w call x a o k. keeps_effect t w call x a o k;
        }) w run).1 in
        begins_keep S w.log w.control w.journal keeps.begun
