-- The block of the last finished round, looked up in the journal and the log, is the one that the control state has:
-- there is no other.
use Rattle.std.proofs.Common.{◌≡◌, ◌<◌, true, false, List, sym, ◌∙◌, subst, arith, Some, None}
use Rattle.device_log.specs.Log.{Call}
use Rattle.array_model.specs.declared.journal.Entry.{Entry}
use Rattle.array_model.specs.Blocks.{Laid}
use Rattle.array_model.specs.Rounds.{IsFinished, IsFinishedBy, ended}
use Rattle.array_disks.proofs.Rounds.{round_known}
use Rattle.array_machine.specs.Setting.{Setting}
use Rattle.array_base.specs.Premises.{generation_of, Premises}
use Rattle.array_base.specs.Base.{Ledger, disks_by, Core}

module _ (S : Setting) (P : Premises S) (log : List Call) (journal : List Entry) (l : Ledger)
    (core : Core S P (disks_by S log) l) (m : Laid) (finished : IsFinished S.start log journal m) where
  -- before the first round has finished
  pub finished_first : l.first ≡ true → ended journal ≡ None → m ≡ l.last
  finished_first first none =
      let newest : m ≡ S.start.newest = subst (IsFinishedBy S.start log journal m) none finished in
      newest ∙ sym (core.generations.first first)

  -- and behind it: of containers' blocks known of one generation above the newest's there is one
  pub finished_later : l.first ≡ false → ended journal ≡ Some (generation_of S l.last) → m ≡ l.last
  finished_later later is = at (subst (IsFinishedBy S.start log journal m) is finished)
    where
      at : IsFinishedBy S.start log journal m (Some (generation_of S l.last)) → m ≡ l.last
      at (stamp, begun, round) =
          let known = round_known S.start log stamp (generation_of S l.last) m round in
          let last = core.hand.last_known in
          let above : generation_of S S.start.newest < generation_of S l.last = core.generations.above later in
          let equal = round.generation in
          (core.known.twins round.disk last.disk m l.last known last.there round.container core.hand.last.container
          equal).same (omega (arith, above, equal))
