use Rattle.std.proofs.Common.{Bool, sym, subst}
use Rattle.std.specs.Prelude.{slice_index, if◌then◌else◌}
use Rattle.device_log.specs.Log.{Sync}
use Rattle.member_bank.specs.Told.{Logs}
use Rattle.control_state.specs.declared.round.Step.{Step}
use Rattle.control_state.specs.Book.{laid_at}
use Rattle.stage.specs.Asked.{asked_of}
use Rattle.stage.proofs.calls.round_call.Goals as goal

pub returns-in-Sync-clause-logs : goal.returns-in-Sync-clause-logs
returns-in-Sync-clause-logs g c =
    let told = g.B.Bank.log c.args.bank.now in
    let now = g.B.Bank.log c.sync.new.self in
    let disk = c.args.ask.disk.0 in
    let sectors = slice_index (g.B.Bank.sizes c.args.bank.now) disk in
    let went = c.is_ok-in-Sync.result in (
      0,
      subst (λ (s : Step). Logs told now (record { disk = disk; what = asked_of sectors (laid_at c.args.next.now.anchor) s (if went then 1 else 0); went = went })) (sym c.in-Sync.is)
          (subst (λ (b : Bool). Logs told now (record { disk = disk; what = Sync; went = b })) (sym c.is_ok-in-Sync.ensures.value) c.sync.ensures.logs),
    )
