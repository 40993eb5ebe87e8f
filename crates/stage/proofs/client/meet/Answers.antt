use Rattle.std.proofs.Common.{◌≡◌, ℕ, ◌+◌, Bool, true, false, [], ◌∷◌, drop, refl, sym, ap, subst, ◌∙◌, arith}
use Rattle.std.specs.Prelude.{is_ok, if◌then◌else◌}
use Rattle.device_log.specs.Log.{Read, Write, Sync}
use Rattle.member_bank.specs.Told.{Logs, Gives}
use Rattle.array_model.specs.Script.{sector_of}
use Rattle.array_model.specs.declared.journal.Answer.TheVariants.{Done, Value}
use Rattle.stage_machine.specs.Jobs as jobs
use Rattle.stage_machine.specs.Jobs.{client_at, row_at, value_at, Busy, NoNeed, Reads, Writes, Syncs, Answers}
use Rattle.stage_machine.specs.Machine.{put_client}
use Rattle.control_state.specs.Events.{read_of}
use Rattle.control_state.specs.Seen.{plan_setting, numbers, step_of, need_of}
use Rattle.control_state.specs.Controls.{control_of, out_of, failed_of}
use Rattle.stage.proofs.Same.{after_write_same}
use Rattle.control_state.specs.declared.event.Events.TheVariants.{Zero}
use Rattle.stage.proofs.Asking.{needed_has, row_below, met_none, met_some}
use Rattle.stage.proofs.client.meet.Goals as goal

pub read_row-requires-clause-disk : goal.read_row-requires-clause-disk
read_row-requires-clause-disk g c = (c.requires.fits.members_there c.in-Read.disk.0 (needed_has c.args.plan.now (control_of c.args.plan.now c.args.control.now) c.args.k (read_of c.args.control.now.clients c.args.k) c.args.work.now.op c.in-Read.disk.0 c.args.work.now.step (Reads c.in-Read.disk.0) (sym (ap (need_of (numbers c.args.plan.now.members.items) (read_of c.args.control.now.clients c.args.k)) c.in-Read.is) ∙ c.need.ensures (read_of c.args.control.now.clients c.args.k)) refl)).0

pub read_row-requires-clause-room : goal.read_row-requires-clause-room
read_row-requires-clause-room g c =
    let row = row_below c.args.plan.now c.args.work.now.op c.requires.fits.some in
    let room = (c.requires.fits.members_there c.in-Read.disk.0 (needed_has c.args.plan.now (control_of c.args.plan.now c.args.control.now) c.args.k (read_of c.args.control.now.clients c.args.k) c.args.work.now.op c.in-Read.disk.0 c.args.work.now.step (Reads c.in-Read.disk.0) (sym (ap (need_of (numbers c.args.plan.now.members.items) (read_of c.args.control.now.clients c.args.k)) c.in-Read.is) ∙ c.need.ensures (read_of c.args.control.now.clients c.args.k)) refl)).1 in
    omega (arith, row, room)

pub read_row-requires-clause-fits : goal.read_row-requires-clause-fits
read_row-requires-clause-fits g c =
    let row = row_below c.args.plan.now c.args.work.now.op c.requires.fits.some in
    let below = c.requires.fits.below in
    omega (arith, row, below)

pub write_row-requires-clause-disk : goal.write_row-requires-clause-disk
write_row-requires-clause-disk g c = (c.requires.fits.members_there c.in-Write.disk.0 (needed_has c.args.plan.now (control_of c.args.plan.now c.args.control.now) c.args.k (read_of c.args.control.now.clients c.args.k) c.args.work.now.op c.in-Write.disk.0 c.args.work.now.step (Writes c.in-Write.disk.0 (drop c.in-Write.rest (numbers c.args.plan.now.members.items))) (sym (ap (need_of (numbers c.args.plan.now.members.items) (read_of c.args.control.now.clients c.args.k)) c.in-Write.is) ∙ c.need.ensures (read_of c.args.control.now.clients c.args.k)) refl)).0

pub write_row-requires-clause-room : goal.write_row-requires-clause-room
write_row-requires-clause-room g c =
    let row = row_below c.args.plan.now c.args.work.now.op c.requires.fits.some in
    let room = (c.requires.fits.members_there c.in-Write.disk.0 (needed_has c.args.plan.now (control_of c.args.plan.now c.args.control.now) c.args.k (read_of c.args.control.now.clients c.args.k) c.args.work.now.op c.in-Write.disk.0 c.args.work.now.step (Writes c.in-Write.disk.0 (drop c.in-Write.rest (numbers c.args.plan.now.members.items))) (sym (ap (need_of (numbers c.args.plan.now.members.items) (read_of c.args.control.now.clients c.args.k)) c.in-Write.is) ∙ c.need.ensures (read_of c.args.control.now.clients c.args.k)) refl)).1 in
    omega (arith, row, room)

pub write_row-requires-clause-fits : goal.write_row-requires-clause-fits
write_row-requires-clause-fits g c =
    let row = row_below c.args.plan.now c.args.work.now.op c.requires.fits.some in
    let below = c.requires.fits.below in
    omega (arith, row, below)

pub sync-requires : goal.sync-requires
sync-requires g c = (c.requires.fits.members_there c.in-Sync.disk.0 (needed_has c.args.plan.now (control_of c.args.plan.now c.args.control.now) c.args.k (read_of c.args.control.now.clients c.args.k) c.args.work.now.op c.in-Sync.disk.0 c.args.work.now.step (Syncs c.in-Sync.disk.0 (drop c.in-Sync.rest (numbers c.args.plan.now.members.items))) (sym (ap (need_of (numbers c.args.plan.now.members.items) (read_of c.args.control.now.clients c.args.k)) c.in-Sync.is) ∙ c.need.ensures (read_of c.args.control.now.clients c.args.k)) refl)).0

pub returns-in-Nothing-clause-made : goal.returns-in-Nothing-clause-made
returns-in-Nothing-clause-made g c = λ newest.
    let p = c.args.plan.now in
    let sizes = g.B.Bank.sizes c.args.bank.now in
    let told = g.B.Bank.log c.args.bank.now in
    let C = control_of p c.args.control.now in
    let members = numbers p.members.items in (
      record { went = true; stored = 0 },
      sector_of 0,
      met_none p newest sizes told C c.args.calls.now c.args.k (record { went = true; stored = 0 }) (sector_of 0) c.args.work.now.op (step_of members (read_of c.args.control.now.clients c.args.k) c.args.work.now.step) (NoNeed) (out_of p c.args.control.now Zero) (ap failed_of c.requires.live) c.requires.job
          (sym (ap (need_of (numbers c.args.plan.now.members.items) (read_of c.args.control.now.clients c.args.k)) c.in-Nothing.is) ∙ c.need.ensures (read_of c.args.control.now.clients c.args.k)) refl (refl) (g.B.Bank.opening c.args.bank.now),
    )

pub returns-in-Done-clause-made : goal.returns-in-Done-clause-made
returns-in-Done-clause-made g c = λ newest.
    let p = c.args.plan.now in
    let sizes = g.B.Bank.sizes c.args.bank.now in
    let told = g.B.Bank.log c.args.bank.now in
    let C = control_of p c.args.control.now in
    let members = numbers p.members.items in (
      record { went = true; stored = 0 },
      sector_of 0,
      met_none p newest sizes told C c.args.calls.now c.args.k (record { went = true; stored = 0 }) (sector_of 0) c.args.work.now.op (step_of members (read_of c.args.control.now.clients c.args.k) c.args.work.now.step) (Answers Done) (out_of p c.answer.new.self c.answer.result) (ap failed_of c.requires.live) c.requires.job
          (sym (ap (need_of (numbers c.args.plan.now.members.items) (read_of c.args.control.now.clients c.args.k)) c.in-Done.is) ∙ c.need.ensures (read_of c.args.control.now.clients c.args.k)) refl (c.answer.ensures p) (g.B.Bank.opening c.args.bank.now),
    )

pub returns-in-Value-clause-made : goal.returns-in-Value-clause-made
returns-in-Value-clause-made g c = λ newest.
    let p = c.args.plan.now in
    let sizes = g.B.Bank.sizes c.args.bank.now in
    let told = g.B.Bank.log c.args.bank.now in
    let C = control_of p c.args.control.now in
    let members = numbers p.members.items in (
      record { went = true; stored = 0 },
      sector_of 0,
      met_none p newest sizes told C c.args.calls.now c.args.k (record { went = true; stored = 0 }) (sector_of 0) c.args.work.now.op (step_of members (read_of c.args.control.now.clients c.args.k) c.args.work.now.step) (Answers (Value (read_of c.args.control.now.clients c.args.k))) (out_of p c.give.new.self c.give.result) (ap failed_of c.requires.live) c.requires.job
          (sym (ap (need_of (numbers c.args.plan.now.members.items) (read_of c.args.control.now.clients c.args.k)) c.in-Value.is) ∙ c.need.ensures (read_of c.args.control.now.clients c.args.k)) refl (c.give.ensures p) (g.B.Bank.opening c.args.bank.now),
    )

pub returns-in-Ok-clause-made : goal.returns-in-Ok-clause-made
returns-in-Ok-clause-made g c = λ newest.
    let p = c.args.plan.now in
    let sizes = g.B.Bank.sizes c.args.bank.now in
    let told = g.B.Bank.log c.args.bank.now in
    let C = control_of p c.args.control.now in
    let members = numbers p.members.items in
    let now = g.B.Bank.log c.read_row.new.bank in (
      record { went = true; stored = 0 },
      c.in-Ok.read,
      met_some p newest sizes told now C c.args.calls.now c.args.k (record { went = true; stored = 0 }) c.in-Ok.read c.args.work.now.op (step_of members (read_of c.args.control.now.clients c.args.k) c.args.work.now.step) (Reads c.in-Read.disk.0) (out_of p c.take_in.new.control c.take_in.result) (record { disk = c.in-Read.disk.0; what = Read (p.pba + row_at (plan_setting p) c.args.work.now.op); went = true }) (ap failed_of c.requires.live) c.requires.job
          (sym (ap (need_of (numbers c.args.plan.now.members.items) (read_of c.args.control.now.clients c.args.k)) c.in-Read.is) ∙ c.need.ensures (read_of c.args.control.now.clients c.args.k)) refl (c.take_in.ensures p)
          (subst (λ (b : Bool). Logs told now (record { disk = c.in-Read.disk.0; what = Read (p.pba + row_at (plan_setting p) c.args.work.now.op); went = b })) (ap is_ok c.in-Ok.is) c.read_row.ensures.logs)
          (g.B.Bank.opening c.read_row.new.bank)
          (λ place read went. let same : p.pba + row_at (plan_setting p) c.args.work.now.op ≡ place = cc read in subst (λ (z : ℕ). Gives (g.B.Bank.opening c.read_row.new.bank) now c.in-Read.disk.0 z c.in-Ok.read) same c.in-Ok.ensures.gives),
    )

pub returns-in-Err-clause-made : goal.returns-in-Err-clause-made
returns-in-Err-clause-made g c = λ newest.
    let p = c.args.plan.now in
    let sizes = g.B.Bank.sizes c.args.bank.now in
    let told = g.B.Bank.log c.args.bank.now in
    let C = control_of p c.args.control.now in
    let members = numbers p.members.items in
    let now = g.B.Bank.log c.read_row.new.bank in (
      record { went = false; stored = 0 },
      sector_of 0,
      met_some p newest sizes told now C c.args.calls.now c.args.k (record { went = false; stored = 0 }) (sector_of 0) c.args.work.now.op (step_of members (read_of c.args.control.now.clients c.args.k) c.args.work.now.step) (Reads c.in-Read.disk.0) (out_of p c.drop_disk.new.control c.drop_disk.result) (record { disk = c.in-Read.disk.0; what = Read (p.pba + row_at (plan_setting p) c.args.work.now.op); went = false }) (ap failed_of c.requires.live) c.requires.job
          (sym (ap (need_of (numbers c.args.plan.now.members.items) (read_of c.args.control.now.clients c.args.k)) c.in-Read.is) ∙ c.need.ensures (read_of c.args.control.now.clients c.args.k)) refl (c.drop_disk.ensures p)
          (subst (λ (b : Bool). Logs told now (record { disk = c.in-Read.disk.0; what = Read (p.pba + row_at (plan_setting p) c.args.work.now.op); went = b })) (ap is_ok c.in-Err.is) c.read_row.ensures.logs) (g.B.Bank.opening c.read_row.new.bank) (λ place read went. absurd (cc went)),
    )

pub returns-then-write_row-clause-made : goal.returns-then-write_row-clause-made
returns-then-write_row-clause-made g c = λ newest.
    let p = c.args.plan.now in
    let sizes = g.B.Bank.sizes c.args.bank.now in
    let told = g.B.Bank.log c.args.bank.now in
    let C = control_of p c.args.control.now in
    let members = numbers p.members.items in
    let now = g.B.Bank.log c.write_row.new.bank in (
      record { went = true; stored = c.write_row.ensures.logs.0 },
      sector_of 0,
      met_some p newest sizes told now C c.args.calls.now c.args.k (record { went = true; stored = c.write_row.ensures.logs.0 }) (sector_of 0) c.args.work.now.op (step_of members (read_of c.args.control.now.clients c.args.k) c.args.work.now.step) (Writes c.in-Write.disk.0 (drop c.in-Write.rest members)) (out_of p c.step_to.new.control c.step_to.result) (record { disk = c.in-Write.disk.0; what = Write (p.pba + row_at (plan_setting p) c.args.work.now.op) (value_at (plan_setting p) c.args.work.now.op ∷ []) (1); went = true }) (ap failed_of c.requires.live) c.requires.job
          (sym (ap (need_of (numbers c.args.plan.now.members.items) (read_of c.args.control.now.clients c.args.k)) c.in-Write.is) ∙ c.need.ensures (read_of c.args.control.now.clients c.args.k)) refl (c.step_to.ensures p ∙ ap (λ (s : jobs.JobStep). record { next = put_client C c.args.k (client_at C.clients c.args.k).left (Busy c.args.work.now.op s); events = [] }) (c.after_write.ensures (read_of c.args.control.now.clients c.args.k) ∙ after_write_same p newest sizes (drop c.in-Write.rest members)))
          (subst (λ (b : Bool). Logs told now (record { disk = c.in-Write.disk.0; what = Write (p.pba + row_at (plan_setting p) c.args.work.now.op) (value_at (plan_setting p) c.args.work.now.op ∷ []) (if b then 1 else c.write_row.ensures.logs.0); went = b })) c.if-write_row.true c.write_row.ensures.logs.1) (g.B.Bank.opening c.write_row.new.bank) (λ place read went. absurd (cc read)),
    )

pub returns-else-write_row-clause-made : goal.returns-else-write_row-clause-made
returns-else-write_row-clause-made g c = λ newest.
    let p = c.args.plan.now in
    let sizes = g.B.Bank.sizes c.args.bank.now in
    let told = g.B.Bank.log c.args.bank.now in
    let C = control_of p c.args.control.now in
    let members = numbers p.members.items in
    let now = g.B.Bank.log c.write_row.new.bank in (
      record { went = false; stored = c.write_row.ensures.logs.0 },
      sector_of 0,
      met_some p newest sizes told now C c.args.calls.now c.args.k (record { went = false; stored = c.write_row.ensures.logs.0 }) (sector_of 0) c.args.work.now.op (step_of members (read_of c.args.control.now.clients c.args.k) c.args.work.now.step) (Writes c.in-Write.disk.0 (drop c.in-Write.rest members)) (out_of p c.drop_disk-else-write_row.new.control c.drop_disk-else-write_row.result) (record { disk = c.in-Write.disk.0; what = Write (p.pba + row_at (plan_setting p) c.args.work.now.op) (value_at (plan_setting p) c.args.work.now.op ∷ []) (c.write_row.ensures.logs.0); went = false }) (ap failed_of c.requires.live) c.requires.job
          (sym (ap (need_of (numbers c.args.plan.now.members.items) (read_of c.args.control.now.clients c.args.k)) c.in-Write.is) ∙ c.need.ensures (read_of c.args.control.now.clients c.args.k)) refl (c.drop_disk-else-write_row.ensures p)
          (subst (λ (b : Bool). Logs told now (record { disk = c.in-Write.disk.0; what = Write (p.pba + row_at (plan_setting p) c.args.work.now.op) (value_at (plan_setting p) c.args.work.now.op ∷ []) (if b then 1 else c.write_row.ensures.logs.0); went = b })) c.if-write_row.false c.write_row.ensures.logs.1) (g.B.Bank.opening c.write_row.new.bank) (λ place read went. absurd (cc read)),
    )

pub returns-in-Ok-sync-clause-made : goal.returns-in-Ok-sync-clause-made
returns-in-Ok-sync-clause-made g c = λ newest.
    let p = c.args.plan.now in
    let sizes = g.B.Bank.sizes c.args.bank.now in
    let told = g.B.Bank.log c.args.bank.now in
    let C = control_of p c.args.control.now in
    let members = numbers p.members.items in
    let now = g.B.Bank.log c.sync.new.self in (
      record { went = true; stored = 0 },
      sector_of 0,
      met_some p newest sizes told now C c.args.calls.now c.args.k (record { went = true; stored = 0 }) (sector_of 0) c.args.work.now.op (step_of members (read_of c.args.control.now.clients c.args.k) c.args.work.now.step) (Syncs c.in-Sync.disk.0 (drop c.in-Sync.rest members)) (out_of p c.step_to-in-Ok-sync.new.control c.step_to-in-Ok-sync.result) (record { disk = c.in-Sync.disk.0; what = Sync; went = true }) (ap failed_of c.requires.live) c.requires.job
          (sym (ap (need_of (numbers c.args.plan.now.members.items) (read_of c.args.control.now.clients c.args.k)) c.in-Sync.is) ∙ c.need.ensures (read_of c.args.control.now.clients c.args.k)) refl (c.step_to-in-Ok-sync.ensures p ∙ ap (λ (s : jobs.JobStep). record { next = put_client C c.args.k (client_at C.clients c.args.k).left (Busy c.args.work.now.op s); events = [] }) (c.after_sync.ensures (read_of c.args.control.now.clients c.args.k)))
          (subst (λ (b : Bool). Logs told now (record { disk = c.in-Sync.disk.0; what = Sync; went = b })) (ap is_ok c.in-Ok-sync.is) c.sync.ensures.logs) (g.B.Bank.opening c.sync.new.self) (λ place read went. absurd (cc read)),
    )

pub returns-in-Err-sync-clause-made : goal.returns-in-Err-sync-clause-made
returns-in-Err-sync-clause-made g c = λ newest.
    let p = c.args.plan.now in
    let sizes = g.B.Bank.sizes c.args.bank.now in
    let told = g.B.Bank.log c.args.bank.now in
    let C = control_of p c.args.control.now in
    let members = numbers p.members.items in
    let now = g.B.Bank.log c.sync.new.self in (
      record { went = false; stored = 0 },
      sector_of 0,
      met_some p newest sizes told now C c.args.calls.now c.args.k (record { went = false; stored = 0 }) (sector_of 0) c.args.work.now.op (step_of members (read_of c.args.control.now.clients c.args.k) c.args.work.now.step) (Syncs c.in-Sync.disk.0 (drop c.in-Sync.rest members)) (out_of p c.drop_disk-in-Err-sync.new.control c.drop_disk-in-Err-sync.result) (record { disk = c.in-Sync.disk.0; what = Sync; went = false }) (ap failed_of c.requires.live) c.requires.job
          (sym (ap (need_of (numbers c.args.plan.now.members.items) (read_of c.args.control.now.clients c.args.k)) c.in-Sync.is) ∙ c.need.ensures (read_of c.args.control.now.clients c.args.k)) refl (c.drop_disk-in-Err-sync.ensures p)
          (subst (λ (b : Bool). Logs told now (record { disk = c.in-Sync.disk.0; what = Sync; went = b })) (ap is_ok c.in-Err-sync.is) c.sync.ensures.logs) (g.B.Bank.opening c.sync.new.self) (λ place read went. absurd (cc read)),
    )
