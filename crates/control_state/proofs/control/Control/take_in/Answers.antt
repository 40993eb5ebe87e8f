use Rattle.std.proofs.Common.{◌<◌, List, length, Some, ap, ◌∙◌, arith}
use Rattle.stage_machine.specs.Jobs as jobs
use Rattle.control_state.specs.Controls.{control_of}
use Rattle.control_state.specs.Seen.{clients_of}
use Rattle.control_state.specs.declared.client.Client.{Client}
use Rattle.control_state.specs.declared.job.JobStep.TheVariants.{Got}
use Rattle.control_state.proofs.Clients.{set_twice, taken_in}
use Rattle.control_state.proofs.control.Control.take_in.Goals as goal

pub returns : goal.returns
returns c = λ p.
    let cs = c.args.self.now.clients in
    let below : c.args.k < length cs = omega (arith, c.requires) in
    ap (λ (xs : List jobs.Client). record (control_of p c.args.self.now) { clients = xs })
    (ap (clients_of p) (set_twice cs c.args.k _ _ (λ (x : Client). record x { work = Some (record { op = c.args.op; step = Got }) }) below)
    ∙ taken_in p cs c.args.k _ c.args.read (Some (record { op = c.args.op; step = Got })) below)
