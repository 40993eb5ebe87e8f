use Rattle.std.proofs.Common.{◌<◌, List, length, ap, ◌∙◌, arith}
use Rattle.stage_machine.specs.Jobs as jobs
use Rattle.control_state.specs.Controls.{control_of}
use Rattle.control_state.specs.Seen.{clients_of}
use Rattle.control_state.specs.declared.client.Client.{Client}
use Rattle.control_state.proofs.Clients.{set_twice, submitted_at}
use Rattle.control_state.proofs.control.Control.submit_at.Goals as goal

pub returns : goal.returns
returns c = λ p.
    let cs = c.args.self.now.clients in
    let below : c.args.k < length cs = omega (arith, c.requires.client) in
    ap (λ (xs : List jobs.Client). record (control_of p c.args.self.now) { clients = xs })
    (ap (clients_of p) (set_twice cs c.args.k _ _ (λ (x : Client). record x { work = c.args.work }) below) ∙ submitted_at p cs c.args.k _ _ c.args.work below)
