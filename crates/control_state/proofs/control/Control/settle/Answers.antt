use Rattle.std.proofs.Common.{◌<◌, List, length, ap, arith}
use Rattle.stage_machine.specs.Jobs as jobs
use Rattle.control_state.specs.Controls.{control_of}
use Rattle.control_state.proofs.Clients.{read_kept, settled}
use Rattle.control_state.proofs.control.Control.settle.Goals as goal

pub returns-clause-job : goal.returns-clause-job
returns-clause-job c = λ p.
    let cs = c.args.self.now.clients in
    let below : c.args.k < length cs = omega (arith, c.requires) in
    ap (λ (xs : List jobs.Client). record (control_of p c.args.self.now) { clients = xs }) (settled p cs c.args.k _ c.args.work below)

pub returns-clause-read : goal.returns-clause-read
returns-clause-read c =
    let cs = c.args.self.now.clients in
    let below : c.args.k < length cs = omega (arith, c.requires) in
    read_kept cs c.args.k _ c.args.work below
