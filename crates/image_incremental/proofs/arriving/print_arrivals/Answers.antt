use Rattle.std.proofs.Common.{◌∙◌}
use Rattle.image_outside.specs.Told.{bank_told}
use Rattle.image_outside.specs.Views.{sink_told}
use Rattle.image_incremental.proofs.Firsts.{ends_arrived}
use Rattle.image_incremental.proofs.arriving.print_arrivals.Goals as goal

pub returns-clause-ends : goal.returns-clause-ends
returns-clause-ends g c =
    ends_arrived (sink_told g.K.Sink c.args.sink.now) (sink_told g.K.Sink c.print_verdicts.new.sink) c.args.run (bank_told g.B.Bank c.arrive_all.new.bank) c.as_slice.result.now c.in-Ok.verdicts.items c.as_slice-2.result.now c.print_verdicts.result.0
    (c.as_slice.ensures.value ∙ c.serials_of-serials.ensures) c.as_slice-2.ensures.value c.in-Ok.ensures.arrives c.print_verdicts.ensures
