use Rattle.std.proofs.Common.{ℕ, subst}
use Rattle.image_outside.specs.Endings.{Ends, Prints}
use Rattle.image_outside.specs.Views.{sink_told}
use Rattle.image_create.specs.Creates.{small_line}
use Rattle.image_create.proofs.creating.end_small.Goals as goal

pub returns : goal.returns
returns g c =
    let ends : ℕ → Type 0 =
    λ sectors. Ends (sink_told g.K.Sink c.args.sink.now) (sink_told g.K.Sink c.end_line.new.sink) (Prints (small_line c.serial-serial.result sectors) 3) c.end_line.result.0 in
    (c.serial-serial.result, c.serial-serial.ensures, subst ends c.sectors.ensures c.end_line.ensures)
