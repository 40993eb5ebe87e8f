use Rattle.array_openings.proofs.RefusedSettings.{one_serial_refused, old_block_refused}
use Rattle.array_openings.proofs.worked.example_of_refused_settings.Goals as goal

pub returns : goal.returns
returns c = record { serials = one_serial_refused; old = old_block_refused }
