use Rattle.std.proofs.lemmas.Bool.{and_parts}
use Rattle.new_container.proofs.container.NewContainer.total_rows.Goals as goal

pub second_rows-requires : goal.second_rows-requires
second_rows-requires c = (and_parts _ _ c.requires).1
